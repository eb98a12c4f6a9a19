-- What a host sees beyond the calls themselves: the answer as one number, and the kind of a refusal.
pub mod Packed
pub mod Kind
