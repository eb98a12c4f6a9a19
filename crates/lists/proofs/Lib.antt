-- Why the promises hold of bytes.
pub mod Refused
pub mod Main
