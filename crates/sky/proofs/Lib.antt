-- Laws of what a host sees: the kinds, and that a packed answer comes apart again.
pub mod KindRanges
pub mod OneKind
pub mod Unpacked
