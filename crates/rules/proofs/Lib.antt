-- What is proved of the rules in this crate: the small runs of document 01, by computation alone, and how a choice is
-- taken apart.
pub mod Choose
pub mod Computed
pub mod SmallRuns
