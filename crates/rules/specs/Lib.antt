-- The tick rules of document 01 in its own words: jobs, the state, steps A to D (B first, since A makes an offer as in B), a
-- tick, the run, its result, and the small runs. They rest on the library's numbers and lists alone.
pub mod Choose
pub mod Job
pub mod State
pub mod Picks
pub mod Announce
pub mod Finish
pub mod LatestStarts
pub mod Give
pub mod Run
pub mod Result
pub mod SmallRuns
pub mod FurtherRuns
