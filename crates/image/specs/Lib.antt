-- List images as document 01 lays them out: the rows, the refusals in their order, and what each call answers and leaves.
-- They rest on the fields' bytes and on the rules' jobs.
pub mod Rows
pub mod Refusals
pub mod Calls
pub mod Accepted
pub mod Numbering
