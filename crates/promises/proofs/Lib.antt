-- Why the demands hold, heading by heading. Main proves all that specs/Demands promises; every other module gives one step of
-- the argument, rests on modules named above it, and says on which it mainly rests.

-- The terms of the demands, tried by computation.
pub mod SmallPlans
pub mod FourIsNeeded
-- What holds at every point of every run: of rows, the stack, held value and room; and how a later fact is shown to hold so.
pub mod Rows
pub mod Sums
pub mod RowNumbers
pub mod Stack
pub mod Steps
pub mod Wf
pub mod WfKept
pub mod WfGiven
pub mod WithinTick
pub mod Fuel
pub mod Always
pub mod Room
pub mod Carried
-- The end: a list's rows are announced in order, the run ends, and from there on nothing changes.
pub mod Jobs
pub mod Announced
pub mod End
pub mod Ended
pub mod Listed
-- Stretches: in order, and never more than three times the rows.
pub mod Stretches
pub mod StretchCount
-- Plans: their ticks, and the counting lemma.
pub mod Ticks
pub mod Counting
pub mod Earning
-- Demand 3, first half: the plan's side, then the run's, then both.
pub mod FirstHalf
pub mod Reach
pub mod Books
pub mod Ledger
pub mod Windows
pub mod FourTimes
-- Demand 3, second half: the plan's side, then the run's, then both.
pub mod SecondHalf
pub mod Served
pub mod EarliestFirst
pub mod AllFinished
-- On time: the run as a plan, and its value.
pub mod OnTime
pub mod Value
-- What the result shows, that document 01's own picks are lawful, and the demands.
pub mod Shown
pub mod Document
pub mod Main
