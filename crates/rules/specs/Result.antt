-- What a result shows of a run: the value, what became of each row and when, its ticks given, and the stretches in time
-- order. Rests on State and Run.
use Rattle.std.specs.Prelude.{ℕ, ◌+◌, List, [], ◌∷◌, map, reverse}
use Rattle.rules.specs.Job.{Job}
use Rattle.rules.specs.State.{Fate, waiting, taken, finished, dropped, Row, Stretch, State, row_of, given}
use Rattle.rules.specs.Picks.{Picks}
use Rattle.rules.specs.Run.{run}

-- A row's outcome is 1 where it finished and 2 where it was dropped. At the end of a proper list's run every row has one of
-- these (proved in `promises`, End).
unfoldable pub outcome_number : Fate → ℕ
outcome_number waiting = 0
outcome_number taken = 0
outcome_number (finished t) = 1
outcome_number (dropped t) = 2

-- The tick at which it finished or was dropped.
unfoldable pub outcome_tick : Fate → ℕ
outcome_tick waiting = 0
outcome_tick taken = 0
outcome_tick (finished t) = t
outcome_tick (dropped t) = t

-- The value that a row brings: its cost if it finished.
unfoldable pub value_of : Fate → Job → ℕ
value_of waiting j = 0
value_of taken j = 0
value_of (finished t) j = j.cost
value_of (dropped t) j = 0

-- Value is the sum of the finished jobs' costs.
unfoldable pub value_of_rows : List Row → ℕ
value_of_rows [] = 0
value_of_rows (r ∷ rest) = value_of r.fate r.job + value_of_rows rest

pub record Outcome : Type 0 where
  pub name : ℕ
  pub outcome : ℕ
  pub tick : ℕ
  pub given : ℕ

pub record Span : Type 0 where
  pub name : ℕ
  pub first : ℕ
  pub after : ℕ

pub record Result : Type 0 where
  pub value : ℕ
  pub outcomes : List Outcome
  pub spans : List Span

unfoldable pub row_outcome : Row → Outcome
row_outcome r =
    record { name = r.job.name; outcome = outcome_number r.fate; tick = outcome_tick r.fate; given = given r }

-- A stretch, with the name of its row.
unfoldable pub span_of : State → Stretch → Span
span_of s x = record { name = (row_of s x.row).job.name; first = x.first; after = x.after }

-- The rows in the order of their announcement, which is a proper list's order, and the stretches in time order.
unfoldable pub result_of : State → Result
result_of s =
    record { value = value_of_rows s.rows; outcomes = map row_outcome s.rows; spans = map (span_of s) (reverse s.stretches) }

-- The result of a list's run.
unfoldable pub run_result : Picks → List Job → Result
run_result p jobs = result_of (run p jobs).state
