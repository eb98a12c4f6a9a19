-- What any plan earns at most, as a number that a run itself shows: the costs of the rows that it finished before their
-- deadline, and its counted ticks. That no plan earns more, and that this is at most 4 × value, is proved in proofs/FourTimes.
-- Rests on RunPlan and the tick rules.
use Rattle.std.specs.Prelude.{ℕ, zero, suc, ◌+◌, max, List, [], ◌∷◌, Bool, true, false, ltb}
use Rattle.rules.specs.Choose.{choose}
use Rattle.rules.specs.Job.{Job}
use Rattle.rules.specs.State.{Fate, Row, Proc, waiting, taken, finished, dropped, idle, running}
use Rattle.rules.specs.Picks.{Picks}
use Rattle.rules.specs.Run.{released_at, greatest_deadline, run}
use Rattle.promises.specs.RunPlan.{decided_at}

-- The deadline of a dropped row, else 0.
unfoldable pub dropped_deadline : Fate → Job → ℕ
dropped_deadline waiting j = 0
dropped_deadline taken j = 0
dropped_deadline (finished u) j = 0
dropped_deadline (dropped u) j = j.deadline

-- Reach is the greatest deadline of a row dropped so far, 0 if none is.
unfoldable pub reach : List Row → ℕ
reach [] = 0
reach (r ∷ rows) = max (dropped_deadline r.fate r.job) (reach rows)

-- The test whether tick s is counted, by the processor and the rows after C of tick s: it is given to a job, or it is below
-- the reach.
unfoldable pub counts : ℕ → Proc → List Row → Bool
counts s idle rows = ltb s (reach rows)
counts s (running r) rows = true

-- The test whether tick s of a run is counted, for any announcements.
unfoldable pub counted : Picks → (ℕ → List Job) → ℕ → Bool
counted p released s = counts s (decided_at p released s).proc (decided_at p released s).rows

-- How many of the n ticks from a on pass a test.
unfoldable pub count_from : (ℕ → Bool) → ℕ → ℕ → ℕ
count_from u a zero = 0
count_from u a (suc n) = count_from u a n + choose (u (a + n)) 1 0

-- How many of the ticks below n pass a test.
abbrev pub count : (ℕ → Bool) → ℕ → ℕ
count u n = count_from u 0 n

-- The test whether a row finished before its deadline.
unfoldable pub is_early : Fate → Job → Bool
is_early waiting j = false
is_early taken j = false
is_early (finished u) j = ltb u j.deadline
is_early (dropped u) j = false

-- The sum of the costs of the rows that finished before their deadline.
unfoldable pub early_value : List Row → ℕ
early_value [] = 0
early_value (r ∷ rows) = choose (is_early r.fate r.job) r.job.cost 0 + early_value rows

-- What no plan exceeds with a list: the run's early value, and its counted ticks below the greatest deadline.
unfoldable pub bound : Picks → List Job → ℕ
bound p jobs = early_value (run p jobs).state.rows + count (counted p (released_at jobs)) (greatest_deadline jobs)
