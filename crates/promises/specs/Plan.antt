-- A plan, even one that knows the future, and what it earns. Rests on Job.
use Rattle.std.specs.Prelude.{ℕ, zero, suc, ◌+◌, ◌-◌, List, [], ◌∷◌, leb, eqb, get_or}
use Rattle.std.proofs.Math.Option.{Option, none, some}
use Rattle.rules.specs.Choose.{choose}
use Rattle.rules.specs.Job.{Job}
use Rattle.rules.specs.State.{no_row}

-- The job of row i of a list, rows counting from 0; where there is none, one of no cost and without a window.
abbrev pub job_of : List Job → ℕ → Job
job_of jobs i = get_or jobs i no_row.job

-- A plan gives each tick to at most one row.
abbrev pub Plan : Type 0
Plan = ℕ → Option ℕ

-- 1 if the tick goes to row i, else 0.
unfoldable pub goes_to : ℕ → Option ℕ → ℕ
goes_to i none = 0
goes_to i (some j) = choose (eqb j i) 1 0

-- How many of the n ticks from a on the plan gives to row i.
unfoldable pub ticks : Plan → ℕ → ℕ → ℕ → ℕ
ticks q i a zero = 0
ticks q i a (suc n) = ticks q i a n + goes_to i (q (a + n))

-- The ticks that the plan gives to row i, whose job is j, from its release to before its deadline.
abbrev pub ticks_in_time : Plan → ℕ → Job → ℕ
ticks_in_time q i j = ticks q i j.release (j.deadline - j.release)

-- A row earns its cost if it gets at least that many ticks in time.
unfoldable pub earns_row : Plan → ℕ → Job → ℕ
earns_row q i j = choose (leb j.cost (ticks_in_time q i j)) j.cost 0

-- What the plan earns with the jobs of a list whose first row is numbered i.
unfoldable pub earns_from : Plan → ℕ → List Job → ℕ
earns_from q i [] = 0
earns_from q i (j ∷ js) = earns_row q i j + earns_from q (suc i) js

-- What the plan earns with a list.
abbrev pub earns : Plan → List Job → ℕ
earns q jobs = earns_from q 0 jobs

-- The sum of all costs: what a plan earns that finishes every row.
unfoldable pub all_costs : List Job → ℕ
all_costs [] = 0
all_costs (j ∷ js) = j.cost + all_costs js
