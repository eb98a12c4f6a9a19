-- A job, which is one tile, and what makes a list of jobs proper. Every number is whole; a job's value is its cost.
use Rattle.std.specs.Prelude.{ℕ, ◌+◌, ◌≤◌, List, [], ◌∷◌}

-- A job may run in ticks release to deadline - 1, and takes cost of them.
pub record Job : Type 0 where
  pub name : ℕ
  pub release : ℕ
  pub cost : ℕ
  pub deadline : ℕ

-- A job that alone could be finished: it costs something, and its window is long enough.
pub record Feasible (j : Job) : Type 0 where
  pub costly : 1 ≤ j.cost
  pub fits : j.release + j.cost ≤ j.deadline

-- Every job from here on is feasible, and no release is before the one before it, nor before `since`.
abbrev pub ProperFrom : ℕ → List Job → Type 0
ProperFrom since [] = Unit {0}
ProperFrom since (j ∷ js) = (since ≤ j.release) × Feasible j × ProperFrom j.release js

-- What the rules ask of a list of jobs. No limit on rows, names or deadlines is needed.
abbrev pub Proper : List Job → Type 0
Proper jobs = ProperFrom 0 jobs
