-- Small plans: a list, a plan for it, what the plan earns, the value of the list's run with document 01's picks, and the list's
-- bound. Each tells the terms of the demands from some wrong reading. That the numbers come out so is proved in proofs/SmallPlans.
-- Rests on Plan and the rules' small runs.
use Rattle.std.specs.Prelude.{ℕ, List, [], ◌∷◌, ltb}
use Rattle.std.proofs.Math.Option.{none, some}
use Rattle.rules.specs.Choose.{choose}
use Rattle.rules.specs.Job.{Job}
use Rattle.rules.specs.SmallRuns.{job, r1, r3, r7}
use Rattle.promises.specs.Plan.{Plan}

-- Ticks not yet planned, up to before this tick, go to this row.
pub record Share : Type 0 where
  pub before : ℕ
  pub row : ℕ

abbrev pub up_to : ℕ → ℕ → Share
up_to b i = record { before = b; row = i }

-- The plan that goes through the shares in order.
unfoldable pub in_shares : List Share → Plan
in_shares [] s = none
in_shares (x ∷ xs) s =
    let on = in_shares xs s in
    choose (ltb s x.before) (some x.row) on

pub record SmallPlan : Type 0 where
  pub jobs : List Job
  pub plan : Plan
  pub earned : ℕ
  pub value : ℕ
  pub bound : ℕ

abbrev pub small_plan : List Job → Plan → ℕ → ℕ → ℕ → SmallPlan
small_plan js q e v b = record { jobs = js; plan = q; earned = e; value = v; bound = b }

-- A tick before the release does not count: job 2 of R1 gets ticks 0 and 1, and is released at 1.
abbrev pub too_soon : SmallPlan
too_soon = small_plan r1.jobs (in_shares (up_to 2 1 ∷ up_to 6 0 ∷ [])) 4 6 12

-- Nor does one from the deadline on: here it gets ticks 4 and 5, and its deadline is 5.
abbrev pub too_late : SmallPlan
too_late = small_plan r1.jobs (in_shares (up_to 4 0 ∷ up_to 6 1 ∷ [])) 4 6 12

-- The last tick before the deadline does: both jobs of R7. This plan earns its list's bound, so no plan earns more.
abbrev pub last_tick : SmallPlan
last_tick = small_plan r7.jobs (in_shares (up_to 3 0 ∷ up_to 5 1 ∷ [])) 5 5 5

-- Ticks beyond the cost earn nothing more: job 2 of R3 costs 7 and gets 8 in time.
abbrev pub too_many : SmallPlan
too_many = small_plan r3.jobs (in_shares (up_to 9 1 ∷ [])) 7 4 13

-- A plan that earns its list's bound: the run finishes job 1 at its deadline and job 3 early, and drops the others. Without the cost
-- of the early job, or without the ticks below the reach that nobody is given, the bound would be too low.
abbrev pub outdone : SmallPlan
outdone =
    small_plan (job 1 0 3 3 ∷ job 2 0 2 2 ∷ job 3 0 2 20 ∷ job 4 2 6 8 ∷ []) (in_shares (up_to 2 1 ∷ up_to 8 3 ∷ up_to 10 2 ∷ [])) 10 5 10

-- A plan that earns more than 3 × the value of the run, and its list's bound: job 3 takes over from job 1, and only it is finished.
abbrev pub thrice : SmallPlan
thrice =
    small_plan (job 1 0 3 3 ∷ job 2 0 2 2 ∷ job 3 2 7 9 ∷ job 4 2 6 8 ∷ job 5 8 14 22 ∷ []) (in_shares (up_to 2 1 ∷ up_to 8 3 ∷ up_to 22 4 ∷ [])) 22 7 22

abbrev pub small_plans : List SmallPlan
small_plans = too_soon ∷ too_late ∷ last_tick ∷ too_many ∷ outdone ∷ thrice ∷ []
