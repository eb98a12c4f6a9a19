-- What a plan earns with a row: no more than its cost, nor than its ticks in time. So a plan that earns all costs gives every
-- row its cost in time. Rests on Plan.
use Prim.Native.Nat.{ℕ, zero, suc, ◌+◌, ◌≤◌, zero-le}
use mathlib.Core.List.{List, [], ◌∷◌}
use mathlib.Core.Path.{◌≡◌}
use native.Mathlib.Nat.{add-zero, add-suc, suc-add}
use native.Mathlib.Omega.{arith}
use lib.Dec.{leb}
use borrow.Author.Tests.{leb-true}
use Rattle.rules.specs.Job.{Job}
use Rattle.promises.specs.Plan.{job_of, Plan, ticks_in_time, earns_row, earns_from, all_costs}
use Rattle.rules.proofs.Choose.{by_test}

pub earns_row_le : (q : Plan) (i : ℕ) (j : Job) → (earns_row q i j ≤ j.cost) × (earns_row q i j ≤ ticks_in_time q i j)
unfolding earns_row
earns_row_le q i j =
    by_test (λ (v : ℕ). (v ≤ j.cost) × (v ≤ ticks_in_time q i j)) (leb j.cost (ticks_in_time q i j))
    (λ e. omega (arith, leb-true j.cost (ticks_in_time q i j) e))
    (λ e. (zero-le, zero-le))

earns_le : (q : Plan) (i : ℕ) (jobs : List Job) → earns_from q i jobs ≤ all_costs jobs
unfolding earns_from all_costs
earns_le q i [] = zero-le
earns_le q i (j ∷ js) = omega (arith, earns_row_le q i j, earns_le q (suc i) js)

-- A plan that earns all costs gives every row its cost in time, row k of the list being numbered i + k.
pub earns_all : (q : Plan) (i : ℕ) (jobs : List Job) → earns_from q i jobs ≡ all_costs jobs
    → (k : ℕ) → (job_of jobs k).cost ≤ ticks_in_time q (i + k) (job_of jobs k)
unfolding earns_from all_costs
earns_all q i [] e k = zero-le
earns_all q i (j ∷ js) e zero = rw add-zero (omega (arith, earns_row_le q i j, earns_le q (suc i) js))
earns_all q i (j ∷ js) e (suc k) =
    rw (add-suc, ← suc-add) (earns_all q (suc i) js (omega (arith, earns_row_le q i j, earns_le q (suc i) js)) k)
