-- A run's value is at most the tick of its end: finished costs are ticks given, and each tick is given once. With End, it is at most
-- the greatest deadline, which the packed answer needs. Rests on OnTime and Counting.
use Prim.Native.Nat.{ℕ, suc, ◌+◌, ◌≤◌, zero-le}
use native.Mathlib.Nat.{le_of_eq, zero-add, add-zero, add-suc, suc-add}
use native.Mathlib.Omega.{arith}
use mathlib.Core.Path.{◌∙◌}
use mathlib.Core.List.{List, [], ◌∷◌}
use Rattle.rules.specs.Job.{Job, Proper}
use Rattle.rules.specs.Picks.{Picks}
use Rattle.rules.specs.Run.{run}
use Rattle.rules.specs.Result.{value_of_rows}
use Rattle.promises.specs.Plan.{job_of, Plan, ticks, ticks_in_time, earns_from}
use Rattle.promises.specs.RunPlan.{run_plan}
use Rattle.promises.specs.Lawful.{Lawful}
use Rattle.promises.proofs.Sums.{sum_by}
use Rattle.promises.proofs.RowNumbers.{numbers, numbers_distinct}
use Rattle.promises.proofs.Counting.{counting_all}
use Rattle.promises.proofs.Earning.{earns_row_le}
use Rattle.promises.proofs.OnTime.{given-ticks, given_in_time, run-earns}

-- A plan whose ticks in time all lie below n earns no more than the ticks below n that it gives to the list's rows.
earns_below : (q : Plan) (n i : ℕ) (jobs : List Job) → ((k : ℕ) → ticks_in_time q (i + k) (job_of jobs k) ≤ ticks q (i + k) 0 n)
    → earns_from q i jobs ≤ sum_by (λ k. ticks q k 0 n) (numbers i jobs)
unfolding earns_from numbers sum_by
earns_below q n i [] h = zero-le
earns_below q n i (j ∷ js) h =
    omega (arith, earns_row_le q i j, rw add-zero at (h 0), earns_below q n (suc i) js (λ k. rw (add-suc, ← suc-add) at (h (suc k))))

module _ {p : Picks} (l : Lawful p) (jobs : List Job) (proper : Proper jobs) where
  pub value_by_end_lem : value_of_rows (run p jobs).state.rows ≤ (run p jobs).tick
  value_by_end_lem =
      let n : ℕ = (run p jobs).tick in
      let q : Plan = run_plan p jobs in
      omega (
        arith,
        run-earns l jobs proper,
        earns_below q n 0 jobs (λ k. rw zero-add (le_of_eq (given_in_time l jobs proper k ∙ given-ticks l jobs proper k))),
        counting_all q (numbers 0 jobs) (numbers_distinct 0 jobs) 0 n,
      )
