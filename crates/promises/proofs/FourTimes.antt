-- Demand 3, first half: no plan earns more with a proper list than the bound that its run shows, and this is at most 4 × the run's
-- value. Rests on the ledger, on the counted windows, and on the plan's side of the argument, FirstHalf.
use Prim.Native.Nat.{ℕ, ◌+◌, ◌*◌, ◌≤◌}
use native.Mathlib.Omega.{arith}
use mathlib.Core.Path.{◌≡◌, refl, ap, subst}
use mathlib.Core.Bool.{Bool, true, false}
use mathlib.Core.List.{List, [], ◌∷◌}
use lib.Dec.{ltb}
use Rattle.rules.specs.Choose.{choose}
use Rattle.rules.specs.Job.{Job, Proper}
use Rattle.rules.specs.State.{Fate, Row, State, row_of, waiting, taken, finished, dropped}
use Rattle.rules.specs.Picks.{Picks}
use Rattle.rules.specs.Run.{released_at, greatest_deadline, run}
use Rattle.rules.specs.Result.{value_of, value_of_rows}
use Rattle.promises.specs.Plan.{Plan, earns}
use Rattle.promises.specs.Lawful.{Lawful}
use Rattle.promises.specs.Bound.{counted, count, is_early, early_value, bound}
use Rattle.promises.proofs.Sums.{sum_by}
use Rattle.promises.proofs.End.{row_deadline, timely, run_ends, end_rows}
use Rattle.promises.proofs.Ended.{end_stays}
use Rattle.promises.proofs.FirstHalf.{LateCovered, earns_at_most}
use Rattle.promises.proofs.Books.{late_cost, pays, paid}
use Rattle.promises.proofs.Ledger.{Ledger, clear, ledger_along}
use Rattle.promises.proofs.Windows.{late_covered}

early_or_late : (b : Bool) (c : ℕ) → choose b c 0 + (3 * c + choose b 0 c) ≡ 4 * c
unfolding choose
early_or_late true c = omega arith
early_or_late false c = omega arith

-- The cost of a finished row stands in its early value or in what it pays for being late, and thrice in what it pays anyway.
row_four_times : (f : Fate) (j : Job) → choose (is_early f j) j.cost 0 + pays f j ≡ 4 * value_of f j
unfolding is_early choose pays late_cost value_of
row_four_times waiting j = omega arith
row_four_times taken j = omega arith
row_four_times (finished u) j = early_or_late (ltb u j.deadline) j.cost
row_four_times (dropped u) j = omega arith

rows_four_times : (rows : List Row) → early_value rows + paid rows ≡ 4 * value_of_rows rows
unfolding early_value paid sum_by value_of_rows
rows_four_times [] = refl
rows_four_times (r ∷ rows) = omega (arith, row_four_times r.fate r.job, rows_four_times rows)

module _ {p : Picks} (l : Lawful p) (jobs : List Job) (proper : Proper jobs) where
  end_deadline : (k : ℕ) → (row_of (run p jobs).state k).job.deadline ≤ greatest_deadline jobs
  end_deadline k = omega (arith, row_deadline (run p jobs).state.rows k, ap greatest_deadline (end_rows l jobs proper))

  -- What is counted: every tick from release to deadline - 1 of each row that was dropped, or finished exactly at its deadline.
  end_covered : (k : ℕ) → LateCovered (counted p (released_at jobs)) (row_of (run p jobs).state k)
  end_covered k =
      subst (λ (s : State). (row_of s k).job.deadline ≤ greatest_deadline jobs → LateCovered (counted p (released_at jobs)) (row_of s k)) (end_stays l jobs proper)
      (late_covered l (released_at jobs) (timely l jobs proper) (greatest_deadline jobs) k) (end_deadline k)

  -- The counted ticks are paid for.
  end_paid : count (counted p (released_at jobs)) (greatest_deadline jobs) ≤ paid (run p jobs).state.rows
  end_paid =
      let q : Ledger (count (counted p (released_at jobs)) (greatest_deadline jobs)) (greatest_deadline jobs) (run p jobs).state =
      subst (Ledger _ (greatest_deadline jobs)) (end_stays l jobs proper) (ledger_along l (released_at jobs) (timely l jobs proper) (greatest_deadline jobs)) in
      omega (arith, clear q (run_ends l jobs proper).at_rest)

  pub within_bound_lem : (q : Plan) → earns q jobs ≤ bound p jobs
  unfolding bound
  within_bound_lem q =
      subst (λ (js : List Job). earns q js ≤ bound p jobs) (end_rows l jobs proper)
      (earns_at_most q (counted p (released_at jobs)) (greatest_deadline jobs) (run p jobs).state.rows end_covered end_deadline)

  pub bound_four_times_lem : bound p jobs ≤ 4 * value_of_rows (run p jobs).state.rows
  unfolding bound
  bound_four_times_lem = omega (arith, end_paid, rows_four_times (run p jobs).state.rows)
