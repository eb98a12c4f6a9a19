-- The plan's side of demand 3's first half, for the rows of any run: let every tick of the window of each row that did not finish
-- early be counted. Then a plan earns at most the early value and the number of counted ticks. Rests on Counting and Earning.
use Prim.Native.Nat.{ℕ, suc, ◌+◌, ◌-◌, ◌≤◌, ◌<◌, zero-le}
use mathlib.Core.List.{List, [], ◌∷◌, map}
use mathlib.Core.Bool.{Bool, true, false}
use mathlib.Core.Path.{◌≡◌}
use native.Mathlib.Nat.{le_refl}
use native.Mathlib.Omega.{arith}
use lib.ListN.{get_or}
use Rattle.rules.specs.Choose.{choose}
use Rattle.rules.specs.Job.{Job}
use Rattle.rules.specs.State.{Row, no_row}
use Rattle.promises.specs.Plan.{Plan, goes_to, ticks, ticks_in_time, earns_row, earns_from, earns}
use Rattle.promises.specs.Bound.{count, is_early, early_value}
use Rattle.rules.proofs.Choose.{by_test}
use Rattle.promises.proofs.Sums.{sum_by}
use Rattle.promises.proofs.RowNumbers.{numbers, numbers_distinct}
use Rattle.promises.proofs.Ticks.{ticks_le}
use Rattle.promises.proofs.Counting.{only, counting}
use Rattle.promises.proofs.Earning.{earns_row_le}

-- Every tick of a job's window is counted.
abbrev pub Covered : (ℕ → Bool) → Job → Type 0
Covered counted j = (s : ℕ) → j.release ≤ s → s < j.deadline → counted s ≡ true

-- A row that did not finish early has every tick of its window counted.
abbrev pub LateCovered : (ℕ → Bool) → Row → Type 0
LateCovered counted r = is_early r.fate r.job ≡ false → Covered counted r.job

module _ (q : Plan) (counted : ℕ → Bool) (n : ℕ) where
  ticks_covered : (i : ℕ) (j : Job) → Covered counted j → j.deadline ≤ n → ticks_in_time q i j ≤ ticks (only counted q) i 0 n
  unfolding only choose
  ticks_covered i j c d =
      ticks_le q (only counted q) i j.release (j.deadline - j.release) 0 n
      (λ s l m. (zero-le, omega arith, rw (c s l (omega arith)) (le_refl (goes_to i (q s)))))

  earns_row_at_most : (i : ℕ) (r : Row) → LateCovered counted r → r.job.deadline ≤ n
      → earns_row q i r.job ≤ choose (is_early r.fate r.job) r.job.cost 0 + ticks (only counted q) i 0 n
  earns_row_at_most i r c d =
      by_test (λ (v : ℕ). earns_row q i r.job ≤ v + ticks (only counted q) i 0 n) (is_early r.fate r.job)
      (λ e. omega (arith, earns_row_le q i r.job))
      (λ e. omega (arith, earns_row_le q i r.job, ticks_covered i r.job (c e) d))

  earns_from_at_most : (i : ℕ) (rows : List Row)
      → ((k : ℕ) → LateCovered counted (get_or rows k no_row))
      → ((k : ℕ) → (get_or rows k no_row).job.deadline ≤ n)
      → earns_from q i (map (λ (r : Row). r.job) rows) ≤ early_value rows + sum_by (λ k. ticks (only counted q) k 0 n) (numbers i rows)
  unfolding earns_from early_value numbers sum_by
  earns_from_at_most i [] c d = zero-le
  earns_from_at_most i (r ∷ rows) c d =
      omega (arith, earns_row_at_most i r (c 0) (d 0), earns_from_at_most (suc i) rows (λ k. c (suc k)) (λ k. d (suc k)))

  -- What any plan earns, if every deadline is at or before tick n.
  pub earns_at_most : (rows : List Row)
      → ((k : ℕ) → LateCovered counted (get_or rows k no_row))
      → ((k : ℕ) → (get_or rows k no_row).job.deadline ≤ n)
      → earns q (map (λ (r : Row). r.job) rows) ≤ early_value rows + count counted n
  earns_at_most rows c d =
      omega (arith, earns_from_at_most 0 rows c d, counting counted q (numbers 0 rows) (numbers_distinct 0 rows) 0 n)
