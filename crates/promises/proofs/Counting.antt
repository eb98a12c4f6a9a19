-- The counting lemma: each tick goes to at most one row, so the ticks that a plan gives to rows without repetition are no more
-- than the ticks there are. Both halves of demand 3 end in it. Rests on Plan, Bound and RowNumbers.
use Prim.Native.Nat.{ℕ, zero, suc, ◌+◌, ◌≤◌}
use mathlib.Core.List.{List}
use mathlib.Core.Option.{Option, none, some}
use mathlib.Core.Bool.{Bool, true, false}
use mathlib.Core.Path.{◌≡◌, refl}
use native.Mathlib.Nat.{zero-add}
use native.Mathlib.Omega.{arith}
use Rattle.rules.specs.Choose.{choose}
use Rattle.promises.specs.Plan.{Plan, goes_to, ticks}
use Rattle.promises.specs.Bound.{count_from, count}
use Rattle.promises.proofs.Sums.{sum_by, sum_by-add, sum_by_none}
use Rattle.promises.proofs.RowNumbers.{same, Distinct}

every_tick : (a n : ℕ) → count_from (λ s. true) a n ≡ n
unfolding count_from choose
every_tick a zero = refl
every_tick a (suc n) = omega (arith, every_tick a n)

pub count_suc : (u : ℕ → Bool) (n : ℕ) → count u (suc n) ≡ count u n + choose (u n) 1 0
unfolding count_from
count_suc u n = rw zero-add

-- The plan that gives only the ticks that pass the test, as q does.
unfoldable pub only : (ℕ → Bool) → Plan → Plan
only u q s = choose (u s) (q s) none

-- One tick goes to at most one of the rows, and to none if it fails the test.
one_tick : (b : Bool) (x : Option ℕ) (is : List ℕ) → Distinct is → sum_by (λ i. goes_to i (choose b x none)) is ≤ choose b 1 0
unfolding choose goes_to same
one_tick false x is d = omega (arith, sum_by_none (λ i. 0) 0 is (λ j. refl))
one_tick true none is d = omega (arith, sum_by_none (λ i. 0) 0 is (λ j. refl))
one_tick true (some k) is d = d k

-- The counting lemma.
pub counting : (u : ℕ → Bool) (q : Plan) (is : List ℕ) → Distinct is → (a n : ℕ)
    → sum_by (λ i. ticks (only u q) i a n) is ≤ count_from u a n
unfolding ticks only count_from
counting u q is d a zero = omega (arith, sum_by_none (λ i. 0) 0 is (λ j. refl))
counting u q is d a (suc n) =
    omega (
      arith,
      sum_by-add (λ i. ticks (only u q) i a n) (λ i. goes_to i (only u q (a + n))) is,
      counting u q is d a n,
      one_tick (u (a + n)) (q (a + n)) is d,
    )

-- With a test that every tick passes: of n ticks, a plan gives no more than n to such rows.
pub counting_all : (q : Plan) (is : List ℕ) → Distinct is → (a n : ℕ) → sum_by (λ i. ticks q i a n) is ≤ n
unfolding only choose
counting_all q is d a n = omega (arith, counting (λ s. true) q is d a n, every_tick a n)
