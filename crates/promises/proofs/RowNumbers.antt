-- Lists of row numbers: how often a row stands in one, sums over one, and the numbers of a whole list, each once. The stack is
-- such a list, and so are the rows over which a plan's ticks are counted. Rests on Rows and Sums.
use Prim.Native.Nat.{ℕ, suc, ◌+◌, ◌≤◌, zero-le}
use native.Mathlib.Omega.{arith}
use mathlib.Core.Path.{◌≡◌, refl}
use mathlib.Core.Logic.{◌≢◌}
use mathlib.Core.List.{List, [], ◌∷◌}
use lib.Dec.{eqb}
use borrow.Author.Tests.{eq-eqb, ne_eqb}
use Rattle.rules.specs.Choose.{choose}
use Rattle.rules.proofs.Choose.{by_test}
use Rattle.promises.proofs.Rows.{at_and_beside}
use Rattle.promises.proofs.Sums.{sum_by}

-- 1 where the two numbers are one, else 0.
unfoldable pub same : ℕ → ℕ → ℕ
same j i = choose (eqb j i) 1 0

pub same_eq : (j i : ℕ) → j ≡ i → same j i ≡ 1
unfolding same choose
same_eq j i e = rw (eq-eqb j i e, choose)

pub same_self : (i : ℕ) → same i i ≡ 1
same_self i = same_eq i i refl

pub same_other : (j i : ℕ) → j ≢ i → same j i ≡ 0
unfolding same choose
same_other j i n = rw (ne_eqb j i n, choose)

pub same-small : (j i : ℕ) → same j i ≤ 1
unfolding same
same-small j i = by_test (λ (n : ℕ). n ≤ 1) (eqb j i) (λ _. omega arith) (λ _. omega arith)

-- How often row j stands in a list of rows.
abbrev pub occurs : ℕ → List ℕ → ℕ
occurs j is = sum_by (same j) is

-- What holds of row i, and of each row that stands in the rest, holds of each row that stands in a list.
pub each_row : (P : ℕ → Type 0) (i : ℕ) (is : List ℕ) → P i → ((j : ℕ) → 1 ≤ occurs j is → P j) → (j : ℕ) → 1 ≤ occurs j (i ∷ is) → P j
unfolding sum_by
each_row P i is at rest =
    at_and_beside (λ (j : ℕ). 1 ≤ occurs j (i ∷ is) → P j) i (λ _. at) (λ j n o. rest j (omega (arith, same_other j i n)))

-- Sums over the rows of a list compare as the summands of these rows do, and none of these is more than the sum.
pub over_le : (f g : ℕ → ℕ) (is : List ℕ) → ((j : ℕ) → 1 ≤ occurs j is → f j ≤ g j) → sum_by f is ≤ sum_by g is
unfolding sum_by
over_le f g [] h = zero-le
over_le f g (i ∷ is) h = omega (arith, h i (omega (arith, same_self i)), over_le f g is (λ j o. h j (omega arith)))

pub over_part : (f : ℕ → ℕ) (is : List ℕ) (j : ℕ) → 1 ≤ occurs j is → f j ≤ sum_by f is
unfolding sum_by
over_part f [] = λ j o. absurd (omega arith)
over_part f (i ∷ is) = each_row (λ (j : ℕ). f j ≤ sum_by f (i ∷ is)) i is (omega arith) (λ j o. omega (arith, over_part f is j o))

-- No row stands in the list twice.
abbrev pub Distinct : List ℕ → Type 0
Distinct is = (j : ℕ) → occurs j is ≤ 1

-- The row numbers of a list whose first row is numbered i.
unfoldable pub numbers : {A : Type 0} → ℕ → List A → List ℕ
numbers i [] = []
numbers i (r ∷ rows) = i ∷ numbers (suc i) rows

numbers_later : {A : Type 0} (i : ℕ) (rows : List A) (j : ℕ) → 1 ≤ occurs j (numbers i rows) → i ≤ j
unfolding numbers sum_by
numbers_later i [] = λ j o. absurd (omega arith)
numbers_later i (r ∷ rows) =
    each_row (λ (j : ℕ). i ≤ j) i (numbers (suc i) rows) (omega arith) (λ j o. omega (arith, numbers_later (suc i) rows j o))

pub numbers_distinct : {A : Type 0} (i : ℕ) (rows : List A) → Distinct (numbers i rows)
unfolding numbers sum_by
numbers_distinct i [] = λ j. zero-le
numbers_distinct i (r ∷ rows) =
    at_and_beside (λ (j : ℕ). same j i + occurs j (numbers (suc i) rows) ≤ 1) i
    (let n : ¬ (1 ≤ occurs i (numbers (suc i) rows)) = λ o. omega (arith, numbers_later (suc i) rows i o) in omega (arith, same-small i i))
    (λ j n. omega (arith, same_other j i n, numbers_distinct (suc i) rows j))
