-- Sums over a list of a number read off each element; of rows: after one changed or was appended, against a bound, and against
-- another list's. Counting arguments go through here. Rests on State and the library's lists.
use Prim.Native.Nat.{ℕ, zero, suc, ◌+◌, ◌*◌, ◌≤◌, ◌<◌}
use native.Mathlib.Nat.{le_of_suc-le-suc}
use native.Mathlib.Omega.{arith}
use mathlib.Core.Path.{◌≡◌, refl}
use mathlib.Core.List.{List, [], ◌∷◌, ◌++◌}
use lib.ListN.{length, get_or, set}
use Rattle.rules.specs.State.{Row, no_row}

unfoldable pub sum_by : {A : Type 0} → (A → ℕ) → List A → ℕ
sum_by f [] = 0
sum_by f (x ∷ xs) = f x + sum_by f xs

pub sum_by-add : {A : Type 0} (f g : A → ℕ) (xs : List A) → sum_by (λ x. f x + g x) xs ≡ sum_by f xs + sum_by g xs
unfolding sum_by
sum_by-add f g [] = refl
sum_by-add f g (x ∷ xs) = omega (arith, sum_by-add f g xs)

-- The sum is 0 where every number is. (Of no element the number is that of d.)
pub sum_by_none : {A : Type 0} (f : A → ℕ) (d : A) (xs : List A) → ((j : ℕ) → f (get_or xs j d) ≡ 0) → sum_by f xs ≡ 0
unfolding sum_by
sum_by_none f d [] none = refl
sum_by_none f d (x ∷ xs) none = omega (arith, none 0, sum_by_none f d xs (λ j. none (suc j)))

pub sum_by-set : (f : Row → ℕ) (rows : List Row) (i : ℕ) (x : Row) → i < length rows
    → sum_by f (set rows i x) + f (get_or rows i no_row) ≡ sum_by f rows + f x
unfolding sum_by
sum_by-set f [] i x h = absurd (omega arith)
sum_by-set f (r ∷ rows) zero x h = omega arith
sum_by-set f (r ∷ rows) (suc i) x h = omega (arith, sum_by-set f rows i x (le_of_suc-le-suc h))

-- One row's number is at most the sum.
pub sum_by_part : (f : Row → ℕ) (rows : List Row) (i : ℕ) → i < length rows → f (get_or rows i no_row) ≤ sum_by f rows
unfolding sum_by
sum_by_part f [] i h = absurd (omega arith)
sum_by_part f (r ∷ rows) zero h = omega arith
sum_by_part f (r ∷ rows) (suc i) h = omega (arith, sum_by_part f rows i (le_of_suc-le-suc h))

pub sum_by-bound : (f : Row → ℕ) (k : ℕ) → ((r : Row) → f r ≤ k) → (rows : List Row) → sum_by f rows ≤ k * length rows
unfolding sum_by
sum_by-bound f k h [] = omega arith
sum_by-bound f k h (r ∷ rows) = omega (arith, h r, sum_by-bound f k h rows)

pub sum_by_le : (f g : Row → ℕ) (rows others : List Row) → length rows ≡ length others
    → ((j : ℕ) → f (get_or rows j no_row) ≤ g (get_or others j no_row)) → sum_by f rows ≤ sum_by g others
unfolding sum_by
sum_by_le f g [] [] e all = omega arith
sum_by_le f g [] (o ∷ others) e all = absurd (omega arith)
sum_by_le f g (r ∷ rows) [] e all = absurd (omega arith)
sum_by_le f g (r ∷ rows) (o ∷ others) e all = omega (arith, all 0, sum_by_le f g rows others (omega arith) (λ j. all (suc j)))

-- No row's number is greater than the other's of the same place, and row i's is less: so is the sum.
pub sum_by_less : (f g : Row → ℕ) (rows others : List Row) → length rows ≡ length others
    → ((j : ℕ) → f (get_or rows j no_row) ≤ g (get_or others j no_row)) → (i : ℕ) → i < length rows
    → f (get_or rows i no_row) < g (get_or others i no_row) → sum_by f rows < sum_by g others
unfolding sum_by
sum_by_less f g [] others e all i h less = absurd (omega arith)
sum_by_less f g (r ∷ rows) [] e all i h less = absurd (omega arith)
sum_by_less f g (r ∷ rows) (o ∷ others) e all zero h less = omega (arith, sum_by_le f g rows others (omega arith) (λ j. all (suc j)))
sum_by_less f g (r ∷ rows) (o ∷ others) e all (suc i) h less =
    omega (arith, all 0, sum_by_less f g rows others (omega arith) (λ j. all (suc j)) i (omega arith) less)

pub sum_by-append : (f : Row → ℕ) (rows : List Row) (x : Row) → sum_by f (rows ++ (x ∷ [])) ≡ sum_by f rows + f x
unfolding sum_by
sum_by-append f [] x = omega arith
sum_by-append f (r ∷ rows) x = omega (arith, sum_by-append f rows x)
