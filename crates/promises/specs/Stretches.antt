-- Stretches in order: none empty, none overlapping, each as long as can be; and the ticks that they hold of each row.
-- Rests on the rules' State.
use Rattle.std.specs.Prelude.{ℕ, ◌+◌, ◌-◌, ◌≤◌, ◌<◌, ◌≡◌, ◌≢◌, List, [], ◌∷◌, eqb}
use Rattle.rules.specs.Choose.{choose}
use Rattle.rules.specs.State.{Stretch}

-- A stretch that is not empty, ends by tick t, and is of one of n rows.
pub record StretchOk (t n : ℕ) (x : Stretch) : Type 0 where
  pub not_empty : x.first < x.after
  pub past : x.after ≤ t
  pub named : x.row < n

-- The stretch y comes after x; if they touch, they are of different rows.
pub record Precedes (x y : Stretch) : Type 0 where
  pub apart : x.after ≤ y.first
  pub longest : x.after ≡ y.first → x.row ≢ y.row

-- The stretch x stands so to the first of a list, if there is one.
abbrev pub ToFirst : (Stretch → Stretch → Type 0) → Stretch → List Stretch → Type 0
ToFirst R x [] = Unit {0}
ToFirst R x (y ∷ ys) = R x y

-- Every stretch of a list is well, and stands so to the next: in time order, where R is `Precedes`.
abbrev pub InOrder : (Stretch → Stretch → Type 0) → ℕ → ℕ → List Stretch → Type 0
InOrder R t n [] = Unit {0}
InOrder R t n (x ∷ xs) = StretchOk t n x × ToFirst R x xs × InOrder R t n xs

-- What a stretch holds of row i's ticks, and what a list of stretches holds.
unfoldable pub length_for : ℕ → Stretch → ℕ
length_for i x = choose (eqb x.row i) (x.after - x.first) 0

unfoldable pub ticks_in : ℕ → List Stretch → ℕ
ticks_in i [] = 0
ticks_in i (x ∷ xs) = length_for i x + ticks_in i xs
