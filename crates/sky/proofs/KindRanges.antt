-- The kind in each range of numbers. Rests on Kind.
use mathlib.Core.Path.{◌≡◌}
use Prim.Native.Nat.{ℕ, ◌≤◌, ◌<◌}
use native.Mathlib.Omega.{arith}
use borrow.Author.Tests.{le-leb, lt-leb, ne_eqb}
use Rattle.rules.specs.Choose.{choose}
use Rattle.sky.specs.Kind.{kind_of}

module _ (n : ℕ) where
  pub image_fault : 1 ≤ n → n ≤ 5 → 1 ≡ kind_of n
  unfolding kind_of choose
  image_fault l h = rw (le-leb 1 n l, le-leb n 5 h)

  pub row_fault : 6 ≤ n → n ≤ 11 → 2 ≡ kind_of n
  unfolding kind_of choose
  row_fault l h = simp (le-leb 1 n (omega arith), lt-leb n 5 l, le-leb 6 n l, le-leb n 11 h)

  pub room : n ≡ 12 → 3 ≡ kind_of n
  unfolding kind_of choose
  room e = rw e

  pub below : n < 1 → 0 ≡ kind_of n
  unfolding kind_of choose
  below h = let e : n ≡ 0 = omega arith in rw e

  pub above : 12 < n → 0 ≡ kind_of n
  unfolding kind_of choose
  above h = simp (le-leb 1 n (omega arith), lt-leb n 5 (omega arith), le-leb 6 n (omega arith), lt-leb n 11 (omega arith), ne_eqb n 12 (omega arith))

-- The five ranges together are every number.
pub ruleset ranges = (image_fault, row_fault, room, below, above)
