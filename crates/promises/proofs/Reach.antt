-- Reach, the greatest deadline of a dropped row: it covers every such row, and no change of rows but a drop raises it.
-- The ledger follows it from sub-step to sub-step. Rests on Bound.
use Prim.Native.Nat.{ℕ, zero, suc, ◌≤◌, max}
use native.Mathlib.Omega.{arith}
use mathlib.Core.Path.{◌≡◌, refl}
use mathlib.Core.List.{List, [], ◌∷◌, ◌++◌, map}
use lib.ListN.{get_or, set}
use Rattle.rules.specs.Job.{Job}
use Rattle.rules.specs.State.{Fate, Row, no_row, waiting, taken, finished, dropped}
use Rattle.rules.specs.LatestStarts.{displaced, displace}
use Rattle.promises.specs.Bound.{dropped_deadline, reach}

pub reach_covers : (rows : List Row) (j : ℕ) → dropped_deadline (get_or rows j no_row).fate (get_or rows j no_row).job ≤ reach rows
unfolding reach dropped_deadline
reach_covers [] j = omega arith
reach_covers (r ∷ rows) zero = omega arith
reach_covers (r ∷ rows) (suc j) = omega (arith, reach_covers rows j)

pub reach-set : (rows : List Row) (i : ℕ) (x : Row) → reach (set rows i x) ≤ max (reach rows) (dropped_deadline x.fate x.job)
unfolding reach
reach-set [] i x = omega arith
reach-set (r ∷ rows) zero x = omega arith
reach-set (r ∷ rows) (suc i) x = omega (arith, reach-set rows i x)

pub reach-append : (rows : List Row) (x : Row) → reach (rows ++ (x ∷ [])) ≤ max (reach rows) (dropped_deadline x.fate x.job)
unfolding reach
reach-append [] x = omega arith
reach-append (r ∷ rows) x = omega (arith, reach-append rows x)

displaced_deadline : (f : Fate) (j : Job) → dropped_deadline (displaced f) j ≡ dropped_deadline f j
unfolding displaced dropped_deadline
displaced_deadline waiting j = refl
displaced_deadline taken j = refl
displaced_deadline (finished u) j = refl
displaced_deadline (dropped u) j = refl

pub reach-displaced : (rows : List Row) → reach (map displace rows) ≡ reach rows
unfolding reach displace
reach-displaced [] = refl
reach-displaced (r ∷ rows) = rw (displaced_deadline r.fate r.job, reach-displaced rows)
