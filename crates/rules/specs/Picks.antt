-- The two choices among waiting rows that the steps make, as parameters of every rule; and document 01's own choices.
-- Whatever is proved over the parameters holds for any other order among equals. Rests on State and Choose.
use Rattle.std.specs.Prelude.{ℕ, suc, List, [], ◌∷◌, ◌&&◌, leb, eqb, get_or}
use Rattle.std.proofs.Math.Option.{Option, none, some}
use Rattle.rules.specs.Choose.{choose}
use Rattle.rules.specs.State.{Row, no_row, is_waiting, latest_start}

-- `first`: the first waiting job. `next t`: the row that step C takes among the waiting ones with latest start t.
pub record Picks : Type 0 where
  pub first : List Row → Option ℕ
  pub next : ℕ → List Row → Option ℕ

-- A row found in the tail of a list has one row more before it.
unfoldable pub up : Option ℕ → Option ℕ
up none = none
up (some i) = some (suc i)

-- Between row 0 and the first waiting row of the rest: row 0 if it waits and no deadline of the rest is earlier.
unfoldable pub first_of : Row → List Row → Option ℕ → Option ℕ
first_of r rest none = choose (is_waiting r.fate) (some 0) none
first_of r rest (some i) =
    choose (is_waiting r.fate && leb r.job.deadline (get_or rest i no_row).job.deadline) (some 0) (some (suc i))

-- The first waiting job is the one with the earliest deadline; among equals, the lowest row.
unfoldable pub first_waiting : List Row → Option ℕ
first_waiting [] = none
first_waiting (r ∷ rest) = first_of r rest (first_waiting rest)

-- The lowest waiting row that has latest start t.
unfoldable pub lowest_due : ℕ → List Row → Option ℕ
lowest_due t [] = none
lowest_due t (r ∷ rest) = choose (is_waiting r.fate && eqb (latest_start r) t) (some 0) (up (lowest_due t rest))

-- Document 01's picks.
abbrev pub document : Picks
document = record { first = first_waiting; next = lowest_due }
