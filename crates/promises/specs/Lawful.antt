-- What the promises ask of the two picks: a first waiting job of least deadline, and in step C some waiting row whose latest
-- start is now. Which of several equal ones is left open. Rests on State and Picks.
use Rattle.std.specs.Prelude.{ℕ, ◌≤◌, List, ◌≡◌, get_or}
use Rattle.std.proofs.Math.Option.{Option, none, some}
use Rattle.rules.specs.State.{Row, no_row, waiting, latest_start}
use Rattle.rules.specs.Picks.{Picks}

-- Row i waits.
abbrev pub Waits : List Row → ℕ → Type 0
Waits rows i = (get_or rows i no_row).fate ≡ waiting

-- Row i waits with latest start t.
abbrev pub Due : ℕ → List Row → ℕ → Type 0
Due t rows i = Waits rows i × (latest_start (get_or rows i no_row) ≡ t)

-- What was found is a waiting row, and no waiting row has an earlier deadline; where nothing was found, none waits.
unfoldable pub IsFirst : List Row → Option ℕ → Type 0
IsFirst rows none = (j : ℕ) → Waits rows j → ⊥
IsFirst rows (some i) =
    Waits rows i
    × ((j : ℕ) → Waits rows j → (get_or rows i no_row).job.deadline ≤ (get_or rows j no_row).job.deadline)

-- What was found is due at t; where nothing was found, none is.
unfoldable pub IsNext : ℕ → List Row → Option ℕ → Type 0
IsNext t rows none = (j : ℕ) → Due t rows j → ⊥
IsNext t rows (some i) = Due t rows i

pub record Lawful (p : Picks) : Type 0 where
  pub first : (rows : List Row) → IsFirst rows (p.first rows)
  pub next : (t : ℕ) (rows : List Row) → IsNext t rows (p.next t rows)
