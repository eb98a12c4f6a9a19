-- The stack: the running row on top of the delayed ones, last in first. Which rows it holds, the held value, and what the
-- delayed entries owe to the job above them. Room is exact because each entry saved it exactly. Rests on Rows and RowNumbers.
use Prim.Native.Nat.{ℕ, ◌+◌, ◌≤◌, ◌<◌, min}
use native.Mathlib.Nat.{le_antisymm, le_of_eq}
use native.Mathlib.Omega.{arith}
use mathlib.Core.Path.{◌≡◌, sym}
use mathlib.Core.List.{List, [], ◌∷◌}
use lib.ListN.{get_or}
use Rattle.rules.specs.State.{Row, Proc, Entry, no_row, idle, running}
use Rattle.promises.proofs.Rows.{Same}
use Rattle.promises.proofs.Sums.{sum_by}
use Rattle.promises.proofs.RowNumbers.{same_self, occurs, each_row, over_le}

-- The rows of the delayed entries, last in first.
unfoldable pub rows_of : List Entry → List ℕ
rows_of [] = []
rows_of (e ∷ es) = e.row ∷ rows_of es

-- The running row, if any, on top of the delayed ones.
unfoldable pub stack_of : Proc → List Entry → List ℕ
stack_of idle es = rows_of es
stack_of (running r) es = r ∷ rows_of es

-- The sum of the delayed jobs' costs.
abbrev pub held_by : List Row → List Entry → ℕ
held_by rows es = sum_by (λ i. (get_or rows i no_row).job.cost) (rows_of es)

-- What the entry e is to the job just above it, which has deadline d and, with all that is above it, would be through at b
-- if it ran after as much room as is left. The entry was put in no later than t, it is not yet through, its deadline is
-- later; and b is as late as d and the room saved with e allow, no earlier.
pub record Under (rows : List Row) (t d b : ℕ) (e : Entry) : Type 0 where
  pub exact : b ≡ min d (e.since + e.room)
  pub put : e.since ≤ t
  pub unfinished : 1 ≤ (get_or rows e.row no_row).left
  pub later : d < (get_or rows e.row no_row).job.deadline

-- The same all the way down. With nothing below, b is the deadline itself.
abbrev pub Below : List Row → ℕ → ℕ → ℕ → List Entry → Type 0
Below rows t d b [] = b ≡ d
Below rows t d b (e ∷ es) =
    Under rows t d b e
    × Below rows t (get_or rows e.row no_row).job.deadline (e.since + e.room + (get_or rows e.row no_row).left) es

-- The delayed rows are what they were, and time has gone on: the same holds below.
pub below_keeps : (rows rows' : List Row) (t t' d d' b b' : ℕ) (es : List Entry) → t ≤ t' → d ≡ d' → b ≡ b'
    → ((j : ℕ) → 1 ≤ occurs j (rows_of es) → Same rows rows' j) → Below rows t d b es → Below rows' t' d' b' es
unfolding sum_by rows_of
below_keeps rows rows' t t' d d' b b' [] h p q same_rows k = omega arith
below_keeps rows rows' t t' d d' b b' (e ∷ es) h p q same_rows k =
    let u : Same rows rows' e.row = same_rows e.row (omega (arith, same_self e.row)) in
    let v : Under rows t d b e = k.0 in (
      record { exact = omega arith; put = omega arith; unfinished = omega arith; later = omega arith },
      below_keeps rows rows' t t' (get_or rows e.row no_row).job.deadline (get_or rows' e.row no_row).job.deadline
          (e.since + e.room + (get_or rows e.row no_row).left) (e.since + e.room + (get_or rows' e.row no_row).left) es h (omega arith) (omega arith) (λ j o. same_rows j (omega arith)) k.1,
    )

pub held_keeps : (rows rows' : List Row) (es : List Entry) → ((j : ℕ) → 1 ≤ occurs j (rows_of es) → Same rows rows' j)
    → held_by rows' es ≡ held_by rows es
held_keeps rows rows' es same_rows =
    le_antisymm (over_le _ _ (rows_of es) (λ j o. le_of_eq (same_rows j o).cost)) (over_le _ _ (rows_of es) (λ j o. le_of_eq (sym (same_rows j o).cost)))

-- The job on top is through by its deadline.
pub below_fits : (rows : List Row) (t d b : ℕ) (es : List Entry) → Below rows t d b es → b ≤ d
below_fits rows t d b [] k = omega arith
below_fits rows t d b (e ∷ es) k = omega (arith, k.0.exact)

-- A delayed row is not yet through, could still be by its deadline if it ran now, and has a later deadline than the job on top.
pub record Lax (rows : List Row) (t d j : ℕ) : Type 0 where
  pub unfinished : 1 ≤ (get_or rows j no_row).left
  pub startable : t + (get_or rows j no_row).left ≤ (get_or rows j no_row).job.deadline
  pub later : d < (get_or rows j no_row).job.deadline

pub below_lax : (rows : List Row) (t d b : ℕ) (es : List Entry) → t ≤ b → Below rows t d b es → (j : ℕ) → 1 ≤ occurs j (rows_of es) → Lax rows t d j
unfolding sum_by rows_of
below_lax rows t d b [] h k = λ j o. absurd (omega arith)
below_lax rows t d b (e ∷ es) h k =
    each_row (Lax rows t d) e.row (rows_of es)
    (omega (arith, k.0, below_fits rows t _ _ es k.1))
    (λ j o. omega (
      arith,
      k.0,
      below_lax rows t (get_or rows e.row no_row).job.deadline (e.since + e.room + (get_or rows e.row no_row).left) es
          (omega (arith, k.0)) k.1 j o,
    ))
