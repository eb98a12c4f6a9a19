-- Room is no less than it could be: if the stack ran on after as many ticks as there is room, some job down the stack would be
-- through just at its deadline. (That each would be through by its deadline, `Below` says.) Rests on Wf.
use Prim.Native.Nat.{ℕ, ◌+◌, ◌≤◌, ◌<◌}
use native.Mathlib.Omega.{arith}
use native.Mathlib.Decide.{dec_le}
use mathlib.Core.Path.{◌≡◌, refl}
use mathlib.Core.List.{List, [], ◌∷◌}
use lib.ListN.{get_or}
use Rattle.rules.specs.State.{Row, Entry, State, no_row, running}
use Rattle.promises.proofs.Sums.{sum_by}
use Rattle.promises.proofs.RowNumbers.{same_self, occurs, each_row}
use Rattle.promises.proofs.Stack.{rows_of, Under, Below}
use Rattle.promises.proofs.Steps.{Phase}
use Rattle.promises.proofs.Wf.{Wf, busy}

-- The sum of what remains of the rows of a list.
abbrev pub left_sum : List Row → List ℕ → ℕ
left_sum rows is = sum_by (λ i. (get_or rows i no_row).left) is

-- Of row r and some of the rows below it, run one after the other from base on, the last is through just at `limit`, and
-- none has a later deadline than that.
pub record Tight (rows : List Row) (base r : ℕ) (below : List ℕ) : Type 0 where
  pub upto : List ℕ
  pub part : (j : ℕ) → occurs j upto ≤ occurs j below
  pub limit : ℕ
  pub reached : base + left_sum rows (r ∷ upto) ≡ limit
  pub within : (j : ℕ) → 1 ≤ occurs j (r ∷ upto) → (get_or rows j no_row).job.deadline ≤ limit

module _ (rows : List Row) (t : ℕ) where
  -- The top job alone is tight.
  top_tight : (base r : ℕ) (below : List ℕ) → base + (get_or rows r no_row).left ≡ (get_or rows r no_row).job.deadline → Tight rows base r below
  unfolding sum_by
  top_tight base r below e =
      record {
        upto = [];
        part = λ j. omega arith;
        limit = (get_or rows r no_row).job.deadline;
        reached = omega arith;
        within = each_row (λ (j : ℕ). (get_or rows j no_row).job.deadline ≤ (get_or rows r no_row).job.deadline) r [] (omega arith) (λ j o. absurd (omega arith));
      }

  -- The top job goes on top of a tight part with a later deadline.
  onto_tight : (base base' r i : ℕ) (below : List ℕ) → base + (get_or rows r no_row).left ≡ base'
      → (get_or rows r no_row).job.deadline < (get_or rows i no_row).job.deadline → Tight rows base' i below → Tight rows base r (i ∷ below)
  unfolding sum_by
  onto_tight base base' r i below e later k =
      record {
        upto = i ∷ k.upto;
        part = λ j. omega (arith, k.part j);
        limit = k.limit;
        reached = omega (arith, k.reached);
        within = each_row (λ (j : ℕ). (get_or rows j no_row).job.deadline ≤ k.limit) r (i ∷ k.upto) (omega (arith, k.within i (omega (arith, same_self i)))) k.within;
      }

  -- Whichever of its own deadline and the room saved with the entry x below it binds the top job.
  under_tight : (base r b : ℕ) (x : Entry) (below : List ℕ) → base + (get_or rows r no_row).left ≡ b → Under rows t (get_or rows r no_row).job.deadline b x
      → Tight rows (x.since + x.room) x.row below → Tight rows base r (x.row ∷ below)
  under_tight base r b x below e u k = which (dec_le (get_or rows r no_row).job.deadline (x.since + x.room))
    where
      which : Dec ((get_or rows r no_row).job.deadline ≤ x.since + x.room) → Tight rows base r (x.row ∷ below)
      which (yes h) = top_tight base r (x.row ∷ below) (omega (arith, u.exact))
      which (no n) = onto_tight base (x.since + x.room) r x.row below (omega (arith, u.exact)) u.later k

  pub below_tight : (base r b : ℕ) (es : List Entry) → base + (get_or rows r no_row).left ≡ b
      → Below rows t (get_or rows r no_row).job.deadline b es → Tight rows base r (rows_of es)
  unfolding rows_of
  below_tight base r b [] e k = top_tight base r [] (omega arith)
  below_tight base r b (x ∷ es) e k = under_tight base r b x (rows_of es) e k.0 (below_tight (x.since + x.room) x.row (x.since + x.room + (get_or rows x.row no_row).left) es refl k.1)

-- No more room would do for a running job r and what is below it.
pub room_tight : {ph : Phase} {t r : ℕ} {s : State} → Wf ph t s → s.proc ≡ running r → Tight s.rows (t + s.room) r (rows_of s.delayed)
room_tight {t = t} {r} {s} w e = below_tight s.rows t (t + s.room) r _ s.delayed refl (busy w e).below
