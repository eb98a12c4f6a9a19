-- The sub-steps of a tick as a relation between states: what A, B and C do, one change at a time, each with the facts under
-- which it happens. An invariant is proved by one clause for each (see Always). Rests on the tick rules.
use Prim.Native.Nat.{ℕ, ◌+◌, ◌*◌, ◌≤◌, ◌<◌}
use mathlib.Core.Path.{◌≡◌}
use mathlib.Core.Option.{some}
use mathlib.Core.List.{List, [], ◌∷◌}
use lib.ListN.{length}
use Rattle.rules.specs.Job.{Job, Feasible}
use Rattle.rules.specs.State.{Row, Entry, State, cost_of, deadline_of, left_of, idle, running}
use Rattle.rules.specs.Announce.{start, preempt, append}
use Rattle.rules.specs.Finish.{settle_finished, go_idle, resume}
use Rattle.rules.specs.LatestStarts.{take_over, drop_row}
use Rattle.promises.specs.Lawful.{Waits, Due, IsFirst}

-- Where in a tick a state stands: before A; with a row on offer, in A or B; between A and C otherwise; in C or after it.
pub data Phase : Type 0 where
  opening : Phase
  offering : ℕ → Phase
  announcing : Phase
  deciding : Phase

-- One sub-step at tick t, from a phase and a state to the next ones.
pub data Step (t : ℕ) : Phase → State → Phase → State → Type 0 where
  -- A. Nothing runs, or the running row r is not through.
  rests : {s : State} → s.proc ≡ idle → Step t opening s announcing s
  runs_on : {s : State} {r : ℕ} → s.proc ≡ running r → 1 ≤ left_of s r → Step t opening s announcing s
  -- A. The running row r is through: idle, or the first waiting row i runs, or the last entry e comes out. Then the first
  -- waiting row i is offered if it has the earlier deadline.
  idles : {s : State} {r : ℕ} → s.proc ≡ running r → left_of s r ≡ 0 → s.delayed ≡ []
      → ((j : ℕ) → Waits (settle_finished t r s).rows j → ⊥)
      → Step t opening s announcing (go_idle (settle_finished t r s))
  starts_first : {s : State} {r : ℕ} (i : ℕ) → s.proc ≡ running r → left_of s r ≡ 0 → s.delayed ≡ []
      → IsFirst (settle_finished t r s).rows (some i)
      → Step t opening s announcing (start t i (settle_finished t r s))
  resumes : {s : State} {r : ℕ} {e : Entry} {rest : List Entry} → s.proc ≡ running r → left_of s r ≡ 0 → s.delayed ≡ e ∷ rest
      → ((j : ℕ) → Waits (settle_finished t r s).rows j → deadline_of (settle_finished t r s) e.row ≤ deadline_of (settle_finished t r s) j)
      → Step t opening s announcing (resume t e rest (settle_finished t r s))
  resumes_offering : {s : State} {r i : ℕ} {e : Entry} {rest : List Entry} → s.proc ≡ running r → left_of s r ≡ 0 → s.delayed ≡ e ∷ rest
      → IsFirst (settle_finished t r s).rows (some i)
      → deadline_of (settle_finished t r s) i < deadline_of (settle_finished t r s) e.row
      → Step t opening s (offering i) (resume t e rest (settle_finished t r s))
  -- A and B. The row on offer starts an idle processor, preempts, or waits on.
  starts : {s : State} {i : ℕ} → s.proc ≡ idle → Step t (offering i) s announcing (start t i s)
  preempts : {s : State} {r i : ℕ} → s.proc ≡ running r → deadline_of s i < deadline_of s r → left_of s i ≤ s.room
      → Step t (offering i) s announcing (preempt t r i s)
  waits_on : {s : State} {r i : ℕ} → s.proc ≡ running r → (deadline_of s i < deadline_of s r → s.room < left_of s i)
      → Step t (offering i) s announcing s
  -- B. A row is announced.
  appears : {s : State} (j : Job) → j.release ≡ t → Feasible j → Step t announcing s (offering (length s.rows)) (append j s)
  -- C begins; the waiting row i takes over, or is dropped.
  decides : {s : State} → Step t announcing s deciding s
  takes_over : {s : State} {r : ℕ} (i : ℕ) → s.proc ≡ running r → Due t s.rows i → 2 * (cost_of s r + s.held) < cost_of s i
      → Step t deciding s deciding (take_over i s)
  is_dropped : {s : State} {r : ℕ} (i : ℕ) → s.proc ≡ running r → Due t s.rows i → cost_of s i ≤ 2 * (cost_of s r + s.held)
      → Step t deciding s deciding (drop_row t i s)

-- No waiting row has latest start t.
abbrev pub NothingDue : ℕ → List Row → Type 0
NothingDue t rows = (j : ℕ) → Due t rows j → ⊥
