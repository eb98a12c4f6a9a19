-- What holds at every point of every run, as one record that later modules read: of each row, of the stack, of held value and of
-- room. That A, B and C keep it is proved in WfKept, and that D does in WfGiven. Rests on Stack and Steps.
use Prim.Native.Nat.{ℕ, ◌+◌, ◌≤◌, ◌<◌}
use native.Mathlib.Omega.{arith}
use mathlib.Core.Path.{◌≡◌, refl, sym, ap, subst, ◌∙◌}
use mathlib.Core.List.{List, []}
use lib.ListN.{length, get_or}
use Rattle.rules.specs.Job.{Job}
use Rattle.rules.specs.State.{Fate, Row, Proc, State, no_row, row_of, cost_of, deadline_of, left_of, waiting, taken, finished, dropped, idle, running}
use Rattle.promises.specs.Lawful.{Waits}
use Rattle.promises.proofs.Rows.{at_and_beside, inside, finished_not_waiting}
use Rattle.promises.proofs.Sums.{sum_by}
use Rattle.promises.proofs.RowNumbers.{same, same_self, same_other, occurs, over_part}
use Rattle.promises.proofs.Stack.{rows_of, stack_of, held_by, Below, below_fits, Lax, below_lax}
use Rattle.promises.proofs.Steps.{Phase, opening, offering, announcing, deciding}

-- A waiting job is not through, and could still be by its deadline if it ran now: its latest start is at least t.
pub record WaitingOk (t : ℕ) (j : Job) (left : ℕ) : Type 0 where
  pub unfinished : 1 ≤ left
  pub startable : t + left ≤ j.deadline

-- A job finished at u got all its cost between its release and its deadline.
pub record FinishedOk (t u : ℕ) (j : Job) (left : ℕ) : Type 0 where
  pub through : left ≡ 0
  pub past : u ≤ t
  pub on_time : u ≤ j.deadline
  pub enough : j.release + j.cost ≤ u

-- A job dropped at u had latest start u.
pub record DroppedOk (t u : ℕ) (j : Job) (left : ℕ) : Type 0 where
  pub unfinished : 1 ≤ left
  pub past : u ≤ t
  pub due : u + left ≡ j.deadline

abbrev pub FateOk : ℕ → Fate → Job → ℕ → Type 0
FateOk t waiting j left = WaitingOk t j left
FateOk t taken j left = Unit {0}
FateOk t (finished u) j left = FinishedOk t u j left
FateOk t (dropped u) j left = DroppedOk t u j left

-- Remaining is at most the cost, the window is long enough, and the ticks given were given since the release.
pub record RowOk (t : ℕ) (r : Row) : Type 0 where
  pub within : r.left ≤ r.job.cost
  pub window : r.job.release + r.job.cost ≤ r.job.deadline
  pub since : r.job.release + r.job.cost ≤ t + r.left
  pub fate : FateOk t r.fate r.job r.left

pub fate_ok : {t : ℕ} {f : Fate} {r : Row} → RowOk t r → r.fate ≡ f → FateOk t f r.job r.left
fate_ok {t} {r = r} k e = subst (λ (g : Fate). FateOk t g r.job r.left) e k.fate

-- 1 for a row that runs or is delayed, else 0.
unfoldable pub if_taken : Fate → ℕ
if_taken waiting = 0
if_taken taken = 1
if_taken (finished u) = 0
if_taken (dropped u) = 0

-- Row j is on offer in this phase.
abbrev pub OnOffer : Phase → ℕ → Type 0
OnOffer opening j = ⊥
OnOffer (offering i) j = j ≡ i
OnOffer announcing j = ⊥
OnOffer deciding j = ⊥

-- A row on offer waits.
abbrev pub OfferWaits : Phase → List Row → Type 0
OfferWaits opening rows = Unit {0}
OfferWaits (offering i) rows = Waits rows i
OfferWaits announcing rows = Unit {0}
OfferWaits deciding rows = Unit {0}

-- The running job may be through before A, and never after it.
unfoldable pub least_left : Phase → ℕ
least_left opening = 0
least_left (offering i) = 1
least_left announcing = 1
least_left deciding = 1

-- Idle means that nothing waits, but for a row on offer, and nothing is delayed.
pub record Resting (ph : Phase) (s : State) : Type 0 where
  pub nothing_delayed : s.delayed ≡ []
  pub nothing_waits : (j : ℕ) → Waits s.rows j → OnOffer ph j

-- While row r runs, room is exact.
pub record Busy (ph : Phase) (t : ℕ) (s : State) (r : ℕ) : Type 0 where
  pub unfinished : least_left ph ≤ left_of s r
  pub below : Below s.rows t (deadline_of s r) (t + s.room + left_of s r) s.delayed

abbrev pub ProcOk : Phase → ℕ → State → Proc → Type 0
ProcOk ph t s idle = Resting ph s
ProcOk ph t s (running r) = Busy ph t s r

pub record Wf (ph : Phase) (t : ℕ) (s : State) : Type 0 where
  pub proc : ProcOk ph t s s.proc
  pub offer : OfferWaits ph s.rows
  pub row : (j : ℕ) → RowOk t (row_of s j)
  pub once : (j : ℕ) → occurs j (stack_of s.proc s.delayed) ≡ if_taken (row_of s j).fate
  pub held : s.held ≡ held_by s.rows s.delayed

pub resting : {ph : Phase} {t : ℕ} {s : State} → Wf ph t s → s.proc ≡ idle → Resting ph s
resting {ph} {t} {s} w e = subst (ProcOk ph t s) e w.proc

pub busy : {ph : Phase} {t r : ℕ} {s : State} → Wf ph t s → s.proc ≡ running r → Busy ph t s r
busy {ph} {t} {s = s} w e = subst (ProcOk ph t s) e w.proc

pub waits_inside : (rows : List Row) (i : ℕ) → Waits rows i → i < length rows
waits_inside rows i w = inside rows i (λ e. finished_not_waiting (sym e ∙ w))

pub taken_inside : (rows : List Row) (i : ℕ) → 1 ≤ if_taken (get_or rows i no_row).fate → i < length rows
unfolding if_taken
taken_inside rows i h = inside rows i (λ e. let z : if_taken (get_or rows i no_row).fate ≡ 0 = ap if_taken e in omega arith)

-- A waiting row is not in the stack.
pub waits_not_taken : {ph : Phase} {t : ℕ} {s : State} → Wf ph t s → (i : ℕ) → Waits s.rows i → occurs i (stack_of s.proc s.delayed) ≡ 0
unfolding if_taken
waits_not_taken w i e = w.once i ∙ ap if_taken e

-- While row r runs, the taken rows are r and the delayed ones.
pub once_running : {ph : Phase} {t r : ℕ} {s : State} → Wf ph t s → s.proc ≡ running r → (j : ℕ) → same j r + occurs j (rows_of s.delayed) ≡ if_taken (row_of s j).fate
unfolding sum_by stack_of
once_running {s = s} w e j = subst (λ (p : Proc). occurs j (stack_of p s.delayed) ≡ if_taken (row_of s j).fate) e (w.once j)

pub if_taken-small : (f : Fate) → if_taken f ≤ 1
unfolding if_taken
if_taken-small waiting = omega arith
if_taken-small taken = omega arith
if_taken-small (finished u) = omega arith
if_taken-small (dropped u) = omega arith

pub least_left-small : (ph : Phase) → least_left ph ≤ 1
unfolding least_left
least_left-small opening = omega arith
least_left-small (offering i) = omega arith
least_left-small announcing = omega arith
least_left-small deciding = omega arith

if_taken_lem : (f : Fate) → 1 ≤ if_taken f → f ≡ taken
unfolding if_taken
if_taken_lem waiting h = absurd (omega arith)
if_taken_lem taken h = refl
if_taken_lem (finished u) h = absurd (omega arith)
if_taken_lem (dropped u) h = absurd (omega arith)

-- The running row is one of the rows, and is not delayed.
pub running_inside : {ph : Phase} {t r : ℕ} {s : State} → Wf ph t s → s.proc ≡ running r → r < length s.rows
running_inside {r = r} {s = s} w e = taken_inside s.rows r (omega (arith, once_running w e r, same_self r))

pub running_not_delayed : {ph : Phase} {t r : ℕ} {s : State} → Wf ph t s → s.proc ≡ running r → occurs r (rows_of s.delayed) ≡ 0
running_not_delayed {r = r} {s = s} w e =
    omega (arith, once_running w e r, same_self r, if_taken-small (row_of s r).fate)

-- A delayed row is taken, and so one of the rows.
pub delayed_inside : {ph : Phase} {t r : ℕ} {s : State} → Wf ph t s → s.proc ≡ running r → (j : ℕ) → 1 ≤ occurs j (rows_of s.delayed) → j < length s.rows
delayed_inside {s = s} w e j o = taken_inside s.rows j (omega (arith, once_running w e j))

-- Every job in the stack could still be through by its deadline if it ran now.
pub taken_lax : {ph : Phase} {t r : ℕ} {s : State} → Wf ph t s → s.proc ≡ running r → (j : ℕ) → (row_of s j).fate ≡ taken
    → (least_left ph ≤ left_of s j) × (t + left_of s j ≤ deadline_of s j)
unfolding if_taken
taken_lax {ph} {t} {r} {s} w e =
    let k : Busy ph t s r = busy w e in
    at_and_beside (λ (j : ℕ). (row_of s j).fate ≡ taken → (least_left ph ≤ left_of s j) × (t + left_of s j ≤ deadline_of s j)) r
    (λ _. (k.unfinished, omega (arith, below_fits s.rows t _ _ s.delayed k.below)))
    (λ j n f.
    let l : Lax s.rows t (deadline_of s r) j =
    below_lax s.rows t _ _ s.delayed (omega arith) k.below j (omega (arith, same_other j r n, once_running w e j, ap if_taken f)) in
    omega (arith, least_left-small ph))

-- The running row is taken.
pub running_taken : {ph : Phase} {t r : ℕ} {s : State} → Wf ph t s → s.proc ≡ running r → (row_of s r).fate ≡ taken
running_taken {r = r} {s = s} w e = if_taken_lem (row_of s r).fate (omega (arith, once_running w e r, same_self r))

-- A taken row costs no more than the running one and the held value together.
pub taken_cost : {ph : Phase} {t r : ℕ} {s : State} → Wf ph t s → s.proc ≡ running r → (j : ℕ) → (row_of s j).fate ≡ taken
    → cost_of s j ≤ cost_of s r + s.held
unfolding if_taken
taken_cost {r = r} {s = s} w e =
    at_and_beside (λ (j : ℕ). (row_of s j).fate ≡ taken → cost_of s j ≤ cost_of s r + s.held) r (λ _. omega arith)
    (λ j n f. omega (arith, w.held, over_part (λ i. cost_of s i) (rows_of s.delayed) j (omega (arith, same_other j r n, once_running w e j, ap if_taken f))))

-- While nothing runs, no row is taken.
pub idle_not_taken : {ph : Phase} {t : ℕ} {s : State} → Wf ph t s → s.proc ≡ idle → (j : ℕ) → if_taken (row_of s j).fate ≡ 0
unfolding sum_by rows_of stack_of
idle_not_taken w e j = let d = (resting w e).nothing_delayed in sym (w.once j) ∙ cc
