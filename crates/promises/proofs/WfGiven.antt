-- That D leads from the end of one tick, where nothing is due any more, to the opening of the next, and keeps Wf. Rests on Wf.
use Prim.Native.Nat.{ℕ, ◌+◌, ◌-◌, ◌≤◌, ◌<◌}
use native.Mathlib.Omega.{arith}
use mathlib.Core.Path.{◌≡◌, refl, sym, ap, subst, ◌∙◌}
use mathlib.Core.Logic.{◌≢◌}
use lib.ListN.{length, get_or, set}
use lib.Seq.{get_or-set_same}
use Rattle.rules.specs.Job.{Job}
use Rattle.rules.specs.State.{Fate, Row, Proc, State, no_row, row_of, left_of, waiting, taken, finished, dropped, idle, running}
use Rattle.rules.specs.Give.{one_less, give_to, give}
use Rattle.promises.proofs.Rows.{all_set, set_keeps, Same, same_beside}
use Rattle.promises.proofs.RowNumbers.{occurs}
use Rattle.promises.proofs.Stack.{rows_of, below_keeps, held_keeps}
use Rattle.promises.proofs.Steps.{opening, deciding, NothingDue}
use Rattle.promises.proofs.Wf.{FateOk, RowOk, if_taken, least_left, Busy, ProcOk, Wf, resting, busy, running_inside, running_not_delayed, running_taken}

-- D: nothing that waits was due, so everything can still start at the next tick.
later_fate : (t : ℕ) (f : Fate) (j : Job) (left : ℕ) → (f ≡ waiting → j.deadline - left ≡ t → ⊥) → FateOk t f j left → FateOk (t + 1) f j left
later_fate t waiting j left n k = let m : j.deadline - left ≢ t = n refl in record { unfinished = k.unfinished; startable = omega arith }
later_fate t taken j left n k = tt
later_fate t (finished u) j left n k = omega arith
later_fate t (dropped u) j left n k = omega arith

module _ {t : ℕ} {s : State} (w : Wf deciding t s) (none_due : NothingDue t s.rows) where
  later_row : (j : ℕ) → RowOk (t + 1) (row_of s j)
  later_row j =
      let k : RowOk t (row_of s j) = w.row j in
      record {
        within = k.within;
        window = k.window;
        since = omega arith;
        fate = later_fate t (row_of s j).fate (row_of s j).job (row_of s j).left (λ f l. none_due j (f, l)) k.fate;
      }

  give_to_wf : (p : Proc) → s.proc ≡ p → Wf opening (t + 1) (give_to p t s)
  unfolding give_to one_less least_left
  give_to_wf idle e =
      record {
        proc = subst (ProcOk opening (t + 1) s) (sym e) (record { nothing_delayed = (resting w e).nothing_delayed; nothing_waits = (resting w e).nothing_waits });
        offer = tt;
        row = later_row;
        once = w.once;
        held = w.held;
      }
  give_to_wf (running r) e =
      let h : r < length s.rows = running_inside w e in
      let k : RowOk (t + 1) (row_of s r) = later_row r in
      let b : Busy deciding t s r = busy w e in
      let u : 1 ≤ left_of s r = b.unfinished in
      let x : Row = one_less (row_of s r) in
      let at : get_or (set s.rows r x) r no_row ≡ x = get_or-set_same s.rows r x no_row h in
      let left : (get_or (set s.rows r x) r no_row).left ≡ left_of s r - 1 = ap (λ (y : Row). y.left) at in
      let same_rows : (j : ℕ) → 1 ≤ occurs j (rows_of s.delayed) → Same s.rows (set s.rows r x) j =
      λ j o. same_beside s.rows r x j (λ q. let z : occurs j (rows_of s.delayed) ≡ 0 = rw q (running_not_delayed w e) in omega arith) in
      record {
        proc =
            subst (ProcOk opening (t + 1) (give_to (running r) t s)) (sym e)
            (record {
              unfinished = omega arith;
              below =
                  below_keeps s.rows (set s.rows r x) t (t + 1) _ _ _ _ s.delayed (omega arith)
                  (sym (ap (λ (y : Row). y.job.deadline) at))
                  (omega arith)
                  same_rows
                  b.below;
            });
        offer = tt;
        row =
            all_set (λ (j : ℕ) (y : Row). RowOk (t + 1) y) s.rows r x h
            (record { within = omega arith; window = k.window; since = omega (arith, (w.row r).since); fate = subst (λ (f : Fate). FateOk (t + 1) f (row_of s r).job ((row_of s r).left - 1)) (sym (running_taken w e)) tt })
            (λ j n. later_row j);
        once = λ j. w.once j ∙ sym (ap if_taken (set_keeps (λ (y : Row). y.fate) s.rows r x refl j));
        held = w.held ∙ sym (held_keeps s.rows (set s.rows r x) s.delayed same_rows);
      }

pub give_wf : {t : ℕ} {s : State} → Wf deciding t s → NothingDue t s.rows → Wf opening (t + 1) (give t s)
give_wf {s = s} w none_due = give_to_wf w none_due s.proc refl
