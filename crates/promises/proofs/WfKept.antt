-- That every sub-step of A, B and C keeps Wf: one lemma for each thing that a sub-step may do to the state. Rests on Wf.
use Prim.Native.Nat.{ℕ, ◌+◌, ◌-◌, ◌≤◌, ◌<◌}
use native.Mathlib.Omega.{arith}
use mathlib.Core.Path.{◌≡◌, refl, sym, ap, subst, ◌∙◌}
use mathlib.Core.Logic.{◌≢◌}
use mathlib.Core.List.{List, [], ◌∷◌, ◌++◌, map}
use lib.ListN.{length, get_or, length-map, get_or-eq_default}
use lib.Seq.{get_or-append_seam}
use Rattle.rules.specs.Job.{Job, Feasible}
use Rattle.rules.specs.State.{Fate, Row, Proc, Entry, State, no_row, row_of, deadline_of, left_of, laxity, with_fate, mark, waiting, taken, finished, dropped, idle, running}
use Rattle.rules.specs.Announce.{start, preempt, append}
use Rattle.rules.specs.Finish.{settle_finished, go_idle, resume}
use Rattle.rules.specs.LatestStarts.{displaced, displace, take_over, drop_row}
use Rattle.promises.specs.Lawful.{Waits, Due, IsFirst}
use Rattle.promises.proofs.Rows.{all_set, Same, same-mark, all_append, same-append, get_or-displaced, same-displaced}
use Rattle.promises.proofs.Sums.{sum_by}
use Rattle.promises.proofs.RowNumbers.{same_self, same_other, occurs}
use Rattle.promises.proofs.Stack.{rows_of, stack_of, held_by, Under, Below, below_keeps, held_keeps, below_fits}
use Rattle.promises.proofs.Steps.{Phase, opening, offering, announcing, deciding, Step, rests, runs_on, idles, starts_first, resumes, resumes_offering, starts, preempts, waits_on, appears, decides, takes_over, is_dropped}
use Rattle.promises.proofs.Wf.{WaitingOk, FateOk, RowOk, fate_ok, if_taken, OfferWaits, least_left, Busy, ProcOk, Wf, resting, busy, waits_inside, waits_not_taken, once_running, least_left-small, running_inside, running_not_delayed, delayed_inside, taken_lax, idle_not_taken}

-- The rows after row i has met a fate that suits it.
mark_ok : (t : ℕ) (rows : List Row) (i : ℕ) (f : Fate) → ((j : ℕ) → RowOk t (get_or rows j no_row)) → i < length rows
    → FateOk t f (get_or rows i no_row).job (get_or rows i no_row).left → (j : ℕ) → RowOk t (get_or (mark i f rows) j no_row)
mark_ok t rows i f ok h k =
    all_set (λ (j : ℕ) (r : Row). RowOk t r) rows i (with_fate f (get_or rows i no_row)) h
    (record { within = (ok i).within; window = (ok i).window; since = (ok i).since; fate = k })
    (λ j n. ok j)

-- The stack still holds the taken rows, each once, if it changes at row i alone as the fate of row i does.
once-mark : (rows : List Row) (i : ℕ) (f : Fate) (was is : List ℕ) → i < length rows
    → ((j : ℕ) → occurs j was ≡ if_taken (get_or rows j no_row).fate) → occurs i is ≡ if_taken f
    → ((j : ℕ) → j ≢ i → occurs j is ≡ occurs j was) → (j : ℕ) → occurs j is ≡ if_taken (get_or (mark i f rows) j no_row).fate
once-mark rows i f was is h once at beside =
    all_set (λ (j : ℕ) (r : Row). occurs j is ≡ if_taken r.fate) rows i (with_fate f (get_or rows i no_row)) h at
    (λ j n. beside j n ∙ once j)

-- A: what is true of rows and stack once the running row r is marked as finished, whatever runs next.
module _ {t r : ℕ} {s : State} (w : Wf opening t s) (e : s.proc ≡ running r) (z : left_of s r ≡ 0) where
  settled_row : (j : ℕ) → RowOk t (row_of (settle_finished t r s) j)
  unfolding settle_finished
  settled_row =
      let fits : t + s.room + left_of s r ≤ deadline_of s r = below_fits s.rows t _ _ s.delayed (busy w e).below in
      mark_ok t s.rows r (finished t) w.row (running_inside w e)
      (record { through = z; past = omega arith; on_time = omega arith; enough = omega (arith, (w.row r).since) })

  settled_once : (j : ℕ) → occurs j (rows_of s.delayed) ≡ if_taken (row_of (settle_finished t r s) j).fate
  unfolding settle_finished sum_by stack_of if_taken
  settled_once =
      once-mark s.rows r (finished t) (r ∷ rows_of s.delayed) (rows_of s.delayed) (running_inside w e) (once_running w e)
      (running_not_delayed w e)
      (λ j n. omega (arith, same_other j r n))

-- A state in which nothing runs or is delayed, whatever the processor says.
pub record Free (t : ℕ) (s : State) : Type 0 where
  pub row : (j : ℕ) → RowOk t (row_of s j)
  pub nothing_taken : (j : ℕ) → if_taken (row_of s j).fate ≡ 0
  pub nothing_delayed : s.delayed ≡ []
  pub none_held : s.held ≡ 0

pub idle_free : {ph : Phase} {t : ℕ} {s : State} → Wf ph t s → s.proc ≡ idle → Free t s
unfolding sum_by rows_of stack_of
idle_free {s = s} w e =
    let d : s.delayed ≡ [] = (resting w e).nothing_delayed in
    record {
      row = w.row;
      nothing_taken = idle_not_taken w e;
      nothing_delayed = d;
      none_held = w.held ∙ ap (held_by s.rows) d;
    }

pub settled_free : {t r : ℕ} {s : State} → Wf opening t s → s.proc ≡ running r → left_of s r ≡ 0 → s.delayed ≡ [] → Free t (settle_finished t r s)
unfolding settle_finished sum_by rows_of
settled_free {s = s} w e z d =
    record {
      row = settled_row w e z;
      nothing_taken = λ j. sym (settled_once w e z j) ∙ ap (λ (es : List Entry). occurs j (rows_of es)) d;
      nothing_delayed = d;
      none_held = w.held ∙ ap (held_by s.rows) d;
    }

-- A and B: row i runs on a processor that has nothing else.
start_wf : {t : ℕ} {s : State} → Free t s → (i : ℕ) → Waits s.rows i → Wf announcing t (start t i s)
unfolding start least_left sum_by rows_of stack_of if_taken
start_wf {t} {s} f i w =
    let d : s.delayed ≡ [] = f.nothing_delayed in
    let h : i < length s.rows = waits_inside s.rows i w in
    let k : WaitingOk t (row_of s i).job (row_of s i).left = fate_ok (f.row i) w in
    let m : Same s.rows (mark i taken s.rows) i = same-mark s.rows i taken i in
    let exact : t + laxity t (row_of s i) + (get_or (mark i taken s.rows) i no_row).left ≡ (get_or (mark i taken s.rows) i no_row).job.deadline = omega arith in
    record {
      proc = record { unfinished = omega arith; below = subst (Below (mark i taken s.rows) t _ _) (sym d) exact };
      offer = tt;
      row = mark_ok t s.rows i taken f.row h tt;
      once =
          once-mark s.rows i taken [] (i ∷ rows_of s.delayed) h (λ j. sym (f.nothing_taken j))
          (omega (arith, same_self i, ap (λ (es : List Entry). occurs i (rows_of es)) d))
          (λ j n. omega (arith, same_other j i n, ap (λ (es : List Entry). occurs j (rows_of es)) d));
      held = f.none_held ∙ sym (ap (held_by (mark i taken s.rows)) d);
    }

-- A: nothing is left to run.
idle_wf : {t : ℕ} {s : State} → Free t s → ((j : ℕ) → Waits s.rows j → ⊥) → Wf announcing t (go_idle s)
unfolding go_idle sum_by rows_of stack_of
idle_wf {t} {s} f n =
    let d : s.delayed ≡ [] = f.nothing_delayed in
    record {
      proc = record { nothing_delayed = d; nothing_waits = n };
      offer = tt;
      row = f.row;
      once = λ j. ap (λ (es : List Entry). occurs j (rows_of es)) d ∙ sym (f.nothing_taken j);
      held = f.none_held ∙ sym (ap (held_by s.rows) d);
    }

-- A: the last entry x comes out. The room saved with it, less the ticks since, is exact for the part of the stack that it tops.
resume_wf : {t r : ℕ} {s : State} {x : Entry} {rest : List Entry} (ph : Phase) → OfferWaits ph (settle_finished t r s).rows
    → Wf opening t s → s.proc ≡ running r → left_of s r ≡ 0 → s.delayed ≡ x ∷ rest
    → Wf ph t (resume t x rest (settle_finished t r s))
unfolding settle_finished resume sum_by rows_of stack_of
resume_wf {t} {r} {s} {x} {rest} ph o w e z d =
    let k : Below s.rows t (deadline_of s r) (t + s.room + left_of s r) (x ∷ rest) = subst (Below s.rows t _ _) d (busy w e).below in
    let v : Under s.rows t (deadline_of s r) (t + s.room + left_of s r) x = k.0 in
    let same_rows : (j : ℕ) → Same s.rows (mark r (finished t) s.rows) j = same-mark s.rows r (finished t) in
    let m : Same s.rows (mark r (finished t) s.rows) x.row = same_rows x.row in
    record {
      proc =
          record {
            unfinished = omega (arith, least_left-small ph);
            below = below_keeps s.rows (mark r (finished t) s.rows) t t _ _ _ _ rest (omega arith) (omega arith) (omega arith) (λ j _. same_rows j) k.1;
          };
      offer = o;
      row = settled_row w e z;
      once = λ j. ap (λ (es : List Entry). occurs j (rows_of es)) (sym d) ∙ settled_once w e z j;
      held = omega (arith, w.held, ap (held_by s.rows) d, held_keeps s.rows (mark r (finished t) s.rows) rest (λ j _. same_rows j));
    }

-- A and B: row i preempts row r. The room that is saved with r is exact for r and below; the new room is cut to fit i.
preempt_wf : {t r i : ℕ} {s : State} → Wf (offering i) t s → s.proc ≡ running r → deadline_of s i < deadline_of s r → left_of s i ≤ s.room
    → Wf announcing t (preempt t r i s)
unfolding preempt least_left sum_by rows_of stack_of if_taken
preempt_wf {t} {r} {i} {s} w e earlier roomy =
    let h : i < length s.rows = waits_inside s.rows i w.offer in
    let k : WaitingOk t (row_of s i).job (row_of s i).left = fate_ok (w.row i) w.offer in
    let same_rows : (j : ℕ) → Same s.rows (mark i taken s.rows) j = same-mark s.rows i taken in
    let m : Same s.rows (mark i taken s.rows) i = same_rows i in
    let n : Same s.rows (mark i taken s.rows) r = same_rows r in
    let u : 1 ≤ left_of s r = (busy w e).unfinished in
    record {
      proc =
          record {
            unfinished = omega arith;
            below = (
              record { exact = omega arith; put = omega arith; unfinished = omega arith; later = omega arith },
              below_keeps s.rows (mark i taken s.rows) t t _ _ _ _ s.delayed (omega arith) (omega arith) (omega arith) (λ j _. same_rows j) (busy w e).below,
            );
          };
      offer = tt;
      row = mark_ok t s.rows i taken w.row h tt;
      once =
          once-mark s.rows i taken (r ∷ rows_of s.delayed) (i ∷ r ∷ rows_of s.delayed) h (once_running w e)
          (omega (arith, same_self i, once_running w e i, ap if_taken w.offer))
          (λ j n'. omega (arith, same_other j i n'));
      held = omega (arith, w.held, held_keeps s.rows (mark i taken s.rows) s.delayed (λ j _. same_rows j));
    }

-- B: the announced job waits, and is on offer.
module _ {t : ℕ} {s : State} (w : Wf announcing t s) (j : Job) (released : j.release ≡ t) (feasible : Feasible j) where
  append_proc : (p : Proc) → s.proc ≡ p → ProcOk (offering (length s.rows)) t (append j s) p
  unfolding append least_left
  append_proc idle e =
      record {
        nothing_delayed = (resting w e).nothing_delayed;
        nothing_waits =
            all_append (λ (i : ℕ) (x : Row). x.fate ≡ waiting → i ≡ length s.rows) s.rows (record { job = j; left = j.cost; fate = waiting })
            (λ _. refl)
            (λ i n q. absurd ((resting w e).nothing_waits i q));
      }
  append_proc (running r) e =
      let x : Row = record { job = j; left = j.cost; fate = waiting } in
      let m : Same s.rows (s.rows ++ (x ∷ [])) r = same-append s.rows x r (running_inside w e) in
      let u : 1 ≤ left_of s r = (busy w e).unfinished in
      record {
        unfinished = omega arith;
        below =
            below_keeps s.rows (s.rows ++ (x ∷ [])) t t _ _ _ _ s.delayed (omega arith) (omega arith) (omega arith)
            (λ i o. same-append s.rows x i (delayed_inside w e i o))
            (busy w e).below;
      }

  append_held : (p : Proc) → s.proc ≡ p → held_by (append j s).rows s.delayed ≡ held_by s.rows s.delayed
  unfolding append sum_by rows_of
  append_held idle e = rw (resting w e).nothing_delayed
  append_held (running r) e =
      held_keeps s.rows (append j s).rows s.delayed (λ i o. same-append s.rows _ i (delayed_inside w e i o))

  append_wf : Wf (offering (length s.rows)) t (append j s)
  unfolding append if_taken
  append_wf =
      let x : Row = record { job = j; left = j.cost; fate = waiting } in
      record {
        proc = append_proc s.proc refl;
        offer = ap (λ (r : Row). r.fate) (get_or-append_seam s.rows x [] no_row);
        row =
            all_append (λ (i : ℕ) (r : Row). RowOk t r) s.rows x
            (record { within = omega arith; window = feasible.fits; since = omega arith; fate = record { unfinished = feasible.costly; startable = omega (arith, feasible.fits) } })
            (λ i n. w.row i);
        once =
            all_append (λ (i : ℕ) (r : Row). occurs i (stack_of s.proc s.delayed) ≡ if_taken r.fate) s.rows x
            (w.once (length s.rows) ∙ ap (λ (r : Row). if_taken r.fate) (get_or-eq_default s.rows no_row (omega arith)))
            (λ i n. w.once i);
        held = w.held ∙ sym (append_held s.proc refl);
      }

displaced_ok : (t : ℕ) (f : Fate) (j : Job) (left : ℕ) → FateOk t f j left → (f ≡ taken → WaitingOk t j left) → FateOk t (displaced f) j left
unfolding displaced
displaced_ok t waiting j left k l = k
displaced_ok t taken j left k l = l refl
displaced_ok t (finished u) j left k l = k
displaced_ok t (dropped u) j left k l = k

pub displaced_free : (f : Fate) → if_taken (displaced f) ≡ 0
unfolding displaced if_taken
displaced_free waiting = refl
displaced_free taken = refl
displaced_free (finished u) = refl
displaced_free (dropped u) = refl

-- C: at a takeover all that ran or was delayed waits, and can still start; a dropped row leaves the stack as it is.
module _ {t r : ℕ} {s : State} (w : Wf deciding t s) (e : s.proc ≡ running r) where
  displaced_row : (j : ℕ) → RowOk t (get_or (map displace s.rows) j no_row)
  unfolding displace least_left
  displaced_row j =
      let k : RowOk t (row_of s j) = w.row j in
      subst (RowOk t) (sym (get_or-displaced s.rows j))
      (record {
        within = k.within;
        window = k.window;
        since = k.since;
        fate = displaced_ok t (row_of s j).fate (row_of s j).job (row_of s j).left k.fate
            (λ f. let l : (1 ≤ left_of s j) × (t + left_of s j ≤ deadline_of s j) = taken_lax w e j f in omega arith);
      })

  take_over_wf : (i : ℕ) → Due t s.rows i → Wf deciding t (take_over i s)
  unfolding take_over displace least_left sum_by rows_of stack_of if_taken
  take_over_wf i due =
      let rows : List Row = map displace s.rows in
      let h : i < length rows = rw length-map (waits_inside s.rows i due.0) in
      let k : WaitingOk t (row_of s i).job (row_of s i).left = fate_ok (w.row i) due.0 in
      let l : deadline_of s i - left_of s i ≡ t = omega (arith, due.1) in
      let m : Same s.rows rows i = same-displaced s.rows i in
      let n : Same rows (mark i taken rows) i = same-mark rows i taken i in
      record {
        proc = record { unfinished = omega arith; below = omega arith };
        offer = tt;
        row = mark_ok t rows i taken displaced_row h tt;
        once =
            once-mark rows i taken [] (i ∷ []) h
            (λ j. sym (ap (λ (x : Row). if_taken x.fate) (get_or-displaced s.rows j) ∙ displaced_free (row_of s j).fate))
            (omega (arith, same_self i))
            (λ j o. omega (arith, same_other j i o));
        held = refl;
      }

  drop_wf : (i : ℕ) → Due t s.rows i → Wf deciding t (drop_row t i s)
  unfolding drop_row if_taken
  drop_wf i due =
      let k : WaitingOk t (row_of s i).job (row_of s i).left = fate_ok (w.row i) due.0 in
      let l : deadline_of s i - left_of s i ≡ t = omega (arith, due.1) in
      let same_rows : (j : ℕ) → Same s.rows (mark i (dropped t) s.rows) j = same-mark s.rows i (dropped t) in
      let m : Same s.rows (mark i (dropped t) s.rows) r = same_rows r in
      let b : Busy deciding t s r = busy w e in
      let h : i < length s.rows = waits_inside s.rows i due.0 in
      record {
        proc =
            subst (ProcOk deciding t (drop_row t i s)) (sym e)
            (record {
              unfinished = omega arith;
              below = below_keeps s.rows (mark i (dropped t) s.rows) t t _ _ _ _ s.delayed (omega arith) (omega arith) (omega arith) (λ j _. same_rows j) b.below;
            });
        offer = tt;
        row = mark_ok t s.rows i (dropped t) w.row h (record { unfinished = omega arith; past = omega arith; due = omega arith });
        once =
            once-mark s.rows i (dropped t) (stack_of s.proc s.delayed) (stack_of s.proc s.delayed) h w.once
            (waits_not_taken w i due.0)
            (λ j _. refl);
        held = w.held ∙ sym (held_keeps s.rows (mark i (dropped t) s.rows) s.delayed (λ j _. same_rows j));
      }

-- The state stays, and the phase moves on.
same_state : {ph : Phase} {t : ℕ} {s : State} (ph' : Phase) → OfferWaits ph' s.rows → Wf ph t s → ProcOk ph' t s s.proc → Wf ph' t s
same_state ph' o w k = record { proc = k; offer = o; row = w.row; once = w.once; held = w.held }

still_busy : {ph : Phase} {t r : ℕ} {s : State} (ph' : Phase) → Wf ph t s → s.proc ≡ running r → 1 ≤ left_of s r → ProcOk ph' t s s.proc
still_busy {t = t} {s = s} ph' w e u =
    subst (ProcOk ph' t s) (sym e) (record { unfinished = omega (arith, least_left-small ph'); below = (busy w e).below })

still_resting : {ph : Phase} {t : ℕ} {s : State} (ph' : Phase) → Wf ph t s → s.proc ≡ idle → ((j : ℕ) → Waits s.rows j → ⊥) → ProcOk ph' t s s.proc
still_resting {t = t} {s = s} ph' w e n =
    subst (ProcOk ph' t s) (sym e) (record { nothing_delayed = (resting w e).nothing_delayed; nothing_waits = λ j q. absurd (n j q) })

decides_proc : {t : ℕ} {s : State} → Wf announcing t s → (p : Proc) → s.proc ≡ p → ProcOk deciding t s s.proc
unfolding least_left
decides_proc w idle e = still_resting deciding w e (resting w e).nothing_waits
decides_proc w (running r) e = still_busy deciding w e (busy w e).unfinished

-- One sub-step keeps all that holds.
pub wf_step : {t : ℕ} {ph ph' : Phase} {s s' : State} → Wf ph t s → Step t ph s ph' s' → Wf ph' t s'
unfolding least_left IsFirst
wf_step w (rests e) = same_state announcing tt w (still_resting announcing w e (resting w e).nothing_waits)
wf_step w (runs_on e u) = same_state announcing tt w (still_busy announcing w e u)
wf_step w (idles e z d n) = idle_wf (settled_free w e z d) n
wf_step w (starts_first i e z d f) = start_wf (settled_free w e z d) i f.0
wf_step w (resumes e z d n) = resume_wf announcing tt w e z d
wf_step w (resumes_offering {i = i} e z d f n) = resume_wf (offering i) f.0 w e z d
wf_step w (starts {i = i} e) = start_wf (idle_free w e) i w.offer
wf_step w (preempts e earlier roomy) = preempt_wf w e earlier roomy
wf_step w (waits_on e n) = same_state announcing tt w (still_busy announcing w e (busy w e).unfinished)
wf_step w (appears j released feasible) = append_wf w j released feasible
wf_step w (decides {s}) = same_state deciding tt w (decides_proc w s.proc refl)
wf_step w (takes_over i e due costly) = take_over_wf w e i due
wf_step w (is_dropped i e due cheap) = drop_wf w e i due
