-- Within a tick for which a plan serves all that remains, the earliest deadline runs: what waits is no earlier than what runs.
-- So every earlier offer is accepted, step C finds nothing to decide, and no row is dropped. Rests on Served.
use Prim.Native.Nat.{ℕ, ◌≤◌, ◌<◌, min}
use native.Mathlib.Nat.{le_refl, le_of_eq}
use native.Mathlib.Omega.{arith}
use mathlib.Core.Path.{◌≡◌, refl, sym, ap, subst}
use mathlib.Core.List.{List, [], ◌∷◌, ◌++◌}
use lib.ListN.{length, get_or}
use lib.Seq.{get_or-append_seam}
use Rattle.rules.specs.Job.{Job}
use Rattle.rules.specs.State.{Fate, Row, Proc, State, no_row, row_of, deadline_of, left_of, mark, waiting, taken, finished, dropped, idle, running}
use Rattle.rules.specs.Announce.{start, preempt, append}
use Rattle.rules.specs.Finish.{settle_finished, go_idle, resume}
use Rattle.promises.specs.Plan.{Plan}
use Rattle.promises.specs.Lawful.{Waits, IsFirst}
use Rattle.promises.proofs.Rows.{all_set, Same, same-mark, all_append, same-append}
use Rattle.promises.proofs.Steps.{Phase, opening, offering, announcing, deciding, Step, rests, runs_on, idles, starts_first, resumes, resumes_offering, starts, preempts, waits_on, appears, decides, takes_over, is_dropped}
use Rattle.promises.proofs.Wf.{least_left, Wf, resting, busy, waits_inside, running_inside}
use Rattle.promises.proofs.Served.{Served, accepted, not_due}

-- The earlier deadline of the running row r and of a row on offer.
abbrev pub soonest : Phase → List Row → ℕ → ℕ
soonest opening rows r = (get_or rows r no_row).job.deadline
soonest (offering i) rows r = min (get_or rows r no_row).job.deadline (get_or rows i no_row).job.deadline
soonest announcing rows r = (get_or rows r no_row).job.deadline
soonest deciding rows r = (get_or rows r no_row).job.deadline

-- No waiting row has an earlier deadline than the row that runs, or than the one on offer.
abbrev pub Earliest : Phase → List Row → Proc → Type 0
Earliest ph rows idle = Unit {0}
Earliest ph rows (running r) = (j : ℕ) → Waits rows j → soonest ph rows r ≤ (get_or rows j no_row).job.deadline

abbrev pub NotDropped : Fate → Type 0
NotDropped waiting = Unit {0}
NotDropped taken = Unit {0}
NotDropped (finished u) = Unit {0}
NotDropped (dropped u) = ⊥

pub record Foremost (ph : Phase) (rows : List Row) (pr : Proc) : Type 0 where
  pub earliest : Earliest ph rows pr
  pub none_dropped : (j : ℕ) → NotDropped (get_or rows j no_row).fate

pub foremost_runs : {ph : Phase} {rows : List Row} {pr : Proc} {r : ℕ} → Foremost ph rows pr → pr ≡ running r → Earliest ph rows (running r)
foremost_runs {ph} {rows} f e = subst (Earliest ph rows) e f.earliest

mark_not_dropped : (rows : List Row) (i : ℕ) (f : Fate) → i < length rows → ((j : ℕ) → NotDropped (get_or rows j no_row).fate) → NotDropped f
    → (j : ℕ) → NotDropped (get_or (mark i f rows) j no_row).fate
mark_not_dropped rows i f h n k = all_set (λ (j : ℕ) (r : Row). NotDropped r.fate) rows i _ h k (λ j _. n j)

-- The phase moves on and the deadline to beat is no later.
pub phase_foremost : {rows : List Row} (ph ph' : Phase) (pr : Proc) → ((r : ℕ) → soonest ph' rows r ≤ soonest ph rows r) → Foremost ph rows pr → Foremost ph' rows pr
phase_foremost ph ph' idle h f = record { earliest = tt; none_dropped = f.none_dropped }
phase_foremost ph ph' (running r) h f = record { earliest = λ j w. omega (arith, h r, f.earliest j w); none_dropped = f.none_dropped }

-- A waiting row of least deadline comes to run.
taken_foremost : (rows : List Row) (i : ℕ) → Waits rows i → ((j : ℕ) → Waits rows j → (get_or rows i no_row).job.deadline ≤ (get_or rows j no_row).job.deadline)
    → ((j : ℕ) → NotDropped (get_or rows j no_row).fate) → Foremost announcing (mark i taken rows) (running i)
taken_foremost rows i w least n =
    let h : i < length rows = waits_inside rows i w in
    let m : Same rows (mark i taken rows) i = same-mark rows i taken i in
    record {
      earliest =
          all_set (λ (j : ℕ) (r : Row). r.fate ≡ waiting → (get_or (mark i taken rows) i no_row).job.deadline ≤ r.job.deadline) rows i _ h
          (λ _. omega arith)
          (λ j _ q. omega (arith, least j q));
      none_dropped = mark_not_dropped rows i taken h n tt;
    }

settled_not_dropped : {ph : Phase} {t r : ℕ} {s : State} → Wf ph t s → s.proc ≡ running r → Foremost ph s.rows s.proc
    → (j : ℕ) → NotDropped (row_of (settle_finished t r s) j).fate
unfolding settle_finished
settled_not_dropped {t = t} {r} {s} w e f = mark_not_dropped s.rows r (finished t) (running_inside w e) f.none_dropped tt

append_earliest : {t : ℕ} {s : State} → Wf announcing t s → (j : Job) → (pr : Proc) → s.proc ≡ pr → Earliest announcing s.rows pr
    → Earliest (offering (length s.rows)) (append j s).rows pr
unfolding append
append_earliest w j idle e k = tt
append_earliest {s = s} w j (running r) e k =
    let x : Row = record { job = j; left = j.cost; fate = waiting } in
    let m : Same s.rows (s.rows ++ (x ∷ [])) r = same-append s.rows x r (running_inside w e) in
    all_append
    (λ (i : ℕ) (y : Row). y.fate ≡ waiting → soonest (offering (length s.rows)) (s.rows ++ (x ∷ [])) r ≤ y.job.deadline)
    s.rows x
    (λ _. omega (arith, ap (λ (y : Row). y.job.deadline) (get_or-append_seam s.rows x [] no_row)))
    (λ i n q. omega (arith, k i q))

module _ {jobs : List Job} {q : Plan} {t : ℕ} where
  -- The row on offer waits on: it was no earlier, or there would have been room.
  waits_foremost : {r i : ℕ} {s : State} → Wf (offering i) t s → Served jobs q t s.rows → s.proc ≡ running r
      → (deadline_of s i < deadline_of s r → s.room < left_of s i) → Foremost (offering i) s.rows s.proc → Foremost announcing s.rows s.proc
  waits_foremost {r} {i} {s} w v e n f =
      let late : ¬ (deadline_of s i < deadline_of s r) = λ h. omega (arith, n h, accepted w v i e w.offer h) in
      record {
        earliest = subst (Earliest announcing s.rows) (sym e) (λ j o. omega (arith, foremost_runs f e j o));
        none_dropped = f.none_dropped;
      }

  pub foremost_step : {ph ph' : Phase} {s s' : State} → Wf ph t s → Served jobs q t s.rows → Foremost ph s.rows s.proc → Step t ph s ph' s'
      → Foremost ph' s'.rows s'.proc
  unfolding go_idle start preempt append resume IsFirst least_left
  foremost_step w v f (rests {s} e) = phase_foremost opening announcing s.proc (λ r. le_refl _) f
  foremost_step w v f (runs_on {s} e u) = phase_foremost opening announcing s.proc (λ r. le_refl _) f
  foremost_step w v f (idles e z d n) = record { earliest = tt; none_dropped = settled_not_dropped w e f }
  foremost_step w v f (starts_first {s} {r} i e z d k) = taken_foremost (settle_finished t r s).rows i k.0 k.1 (settled_not_dropped w e f)
  foremost_step w v f (resumes e z d n) = record { earliest = n; none_dropped = settled_not_dropped w e f }
  foremost_step w v f (resumes_offering e z d k n) = record { earliest = λ j o. omega (arith, k.1 j o); none_dropped = settled_not_dropped w e f }
  foremost_step w v f (starts {s} {i} e) =
      taken_foremost s.rows i w.offer (λ j o. le_of_eq (ap (deadline_of s) (sym ((resting w e).nothing_waits j o)))) f.none_dropped
  foremost_step w v f (preempts {s} {r} {i} e earlier roomy) =
      taken_foremost s.rows i w.offer (λ j o. omega (arith, foremost_runs f e j o)) f.none_dropped
  foremost_step w v f (waits_on e n) = waits_foremost w v e n f
  foremost_step w v f (appears {s} j released feasible) =
      record {
        earliest = append_earliest w j s.proc refl f.earliest;
        none_dropped = all_append (λ (i : ℕ) (r : Row). NotDropped r.fate) s.rows _ tt (λ i n. f.none_dropped i);
      }
  foremost_step w v f (decides {s}) = phase_foremost announcing deciding s.proc (λ r. le_refl _) f
  foremost_step w v f (takes_over i e due costly) = absurd (not_due w v i e (busy w e).unfinished (foremost_runs f e i due.0) due)
  foremost_step w v f (is_dropped i e due cheap) = absurd (not_due w v i e (busy w e).unfinished (foremost_runs f e i due.0) due)
