-- What becomes of rows and stretches within a tick: A, B and C change no announced row's job, give no tick and leave the stretches;
-- D gives one tick to the running row. So what a row was given is counted by D alone. Rests on WithinTick and Always.
use Prim.Native.Nat.{ℕ, ◌+◌, ◌≤◌, ◌<◌}
use native.Mathlib.Nat.{le_refl, le_trans}
use native.Mathlib.Omega.{arith}
use mathlib.Core.Path.{◌≡◌, refl, sym, ap, ◌∙◌}
use mathlib.Core.Option.{some}
use mathlib.Core.List.{List, [], ◌∷◌, ◌++◌, map}
use lib.ListN.{length, get_or, set, length-append, length-set, length-map, get_or-append, get_or-eq_default}
use lib.Seq.{get_or-set_same, get_or-set_other}
use Rattle.rules.specs.Job.{Job}
use Rattle.rules.specs.State.{Fate, Row, Proc, State, no_row, row_of, given, mark, waiting, taken, finished, dropped, idle, running}
use Rattle.rules.specs.Picks.{Picks}
use Rattle.rules.specs.Announce.{start, preempt, append}
use Rattle.rules.specs.Finish.{settle_finished, go_idle, resume}
use Rattle.rules.specs.LatestStarts.{displace, take_over, drop_row}
use Rattle.rules.specs.Give.{one_less, give_to, give}
use Rattle.rules.specs.Run.{before}
use Rattle.promises.specs.Plan.{goes_to}
use Rattle.promises.specs.RunPlan.{running_row, decided_at}
use Rattle.promises.specs.Lawful.{Lawful}
use Rattle.promises.proofs.Rows.{at_and_beside, set_keeps, all_append, get_or-displaced}
use Rattle.promises.proofs.RowNumbers.{same, same_self, same_other}
use Rattle.promises.proofs.Steps.{Phase, deciding, Step, rests, runs_on, idles, starts_first, resumes, resumes_offering, starts, preempts, waits_on, appears, decides, takes_over, is_dropped}
use Rattle.promises.proofs.Wf.{RowOk, least_left, Busy, Wf, busy, running_inside}
use Rattle.promises.proofs.WithinTick.{met_keeps, Timely}
use Rattle.promises.proofs.Always.{before_wf, decided_at_met}

-- No row is lost, each keeps its job, and none was given a tick. (A row that is not there was given none either.)
pub record Carries (rows rows' : List Row) : Type 0 where
  pub longer : length rows ≤ length rows'
  pub job : (i : ℕ) → i < length rows → (get_or rows' i no_row).job ≡ (get_or rows i no_row).job
  pub given : (i : ℕ) → given (get_or rows' i no_row) ≡ given (get_or rows i no_row)

carries_all : (rows : List Row) → Carries rows rows
carries_all rows = record { longer = le_refl _; job = λ i h. refl; given = λ i. refl }

carries_on : {rows rows' rows'' : List Row} → Carries rows rows' → Carries rows' rows'' → Carries rows rows''
carries_on a b =
    record {
      longer = le_trans a.longer b.longer;
      job = λ i h. b.job i (le_trans h a.longer) ∙ a.job i h;
      given = λ i. b.given i ∙ a.given i;
    }

carries_mark : (i : ℕ) (f : Fate) (rows : List Row) → Carries rows (mark i f rows)
carries_mark i f rows =
    record {
      longer = rw length-set (le_refl _);
      job = λ j h. set_keeps (λ (r : Row). r.job) rows i _ refl j;
      given = set_keeps (λ (r : Row). given r) rows i _ refl;
    }

carries_displaced : (rows : List Row) → Carries rows (map displace rows)
unfolding displace
carries_displaced rows =
    record {
      longer = rw length-map (le_refl _);
      job = λ j h. ap (λ (r : Row). r.job) (get_or-displaced rows j);
      given = λ j. ap (λ (r : Row). given r) (get_or-displaced rows j);
    }

carries_append : (j : Job) (rows : List Row) → Carries rows (rows ++ (record { job = j; left = j.cost; fate = waiting } ∷ []))
carries_append j rows =
    record {
      longer = rw length-append (omega arith);
      job = λ i h. ap (λ (r : Row). r.job) (get_or-append rows _ no_row i h);
      given =
          all_append (λ (i : ℕ) (r : Row). given r ≡ given (get_or rows i no_row)) rows _
          (omega (arith, ap (λ (r : Row). given r) (get_or-eq_default rows no_row (le_refl (length rows)))))
          (λ i n. refl);
    }

pub step_carries : {t : ℕ} {ph ph' : Phase} {s s' : State} → Step t ph s ph' s' → Carries s.rows s'.rows
unfolding go_idle start preempt append take_over drop_row resume settle_finished
step_carries {s = s} (rests e) = carries_all s.rows
step_carries {s = s} (runs_on e u) = carries_all s.rows
step_carries {t} {s = s} (idles {r = r} e z d n) = carries_mark r (finished t) s.rows
step_carries {t} {s = s} (starts_first {r = r} i e z d f) = carries_on (carries_mark r (finished t) s.rows) (carries_mark i taken _)
step_carries {t} {s = s} (resumes {r = r} e z d n) = carries_mark r (finished t) s.rows
step_carries {t} {s = s} (resumes_offering {r = r} e z d f n) = carries_mark r (finished t) s.rows
step_carries {s = s} (starts {i = i} e) = carries_mark i taken s.rows
step_carries {s = s} (preempts {i = i} e earlier roomy) = carries_mark i taken s.rows
step_carries {s = s} (waits_on e n) = carries_all s.rows
step_carries {s = s} (appears j released feasible) = carries_append j s.rows
step_carries {s = s} (decides) = carries_all s.rows
step_carries {s = s} (takes_over i e due costly) = carries_on (carries_displaced s.rows) (carries_mark i taken _)
step_carries {t} {s = s} (is_dropped i e due cheap) = carries_mark i (dropped t) s.rows

-- They leave the stretches as they are.
pub step_stretches : {t : ℕ} {ph ph' : Phase} {s s' : State} → Step t ph s ph' s' → s'.stretches ≡ s.stretches
unfolding go_idle start preempt append take_over drop_row resume settle_finished
step_stretches (rests e) = refl
step_stretches (runs_on e u) = refl
step_stretches (idles e z d n) = refl
step_stretches (starts_first i e z d f) = refl
step_stretches (resumes e z d n) = refl
step_stretches (resumes_offering e z d f n) = refl
step_stretches (starts e) = refl
step_stretches (preempts e earlier roomy) = refl
step_stretches (waits_on e n) = refl
step_stretches (appears j released feasible) = refl
step_stretches (decides) = refl
step_stretches (takes_over i e due costly) = refl
step_stretches (is_dropped i e due cheap) = refl

-- What is decided in tick n leaves the rows so.
pub decided_at_carries : {p : Picks} → Lawful p → (released : ℕ → List Job) → ((t : ℕ) → Timely t (released t))
    → (n : ℕ) → Carries (before p released n).rows (decided_at p released n).rows
decided_at_carries {p} l released timely n =
    met_keeps (λ (ph : Phase) (s : State). Carries (before p released n).rows s.rows)
    (record { steps = λ w c x. carries_on c (step_carries x) })
    (before_wf l released timely n)
    (carries_all (before p released n).rows)
    (decided_at_met l released timely n)

-- D: the running row is given one tick more, and no other row any.
pub give_to-given : {t : ℕ} {s : State} → Wf deciding t s → (pr : Proc) → s.proc ≡ pr
    → (i : ℕ) → given (row_of (give_to pr t s) i) ≡ given (row_of s i) + goes_to i (running_row pr)
unfolding give_to one_less goes_to same running_row least_left
give_to-given w idle e = λ i. omega arith
give_to-given {t} {s} w (running r) e =
    let x : Row = one_less (row_of s r) in
    let k : RowOk t (row_of s r) = w.row r in
    let b : Busy deciding t s r = busy w e in
    at_and_beside (λ (i : ℕ). given (get_or (set s.rows r x) i no_row) ≡ given (row_of s i) + goes_to i (some r)) r
    (omega (arith, ap (λ (y : Row). given y) (get_or-set_same s.rows r x no_row (running_inside w e)), same_self r, k.within, b.unfinished))
    (λ i n. omega (arith, ap (λ (y : Row). given y) (get_or-set_other s.rows r i x no_row n), same_other r i (λ q. n (sym q))))

pub give-given : {t : ℕ} {s : State} → Wf deciding t s → (i : ℕ) → given (row_of (give t s) i) ≡ given (row_of s i) + goes_to i (running_row s.proc)
give-given {s = s} w = give_to-given w s.proc refl
