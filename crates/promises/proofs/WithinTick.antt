-- The states met within one tick, sub-step by sub-step, and that A, B and C of the rules meet nothing else. So what every
-- sub-step keeps holds at every point of the tick. Rests on Steps and WfKept, and on lawful picks.
use Prim.Native.Nat.{ℕ, zero, suc, ◌+◌, ◌*◌}
use native.Mathlib.Omega.{arith}
use mathlib.Core.Path.{◌≡◌, refl, ap}
use mathlib.Core.Logic.{◌≢◌}
use mathlib.Core.Option.{Option, none, some}
use mathlib.Core.List.{List, [], ◌∷◌}
use lib.Dec.{leb, ltb, eqb}
use lib.ListN.{length}
use borrow.Author.Tests.{ltb-true, ltb-false, leb-true, leb-false, eqb-true, eqb-false, lt-ltb}
use Rattle.rules.specs.Job.{Job, Feasible}
use Rattle.rules.specs.State.{Proc, Entry, State, cost_of, deadline_of, left_of, idle, running}
use Rattle.rules.specs.Picks.{Picks}
use Rattle.rules.specs.Announce.{offer_to, offer, append, announce}
use Rattle.rules.specs.Finish.{settle_finished, resume, offer_earlier, start_first, run_next, finish_row, finish_of, finish}
use Rattle.rules.specs.LatestStarts.{running_cost, decide, if_found, decide_all}
use Rattle.rules.specs.Run.{decided}
use Rattle.promises.specs.Lawful.{Due, IsFirst, IsNext, Lawful}
use Rattle.rules.proofs.Choose.{by_test, by_both}
use Rattle.promises.proofs.Steps.{Phase, opening, offering, announcing, deciding, Step, rests, runs_on, idles, starts_first, resumes, resumes_offering, starts, preempts, waits_on, appears, decides, takes_over, is_dropped, NothingDue}
use Rattle.promises.proofs.Wf.{Wf, resting}
use Rattle.promises.proofs.WfKept.{wf_step}

pub data Met (t : ℕ) (opened : State) : Phase → State → Type 0 where
  opens : Met t opened opening opened
  then : {ph ph' : Phase} {s s' : State} → Met t opened ph s → Step t ph s ph' s' → Met t opened ph' s'

pub met_wf : {t : ℕ} {opened : State} → Wf opening t opened → {ph : Phase} {s : State} → Met t opened ph s → Wf ph t s
met_wf w opens = w
met_wf w (then m x) = wf_step (met_wf w m) x

-- Each sub-step at t keeps Q.
pub record KeptWithin (t : ℕ) (Q : Phase → State → Type 0) : Type 0 where
  pub steps : {ph ph' : Phase} {s s' : State} → Wf ph t s → Q ph s → Step t ph s ph' s' → Q ph' s'

-- Then Q holds at every point of the tick.
pub met_keeps : {t : ℕ} {opened : State} (Q : Phase → State → Type 0) → KeptWithin t Q → Wf opening t opened → Q opening opened
    → {ph : Phase} {s : State} → Met t opened ph s → Q ph s
met_keeps Q k w q opens = q
met_keeps Q k w q (then m x) = k.steps (met_wf w m) (met_keeps Q k w q m) x

-- Every job of the list has release t and is feasible: what may be announced at t.
abbrev pub Timely : ℕ → List Job → Type 0
Timely t [] = Unit {0}
Timely t (j ∷ js) = (j.release ≡ t) × Feasible j × Timely t js

-- What step C found, or that nothing is due.
pub if_found_lem : {t : ℕ} {s : State} (P : State → Type 0) (f : ℕ → State) → (NothingDue t s.rows → P s)
    → ((i : ℕ) → Due t s.rows i → P (f i)) → (o : Option ℕ) → IsNext t s.rows o → P (if_found o s f)
unfolding if_found IsNext
if_found_lem P f at_end at_row none n = at_end n
if_found_lem P f at_end at_row (some i) due = at_row i due

module _ {p : Picks} (l : Lawful p) {t : ℕ} {opened : State} (w : Wf opening t opened) where
  offer_to_met : {i : ℕ} {s : State} (pr : Proc) → s.proc ≡ pr → Met t opened (offering i) s → Met t opened announcing (offer_to pr t i s)
  unfolding offer_to
  offer_to_met idle e m = then m (starts e)
  offer_to_met {i} {s} (running r) e m =
      by_both (Met t opened announcing) (ltb (deadline_of s i) (deadline_of s r)) (leb (left_of s i) s.room)
      (λ a b. then m (preempts e (ltb-true _ _ a) (leb-true _ _ b)))
      (λ n. then m (waits_on e (λ earlier. leb-false _ _ (n (lt-ltb _ _ earlier)))))

  -- A, with the running row r through.
  module _ {r : ℕ} (e : opened.proc ≡ running r) (z : left_of opened r ≡ 0) where
    start_first_met : opened.delayed ≡ [] → (o : Option ℕ) → IsFirst (settle_finished t r opened).rows o
        → Met t opened announcing (start_first o t (settle_finished t r opened))
    unfolding start_first IsFirst
    start_first_met d none n = then opens (idles e z d n)
    start_first_met d (some i) f = then opens (starts_first i e z d f)

    offer_earlier_met : {x : Entry} {rest : List Entry} → opened.delayed ≡ x ∷ rest → (o : Option ℕ) → IsFirst (settle_finished t r opened).rows o
        → Met t opened announcing (offer_earlier o t x.row (resume t x rest (settle_finished t r opened)))
    unfolding offer_earlier resume IsFirst
    offer_earlier_met d none n = then opens (resumes e z d (λ j q. absurd (n j q)))
    offer_earlier_met {x} {rest} d (some i) f =
        by_test (Met t opened announcing) (ltb (deadline_of (settle_finished t r opened) i) (deadline_of (settle_finished t r opened) x.row))
        (λ q. offer_to_met (running x.row) refl (then opens (resumes_offering e z d f (ltb-true _ _ q))))
        (λ q. then opens (resumes e z d (λ j m. omega (arith, f.1 j m, ltb-false))))

    run_next_met : (es : List Entry) → opened.delayed ≡ es → Met t opened announcing (run_next p es t (settle_finished t r opened))
    unfolding run_next
    run_next_met [] d = start_first_met d _ (l.first _)
    run_next_met (x ∷ rest) d = offer_earlier_met d _ (l.first _)

  finish_of_met : (pr : Proc) → opened.proc ≡ pr → Met t opened announcing (finish_of p pr t opened)
  unfolding finish_of finish_row
  finish_of_met idle e = then opens (rests e)
  finish_of_met (running r) e =
      by_test (Met t opened announcing) (eqb (left_of opened r) 0)
      (λ q. run_next_met e (eqb-true _ _ q) opened.delayed refl)
      (λ q. let n : left_of opened r ≢ 0 = eqb-false _ _ q in then opens (runs_on e (omega arith)))

  announce_met : {s : State} (js : List Job) → Timely t js → Met t opened announcing s → Met t opened announcing (announce t js s)
  unfolding announce
  announce_met [] k m = m
  announce_met {s} (j ∷ js) k m = announce_met {s = offer t (length s.rows) (append j s)} js k.2 (offer_to_met _ refl (then m (appears j k.0 k.1)))

  decide_for_met : {s : State} (i : ℕ) → Due t s.rows i → (pr : Proc) → s.proc ≡ pr → Met t opened deciding s → Met t opened deciding (decide t i s)
  unfolding decide running_cost
  decide_for_met i due idle e m = absurd ((resting (met_wf w m) e).nothing_waits i due.0)
  decide_for_met {s} i due (running r) e m =
      let c : running_cost s s.proc ≡ cost_of s r = ap (running_cost s) e in
      by_test (Met t opened deciding) (ltb (2 * (running_cost s s.proc + s.held)) (cost_of s i))
      (λ q. then m (takes_over i e due (omega (arith, ltb-true))))
      (λ q. then m (is_dropped i e due (omega (arith, ltb-false))))

  pub decide_met : {s : State} (i : ℕ) → Due t s.rows i → Met t opened deciding s → Met t opened deciding (decide t i s)
  decide_met {s} i due m = decide_for_met i due s.proc refl m

  decide_all_met : {s : State} (k : ℕ) → Met t opened deciding s → Met t opened deciding (decide_all p k t s)
  unfolding decide_all
  decide_all_met zero m = m
  decide_all_met {s} (suc k) m =
      if_found_lem (Met t opened deciding) (λ i. decide_all p k t (decide t i s)) (λ _. m)
      (λ i due. decide_all_met {s = decide t i s} k (decide_met i due m)) (p.next t s.rows) (l.next t s.rows)

  -- What C begins with is met.
  pub announced_met : (js : List Job) → Timely t js → Met t opened deciding (announce t js (finish p t opened))
  announced_met js k = then (announce_met js k (finish_of_met opened.proc refl)) decides

  -- What is decided in a tick is met.
  pub decided_met : (js : List Job) → Timely t js → Met t opened deciding (decided p t js opened)
  unfolding decided
  decided_met js k = decide_all_met _ (announced_met js k)
