-- Demand 3, second half: if some plan finishes every row, so does the run. A plan for all that remains is kept from tick to
-- tick: what the run gives to the row that runs is exchanged in the plan. Rests on EarliestFirst, SecondHalf and End.
use Prim.Native.Nat.{ℕ, zero, suc, ◌≤◌, ◌<◌}
use native.Mathlib.Decide.{dec_le}
use native.Mathlib.Omega.{arith}
use mathlib.Core.Path.{◌≡◌, refl, sym, ap, subst, ◌∙◌}
use mathlib.Core.List.{List, []}
use lib.ListN.{length, get_or, set}
use Rattle.rules.specs.Job.{Job, Proper}
use Rattle.rules.specs.State.{Fate, Row, Proc, State, fresh, no_row, row_of, deadline_of, left_of, waiting, taken, finished, dropped, idle, running}
use Rattle.rules.specs.Picks.{Picks}
use Rattle.rules.specs.Give.{one_less, give_to, give}
use Rattle.rules.specs.Run.{tick, before, released_at, run}
use Rattle.rules.specs.Result.{outcome_number}
use Rattle.promises.specs.Plan.{job_of, Plan, goes_to, earns, all_costs}
use Rattle.promises.specs.RunPlan.{running_row, decided_at}
use Rattle.promises.specs.Lawful.{Waits, Lawful}
use Rattle.promises.proofs.Rows.{at_and_beside, set_keeps}
use Rattle.promises.proofs.RowNumbers.{same_other}
use Rattle.promises.proofs.Stack.{below_lax}
use Rattle.promises.proofs.Steps.{Phase, opening, deciding}
use Rattle.promises.proofs.Wf.{fate_ok, if_taken, least_left, Wf, resting, busy, once_running, running_inside, idle_not_taken}
use Rattle.promises.proofs.WithinTick.{met_keeps}
use Rattle.promises.proofs.Always.{before_wf, decided_at_met, decided_at_wf}
use Rattle.promises.proofs.Carried.{step_carries, decided_at_carries, give-given}
use Rattle.promises.proofs.End.{Settled, timely, run_ends, end_settled}
use Rattle.promises.proofs.Listed.{listed, unlisted}
use Rattle.promises.proofs.Ticks.{goes_to_own}
use Rattle.promises.proofs.SecondHalf.{serves_start, serves_idle, serves_run}
use Rattle.promises.proofs.Served.{owed, ServesOwed, Served, serves_less, served_before, announced}
use Rattle.promises.proofs.EarliestFirst.{Earliest, NotDropped, Foremost, foremost_runs, phase_foremost, foremost_step}

-- Down the stack deadlines increase.
taken_later : {ph : Phase} {t r : ℕ} {s : State} → Wf ph t s → s.proc ≡ running r → (j : ℕ) → (row_of s j).fate ≡ taken → deadline_of s r ≤ deadline_of s j
unfolding if_taken
taken_later {t = t} {r} {s} w e =
    at_and_beside (λ (j : ℕ). (row_of s j).fate ≡ taken → deadline_of s r ≤ deadline_of s j) r (λ _. omega arith)
    (λ j n f. omega (arith, below_lax s.rows t _ _ s.delayed (omega arith) (busy w e).below j (omega (arith, same_other j r n, once_running w e j, ap if_taken f))))

-- D changes no fate and no deadline.
give_to_foremost : (t : ℕ) (s : State) (pr : Proc) → s.proc ≡ pr → Foremost deciding s.rows s.proc
    → Foremost opening (give_to pr t s).rows (give_to pr t s).proc
unfolding give_to one_less
give_to_foremost t s idle e f = phase_foremost deciding opening s.proc (λ r. omega arith) f
give_to_foremost t s (running r) e f =
    let x : Row = one_less (row_of s r) in
    let fate : (j : ℕ) → (get_or (set s.rows r x) j no_row).fate ≡ (row_of s j).fate = set_keeps (λ (y : Row). y.fate) s.rows r x refl in
    let deadline : (j : ℕ) → (get_or (set s.rows r x) j no_row).job.deadline ≡ deadline_of s j = set_keeps (λ (y : Row). y.job.deadline) s.rows r x refl in
    record {
      earliest = subst (Earliest opening (set s.rows r x)) (sym e) (λ j o. omega (arith, deadline j, deadline r, foremost_runs f e j (sym (fate j) ∙ o)));
      none_dropped = λ j. subst NotDropped (sym (fate j)) (f.none_dropped j);
    }

-- D, while what is not announced is released later.
module _ {jobs : List Job} {q : Plan} {t : ℕ} {s : State} (w : Wf deciding t s) (v : Served jobs q t s.rows) (f : Foremost deciding s.rows s.proc)
    (later : (i : ℕ) → length s.rows ≤ i → 1 ≤ (job_of jobs i).cost → t < (job_of jobs i).release) where
  -- A row released by now that is owed something is announced,
  owed_inside : (i : ℕ) → (job_of jobs i).release ≤ t → 1 ≤ owed jobs s.rows i → i < length s.rows
  owed_inside i h o = which (dec_le (length s.rows) i)
    where
      which : Dec (length s.rows ≤ i) → i < length s.rows
      which (yes k) = absurd (omega (arith, later i k (omega arith)))
      which (no k) = omega arith

  -- and it waits, or it runs or is delayed.
  owed_pending : {X : Type 0} (i : ℕ) → i < length s.rows → 1 ≤ owed jobs s.rows i → (Waits s.rows i → X) → ((row_of s i).fate ≡ taken → X)
      → (fate : Fate) → (row_of s i).fate ≡ fate → X
  owed_pending i h o a b waiting e = a e
  owed_pending i h o a b taken e = b e
  owed_pending i h o a b (finished u) e = absurd (omega (arith, announced w v i h, (fate_ok (w.row i) e).through))
  owed_pending i h o a b (dropped u) e = absurd (subst NotDropped e (f.none_dropped i))

  -- While idle nothing is owed.
  none_owed : s.proc ≡ idle → (i : ℕ) → (job_of jobs i).release ≤ t → owed jobs s.rows i ≡ 0
  unfolding if_taken
  none_owed e i h =
      let n : ¬ (1 ≤ owed jobs s.rows i) =
      λ o. owed_pending i (owed_inside i h o) o ((resting w e).nothing_waits i) (λ k. omega (arith, idle_not_taken w e i, ap if_taken k)) (row_of s i).fate refl in
      omega arith

  -- While row r runs, it has the earliest deadline of all that is owed something.
  owed_later : {r : ℕ} → s.proc ≡ running r → (i : ℕ) → (job_of jobs i).release ≤ t → 1 ≤ owed jobs s.rows i → (job_of jobs r).deadline ≤ (job_of jobs i).deadline
  owed_later {r} e i h o =
      let k : i < length s.rows = owed_inside i h o in
      let d : deadline_of s r ≤ deadline_of s i = owed_pending i k o (foremost_runs f e i) (taken_later w e i) (row_of s i).fate refl in
      omega (arith, announced w v r (running_inside w e), announced w v i k)

  -- So some plan serves on.
  serves_on : (pr : Proc) → s.proc ≡ pr → (q' : Plan) × ServesOwed jobs (give t s).rows q' (suc t)
  unfolding running_row least_left
  serves_on idle e = (q, serves_less (owed jobs (give t s).rows) (λ i. omega (arith, give-given w i)) (serves_idle _ _ _ q t v.serves (none_owed e)))
  serves_on (running r) e =
      let k = announced w v r (running_inside w e) in
      let u : 1 ≤ left_of s r = (busy w e).unfinished in
      serves_run _ _ (owed jobs s.rows) q t v.serves r k.0 (omega arith) (owed_later e) (owed jobs (give t s).rows)
      (omega (arith, give-given w r, ap (λ (pr : Proc). goes_to r (running_row pr)) e, goes_to_own r))
      (λ i n. omega (arith, give-given w i))

finished_or : (f : Fate) → Settled f → NotDropped f → outcome_number f ≡ 1
unfolding outcome_number
finished_or waiting k n = absurd k
finished_or taken k n = absurd k
finished_or (finished u) k n = refl
finished_or (dropped u) k n = absurd n

-- Where the run stands before tick n: some plan serves all that remains, and the earliest deadline runs.
record Ahead (jobs : List Job) (n : ℕ) (s : State) : Type 0 where
  plan : Plan
  serves : ServesOwed jobs s.rows plan n
  foremost : Foremost opening s.rows s.proc

module _ {p : Picks} (l : Lawful p) (jobs : List Job) (proper : Proper jobs) where
  -- Within tick n the plan still serves, since no tick is given.
  ahead_served : (n : ℕ) (a : Ahead jobs n (before p (released_at jobs) n)) → Served jobs a.plan n (decided_at p (released_at jobs) n).rows
  ahead_served n a =
      let c = decided_at_carries l (released_at jobs) (timely l jobs proper) n in
      record {
        known = listed p jobs proper n;
        serves = serves_less (owed jobs (decided_at p (released_at jobs) n).rows) (λ i. omega (arith, c.given i)) a.serves;
      }

  ahead_foremost : (n : ℕ) → Ahead jobs n (before p (released_at jobs) n) → Foremost deciding (decided_at p (released_at jobs) n).rows (decided_at p (released_at jobs) n).proc
  ahead_foremost n a =
      met_keeps (λ (ph : Phase) (s : State). Served jobs a.plan n s.rows → Foremost ph s.rows s.proc)
      (record { steps = λ w f x v. let v' = served_before (step_carries x) v in foremost_step w v' (f v') x })
      (before_wf l (released_at jobs) (timely l jobs proper) n)
      (λ _. a.foremost)
      (decided_at_met l (released_at jobs) (timely l jobs proper) n)
      (ahead_served n a)

  module _ (q : Plan) (all : earns q jobs ≡ all_costs jobs) where
    always_ahead : (n : ℕ) → Ahead jobs n (before p (released_at jobs) n)
    unfolding before tick fresh
    always_ahead zero =
        record {
          plan = q;
          serves = serves_less (owed jobs []) (λ i. omega arith) (serves_start q jobs all);
          foremost = record { earliest = tt; none_dropped = λ j. tt };
        }
    always_ahead (suc n) =
        let a : Ahead jobs n (before p (released_at jobs) n) = always_ahead n in
        let s : State = decided_at p (released_at jobs) n in
        let f : Foremost deciding s.rows s.proc = ahead_foremost n a in
        let on = serves_on (decided_at_wf l (released_at jobs) (timely l jobs proper) n) (ahead_served n a) f (unlisted p jobs proper n) s.proc refl in
        record { plan = on.0; serves = on.1; foremost = give_to_foremost n s s.proc refl f }

    -- Every row is finished.
    pub all_finished_lem : (j : ℕ) → outcome_number (row_of (run p jobs).state j).fate ≡ 1
    all_finished_lem j =
        let e : (run p jobs).state ≡ decided_at p (released_at jobs) (run p jobs).tick = (run_ends l jobs proper).state in
        finished_or (row_of (run p jobs).state j).fate (end_settled l jobs proper j)
        (subst (λ (s : State). NotDropped (row_of s j).fate) (sym e) ((ahead_foremost (run p jobs).tick (always_ahead (run p jobs).tick)).none_dropped j))
