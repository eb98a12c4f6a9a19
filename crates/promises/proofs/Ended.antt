-- After its end a run stays as it is: nothing runs, nothing waits and nothing is announced, so every later tick decides the same
-- state. So the run gives all its ticks before its end, and its end is the state at the greatest deadline. Rests on End.
use Prim.Native.Nat.{ℕ, zero, suc, ◌+◌, ◌-◌, ◌≤◌, ◌<◌}
use native.Mathlib.Nat.{add-zero, add-suc, add-sub_of_le}
use native.Mathlib.Omega.{arith}
use mathlib.Core.Path.{◌≡◌, refl, sym, ap, ◌∙◌}
use mathlib.Core.Bool.{true, and-eq-true_iff}
use mathlib.Core.List.{List, [], ◌∷◌}
use lib.Dec.{leb}
use borrow.Author.Tests.{leb-true, ne_eqb}
use Rattle.rules.specs.Choose.{choose}
use Rattle.rules.specs.Job.{Job, Proper}
use Rattle.rules.specs.State.{Proc, State, idle}
use Rattle.rules.specs.Picks.{Picks}
use Rattle.rules.specs.Announce.{announce}
use Rattle.rules.specs.Finish.{finish_of}
use Rattle.rules.specs.LatestStarts.{decide, decide_all, latest_starts}
use Rattle.rules.specs.Give.{give_to, give}
use Rattle.rules.specs.Run.{decided, tick, before, released_at, all_announced, greatest_deadline, run}
use Rattle.promises.specs.RunPlan.{decided_at}
use Rattle.promises.specs.Lawful.{Waits, Lawful}
use Rattle.promises.proofs.Wf.{resting}
use Rattle.promises.proofs.WithinTick.{if_found_lem}
use Rattle.promises.proofs.Always.{decided_at_wf}
use Rattle.promises.proofs.End.{timely, run_ends}

-- Where nothing runs or waits and nothing is announced, nothing is decided or given.
module _ {p : Picks} (l : Lawful p) {s : State} (e : s.proc ≡ idle) (none : (j : ℕ) → Waits s.rows j → ⊥) where
  decide_all_rests : (k t : ℕ) → decide_all p k t s ≡ s
  unfolding decide_all
  decide_all_rests zero t = refl
  decide_all_rests (suc k) t =
      if_found_lem (λ (s' : State). s' ≡ s) (λ i. decide_all p k t (decide t i s)) (λ _. refl)
      (λ i due. absurd (none i due.0)) (p.next t s.rows) (l.next t s.rows)

  decided_rests : (t u : ℕ) → decided p t [] (give u s) ≡ s
  unfolding decided announce finish_of give_to
  decided_rests t u =
      ap (decided p t []) (ap (λ (pr : Proc). give_to pr u s) e)
      ∙ ap (latest_starts p t) (ap (λ (pr : Proc). finish_of p pr t s) e)
      ∙ decide_all_rests _ t

-- No row is still to be announced after t, so none is announced at a later tick.
released_after : (t u : ℕ) (jobs : List Job) → all_announced jobs t ≡ true → t < u → released_at jobs u ≡ []
unfolding all_announced released_at choose
released_after t u [] a h = refl
released_after t u (j ∷ js) a h =
    let both = (and-eq-true_iff (leb j.release t) (all_announced js t)).0 a in
    let r : j.release ≤ t = leb-true _ _ both.0 in
    rw (ne_eqb j.release u (omega arith), choose) (released_after t u js both.1 h)

module _ {p : Picks} (l : Lawful p) (jobs : List Job) (proper : Proper jobs) where
  tick_rests : (n : ℕ) → (decided_at p (released_at jobs) n).proc ≡ idle → released_at jobs (suc n) ≡ []
      → decided_at p (released_at jobs) (suc n) ≡ decided_at p (released_at jobs) n
  unfolding before tick
  tick_rests n e none =
      let c : State = decided_at p (released_at jobs) n in
      ap (λ (js : List Job). decided p (suc n) js (give n c)) none
      ∙ decided_rests l e (resting (decided_at_wf l (released_at jobs) (timely l jobs proper) n) e).nothing_waits (suc n) n

  stays : (k : ℕ) → decided_at p (released_at jobs) ((run p jobs).tick + k) ≡ (run p jobs).state
  stays zero = ap (decided_at p (released_at jobs)) (add-zero (run p jobs).tick) ∙ sym (run_ends l jobs proper).state
  stays (suc k) =
      let n : ℕ = (run p jobs).tick + k in
      let same_state : decided_at p (released_at jobs) n ≡ (run p jobs).state = stays k in
      ap (decided_at p (released_at jobs)) (add-suc (run p jobs).tick k)
      ∙ tick_rests n (ap (λ (s : State). s.proc) same_state ∙ (run_ends l jobs proper).at_rest)
      (released_after (run p jobs).tick (suc n) jobs (run_ends l jobs proper).announced (omega arith))
      ∙ same_state

  -- From the end on, every tick decides the state of the end;
  stays_after : (n : ℕ) → (run p jobs).tick ≤ n → decided_at p (released_at jobs) n ≡ (run p jobs).state
  stays_after n h = ap (decided_at p (released_at jobs)) (sym (add-sub_of_le h)) ∙ stays (n - (run p jobs).tick)

  -- so nothing runs there,
  pub idle_after : (n : ℕ) → (run p jobs).tick ≤ n → (decided_at p (released_at jobs) n).proc ≡ idle
  idle_after n h = ap (λ (s : State). s.proc) (stays_after n h) ∙ (run_ends l jobs proper).at_rest

  -- and the state at the greatest deadline is that of the end.
  pub end_stays : decided_at p (released_at jobs) (greatest_deadline jobs) ≡ (run p jobs).state
  end_stays = stays_after (greatest_deadline jobs) (run_ends l jobs proper).by_deadline
