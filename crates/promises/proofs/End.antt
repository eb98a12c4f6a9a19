-- The run of a proper list ends, at or before its greatest deadline, at the first tick where it may; there every row is announced
-- and settled, and the state is the one that the tick rules decide. Rests on Always and Announced.
use Prim.Native.Nat.{ℕ, zero, suc, ◌+◌, ◌≤◌, ◌<◌}
use native.Mathlib.Numerals.{add-one}
use native.Mathlib.Omega.{arith}
use native.Mathlib.Decide.{dec_le}
use mathlib.Core.Path.{◌≡◌, refl, sym, ap, subst, ◌∙◌}
use mathlib.Core.Bool.{true, false≢true, true≢false, and-eq-true_iff}
use mathlib.Core.List.{List, [], ◌∷◌, ◌++◌, map, append-nil}
use lib.Dec.{leb}
use lib.ListN.{get_or}
use borrow.Author.Tests.{leb-true, le-leb}
use Rattle.rules.specs.Job.{Job, ProperFrom, Proper}
use Rattle.rules.specs.State.{Fate, Row, Proc, State, fresh, no_row, row_of, waiting, taken, finished, dropped, idle, running}
use Rattle.rules.specs.Picks.{Picks}
use Rattle.rules.specs.Give.{give}
use Rattle.rules.specs.Run.{decided, tick, before, released_at, all_announced, is_idle, End, run_from, greatest_deadline, run}
use Rattle.promises.specs.RunPlan.{decided_at}
use Rattle.promises.specs.Lawful.{Lawful}
use Rattle.rules.proofs.Choose.{by_both}
use Rattle.promises.proofs.Rows.{at_and_beside}
use Rattle.promises.proofs.Steps.{Phase, deciding}
use Rattle.promises.proofs.Wf.{if_taken, least_left, Wf, resting, taken_lax, running_taken, idle_not_taken}
use Rattle.promises.proofs.WithinTick.{Timely}
use Rattle.promises.proofs.Always.{Kept, decided_at_wf, always_decided}
use Rattle.promises.proofs.Jobs.{jobs_of}
use Rattle.promises.proofs.Announced.{Split, released_timely, decided_split}

abbrev pub Settled : Fate → Type 0
Settled waiting = ⊥
Settled taken = ⊥
Settled (finished u) = Unit {0}
Settled (dropped u) = Unit {0}

-- How a run ends: where, in what state, and that it could not have ended before.
pub record Ends (p : Picks) (jobs : List Job) (e : End) : Type 0 where
  pub state : e.state ≡ decided_at p (released_at jobs) e.tick
  pub by_deadline : e.tick ≤ greatest_deadline jobs
  pub at_rest : e.state.proc ≡ idle
  pub announced : all_announced jobs e.tick ≡ true
  pub first : (u : ℕ) → u < e.tick → (decided_at p (released_at jobs) u).proc ≡ idle → all_announced jobs u ≡ true → ⊥

settled_or : (f : Fate) → (f ≡ waiting → ⊥) → if_taken f ≡ 0 → Settled f
unfolding if_taken
settled_or waiting n z = n refl
settled_or taken n z = omega arith
settled_or (finished u) n z = tt
settled_or (dropped u) n z = tt

is_idle_lem : (pr : Proc) → is_idle pr ≡ true → pr ≡ idle
is_idle_lem idle e = refl
is_idle_lem (running r) e = absurd (false≢true e)

-- A row's deadline is at most the greatest of all that are announced, and so of the list.
pub row_deadline : (rows : List Row) (i : ℕ) → (get_or rows i no_row).job.deadline ≤ greatest_deadline (map (λ (r : Row). r.job) rows)
unfolding greatest_deadline
row_deadline [] i = omega arith
row_deadline (r ∷ rows) zero = omega arith
row_deadline (r ∷ rows) (suc i) = omega (arith, row_deadline rows i)

part_deadline : (js more : List Job) → greatest_deadline js ≤ greatest_deadline (js ++ more)
unfolding greatest_deadline
part_deadline [] more = omega arith
part_deadline (j ∷ js) more = omega (arith, part_deadline js more)

-- From the greatest deadline on every job is announced.
announced_by : (u t : ℕ) (js : List Job) → ProperFrom u js → greatest_deadline js ≤ t → all_announced js t ≡ true
unfolding greatest_deadline all_announced
announced_by u t [] k h = refl
announced_by u t (j ∷ js) k h =
    rw (le-leb j.release t (omega (arith, k.1.fits))) (announced_by j.release t js k.2 (omega arith))

-- Where every job is announced, none is left for later ticks.
none_later : (t : ℕ) (sofar rest : List Job) → all_announced (sofar ++ rest) t ≡ true → ProperFrom (t + 1) rest → rest ≡ []
unfolding all_announced
none_later t [] [] a k = refl
none_later t [] (j ∷ js) a k =
    let r : j.release ≤ t = leb-true _ _ ((and-eq-true_iff (leb j.release t) (all_announced js t)).0 a).0 in
    absurd (omega (arith, k.0))
none_later t (j ∷ js) rest a k = none_later t js rest ((and-eq-true_iff (leb j.release t) (all_announced (js ++ rest) t)).0 a).1 k

module _ {p : Picks} (l : Lawful p) (jobs : List Job) (proper : Proper jobs) where
  pub timely : (t : ℕ) → Timely t (released_at jobs t)
  timely t = released_timely 0 t jobs proper

  -- At the greatest deadline nothing runs: what ran would have to end later.
  idle_by : (t : ℕ) → greatest_deadline jobs ≤ t → (pr : Proc) → (decided_at p (released_at jobs) t).proc ≡ pr → pr ≡ idle
  unfolding least_left
  idle_by t h idle e = refl
  idle_by t h (running r) e =
      let w : Wf deciding t (decided_at p (released_at jobs) t) = decided_at_wf l (released_at jobs) timely t in
      let k : Split jobs (t + 1) (jobs_of (decided_at p (released_at jobs) t)) = decided_split p jobs proper t in
      let rows : List Row = (decided_at p (released_at jobs) t).rows in
      absurd (omega (arith, taken_lax w e r (running_taken w e), row_deadline rows r, part_deadline (map (λ (x : Row). x.job) rows) k.rest, ap greatest_deadline k.whole))

  -- The run could not have ended before tick t.
  abbrev NotBefore : ℕ → Type 0
  NotBefore t = (u : ℕ) → u < t → (decided_at p (released_at jobs) u).proc ≡ idle → all_announced jobs u ≡ true → ⊥

  not_here : (t : ℕ) → NotBefore t → ((decided_at p (released_at jobs) t).proc ≡ idle → all_announced jobs t ≡ true → ⊥) → NotBefore (t + 1)
  not_here t first n =
      at_and_beside (λ (u : ℕ). u < t + 1 → (decided_at p (released_at jobs) u).proc ≡ idle → all_announced jobs u ≡ true → ⊥) t
      (λ _. n)
      (λ u other h. first u (omega arith))

  -- A run that has not ended at t has a deadline to come.
  deadline_to_come : (t : ℕ) → ((decided_at p (released_at jobs) t).proc ≡ idle → all_announced jobs t ≡ true → ⊥) → t < greatest_deadline jobs
  deadline_to_come t n = which (dec_le (greatest_deadline jobs) t)
    where
      which : Dec (greatest_deadline jobs ≤ t) → t < greatest_deadline jobs
      which (yes h) = absurd (n (idle_by t h _ refl) (announced_by 0 t jobs proper h))
      which (no h) = omega arith

  run_from_ends : (k t : ℕ) (s : State) → s ≡ before p (released_at jobs) t → t ≤ greatest_deadline jobs → t + k ≡ greatest_deadline jobs + 1
      → NotBefore t → Ends p jobs (run_from p jobs k t s)
  unfolding run_from before tick
  run_from_ends zero t s e h g first = absurd (omega arith)
  run_from_ends (suc k) t s e h g first =
      let c : State = decided p t (released_at jobs t) s in
      let same-c : c ≡ decided_at p (released_at jobs) t = ap (decided p t (released_at jobs t)) e in
      by_both (Ends p jobs) (is_idle c.proc) (all_announced jobs t)
      (λ a b. record { state = same-c; by_deadline = h; at_rest = is_idle_lem c.proc a; announced = b; first = first })
      (λ n.
      let not_end : (decided_at p (released_at jobs) t).proc ≡ idle → all_announced jobs t ≡ true → ⊥ =
      λ i b. true≢false (sym b ∙ n (ap is_idle (ap (λ (x : State). x.proc) same-c ∙ i))) in
      run_from_ends k (t + 1) (give t c) (ap (give t) same-c ∙ ap (before p (released_at jobs)) (sym (add-one t)))
      (omega (arith, deadline_to_come t not_end)) (omega arith) (not_here t first not_end))

  pub run_ends : Ends p jobs (run p jobs)
  unfolding run before
  run_ends = run_from_ends (greatest_deadline jobs + 1) 0 fresh refl (omega arith) (omega arith) (λ u h. absurd (omega arith))

  -- There, all that is well holds;
  pub end_wf : Wf deciding (run p jobs).tick (run p jobs).state
  end_wf = subst (Wf deciding (run p jobs).tick) (sym run_ends.state) (decided_at_wf l (released_at jobs) timely (run p jobs).tick)

  -- the rows are the list's;
  pub end_rows : jobs_of (run p jobs).state ≡ jobs
  end_rows =
      let k : Split jobs ((run p jobs).tick + 1) (jobs_of (run p jobs).state) =
      subst (λ (s : State). Split jobs ((run p jobs).tick + 1) (jobs_of s)) (sym run_ends.state) (decided_split p jobs proper (run p jobs).tick) in
      let all : k.rest ≡ [] = none_later (run p jobs).tick (jobs_of (run p jobs).state) k.rest (subst (λ (js : List Job). all_announced js (run p jobs).tick ≡ true) k.whole run_ends.announced) k.later in
      sym (k.whole ∙ ap (λ (js : List Job). jobs_of (run p jobs).state ++ js) all ∙ append-nil _)

  -- and every row is finished or dropped.
  pub end_settled : (j : ℕ) → Settled (row_of (run p jobs).state j).fate
  end_settled j =
      settled_or (row_of (run p jobs).state j).fate ((resting end_wf run_ends.at_rest).nothing_waits j) (idle_not_taken end_wf run_ends.at_rest j)

  -- What is kept holds there too.
  pub end_kept : (Q : Phase → ℕ → State → Type 0) → Kept Q → Q deciding (run p jobs).tick (run p jobs).state
  end_kept Q k = subst (Q deciding (run p jobs).tick) (sym run_ends.state) (always_decided l (released_at jobs) timely Q k (run p jobs).tick)
