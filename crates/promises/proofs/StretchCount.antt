-- Never more stretches in all than three times the rows. A row may cause one by being announced, one by taking over and one by
-- finishing. No takeover need be counted by itself: a runner without laxity stands for its own, no offer preempts it, and a
-- takeover leaves it due, so that some row is dropped before the tick is given. Rests on End, Listed and Sums.
use Prim.Native.Nat.{ℕ, suc, ◌+◌, ◌-◌, ◌*◌, ◌≤◌, ◌<◌}
use native.Mathlib.Omega.{arith}
use native.Mathlib.Decide.{dec_le}
use mathlib.Core.Path.{◌≡◌, refl, sym, ap, subst, ◌∙◌}
use mathlib.Core.Logic.{◌≢◌}
use mathlib.Core.List.{List, [], ◌∷◌, ◌++◌, map}
use lib.ListN.{length, get_or, set, length-set}
use lib.Seq.{get_or-set_same, get_or-set_other}
use borrow.Author.Tests.{eq-eqb}
use Rattle.rules.specs.Choose.{choose}
use Rattle.rules.specs.Job.{Job, Proper}
use Rattle.rules.specs.State.{Fate, Row, Proc, Stretch, State, fresh, no_row, row_of, left_of, deadline_of, laxity, latest_start, with_fate, mark, waiting, taken, finished, dropped, idle, running}
use Rattle.rules.specs.Picks.{Picks}
use Rattle.rules.specs.Announce.{start, preempt, append}
use Rattle.rules.specs.Finish.{settle_finished, go_idle, resume}
use Rattle.rules.specs.LatestStarts.{displaced, displace, take_over, drop_row}
use Rattle.rules.specs.Give.{stretch, one_less, give_to}
use Rattle.rules.specs.Run.{before, run}
use Rattle.promises.specs.Lawful.{Waits, Due, IsFirst, Lawful}
use Rattle.rules.proofs.Choose.{by_test}
use Rattle.promises.proofs.Rows.{Same, same-mark, same-append, get_or-displaced, same-displaced}
use Rattle.promises.proofs.Sums.{sum_by, sum_by-set, sum_by-bound, sum_by-append}
use Rattle.promises.proofs.Stack.{below_fits}
use Rattle.promises.proofs.Steps.{Phase, opening, offering, announcing, deciding, Step, rests, runs_on, idles, starts_first, resumes, resumes_offering, starts, preempts, waits_on, appears, decides, takes_over, is_dropped, NothingDue}
use Rattle.promises.proofs.Wf.{WaitingOk, fate_ok, least_left, Wf, busy, waits_inside, running_inside, taken_lax, running_taken}
use Rattle.promises.proofs.WithinTick.{Timely}
use Rattle.promises.proofs.Always.{Kept, before_wf, always}
use Rattle.promises.proofs.End.{end_wf, end_kept}
use Rattle.promises.proofs.Listed.{end_length}

taken_not_waiting : taken ≡ waiting → ⊥
taken_not_waiting e = let z : ◌≡◌ {A = ℕ} 0 1 = cc in omega arith

-- How many stretches a row may have caused: one by being announced; one more by taking over, counted when it is settled; one
-- more by finishing.
unfoldable caused_by : Fate → ℕ
caused_by waiting = 1
caused_by taken = 1
caused_by (finished u) = 3
caused_by (dropped u) = 2

unfoldable caused : Row → ℕ
caused r = caused_by r.fate

-- 1 if the running row has no laxity, as a row that took over: its takeover counts while it runs. Else 0.
unfoldable tight : ℕ → List Row → Proc → ℕ
tight t rows idle = 0
tight t rows (running r) = 1 - laxity t (get_or rows r no_row)

-- How many stretches there may be while p is the processor.
unfoldable allowed : ℕ → List Row → Proc → ℕ
allowed t rows p = sum_by caused rows + tight t rows p

-- The stretches once tick t is given.
unfoldable with_tick : ℕ → Proc → List Stretch → List Stretch
with_tick t idle xs = xs
with_tick t (running r) xs = stretch t r xs

tight-small : (t : ℕ) (rows : List Row) (p : Proc) → tight t rows p ≤ 1
unfolding tight
tight-small t rows idle = omega arith
tight-small t rows (running r) = omega arith

caused_by-small : (f : Fate) → caused_by f ≤ 3
unfolding caused_by
caused_by-small waiting = omega arith
caused_by-small taken = omega arith
caused_by-small (finished u) = omega arith
caused_by-small (dropped u) = omega arith

-- A tick starts at most one stretch.
with_tick-length : (t : ℕ) (p : Proc) (xs : List Stretch) → (length xs ≤ length (with_tick t p xs)) × (length (with_tick t p xs) ≤ length xs + 1)
unfolding with_tick stretch
with_tick-length t idle xs = omega arith
with_tick-length t (running r) [] = omega arith
with_tick-length t (running r) (x ∷ xs) =
    by_test (λ (ys : List Stretch). (length (x ∷ xs) ≤ length ys) × (length ys ≤ length (x ∷ xs) + 1)) _ (λ _. omega arith) (λ _. omega arith)

-- The next tick given to the same row starts none.
stretch_on : (t r a : ℕ) (xs : List Stretch) → length (stretch t r (record { row = r; first = a; after = t } ∷ xs)) ≡ suc (length xs)
unfolding stretch choose
stretch_on t r a xs = rw (eq-eqb r r refl, eq-eqb t t refl)

stretch_again : (t r : ℕ) (xs : List Stretch) → length (stretch (t + 1) r (stretch t r xs)) ≡ length (stretch t r xs)
unfolding stretch
stretch_again t r [] = stretch_on (t + 1) r t []
stretch_again t r (x ∷ xs) =
    by_test (λ (ys : List Stretch). length (stretch (t + 1) r ys) ≡ length ys) _
    (λ _. stretch_on (t + 1) r x.first xs)
    (λ _. stretch_on (t + 1) r t (x ∷ xs))

-- With the stretch that tick t may start, there are no more than there may be.
abbrev Bounded : ℕ → List Row → Proc → List Stretch → Type 0
Bounded t rows p xs = length (with_tick t p xs) ≤ allowed t rows p

-- There may be one stretch more.
abbrev Spare : ℕ → List Row → Proc → List Stretch → Type 0
Spare t rows p xs = length xs + 1 ≤ allowed t rows p

-- In C there are no more than there may be, and once nothing is due the tick can be given.
record InC (t : ℕ) (s : State) : Type 0 where
  within : length s.stretches ≤ allowed t s.rows s.proc
  bounded : NothingDue t s.rows → Bounded t s.rows s.proc s.stretches

abbrev Counted : Phase → ℕ → State → Type 0
Counted opening t s = Bounded t s.rows s.proc s.stretches
Counted (offering i) t s = Spare t s.rows s.proc s.stretches
Counted announcing t s = Bounded t s.rows s.proc s.stretches
Counted deciding t s = InC t s

module _ (t : ℕ) (rows : List Row) (p : Proc) (xs : List Stretch) where
  bounded_now : Bounded t rows p xs → length xs ≤ allowed t rows p
  bounded_now q = omega (arith, with_tick-length t p xs)

  spare_bounded : Spare t rows p xs → Bounded t rows p xs
  spare_bounded q = omega (arith, with_tick-length t p xs)

  -- The rows alone allow one stretch more: anything may run next.
  any_bounded : length xs + 1 ≤ sum_by caused rows → Bounded t rows p xs
  unfolding allowed
  any_bounded h = spare_bounded (omega arith)

caused-mark : (rows : List Row) (i : ℕ) (was is : Fate) → i < length rows → (get_or rows i no_row).fate ≡ was
    → sum_by caused (mark i is rows) + caused_by was ≡ sum_by caused rows + caused_by is
unfolding caused
caused-mark rows i was is h e = omega (arith, sum_by-set caused rows i (with_fate is (get_or rows i no_row)) h, ap caused_by e)

tight-keeps : (t : ℕ) (rows rows' : List Row) (p : Proc) → ((r : ℕ) → p ≡ running r → Same rows rows' r) → tight t rows' p ≡ tight t rows p
unfolding tight
tight-keeps t rows rows' idle k = refl
tight-keeps t rows rows' (running r) k = omega (arith, k r refl)

-- A waiting row starts.
start_bounded : (t : ℕ) (rows : List Row) (i : ℕ) (xs : List Stretch) → Waits rows i → length xs + 1 ≤ sum_by caused rows → Bounded t (mark i taken rows) (running i) xs
unfolding caused_by
start_bounded t rows i xs w h = any_bounded t _ (running i) xs (omega (arith, caused-mark rows i waiting taken (waits_inside rows i w) w))

-- A: a finish allows one stretch, whatever runs next.
finish_spare : {t r : ℕ} {s : State} → Wf opening t s → s.proc ≡ running r → Bounded t s.rows s.proc s.stretches
    → length s.stretches + 1 ≤ sum_by caused (settle_finished t r s).rows
unfolding settle_finished caused_by allowed
finish_spare {t} {r} {s} w e q =
    omega (
      arith,
      bounded_now t s.rows s.proc s.stretches q,
      tight-small t s.rows s.proc,
      caused-mark s.rows r taken (finished t) (running_inside w e) (running_taken w e),
    )

-- A and B: no runner without laxity is preempted.
preempt_bounded : {t r i : ℕ} {s : State} → Wf (offering i) t s → s.proc ≡ running r → left_of s i ≤ s.room
    → Spare t s.rows s.proc s.stretches → Bounded t (mark i taken s.rows) (running i) s.stretches
unfolding allowed tight
preempt_bounded {t} {r} {i} {s} w e roomy q =
    let k : WaitingOk t (row_of s i).job (row_of s i).left = fate_ok (w.row i) w.offer in
    let lax : t + s.room + left_of s r ≤ deadline_of s r = below_fits s.rows t _ _ s.delayed (busy w e).below in
    start_bounded t s.rows i s.stretches w.offer (omega (arith, ap (tight t s.rows) e))

-- B: an announcement allows one stretch.
append_spare : {t : ℕ} {s : State} → Wf announcing t s → (j : Job) → Bounded t s.rows s.proc s.stretches
    → Spare t (append j s).rows s.proc s.stretches
unfolding append caused_by caused allowed
append_spare {t} {s} w j q =
    let x : Row = record { job = j; left = j.cost; fate = waiting } in
    omega (
      arith,
      bounded_now t s.rows s.proc s.stretches q,
      sum_by-append caused s.rows x,
      tight-keeps t s.rows (s.rows ++ (x ∷ [])) s.proc (λ r e. same-append s.rows x r (running_inside w e)),
    )

caused_by-displaced : (f : Fate) → caused_by (displaced f) ≡ caused_by f
unfolding caused_by displaced
caused_by-displaced waiting = refl
caused_by-displaced taken = refl
caused_by-displaced (finished u) = refl
caused_by-displaced (dropped u) = refl

caused-displaced : (rows : List Row) → sum_by caused (map displace rows) ≡ sum_by caused rows
unfolding sum_by caused displace
caused-displaced [] = refl
caused-displaced (r ∷ rows) = omega (arith, caused_by-displaced r.fate, caused-displaced rows)

module _ {t r : ℕ} {s : State} (w : Wf deciding t s) (e : s.proc ≡ running r) (i : ℕ) (due : Due t s.rows i) where
  -- C: a takeover puts a runner without laxity in place of any other.
  take_over-allowed : allowed t (take_over i s).rows (running i) ≡ sum_by caused s.rows + 1
  unfolding take_over displace displaced caused_by allowed tight
  take_over-allowed =
      let rows : List Row = map displace s.rows in
      let waits : Waits rows i = ap (λ (x : Row). x.fate) (get_or-displaced s.rows i) ∙ ap displaced due.0 in
      let k : WaitingOk t (row_of s i).job (row_of s i).left = fate_ok (w.row i) due.0 in
      omega (
        arith,
        due.1,
        caused-displaced s.rows,
        caused-mark rows i waiting taken (waits_inside rows i waits) waits,
        same-displaced s.rows i,
        same-mark rows i taken i,
      )

  -- C: a displaced runner that had no laxity is due.
  runner_due : laxity t (row_of s r) ≡ 0 → Due t (take_over i s).rows r
  unfolding take_over displace displaced
  runner_due z =
      let rows : List Row = map displace s.rows in
      let other : r ≢ i = λ q. taken_not_waiting (sym (running_taken w e) ∙ ap (λ (j : ℕ). (row_of s j).fate) q ∙ due.0) in
      let beside : get_or (mark i taken rows) r no_row ≡ displace (row_of s r) = get_or-set_other rows i r _ no_row other ∙ get_or-displaced s.rows r in
      let lax : t + left_of s r ≤ deadline_of s r = (taken_lax w e r (running_taken w e)).1 in (
        ap (λ (x : Row). x.fate) beside ∙ ap displaced (running_taken w e),
        ap latest_start beside ∙ omega arith,
      )

  take_over-counted : length s.stretches ≤ allowed t s.rows s.proc → InC t (take_over i s)
  unfolding take_over allowed tight
  take_over-counted q = record { within = omega (arith, take_over-allowed, now); bounded = which (dec_le 1 (laxity t (row_of s r))) }
    where
      now : tight t s.rows s.proc ≡ 1 - laxity t (row_of s r)
      now = ap (tight t s.rows) e

      which : Dec (1 ≤ laxity t (row_of s r)) → NothingDue t (take_over i s).rows → Bounded t (take_over i s).rows (running i) s.stretches
      which (yes h) n = spare_bounded t _ (running i) s.stretches (omega (arith, take_over-allowed, now))
      which (no h) n = absurd (n r (runner_due (omega arith)))

  -- C: a drop allows one stretch.
  drop-counted : length s.stretches ≤ allowed t s.rows s.proc → InC t (drop_row t i s)
  unfolding drop_row caused_by allowed
  drop-counted q =
      let spare : Spare t (mark i (dropped t) s.rows) s.proc s.stretches =
      omega (
        arith,
        caused-mark s.rows i waiting (dropped t) (waits_inside s.rows i due.0) due.0,
        tight-keeps t s.rows (mark i (dropped t) s.rows) s.proc (λ r' _. same-mark s.rows i (dropped t) r'),
      ) in
      record { within = omega arith; bounded = λ _. spare_bounded t _ s.proc s.stretches spare }

counted_step : {t : ℕ} {ph ph' : Phase} {s s' : State} → Wf ph t s → Counted ph t s → Step t ph s ph' s' → Counted ph' t s'
unfolding go_idle start preempt append take_over drop_row resume settle_finished allowed tight IsFirst
counted_step w q (rests e) = q
counted_step w q (runs_on e u) = q
counted_step {t} {s = s} w q (idles e z d n) = any_bounded t _ idle s.stretches (finish_spare w e q)
counted_step {t} {s = s} w q (starts_first i e z d f) = start_bounded t _ i s.stretches f.0 (finish_spare w e q)
counted_step {t} {s = s} w q (resumes {e = x} e z d n) = any_bounded t _ (running x.row) s.stretches (finish_spare w e q)
counted_step w q (resumes_offering e z d f n) = omega (arith, finish_spare w e q)
counted_step {t} {s = s} w q (starts {i = i} e) = start_bounded t s.rows i s.stretches w.offer (omega (arith, ap (tight t s.rows) e))
counted_step w q (preempts e earlier roomy) = preempt_bounded w e roomy q
counted_step {t} {s = s} w q (waits_on e n) = spare_bounded t s.rows s.proc s.stretches q
counted_step w q (appears j released feasible) = append_spare w j q
counted_step {t} {s = s} w q decides = record { within = bounded_now t s.rows s.proc s.stretches q; bounded = λ _. q }
counted_step w q (takes_over i e due costly) = take_over-counted w e i due q.within
counted_step w q (is_dropped i e due cheap) = drop-counted w e i due q.within

-- D: the runner's laxity stays, and its stretch has started.
give_to_bounded : {t : ℕ} {s : State} → Wf deciding t s → (p : Proc) → s.proc ≡ p → Bounded t s.rows p s.stretches
    → Bounded (t + 1) (give_to p t s).rows (give_to p t s).proc (give_to p t s).stretches
unfolding give_to one_less with_tick caused allowed tight least_left
give_to_bounded {t} {s} w idle e q = subst (λ (p : Proc). Bounded (t + 1) s.rows p s.stretches) (sym e) q
give_to_bounded {t} {s} w (running r) e q =
    let x : Row = one_less (row_of s r) in
    let h : r < length s.rows = running_inside w e in
    let lax : (1 ≤ left_of s r) × (t + left_of s r ≤ deadline_of s r) = taken_lax w e r (running_taken w e) in
    let same-lax : laxity (t + 1) x ≡ laxity t (row_of s r) = omega arith in
    let same_sum : sum_by caused (set s.rows r x) ≡ sum_by caused s.rows = omega (arith, sum_by-set caused s.rows r x h) in
    subst (λ (p : Proc). Bounded (t + 1) (set s.rows r x) p (stretch t r s.stretches)) (sym e)
    (rw (stretch_again t r s.stretches, same_sum, get_or-set_same s.rows r x no_row h, same-lax) q)

counted_kept : Kept Counted
unfolding fresh sum_by with_tick allowed tight
counted_kept =
    record {
      begins = omega arith;
      steps = counted_step;
      gives = λ w n q. give_to_bounded w _ refl (q.bounded n);
    }

-- At every point of a tick.
counted_within : (ph : Phase) (t : ℕ) (s : State) → Counted ph t s → length s.stretches ≤ allowed t s.rows s.proc
counted_within opening t s q = bounded_now t s.rows s.proc s.stretches q
counted_within (offering i) t s q = omega arith
counted_within announcing t s q = bounded_now t s.rows s.proc s.stretches q
counted_within deciding t s q = q.within

caused-bound : (rows : List Row) → sum_by caused rows ≤ 3 * length rows
unfolding caused
caused-bound = sum_by-bound caused 3 (λ r. caused_by-small r.fate)

-- A running row has not finished yet, so there is room for its takeover.
allowed-bound : {ph : Phase} {t : ℕ} {s : State} → Wf ph t s → (p : Proc) → s.proc ≡ p → allowed t s.rows p ≤ 3 * length s.rows
unfolding allowed tight caused_by
allowed-bound {s = s} w idle e = omega (arith, caused-bound s.rows)
allowed-bound {s = s} w (running r) e =
    omega (
      arith,
      caused-mark s.rows r taken (finished 0) (running_inside w e) (running_taken w e),
      caused-bound (mark r (finished 0) s.rows),
      length-set s.rows r (with_fate (finished 0) (row_of s r)),
    )

counted-bound : {ph : Phase} {t : ℕ} {s : State} → Wf ph t s → Counted ph t s → length s.stretches ≤ 3 * length s.rows
counted-bound {ph} {t} {s} w q = omega (arith, counted_within ph t s q, allowed-bound w s.proc refl)

module _ {p : Picks} (l : Lawful p) where
  -- There are never more stretches in all than three times the rows: before every tick, so that a fixed array holds them,
  pub count-before : (released : ℕ → List Job) → ((t : ℕ) → Timely t (released t)) → (n : ℕ)
      → length (before p released n).stretches ≤ 3 * length (before p released n).rows
  count-before released timely n = counted-bound (before_wf l released timely n) (always l released timely Counted counted_kept n)

  -- and at the end of a list's run.
  pub end_count : (jobs : List Job) → Proper jobs → length (run p jobs).state.stretches ≤ 3 * length jobs
  end_count jobs proper =
      omega (
        arith,
        counted-bound (end_wf l jobs proper) (end_kept l jobs proper Counted counted_kept),
        end_length l jobs proper,
      )
