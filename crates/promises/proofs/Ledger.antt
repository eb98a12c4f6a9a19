-- The ledger of demand 3's first half: at every point of every run the counted ticks so far, and those that the reach will still
-- count, are covered by what finished rows paid and by the stack's costs. One lemma for each kind of sub-step. Rests on Books and Always.
use Prim.Native.Nat.{ℕ, ◌+◌, ◌-◌, ◌*◌, ◌≤◌, ◌<◌}
use native.Mathlib.Nat.{add-zero}
use native.Mathlib.Numerals.{add-one}
use native.Mathlib.Omega.{arith}
use mathlib.Core.Path.{◌≡◌, refl, sym, ap, subst, ◌∙◌}
use mathlib.Core.List.{List, [], ◌∷◌, ◌++◌, map}
use lib.Dec.{ltb}
use lib.ListN.{length, get_or, set}
use lib.Seq.{get_or-set_same}
use borrow.Author.Tests.{ltb-true, ltb-false}
use Rattle.rules.specs.Choose.{choose}
use Rattle.rules.specs.Job.{Job}
use Rattle.rules.specs.State.{Fate, Row, Proc, Entry, State, fresh, no_row, row_of, cost_of, deadline_of, left_of, with_fate, mark, waiting, taken, finished, dropped, idle, running}
use Rattle.rules.specs.Picks.{Picks}
use Rattle.rules.specs.Announce.{start, preempt, append}
use Rattle.rules.specs.Finish.{settle_finished, go_idle, resume}
use Rattle.rules.specs.LatestStarts.{displace, take_over, drop_row}
use Rattle.rules.specs.Give.{one_less, give_to, give}
use Rattle.promises.specs.RunPlan.{decided_at}
use Rattle.promises.specs.Lawful.{Waits, Due, IsFirst, Lawful}
use Rattle.promises.specs.Bound.{dropped_deadline, reach, counts, counted, count_from, count}
use Rattle.rules.proofs.Choose.{by_test}
use Rattle.promises.proofs.Rows.{Same, same-mark, same-append, get_or-displaced, same-displaced, displaced_waits}
use Rattle.promises.proofs.Sums.{sum_by}
use Rattle.promises.proofs.Stack.{rows_of, held_by, below_fits}
use Rattle.promises.proofs.Steps.{Phase, opening, offering, announcing, deciding, Step, rests, runs_on, idles, starts_first, resumes, resumes_offering, starts, preempts, waits_on, appears, decides, takes_over, is_dropped}
use Rattle.promises.proofs.Wf.{WaitingOk, fate_ok, least_left, Wf, busy, running_inside, running_taken}
use Rattle.promises.proofs.WfKept.{Free, idle_free, settled_free, displaced_free}
use Rattle.promises.proofs.WithinTick.{Timely}
use Rattle.promises.proofs.Always.{KeptAlong, decided_at_wf, along_decided}
use Rattle.promises.proofs.Counting.{count_suc}
use Rattle.promises.proofs.Reach.{reach_covers, reach-displaced}
use Rattle.promises.proofs.Books.{late_cost, late_cost_none, late_cost_whole, late_cost-small, pays, paid, keeps, stack_left, Replaced, replaced, from_waiting, added, nothing_left, displaced-paid}

-- A row's cost if its laxity at t is 0, else 0. It stays the same while the row runs.
abbrev tight : ℕ → Row → ℕ
tight t r = late_cost (t + r.left) r.job.deadline r.job.cost

-- With n ticks counted before tick t. While nothing runs, what finished rows paid covers these, and those from t to the reach.
pub record Clear (n t : ℕ) (rows : List Row) : Type 0 where
  pub ahead : n + (reach rows - t) ≤ paid rows

-- While row r runs, its tightness helps to cover; so does the stack, of which the costs are r's and the held value. What was given
-- to it, its costs less what remains, helps to cover the ticks so far; 3 × its costs help to cover those up to the reach too.
pub record Owes (n t : ℕ) (s : State) (r : ℕ) : Type 0 where
  pub sofar : n + stack_left s.rows ≤ paid s.rows + (cost_of s r + s.held) + tight t (row_of s r)
  pub ahead : n + (reach s.rows - t) ≤ paid s.rows + 3 * (cost_of s r + s.held) + tight t (row_of s r)

abbrev pub LedgerOf : ℕ → ℕ → State → Proc → Type 0
LedgerOf n t s idle = Clear n t s.rows
LedgerOf n t s (running r) = Owes n t s r

pub record Ledger (n t : ℕ) (s : State) : Type 0 where
  pub proc : LedgerOf n t s s.proc

pub clear : {n t : ℕ} {s : State} → Ledger n t s → s.proc ≡ idle → Clear n t s.rows
clear {n} {t} {s} q e = subst (LedgerOf n t s) e q.proc

owes : {n t r : ℕ} {s : State} → Ledger n t s → s.proc ≡ running r → Owes n t s r
owes {n} {t} {s = s} q e = subst (LedgerOf n t s) e q.proc

-- A row starts on a free processor.
start_owes : {n t : ℕ} {s : State} → Free t s → Clear n t s.rows → (i : ℕ) → Waits s.rows i → Owes n t (start t i s) i
unfolding start pays keeps dropped_deadline
start_owes {n} {t} {s} f q i w =
    omega (
      arith,
      from_waiting s.rows i taken w,
      same-mark s.rows i taken i,
      nothing_left s.rows f.nothing_taken,
      (f.row i).within,
      f.none_held,
    )

-- The running row r finishes at t: it pays 3 × its cost and its tightness, and nothing remained of it.
module _ {n t r : ℕ} {s : State} (w : Wf opening t s) (e : s.proc ≡ running r) (z : left_of s r ≡ 0) (q : Owes n t s r) where
  finish_books : Replaced s.rows r taken (with_fate (finished t) (row_of s r))
  finish_books = replaced s.rows r taken _ (running_inside w e) (running_taken w e)

  finish-tight : tight t (row_of s r) ≡ late_cost t (deadline_of s r) (cost_of s r)
  finish-tight = rw (z, add-zero)

  finish_clear : s.delayed ≡ [] → Clear n t (settle_finished t r s).rows
  unfolding settle_finished pays keeps dropped_deadline sum_by rows_of
  finish_clear d = omega (arith, finish_books, finish-tight, w.held, ap (held_by s.rows) d)

  resume_owes : {x : Entry} {rest : List Entry} → s.delayed ≡ x ∷ rest → Owes n t (resume t x rest (settle_finished t r s)) x.row
  unfolding settle_finished resume pays keeps dropped_deadline sum_by rows_of
  resume_owes {x} d =
      omega (arith, finish_books, finish-tight, w.held, ap (held_by s.rows) d, same-mark s.rows r (finished t) x.row)

-- Row i preempts row r. There was room for i, so r was not tight.
preempt_owes : {n t r i : ℕ} {s : State} → Wf (offering i) t s → s.proc ≡ running r → left_of s i ≤ s.room → Owes n t s r → Owes n t (preempt t r i s) i
unfolding preempt pays keeps dropped_deadline
preempt_owes {n} {t} {r} {i} {s} w e roomy q =
    let k : WaitingOk t (row_of s i).job (row_of s i).left = fate_ok (w.row i) w.offer in
    let lax : t + left_of s r < deadline_of s r = omega (arith, below_fits s.rows t _ _ s.delayed (busy w e).below) in
    omega (
      arith,
      from_waiting s.rows i taken w.offer,
      same-mark s.rows i taken i,
      late_cost_none (t + left_of s r) (deadline_of s r) (cost_of s r) lax,
      (w.row i).within,
    )

-- A row is announced: it waits, and the rows before it are what they were.
append_owes : (n : ℕ) {t : ℕ} {s : State} → Wf announcing t s → (j : Job) (p : Proc) → s.proc ≡ p → LedgerOf n t s p → LedgerOf n t (append j s) p
unfolding append pays keeps dropped_deadline
append_owes n {s = s} w j idle e q = omega (arith, added s.rows (record { job = j; left = j.cost; fate = waiting }))
append_owes n {t} {s} w j (running r) e q =
    let x : Row = record { job = j; left = j.cost; fate = waiting } in
    let m : Same s.rows (s.rows ++ (x ∷ [])) r = same-append s.rows x r (running_inside w e) in
    let same-tight : tight t (row_of (append j s) r) ≡ tight t (row_of s r) = cc in
    omega (arith, added s.rows x)

-- Step C, with row i due.
module _ {n t r : ℕ} {s : State} (w : Wf deciding t s) (e : s.proc ≡ running r) (i : ℕ) (due : Due t s.rows i) (q : Owes n t s r) where
  -- Row i takes over: the stack's costs, less than half its own, are given up, and it is tight.
  take_over_owes : 2 * (cost_of s r + s.held) < cost_of s i → Owes n t (take_over i s) i
  unfolding take_over displace pays keeps dropped_deadline
  take_over_owes costly =
      let rows : List Row = map displace s.rows in
      let k : WaitingOk t (row_of s i).job (row_of s i).left = fate_ok (w.row i) due.0 in
      let l : deadline_of s i - left_of s i ≡ t = omega (arith, due.1) in
      let m : Same s.rows rows i = same-displaced s.rows i in
      let o : Same rows (mark i taken rows) i = same-mark rows i taken i in
      let none : stack_left rows ≡ 0 = nothing_left rows (λ j. rw (get_or-displaced s.rows j) (displaced_free (row_of s j).fate)) in
      omega (
        arith,
        from_waiting rows i taken (displaced_waits s.rows i due.0),
        (w.row i).within,
        displaced-paid s.rows,
        reach-displaced s.rows,
        late_cost-small (t + left_of s r) (deadline_of s r) (cost_of s r),
        late_cost_whole (t + (get_or (mark i taken rows) i no_row).left) (get_or (mark i taken rows) i no_row).job.deadline (get_or (mark i taken rows) i no_row).job.cost (omega arith),
      )

  -- Row i is dropped: it costs at most 2 × the stack's costs, and the reach grows to no more than t and its cost.
  drop_owes : cost_of s i ≤ 2 * (cost_of s r + s.held) → Owes n t (drop_row t i s) r
  unfolding drop_row pays keeps dropped_deadline
  drop_owes cheap =
      let k : WaitingOk t (row_of s i).job (row_of s i).left = fate_ok (w.row i) due.0 in
      let l : deadline_of s i - left_of s i ≡ t = omega (arith, due.1) in
      let m : Same s.rows (mark i (dropped t) s.rows) r = same-mark s.rows i (dropped t) r in
      let same-tight : tight t (row_of (drop_row t i s) r) ≡ tight t (row_of s r) = cc in
      omega (arith, from_waiting s.rows i (dropped t) due.0, (w.row i).within)

-- One sub-step keeps the ledger.
ledger_step : {n t : ℕ} {ph ph' : Phase} {s s' : State} → Wf ph t s → Ledger n t s → Step t ph s ph' s' → Ledger n t s'
unfolding go_idle start preempt append take_over drop_row resume settle_finished IsFirst
ledger_step w q (rests e) = q
ledger_step w q (runs_on e u) = q
ledger_step w q (idles e z d none) = record { proc = finish_clear w e z (owes q e) d }
ledger_step w q (starts_first i e z d f) = record { proc = start_owes (settled_free w e z d) (finish_clear w e z (owes q e) d) i f.0 }
ledger_step w q (resumes e z d later) = record { proc = resume_owes w e z (owes q e) d }
ledger_step w q (resumes_offering e z d f earlier) = record { proc = resume_owes w e z (owes q e) d }
ledger_step w q (starts {i = i} e) = record { proc = start_owes (idle_free w e) (clear q e) i w.offer }
ledger_step w q (preempts e earlier roomy) = record { proc = preempt_owes w e roomy (owes q e) }
ledger_step w q (waits_on e later) = q
ledger_step {n} w q (appears {s} j released feasible) = record { proc = append_owes n w j s.proc refl q.proc }
ledger_step w q (decides) = q
ledger_step w q (takes_over i e due costly) = record { proc = take_over_owes w e i due (owes q e) costly }
ledger_step {n} {t} w q (is_dropped {s} {r} i e due cheap) = record { proc = subst (LedgerOf n t (drop_row t i s)) (sym e) (drop_owes w e i due (owes q e) cheap) }

-- Step D, idle: tick t is counted if it is below the reach.
idle_clear : {n t : ℕ} {rows : List Row} → Clear n t rows → Clear (n + choose (ltb t (reach rows)) 1 0) (t + 1) rows
idle_clear {n} {t} {rows} q =
    by_test (λ (v : ℕ). Clear (n + v) (t + 1) rows) (ltb t (reach rows))
    (λ b. let h : t < reach rows = ltb-true _ _ b in omega arith)
    (λ b. let h : reach rows ≤ t = ltb-false _ _ b in omega arith)

-- Step D, running: tick t is counted, and one tick less remains of the stack.
give_owes : {n t r : ℕ} {s : State} → Wf deciding t s → s.proc ≡ running r → Owes n t s r → Owes (n + 1) (t + 1) (give_to (running r) t s) r
unfolding give_to one_less keeps dropped_deadline least_left
give_owes {n} {t} {r} {s} w e q =
    let x : Row = one_less (row_of s r) in
    let h : r < length s.rows = running_inside w e in
    let f : (row_of s r).fate ≡ taken = running_taken w e in
    let b : Replaced s.rows r (row_of s r).fate x = replaced s.rows r _ x h refl in
    let at : get_or (set s.rows r x) r no_row ≡ x = get_or-set_same s.rows r x no_row h in
    let same-cost : (get_or (set s.rows r x) r no_row).job.cost ≡ cost_of s r = ap (λ (y : Row). y.job.cost) at in
    let same-through : t + 1 + (left_of s r - 1) ≡ t + left_of s r = omega (arith, (busy w e).unfinished) in
    let same-tight : tight (t + 1) (get_or (set s.rows r x) r no_row) ≡ tight t (row_of s r) = rw (at, same-through) in
    omega (arith, (busy w e).unfinished, reach_covers s.rows r, ap (λ (g : Fate). keeps g (left_of s r)) f, ap (λ (g : Fate). keeps g (left_of s r - 1)) f)

give_ledger : {n t : ℕ} {s : State} → Wf deciding t s → Ledger n t s → (p : Proc) → s.proc ≡ p
    → Ledger (n + choose (counts t p s.rows) 1 0) (t + 1) (give_to p t s)
unfolding give_to counts choose
give_ledger {n} {t} {s} w q idle e = record { proc = subst (LedgerOf _ (t + 1) s) (sym e) (idle_clear (clear q e)) }
give_ledger {n} {t} {s} w q (running r) e =
    record { proc = subst (LedgerOf (n + 1) (t + 1) (give_to (running r) t s)) (sym e) (give_owes w e (owes q e)) }

-- Along any run, with its own counted ticks.
abbrev LedgerAlong : Picks → (ℕ → List Job) → Phase → ℕ → State → Type 0
LedgerAlong p released ph t s = Ledger (count (counted p released) t) t s

module _ {p : Picks} (l : Lawful p) (released : ℕ → List Job) (timely : (t : ℕ) → Timely t (released t)) where
  ledger_kept : KeptAlong p released (LedgerAlong p released)
  unfolding fresh count_from reach paid sum_by counted
  ledger_kept =
      record {
        begins = record { proc = record { ahead = omega arith } };
        steps = ledger_step;
        gives = λ n q.
            subst (λ (m : ℕ). Ledger m (n + 1) (give n (decided_at p released n)))
            (sym (ap (count (counted p released)) (add-one n) ∙ count_suc (counted p released) n))
            (give_ledger (decided_at_wf l released timely n) q _ refl);
      }

  pub ledger_along : (n : ℕ) → Ledger (count (counted p released) n) n (decided_at p released n)
  ledger_along = along_decided l released timely (LedgerAlong p released) ledger_kept
