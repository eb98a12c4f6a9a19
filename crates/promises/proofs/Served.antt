-- What a plan for all that remains means for the state: an earlier offer than the running job is always accepted, and no
-- waiting job is due while an earlier one runs. Rests on SecondHalf for the plan, on Room and on Carried.
use Prim.Native.Nat.{ℕ, ◌+◌, ◌-◌, ◌≤◌, ◌<◌}
use native.Mathlib.Nat.{le_trans}
use native.Mathlib.Omega.{arith}
use mathlib.Core.Path.{◌≡◌, sym, ap, ◌∙◌}
use mathlib.Core.List.{List, [], ◌∷◌}
use lib.ListN.{length, get_or}
use Rattle.rules.specs.Job.{Job}
use Rattle.rules.specs.State.{Row, State, no_row, row_of, deadline_of, left_of, given, running}
use Rattle.promises.specs.Plan.{job_of, Plan}
use Rattle.promises.specs.Lawful.{Waits, Due}
use Rattle.promises.proofs.Rows.{at_and_beside}
use Rattle.promises.proofs.Sums.{sum_by}
use Rattle.promises.proofs.RowNumbers.{same, same_self, same_other, occurs, each_row, over_le, Distinct}
use Rattle.promises.proofs.Stack.{rows_of}
use Rattle.promises.proofs.Steps.{Phase}
use Rattle.promises.proofs.Wf.{WaitingOk, RowOk, fate_ok, if_taken, Wf, waits_inside, taken_inside, once_running, if_taken-small}
use Rattle.promises.proofs.Room.{left_sum, Tight, room_tight}
use Rattle.promises.proofs.Carried.{Carries}
use Rattle.promises.proofs.SecondHalf.{Serves, serves_demand}

-- What a row of the list, announced or not, has not been given yet.
abbrev pub owed : List Job → List Row → ℕ → ℕ
owed jobs rows i = (job_of jobs i).cost - given (get_or rows i no_row)

-- The plan q gives every row of the list in time what it is still owed at tick t.
abbrev pub ServesOwed : List Job → List Row → Plan → ℕ → Type 0
ServesOwed jobs rows q t = Serves (λ i. (job_of jobs i).release) (λ i. (job_of jobs i).deadline) (owed jobs rows) q t

-- The rows are the list's first, and the plan q serves them and the rest.
pub record Served (jobs : List Job) (q : Plan) (t : ℕ) (rows : List Row) : Type 0 where
  pub known : (i : ℕ) → i < length rows → (get_or rows i no_row).job ≡ job_of jobs i
  pub serves : ServesOwed jobs rows q t

pub serves_less : {release deadline left : ℕ → ℕ} {q : Plan} {t : ℕ} (left' : ℕ → ℕ) → ((i : ℕ) → left' i ≤ left i)
    → Serves release deadline left q t → Serves release deadline left' q t
serves_less left' less k = record { now = λ i h. le_trans (less i) (k.now i h); later = λ i h. le_trans (less i) (k.later i h) }

-- What is so after a sub-step of A, B or C was so before it.
pub served_before : {jobs : List Job} {q : Plan} {t : ℕ} {rows rows' : List Row} → Carries rows rows' → Served jobs q t rows' → Served jobs q t rows
served_before {jobs} {rows = rows} c v =
    record {
      known = λ i h. sym (c.job i h) ∙ v.known i (le_trans h c.longer);
      serves = serves_less (owed jobs rows) (λ i. omega (arith, c.given i)) v.serves;
    }

module _ {jobs : List Job} {q : Plan} {ph : Phase} {t : ℕ} {s : State} (w : Wf ph t s) (v : Served jobs q t s.rows) where
  -- An announced row is released by now, has its deadline in the list, and is owed what remains of it.
  pub announced : (j : ℕ) → j < length s.rows
      → ((job_of jobs j).release ≤ t) × ((job_of jobs j).deadline ≡ deadline_of s j) × (owed jobs s.rows j ≡ left_of s j)
  announced j h =
      let k : RowOk t (row_of s j) = w.row j in
      let e : (row_of s j).job ≡ job_of jobs j = v.known j h in
      omega (arith, k.within, k.since, ap (λ (x : Job). x.release) e, ap (λ (x : Job). x.deadline) e, ap (λ (x : Job). x.cost) e)

  -- The demand lemma, of announced rows: what remains of rows without repetition that have deadlines by d fits between t and d.
  demand : (d : ℕ) (is : List ℕ) → Distinct is → ((j : ℕ) → 1 ≤ occurs j is → (j < length s.rows) × (deadline_of s j ≤ d))
      → left_sum s.rows is ≤ d - t
  demand d is once each =
      omega (
        arith,
        serves_demand _ _ _ q t v.serves d is once (λ j o. omega (arith, announced j (each j o).0, (each j o).1)),
        over_le (λ i. left_of s i) (owed jobs s.rows) is (λ j o. omega (arith, announced j (each j o).0)),
      )

  -- So what remains of a waiting row and of the stack, from the top down to some row, fits before d if their deadlines do.
  waiting_and_stack : {r : ℕ} (i : ℕ) → s.proc ≡ running r → Waits s.rows i → (upto : List ℕ) → ((j : ℕ) → occurs j upto ≤ occurs j (rows_of s.delayed))
      → (d : ℕ) → deadline_of s i ≤ d → ((j : ℕ) → 1 ≤ occurs j (r ∷ upto) → deadline_of s j ≤ d)
      → left_of s i + left_sum s.rows (r ∷ upto) ≤ d - t
  unfolding sum_by if_taken
  waiting_and_stack {r} i e f upto part d soon within =
      demand d (i ∷ r ∷ upto)
      (at_and_beside (λ (j : ℕ). same j i + (same j r + occurs j upto) ≤ 1) i
      (omega (arith, same_self i, part i, once_running w e i, ap if_taken f))
      (λ j n. omega (arith, same_other j i n, part j, once_running w e j, if_taken-small (row_of s j).fate)))
      (each_row (λ (j : ℕ). (j < length s.rows) × (deadline_of s j ≤ d)) i (r ∷ upto) (waits_inside s.rows i f, soon)
      (λ j o. (taken_inside s.rows j (omega (arith, part j, once_running w e j)), within j o)))

  -- An offer with an earlier deadline than the running job's is accepted: there is room.
  pub accepted : {r : ℕ} (i : ℕ) → s.proc ≡ running r → Waits s.rows i → deadline_of s i < deadline_of s r → left_of s i ≤ s.room
  unfolding sum_by
  accepted {r} i e f earlier =
      let k : Tight s.rows (t + s.room) r (rows_of s.delayed) = room_tight w e in
      omega (
        arith,
        waiting_and_stack i e f k.upto k.part k.limit (omega (arith, k.within r (omega (arith, same_self r)))) k.within,
        k.reached,
      )

  -- While a job runs that is not through and whose deadline is no later than a waiting row's, that row is not due.
  pub not_due : {r : ℕ} (i : ℕ) → s.proc ≡ running r → 1 ≤ left_of s r → deadline_of s r ≤ deadline_of s i → Due t s.rows i → ⊥
  unfolding sum_by
  not_due {r} i e u earlier due =
      let k : WaitingOk t (row_of s i).job (row_of s i).left = fate_ok (w.row i) due.0 in
      omega (
        arith,
        waiting_and_stack i e due.0 [] (λ j. omega arith) (deadline_of s i) (omega arith)
            (each_row (λ (j : ℕ). deadline_of s j ≤ deadline_of s i) r [] earlier (λ j o. absurd (omega arith))),
        due.1,
      )
