-- The run as a plan: it gives each row, between its release and its deadline and before the end, just the ticks that the row's
-- state counts. So every finished row is finished on time, and the plan earns the run's value. Rests on Carried, Ended and Listed.
use Prim.Native.Nat.{ℕ, zero, suc, ◌+◌, ◌-◌, ◌≤◌, ◌<◌, zero-le}
use native.Mathlib.Nat.{le_antisymm, zero-add, add-zero, add-suc, suc-add}
use native.Mathlib.Omega.{arith}
use mathlib.Core.Path.{◌≡◌, refl, sym, ap, ◌∙◌}
use mathlib.Core.Option.{some}
use mathlib.Core.List.{List, [], ◌∷◌, map}
use lib.ListN.{get_or}
use borrow.Author.Tests.{le-leb, lt-leb}
use Rattle.rules.specs.Choose.{choose}
use Rattle.rules.specs.Job.{Job, Proper}
use Rattle.rules.specs.State.{Fate, Row, Proc, State, fresh, no_row, row_of, given, waiting, taken, finished, dropped, idle, running}
use Rattle.rules.specs.Picks.{Picks}
use Rattle.rules.specs.Run.{tick, before, released_at, run}
use Rattle.rules.specs.Result.{value_of, value_of_rows}
use Rattle.promises.specs.Plan.{job_of, Plan, ticks, ticks_in_time, earns_row, earns_from, earns}
use Rattle.promises.specs.RunPlan.{running_row, decided_at, run_plan}
use Rattle.promises.specs.Lawful.{Lawful}
use Rattle.promises.proofs.Steps.{deciding}
use Rattle.promises.proofs.Wf.{FinishedOk, RowOk, fate_ok, least_left, Wf, running_inside, taken_lax, running_taken}
use Rattle.promises.proofs.Always.{decided_at_wf}
use Rattle.promises.proofs.Carried.{decided_at_carries, give-given}
use Rattle.promises.proofs.End.{Settled, timely, run_ends, end_wf, end_rows, end_settled}
use Rattle.promises.proofs.Ended.{idle_after}
use Rattle.promises.proofs.Listed.{listed, end_listed}
use Rattle.promises.proofs.Ticks.{ticks_lie}

runs_row : {j : ℕ} (pr : Proc) → running_row pr ≡ some j → pr ≡ running j
unfolding running_row
runs_row idle e = cc
runs_row (running r) e = cc

earns_row_enough : (q : Plan) (i : ℕ) (j : Job) → j.cost ≤ ticks_in_time q i j → earns_row q i j ≡ j.cost
unfolding earns_row choose
earns_row_enough q i j h = rw (le-leb _ _ h, choose)

earns_row_short : (q : Plan) (i : ℕ) (j : Job) → ticks_in_time q i j < j.cost → earns_row q i j ≡ 0
unfolding earns_row choose
earns_row_short q i j h = rw (lt-leb _ _ h, choose)

-- A plan that earns with each row what the row brings earns the rows' value, the first row being numbered i.
earns_rows : (q : Plan) (i : ℕ) (rows : List Row)
    → ((k : ℕ) → earns_row q (i + k) (get_or rows k no_row).job ≡ value_of (get_or rows k no_row).fate (get_or rows k no_row).job)
    → earns_from q i (map (λ (r : Row). r.job) rows) ≡ value_of_rows rows
unfolding earns_from value_of_rows
earns_rows q i [] h = refl
earns_rows q i (r ∷ rows) h =
    omega (arith, rw add-zero at (h 0), earns_rows q (suc i) rows (λ k. rw (add-suc, ← suc-add) at (h (suc k))))

module _ {p : Picks} (l : Lawful p) (jobs : List Job) (proper : Proper jobs) where
  -- Before tick n a row was given the ticks below n that the plan gives it.
  given-before : (n i : ℕ) → given (row_of (before p (released_at jobs) n) i) ≡ ticks (run_plan p jobs) i 0 n
  unfolding before tick fresh ticks run_plan
  given-before zero i = refl
  given-before (suc n) i =
      rw zero-add (omega (
        arith,
        give-given (decided_at_wf l (released_at jobs) (timely l jobs proper) n) i,
        (decided_at_carries l (released_at jobs) (timely l jobs proper) n).given i,
        given-before n i,
      ))

  -- The plan gives no tick to a row outside its window,
  pub in_time_lem : (t j : ℕ) → run_plan p jobs t ≡ some j → ((job_of jobs j).release ≤ t) × (t < (job_of jobs j).deadline)
  unfolding run_plan least_left
  in_time_lem t j e =
      let s : State = decided_at p (released_at jobs) t in
      let r : s.proc ≡ running j = runs_row s.proc e in
      let w : Wf deciding t s = decided_at_wf l (released_at jobs) (timely l jobs proper) t in
      let k : RowOk t (row_of s j) = w.row j in
      let job : (row_of s j).job ≡ job_of jobs j = listed p jobs proper t j (running_inside w r) in
      omega (arith, k.within, k.since, taken_lax w r j (running_taken w r), ap (λ (x : Job). x.release) job, ap (λ (x : Job). x.deadline) job)

  -- nor from the end of the run on.
  before_end : (t j : ℕ) → run_plan p jobs t ≡ some j → t < (run p jobs).tick
  unfolding run_plan
  before_end t j e =
      let n : ¬ ((run p jobs).tick ≤ t) =
      λ h. let z : ◌≡◌ {A = ℕ} 0 1 = cc (idle_after l jobs proper t h, runs_row (decided_at p (released_at jobs) t).proc e) in omega arith in
      omega arith

  -- Ticks given, as the run ends, are the ticks that the plan gives below the end;
  pub given-ticks : (j : ℕ) → given (row_of (run p jobs).state j) ≡ ticks (run_plan p jobs) j 0 (run p jobs).tick
  given-ticks j =
      let n : ℕ = (run p jobs).tick in
      ap (λ (s : State). given (row_of s j)) (run_ends l jobs proper).state
      ∙ (decided_at_carries l (released_at jobs) (timely l jobs proper) n).given j
      ∙ given-before n j

  -- they are all in time.
  pub given_in_time : (j : ℕ) → ticks_in_time (run_plan p jobs) j (job_of jobs j) ≡ given (row_of (run p jobs).state j)
  given_in_time j =
      let q : Plan = run_plan p jobs in
      let x : Job = job_of jobs j in
      le_antisymm
      (ticks_lie q q j x.release (x.deadline - x.release) 0 (run p jobs).tick (λ t h k e. (zero-le, omega (arith, before_end t j e), e)))
      (ticks_lie q q j 0 (run p jobs).tick x.release (x.deadline - x.release) (λ t h k e. let i = in_time_lem t j e in (i.0, omega arith, e)))
      ∙ sym (given-ticks j)

  -- A row that the run finishes got exactly its cost, and is finished on time.
  pub on_time_lem : (j u : ℕ) → (row_of (run p jobs).state j).fate ≡ finished u
      → (given (row_of (run p jobs).state j) ≡ (job_of jobs j).cost) × (u ≤ (job_of jobs j).deadline)
  on_time_lem j u e =
      let s : State = (run p jobs).state in
      let k : FinishedOk (run p jobs).tick u (row_of s j).job (row_of s j).left = fate_ok ((end_wf l jobs proper).row j) e in
      omega (arith, k, ap (λ (x : Job). x.cost) (end_listed l jobs proper j), ap (λ (x : Job). x.deadline) (end_listed l jobs proper j))

  -- A row earns in the plan what it brings to the run's value.
  earns_fate : (j : ℕ) (f : Fate) → (row_of (run p jobs).state j).fate ≡ f → Settled f
      → earns_row (run_plan p jobs) j (row_of (run p jobs).state j).job ≡ value_of f (row_of (run p jobs).state j).job
  unfolding value_of
  earns_fate j waiting e k = absurd k
  earns_fate j taken e k = absurd k
  earns_fate j (finished u) e k =
      earns_row_enough _ _ _ (omega (arith, (fate_ok ((end_wf l jobs proper).row j) e).through, ap (ticks_in_time (run_plan p jobs) j) (end_listed l jobs proper j), given_in_time j))
  earns_fate j (dropped u) e k =
      let r : RowOk (run p jobs).tick (row_of (run p jobs).state j) = (end_wf l jobs proper).row j in
      earns_row_short _ _ _
      (omega (arith, r.within, (fate_ok r e).unfinished, ap (ticks_in_time (run_plan p jobs) j) (end_listed l jobs proper j), given_in_time j))

  -- So the run is itself a plan that earns its value.
  pub run-earns : earns (run_plan p jobs) jobs ≡ value_of_rows (run p jobs).state.rows
  run-earns =
      ap (earns (run_plan p jobs)) (sym (end_rows l jobs proper))
      ∙ earns_rows (run_plan p jobs) 0 (run p jobs).state.rows (λ j. rw zero-add (earns_fate j (row_of (run p jobs).state j).fate refl (end_settled l jobs proper j)))
