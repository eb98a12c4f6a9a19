-- All that is promised of the run of a list, in document 01's words; proofs/Main proves it of every list whose rows pass tests 8, 10
-- and 11 (`Proper`). A plan gives each tick to at most one row, and may know all rows beforehand; it earns the cost of each row that
-- gets at least as many ticks of it from its release to before its deadline (Plan). Rests on the rules' Result and the terms beside.
use Rattle.std.specs.Prelude.{ℕ, ◌*◌, ◌≤◌, ◌<◌, ◌≡◌, ◌⊎◌, List, map, reverse, length, get_or}
use Rattle.std.proofs.Math.Option.{some}
use Rattle.rules.specs.Job.{Job, Proper}
use Rattle.rules.specs.State.{Stretch, no_row}
use Rattle.rules.specs.Picks.{Picks, document}
use Rattle.rules.specs.Run.{run, greatest_deadline}
use Rattle.rules.specs.Result.{Outcome, Span, row_outcome, run_result}
use Rattle.promises.specs.Plan.{job_of, Plan, ticks_in_time, earns, all_costs}
use Rattle.promises.specs.RunPlan.{run_plan}
use Rattle.promises.specs.Bound.{bound}
use Rattle.promises.specs.Stretches.{Precedes, InOrder, ticks_in}

-- What the result shows of row i, rows counting from 0.
abbrev pub outcome_of : Picks → List Job → ℕ → Outcome
outcome_of p jobs i = get_or (run_result p jobs).outcomes i (row_outcome no_row)

-- The run finishes row i: its outcome is 1. It drops row i: its outcome is 2.
abbrev pub Finishes : Picks → List Job → ℕ → Type 0
Finishes p jobs i = (outcome_of p jobs i).outcome ≡ 1

abbrev pub Drops : Picks → List Job → ℕ → Type 0
Drops p jobs i = (outcome_of p jobs i).outcome ≡ 2

-- The stretches of a run in time order, each of a row; and a stretch as the result shows it, with its row's name.
abbrev pub in_time_order : Picks → List Job → List Stretch
in_time_order p jobs = reverse (run p jobs).state.stretches

abbrev pub named : List Job → Stretch → Span
named jobs x = record { name = (job_of jobs x.row).name; first = x.first; after = x.after }

-- Of any plan q.
pub record OfPlan (p : Picks) (jobs : List Job) (q : Plan) : Type 0 where
  -- Demand 3, first half: it earns at most 4 × the value of the run.
  pub four_times : earns q jobs ≤ 4 * (run_result p jobs).value
  -- It earns at most the bound of this list, a number that the run itself shows; and that is at most 4 × the value of the run.
  pub within_bound : earns q jobs ≤ bound p jobs
  pub bound_four_times : bound p jobs ≤ 4 * (run_result p jobs).value
  -- Demand 3, second half: if it earns every row's cost, the run finishes every row.
  pub all_finished : earns q jobs ≡ all_costs jobs → (i : ℕ) → i < length jobs → Finishes p jobs i

-- Of each row i.
pub record OfRow (p : Picks) (jobs : List Job) (i : ℕ) : Type 0 where
  -- At the end it is settled: finished or dropped.
  pub settled : Finishes p jobs i ⊎ Drops p jobs i
  -- On time: its ticks given are those that the run gives it from its release to before its deadline;
  pub in_time : (outcome_of p jobs i).given ≡ ticks_in_time (run_plan p jobs) i (job_of jobs i)
  -- if it is finished, they are exactly its cost, and it is finished at or before its deadline.
  pub whole_cost : Finishes p jobs i → (outcome_of p jobs i).given ≡ (job_of jobs i).cost
  pub on_time : Finishes p jobs i → (outcome_of p jobs i).tick ≤ (job_of jobs i).deadline
  -- They are the sum of its stretches.
  pub stretches : (outcome_of p jobs i).given ≡ ticks_in i (in_time_order p jobs)

-- Of the run.
pub record OfRun (p : Picks) (jobs : List Job) : Type 0 where
  -- It is itself a plan, and what it earns is its value.
  pub earns_value : earns (run_plan p jobs) jobs ≡ (run_result p jobs).value
  -- Stretches: there are never more in all than three times the rows.
  pub few_stretches : length (run_result p jobs).spans ≤ 3 * length jobs
  -- They ascend; none is empty, overlaps another or ends after the run; each is of a row, and those that touch are of different rows.
  pub in_order : InOrder Precedes (run p jobs).tick (length jobs) (in_time_order p jobs)
  -- The end: it is at or before the greatest deadline, and the value is at most its tick.
  pub ends : (run p jobs).tick ≤ greatest_deadline jobs
  pub value_by_end : (run_result p jobs).value ≤ (run p jobs).tick
  -- The result shows the rows of the list in its order, and these stretches, all with the list's names.
  pub outcomes_named : map (λ (o : Outcome). o.name) (run_result p jobs).outcomes ≡ map (λ (j : Job). j.name) jobs
  pub spans_named : (run_result p jobs).spans ≡ map (named jobs) (in_time_order p jobs)

-- All that is promised of a list, with p for the picks. The run gives no row a tick but from its release to before its deadline.
pub record Promised (p : Picks) (jobs : List Job) : Type 0 where
  pub plan : (q : Plan) → OfPlan p jobs q
  pub row : (i : ℕ) → i < length jobs → OfRow p jobs i
  pub run : OfRun p jobs
  pub none_outside : (t i : ℕ) → run_plan p jobs t ≡ some i → ((job_of jobs i).release ≤ t) × (t < (job_of jobs i).deadline)

-- Four is needed: with document 01's own picks, some plan for some proper list earns more than 3.9 × the value of the run.
abbrev pub FourIsNeeded : Type 0
FourIsNeeded = (jobs : List Job) × (q : Plan) × Proper jobs × (39 * (run_result document jobs).value < 10 * earns q jobs)
