-- The run of a list as a plan: which row gets each tick. With it one can say when a row was given its ticks, and what the run
-- itself earns. Rests on Plan and the rules' Run.
use Rattle.std.specs.Prelude.{ℕ, List}
use Rattle.std.proofs.Math.Option.{Option, none, some}
use Rattle.rules.specs.Job.{Job}
use Rattle.rules.specs.State.{Proc, State, idle, running}
use Rattle.rules.specs.Picks.{Picks}
use Rattle.rules.specs.Run.{decided, before, released_at}
use Rattle.promises.specs.Plan.{Plan}

-- The row that the processor runs, if any.
unfoldable pub running_row : Proc → Option ℕ
running_row idle = none
running_row (running r) = some r

-- The state after steps A, B and C of tick t, for any announcements.
abbrev pub decided_at : Picks → (ℕ → List Job) → ℕ → State
decided_at p released t = decided p t (released t) (before p released t)

-- Tick t goes to the row that step D gives it to: the one that runs after step C. While idle it goes to none.
unfoldable pub run_plan : Picks → List Job → Plan
run_plan p jobs t = running_row (decided_at p (released_at jobs) t).proc
