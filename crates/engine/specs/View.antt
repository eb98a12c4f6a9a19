-- The engine's state, seen as the rules' state over the jobs announced so far, as many as it counts.
use Rattle.std.specs.Prelude.{ℕ, zero, suc, List, [], ◌∷◌, get_or}
use Rattle.rules.specs.Job.{Job}
use Rattle.rules.specs.State.{State, Row, Entry, Stretch, waiting, taken, finished, dropped, idle, running}
use Rattle.rules.specs.State as Rules
use Rattle.engine.specs.declared.state.Run.{Run}
use Rattle.engine.specs.declared.state.Fate.{Fate}
use Rattle.engine.specs.declared.state.Fate.TheVariants.{Waiting, Taken, Finished, Dropped}
use Rattle.engine.specs.declared.state.Proc.{Proc}
use Rattle.engine.specs.declared.state.Proc.TheVariants.{Idle, Running}

-- What has become of a row.
abbrev pub fate_of : Fate → Rules.Fate
fate_of Waiting = waiting
fate_of Taken = taken
fate_of (Finished t) = finished t
fate_of (Dropped t) = dropped t

-- What runs.
abbrev pub proc_of : Proc → Rules.Proc
proc_of Idle = idle
proc_of (Running i) = running i

-- What a job is where there is none.
abbrev pub no_job : Job
no_job = record { name = 0; release = 0; cost = 0; deadline = 0 }

-- Rows from their jobs, what is left of each, and what has become of each: as many as the shortest of these has.
unfoldable pub rows_of : List Job → List ℕ → List Fate → List Row
rows_of [] ls fs = []
rows_of (j ∷ js) [] fs = []
rows_of (j ∷ js) (l ∷ ls) [] = []
rows_of (j ∷ js) (l ∷ ls) (f ∷ fs) = record { job = j; left = l; fate = fate_of f } ∷ rows_of js ls fs

-- The delayed jobs, the last put in first: the first k of the columns.
unfoldable pub entries_of : ℕ → List ℕ → List ℕ → List ℕ → List Entry
entries_of zero rs ts ms = []
entries_of (suc k) rs ts ms = record { row = get_or rs k 0; since = get_or ts k 0; room = get_or ms k 0 } ∷ entries_of k rs ts ms

-- The state of a run of these jobs, with these stretches.
abbrev pub view : List Job → Run → List Stretch → State
view jobs r ss =
    record {
      rows = rows_of jobs r.left r.fate;
      proc = proc_of r.proc;
      room = r.room;
      held = r.held;
      delayed = entries_of r.depth r.delayed r.since r.saved;
      stretches = ss;
    }
