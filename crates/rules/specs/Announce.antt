-- Step B, announce: each row with release t is offered, in row order. Rests on State.
use Rattle.std.specs.Prelude.{ℕ, ◌+◌, ◌-◌, min, List, [], ◌∷◌, ◌++◌, ◌&&◌, ltb, leb, length}
use Rattle.rules.specs.Choose.{choose}
use Rattle.rules.specs.Job.{Job}
use Rattle.rules.specs.State.{Proc, idle, running, State, waiting, taken, row_of, cost_of, deadline_of, left_of, laxity, mark}

-- Row i runs; room is its laxity. Nothing is delayed whenever this is done, so held value and delayed stay as they are.
unfoldable pub start : ℕ → ℕ → State → State
start t i s =
    record {
      rows = mark i taken s.rows;
      proc = running i;
      room = laxity t (row_of s i);
      held = s.held;
      delayed = s.delayed;
      stretches = s.stretches;
    }

-- The running row r goes to delayed together with t and the present room; held value rises by its cost; room falls by the
-- offered row i's remaining, and is then cut to its laxity if that is smaller. The offered row runs.
unfoldable pub preempt : ℕ → ℕ → ℕ → State → State
preempt t r i s =
    record {
      rows = mark i taken s.rows;
      proc = running i;
      room = min (s.room - left_of s i) (laxity t (row_of s i));
      held = s.held + cost_of s r;
      delayed = record { row = r; since = t; room = s.room } ∷ s.delayed;
      stretches = s.stretches;
    }

-- Idle: the offered row runs. Else, if its deadline is strictly earlier than the running job's and room is at least its
-- remaining, it preempts. Else it waits, as it did.
unfoldable pub offer_to : Proc → ℕ → ℕ → State → State
offer_to idle t i s = start t i s
offer_to (running r) t i s =
    choose (ltb (deadline_of s i) (deadline_of s r) && leb (left_of s i) s.room) (preempt t r i s) s

-- The waiting row i is offered at t.
abbrev pub offer : ℕ → ℕ → State → State
offer t i s = offer_to s.proc t i s

-- The state with one row more, which waits with all its cost remaining.
unfoldable pub append : Job → State → State
append j s =
    record {
      rows = s.rows ++ (record { job = j; left = j.cost; fate = waiting } ∷ []);
      proc = s.proc;
      room = s.room;
      held = s.held;
      delayed = s.delayed;
      stretches = s.stretches;
    }

-- The jobs released at t, in row order, each appended and offered.
unfoldable pub announce : ℕ → List Job → State → State
announce t [] s = s
announce t (j ∷ js) s = announce t js (offer t (length s.rows) (append j s))
