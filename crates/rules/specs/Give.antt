-- Step D, run: the running job, if any, is given the tick. Rests on State.
use Rattle.std.specs.Prelude.{ℕ, ◌+◌, ◌-◌, List, [], ◌∷◌, ◌&&◌, eqb, get_or, set}
use Rattle.rules.specs.Choose.{choose}
use Rattle.rules.specs.State.{Row, no_row, Proc, idle, running, Stretch, State}

-- Tick t given to row r, in a run of stretches, newest first: the newest grows if it is r's and ends at t, else a new one starts.
unfoldable pub stretch : ℕ → ℕ → List Stretch → List Stretch
stretch t r [] = record { row = r; first = t; after = t + 1 } ∷ []
stretch t r (x ∷ xs) =
    choose (eqb x.row r && eqb x.after t)
    (record { row = r; first = x.first; after = t + 1 } ∷ xs)
    (record { row = r; first = t; after = t + 1 } ∷ (x ∷ xs))

-- A row with one tick less remaining.
unfoldable pub one_less : Row → Row
one_less r = record { job = r.job; left = r.left - 1; fate = r.fate }

unfoldable pub give_to : Proc → ℕ → State → State
give_to idle t s = s
give_to (running r) t s =
    record {
      rows = set s.rows r (one_less (get_or s.rows r no_row));
      proc = s.proc;
      room = s.room;
      held = s.held;
      delayed = s.delayed;
      stretches = stretch t r s.stretches;
    }

-- Step D at tick t.
abbrev pub give : ℕ → State → State
give t s = give_to s.proc t s
