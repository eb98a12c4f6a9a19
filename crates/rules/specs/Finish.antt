-- Step A, finish: if the running job has remaining 0, it is finished at t. Rests on Announce, for the offer.
use Rattle.std.specs.Prelude.{ℕ, ◌-◌, List, [], ◌∷◌, ltb, eqb}
use Rattle.std.proofs.Math.Option.{Option, none, some}
use Rattle.rules.specs.Choose.{choose}
use Rattle.rules.specs.State.{Proc, idle, running, Entry, State, finished, cost_of, deadline_of, left_of, mark}
use Rattle.rules.specs.Picks.{Picks}
use Rattle.rules.specs.Announce.{start, offer}

-- Row r is finished at t. What runs next is not decided yet.
unfoldable pub settle_finished : ℕ → ℕ → State → State
settle_finished t r s =
    record {
      rows = mark r (finished t) s.rows;
      proc = s.proc;
      room = s.room;
      held = s.held;
      delayed = s.delayed;
      stretches = s.stretches;
    }

-- Nothing runs. Room has no meaning then.
unfoldable pub go_idle : State → State
go_idle s =
    record { rows = s.rows; proc = idle; room = 0; held = s.held; delayed = s.delayed; stretches = s.stretches }

-- The last entry put in, e, comes out and runs, and `rest` stays. Held value falls by its cost. Room becomes the room saved
-- with it, less the ticks since it was put in.
unfoldable pub resume : ℕ → Entry → List Entry → State → State
resume t e rest s =
    record {
      rows = s.rows;
      proc = running e.row;
      room = e.room - (t - e.since);
      held = s.held - cost_of s e.row;
      delayed = rest;
      stretches = s.stretches;
    }

-- If the first waiting job has a strictly earlier deadline than the running row r, it is offered as in B. Once only.
unfoldable pub offer_earlier : Option ℕ → ℕ → ℕ → State → State
offer_earlier none t r s = s
offer_earlier (some i) t r s = choose (ltb (deadline_of s i) (deadline_of s r)) (offer t i s) s

-- With nothing delayed: the first waiting job runs and room is its laxity; if none waits, idle.
unfoldable pub start_first : Option ℕ → ℕ → State → State
start_first none t s = go_idle s
start_first (some i) t s = start t i s

-- What runs after a finish, by what is delayed.
unfoldable pub run_next : Picks → List Entry → ℕ → State → State
run_next p [] t s = start_first (p.first s.rows) t s
run_next p (e ∷ rest) t s = offer_earlier (p.first s.rows) t e.row (resume t e rest s)

-- The finish of the running row r, its remaining being 0.
unfoldable pub finish_row : Picks → ℕ → ℕ → State → State
finish_row p t r s = run_next p s.delayed t (settle_finished t r s)

unfoldable pub finish_of : Picks → Proc → ℕ → State → State
finish_of p idle t s = s
finish_of p (running r) t s = choose (eqb (left_of s r) 0) (finish_row p t r s) s

-- Step A at tick t.
abbrev pub finish : Picks → ℕ → State → State
finish p t s = finish_of p s.proc t s
