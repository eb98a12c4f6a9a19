-- Step C, latest starts: while some waiting job has latest start t, it takes over or is dropped. Rests on State and Picks.
use Rattle.std.specs.Prelude.{ℕ, zero, suc, ◌+◌, ◌*◌, [], map, ltb, length}
use Rattle.std.proofs.Math.Option.{Option, none, some}
use Rattle.rules.specs.Choose.{choose}
use Rattle.rules.specs.State.{Fate, waiting, taken, finished, dropped, Row, Proc, idle, running, State, cost_of, with_fate, mark}
use Rattle.rules.specs.Picks.{Picks}

-- The whole cost of the running job, 0 while idle.
unfoldable pub running_cost : State → Proc → ℕ
running_cost s idle = 0
running_cost s (running r) = cost_of s r

-- A row that runs or is delayed goes to waiting; any other stays.
unfoldable pub displaced : Fate → Fate
displaced waiting = waiting
displaced taken = waiting
displaced (finished t) = finished t
displaced (dropped t) = dropped t

unfoldable pub displace : Row → Row
displace r = with_fate (displaced r.fate) r

-- Row i takes over: the displaced running job and every delayed job go to waiting, held value becomes 0, room becomes 0,
-- and it runs. The rows that run or are delayed are exactly the taken ones (proved in `promises`, Wf).
unfoldable pub take_over : ℕ → State → State
take_over i s =
    record {
      rows = mark i taken (map displace s.rows);
      proc = running i;
      room = 0;
      held = 0;
      delayed = [];
      stretches = s.stretches;
    }

-- Row i is dropped at t.
unfoldable pub drop_row : ℕ → ℕ → State → State
drop_row t i s =
    record {
      rows = mark i (dropped t) s.rows;
      proc = s.proc;
      room = s.room;
      held = s.held;
      delayed = s.delayed;
      stretches = s.stretches;
    }

-- The waiting row i has latest start t. If its cost is greater than 2 × (cost of the running job + held value), it takes
-- over. Else it is dropped. Costs are whole costs, never remaining ones.
unfoldable pub decide : ℕ → ℕ → State → State
decide t i s =
    choose (ltb (2 * (running_cost s s.proc + s.held)) (cost_of s i)) (take_over i s) (drop_row t i s)

unfoldable pub if_found : Option ℕ → State → (ℕ → State) → State
if_found none s f = s
if_found (some i) s f = f i

-- While some waiting job has latest start t, take the pick among them: at most k times.
unfoldable pub decide_all : Picks → ℕ → ℕ → State → State
decide_all p zero t s = s
decide_all p (suc k) t s = if_found (p.next t s.rows) s (λ i. decide_all p k t (decide t i s))

-- Step C at tick t. Twice as many decisions as rows are announced always suffice: afterwards nothing is due at t (proved in
-- `promises`, Fuel), so the bound never cuts the "while" short.
abbrev pub latest_starts : Picks → ℕ → State → State
latest_starts p t s = decide_all p (2 * length s.rows) t s
