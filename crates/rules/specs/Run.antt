-- One tick, and the run of a list to its end. Rests on the four steps.
use Rattle.std.specs.Prelude.{ℕ, zero, suc, ◌+◌, max, List, [], ◌∷◌, Bool, true, false, ◌&&◌, leb, eqb}
use Rattle.rules.specs.Choose.{choose}
use Rattle.rules.specs.Job.{Job}
use Rattle.rules.specs.State.{Proc, idle, running, State, fresh}
use Rattle.rules.specs.Picks.{Picks}
use Rattle.rules.specs.Finish.{finish}
use Rattle.rules.specs.Announce.{announce}
use Rattle.rules.specs.LatestStarts.{latest_starts}
use Rattle.rules.specs.Give.{give}

-- Steps A, B and C of tick t, at which the jobs `released` are announced: what is decided before the tick is given.
unfoldable pub decided : Picks → ℕ → List Job → State → State
decided p t released s = latest_starts p t (announce t released (finish p t s))

-- Tick t whole: A, B, C and D.
unfoldable pub tick : Picks → ℕ → List Job → State → State
tick p t released s = give t (decided p t released s)

-- The state before tick n, for any announcements, whether or not a run would have ended by then. The promises speak of it.
unfoldable pub before : Picks → (ℕ → List Job) → ℕ → State
before p released zero = fresh
before p released (suc n) = tick p n (released n) (before p released n)

-- The rows of a list that have release t, in row order.
unfoldable pub released_at : List Job → ℕ → List Job
released_at [] t = []
released_at (j ∷ js) t = choose (eqb j.release t) (j ∷ released_at js t) (released_at js t)

-- The test whether no row of a list is still to be announced after tick t.
unfoldable pub all_announced : List Job → ℕ → Bool
all_announced [] t = true
all_announced (j ∷ js) t = leb j.release t && all_announced js t

abbrev pub is_idle : Proc → Bool
is_idle idle = true
is_idle (running r) = false

-- The end of a run: the tick at which it ends, and the state there.
pub record End : Type 0 where
  pub tick : ℕ
  pub state : State

-- The run from tick t on. It ends at the first tick where, after C, the processor is idle and no row is still to be
-- announced; the state is the one after C. At most k ticks are gone through: where k is used up, the state is the one before
-- tick t, which no proper list's run comes to.
unfoldable pub run_from : Picks → List Job → ℕ → ℕ → State → End
run_from p jobs zero t s = record { tick = t; state = s }
run_from p jobs (suc k) t s =
    let c = decided p t (released_at jobs t) s in
    let on = run_from p jobs k (t + 1) (give t c) in
    choose (is_idle c.proc && all_announced jobs t) (record { tick = t; state = c }) on

unfoldable pub greatest_deadline : List Job → ℕ
greatest_deadline [] = 0
greatest_deadline (j ∷ js) = max j.deadline (greatest_deadline js)

-- The run of a list. A proper list's run ends at or before its greatest deadline (proved in `promises`), so the bound on the
-- ticks gone through is never met.
unfoldable pub run : Picks → List Job → End
run p jobs = run_from p jobs (greatest_deadline jobs + 1) 0 fresh
