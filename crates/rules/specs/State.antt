-- The state of a run: the rows announced so far, the processor, room, held value, the delayed jobs and the stretches.
-- It knows nothing of rows to come. Rests on Job.
use Rattle.std.specs.Prelude.{ℕ, ◌-◌, List, [], Bool, true, false, get_or, set}
use Rattle.rules.specs.Job.{Job}

-- What has become of an announced row. Taken means that it runs or is delayed.
pub data Fate : Type 0 where
  waiting : Fate
  taken : Fate
  finished : ℕ → Fate
  dropped : ℕ → Fate

-- An announced row: its job, its remaining ticks (cost minus ticks already given) and its fate.
pub record Row : Type 0 where
  pub job : Job
  pub left : ℕ
  pub fate : Fate

-- The processor is either idle or running one job, given by its row (rows count from 0 here).
pub data Proc : Type 0 where
  idle : Proc
  running : ℕ → Proc

-- A delayed job: its row, the tick at which it was put in, and the room saved with it.
pub record Entry : Type 0 where
  pub row : ℕ
  pub since : ℕ
  pub room : ℕ

-- A longest unbroken range of ticks given to one row: from tick `first` to before tick `after`.
pub record Stretch : Type 0 where
  pub row : ℕ
  pub first : ℕ
  pub after : ℕ

-- `rows` are the announced ones in row order; `delayed` has the last entry put in first; `stretches` has the newest first.
pub record State : Type 0 where
  pub rows : List Row
  pub proc : Proc
  pub room : ℕ
  pub held : ℕ
  pub delayed : List Entry
  pub stretches : List Stretch

-- A fresh run is idle with nothing waiting or delayed and held value 0. Room has no meaning while idle; it is kept at 0.
unfoldable pub fresh : State
fresh = record { rows = []; proc = idle; room = 0; held = 0; delayed = []; stretches = [] }

-- What a row is where there is none: a job of no cost, finished at 0.
abbrev pub no_row : Row
no_row = record { job = record { name = 0; release = 0; cost = 0; deadline = 0 }; left = 0; fate = finished 0 }

-- The row numbered i.
abbrev pub row_of : State → ℕ → Row
row_of s i = get_or s.rows i no_row

abbrev pub cost_of : State → ℕ → ℕ
cost_of s i = (row_of s i).job.cost

abbrev pub deadline_of : State → ℕ → ℕ
deadline_of s i = (row_of s i).job.deadline

abbrev pub left_of : State → ℕ → ℕ
left_of s i = (row_of s i).left

-- Latest start is deadline - remaining.
abbrev pub latest_start : Row → ℕ
latest_start r = r.job.deadline - r.left

-- Laxity at t is deadline - t - remaining.
abbrev pub laxity : ℕ → Row → ℕ
laxity t r = r.job.deadline - t - r.left

-- Ticks already given.
abbrev pub given : Row → ℕ
given r = r.job.cost - r.left

-- The test whether a row waits.
abbrev pub is_waiting : Fate → Bool
is_waiting waiting = true
is_waiting taken = false
is_waiting (finished t) = false
is_waiting (dropped t) = false

-- The row with another fate.
abbrev pub with_fate : Fate → Row → Row
with_fate f r = record { job = r.job; left = r.left; fate = f }

-- The rows after row i has met the fate f.
abbrev pub mark : ℕ → Fate → List Row → List Row
mark i f rows = set rows i (with_fate f (get_or rows i no_row))
