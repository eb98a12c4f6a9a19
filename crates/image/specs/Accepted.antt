-- What is known of the jobs of an accepted image. Rests on the rules' proper lists and on the limits.
use Rattle.std.specs.Prelude.{◌≡◌, List, ℕ, ◌≤◌, ◌<◌, length, get_or}
use Rattle.rules.specs.Job.{Job, Proper}
use Rattle.image.specs.Refusals.{row_limit, deadline_limit}

-- Row i of a list of jobs; where there is none, a job of zeros.
abbrev pub job_of : List Job → ℕ → Job
job_of jobs i = get_or jobs i (record { name = 0; release = 0; cost = 0; deadline = 0 })

-- At most 64 rows; names run from 1 to 65,535 and are distinct; no deadline is above 1,000,000; each cost is at least 1, each
-- release + cost at most the deadline, and releases ascend.
pub record AcceptedJobs (jobs : List Job) : Type 0 where
  pub few : length jobs ≤ row_limit
  pub named : (i : ℕ) → i < length jobs → (1 ≤ (job_of jobs i).name) × ((job_of jobs i).name ≤ 65535)
  pub distinct : (i j : ℕ) → i < j → j < length jobs → (job_of jobs i).name ≡ (job_of jobs j).name → ⊥
  pub in_time : (i : ℕ) → i < length jobs → (job_of jobs i).deadline ≤ deadline_limit
  pub proper : Proper jobs
