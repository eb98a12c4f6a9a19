-- Rows of 14 bytes: name (2), release (4), cost (4), deadline (4); and the jobs that they say. Rests on the fields.
use Rattle.std.specs.Prelude.{ℕ, zero, suc, ◌+◌, ◌*◌, List, [], ◌∷◌}
use Rattle.fields.specs.Fields.{be2, be4}
use Rattle.rules.specs.Job.{Job}

-- A row has 14 bytes; row i (counted from 0) of the bytes rs starts at 14 * i.
abbrev pub name_at : List ℕ → ℕ → ℕ
name_at rs i = be2 rs (14 * i)

abbrev pub release_at : List ℕ → ℕ → ℕ
release_at rs i = be4 rs (14 * i + 2)

abbrev pub cost_at : List ℕ → ℕ → ℕ
cost_at rs i = be4 rs (14 * i + 6)

abbrev pub deadline_at : List ℕ → ℕ → ℕ
deadline_at rs i = be4 rs (14 * i + 10)

-- The job of row i.
abbrev pub job_at : List ℕ → ℕ → Job
job_at rs i = record { name = name_at rs i; release = release_at rs i; cost = cost_at rs i; deadline = deadline_at rs i }

-- The jobs of k rows, from row i on.
unfoldable pub jobs_from : List ℕ → ℕ → ℕ → List Job
jobs_from rs zero i = []
jobs_from rs (suc k) i = job_at rs i ∷ jobs_from rs k (i + 1)
