-- A run's rows against its list, by number: an announced row has the list's job, and a row still to be announced is released
-- later; at the end all are announced. This is how the promises pass from a state to the list. Rests on Announced and End.
use Prim.Native.Nat.{ℕ, zero, suc, ◌+◌, ◌-◌, ◌≤◌, ◌<◌}
use native.Mathlib.Omega.{arith}
use mathlib.Core.Path.{◌≡◌, sym, ap, ◌∙◌}
use mathlib.Core.List.{List, [], ◌∷◌, ◌++◌}
use lib.ListN.{length, length-map, get_or-append, get_or-map}
use lib.Seq.{get_or-append-add}
use Rattle.rules.specs.Job.{Job, ProperFrom, Proper}
use Rattle.rules.specs.State.{Row, State, no_row, row_of}
use Rattle.rules.specs.Picks.{Picks}
use Rattle.rules.specs.Run.{released_at, run}
use Rattle.promises.specs.Plan.{job_of}
use Rattle.promises.specs.RunPlan.{decided_at}
use Rattle.promises.specs.Lawful.{Lawful}
use Rattle.promises.proofs.Jobs.{jobs_of}
use Rattle.promises.proofs.Announced.{Split, decided_split}
use Rattle.promises.proofs.End.{end_rows}

-- Row i of the state has the job that stands at i among the state's jobs.
pub job_at_lem : (s : State) (i : ℕ) → job_of (jobs_of s) i ≡ (row_of s i).job
job_at_lem s i = get_or-map (λ (r : Row). r.job) s.rows i no_row

proper_release : (t : ℕ) (js : List Job) → ProperFrom t js → (k : ℕ) → 1 ≤ (job_of js k).cost → t ≤ (job_of js k).release
proper_release t [] p k c = absurd (omega arith)
proper_release t (j ∷ js) p zero c = p.0
proper_release t (j ∷ js) p (suc k) c = omega (arith, p.0, proper_release j.release js p.2 k c)

module _ (p : Picks) (jobs : List Job) (proper : Proper jobs) (n : ℕ) where
  pub listed : (i : ℕ) → i < length (decided_at p (released_at jobs) n).rows → (row_of (decided_at p (released_at jobs) n) i).job ≡ job_of jobs i
  listed i h =
      let s : State = decided_at p (released_at jobs) n in
      let k : Split jobs (n + 1) (jobs_of s) = decided_split p jobs proper n in
      sym (ap (λ (js : List Job). job_of js i) k.whole ∙ get_or-append (jobs_of s) k.rest no_row.job i (rw length-map h) ∙ job_at_lem s i)

  -- (A row that is not in the list has no cost.)
  pub unlisted : (i : ℕ) → length (decided_at p (released_at jobs) n).rows ≤ i → 1 ≤ (job_of jobs i).cost → n < (job_of jobs i).release
  unlisted i h c =
      let s : State = decided_at p (released_at jobs) n in
      let k : Split jobs (n + 1) (jobs_of s) = decided_split p jobs proper n in
      let m : ℕ = i - length s.rows in
      let at : i ≡ length (jobs_of s) + m = rw length-map (omega arith) in
      let e : job_of jobs i ≡ job_of k.rest m =
      ap (λ (js : List Job). job_of js i) k.whole ∙ ap (job_of (jobs_of s ++ k.rest)) at ∙ get_or-append-add (jobs_of s) k.rest m no_row.job in
      omega (arith, proper_release (n + 1) k.rest k.later m (rw e at c), ap (λ (j : Job). j.release) e)

-- At the end, the rows are the list's.
module _ {p : Picks} (l : Lawful p) (jobs : List Job) (proper : Proper jobs) where
  pub end_listed : (i : ℕ) → (row_of (run p jobs).state i).job ≡ job_of jobs i
  end_listed i = sym (job_at_lem (run p jobs).state i) ∙ ap (λ (js : List Job). job_of js i) (end_rows l jobs proper)

  pub end_length : length (run p jobs).state.rows ≡ length jobs
  end_length = sym (length-map (run p jobs).state.rows (λ (r : Row). r.job)) ∙ ap length (end_rows l jobs proper)
