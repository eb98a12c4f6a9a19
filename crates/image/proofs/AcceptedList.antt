-- The jobs of an accepted image are proper, few, named apart and in time. Rests on GoodRows and Answers.
use mathlib.Core.Path.{◌≡◌, sym, ap, ◌∙◌}
use mathlib.Core.List.{List}
use Prim.Native.Nat.{ℕ, ◌+◌, ◌*◌, ◌≤◌, ◌<◌}
use native.Mathlib.Nat.{zero-add}
use native.Mathlib.Omega.{arith}
use lib.ListN.{length, drop}
use lib.Seq.{get_or-drop}
use Rattle.fields.specs.Fields.{be, be2}
use Rattle.fields.proofs.Laws.{Bytes}
use Rattle.rules.specs.Job.{Job}
use Rattle.image.specs.Rows.{name_at, job_at}
use Rattle.image.specs.Refusals.{row_count, row_bytes, list_answer}
use Rattle.image.specs.Calls.{jobs_of}
use Rattle.image.specs.Accepted.{AcceptedJobs, job_of}
use Rattle.image.proofs.Answers.{list_accepted}
use Rattle.image.proofs.GoodRows.{Good, all_good, other_names, accepted_proper, jobs_length, jobs_at}

-- Two bytes say at most 65,535.
be2-small : (s : List ℕ) → Bytes s → (at : ℕ) → be2 s at ≤ 65535
unfolding be
be2-small s b at = omega (arith, b at, b (at + 1))

-- Bytes that are left when some are taken off.
drop_bytes : (k : ℕ) (s : List ℕ) → Bytes s → Bytes (drop k s)
drop_bytes k s b i = rw (get_or-drop k s i 0) (b (k + i))

pub accepted_jobs : (s : List ℕ) → Bytes s → (list_answer s).number ≡ 0 → AcceptedJobs (jobs_of s)
accepted_jobs s b e =
    let a = list_accepted s e in
    let rs = row_bytes s in
    let n = row_count s in
    let size : length (jobs_of s) ≡ n = jobs_length rs n 0 in
    let good : (j : ℕ) → j < n → Good rs j = λ j h. all_good rs n 0 a.rows j (omega arith) (omega arith) in
    let at : (j : ℕ) → j < length (jobs_of s) → job_of (jobs_of s) j ≡ job_at rs j =
    λ j h. jobs_at rs n 0 j (omega arith) ∙ ap (job_at rs) (zero-add j) in
    record {
      few = omega arith;
      named = λ i h. rw (at i h) (omega (arith, (good i (omega arith)).name), be2-small rs (drop_bytes 7 s b) (14 * i));
      distinct = λ i j l h same.
          other_names rs (name_at rs j) j (good j (omega arith)).fresh i l
          (ap (λ (x : Job). x.name) (sym (at i (omega arith))) ∙ same ∙ ap (λ (x : Job). x.name) (at j h));
      in_time = λ i h. rw (at i h) (good i (omega arith)).in_time;
      proper = accepted_proper rs n a.rows;
    }
