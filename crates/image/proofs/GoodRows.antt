-- What accepted rows are: each row that meets no refusal, told in numbers, and the jobs of such rows. Rests on Refusals,
-- Unmet and Searches.
use mathlib.Core.Path.{◌≡◌, refl, sym, ap, subst, ◌∙◌}
use mathlib.Core.List.{List}
use mathlib.Core.Bool.{Bool, true, false}
use Prim.Native.Nat.{ℕ, zero, suc, ◌+◌, ◌-◌, ◌≤◌, ◌<◌}
use mathlib.Core.Logic.{⊎_elim}
use native.Mathlib.Nat.{le_of_suc-le-suc, eq-or-lt_of_le}
use native.Mathlib.Omega.{arith}
use lib.Dec.{ltb, eqb}
use lib.ListN.{length}
use borrow.Author.Tests.{ltb-false, eqb-false, eqb-true}
use Rattle.rules.specs.Choose.{choose}
use Rattle.rules.specs.Job.{ProperFrom, Proper}
use Rattle.image.specs.Rows.{name_at, release_at, cost_at, deadline_at, job_at, jobs_from}
use Rattle.image.specs.Refusals.{refused, deadline_limit, named, release_before, row_number, row_fault, rows_from}
use Rattle.image.specs.Accepted.{job_of}
use Rattle.image.proofs.Unmet.{Unmet, unmet}
use Rattle.image.proofs.Searches.{release_next}
use Rattle.std.proofs.lemmas.Bool.{or_parts}

passed : (b : Bool) (n rest : ℕ) → (n ≡ 0 → ⊥) → choose b n rest ≡ 0 → Unmet b rest
passed b n rest = unmet (λ (m : ℕ). m) b n rest

module _ (rs : List ℕ) where
  -- A row that meets none of 6 to 11.
  pub record Good (i : ℕ) : Type 0 where
    pub name : name_at rs i ≡ 0 → ⊥
    pub fresh : named rs (name_at rs i) i ≡ false
    pub cost : 1 ≤ cost_at rs i
    pub in_time : deadline_at rs i ≤ deadline_limit
    pub fits : release_at rs i + cost_at rs i ≤ deadline_at rs i
    pub later : release_before rs i ≤ release_at rs i

  pub good : (i : ℕ) → row_fault rs i ≡ 0 → Good i
  unfolding row_fault row_number
  good i e =
      let u6 = passed (eqb (name_at rs i) 0) 6 _ (omega arith) e in
      let u7 = passed (named rs (name_at rs i) i) 7 _ (omega arith) u6.on in
      let u8 = passed (eqb (cost_at rs i) 0) 8 _ (omega arith) u7.on in
      let u9 = passed (ltb deadline_limit (deadline_at rs i)) 9 _ (omega arith) u8.on in
      let u10 = passed (ltb (deadline_at rs i) (release_at rs i)) 10 _ (omega arith) u9.on in
      let u10' = passed (ltb (deadline_at rs i - release_at rs i) (cost_at rs i)) 10 _ (omega arith) u10.on in
      let u11 = passed (ltb (release_at rs i) (release_before rs i)) 11 0 (omega arith) u10'.on in
      let h8 : cost_at rs i ≡ 0 → ⊥ = eqb-false _ _ u8.fails in
      let h10 : release_at rs i ≤ deadline_at rs i = ltb-false _ _ u10.fails in
      let h10' : cost_at rs i ≤ deadline_at rs i - release_at rs i = ltb-false _ _ u10'.fails in
      record {
        name = eqb-false _ _ u6.fails;
        fresh = u7.fails;
        cost = omega arith;
        in_time = ltb-false _ _ u9.fails;
        fits = omega arith;
        later = ltb-false _ _ u11.fails;
      }

  -- Where rows are accepted, the first of them meets nothing and the others are accepted.
  first_good : (k i : ℕ) (b : Bool) → eqb (row_fault rs i) 0 ≡ b → (choose b (rows_from rs k (i + 1)) (refused (row_fault rs i) (i + 1))).number ≡ 0
      → (row_fault rs i ≡ 0) × ((rows_from rs k (i + 1)).number ≡ 0)
  unfolding choose
  first_good k i true t e = (eqb-true _ _ t, e)
  first_good k i false t e = absurd (eqb-false _ _ t e)

  -- Where the k rows from row i on are accepted, each of them is good.
  pub all_good : (k i : ℕ) → (rows_from rs k i).number ≡ 0 → (j : ℕ) → i ≤ j → j < i + k → Good j
  unfolding rows_from
  all_good zero i e j h l = absurd (omega arith)
  all_good (suc k) i e j h l =
      let f = first_good k i (eqb (row_fault rs i) 0) refl e in
      ⊎_elim (λ (same : i ≡ j). subst Good same (good i f.0)) (λ (after : i < j). all_good k (i + 1) f.1 j (omega arith) (omega arith)) (eq-or-lt_of_le h)

  -- No earlier row has the name of a good one.
  pub other_names : (x k : ℕ) → named rs x k ≡ false → (j : ℕ) → j < k → name_at rs j ≡ x → ⊥
  unfolding named
  other_names x zero e j h = absurd (omega arith)
  other_names x (suc k) e j h =
      let n = or_parts (eqb (name_at rs k) x) (named rs x k) e in
      ⊎_elim (λ (same : j ≡ k). subst (λ (m : ℕ). name_at rs m ≡ x → ⊥) (sym same) (eqb-false _ _ n.0)) (λ (below : j < k). other_names x k n.1 j below)
      (eq-or-lt_of_le (le_of_suc-le-suc h))

  -- The jobs of good rows are proper.
  pub proper_from : (k i : ℕ) → ((j : ℕ) → i ≤ j → j < i + k → Good j) → ProperFrom (release_before rs i) (jobs_from rs k i)
  unfolding jobs_from
  proper_from zero i g = tt
  proper_from (suc k) i g =
      let here = g i (omega arith) (omega arith) in (
        here.later,
        record { costly = here.cost; fits = here.fits },
        rw (release_next rs i) at (proper_from k (i + 1) (λ j h l. g j (omega arith) (omega arith))),
      )

  pub jobs_length : (k i : ℕ) → length (jobs_from rs k i) ≡ k
  unfolding jobs_from
  jobs_length zero i = refl
  jobs_length (suc k) i = ap suc (jobs_length k (i + 1))

  pub jobs_at : (k i j : ℕ) → j < k → job_of (jobs_from rs k i) j ≡ job_at rs (i + j)
  unfolding jobs_from
  jobs_at zero i j h = absurd (omega arith)
  jobs_at (suc k) i zero h = ap (job_at rs) (omega arith)
  jobs_at (suc k) i (suc j) h = jobs_at k (i + 1) j (le_of_suc-le-suc h) ∙ ap (job_at rs) (omega arith)

  -- The jobs of accepted rows are proper.
  pub accepted_proper : (n : ℕ) → (rows_from rs n 0).number ≡ 0 → Proper (jobs_from rs n 0)
  unfolding release_before
  accepted_proper n e = proper_from n 0 (all_good n 0 e)

  -- No cost of accepted rows is above the limit of deadlines.
  pub accepted_costs : (n : ℕ) → (rows_from rs n 0).number ≡ 0 → (i : ℕ) → i < n → cost_at rs i ≤ deadline_limit
  accepted_costs n e i h = let g = all_good n 0 e i (omega arith) (omega arith) in omega arith
