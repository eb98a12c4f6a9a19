-- The plan's side of demand 3's second half, for any run: a plan that gives every row in time what is left of it, and how one
-- still does after a tick. Rows are known by their releases, deadlines and remaining ticks. Rests on Counting and Earning.
use Prim.Native.Nat.{ℕ, suc, ◌+◌, ◌-◌, ◌≤◌, ◌<◌}
use mathlib.Core.List.{List}
use mathlib.Core.Option.{some}
use mathlib.Core.Path.{◌≡◌, sym, ap, ◌∙◌}
use native.Mathlib.Nat.{le_refl, le_trans, zero-add}
use native.Mathlib.Decide.{dec_le, ℕ_discrete}
use native.Mathlib.Omega.{arith}
use Rattle.rules.specs.Job.{Job}
use Rattle.promises.specs.Plan.{job_of, Plan, goes_to, ticks, earns, all_costs}
use Rattle.promises.proofs.Sums.{sum_by}
use Rattle.promises.proofs.RowNumbers.{occurs, over_le, Distinct}
use Rattle.promises.proofs.Ticks.{goes_to_own, goes_to_other, ticks_first, ticks_some, ticks_le, put, put_at, swap, ticks-swap, ticks-swap_off}
use Rattle.promises.proofs.Counting.{counting_all}
use Rattle.promises.proofs.Earning.{earns_all}

-- Every row gets what is left of it before its deadline: from tick t on if it is released by then, else from its release on.
-- A finished row has nothing left; a row still to be announced has all its cost left.
pub record Serves (release deadline left : ℕ → ℕ) (q : Plan) (t : ℕ) : Type 0 where
  pub now : (i : ℕ) → release i ≤ t → left i ≤ ticks q i t (deadline i - t)
  pub later : (i : ℕ) → t < release i → left i ≤ ticks q i (release i) (deadline i - release i)

-- At the start, of a plan that earns all costs.
pub serves_start : (q : Plan) (jobs : List Job) → earns q jobs ≡ all_costs jobs
    → Serves (λ i. (job_of jobs i).release) (λ i. (job_of jobs i).deadline) (λ i. (job_of jobs i).cost) q 0
serves_start q jobs e =
    let in_time : (i : ℕ) → (job_of jobs i).cost ≤ ticks q i (job_of jobs i).release ((job_of jobs i).deadline - (job_of jobs i).release) =
    λ i. rw zero-add at (earns_all q 0 jobs e i) in
    record { now = λ i h. let z : (job_of jobs i).release ≡ 0 = omega arith in rw z at (in_time i); later = λ i h. in_time i }

module _ (release deadline left : ℕ → ℕ) (q : Plan) (t : ℕ) (serves : Serves release deadline left q t) where
  -- The demand lemma: what is left of rows without repetition, released by t and with deadlines by d, fits between t and d.
  pub serves_demand : (d : ℕ) (is : List ℕ) → Distinct is → ((i : ℕ) → 1 ≤ occurs i is → (release i ≤ t) × (deadline i ≤ d)) → sum_by left is ≤ d - t
  serves_demand d is e h =
      omega (
        arith,
        over_le left (λ i. ticks q i t (d - t)) is
            (λ i o. le_trans (serves.now i (h i o).0) (ticks_le q q i t (deadline i - t) t (d - t) (λ s l m. (l, omega (arith, (h i o).1), le_refl _)))),
        counting_all q is e t (d - t),
      )

  -- One tick on, each row released by t has lost at most what the plan gave it of tick t.
  serves_next : (left' : ℕ → ℕ)
      → ((i : ℕ) → release i ≤ t → left' i ≤ left i - goes_to i (q t))
      → ((i : ℕ) → t < release i → left' i ≤ left i)
      → Serves release deadline left' q (suc t)
  serves_next left' f g =
      record { now = λ i h. go i h (dec_le (release i) t); later = λ i h. le_trans (g i (omega arith)) (serves.later i (omega arith)) }
    where
      go : (i : ℕ) → release i ≤ suc t → Dec (release i ≤ t) → left' i ≤ ticks q i (suc t) (deadline i - suc t)
      go i h (yes e) = omega (arith, f i e, serves.now i e, ticks_first q i t (deadline i))
      go i h (no e) =
          let z : release i ≡ suc t = omega arith in
          rw z at (le_trans (g i (omega arith)) (serves.later i (omega arith)))

  -- Where the plan gives tick t to r, r may have one tick less left.
  serves_given : (r : ℕ) → q t ≡ some r → (left' : ℕ → ℕ) → left' r < left r → ((i : ℕ) → (i ≡ r → ⊥) → left' i ≤ left i)
      → Serves release deadline left' q (suc t)
  serves_given r e left' f g =
      serves_next left' (λ i h. rw e (lowered i (ℕ_discrete i r))) (λ i h. omega (arith, lowered i (ℕ_discrete i r)))
    where
      lowered : (i : ℕ) → Dec (i ≡ r) → left' i ≤ left i - goes_to i (some r)
      lowered i (yes k) = rw k (omega (arith, goes_to_own r))
      lowered i (no k) = omega (arith, g i k, goes_to_other i r (λ x. k (sym x)))

  -- The idle step: where no row released by t has anything left, the plan serves on.
  pub serves_idle : ((i : ℕ) → release i ≤ t → left i ≡ 0) → Serves release deadline left q (suc t)
  serves_idle h = serves_next left (λ i l. omega (arith, h i l)) (λ i l. le_refl _)

module _ (release deadline left : ℕ → ℕ) (q : Plan) (t : ℕ) (serves : Serves release deadline left q t)
    (r : ℕ) (released : release r ≤ t) (owed : 1 ≤ left r)
    (earliest : (i : ℕ) → release i ≤ t → 1 ≤ left i → deadline r ≤ deadline i) where
  exchanged : (s : ℕ) → t ≤ s → s < t + (deadline r - t) → q s ≡ some r → Serves release deadline left (swap t s q) t
  exchanged s l m e =
      record {
        now = λ i h. go i h (dec_le 1 (left i));
        later = λ i h.
            le_trans (serves.later i h)
            (ticks-swap_off q i t s (release i) (deadline i - release i) h
            (rw e (goes_to_other i r (λ (k : r ≡ i). omega (arith, ap release k)))));
      }
    where
      go : (i : ℕ) → release i ≤ t → Dec (1 ≤ left i) → left i ≤ ticks (swap t s q) i t (deadline i - t)
      go i h (yes o) = omega (arith, serves.now i h, ticks-swap q i t s (deadline i - t) l (omega (arith, earliest i h o)))
      go i h (no o) = omega arith

  -- Where r has the earliest deadline of all rows released by t with something left, a plan that serves may give tick t to r:
  -- some tick that r gets in time is exchanged for it.
  exchange : (q' : Plan) × (q' t ≡ some r) × Serves release deadline left q' t
  exchange =
      let (s, l, m, e) = ticks_some q r t (deadline r - t) (omega (arith, serves.now r released)) in
      (swap t s q, put_at t (q s) (put s (q t) q) ∙ e, exchanged s l m e)

  -- The exchange step: where such a row r is given tick t, some plan serves on.
  pub serves_run : (left' : ℕ → ℕ) → left' r < left r → ((i : ℕ) → (i ≡ r → ⊥) → left' i ≤ left i)
      → (q' : Plan) × Serves release deadline left' q' (suc t)
  serves_run left' f g =
      let (q', e, k) = exchange in
      (q', serves_given release deadline left q' t k r e left' f g)
