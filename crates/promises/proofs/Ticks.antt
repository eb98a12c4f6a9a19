-- Laws of the ticks that a plan gives to a row: the first tick of a window, one window inside another, and two ticks exchanged.
-- Both halves of demand 3 count with them. Rests on Plan and RowNumbers.
use Prim.Native.Nat.{ℕ, zero, suc, ◌+◌, ◌-◌, ◌≤◌, ◌<◌, zero-le}
use mathlib.Core.Option.{Option, none, some}
use mathlib.Core.Path.{◌≡◌, refl, sym, ap, ◌∙◌}
use mathlib.Core.Logic.{◌≢◌}
use native.Mathlib.Nat.{le_refl, le_of_eq, add-zero, add-suc, suc-add, add-sub_of_le}
use native.Mathlib.Decide.{dec_le, ℕ_discrete}
use native.Mathlib.Omega.{arith}
use lib.Dec.{eqb}
use borrow.Author.Tests.{eqb-true, eq-eqb, ne_eqb}
use Rattle.rules.specs.Choose.{choose}
use Rattle.promises.specs.Plan.{Plan, goes_to, ticks}
use Rattle.rules.proofs.Choose.{by_test}
use Rattle.promises.proofs.RowNumbers.{same, same_self, same_other}

-- A tick given to a row goes to it, and to no other.
pub goes_to_own : (i : ℕ) → goes_to i (some i) ≡ 1
unfolding goes_to same
goes_to_own i = same_self i

pub goes_to_other : (i k : ℕ) → k ≢ i → goes_to i (some k) ≡ 0
unfolding goes_to same
goes_to_other i k h = same_other k i h

goes_to_some : (i : ℕ) (x : Option ℕ) → 1 ≤ goes_to i x → x ≡ some i
unfolding goes_to
goes_to_some i none = λ h. absurd (omega arith)
goes_to_some i (some k) =
    by_test (λ (v : ℕ). 1 ≤ v → some k ≡ some i) (eqb k i) (λ e h. ap some (eqb-true k i e)) (λ e h. absurd (omega arith))

module _ (q : Plan) (i : ℕ) where
  ticks_suc : (a n : ℕ) → ticks q i a (suc n) ≡ goes_to i (q a) + ticks q i (suc a) n
  unfolding ticks
  ticks_suc a zero = rw (add-zero a) (omega arith)
  ticks_suc a (suc n) = rw (add-suc, suc-add) (omega (arith, ticks_suc a n))

  -- Of the ticks from t to before d, the first stands apart.
  pub ticks_first : (t d : ℕ) → ticks q i t (d - t) ≤ goes_to i (q t) + ticks q i (suc t) (d - suc t)
  unfolding ticks
  ticks_first t d = go (d - t) refl
    where
      go : (n : ℕ) → d - t ≡ n → ticks q i t n ≤ goes_to i (q t) + ticks q i (suc t) (d - suc t)
      go zero e = zero-le
      go (suc n) e =
          let m : d - suc t ≡ n = omega arith in
          rw m (le_of_eq (ticks_suc t n))

  ticks_more : (a n k : ℕ) → ticks q i a n ≤ ticks q i a (n + k)
  unfolding ticks
  ticks_more a n zero = rw add-zero (le_refl _)
  ticks_more a n (suc k) = rw add-suc (omega (arith, ticks_more a n k))

  -- What row i gets from b to before a later tick e, and of that tick, it gets in every longer window.
  ticks_last : (b e m : ℕ) → b ≤ e → e < b + m → ticks q i b (e - b) + goes_to i (q e) ≤ ticks q i b m
  unfolding ticks
  ticks_last b e m h l =
      let f : suc (e - b) + (m - suc (e - b)) ≡ m = omega arith in
      rw (add-sub_of_le h, f) at (ticks_more b (suc (e - b)) (m - suc (e - b)))

  -- A row that gets a tick gets some tick s.
  pub ticks_some : (a n : ℕ) → 1 ≤ ticks q i a n → (s : ℕ) × (a ≤ s) × (s < a + n) × (q s ≡ some i)
  unfolding ticks
  ticks_some a zero h = absurd (omega arith)
  ticks_some a (suc n) h = go (dec_le 1 (ticks q i a n)) (ticks_some a n)
    where
      go : Dec (1 ≤ ticks q i a n) → (1 ≤ ticks q i a n → (s : ℕ) × (a ≤ s) × (s < a + n) × (q s ≡ some i))
          → (s : ℕ) × (a ≤ s) × (s < a + suc n) × (q s ≡ some i)
      go (yes e) k = ((k e).0, (k e).1, omega (arith, (k e).2), (k e).3)
      go (no e) k = (a + n, omega arith, omega arith, goes_to_some i (q (a + n)) (omega arith))

-- Row i gets at least as many ticks of another plan in another window, if each tick that it gets lies there and is its own there too.
pub ticks_lie : (q q' : Plan) (i a n b m : ℕ)
    → ((s : ℕ) → a ≤ s → s < a + n → q s ≡ some i → (b ≤ s) × (s < b + m) × (q' s ≡ some i))
    → ticks q i a n ≤ ticks q' i b m
unfolding ticks
ticks_lie q q' i a zero b m h = zero-le
ticks_lie q q' i a (suc n) b m h = go (dec_le 1 (goes_to i (q (a + n)))) (ticks_lie q q' i a n b)
  where
    go : Dec (1 ≤ goes_to i (q (a + n)))
        → ((m' : ℕ) → ((s : ℕ) → a ≤ s → s < a + n → q s ≡ some i → (b ≤ s) × (s < b + m') × (q' s ≡ some i)) → ticks q i a n ≤ ticks q' i b m')
        → ticks q i a (suc n) ≤ ticks q' i b m
    go (yes o) k =
        let e : q (a + n) ≡ some i = goes_to_some i (q (a + n)) o in
        let l = h (a + n) (omega arith) (omega arith) e in
        omega (
          arith,
          ticks_last q' i b (a + n) m l.0 l.1,
          k (a + n - b) (λ s x y z. let f = h s x (omega arith) z in (f.0, omega arith, f.2)),
          ap (goes_to i) (e ∙ sym l.2),
        )
    go (no o) k = omega (arith, k m (λ s x y. h s x (omega arith)))

-- So it does if the one window lies in the other and it loses no tick there.
pub ticks_le : (q q' : Plan) (i a n b m : ℕ)
    → ((s : ℕ) → a ≤ s → s < a + n → (b ≤ s) × (s < b + m) × (goes_to i (q s) ≤ goes_to i (q' s)))
    → ticks q i a n ≤ ticks q' i b m
ticks_le q q' i a n b m h =
    ticks_lie q q' i a n b m
    (λ s x y e. let l = h s x y in (l.0, l.1, goes_to_some i (q' s) (omega (arith, ap (goes_to i) e, goes_to_own i))))

-- The plan with tick s given to x instead.
unfoldable pub put : ℕ → Option ℕ → Plan → Plan
put s x q u = choose (eqb u s) x (q u)

module _ (s : ℕ) (x : Option ℕ) (q : Plan) where
  pub put_at : put s x q s ≡ x
  unfolding put choose
  put_at = rw (eq-eqb s s refl)

  put_off : (u : ℕ) → (u ≡ s → ⊥) → put s x q u ≡ q u
  unfolding put choose
  put_off u h = rw (ne_eqb u s h)

  ticks-put_after : (i a n : ℕ) → a + n ≤ s → ticks (put s x q) i a n ≡ ticks q i a n
  unfolding ticks
  ticks-put_after i a zero h = refl
  ticks-put_after i a (suc n) h =
      rw (put_off (a + n) (λ e. omega arith)) (omega (arith, ticks-put_after i a n (omega arith)))

  -- In a window that holds s, row i loses the tick s if it had it, and gets it if it has it now.
  ticks-put : (i a n : ℕ) → a ≤ s → s < a + n → ticks (put s x q) i a n + goes_to i (q s) ≡ ticks q i a n + goes_to i x
  unfolding ticks
  ticks-put i a zero l m = absurd (omega arith)
  ticks-put i a (suc n) l m = go (ℕ_discrete (a + n) s) (ticks-put i a n l)
    where
      go : Dec (a + n ≡ s)
          → (s < a + n → ticks (put s x q) i a n + goes_to i (q s) ≡ ticks q i a n + goes_to i x)
          → ticks (put s x q) i a (suc n) + goes_to i (q s) ≡ ticks q i a (suc n) + goes_to i x
      go (yes e) k = rw (e, put_at) (omega (arith, ticks-put_after i a n (omega arith)))
      go (no e) k = rw (put_off (a + n) e) (omega (arith, k (omega arith)))

-- Tick t stays where it was when s, the same or another, goes there too.
put_own : (s t : ℕ) (q : Plan) → put s (q t) q t ≡ q t
unfolding put
put_own s t q = by_test (λ (x : Option ℕ). x ≡ q t) (eqb t s) (λ e. refl) (λ e. refl)

-- The plan with ticks t and s exchanged.
abbrev pub swap : ℕ → ℕ → Plan → Plan
swap t s q = put t (q s) (put s (q t) q)

-- In a window from t on that holds s, every row gets what it got.
pub ticks-swap : (q : Plan) (i t s n : ℕ) → t ≤ s → s < t + n → ticks (swap t s q) i t n ≡ ticks q i t n
ticks-swap q i t s n l m =
    omega (
      arith,
      ticks-put t (q s) (put s (q t) q) i t n (le_refl t) (omega arith),
      ticks-put s (q t) q i t n l m,
      ap (λ (x : Option ℕ). goes_to i x) (put_own s t q),
    )

-- A row that had not s loses nothing in a window without t.
pub ticks-swap_off : (q : Plan) (i t s a n : ℕ) → t < a → goes_to i (q s) ≡ 0 → ticks q i a n ≤ ticks (swap t s q) i a n
ticks-swap_off q i t s a n h z = ticks_le q (swap t s q) i a n a n (λ u l m. (l, m, kept u (omega arith) (ℕ_discrete u s)))
  where
    kept : (u : ℕ) → t < u → Dec (u ≡ s) → goes_to i (q u) ≤ goes_to i (swap t s q u)
    kept u l (yes e) = rw e (omega arith)
    kept u l (no e) = rw (put_off t (q s) (put s (q t) q) u (λ k. omega arith), put_off s (q t) q u e) (le_refl _)
