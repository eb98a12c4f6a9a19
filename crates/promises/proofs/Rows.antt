-- Laws of rows by number, with `no_row` where there is none: what a change of one row, an appended row and a takeover leave
-- as it was. Facts of all rows need no bound on the number. Rests on State and the library's lists.
use Prim.Native.Nat.{ℕ, zero, suc, ◌<◌, suc-le-suc}
use native.Mathlib.Omega.{arith}
use native.Mathlib.Decide.{ℕ_discrete}
use mathlib.Core.Path.{◌≡◌, refl, sym, ap, subst, ◌∙◌}
use mathlib.Core.Logic.{◌≢◌}
use mathlib.Core.List.{List, [], ◌∷◌, ◌++◌, map}
use lib.ListN.{length, get_or, set, get_or-map, get_or-append}
use lib.Seq.{get_or-set_same, get_or-set_other, get_or-append_seam}
use Rattle.rules.specs.State.{Fate, Row, no_row, with_fate, mark, waiting, finished}
use Rattle.rules.specs.LatestStarts.{displaced, displace}

-- To prove something of every number, prove it of i and of all others.
pub at_and_beside : (P : ℕ → Type 0) (i : ℕ) → P i → ((j : ℕ) → j ≢ i → P j) → (j : ℕ) → P j
at_and_beside P i at beside j = go (ℕ_discrete j i)
  where
    go : Dec (j ≡ i) → P j
    go (yes e) = subst P (sym e) at
    go (no n) = beside j n

-- Only `no_row` lies outside the list, and it is finished.
pub inside : (rows : List Row) (i : ℕ) → (get_or rows i no_row).fate ≢ finished 0 → i < length rows
inside [] i h = absurd (h refl)
inside (r ∷ rows) zero h = omega arith
inside (r ∷ rows) (suc i) h = suc-le-suc (inside rows i h)

pub finished_not_waiting : {u : ℕ} → finished u ≡ waiting → ⊥
finished_not_waiting e = let z : ◌≡◌ {A = ℕ} 0 1 = cc in omega arith

-- Row i is replaced by x: what holds of x there, and of every other row, holds of all rows.
pub all_set : (P : ℕ → Row → Type 0) (rows : List Row) (i : ℕ) (x : Row) → i < length rows → P i x
    → ((j : ℕ) → j ≢ i → P j (get_or rows j no_row)) → (j : ℕ) → P j (get_or (set rows i x) j no_row)
all_set P rows i x h at beside =
    at_and_beside (λ (j : ℕ). P j (get_or (set rows i x) j no_row)) i
    (subst (P i) (sym (get_or-set_same rows i x no_row h)) at)
    (λ j n. subst (P j) (sym (get_or-set_other rows i j x no_row n)) (beside j n))

-- Row i is replaced by one that f cannot tell from it: f of each row is as it was.
pub set_keeps : {A : Type 0} (f : Row → A) (rows : List Row) (i : ℕ) (x : Row) → f x ≡ f (get_or rows i no_row)
    → (j : ℕ) → f (get_or (set rows i x) j no_row) ≡ f (get_or rows j no_row)
set_keeps f [] i x e j = refl
set_keeps f (r ∷ rows) zero x e zero = e
set_keeps f (r ∷ rows) zero x e (suc j) = refl
set_keeps f (r ∷ rows) (suc i) x e zero = refl
set_keeps f (r ∷ rows) (suc i) x e (suc j) = set_keeps f rows i x e j

-- Row j has the same cost, deadline and remaining in both lists.
pub record Same (rows rows' : List Row) (j : ℕ) : Type 0 where
  pub cost : (get_or rows' j no_row).job.cost ≡ (get_or rows j no_row).job.cost
  pub deadline : (get_or rows' j no_row).job.deadline ≡ (get_or rows j no_row).job.deadline
  pub left : (get_or rows' j no_row).left ≡ (get_or rows j no_row).left

pub same-mark : (rows : List Row) (i : ℕ) (f : Fate) (j : ℕ) → Same rows (mark i f rows) j
same-mark rows i f j =
    record {
      cost = set_keeps (λ (r : Row). r.job.cost) rows i _ refl j;
      deadline = set_keeps (λ (r : Row). r.job.deadline) rows i _ refl j;
      left = set_keeps (λ (r : Row). r.left) rows i _ refl j;
    }

-- The same job and remaining, whatever the fate.
same_but_fate : (rows rows' : List Row) (j : ℕ) (f : Fate) → get_or rows' j no_row ≡ with_fate f (get_or rows j no_row) → Same rows rows' j
same_but_fate rows rows' j f e =
    record {
      cost = ap (λ (r : Row). r.job.cost) e;
      deadline = ap (λ (r : Row). r.job.deadline) e;
      left = ap (λ (r : Row). r.left) e;
    }

pub same_row : (rows rows' : List Row) (j : ℕ) → get_or rows' j no_row ≡ get_or rows j no_row → Same rows rows' j
same_row rows rows' j e = same_but_fate rows rows' j (get_or rows j no_row).fate e

get_or-append_other : (rows : List Row) (x : Row) (j : ℕ) → j ≢ length rows → get_or (rows ++ (x ∷ [])) j no_row ≡ get_or rows j no_row
get_or-append_other [] x zero n = absurd (n refl)
get_or-append_other [] x (suc j) n = refl
get_or-append_other (r ∷ rows) x zero n = refl
get_or-append_other (r ∷ rows) x (suc j) n = get_or-append_other rows x j (λ e. n (ap suc e))

-- A row is appended: what holds of it there, and of every other row, holds of all rows.
pub all_append : (P : ℕ → Row → Type 0) (rows : List Row) (x : Row) → P (length rows) x
    → ((j : ℕ) → j ≢ length rows → P j (get_or rows j no_row)) → (j : ℕ) → P j (get_or (rows ++ (x ∷ [])) j no_row)
all_append P rows x at beside =
    at_and_beside (λ (j : ℕ). P j (get_or (rows ++ (x ∷ [])) j no_row)) (length rows)
    (subst (P (length rows)) (sym (get_or-append_seam rows x [] no_row)) at)
    (λ j n. subst (P j) (sym (get_or-append_other rows x j n)) (beside j n))

pub same-append : (rows : List Row) (x : Row) (j : ℕ) → j < length rows → Same rows (rows ++ (x ∷ [])) j
same-append rows x j h = same_row rows (rows ++ (x ∷ [])) j (get_or-append rows (x ∷ []) no_row j h)

pub same_beside : (rows : List Row) (i : ℕ) (x : Row) (j : ℕ) → j ≢ i → Same rows (set rows i x) j
same_beside rows i x j n = same_row rows (set rows i x) j (get_or-set_other rows i j x no_row n)

pub get_or-displaced : (rows : List Row) (j : ℕ) → get_or (map displace rows) j no_row ≡ displace (get_or rows j no_row)
unfolding displace displaced
get_or-displaced rows j = get_or-map displace rows j no_row

pub same-displaced : (rows : List Row) (j : ℕ) → Same rows (map displace rows) j
unfolding displace
same-displaced rows j = same_but_fate rows (map displace rows) j (displaced (get_or rows j no_row).fate) (get_or-displaced rows j)

pub displaced_waits : (rows : List Row) (i : ℕ) → (get_or rows i no_row).fate ≡ waiting → (get_or (map displace rows) i no_row).fate ≡ waiting
unfolding displace displaced
displaced_waits rows i w = ap (λ (r : Row). r.fate) (get_or-displaced rows i) ∙ ap displaced w
