-- One turn over the rows, as `check_rows` takes it: what a test that passed or failed says, and what is left of the rows.
-- Rests on Refusals and Numbering.
use mathlib.Core.Path.{◌≡◌, refl, ap, ◌∙◌}
use mathlib.Core.List.{List}
use Prim.Native.Nat.{ℕ, suc, ◌+◌, ◌-◌, ◌<◌, ◌≤◌}
use native.Mathlib.Numerals.{add-one}
use native.Mathlib.Omega.{arith}
use borrow.Author.Tests.{ne_eqb}
use Rattle.rules.specs.Choose.{choose}
use Rattle.image.specs.Rows.{release_at}
use Rattle.image.specs.Refusals.{refused, accepted, release_before, row_fault, rows_from}
use Rattle.std.specs.Prelude.{Result, Ok, Err, true, is_ok, MatchResult, IsErrAnd}
use Rattle.image.specs.Numbering.{fault_number, row_test}
use Rattle.image.specs.declared.refusal.Refusal.{Refusal}
use Rattle.image.specs.declared.refusal.Refusal.TheVariants.{Row}
use Rattle.image.specs.declared.refusal.RowFault.{RowFault}
use Rattle.image.specs.declared.refusal.RowFault.TheVariants.{NameZero, NameTaken, CostZero, DeadlineTooLate, TooLittleTime, ReleaseTooEarly}

-- A fault's number is not 0.
pub fault_some : (f : RowFault) → fault_number f ≡ 0 → ⊥
fault_some NameZero e = absurd (omega arith)
fault_some NameTaken e = absurd (omega arith)
fault_some CostZero e = absurd (omega arith)
fault_some DeadlineTooLate e = absurd (omega arith)
fault_some TooLittleTime e = absurd (omega arith)
fault_some ReleaseTooEarly e = absurd (omega arith)

-- A test that passed has number 0.
pub passed_test : (r : Result Unit RowFault) → is_ok r ≡ true → row_test r ≡ 0
passed_test (Ok x) e = refl
passed_test (Err f) e = absurd (cc)

-- One that failed, with the row's place, is the refusal.
pub record Failed (at : ℕ) (r : Result Unit RowFault) (y : Refusal) : Type 0 where
  pub fault : RowFault
  pub was : r ≡ Err fault
  pub is : y ≡ Row at fault

pub failed_test : (at : ℕ) (r : Result Unit RowFault) (m : Result Unit Refusal) (y : Refusal) → m ≡ Err y → {Q : RowFault → Refusal → Type 0}
    → MatchResult r (λ x. m ≡ Ok x) (λ e. IsErrAnd m (Q e)) → ((e : RowFault) (z : Refusal) → Q e z → z ≡ Row at e) → Failed at r y
failed_test at (Ok x) m y was h q = absurd (cc)
failed_test at (Err e) (Ok x) y was h q = absurd (cc)
failed_test at (Err e) (Err z) y was h q = let same : y ≡ z = cc in record { fault = e; was = refl; is = same ∙ q e z h }

-- Rows left when row i is passed.
pub left_suc : (n i : ℕ) → i < n → n - i ≡ suc (n - (i + 1))
left_suc n i h = omega arith

module _ (rs : List ℕ) where
  -- No row is before the first.
  pub release_first : 0 ≡ release_before rs 0
  unfolding release_before
  release_first = refl

  -- The row before the next is this one.
  pub release_next : (i : ℕ) → release_before rs (i + 1) ≡ release_at rs i
  unfolding release_before
  release_next i = ap (release_before rs) (add-one i)

  -- Row i meets no refusal: the answer is that of the rows after it.
  pub rows_on : (n i : ℕ) → i < n → row_fault rs i ≡ 0 → rows_from rs (n - i) i ≡ rows_from rs (n - (i + 1)) (i + 1)
  unfolding rows_from choose
  rows_on n i h e = rw (left_suc n i h, e)

  -- Row i meets one: it is the answer.
  pub rows_stop : (n i : ℕ) → i < n → (row_fault rs i ≡ 0 → ⊥) → rows_from rs (n - i) i ≡ refused (row_fault rs i) (i + 1)
  unfolding rows_from choose
  rows_stop n i h e = rw (left_suc n i h, ne_eqb (row_fault rs i) 0 e)

  -- So it is where the fault of row i is f.
  pub rows_refused : (n i : ℕ) (f : RowFault) → i < n → fault_number f ≡ row_fault rs i
      → rows_from rs (n - i) i ≡ refused (fault_number f) (i + 1)
  rows_refused n i f h e = rw e (rows_stop n i h (λ z. fault_some f (e ∙ z)))

  -- No row is left.
  pub rows_end : (n i : ℕ) → n ≤ i → rows_from rs (n - i) i ≡ accepted 0 0
  unfolding rows_from
  rows_end n i h = let e : n - i ≡ 0 = omega arith in rw e
