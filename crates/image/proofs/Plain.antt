-- What a check can answer at all: a number up to 11, a row up to 64, no value and no size. Rests on Refusals.
use mathlib.Core.Path.{◌≡◌, refl}
use mathlib.Core.List.{List}
use Prim.Native.Nat.{ℕ, zero, suc, ◌+◌, ◌/◌, ◌≤◌}
use native.Mathlib.Omega.{arith}
use lib.ListN.{length}
use borrow.Author.Tests.{ltb-false}
use Rattle.rules.proofs.Choose.{by_test}
use Rattle.image.specs.Refusals.{refused, row_limit, row_count, row_number, row_fault, rows_from, list_answer, rows_answer}
use Rattle.image.specs.declared.answer.Answer.{Answer}

pub record Plain (a : Answer) : Type 0 where
  pub number : a.number ≤ 11
  pub row : a.row ≤ row_limit
  pub value : a.value ≡ 0
  pub size : a.size ≡ 0

-- A refusal of a whole image.
whole : (n : ℕ) → n ≤ 11 → Plain (refused n 0)
whole n h = record { number = h; row = omega arith; value = refl; size = refl }

fault_number : (rs : List ℕ) (i : ℕ) → row_fault rs i ≤ 11
unfolding row_fault row_number
fault_number rs i =
    by_test (λ (n : ℕ). n ≤ 11) _ (λ _. omega arith) λ _.
    by_test (λ (n : ℕ). n ≤ 11) _ (λ _. omega arith) λ _.
    by_test (λ (n : ℕ). n ≤ 11) _ (λ _. omega arith) λ _.
    by_test (λ (n : ℕ). n ≤ 11) _ (λ _. omega arith) λ _.
    by_test (λ (n : ℕ). n ≤ 11) _ (λ _. omega arith) λ _.
    by_test (λ (n : ℕ). n ≤ 11) _ (λ _. omega arith) λ _.
    by_test (λ (n : ℕ). n ≤ 11) _ (λ _. omega arith) λ _. omega arith

rows_plain : (rs : List ℕ) (k i : ℕ) → i + k ≤ row_limit → Plain (rows_from rs k i)
unfolding rows_from
rows_plain rs zero i h = whole 0 (omega arith)
rows_plain rs (suc k) i h =
    by_test Plain _ (λ _. rows_plain rs k (i + 1) (omega arith))
    (λ _. record { number = fault_number rs i; row = omega arith; value = refl; size = refl })

pub list_plain : (s : List ℕ) → Plain (list_answer s)
unfolding list_answer
list_plain s =
    by_test Plain _ (λ _. whole 1 (omega arith)) λ _.
    by_test Plain _ (λ _. whole 2 (omega arith)) λ _.
    by_test Plain _ (λ _. whole 3 (omega arith)) λ _.
    by_test Plain _ (λ _. whole 4 (omega arith)) λ few.
    by_test Plain _ (λ _. whole 5 (omega arith)) λ _.
    rows_plain _ (row_count s) 0 (omega (arith, ltb-false row_limit (row_count s) few))

pub raw_plain : (rs : List ℕ) → Plain (rows_answer rs)
unfolding rows_answer
raw_plain rs =
    by_test Plain _ (λ _. whole 4 (omega arith)) λ few.
    by_test Plain _ (λ _. whole 5 (omega arith)) λ _.
    rows_plain _ (length rs / 14) 0 (omega (arith, ltb-false row_limit (length rs / 14) few))
