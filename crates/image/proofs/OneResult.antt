-- An answer in document 01's numbers tells the whole result of a call: no two results have one answer. So a promise that
-- names the answer leaves just one result. Rests on Numbering.
use Rattle.std.proofs.Common.{◌≡◌, ℕ, Result, Ok, Err, [], ◌∷◌, get_or, refl, sym, ap, ◌∙◌}
use Rattle.image.specs.Numbering.{refusal_answer, check_answer, call_answer}
use Rattle.image.specs.declared.answer.Answer.{Answer}
use Rattle.image.specs.declared.refusal.RowFault.TheVariants.{NameZero, NameTaken, CostZero, DeadlineTooLate, TooLittleTime, ReleaseTooEarly}
use Rattle.image.specs.declared.refusal.Refusal.{Refusal}
use Rattle.image.specs.declared.refusal.Refusal.TheVariants.{TooShort, WrongCount, WrongVersion, TooManyRows, WrongSize, Row, NoRoom}

-- The result that an answer tells: `ok` at number 0, and else the refusal of its number.
abbrev told : {A : Type 0} → A → Answer → Result A Refusal
told ok a =
    get_or
    (Ok ok
    ∷ Err TooShort
    ∷ Err WrongCount
    ∷ Err WrongVersion
    ∷ Err TooManyRows
    ∷ Err WrongSize
    ∷ Err (Row a.row NameZero)
    ∷ Err (Row a.row NameTaken)
    ∷ Err (Row a.row CostZero)
    ∷ Err (Row a.row DeadlineTooLate)
    ∷ Err (Row a.row TooLittleTime)
    ∷ Err (Row a.row ReleaseTooEarly)
    ∷ [])
    a.number
    (Err NoRoom)

refusal_told : {A : Type 0} (ok : A) (e : Refusal) → told ok (refusal_answer e) ≡ Err e
refusal_told ok TooShort = refl
refusal_told ok WrongCount = refl
refusal_told ok WrongVersion = refl
refusal_told ok TooManyRows = refl
refusal_told ok WrongSize = refl
refusal_told ok (Row row NameZero) = refl
refusal_told ok (Row row NameTaken) = refl
refusal_told ok (Row row CostZero) = refl
refusal_told ok (Row row DeadlineTooLate) = refl
refusal_told ok (Row row TooLittleTime) = refl
refusal_told ok (Row row ReleaseTooEarly) = refl
refusal_told ok NoRoom = refl

check_told : (r : Result Unit Refusal) → told tt (check_answer r) ≡ r
check_told (Ok tt) = refl
check_told (Err e) = refusal_told tt e

call_told : (r : Result ℕ Refusal) → told (call_answer r).size (call_answer r) ≡ r
call_told (Ok size) = refl
call_told (Err e) = refusal_told (refusal_answer e).size e

pub one_check : (r s : Result Unit Refusal) → check_answer r ≡ check_answer s → r ≡ s
one_check r s e = sym (check_told r) ∙ ap (told tt) e ∙ check_told s

pub one_call : (r s : Result ℕ Refusal) → call_answer r ≡ call_answer s → r ≡ s
one_call r s e = sym (call_told r) ∙ ap (λ (a : Answer). told a.size a) e ∙ call_told s
