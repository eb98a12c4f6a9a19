-- The four parts of a packed answer do not overlap: each is read off the number again, for every answer that a call can
-- give. Rests on Packed and on what image says of its answers.
use mathlib.Core.Path.{◌≡◌}
use mathlib.Core.List.{List}
use Prim.Native.Nat.{ℕ, ◌/◌, ◌%◌, ◌^◌, ◌<◌}
use native.Mathlib.Omega.{arith}
use lib.ListN.{length, length-drop}
use borrow.Author.Tests.{eqb-true}
use Rattle.rules.proofs.Choose.{by_test}
use Rattle.image.specs.Refusals.{list_answer, rows_answer, row_bytes}
use Rattle.image.specs.Calls.{Called, written, judged, image_of, read_call, write_call}
use Rattle.image.specs.declared.answer.Answer.{Answer}
use Rattle.image.proofs.Answers.{list_accepted, rows_accepted}
use Rattle.image.proofs.Laying.{image_length}
use Rattle.image.proofs.Plain.{Plain, list_plain, raw_plain}
use Rattle.sky.specs.Packed.{packed}

-- What an answer's fields hold: 8 bits, 16, 16 and 24.
pub record Fits (a : Answer) : Type 0 where
  pub number : a.number < 2 ^ 8
  pub row : a.row < 2 ^ 16
  pub size : a.size < 2 ^ 16
  pub value : a.value < 2 ^ 24

pub record Unpacked (a : Answer) : Type 0 where
  pub number : packed a / 2 ^ 56 ≡ a.number
  pub row : packed a / 2 ^ 40 % 2 ^ 16 ≡ a.row
  pub size : packed a / 2 ^ 24 % 2 ^ 16 ≡ a.size
  pub value : packed a % 2 ^ 24 ≡ a.value

pub unpacked : (a : Answer) → Fits a → Unpacked a
unfolding packed
unpacked a f = record { number = omega arith; row = omega arith; size = omega arith; value = omega arith }

plain_fits : (a : Answer) → Plain a → Fits a
plain_fits a p = record { number = omega arith; row = omega arith; size = omega arith; value = omega arith }

-- A call that writes: the bytes it would write are few where its list is accepted, and its value fits.
pub judged_fits : (a : Answer) (v : ℕ) (w d : List ℕ) → Plain a → (a.number ≡ 0 → length w < 2 ^ 16) → v < 2 ^ 24 → Fits (judged a v w d).answer
unfolding judged written
judged_fits a v w d p few h =
    by_test (λ (x : Called). Fits x.answer) _
    (λ ok.
    let l = few (eqb-true _ _ ok) in
    by_test (λ (x : Called). Fits x.answer) _
    (λ _. record { number = omega arith; row = omega arith; size = omega arith; value = omega arith })
    (λ _. record { number = omega arith; row = omega arith; size = omega arith; value = omega arith }))
    (λ _. plain_fits a p)

pub check_fits : (s : List ℕ) → Fits (list_answer s)
check_fits s = plain_fits (list_answer s) (list_plain s)

pub read_fits : (s d : List ℕ) → Fits (read_call s d).answer
read_fits s d =
    judged_fits (list_answer s) 0 (row_bytes s) d (list_plain s)
    (λ ok. let a = list_accepted s ok in omega (arith, length-drop 7 s))
    (omega arith)

pub write_fits : (rs d : List ℕ) → Fits (write_call rs d).answer
write_fits rs d =
    judged_fits (rows_answer rs) 0 (image_of rs) d (raw_plain rs)
    (λ ok. let a = rows_accepted rs ok in omega (arith, image_length rs))
    (omega arith)
