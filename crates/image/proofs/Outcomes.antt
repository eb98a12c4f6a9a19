-- The three outcomes of a call that writes: refused by the list, refused for room, done. Rests on Calls, Numbering and the
-- fields' laws.
use mathlib.Core.Path.{◌≡◌, ◌∙◌, refl, sym, ap}
use mathlib.Core.List.{List, ◌++◌}
use Prim.Native.Nat.{ℕ, ◌-◌, ◌≤◌, ◌<◌}
use native.Mathlib.Omega.{arith}
use Rattle.std.specs.Prelude.{Ok, Err}
use lib.ListN.{length, take, drop, length-drop}
use Rattle.fields.specs.Fields.{laid}
use Rattle.fields.proofs.Laws.{rest_laid}
use borrow.Author.Tests.{eq-eqb, ne_eqb, lt-ltb, le-ltb}
use Rattle.rules.specs.Choose.{choose}
use Rattle.image.specs.Refusals.{refused, accepted, list_answer, row_bytes}
use Rattle.image.specs.Calls.{Called, written, judged, read_call}
use Rattle.image.specs.Numbering.{refusal_answer, called}
use Rattle.image.specs.declared.answer.Answer.{Answer}
use Rattle.image.specs.declared.refusal.Refusal.{Refusal}
use Rattle.image.specs.declared.refusal.Refusal.TheVariants.{TooShort, WrongCount, WrongVersion, TooManyRows, WrongSize, Row, NoRoom}
use Rattle.image.proofs.Answers.{number_0}
use Rattle.image.proofs.Searches.{fault_some}

module _ (v : ℕ) (w d : List ℕ) where
  pub written_short : length d < length w → written v w d ≡ record { answer = refused 12 0; buffer = d }
  unfolding written choose
  written_short l = rw (lt-ltb (length d) (length w) l)

  pub written-done : length w ≤ length d → written v w d ≡ record { answer = accepted v (length w); buffer = w ++ drop (length w) d }
  unfolding written choose
  written-done l = rw (le-ltb (length d) (length w) l)

module _ (a : Answer) (v : ℕ) (w d : List ℕ) where
  pub refused_list : (a.number ≡ 0 → ⊥) → judged a v w d ≡ record { answer = a; buffer = d }
  unfolding judged choose
  refused_list h = rw (ne_eqb a.number 0 h)

  pub passed_list : a.number ≡ 0 → judged a v w d ≡ written v w d
  unfolding judged choose
  passed_list h = rw (eq-eqb a.number 0 h)

  pub refused_room : a.number ≡ 0 → length d < length w → judged a v w d ≡ record { answer = refused 12 0; buffer = d }
  refused_room h l = passed_list h ∙ written_short v w d l

  pub done : a.number ≡ 0 → length w ≤ length d → judged a v w d ≡ record { answer = accepted v (length w); buffer = w ++ drop (length w) d }
  done h l = passed_list h ∙ written-done v w d l

-- What is known of a call is known of its answer and of its buffer.
pub each_of : {k : Called} {a : Answer} {d : List ℕ} → k ≡ record { answer = a; buffer = d } → (a ≡ k.answer) × (d ≡ k.buffer)
each_of e = (sym (ap (λ (x : Called). x.answer) e), sym (ap (λ (x : Called). x.buffer) e))

-- No refusal has number 0.
refusal_some : (e : Refusal) → (refusal_answer e).number ≡ 0 → ⊥
refusal_some TooShort h = absurd (omega arith)
refusal_some WrongCount h = absurd (omega arith)
refusal_some WrongVersion h = absurd (omega arith)
refusal_some TooManyRows h = absurd (omega arith)
refusal_some WrongSize h = absurd (omega arith)
refusal_some (Row row fault) h = fault_some fault h
refusal_some NoRoom h = absurd (omega arith)

-- The same of a call's result: where the list is refused,
pub call_refused : (e : Refusal) (a : Answer) (w d : List ℕ) → refusal_answer e ≡ a → called (Err e) d ≡ judged a 0 w d
call_refused e a w d h = ap (λ (b : Answer). record { answer = b; buffer = d }) h ∙ sym (refused_list a 0 w d (λ z. refusal_some e (number_0 (sym h) z)))

-- where there is no room for w,
pub call_short : (a : Answer) (w d : List ℕ) → accepted 0 0 ≡ a → length d < length w → called (Err NoRoom) d ≡ judged a 0 w d
call_short a w d h l = sym (refused_room a 0 w d (number_0 h refl) l)

-- and where w is written.
pub call_done : (a : Answer) (w d e : List ℕ) (size : ℕ) → accepted 0 0 ≡ a → length w ≤ length d → size ≡ length w → e ≡ w ++ drop (length w) d
    → called (Ok size) e ≡ judged a 0 w d
call_done a w d e size h l s b = rw (s, b) (sym (done a 0 w d (number_0 h refl) l))

-- A read is done where the bytes after the header are laid into the buffer.
pub read_done : (s d e : List ℕ) → accepted 0 0 ≡ list_answer s → length s - 7 ≤ length d → e ≡ laid d 0 (take (length s - 7) (drop 7 s))
    → called (Ok (length s - 7)) e ≡ read_call s d
read_done s d e h l laid_rows =
    let size = length-drop 7 s in
    call_done (list_answer s) (row_bytes s) d e (length s - 7) h (omega arith) (sym size) (laid_rows ∙ rest_laid s d 7)

-- How a call ends.
pub ruleset ends = (call_refused, call_short, call_done)
