-- An answer of number 0 says that no test was met, and bytes that meet none are answered by their rows. Rests on Refusals.
use mathlib.Core.Path.{◌≡◌, sym, ap, ◌∙◌}
use mathlib.Core.List.{List}
use mathlib.Core.Bool.{Bool, not}
use Prim.Native.Nat.{ℕ, ◌+◌, ◌*◌, ◌-◌, ◌/◌, ◌%◌, ◌≤◌}
use native.Mathlib.Omega.{arith}
use lib.Dec.{ltb, eqb}
use lib.ListN.{length, get_or}
use borrow.Author.Tests.{ltb-false, eqb-true, not-false, eq-eqb, le-ltb}
use Rattle.fields.specs.Fields.{be4}
use Rattle.rules.specs.Choose.{choose}
use Rattle.image.specs.Refusals.{refused, row_limit, row_count, row_bytes, rows_from, list_answer, rows_answer}
use Rattle.image.specs.declared.answer.Answer.{Answer}
use Rattle.image.proofs.Unmet.{Unmet, unmet}

passed : (b : Bool) (n : ℕ) (x : Answer) → (n ≡ 0 → ⊥) → (choose b (refused n 0) x).number ≡ 0 → Unmet b x.number
passed b n x = unmet (λ (a : Answer). a.number) b (refused n 0) x

-- An accepted image: its first field, its version, its size, and the answer of its rows.
pub record Accepted (s : List ℕ) : Type 0 where
  pub field : be4 s 0 ≡ length s - 4
  pub version : get_or s 4 0 ≡ 1
  pub few : row_count s ≤ row_limit
  pub whole : length s ≡ 7 + 14 * row_count s
  pub rows : (rows_from (row_bytes s) (row_count s) 0).number ≡ 0

pub list_accepted : (s : List ℕ) → (list_answer s).number ≡ 0 → Accepted s
unfolding list_answer
list_accepted s e =
    let p1 = passed (ltb (length s) 7) 1 _ (omega arith) e in
    let p2 = passed (not (eqb (be4 s 0) (length s - 4))) 2 _ (omega arith) p1.on in
    let p3 = passed (not (eqb (get_or s 4 0) 1)) 3 _ (omega arith) p2.on in
    let p4 = passed (ltb row_limit (row_count s)) 4 _ (omega arith) p3.on in
    let p5 = passed (not (eqb (be4 s 0) (3 + 14 * row_count s))) 5 _ (omega arith) p4.on in
    let long : 7 ≤ length s = ltb-false _ _ p1.fails in
    let field : be4 s 0 ≡ length s - 4 = eqb-true _ _ (not-false _ p2.fails) in
    let size : be4 s 0 ≡ 3 + 14 * row_count s = eqb-true _ _ (not-false _ p5.fails) in
    record {
      field = field;
      version = eqb-true _ _ (not-false _ p3.fails);
      few = ltb-false _ _ p4.fails;
      whole = omega arith;
      rows = p5.on;
    }

-- Accepted rows with no image around them.
pub record AcceptedRows (rs : List ℕ) : Type 0 where
  pub few : length rs / 14 ≤ row_limit
  pub whole : length rs ≡ 14 * (length rs / 14)
  pub rows : (rows_from rs (length rs / 14) 0).number ≡ 0

pub rows_accepted : (rs : List ℕ) → (rows_answer rs).number ≡ 0 → AcceptedRows rs
unfolding rows_answer
rows_accepted rs e =
    let p4 = passed (ltb row_limit (length rs / 14)) 4 _ (omega arith) e in
    let p5 = passed (not (eqb (length rs % 14) 0)) 5 _ (omega arith) p4.on in
    let rest : length rs % 14 ≡ 0 = eqb-true _ _ (not-false _ p5.fails) in
    record { few = ltb-false _ _ p4.fails; whole = omega arith; rows = p5.on }

-- And the other way: what meets none of the tests before the rows is answered by its rows.
pub list_passed : (s : List ℕ) → 7 ≤ length s → be4 s 0 ≡ length s - 4 → get_or s 4 0 ≡ 1 → row_count s ≤ row_limit → be4 s 0 ≡ 3 + 14 * row_count s
    → list_answer s ≡ rows_from (row_bytes s) (row_count s) 0
unfolding list_answer choose
list_passed s long field version few size =
    rw (le-ltb (length s) 7 long, eq-eqb (be4 s 0) (length s - 4) field, eq-eqb (get_or s 4 0) 1 version, le-ltb row_limit (row_count s) few, eq-eqb (be4 s 0) (3 + 14 * row_count s) size)

pub rows_passed : (rs : List ℕ) → length rs / 14 ≤ row_limit → length rs % 14 ≡ 0 → rows_answer rs ≡ rows_from rs (length rs / 14) 0
unfolding rows_answer choose
rows_passed rs few whole = rw (le-ltb row_limit (length rs / 14) few, whole)

-- An answer that is the same has the same number.
pub number_0 : {a b : Answer} → a ≡ b → a.number ≡ 0 → b.number ≡ 0
number_0 e h = ap (λ (x : Answer). x.number) (sym e) ∙ h

-- What a check let pass has a header and at most 64 rows.
pub passed_size : (s : List ℕ) {a : Answer} → a ≡ list_answer s → a.number ≡ 0 → (7 ≤ length s) × (length s ≤ 903)
passed_size s e h = let a = list_accepted s (number_0 e h) in (omega arith, omega arith)

-- Rows that were let pass with no image around them are at most 64.
pub passed_rows : (rs : List ℕ) {a : Answer} → a ≡ rows_answer rs → a.number ≡ 0 → length rs ≤ 896
passed_rows rs e h = let a = rows_accepted rs (number_0 e h) in omega arith
