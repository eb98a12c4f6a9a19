-- Nothing is lost: writing what was read gives the image again, and reading what was written gives the rows again.
-- Rests on Answers and the fields' laws.
use mathlib.Core.Path.{◌≡◌, refl, sym, ap, ◌∙◌}
use mathlib.Core.List.{List, ◌∷◌, ◌++◌}
use Prim.Native.Nat.{ℕ, ◌+◌, ◌*◌, ◌/◌, ◌%◌, ◌≤◌}
use native.Mathlib.Omega.{arith}
use lib.ListN.{length, get_or, drop, length-drop}
use lib.Seq.{drop-cons}
use Rattle.fields.specs.Fields.{be, be4, bytes, bytes2, bytes4}
use Rattle.fields.proofs.Laws.{Bytes, be2-bytes2, be4-bytes4, bytes2-be2, bytes4-be4}
use Rattle.image.specs.Refusals.{accepted, row_limit, row_count, row_bytes, list_answer, rows_answer}
use Rattle.image.specs.Calls.{image_of, read_call, write_call}
use Rattle.image.proofs.Outcomes.{done}
use Rattle.image.proofs.Laying.{image_length}
use Rattle.image.proofs.Answers.{list_accepted, rows_accepted, list_passed, rows_passed}

module _ (s : List ℕ) (e : (list_answer s).number ≡ 0) where
  -- An accepted image's rows are as many as it says.
  rows_of : (length (row_bytes s) ≡ 14 * row_count s) × (length (row_bytes s) / 14 ≡ row_count s) × (length (row_bytes s) % 14 ≡ 0)
  rows_of =
      let a = list_accepted s e in
      let size = length-drop 7 s in
      (omega arith, omega arith, omega arith)

  -- The writer accepts the rows that were read.
  pub read_accepted : (rows_answer (row_bytes s)).number ≡ 0
  read_accepted =
      let a = list_accepted s e in
      let few : length (row_bytes s) / 14 ≤ row_limit = omega (arith, rows_of.1, a.few) in
      rw (rows_passed (row_bytes s) few rows_of.2, rows_of.1) a.rows

  -- Writing what was read gives the image again.
  pub write_read : Bytes s → image_of (row_bytes s) ≡ s
  unfolding image_of
  write_read b =
      let a = list_accepted s e in
      let field : 3 + length (row_bytes s) ≡ be4 s 0 = omega (arith, rows_of.0) in
      let version : drop 4 s ≡ 1 ∷ drop 5 s = drop-cons s 4 0 (omega arith) ∙ ap (λ (x : ℕ). x ∷ drop 5 s) a.version in
      ap (λ (x : ℕ). bytes4 x ++ (1 ∷ (bytes2 (length (row_bytes s) / 14) ++ row_bytes s))) field
      ∙ ap (λ (x : ℕ). bytes4 (be4 s 0) ++ (1 ∷ (bytes2 x ++ row_bytes s))) rows_of.1
      ∙ ap (λ (r : List ℕ). bytes4 (be4 s 0) ++ (1 ∷ r)) (bytes2-be2 s b 5 (omega arith))
      ∙ ap (λ (r : List ℕ). bytes4 (be4 s 0) ++ r) (sym version)
      ∙ bytes4-be4 s b 0 (omega arith)

module _ (rs : List ℕ) (e : (rows_answer rs).number ≡ 0) where
  -- Reading what was written gives the rows again.
  pub read_write : row_bytes (image_of rs) ≡ rs
  unfolding image_of bytes
  read_write = refl

  field_written : be4 (image_of rs) 0 ≡ 3 + length rs
  unfolding image_of
  field_written = let a = rows_accepted rs e in be4-bytes4 (3 + length rs) _ (omega arith)

  version_written : get_or (image_of rs) 4 0 ≡ 1
  unfolding image_of bytes
  version_written = refl

  count-written : row_count (image_of rs) ≡ length rs / 14
  unfolding image_of bytes be
  count-written = let a = rows_accepted rs e in be2-bytes2 (length rs / 14) rs (omega arith)

  -- The reader accepts the image that was written.
  pub written-accepted : (list_answer (image_of rs)).number ≡ 0
  written-accepted =
      let a = rows_accepted rs e in
      let size = image_length rs in
      let field = field_written in
      let count = count-written in
      rw (list_passed (image_of rs) (omega arith) (omega arith) version_written (omega arith) (omega arith), read_write, count) a.rows

-- The same of the calls, with any buffer that is long enough: what was read is written as the image it was read from,
pub write_back : (s d : List ℕ) → Bytes s → (list_answer s).number ≡ 0 → length s ≤ length d
    → write_call (row_bytes s) d ≡ record { answer = accepted 0 (length s); buffer = s ++ drop (length s) d }
write_back s d b e room =
    let same = write_read s e b in
    done (rows_answer (row_bytes s)) 0 (image_of (row_bytes s)) d (read_accepted s e) (omega (arith, ap length same))
    ∙ ap (λ (w : List ℕ). record { answer = accepted 0 (length w); buffer = w ++ drop (length w) d }) same

-- and what was written is read as the rows it was written from.
pub read_back : (rs d : List ℕ) → (rows_answer rs).number ≡ 0 → length rs ≤ length d
    → read_call (image_of rs) d ≡ record { answer = accepted 0 (length rs); buffer = rs ++ drop (length rs) d }
read_back rs d e room =
    let same = read_write rs e in
    done (list_answer (image_of rs)) 0 (row_bytes (image_of rs)) d (written-accepted rs e) (omega (arith, ap length same))
    ∙ ap (λ (w : List ℕ). record { answer = accepted 0 (length w); buffer = w ++ drop (length w) d }) same
