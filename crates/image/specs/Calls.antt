-- What a call answers and what its buffer holds afterwards, for accepted and refused input alike; and the jobs of a list.
-- Rests on Refusals.
use Rattle.std.specs.Prelude.{ℕ, ◌+◌, ◌/◌, List, ◌∷◌, ◌++◌, ltb, eqb, length, drop}
use Rattle.fields.specs.Fields.{bytes2, bytes4}
use Rattle.rules.specs.Choose.{choose}
use Rattle.rules.specs.Job.{Job}
use Rattle.image.specs.Rows.{jobs_from}
use Rattle.image.specs.Refusals.{refused, accepted, row_count, row_bytes, list_answer, rows_answer}
use Rattle.image.specs.declared.answer.Answer.{Answer}

-- The answer of a call, and every byte of the buffer it was lent.
pub record Called : Type 0 where
  pub answer : Answer
  pub buffer : List ℕ

-- A call that has the bytes w to write into the buffer d, and the value v to answer: 12 when d has fewer bytes than w, and
-- then d stays as it was. Bytes beyond what is written keep what they held.
unfoldable pub written : ℕ → List ℕ → List ℕ → Called
written v w d =
    choose (ltb (length d) (length w))
    (record { answer = refused 12 0; buffer = d })
    (record { answer = accepted v (length w); buffer = w ++ drop (length w) d })

-- Test 12 is last: a list that is refused for another reason, with the answer a, is refused so, and d stays as it was.
unfoldable pub judged : Answer → ℕ → List ℕ → List ℕ → Called
judged a v w d = choose (eqb a.number 0) (written v w d) (record { answer = a; buffer = d })

-- The image of a list whose rows have the bytes rs: the count of bytes after the first four, version 1, the number of rows, the rows.
unfoldable pub image_of : List ℕ → List ℕ
image_of rs = bytes4 (3 + length rs) ++ (1 ∷ (bytes2 (length rs / 14) ++ rs))

-- Reading: an accepted image's rows.
abbrev pub read_call : List ℕ → List ℕ → Called
read_call s d = judged (list_answer s) 0 (row_bytes s) d

-- Writing: the image of accepted rows.
abbrev pub write_call : List ℕ → List ℕ → Called
write_call rs d = judged (rows_answer rs) 0 (image_of rs) d

-- The jobs of an accepted image.
abbrev pub jobs_of : List ℕ → List Job
jobs_of s = jobs_from (row_bytes s) (row_count s) 0
