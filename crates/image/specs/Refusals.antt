-- What each refusal number is given exactly for, in document 01's order, and so the first refusal of any byte string.
-- Number 0 means accepted. Rests on Rows.
use Rattle.std.specs.Prelude.{ℕ, zero, suc, ◌+◌, ◌*◌, ◌-◌, ◌/◌, ◌%◌, List, Bool, false, not, ◌||◌, ltb, eqb, length, get_or, drop}
use Rattle.fields.specs.Fields.{be2, be4}
use Rattle.rules.specs.Choose.{choose}
use Rattle.image.specs.Rows.{name_at, release_at, cost_at, deadline_at}
use Rattle.image.specs.declared.answer.Answer.{Answer}

-- A list has at most this many rows.
abbrev pub row_limit : ℕ
row_limit = 64

-- No deadline is above this.
abbrev pub deadline_limit : ℕ
deadline_limit = 1000000

-- A refusal answers its number and the row (the first row is 1; 0 where the number concerns no row), value 0 and size 0.
abbrev pub refused : ℕ → ℕ → Answer
refused number row = record { number = number; row = row; value = 0; size = 0 }

-- An accepted call answers number 0, row 0, a value and the count of bytes written.
abbrev pub accepted : ℕ → ℕ → Answer
accepted value size = record { number = 0; row = 0; value = value; size = size }

-- The test whether one of the first k rows has the name x.
unfoldable pub named : List ℕ → ℕ → ℕ → Bool
named rs x zero = false
named rs x (suc k) = eqb (name_at rs k) x || named rs x k

-- The release of the row before row i. Before the first row there is none, and no release is less than 0.
unfoldable pub release_before : List ℕ → ℕ → ℕ
release_before rs zero = 0
release_before rs (suc k) = release_at rs k

-- 6: name 0. 7: name equals that of an earlier row (`taken`). 8: cost 0. 9: deadline above 1,000,000. 10: deadline before release,
-- or deadline - release less than cost. 11: release less than the row before's. The first that holds, and 0 if none does.
unfoldable pub row_number : ℕ → Bool → ℕ → ℕ → ℕ → ℕ → ℕ
row_number name taken release cost deadline before =
    choose (eqb name 0) 6
    (choose taken 7
    (choose (eqb cost 0) 8
    (choose (ltb deadline_limit deadline) 9
    (choose (ltb deadline release) 10 (choose (ltb (deadline - release) cost) 10 (choose (ltb release before) 11 0))))))

-- The number of row i.
unfoldable pub row_fault : List ℕ → ℕ → ℕ
row_fault rs i =
    row_number (name_at rs i)
    (named rs (name_at rs i) i)
    (release_at rs i)
    (cost_at rs i)
    (deadline_at rs i)
    (release_before rs i)

-- Rows from first to last: the answer for the k rows from row i on.
unfoldable pub rows_from : List ℕ → ℕ → ℕ → Answer
rows_from rs zero i = accepted 0 0
rows_from rs (suc k) i = choose (eqb (row_fault rs i) 0) (rows_from rs k (i + 1)) (refused (row_fault rs i) (i + 1))

-- The number of rows that an image says it has.
abbrev pub row_count : List ℕ → ℕ
row_count s = be2 s 5

-- The bytes of an image's rows.
abbrev pub row_bytes : List ℕ → List ℕ
row_bytes s = drop 7 s

-- 1: fewer than 7 bytes. 2: first field differs from the count of bytes after it. 3: version not 1. 4: more than 64 rows.
-- 5: first field is not 3 + 14n. Then the rows.
unfoldable pub list_answer : List ℕ → Answer
list_answer s =
    choose (ltb (length s) 7) (refused 1 0)
    (choose (not (eqb (be4 s 0) (length s - 4))) (refused 2 0)
    (choose (not (eqb (get_or s 4 0) 1)) (refused 3 0)
    (choose (ltb row_limit (row_count s)) (refused 4 0)
    (choose (not (eqb (be4 s 0) (3 + 14 * row_count s))) (refused 5 0) (rows_from (row_bytes s) (row_count s) 0)))))

-- Rows with no image around them: 4, and 5 when bytes are left over after whole rows. Then the rows.
unfoldable pub rows_answer : List ℕ → Answer
rows_answer rs =
    choose (ltb row_limit (length rs / 14)) (refused 4 0)
    (choose (not (eqb (length rs % 14) 0)) (refused 5 0) (rows_from rs (length rs / 14) 0))
