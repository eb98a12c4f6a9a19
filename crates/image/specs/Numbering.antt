-- The number that document 01 gives each refusal, and so the answer that a call's result stands for. Rests on Refusals.
use Rattle.std.specs.Prelude.{ℕ, List, Result, Ok, Err}
use Rattle.image.specs.Refusals.{refused, accepted}
use Rattle.image.specs.Calls.{Called}
use Rattle.image.specs.declared.answer.Answer.{Answer}
use Rattle.image.specs.declared.refusal.RowFault.{RowFault}
use Rattle.image.specs.declared.refusal.RowFault.TheVariants.{NameZero, NameTaken, CostZero, DeadlineTooLate, TooLittleTime, ReleaseTooEarly}
use Rattle.image.specs.declared.refusal.Refusal.{Refusal}
use Rattle.image.specs.declared.refusal.Refusal.TheVariants.{TooShort, WrongCount, WrongVersion, TooManyRows, WrongSize, Row, NoRoom}

-- 6: name 0. 7: name equals that of an earlier row. 8: cost 0. 9: deadline above 1,000,000. 10: deadline before release, or
-- deadline - release less than cost. 11: release less than the row before's.
abbrev pub fault_number : RowFault → ℕ
fault_number NameZero = 6
fault_number NameTaken = 7
fault_number CostZero = 8
fault_number DeadlineTooLate = 9
fault_number TooLittleTime = 10
fault_number ReleaseTooEarly = 11

-- The number of a row's test, 0 where it passed.
abbrev pub row_test : Result Unit RowFault → ℕ
row_test (Ok _) = 0
row_test (Err fault) = fault_number fault

-- 1: fewer than 7 bytes. 2: first field differs from the count of bytes after it. 3: version not 1. 4: more than 64 rows.
-- 5: first field is not 3 + 14n. 6 to 11: a row's fault, with the row. 12: no room.
abbrev pub refusal_answer : Refusal → Answer
refusal_answer TooShort = refused 1 0
refusal_answer WrongCount = refused 2 0
refusal_answer WrongVersion = refused 3 0
refusal_answer TooManyRows = refused 4 0
refusal_answer WrongSize = refused 5 0
refusal_answer (Row row fault) = refused (fault_number fault) row
refusal_answer NoRoom = refused 12 0

-- The answer of a check that ended so.
abbrev pub check_answer : Result Unit Refusal → Answer
check_answer (Ok _) = accepted 0 0
check_answer (Err refusal) = refusal_answer refusal

-- The answer of a call that ended so, and wrote `size` bytes if it was not refused.
abbrev pub call_answer : Result ℕ Refusal → Answer
call_answer (Ok size) = accepted 0 size
call_answer (Err refusal) = refusal_answer refusal

-- A call that ended so, and left its buffer so.
abbrev pub called : Result ℕ Refusal → List ℕ → Called
called result buffer = record { answer = call_answer result; buffer = buffer }
