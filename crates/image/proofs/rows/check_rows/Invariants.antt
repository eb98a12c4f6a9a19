-- The rows from i on give the answer of all of them, and `before` is the release of the row before i.
use Rattle.std.proofs.Common.{◌≡◌, ◌-◌, length}
use Rattle.std.specs.List.{concat}
use Rattle.image.specs.Refusals.{release_before, rows_from}
use Rattle.image.proofs.rows.check_rows.Given as goal

abbrev pub invariant-loop-i : goal.invariant-loop-i
invariant-loop-i l = record {
  left : rows_from (concat l.rows) (length l.rows - l.i) l.i ≡ rows_from (concat l.rows) (length l.rows) 0;
  before : l.before ≡ release_before (concat l.rows) l.i;
}
