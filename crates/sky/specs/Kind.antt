-- The kinds by which a host groups refusals for its log. Rests on the library's numbers.
use Rattle.std.specs.Prelude.{ℕ, ◌&&◌, leb, eqb}
use Rattle.rules.specs.Choose.{choose}
use Rattle.sky.specs.declared.refusals.RefusalKind.{RefusalKind}
use Rattle.sky.specs.declared.refusals.RefusalKind.TheVariants.{Other, Image, Row, Room}

-- Numbers 1 to 5 are image faults (kind 1), 6 to 11 row faults (kind 2), 12 is room (kind 3), every other number is kind 0.
unfoldable pub kind_of : ℕ → ℕ
kind_of n = choose (leb 1 n && leb n 5) 1 (choose (leb 6 n && leb n 11) 2 (choose (eqb n 12) 3 0))

-- The number of each kind.
abbrev pub kind_number : RefusalKind → ℕ
kind_number Other = 0
kind_number Image = 1
kind_number Row = 2
kind_number Room = 3
