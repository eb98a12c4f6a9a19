-- What is promised of a byte string that `check` accepts: all that promises proves of the run of the jobs that it says. So no
-- reader has to ask which lists are proper. Rests on image's definitions and on promises' demands.
use Rattle.std.specs.Prelude.{ℕ, ◌≡◌, ◌<◌, List, [], ◌∷◌, get_or}
use Rattle.rules.specs.Picks.{document}
use Rattle.image.specs.Refusals.{list_answer}
use Rattle.image.specs.Calls.{jobs_of}
use Rattle.promises.specs.Demands.{Promised}

-- If each byte is below 256, and the list is accepted, it is run by document 01's picks as promised: four times the value is at
-- least what any plan earns, if some plan finishes every tile, so does the run, and all else that `Promised` says.
abbrev pub ListPromised : List ℕ → Type 0
ListPromised s = ((i : ℕ) → get_or s i 0 < 256) → (list_answer s).number ≡ 0 → Promised document (jobs_of s)

-- An image of no rows, but for its version, 2: it is refused with number 3, and nothing is promised of it.
abbrev pub version_2 : List ℕ
version_2 = 0 ∷ 0 ∷ 0 ∷ 3 ∷ 2 ∷ 0 ∷ 0 ∷ []
