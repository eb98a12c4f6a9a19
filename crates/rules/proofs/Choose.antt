-- Case analysis on the tests of the rules: a `choose` by its test, of one part or of two.
-- Every proof about a step that tests something goes through here. Rests on Choose.
use mathlib.Core.Path.{◌≡◌, refl}
use mathlib.Core.Bool.{Bool, true, false, ◌&&◌, false≢true}
use Rattle.rules.specs.Choose.{choose}

pub by_test : {A : Type 0} (P : A → Type 0) (b : Bool) {x y : A} → (b ≡ true → P x) → (b ≡ false → P y) → P (choose b x y)
unfolding choose
by_test P true f g = f refl
by_test P false f g = g refl

-- A test of two parts passes where both pass; where it fails, the second fails if the first passes.
pub by_both : {A : Type 0} (P : A → Type 0) (a b : Bool) {x y : A} → (a ≡ true → b ≡ true → P x) → ((a ≡ true → b ≡ false) → P y)
    → P (choose (a && b) x y)
unfolding choose
by_both P true true f g = f refl refl
by_both P true false f g = g (λ _. refl)
by_both P false b f g = g (λ e. absurd (false≢true e))
