-- A test whose refusal was not given was not met, and what counts is what follows it. Rests on the rules' choice alone.
use Rattle.std.proofs.Common.{◌≡◌, ℕ, Bool, true, false, refl}
use Rattle.rules.specs.Choose.{choose}

-- The test b failed, and what follows has number 0.
pub record Unmet (b : Bool) (rest : ℕ) : Type 0 where
  pub fails : b ≡ false
  pub on : rest ≡ 0

-- `number` reads the number of what is chosen, as of an answer.
pub unmet : {X : Type 0} (number : X → ℕ) (b : Bool) (met x : X) → (number met ≡ 0 → ⊥) → number (choose b met x) ≡ 0 → Unmet b (number x)
unfolding choose
unmet number true met x h e = absurd (h e)
unmet number false met x h e = record { fails = refl; on = e }
