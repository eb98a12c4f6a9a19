-- If, then, else as a function that stays shut in a proof until it is named. Rests on the library's Bool.
use Rattle.std.specs.Prelude.{Bool, true, false}

-- `choose b x y` is x where the test b passes, and y where it fails.
unfoldable pub choose : {A : Type 0} → Bool → A → A → A
choose true x y = x
choose false x y = y
