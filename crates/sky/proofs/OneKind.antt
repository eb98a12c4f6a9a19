-- A kind's number tells the kind: no two kinds have one number. Rests on Kind.
use Rattle.std.proofs.Common.{◌≡◌, [], ◌∷◌, get_or, refl, sym, ap, ◌∙◌}
use Rattle.sky.specs.Kind.{kind_number}
use Rattle.sky.specs.declared.refusals.RefusalKind.{RefusalKind}
use Rattle.sky.specs.declared.refusals.RefusalKind.TheVariants.{Other, Image, Row, Room}

told : (k : RefusalKind) → get_or (Other ∷ Image ∷ Row ∷ Room ∷ []) (kind_number k) Other ≡ k
told Other = refl
told Image = refl
told Row = refl
told Room = refl

pub one_kind : (k l : RefusalKind) → kind_number k ≡ kind_number l → k ≡ l
one_kind k l e = sym (told k) ∙ ap (λ n. get_or (Other ∷ Image ∷ Row ∷ Room ∷ []) n Other) e ∙ told l
