-- Nothing is promised of a refused list: so the statement, tried on one, holds since it is not accepted. Rests on Refusals.
use Rattle.std.proofs.Common.{arith}
use Rattle.fields.specs.Fields.{be}
use Rattle.rules.specs.Choose.{choose}
use Rattle.image.specs.Refusals.{list_answer}
use Rattle.lists.specs.Lists.{ListPromised, version_2}

pub refused_list : ListPromised version_2
unfolding list_answer choose be
refused_list b e = absurd (omega arith)
