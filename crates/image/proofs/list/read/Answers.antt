-- `image::list::read`: what is read is laid into the buffer. The check does not find this one by itself.
use Rattle.std.proofs.Common.{arith}
use Rattle.image.proofs.Outcomes.{read_done}
use Rattle.image.proofs.list.read.Goals as goal

pub returns : goal.returns
returns c = read_done _ _ _ c.in_ok-check.ensures (omega arith) c.put_all.ensures
