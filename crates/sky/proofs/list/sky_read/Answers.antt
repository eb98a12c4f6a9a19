-- `sky::list::sky_read`: the value of what `read` answers fits its place in the packed number. The check does
-- not find it by itself.
use Rattle.sky.proofs.Unpacked.{read_fits}
use Rattle.sky.proofs.list.sky_read.Goals as goal

pub pack-requires : goal.pack-requires
pack-requires c = rw c.read.ensures.answer (read_fits _ _).value
