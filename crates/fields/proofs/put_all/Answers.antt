-- `fields::put_all`: when no turn is left, all of w is laid.
use Rattle.std.proofs.Common.{◌≡◌, length, arith, ap, ◌∙◌}
use lib.Seq.{paste}
use Rattle.fields.proofs.Laws.{lay_all}
use Rattle.fields.proofs.put_all.Goals as goal

pub returns : goal.returns
returns c =
    let a = c.args in
    let l = c.loop-i in
    let end : l.i ≡ length a.w.now = omega arith in
    l.invariant ∙ ap (paste a.d.now a.at a.w.now) end ∙ lay_all a.d.now a.at a.w.now
