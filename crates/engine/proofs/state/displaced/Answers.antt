-- `engine::state::displaced`: each fate is displaced, so all are.
use Rattle.std.proofs.Common.{◌≡◌, ◌<◌, ◌∙◌, sym, length, get_or, map, rules, arith}
use Rattle.std.proofs.lemmas.List.{ext_get_or, length-map, get_or-map}
use Rattle.engine.specs.Fates.{displaced_fate}
use Rattle.engine.specs.declared.state.Fate.TheVariants.{Waiting}
use Rattle.engine.proofs.state.displaced.Goals as goal

pub returns : goal.returns
returns c =
    let m = c.map.ensures.items in
    let long : length c.map.result ≡ 64 = m.long in
    let size : length c.map.result ≡ length c.args.fates = long ∙ sym c.requires in
    ext_get_or Waiting c.map.result (map displaced_fate c.args.fates) (size ∙ sym (length-map c.args.fates displaced_fate))
    (λ i h.
    let inside : i < length c.args.fates = omega arith in
    let p = m.at i Waiting Waiting (omega arith) in
    let one : get_or c.map.result i Waiting ≡ displaced_fate (get_or c.args.fates i Waiting) = search rules in
    one ∙ sym (get_or-map displaced_fate c.args.fates i Waiting Waiting inside))
