-- What a takeover makes of a row's fate.
use Rattle.engine.specs.declared.state.Fate.{Fate}
use Rattle.engine.specs.declared.state.Fate.TheVariants.{Waiting, Taken, Finished, Dropped}

-- A fate after a takeover: a row that runs or is delayed waits.
abbrev pub displaced_fate : Fate → Fate
displaced_fate Waiting = Waiting
displaced_fate Taken = Waiting
displaced_fate (Finished t) = Finished t
displaced_fate (Dropped t) = Dropped t
