-- Four is needed: a proper list, the value of its run with document 01's picks, and what a plan for it earns, by computation alone.
-- Rests on the definitions only.
use mathlib.Core.Path.{◌≡◌, refl}
use native.Mathlib.Omega.{arith}
use Rattle.rules.specs.Choose.{choose}
use Rattle.rules.specs.Job.{Proper}
use Rattle.rules.specs.Picks.{document}
use Rattle.rules.specs.Result.{run_result}
use Rattle.promises.specs.Plan.{goes_to, ticks, earns_row, earns_from, earns}
use Rattle.promises.specs.SmallPlans.{in_shares}
use Rattle.promises.specs.FourIsNeeded.{chain, fillers}
use Rattle.rules.proofs.Computed.{computed}

-- The first row apart, since `omega` proves 64 parts at most.
pub chain_proper : Proper chain
chain_proper = (omega arith, omega arith, omega arith)

pub chain_value : (run_result document chain).value ≡ 319
unfolding computed
chain_value = refl

pub fillers_earn : earns fillers chain ≡ 1256
unfolding choose goes_to ticks earns_row earns_from in_shares
fillers_earn = refl
