-- The rules, with document 01's picks, give each list of a table the result beside it: R0 to R11 under one statement, and the
-- further runs under another. Both by computation alone.
use mathlib.Core.Path.{◌≡◌, refl}
use mathlib.Core.List.{List, map}
use Rattle.rules.specs.Picks.{document}
use Rattle.rules.specs.Result.{run_result}
use Rattle.rules.specs.SmallRuns.{SmallRun, small_runs}
use Rattle.rules.specs.FurtherRuns.{further_runs}
use Rattle.rules.proofs.Computed.{computed}

abbrev AsTold : List SmallRun → Type 0
AsTold runs = map (λ (r : SmallRun). run_result document r.jobs) runs ≡ map (λ (r : SmallRun). r.result) runs

pub small_runs_lem : AsTold small_runs
unfolding computed
small_runs_lem = refl

pub further_runs_lem : AsTold further_runs
unfolding computed
further_runs_lem = refl
