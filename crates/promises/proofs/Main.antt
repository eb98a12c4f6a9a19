-- The demands, proved: all that specs/Demands promises holds of the run of every proper list, with any lawful picks, and so with
-- document 01's own. Each line cites the module that argues it; Shown passes from the run's state to its result.
use Prim.Native.Nat.{ℕ}
use native.Mathlib.Omega.{arith}
use mathlib.Core.Path.{sym, subst, ◌∙◌}
use mathlib.Core.Logic.{⊎_map}
use mathlib.Core.List.{List}
use Rattle.rules.specs.Job.{Job, Proper}
use Rattle.rules.specs.Picks.{Picks, document}
use Rattle.rules.specs.Run.{run}
use Rattle.promises.specs.Plan.{Plan}
use Rattle.promises.specs.Lawful.{Lawful}
use Rattle.promises.specs.Stretches.{Precedes, InOrder}
use Rattle.promises.specs.Demands.{in_time_order, OfPlan, OfRow, OfRun, Promised, FourIsNeeded}
use Rattle.promises.specs.FourIsNeeded.{chain, fillers}
use Rattle.promises.proofs.FourIsNeeded.{chain_proper, chain_value, fillers_earn}
use Rattle.promises.proofs.End.{run_ends, end_settled}
use Rattle.promises.proofs.Listed.{end_length}
use Rattle.promises.proofs.Stretches.{end_stretches}
use Rattle.promises.proofs.FourTimes.{within_bound_lem, bound_four_times_lem}
use Rattle.promises.proofs.AllFinished.{all_finished_lem}
use Rattle.promises.proofs.OnTime.{in_time_lem, given_in_time, on_time_lem, run-earns}
use Rattle.promises.proofs.Value.{value_by_end_lem}
use Rattle.promises.proofs.Shown.{finished_at, settled_shown, value_shown, number_shown, tick_shown, given_shown, outcomes_named_lem, spans_named_lem, spans_few}
use Rattle.promises.proofs.Document.{document_lawful}

module _ {p : Picks} (l : Lawful p) (jobs : List Job) (proper : Proper jobs) where
  pub of_plan : (q : Plan) → OfPlan p jobs q
  of_plan q =
      record {
        four_times = omega (arith, value_shown p jobs, within_bound_lem l jobs proper q, bound_four_times_lem l jobs proper);
        within_bound = omega (arith, within_bound_lem l jobs proper q);
        bound_four_times = omega (arith, value_shown p jobs, bound_four_times_lem l jobs proper);
        all_finished = λ all i h. number_shown p jobs i ∙ all_finished_lem l jobs proper q (omega arith) i;
      }

  pub of_row : (i : ℕ) → OfRow p jobs i
  of_row i =
      record {
        settled = ⊎_map (λ e. number_shown p jobs i ∙ e) (λ e. number_shown p jobs i ∙ e) (settled_shown _ (end_settled l jobs proper i));
        in_time = omega (arith, given_shown p jobs i, given_in_time l jobs proper i);
        whole_cost = λ f. omega (arith, given_shown p jobs i, on_time_lem l jobs proper i _ (finished_at _ (sym (number_shown p jobs i) ∙ f)));
        on_time = λ f. omega (arith, tick_shown p jobs i, on_time_lem l jobs proper i _ (finished_at _ (sym (number_shown p jobs i) ∙ f)));
        stretches = omega (arith, given_shown p jobs i, (end_stretches l jobs proper).ticks i);
      }

  pub of_run : OfRun p jobs
  of_run =
      record {
        earns_value = omega (arith, value_shown p jobs, run-earns l jobs proper);
        few_stretches = omega (arith, spans_few l jobs proper);
        in_order = subst (λ (n : ℕ). InOrder Precedes (run p jobs).tick n (in_time_order p jobs)) (end_length l jobs proper) (end_stretches l jobs proper).order;
        ends = omega (arith, (run_ends l jobs proper).by_deadline);
        value_by_end = omega (arith, value_shown p jobs, value_by_end_lem l jobs proper);
        outcomes_named = outcomes_named_lem l jobs proper;
        spans_named = spans_named_lem l jobs proper;
      }

  pub promised : Promised p jobs
  promised = record { plan = of_plan; row = λ i _. of_row i; run = of_run; none_outside = λ t i e. omega (arith, in_time_lem l jobs proper t i e) }

pub document_promised : (jobs : List Job) → Proper jobs → Promised document jobs
document_promised = promised document_lawful

pub four_needed : FourIsNeeded
four_needed = (chain, fillers, chain_proper, omega (arith, chain_value, fillers_earn))
