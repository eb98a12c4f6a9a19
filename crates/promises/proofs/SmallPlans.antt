-- By computation alone: each small plan earns what is told of it, its list's run has the value told, and its list the bound told.
-- And demands tried where they hold with nothing to spare, so that those cannot be sharpened. Rests on the definitions only.
use Prim.Native.Nat.{ℕ}
use native.Mathlib.Omega.{arith}
use mathlib.Core.Path.{◌≡◌, refl, sym, ◌∙◌}
use mathlib.Core.Logic.{inl, inr}
use mathlib.Core.List.{map, []}
use Rattle.rules.specs.Picks.{document}
use Rattle.rules.specs.Run.{before, tick}
use Rattle.rules.specs.Result.{run_result}
use Rattle.rules.specs.SmallRuns.{r0, r2, r10}
use Rattle.promises.specs.Plan.{goes_to, ticks, earns_row, earns_from, earns, all_costs}
use Rattle.promises.specs.RunPlan.{running_row, run_plan}
use Rattle.promises.specs.Bound.{dropped_deadline, reach, counts, counted, count_from, is_early, early_value, bound}
use Rattle.promises.specs.Stretches.{length_for, ticks_in}
use Rattle.promises.specs.Demands.{in_time_order, named, OfPlan, OfRow, OfRun}
use Rattle.promises.specs.SmallPlans.{in_shares, SmallPlan, outdone, thrice, small_plans}
use Rattle.rules.proofs.Computed.{computed}

-- To unfold this is to unfold every definition that the demands go through.
unfoldable pub bound_of : SmallPlan → ℕ
unfolding computed before tick goes_to ticks earns_row earns_from all_costs running_row run_plan dropped_deadline reach counts counted count_from is_early early_value bound length_for ticks_in in_shares
bound_of x = bound document x.jobs

pub earned_told : map (λ (x : SmallPlan). earns x.plan x.jobs) small_plans ≡ map (λ (x : SmallPlan). x.earned) small_plans
unfolding bound_of
earned_told = refl

pub values_told : map (λ (x : SmallPlan). (run_result document x.jobs).value) small_plans ≡ map (λ (x : SmallPlan). x.value) small_plans
unfolding bound_of
values_told = refl

pub bounds_told : map bound_of small_plans ≡ map (λ (x : SmallPlan). x.bound) small_plans
unfolding bound_of
bounds_told = refl

-- Plans that earn the bound but not every row's cost; the second earns more than 3 × the value.
outdone_tried : OfPlan document outdone.jobs outdone.plan
unfolding bound_of
outdone_tried = record { four_times = omega arith; within_bound = omega arith; bound_four_times = omega arith; all_finished = λ e. absurd (omega arith) }

thrice_tried : OfPlan document thrice.jobs thrice.plan
unfolding bound_of
thrice_tried = record { four_times = omega arith; within_bound = omega arith; bound_four_times = omega arith; all_finished = λ e. absurd (omega arith) }

-- With no rows a plan earns 4 × the value, namely nothing.
none_tried : OfPlan document r0.jobs (in_shares [])
unfolding bound_of
none_tried = record { four_times = omega arith; within_bound = omega arith; bound_four_times = omega arith; all_finished = λ e i h. absurd (omega arith) }

-- A row finished just at its deadline; and a dropped one, which had a tick.
finished_tried : OfRow document r2.jobs 0
unfolding bound_of
finished_tried = record { settled = inl (omega arith); in_time = omega arith; whole_cost = λ f. omega arith; on_time = λ f. omega arith; stretches = omega arith }

dropped_tried : OfRow document r10.jobs 1
unfolding bound_of
dropped_tried = record { settled = inr (omega arith); in_time = omega arith; whole_cost = λ f. absurd (omega arith); on_time = λ f. absurd (omega arith); stretches = omega arith }

-- A run with more stretches than rows, whose value is the tick of its end, which is the greatest deadline.
full_tried : OfRun document r2.jobs
unfolding bound_of
full_tried =
    let spans : (run_result document r2.jobs).spans ≡ r2.result.spans = refl in
    let order : map (named r2.jobs) (in_time_order document r2.jobs) ≡ r2.result.spans = refl in
    record {
      earns_value = omega arith;
      few_stretches = omega arith;
      in_order = (
        omega arith,
        record { apart = omega arith; longest = λ touch. omega arith },
        (omega arith, record { apart = omega arith; longest = λ touch. omega arith }, (omega arith, tt, tt)),
      );
      ends = omega arith;
      value_by_end = omega arith;
      outcomes_named = refl;
      spans_named = spans ∙ sym order;
    }
