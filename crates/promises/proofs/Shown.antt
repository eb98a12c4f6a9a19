-- What the result shows of a run, against the run's state: value, outcomes in list order, and stretches with names.
-- So the demands speak of the result. Rests on the rules' Result, on Listed and StretchCount.
use Prim.Native.Nat.{ℕ, ◌*◌, ◌≤◌}
use native.Mathlib.Omega.{arith}
use mathlib.Core.Path.{◌≡◌, refl, sym, ap, ◌∙◌}
use mathlib.Core.Logic.{◌⊎◌, inl, inr}
use mathlib.Core.List.{List, map, map-map, map_congr_left}
use lib.ListN.{length, length-map, length-reverse, get_or-map}
use Rattle.rules.specs.Job.{Job, Proper}
use Rattle.rules.specs.State.{Fate, Row, Stretch, no_row, row_of, given, waiting, taken, finished, dropped}
use Rattle.rules.specs.Picks.{Picks}
use Rattle.rules.specs.Run.{run}
use Rattle.rules.specs.Result.{Outcome, outcome_number, outcome_tick, value_of_rows, row_outcome, span_of, result_of, run_result}
use Rattle.promises.specs.Lawful.{Lawful}
use Rattle.promises.specs.Demands.{outcome_of, in_time_order, named}
use Rattle.promises.proofs.End.{Settled, end_rows}
use Rattle.promises.proofs.Listed.{end_listed}
use Rattle.promises.proofs.StretchCount.{end_count}

-- By outcome 1 the result shows a finished row, and the tick of it.
pub finished_at : (f : Fate) → outcome_number f ≡ 1 → f ≡ finished (outcome_tick f)
unfolding outcome_number outcome_tick
finished_at waiting e = absurd (omega arith)
finished_at taken e = absurd (omega arith)
finished_at (finished u) e = refl
finished_at (dropped u) e = absurd (omega arith)

pub settled_shown : (f : Fate) → Settled f → (outcome_number f ≡ 1) ⊎ (outcome_number f ≡ 2)
unfolding outcome_number
settled_shown waiting k = absurd k
settled_shown taken k = absurd k
settled_shown (finished u) k = inl refl
settled_shown (dropped u) k = inr refl

module _ (p : Picks) (jobs : List Job) where
  pub value_shown : (run_result p jobs).value ≡ value_of_rows (run p jobs).state.rows
  unfolding run_result result_of
  value_shown = refl

  outcome_shown : (i : ℕ) → outcome_of p jobs i ≡ row_outcome (row_of (run p jobs).state i)
  unfolding run_result result_of
  outcome_shown i = get_or-map row_outcome (run p jobs).state.rows i no_row

  pub number_shown : (i : ℕ) → (outcome_of p jobs i).outcome ≡ outcome_number (row_of (run p jobs).state i).fate
  unfolding row_outcome
  number_shown i = ap (λ (o : Outcome). o.outcome) (outcome_shown i)

  pub tick_shown : (i : ℕ) → (outcome_of p jobs i).tick ≡ outcome_tick (row_of (run p jobs).state i).fate
  unfolding row_outcome
  tick_shown i = ap (λ (o : Outcome). o.tick) (outcome_shown i)

  pub given_shown : (i : ℕ) → (outcome_of p jobs i).given ≡ given (row_of (run p jobs).state i)
  unfolding row_outcome
  given_shown i = ap (λ (o : Outcome). o.given) (outcome_shown i)

module _ {p : Picks} (l : Lawful p) (jobs : List Job) (proper : Proper jobs) where
  pub outcomes_named_lem : map (λ (o : Outcome). o.name) (run_result p jobs).outcomes ≡ map (λ (j : Job). j.name) jobs
  unfolding run_result result_of row_outcome
  outcomes_named_lem =
      map-map (λ (o : Outcome). o.name) row_outcome (run p jobs).state.rows
      ∙ sym (map-map (λ (j : Job). j.name) (λ (r : Row). r.job) (run p jobs).state.rows)
      ∙ ap (map (λ (j : Job). j.name)) (end_rows l jobs proper)

  pub spans_named_lem : (run_result p jobs).spans ≡ map (named jobs) (in_time_order p jobs)
  unfolding run_result result_of span_of
  spans_named_lem =
      map_congr_left {l = in_time_order p jobs} (λ (x : Stretch) _. ap (λ (j : Job). record { name = j.name; first = x.first; after = x.after }) (end_listed l jobs proper x.row))

  pub spans_few : length (run_result p jobs).spans ≤ 3 * length jobs
  spans_few =
      omega (
        arith,
        end_count l jobs proper,
        ap length spans_named_lem,
        length-map (in_time_order p jobs) (named jobs),
        length-reverse (run p jobs).state.stretches,
      )
