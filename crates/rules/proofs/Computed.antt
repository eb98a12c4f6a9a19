-- Running the rules inside the checker: to unfold `computed` is to unfold every definition that a run goes through.
use mathlib.Core.List.{List}
use Rattle.rules.specs.Choose.{choose}
use Rattle.rules.specs.Job.{Job}
use Rattle.rules.specs.State.{fresh}
use Rattle.rules.specs.Picks.{document, up, first_of, first_waiting, lowest_due}
use Rattle.rules.specs.Announce.{start, preempt, offer_to, append, announce}
use Rattle.rules.specs.Finish.{settle_finished, go_idle, resume, offer_earlier, start_first, run_next, finish_row, finish_of}
use Rattle.rules.specs.LatestStarts.{running_cost, displaced, displace, take_over, drop_row, decide, if_found, decide_all}
use Rattle.rules.specs.Give.{stretch, one_less, give_to}
use Rattle.rules.specs.Run.{decided, released_at, all_announced, run_from, greatest_deadline, run}
use Rattle.rules.specs.Result.{Result, outcome_number, outcome_tick, value_of, value_of_rows, row_outcome, span_of, result_of, run_result}

unfoldable pub computed : List Job → Result
unfolding choose fresh up first_of first_waiting lowest_due start preempt offer_to append announce settle_finished go_idle resume offer_earlier start_first run_next finish_row finish_of running_cost displaced displace take_over drop_row decide if_found decide_all stretch one_less give_to decided released_at all_announced run_from greatest_deadline run outcome_number outcome_tick value_of value_of_rows row_outcome span_of result_of run_result
computed jobs = run_result document jobs
