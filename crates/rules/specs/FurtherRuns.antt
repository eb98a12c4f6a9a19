-- Further runs, beside those of document 01: each tells the rules from one wrong reading that R0 to R11 let pass. The results
-- were worked out by a second program, written from document 01's text alone. Rests on SmallRuns.
use Rattle.std.specs.Prelude.{List, [], ◌∷◌}
use Rattle.rules.specs.SmallRuns.{SmallRun, small, job, done, drop_at, ran}

-- Among equal deadlines the first waiting job is the lowest row, not the highest.
abbrev pub tied : SmallRun
tied = small (job 1 0 1 1 ∷ job 2 0 1 6 ∷ job 3 0 1 6 ∷ []) 3 (done 1 1 1 ∷ done 2 2 1 ∷ done 3 3 1 ∷ []) (ran 1 0 1 ∷ ran 2 1 2 ∷ ran 3 2 3 ∷ [])

-- Room is cut to the offered job's laxity.
abbrev pub cut : SmallRun
cut = small (job 1 0 1 4 ∷ job 2 0 2 2 ∷ job 3 0 1 1 ∷ []) 3 (done 1 3 1 ∷ done 2 2 2 ∷ drop_at 3 0 0 ∷ []) (ran 2 0 2 ∷ ran 1 2 3 ∷ [])

-- Room falls by the offered job's remaining.
abbrev pub lowered : SmallRun
lowered = small (job 1 0 2 4 ∷ job 2 0 2 3 ∷ job 3 0 1 1 ∷ []) 4 (done 1 4 2 ∷ done 2 2 2 ∷ drop_at 3 0 0 ∷ []) (ran 2 0 2 ∷ ran 1 2 4 ∷ [])

-- The room saved with a delayed job is the present one, before it falls.
abbrev pub saved : SmallRun
saved = small (job 1 0 1 3 ∷ job 2 0 1 1 ∷ job 3 0 1 2 ∷ []) 3 (done 1 3 1 ∷ done 2 1 1 ∷ done 3 2 1 ∷ []) (ran 2 0 1 ∷ ran 3 1 2 ∷ ran 1 2 3 ∷ [])

-- The last entry put in comes out first.
abbrev pub last_in : SmallRun
last_in = small (job 1 0 1 3 ∷ job 2 0 1 2 ∷ job 3 0 1 1 ∷ []) 3 (done 1 3 1 ∷ done 2 2 1 ∷ done 3 1 1 ∷ []) (ran 3 0 1 ∷ ran 2 1 2 ∷ ran 1 2 3 ∷ [])

-- The room of a resumed job is less by the ticks since it was put in.
abbrev pub elapsed : SmallRun
elapsed = small (job 1 0 2 4 ∷ job 2 0 1 1 ∷ job 3 0 2 3 ∷ []) 3 (done 1 3 2 ∷ done 2 1 1 ∷ drop_at 3 1 0 ∷ []) (ran 2 0 1 ∷ ran 1 1 3 ∷ [])

-- The room of a resumed job is the saved one, not its laxity.
abbrev pub not_laxity : SmallRun
not_laxity = small (job 1 0 2 5 ∷ job 2 0 2 4 ∷ job 3 0 1 1 ∷ job 4 0 1 2 ∷ []) 5 (done 1 5 2 ∷ done 2 3 2 ∷ done 3 1 1 ∷ drop_at 4 1 0 ∷ []) (ran 3 0 1 ∷ ran 2 1 3 ∷ ran 1 3 5 ∷ [])

-- Held value falls by the cost of the resumed job.
abbrev pub held_falls : SmallRun
held_falls = small (job 1 0 2 3 ∷ job 2 0 1 1 ∷ job 3 0 5 6 ∷ []) 6 (drop_at 1 1 0 ∷ done 2 1 1 ∷ done 3 6 5 ∷ []) (ran 2 0 1 ∷ ran 3 1 6 ∷ [])

-- A job that starts with nothing delayed has its laxity for room.
abbrev pub laxity_at_start : SmallRun
laxity_at_start = small (job 1 0 1 1 ∷ job 2 0 1 3 ∷ job 3 1 1 2 ∷ []) 3 (done 1 1 1 ∷ done 2 3 1 ∷ done 3 2 1 ∷ []) (ran 1 0 1 ∷ ran 3 1 2 ∷ ran 2 2 3 ∷ [])

-- The waiting job's whole cost is compared, not its remaining.
abbrev pub challenger : SmallRun
challenger = small (job 1 0 5 18 ∷ job 2 1 1 2 ∷ job 3 1 13 14 ∷ job 4 1 2 16 ∷ []) 18 (done 1 18 5 ∷ drop_at 2 1 0 ∷ done 3 14 13 ∷ drop_at 4 14 0 ∷ []) (ran 1 0 1 ∷ ran 3 1 14 ∷ ran 1 14 18 ∷ [])

-- A takeover empties delayed.
abbrev pub delayed_emptied : SmallRun
delayed_emptied = small (job 1 0 1 2 ∷ job 2 0 5 5 ∷ job 3 0 1 1 ∷ []) 5 (drop_at 1 1 0 ∷ done 2 5 5 ∷ drop_at 3 0 0 ∷ []) (ran 2 0 5 ∷ [])

-- A takeover makes held value 0.
abbrev pub held_zero : SmallRun
held_zero = small (job 1 0 2 9 ∷ job 2 0 5 12 ∷ job 3 0 1 1 ∷ job 4 0 7 7 ∷ []) 12 (drop_at 1 7 0 ∷ done 2 12 5 ∷ drop_at 3 0 0 ∷ done 4 7 7 ∷ []) (ran 4 0 7 ∷ ran 2 7 12 ∷ [])

-- A takeover makes room 0.
abbrev pub room_zero : SmallRun
room_zero = small (job 1 0 1 2 ∷ job 2 0 3 3 ∷ job 3 1 1 2 ∷ []) 3 (drop_at 1 1 0 ∷ done 2 3 3 ∷ drop_at 3 1 0 ∷ []) (ran 2 0 3 ∷ [])

-- A comes before B.
abbrev pub finish_first : SmallRun
finish_first = small (job 1 0 1 3 ∷ job 2 1 1 2 ∷ []) 2 (done 1 1 1 ∷ done 2 2 1 ∷ []) (ran 1 0 1 ∷ ran 2 1 2 ∷ [])

-- B comes before C.
abbrev pub announce_first : SmallRun
announce_first = small (job 1 0 1 1 ∷ job 2 0 1 1 ∷ []) 1 (done 1 1 1 ∷ drop_at 2 0 0 ∷ []) (ran 1 0 1 ∷ [])

-- A displaced job whose latest start is now is met again in the same step.
abbrev pub met_again : SmallRun
met_again = small (job 1 0 6 6 ∷ job 2 0 13 18 ∷ job 3 0 27 32 ∷ []) 27 (drop_at 1 5 5 ∷ drop_at 2 5 0 ∷ done 3 32 27 ∷ []) (ran 1 0 5 ∷ ran 3 5 32 ∷ [])

-- A run does not end while a row is still to be announced.
abbrev pub to_come : SmallRun
to_come = small (job 1 1 1 2 ∷ []) 1 (done 1 2 1 ∷ []) (ran 1 1 2 ∷ [])

-- The first waiting job is offered once only after a finish: when it must wait, the one after it is not offered.
abbrev pub once : SmallRun
once = small (job 1 0 2 4 ∷ job 2 0 1 1 ∷ job 3 0 2 3 ∷ job 4 0 1 3 ∷ []) 3 (done 1 3 2 ∷ done 2 1 1 ∷ drop_at 3 1 0 ∷ drop_at 4 2 0 ∷ []) (ran 2 0 1 ∷ ran 1 1 3 ∷ [])

abbrev pub further_runs : List SmallRun
further_runs = tied ∷ cut ∷ lowered ∷ saved ∷ last_in ∷ elapsed ∷ not_laxity ∷ held_falls ∷ laxity_at_start ∷ challenger ∷ delayed_emptied ∷ held_zero ∷ room_zero ∷ finish_first ∷ announce_first ∷ met_again ∷ to_come ∷ once ∷ []
