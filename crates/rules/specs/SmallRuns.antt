-- The small runs R0 to R11 of document 01: each list beside its result. That the rules give these results is proved in
-- proofs/SmallRuns. Rests on Job and Result.
use Rattle.std.specs.Prelude.{ℕ, List, [], ◌∷◌}
use Rattle.rules.specs.Job.{Job}
use Rattle.rules.specs.Result.{Outcome, Span, Result}

-- name:release/cost/deadline
abbrev pub job : ℕ → ℕ → ℕ → ℕ → Job
job n r c d = record { name = n; release = r; cost = c; deadline = d }

-- name, tick of the outcome, ticks given
abbrev pub done : ℕ → ℕ → ℕ → Outcome
done n t g = record { name = n; outcome = 1; tick = t; given = g }

abbrev pub drop_at : ℕ → ℕ → ℕ → Outcome
drop_at n t g = record { name = n; outcome = 2; tick = t; given = g }

-- name, first tick, tick after the last
abbrev pub ran : ℕ → ℕ → ℕ → Span
ran n a b = record { name = n; first = a; after = b }

pub record SmallRun : Type 0 where
  pub jobs : List Job
  pub result : Result

abbrev pub small : List Job → ℕ → List Outcome → List Span → SmallRun
small js v os ss = record { jobs = js; result = record { value = v; outcomes = os; spans = ss } }

abbrev pub r0 : SmallRun
r0 = small ([]) 0 ([]) ([])

abbrev pub r1 : SmallRun
r1 = small (job 1 0 4 10 ∷ job 2 1 2 5 ∷ []) 6 (done 1 6 4 ∷ done 2 3 2 ∷ []) (ran 1 0 1 ∷ ran 2 1 3 ∷ ran 1 3 6 ∷ [])

abbrev pub r2 : SmallRun
r2 = small (job 1 0 4 10 ∷ job 2 1 6 9 ∷ []) 10 (done 1 10 4 ∷ done 2 7 6 ∷ []) (ran 1 0 1 ∷ ran 2 1 7 ∷ ran 1 7 10 ∷ [])

abbrev pub r3 : SmallRun
r3 = small (job 1 0 4 10 ∷ job 2 1 7 9 ∷ []) 4 (done 1 4 4 ∷ drop_at 2 2 0 ∷ []) (ran 1 0 4 ∷ [])

abbrev pub r4 : SmallRun
r4 = small (job 1 0 2 4 ∷ job 2 0 5 6 ∷ []) 5 (drop_at 1 3 1 ∷ done 2 6 5 ∷ []) (ran 1 0 1 ∷ ran 2 1 6 ∷ [])

abbrev pub r5 : SmallRun
r5 = small (job 1 0 2 4 ∷ job 2 0 4 5 ∷ []) 2 (done 1 2 2 ∷ drop_at 2 1 0 ∷ []) (ran 1 0 2 ∷ [])

abbrev pub r6 : SmallRun
r6 = small (job 1 0 3 8 ∷ job 2 1 2 8 ∷ []) 5 (done 1 3 3 ∷ done 2 5 2 ∷ []) (ran 1 0 3 ∷ ran 2 3 5 ∷ [])

abbrev pub r7 : SmallRun
r7 = small (job 1 0 3 3 ∷ job 2 0 2 5 ∷ []) 5 (done 1 3 3 ∷ done 2 5 2 ∷ []) (ran 1 0 3 ∷ ran 2 3 5 ∷ [])

abbrev pub r8 : SmallRun
r8 = small (job 1 0 10 30 ∷ job 2 1 3 8 ∷ job 3 2 2 9 ∷ []) 15 (done 1 15 10 ∷ done 2 4 3 ∷ done 3 6 2 ∷ []) (ran 1 0 1 ∷ ran 2 1 4 ∷ ran 3 4 6 ∷ ran 1 6 15 ∷ [])

abbrev pub r9 : SmallRun
r9 = small (job 1 0 4 20 ∷ job 2 1 2 10 ∷ job 3 1 11 13 ∷ []) 6 (done 1 6 4 ∷ done 2 3 2 ∷ drop_at 3 2 0 ∷ []) (ran 1 0 1 ∷ ran 2 1 3 ∷ ran 1 3 6 ∷ [])

abbrev pub r10 : SmallRun
r10 = small (job 1 0 4 20 ∷ job 2 1 2 10 ∷ job 3 1 13 15 ∷ []) 17 (done 1 18 4 ∷ drop_at 2 9 1 ∷ done 3 15 13 ∷ []) (ran 1 0 1 ∷ ran 2 1 2 ∷ ran 3 2 15 ∷ ran 1 15 18 ∷ [])

abbrev pub r11 : SmallRun
r11 = small (job 1 0 2 3 ∷ job 2 0 5 6 ∷ job 3 0 11 12 ∷ []) 11 (drop_at 1 2 1 ∷ drop_at 2 1 0 ∷ done 3 12 11 ∷ []) (ran 1 0 1 ∷ ran 3 1 12 ∷ [])

abbrev pub small_runs : List SmallRun
small_runs = r0 ∷ r1 ∷ r2 ∷ r3 ∷ r4 ∷ r5 ∷ r6 ∷ r7 ∷ r8 ∷ r9 ∷ r10 ∷ r11 ∷ []
