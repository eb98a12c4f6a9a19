-- The 4 of demand 3 cannot be made 3.9: a list of thirteen jobs, and a plan for it that earns 1,256 where the run's value is 319.
-- That it does is proved in proofs/FourIsNeeded. Rests on SmallPlans.
use Rattle.std.specs.Prelude.{List, [], ◌∷◌}
use Rattle.rules.specs.Job.{Job}
use Rattle.rules.specs.SmallRuns.{job}
use Rattle.promises.specs.Plan.{Plan}
use Rattle.promises.specs.SmallPlans.{up_to, in_shares}

-- Jobs 1, 3, 5, 7, 9 and 11 are a chain without slack: each is released at the last tick of the one before and costs one more than twice
-- as much, so it takes over. Beside each stands a filler without slack that costs one tick less: it is dropped. So is job 13,
-- released at the last tick of the chain, which costs exactly twice as much as job 11. The run finishes job 11 alone.
abbrev pub chain : List Job
chain =
    job 1 0 9 9 ∷ job 2 0 8 8 ∷
    job 3 8 19 27 ∷ job 4 8 18 26 ∷
    job 5 26 39 65 ∷ job 6 26 38 64 ∷
    job 7 64 79 143 ∷ job 8 64 78 142 ∷
    job 9 142 159 301 ∷ job 10 142 158 300 ∷
    job 11 300 319 619 ∷ job 12 300 318 618 ∷
    job 13 618 638 1256 ∷ []

-- The plan that finishes every filler and the last job. (Rows count from 0.)
abbrev pub fillers : Plan
fillers = in_shares (up_to 8 1 ∷ up_to 26 3 ∷ up_to 64 5 ∷ up_to 142 7 ∷ up_to 300 9 ∷ up_to 618 11 ∷ up_to 1256 12 ∷ [])
