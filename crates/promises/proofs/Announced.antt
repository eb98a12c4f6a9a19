-- The rows of a list's run: before tick t they are the jobs with release below t, which a proper list has in front, in order.
-- So row i of the run is row i of the list. Rests on Jobs.
use Prim.Native.Nat.{ℕ, zero, suc, ◌+◌, ◌≤◌, ◌<◌}
use native.Mathlib.Numerals.{add-one}
use native.Mathlib.Omega.{arith}
use mathlib.Core.Path.{◌≡◌, refl, sym, ap, subst, subst₂, ◌∙◌}
use mathlib.Core.Logic.{◌≢◌}
use mathlib.Core.List.{List, [], ◌∷◌, ◌++◌, append_assoc}
use lib.Dec.{eqb}
use borrow.Author.Tests.{eqb-true, eqb-false, ne_eqb}
use Rattle.rules.specs.Choose.{choose}
use Rattle.rules.specs.Job.{Job, ProperFrom, Proper}
use Rattle.rules.specs.State.{fresh}
use Rattle.rules.specs.Picks.{Picks}
use Rattle.rules.specs.Run.{before, released_at}
use Rattle.promises.specs.RunPlan.{decided_at}
use Rattle.rules.proofs.Choose.{by_test}
use Rattle.promises.proofs.WithinTick.{Timely}
use Rattle.promises.proofs.Jobs.{jobs_of, decided_jobs, tick_jobs}

-- Every job of the list has a release before t.
abbrev pub Earlier : ℕ → List Job → Type 0
Earlier t [] = Unit {0}
Earlier t (j ∷ js) = (j.release < t) × Earlier t js

-- The jobs of a proper list so far, and the rest: releases below t, and from t on.
pub record Split (jobs : List Job) (t : ℕ) (sofar : List Job) : Type 0 where
  pub rest : List Job
  pub whole : jobs ≡ sofar ++ rest
  pub earlier : Earlier t sofar
  pub later : ProperFrom t rest

proper_since : (u t : ℕ) (js : List Job) → t ≤ u → ProperFrom u js → ProperFrom t js
proper_since u t [] h k = tt
proper_since u t (j ∷ js) h k = (omega (arith, k.0), k.1, k.2)

-- Nothing is released before the list's first release.
released_none : (u t : ℕ) (js : List Job) → t < u → ProperFrom u js → released_at js t ≡ []
unfolding released_at choose
released_none u t [] h k = refl
released_none u t (j ∷ js) h k =
    rw (ne_eqb j.release t (omega (arith, k.0)), choose) (released_none u t js h (proper_since j.release u js k.0 k.2))

released_earlier : (t : ℕ) (sofar rest : List Job) → Earlier t sofar → released_at (sofar ++ rest) t ≡ released_at rest t
unfolding released_at choose
released_earlier t [] rest k = refl
released_earlier t (j ∷ js) rest k = rw (ne_eqb j.release t (omega (arith, k.0)), choose) (released_earlier t js rest k.1)

-- Of jobs released from t on, those released at t are in front.
released_front : (t : ℕ) (js : List Job) → ProperFrom t js → (rest : List Job) × (js ≡ released_at js t ++ rest) × ProperFrom (t + 1) rest
unfolding released_at
released_front t [] k = ([], refl, tt)
released_front t (j ∷ js) k =
    by_test (λ (xs : List Job). (rest : List Job) × (j ∷ js ≡ xs ++ rest) × ProperFrom (t + 1) rest) (eqb j.release t)
    (λ q. let f = released_front t js (proper_since j.release t js k.0 k.2) in
    (f.0, ap (λ (xs : List Job). j ∷ xs) f.1, f.2))
    (λ q. let n : j.release ≢ t = eqb-false _ _ q in
    let none-now : released_at js t ≡ [] = released_none j.release t js (omega (arith, k.0)) k.2 in
    (j ∷ js, ap (λ (xs : List Job). xs ++ (j ∷ js)) (sym none-now), (omega (arith, k.0), k.1, k.2)))

earlier_released : (t : ℕ) (js : List Job) → Earlier (t + 1) (released_at js t)
unfolding released_at
earlier_released t [] = tt
earlier_released t (j ∷ js) =
    by_test (Earlier (t + 1)) (eqb j.release t) (λ q. (omega (arith, eqb-true), earlier_released t js)) (λ _. earlier_released t js)

earlier_append : (t : ℕ) (sofar more : List Job) → Earlier t sofar → Earlier (t + 1) more → Earlier (t + 1) (sofar ++ more)
earlier_append t [] more k m = m
earlier_append t (j ∷ js) more k m = (omega (arith, k.0), earlier_append t js more k.1 m)

-- What is released at t goes over from the rest to the jobs so far.
split_on : (jobs : List Job) (t : ℕ) (sofar : List Job) → Split jobs t sofar → Split jobs (t + 1) (sofar ++ released_at jobs t)
split_on jobs t sofar k =
    let now : released_at jobs t ≡ released_at k.rest t = ap (λ (js : List Job). released_at js t) k.whole ∙ released_earlier t sofar k.rest k.earlier in
    let f = released_front t k.rest k.later in
    record {
      rest = f.0;
      whole = k.whole ∙ ap (λ (js : List Job). sofar ++ js) f.1 ∙ sym (append_assoc sofar (released_at k.rest t) f.0) ∙ ap (λ (js : List Job). sofar ++ js ++ f.0) (sym now);
      earlier = earlier_append t sofar (released_at jobs t) k.earlier (earlier_released t jobs);
      later = f.2;
    }

pub released_timely : (u t : ℕ) (jobs : List Job) → ProperFrom u jobs → Timely t (released_at jobs t)
unfolding released_at
released_timely u t [] k = tt
released_timely u t (j ∷ js) k =
    by_test (Timely t) (eqb j.release t)
    (λ q. (eqb-true _ _ q, k.1, released_timely j.release t js k.2))
    (λ _. released_timely j.release t js k.2)

module _ (p : Picks) (jobs : List Job) (proper : Proper jobs) where
  pub before_split : (n : ℕ) → Split jobs n (jobs_of (before p (released_at jobs) n))
  unfolding before fresh
  before_split zero = record { rest = jobs; whole = refl; earlier = tt; later = proper }
  before_split (suc n) =
      subst₂ (λ (m : ℕ) (js : List Job). Split jobs m js) (add-one n) (sym (tick_jobs p n (released_at jobs n) (before p (released_at jobs) n)))
      (split_on jobs n _ (before_split n))

  pub decided_split : (n : ℕ) → Split jobs (n + 1) (jobs_of (decided_at p (released_at jobs) n))
  decided_split n =
      subst (Split jobs (n + 1)) (sym (decided_jobs p n (released_at jobs n) (before p (released_at jobs) n)))
      (split_on jobs n _ (before_split n))
