-- The induction over a run, for any announcements: what holds of a fresh state, is kept by every sub-step and by D, holds
-- before and after the decisions of every tick. A later invariant is one `Kept` (or `KeptAlong`) and nothing else. Rests on Fuel.
use Prim.Native.Nat.{ℕ, zero, suc, ◌+◌}
use native.Mathlib.Numerals.{add-one}
use native.Mathlib.Omega.{arith}
use mathlib.Core.Path.{refl, subst}
use mathlib.Core.List.{List}
use Rattle.rules.specs.Job.{Job}
use Rattle.rules.specs.State.{State, fresh}
use Rattle.rules.specs.Picks.{Picks}
use Rattle.rules.specs.Give.{give}
use Rattle.rules.specs.Run.{tick, before}
use Rattle.promises.specs.RunPlan.{decided_at}
use Rattle.promises.specs.Lawful.{Lawful}
use Rattle.promises.proofs.Rows.{finished_not_waiting}
use Rattle.promises.proofs.Sums.{sum_by}
use Rattle.promises.proofs.Stack.{rows_of, stack_of}
use Rattle.promises.proofs.Steps.{Phase, opening, deciding, Step, NothingDue}
use Rattle.promises.proofs.Wf.{if_taken, Wf}
use Rattle.promises.proofs.WfGiven.{give_wf}
use Rattle.promises.proofs.WithinTick.{Met, met_wf, met_keeps, Timely, decided_met}
use Rattle.promises.proofs.Fuel.{nothing_due}

-- What it takes for Q to hold at every point: see Steps for the sub-steps. D comes when nothing is due.
pub record Kept (Q : Phase → ℕ → State → Type 0) : Type 0 where
  pub begins : Q opening 0 fresh
  pub steps : {t : ℕ} {ph ph' : Phase} {s s' : State} → Wf ph t s → Q ph t s → Step t ph s ph' s' → Q ph' t s'
  pub gives : {t : ℕ} {s : State} → Wf deciding t s → NothingDue t s.rows → Q deciding t s → Q opening (t + 1) (give t s)

-- The same for one run, where Q may speak of that run itself: D is asked only where it comes to D.
pub record KeptAlong (p : Picks) (released : ℕ → List Job) (Q : Phase → ℕ → State → Type 0) : Type 0 where
  pub begins : Q opening 0 fresh
  pub steps : {t : ℕ} {ph ph' : Phase} {s s' : State} → Wf ph t s → Q ph t s → Step t ph s ph' s' → Q ph' t s'
  pub gives : (n : ℕ) → Q deciding n (decided_at p released n) → Q opening (n + 1) (give n (decided_at p released n))

fresh_wf : Wf opening 0 fresh
unfolding fresh sum_by rows_of stack_of if_taken
fresh_wf =
    record {
      proc = record { nothing_delayed = refl; nothing_waits = λ j q. finished_not_waiting q };
      offer = tt;
      row = λ j. record { within = omega arith; window = omega arith; since = omega arith; fate = omega arith };
      once = λ j. refl;
      held = refl;
    }

module _ {p : Picks} (l : Lawful p) (released : ℕ → List Job) (timely : (t : ℕ) → Timely t (released t)) where
  pub before_wf : (n : ℕ) → Wf opening n (before p released n)
  unfolding before tick
  before_wf zero = fresh_wf
  before_wf (suc n) =
      let w : Wf opening n (before p released n) = before_wf n in
      subst (λ (k : ℕ). Wf opening k (give n (decided_at p released n))) (add-one n)
      (give_wf (met_wf w (decided_met l w (released n) (timely n))) (nothing_due l w (released n) (timely n)))

  pub decided_at_met : (n : ℕ) → Met n (before p released n) deciding (decided_at p released n)
  decided_at_met n = decided_met l (before_wf n) (released n) (timely n)

  pub decided_at_wf : (n : ℕ) → Wf deciding n (decided_at p released n)
  decided_at_wf n = met_wf (before_wf n) (decided_at_met n)

  pub nothing_due_at : (n : ℕ) → NothingDue n (decided_at p released n).rows
  nothing_due_at n = nothing_due l (before_wf n) (released n) (timely n)

  -- What is kept along the run holds before every tick, and after its decisions.
  along_within : (Q : Phase → ℕ → State → Type 0) → KeptAlong p released Q → (n : ℕ) → Q opening n (before p released n) → Q deciding n (decided_at p released n)
  along_within Q k n q =
      met_keeps (λ (ph : Phase) (s : State). Q ph n s) (record { steps = λ w' q' x. k.steps w' q' x }) (before_wf n) q (decided_at_met n)

  pub along : (Q : Phase → ℕ → State → Type 0) → KeptAlong p released Q → (n : ℕ) → Q opening n (before p released n)
  unfolding before tick
  along Q k zero = k.begins
  along Q k (suc n) =
      subst (λ (m : ℕ). Q opening m (give n (decided_at p released n))) (add-one n) (k.gives n (along_within Q k n (along Q k n)))

  pub along_decided : (Q : Phase → ℕ → State → Type 0) → KeptAlong p released Q → (n : ℕ) → Q deciding n (decided_at p released n)
  along_decided Q k n = along_within Q k n (along Q k n)

  kept_along : (Q : Phase → ℕ → State → Type 0) → Kept Q → KeptAlong p released Q
  kept_along Q k =
      record {
        begins = k.begins;
        steps = λ w q x. k.steps w q x;
        gives = λ n q. k.gives (decided_at_wf n) (nothing_due_at n) q;
      }

  pub always : (Q : Phase → ℕ → State → Type 0) → Kept Q → (n : ℕ) → Q opening n (before p released n)
  always Q k = along Q (kept_along Q k)

  pub always_decided : (Q : Phase → ℕ → State → Type 0) → Kept Q → (n : ℕ) → Q deciding n (decided_at p released n)
  always_decided Q k = along_decided Q (kept_along Q k)
