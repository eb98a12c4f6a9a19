-- The numbers that the ledger weighs, each read off the rows: what finished rows pay for the counted ticks, what remains of the
-- stack, and the reach; and how they change with one row, an announcement and a takeover. Rests on Reach, Sums and Wf.
use Prim.Native.Nat.{ℕ, ◌+◌, ◌*◌, ◌≤◌, ◌<◌, max}
use native.Mathlib.Omega.{arith}
use mathlib.Core.Path.{◌≡◌, refl, sym, ap, ◌∙◌}
use mathlib.Core.List.{List, [], ◌∷◌, ◌++◌, map}
use lib.Dec.{ltb}
use lib.ListN.{length, get_or, set, length-map}
use borrow.Author.Tests.{lt-ltb, le-ltb}
use Rattle.rules.specs.Choose.{choose}
use Rattle.rules.specs.Job.{Job}
use Rattle.rules.specs.State.{Fate, Row, no_row, with_fate, waiting, taken, finished, dropped}
use Rattle.rules.specs.LatestStarts.{displaced, displace}
use Rattle.promises.specs.Bound.{dropped_deadline, reach}
use Rattle.rules.proofs.Choose.{by_test}
use Rattle.promises.proofs.Rows.{get_or-displaced}
use Rattle.promises.proofs.Sums.{sum_by, sum_by_none, sum_by-set, sum_by_le, sum_by-append}
use Rattle.promises.proofs.Wf.{if_taken, waits_inside}
use Rattle.promises.proofs.Reach.{reach-set, reach-append}

-- The cost of a job that is through at u, if that is not before its deadline; else 0.
unfoldable pub late_cost : ℕ → ℕ → ℕ → ℕ
late_cost u deadline cost = choose (ltb u deadline) 0 cost

pub late_cost_none : (u d c : ℕ) → u < d → late_cost u d c ≡ 0
unfolding late_cost choose
late_cost_none u d c h = rw (lt-ltb u d h, choose)

pub late_cost_whole : (u d c : ℕ) → d ≤ u → late_cost u d c ≡ c
unfolding late_cost choose
late_cost_whole u d c h = rw (le-ltb u d h, choose)

pub late_cost-small : (u d c : ℕ) → late_cost u d c ≤ c
unfolding late_cost
late_cost-small u d c = by_test (λ (v : ℕ). v ≤ c) (ltb u d) (λ _. omega arith) (λ _. omega arith)

-- A finished job pays 3 × its cost, and 4 × its cost if it finished exactly at its deadline.
unfoldable pub pays : Fate → Job → ℕ
pays waiting j = 0
pays taken j = 0
pays (finished u) j = 3 * j.cost + late_cost u j.deadline j.cost
pays (dropped u) j = 0

unfoldable pub paid : List Row → ℕ
paid rows = sum_by (λ (r : Row). pays r.fate r.job) rows

-- What remains of a row that runs or is delayed; else 0.
unfoldable pub keeps : Fate → ℕ → ℕ
keeps waiting left = 0
keeps taken left = left
keeps (finished u) left = 0
keeps (dropped u) left = 0

-- What remains of the stack.
unfoldable pub stack_left : List Row → ℕ
stack_left rows = sum_by (λ (r : Row). keeps r.fate r.left) rows

-- Row i, whose fate was g, becomes x.
pub record Replaced (rows : List Row) (i : ℕ) (g : Fate) (x : Row) : Type 0 where
  pub pay : paid (set rows i x) + pays g (get_or rows i no_row).job ≡ paid rows + pays x.fate x.job
  pub left : stack_left (set rows i x) + keeps g (get_or rows i no_row).left ≡ stack_left rows + keeps x.fate x.left
  pub reaches : reach (set rows i x) ≤ max (reach rows) (dropped_deadline x.fate x.job)

pub replaced : (rows : List Row) (i : ℕ) (g : Fate) (x : Row) → i < length rows → (get_or rows i no_row).fate ≡ g → Replaced rows i g x
unfolding paid stack_left
replaced rows i g x h e =
    record {
      pay = ap (λ (f : Fate). paid (set rows i x) + pays f (get_or rows i no_row).job) (sym e) ∙ sum_by-set _ rows i x h;
      left = ap (λ (f : Fate). stack_left (set rows i x) + keeps f (get_or rows i no_row).left) (sym e) ∙ sum_by-set _ rows i x h;
      reaches = reach-set rows i x;
    }

-- A waiting row meets the fate f.
pub from_waiting : (rows : List Row) (i : ℕ) (f : Fate) → (get_or rows i no_row).fate ≡ waiting → Replaced rows i waiting (with_fate f (get_or rows i no_row))
from_waiting rows i f w = replaced rows i waiting (with_fate f (get_or rows i no_row)) (waits_inside rows i w) w

-- The row x is announced.
pub record Added (rows : List Row) (x : Row) : Type 0 where
  pub pay : paid (rows ++ (x ∷ [])) ≡ paid rows + pays x.fate x.job
  pub left : stack_left (rows ++ (x ∷ [])) ≡ stack_left rows + keeps x.fate x.left
  pub reaches : reach (rows ++ (x ∷ [])) ≤ max (reach rows) (dropped_deadline x.fate x.job)

pub added : (rows : List Row) (x : Row) → Added rows x
unfolding paid stack_left
added rows x = record { pay = sum_by-append _ rows x; left = sum_by-append _ rows x; reaches = reach-append rows x }

keeps_none : (f : Fate) (left : ℕ) → if_taken f ≡ 0 → keeps f left ≡ 0
unfolding keeps if_taken
keeps_none waiting left z = refl
keeps_none taken left z = absurd (omega arith)
keeps_none (finished u) left z = refl
keeps_none (dropped u) left z = refl

-- Where nothing runs or is delayed, nothing remains.
pub nothing_left : (rows : List Row) → ((j : ℕ) → if_taken (get_or rows j no_row).fate ≡ 0) → stack_left rows ≡ 0
unfolding stack_left
nothing_left rows none = sum_by_none _ no_row rows (λ j. keeps_none (get_or rows j no_row).fate (get_or rows j no_row).left (none j))

displaced-pays : (f : Fate) (j : Job) → pays f j ≤ pays (displaced f) j
unfolding displaced pays
displaced-pays waiting j = omega arith
displaced-pays taken j = omega arith
displaced-pays (finished u) j = omega arith
displaced-pays (dropped u) j = omega arith

-- A takeover takes back no pay.
pub displaced-paid : (rows : List Row) → paid rows ≤ paid (map displace rows)
unfolding paid displace
displaced-paid rows =
    sum_by_le _ _ rows (map displace rows) (sym (length-map rows displace))
    (λ j. rw (get_or-displaced rows j) (displaced-pays (get_or rows j no_row).fate (get_or rows j no_row).job))
