-- What is counted, along any run: while a row is pending the processor is busy, and from its drop on the ticks before its deadline
-- are below the reach. So the ticks of a row's window are counted up to its finish, or to its deadline. Rests on Always and Reach.
use Prim.Native.Nat.{ℕ, ◌+◌, ◌≤◌, ◌<◌, min}
use native.Mathlib.Omega.{arith}
use mathlib.Core.Path.{◌≡◌, refl, ap}
use mathlib.Core.Logic.{◌≢◌}
use mathlib.Core.Bool.{Bool, true, false}
use mathlib.Core.List.{List, [], ◌∷◌, ◌++◌, map}
use lib.ListN.{length, get_or}
use borrow.Author.Tests.{ltb-false, lt-ltb}
use Rattle.rules.specs.Job.{Job}
use Rattle.rules.specs.State.{Fate, Row, Proc, State, fresh, no_row, row_of, with_fate, mark, waiting, taken, finished, dropped, idle, running}
use Rattle.rules.specs.Picks.{Picks}
use Rattle.rules.specs.Announce.{start, preempt, append}
use Rattle.rules.specs.Finish.{settle_finished, go_idle, resume}
use Rattle.rules.specs.LatestStarts.{displaced, displace, take_over, drop_row}
use Rattle.rules.specs.Give.{one_less, give_to}
use Rattle.promises.specs.RunPlan.{decided_at}
use Rattle.promises.specs.Lawful.{Waits, IsFirst, Lawful}
use Rattle.promises.specs.Bound.{dropped_deadline, reach, counts, counted, is_early}
use Rattle.promises.proofs.Rows.{at_and_beside, all_set, set_keeps, all_append, get_or-displaced, displaced_waits}
use Rattle.promises.proofs.Steps.{Phase, opening, deciding, Step, rests, runs_on, idles, starts_first, resumes, resumes_offering, starts, preempts, waits_on, appears, decides, takes_over, is_dropped}
use Rattle.promises.proofs.Wf.{fate_ok, if_taken, Wf, resting, waits_inside, running_inside, running_taken, idle_not_taken}
use Rattle.promises.proofs.WithinTick.{Timely}
use Rattle.promises.proofs.Always.{KeptAlong, decided_at_wf, along_decided}
use Rattle.promises.proofs.FirstHalf.{LateCovered}
use Rattle.promises.proofs.Reach.{reach_covers}

-- Up to where, before tick t, the ticks of a row's window are counted: up to t while it is pending, up to its finish, or up to
-- its deadline if it is dropped.
unfoldable until : ℕ → Fate → Job → ℕ
until t waiting j = t
until t taken j = t
until t (finished u) j = u
until t (dropped u) j = min t j.deadline

until-displaced : (t : ℕ) (f : Fate) (j : Job) → until t (displaced f) j ≤ until t f j
unfolding until displaced
until-displaced t waiting j = omega arith
until-displaced t taken j = omega arith
until-displaced t (finished u) j = omega arith
until-displaced t (dropped u) j = omega arith

-- One tick on, tick t alone comes in.
until_later : (t : ℕ) (f : Fate) (j : Job) (s : ℕ) → s ≢ t → s < until (t + 1) f j → s < until t f j
unfolding until
until_later t waiting j s n h = omega arith
until_later t taken j s n h = omega arith
until_later t (finished u) j s n h = h
until_later t (dropped u) j s n h = omega arith

-- Of a row's window, the ticks up to there pass the test.
abbrev Window : (ℕ → Bool) → ℕ → Row → Type 0
Window test t r = (s : ℕ) → r.job.release ≤ s → s < until t r.fate r.job → test s ≡ true

record Windows (test : ℕ → Bool) (t : ℕ) (rows : List Row) : Type 0 where
  row : (j : ℕ) → Window test t (get_or rows j no_row)

module _ {test : ℕ → Bool} {t : ℕ} where
  -- Row i, whose fate was g, meets the fate f.
  mark_windows : (rows : List Row) (i : ℕ) (g f : Fate) → (get_or rows i no_row).fate ≡ g → i < length rows
      → until t f (get_or rows i no_row).job ≤ until t g (get_or rows i no_row).job → Windows test t rows → Windows test t (mark i f rows)
  mark_windows rows i g f e h le q =
      record {
        row = all_set (λ (j : ℕ) (r : Row). Window test t r) rows i (with_fate f (get_or rows i no_row)) h
            (λ s a b. q.row i s a (omega (arith, ap (λ (x : Fate). until t x (get_or rows i no_row).job) e)))
            (λ j n. q.row j);
      }

  taken_windows : (rows : List Row) (i : ℕ) → Waits rows i → Windows test t rows → Windows test t (mark i taken rows)
  unfolding until
  taken_windows rows i w = mark_windows rows i waiting taken w (waits_inside rows i w) (omega arith)

  finished_windows : {r : ℕ} {s : State} → Wf opening t s → s.proc ≡ running r → Windows test t s.rows → Windows test t (settle_finished t r s).rows
  unfolding until settle_finished
  finished_windows {r} {s} w e = mark_windows s.rows r taken (finished t) (running_taken w e) (running_inside w e) (omega arith)

  dropped_windows : (rows : List Row) (i : ℕ) → Waits rows i → Windows test t rows → Windows test t (mark i (dropped t) rows)
  unfolding until
  dropped_windows rows i w = mark_windows rows i waiting (dropped t) w (waits_inside rows i w) (omega arith)

  append_windows : (rows : List Row) (j : Job) → j.release ≡ t → Windows test t rows
      → Windows test t (rows ++ (record { job = j; left = j.cost; fate = waiting } ∷ []))
  unfolding until
  append_windows rows j released q =
      record {
        row = all_append (λ (i : ℕ) (r : Row). Window test t r) rows _ (λ s a b. absurd (omega arith)) (λ i n. q.row i);
      }

  displaced_windows : (rows : List Row) → Windows test t rows → Windows test t (map displace rows)
  unfolding displace
  displaced_windows rows q =
      record {
        row = λ j. rw (get_or-displaced rows j)
            (λ s a b. q.row j s a (omega (arith, until-displaced t (get_or rows j no_row).fate (get_or rows j no_row).job)));
      }

windows_step : {test : ℕ → Bool} {t : ℕ} {ph ph' : Phase} {s s' : State} → Wf ph t s → Windows test t s.rows → Step t ph s ph' s' → Windows test t s'.rows
unfolding go_idle start preempt append take_over drop_row resume IsFirst
windows_step w q (rests e) = q
windows_step w q (runs_on e u) = q
windows_step w q (idles e z d none) = finished_windows w e q
windows_step w q (starts_first i e z d f) = taken_windows _ i f.0 (finished_windows w e q)
windows_step w q (resumes e z d later) = finished_windows w e q
windows_step w q (resumes_offering e z d f earlier) = finished_windows w e q
windows_step w q (starts {s} {i} e) = taken_windows s.rows i w.offer q
windows_step w q (preempts {s} {i = i} e earlier roomy) = taken_windows s.rows i w.offer q
windows_step w q (waits_on e later) = q
windows_step w q (appears {s} j released feasible) = append_windows s.rows j released q
windows_step w q (decides) = q
windows_step w q (takes_over {s} i e due costly) = taken_windows (map displace s.rows) i (displaced_waits s.rows i due.0) (displaced_windows s.rows q)
windows_step w q (is_dropped {s} i e due cheap) = dropped_windows s.rows i due.0 q

-- Step D: no row's fate or job changes,
give_windows : {test : ℕ → Bool} {t : ℕ} (p : Proc) (u : ℕ) (s : State) → Windows test t s.rows → Windows test t (give_to p u s).rows
unfolding give_to one_less
give_windows idle u s q = q
give_windows (running r) u s q =
    let x : Row = one_less (row_of s r) in
    record { row = λ j. rw (set_keeps (λ (y : Row). y.fate) s.rows r x refl j, set_keeps (λ (y : Row). y.job) s.rows r x refl j) (q.row j) }

-- and the windows go on by tick t, if it passes the test where it is in one.
later_windows : {test : ℕ → Bool} {t : ℕ} {rows : List Row}
    → ((j : ℕ) → t < until (t + 1) (get_or rows j no_row).fate (get_or rows j no_row).job → test t ≡ true)
    → Windows test t rows → Windows test (t + 1) rows
later_windows {test} {t} {rows} now q =
    record {
      row = λ j.
          at_and_beside (λ (s : ℕ). (get_or rows j no_row).job.release ≤ s → s < until (t + 1) (get_or rows j no_row).fate (get_or rows j no_row).job → test s ≡ true) t
          (λ _. now j)
          (λ s n a b. q.row j s a (until_later t (get_or rows j no_row).fate (get_or rows j no_row).job s n b));
    }

-- It is counted there: a pending row keeps the processor busy, and a dropped row's deadline is within the reach.
module _ {t : ℕ} {s : State} (w : Wf deciding t s) where
  idle_counts : s.proc ≡ idle → (j : ℕ) (f : Fate) → (row_of s j).fate ≡ f → t < until (t + 1) f (row_of s j).job → t < reach s.rows
  unfolding until if_taken dropped_deadline
  idle_counts e j waiting q h = absurd ((resting w e).nothing_waits j q)
  idle_counts e j taken q h = absurd (omega (arith, idle_not_taken w e j, ap if_taken q))
  idle_counts e j (finished u) q h = absurd (omega (arith, fate_ok (w.row j) q))
  idle_counts e j (dropped u) q h =
      omega (arith, reach_covers s.rows j, ap (λ (f : Fate). dropped_deadline f (row_of s j).job) q)

  tick-counts : (p : Proc) → s.proc ≡ p → (j : ℕ) → t < until (t + 1) (row_of s j).fate (row_of s j).job → counts t p s.rows ≡ true
  unfolding counts
  tick-counts idle e j h = lt-ltb t (reach s.rows) (idle_counts e j _ refl h)
  tick-counts (running r) e j h = refl

-- Once the deadline is past, a row that did not finish early has its whole window counted.
until_late : (t : ℕ) (f : Fate) (j : Job) → is_early f j ≡ false → j.deadline ≤ t → j.deadline ≤ until t f j
unfolding until is_early
until_late t waiting j e h = h
until_late t taken j e h = h
until_late t (finished u) j e h = ltb-false _ _ e
until_late t (dropped u) j e h = omega arith

abbrev WindowsAlong : Picks → (ℕ → List Job) → Phase → ℕ → State → Type 0
WindowsAlong p released ph t s = Windows (counted p released) t s.rows

module _ {p : Picks} (l : Lawful p) (released : ℕ → List Job) (timely : (t : ℕ) → Timely t (released t)) where
  windows_kept : KeptAlong p released (WindowsAlong p released)
  unfolding until counted fresh
  windows_kept =
      record {
        begins = record { row = λ j s a b. absurd (omega arith) };
        steps = windows_step;
        gives = λ n q. give_windows (decided_at p released n).proc n (decided_at p released n) (later_windows (tick-counts (decided_at_wf l released timely n) _ refl) q);
      }

  pub late_covered : (n : ℕ) (j : ℕ) → (row_of (decided_at p released n) j).job.deadline ≤ n → LateCovered (counted p released) (row_of (decided_at p released n) j)
  late_covered n j h late s a b =
      (along_decided l released timely (WindowsAlong p released) windows_kept n).row j s a
      (omega (arith, until_late n (row_of (decided_at p released n) j).fate (row_of (decided_at p released n) j).job late h))
