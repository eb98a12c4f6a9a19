-- Step C ends. Each decision lowers a count of at most two for each row, so twice the rows are decisions enough, and after C
-- nothing is due. Rests on WithinTick and Sums.
use Prim.Native.Nat.{ℕ, zero, suc, ◌+◌, ◌*◌, ◌≤◌, ◌<◌}
use native.Mathlib.Omega.{arith}
use mathlib.Core.Path.{◌≡◌, refl, sym, ap, subst, ◌∙◌}
use mathlib.Core.List.{List, map}
use lib.Dec.{ltb}
use lib.ListN.{length, get_or, set, length-set, length-map}
use lib.Seq.{get_or-set_same}
use borrow.Author.Tests.{ltb-true, lt-ltb, le-ltb}
use Rattle.rules.specs.Choose.{choose}
use Rattle.rules.specs.Job.{Job}
use Rattle.rules.specs.State.{Fate, Row, Proc, State, no_row, row_of, cost_of, latest_start, with_fate, mark, waiting, taken, finished, dropped, idle, running}
use Rattle.rules.specs.Picks.{Picks}
use Rattle.rules.specs.Announce.{announce}
use Rattle.rules.specs.Finish.{finish}
use Rattle.rules.specs.LatestStarts.{running_cost, displaced, displace, take_over, drop_row, decide, decide_all}
use Rattle.rules.specs.Run.{decided}
use Rattle.promises.specs.Lawful.{Due, Lawful}
use Rattle.rules.proofs.Choose.{by_test}
use Rattle.promises.proofs.Rows.{all_set, Same, same-mark, get_or-displaced, same-displaced}
use Rattle.promises.proofs.Sums.{sum_by, sum_by-set, sum_by_part, sum_by-bound, sum_by_less}
use Rattle.promises.proofs.RowNumbers.{same, same_eq, same-small}
use Rattle.promises.proofs.Steps.{opening, deciding, NothingDue}
use Rattle.promises.proofs.Wf.{Wf, resting, waits_inside, taken_cost}
use Rattle.promises.proofs.WithinTick.{Met, met_wf, Timely, if_found_lem, decide_met, announced_met}

-- How many decisions a row may still cause while a job of cost c runs, by its fate, its cost, and 1 or 0 for being due: one
-- for a pending row that is due, and one more if it waits and costs more than c.
unfoldable turn_of : Fate → ℕ → ℕ → ℕ → ℕ
turn_of waiting c cost due = due + choose (ltb c cost) due 0
turn_of taken c cost due = due
turn_of (finished u) c cost due = 0
turn_of (dropped u) c cost due = 0

unfoldable turn : ℕ → ℕ → Row → ℕ
turn t c r = turn_of r.fate c r.job.cost (same (latest_start r) t)

-- The count: of all rows, with the cost of the job that runs.
unfoldable turns : ℕ → State → ℕ
turns t s = sum_by (turn t (running_cost s s.proc)) s.rows

turn_of-small : (f : Fate) (c cost due : ℕ) → due ≤ 1 → turn_of f c cost due ≤ 2
unfolding turn_of
turn_of-small waiting c cost due h = by_test (λ (n : ℕ). due + n ≤ 2) (ltb c cost) (λ _. omega arith) (λ _. omega arith)
turn_of-small taken c cost due h = omega arith
turn_of-small (finished u) c cost due h = omega arith
turn_of-small (dropped u) c cost due h = omega arith

-- A takeover by a job that costs at least c': no row's turns rise.
turn_of-displaced : (f : Fate) (c c' cost due : ℕ) → c ≤ c' → (f ≡ taken → cost ≤ c') → turn_of (displaced f) c' cost due ≤ turn_of f c cost due
unfolding turn_of displaced choose
turn_of-displaced waiting c c' cost due h k =
    by_test (λ (n : ℕ). due + n ≤ due + choose (ltb c cost) due 0) (ltb c' cost)
    (λ q. rw (lt-ltb c cost (omega (arith, ltb-true)), choose) (omega arith))
    (λ _. omega arith)
turn_of-displaced taken c c' cost due h k = rw (le-ltb c' cost (k refl), choose) (omega arith)
turn_of-displaced (finished u) c c' cost due h k = omega arith
turn_of-displaced (dropped u) c c' cost due h k = omega arith

-- A row that is due has a turn, and two if it costs more than c.
due_turn : (t c : ℕ) (rows : List Row) (i : ℕ) → Due t rows i → 1 ≤ turn t c (get_or rows i no_row)
unfolding turn turn_of
due_turn t c rows i due =
    subst (λ (f : Fate). 1 ≤ turn_of f c (get_or rows i no_row).job.cost (same (latest_start (get_or rows i no_row)) t)) (sym due.0)
    (omega (arith, same_eq _ _ due.1))

due_turns : (t c : ℕ) (rows : List Row) (i : ℕ) → Due t rows i → c < (get_or rows i no_row).job.cost → turn t c (get_or rows i no_row) ≡ 2
unfolding turn turn_of choose
due_turns t c rows i due h =
    let d : same (latest_start (get_or rows i no_row)) t ≡ 1 = same_eq _ _ due.1 in
    ap (λ (f : Fate). turn_of f c (get_or rows i no_row).job.cost (same (latest_start (get_or rows i no_row)) t)) due.0
    ∙ rw (lt-ltb c (get_or rows i no_row).job.cost h, choose) (omega arith)

module _ {t r : ℕ} {s : State} (w : Wf deciding t s) (e : s.proc ≡ running r) (i : ℕ) (due : Due t s.rows i) where
  drop_row_falls : turns t (drop_row t i s) < turns t s
  unfolding turns drop_row running_cost turn turn_of
  drop_row_falls =
      let c : ℕ = cost_of s r in
      let m : Same s.rows (mark i (dropped t) s.rows) r = same-mark s.rows i (dropped t) r in
      let now : running_cost s s.proc ≡ c = ap (running_cost s) e in
      let still : running_cost (drop_row t i s) s.proc ≡ c = ap (running_cost (drop_row t i s)) e ∙ m.cost in
      rw (now, still) (omega (
        arith,
        due_turn t c s.rows i due,
        sum_by-set (turn t c) s.rows i (with_fate (dropped t) (row_of s i)) (waits_inside s.rows i due.0),
      ))

  take_over_falls : 2 * (cost_of s r + s.held) < cost_of s i → turns t (take_over i s) < turns t s
  unfolding turns take_over running_cost turn turn_of displace
  take_over_falls costly =
      let c : ℕ = cost_of s r in
      let c' : ℕ = cost_of s i in
      let rows : List Row = map displace s.rows in
      let x : Row = with_fate taken (get_or rows i no_row) in
      let h : i < length rows = rw length-map (waits_inside s.rows i due.0) in
      let now : running_cost s s.proc ≡ c = ap (running_cost s) e in
      let still : (get_or (set rows i x) i no_row).job.cost ≡ c' = (same-mark rows i taken i).cost ∙ (same-displaced s.rows i).cost in
      let two : turn t c (row_of s i) ≡ 2 = due_turns t c s.rows i due (omega arith) in
      let one : turn t c' x ≤ 1 = same-small (latest_start x) t in
      rw (now, still)
      (sum_by_less (turn t c') (turn t c) (set rows i x) s.rows (length-set rows i x ∙ length-map s.rows displace)
      (all_set (λ (j : ℕ) (y : Row). turn t c' y ≤ turn t c (row_of s j)) rows i x h (omega arith)
      (λ j n. subst (λ (y : Row). turn t c' y ≤ turn t c (row_of s j)) (sym (get_or-displaced s.rows j))
      (turn_of-displaced (row_of s j).fate c c' (cost_of s j) (same (latest_start (row_of s j)) t) (omega arith)
      (λ f. omega (arith, taken_cost w e j f)))))
      i (rw length-set h) (omega (arith, ap (turn t c') (get_or-set_same rows i x no_row h))))

-- Each decision lowers the count.
decide_falls : {t : ℕ} {s : State} → Wf deciding t s → (i : ℕ) → Due t s.rows i → (p : Proc) → s.proc ≡ p → turns t (decide t i s) < turns t s
unfolding decide running_cost
decide_falls w i due idle e = absurd ((resting w e).nothing_waits i due.0)
decide_falls {t} {s} w i due (running r) e =
    let c : running_cost s s.proc ≡ cost_of s r = ap (running_cost s) e in
    by_test (λ (s' : State). turns t s' < turns t s) (ltb (2 * (running_cost s s.proc + s.held)) (cost_of s i))
    (λ q. take_over_falls w e i due (omega (arith, ltb-true)))
    (λ q. drop_row_falls w e i due)

-- With as many decisions as the count, nothing is due in the end.
decide_all_ends : {p : Picks} → Lawful p → {t : ℕ} {opened s : State} → Wf opening t opened → Met t opened deciding s
    → (k : ℕ) → turns t s ≤ k → NothingDue t (decide_all p k t s).rows
unfolding decide_all turns
decide_all_ends l {t} {s = s} w m zero h =
    let c : ℕ = running_cost s s.proc in
    λ j due. omega (arith, due_turn t c s.rows j due, sum_by_part (turn t c) s.rows j (waits_inside s.rows j due.0))
decide_all_ends {p} l {t} {s = s} w m (suc k) h =
    if_found_lem (λ (s' : State). NothingDue t s'.rows) (λ i. decide_all p k t (decide t i s)) (λ n. n)
    (λ i due. decide_all_ends l {s = decide t i s} w (decide_met l w i due m) k (omega (arith, decide_falls (met_wf w m) i due s.proc refl)))
    (p.next t s.rows)
    (l.next t s.rows)

-- After C nothing is due.
pub nothing_due : {p : Picks} → Lawful p → {t : ℕ} {opened : State} → Wf opening t opened → (js : List Job) → Timely t js
    → NothingDue t (decided p t js opened).rows
unfolding decided turns turn
nothing_due {p} l {t} {opened} w js k =
    decide_all_ends l w (announced_met l w js k) _
    (sum_by-bound (turn t _) 2 (λ r. turn_of-small r.fate _ r.job.cost _ (same-small (latest_start r) t)) (announce t js (finish p t opened)).rows)
