-- The stretches of a run: none is empty, they ascend and do not overlap, those that touch are of different rows, all end by the
-- present tick and name announced rows, and each row's ticks given are the sum of its stretches' lengths. Rests on End and Carried.
use Prim.Native.Nat.{ℕ, ◌+◌, ◌-◌, ◌≤◌, ◌<◌}
use native.Mathlib.Omega.{arith}
use native.Mathlib.Decide.{dec_lt}
use mathlib.Core.Path.{◌≡◌, refl, sym, ap, subst, ◌∙◌}
use mathlib.Core.Bool.{Bool, true, false}
use mathlib.Core.List.{List, [], ◌∷◌, reverse, reverse_aux}
use lib.Dec.{eqb}
use lib.ListN.{length, get_or, get_or-eq_default}
use borrow.Author.Tests.{eqb-true, eqb-false, eq-eqb}
use mathlib.Core.Option.{some}
use Rattle.rules.specs.Choose.{choose}
use Rattle.rules.specs.Job.{Job, Proper}
use Rattle.rules.specs.State.{Row, Proc, Stretch, State, fresh, no_row, given, idle, running}
use Rattle.rules.specs.Picks.{Picks}
use Rattle.rules.specs.Give.{stretch, give_to}
use Rattle.rules.specs.Run.{before, run}
use Rattle.promises.specs.Plan.{goes_to}
use Rattle.promises.specs.RunPlan.{running_row}
use Rattle.promises.specs.Lawful.{Lawful}
use Rattle.promises.specs.Stretches.{StretchOk, Precedes, ToFirst, InOrder, length_for, ticks_in}
use Rattle.rules.proofs.Choose.{by_test, by_both}
use Rattle.promises.proofs.RowNumbers.{same, same_self}
use Rattle.promises.proofs.Steps.{Phase, deciding, Step}
use Rattle.promises.proofs.Wf.{Wf}
use Rattle.promises.proofs.WithinTick.{Timely}
use Rattle.promises.proofs.Always.{Kept, always}
use Rattle.promises.proofs.Carried.{step_carries, step_stretches, give_to-given}
use Rattle.promises.proofs.End.{end_kept}

abbrev pub Follows : Stretch → Stretch → Type 0
Follows y x = Precedes x y

-- Stretches in time order (R is Precedes) or newest first (R is Follows), at tick t.
pub record StretchesOk (R : Stretch → Stretch → Type 0) (t : ℕ) (rows : List Row) (xs : List Stretch) : Type 0 where
  pub order : InOrder R t (length rows) xs
  pub ticks : (j : ℕ) → given (get_or rows j no_row) ≡ ticks_in j xs

-- Only an announced row has had ticks.
given_outside : (rows : List Row) (j : ℕ) → length rows ≤ j → given (get_or rows j no_row) ≡ 0
given_outside rows j h = ap given (get_or-eq_default rows no_row h)

given_inside : (rows : List Row) (j : ℕ) → 1 ≤ given (get_or rows j no_row) → j < length rows
given_inside rows j h = which (dec_lt j (length rows))
  where
    which : Dec (j < length rows) → j < length rows
    which (yes i) = i
    which (no n) = absurd (omega (arith, given_outside rows j (omega arith)))

length_for_own : (x : Stretch) → length_for x.row x ≡ x.after - x.first
unfolding length_for choose
length_for_own x = rw (eq-eqb x.row x.row refl, choose)

-- Time goes on and the rows change, but the stretches are still of rows that have had ticks.
order_keeps : (t t' n : ℕ) (rows : List Row) (xs : List Stretch) → t ≤ t' → ((j : ℕ) → ticks_in j xs ≤ given (get_or rows j no_row))
    → InOrder Follows t n xs → InOrder Follows t' (length rows) xs
unfolding ticks_in
order_keeps t t' n rows [] h had k = tt
order_keeps t t' n rows (x ∷ xs) h had k =
    let ok : StretchOk t n x = k.0 in
    let some-tick : 1 ≤ given (get_or rows x.row no_row) = omega (arith, had x.row, length_for_own x) in (
      record { not_empty = ok.not_empty; past = omega arith; named = given_inside rows x.row some-tick },
      k.1,
      order_keeps t t' n rows xs h (λ j. omega (arith, had j)) k.2,
    )

-- While no row is given a tick, all stays well.
rows_keep : {t : ℕ} {rows : List Row} {xs : List Stretch} (t' : ℕ) (rows' : List Row) → t ≤ t' → StretchesOk Follows t rows xs
    → ((j : ℕ) → given (get_or rows' j no_row) ≡ given (get_or rows j no_row)) → StretchesOk Follows t' rows' xs
rows_keep {t} {rows} {xs} t' rows' h k same-given =
    record {
      order = order_keeps t t' (length rows) rows' xs h (λ j. omega (arith, same-given j, k.ticks j)) k.order;
      ticks = λ j. same-given j ∙ k.ticks j;
    }

abbrev Stretched : Phase → ℕ → State → Type 0
Stretched ph t s = StretchesOk Follows t s.rows s.stretches

stretched_step : {t : ℕ} {ph ph' : Phase} {s s' : State} → Wf ph t s → Stretched ph t s → Step t ph s ph' s' → Stretched ph' t s'
stretched_step {t} {s' = s'} w q x =
    subst (StretchesOk Follows t s'.rows) (sym (step_stretches x)) (rows_keep t s'.rows (omega arith) q (step_carries x).given)

-- Where a stretch ends does not matter to the one before it.
grown_follows : (x y : Stretch) (xs : List Stretch) → x.row ≡ y.row → x.first ≡ y.first → ToFirst Follows x xs → ToFirst Follows y xs
grown_follows x y [] e f k = tt
grown_follows x y (z ∷ zs) e f k =
    record { apart = omega (arith, k.apart); longest = λ touch q. k.longest (touch ∙ sym f) (q ∙ sym e) }

length_for_empty : (t r j : ℕ) → length_for j (record { row = r; first = t; after = t }) ≡ 0
unfolding length_for
length_for_empty t r j = by_test (λ (n : ℕ). n ≡ 0) (eqb r j) (λ _. omega arith) (λ _. refl)

-- A stretch that grows by a tick has one tick more of its row's.
length_for_grown : (b : Bool) (m n : ℕ) → m ≡ n + 1 → choose b m 0 ≡ choose b n 0 + choose b 1 0
unfolding choose
length_for_grown true m n e = e
length_for_grown false m n e = refl

-- D: row r is given tick t.
module _ (t r : ℕ) (rows rows' : List Row) (more : (j : ℕ) → given (get_or rows' j no_row) ≡ given (get_or rows j no_row) + goes_to j (some r)) where
  -- A stretch x of row r that ends at t, though it may be empty, grows.
  grown_ok : (x : Stretch) (xs : List Stretch) → x.row ≡ r → x.after ≡ t → x.first ≤ t → ToFirst Follows x xs → InOrder Follows t (length rows) xs
      → ((j : ℕ) → given (get_or rows j no_row) ≡ length_for j x + ticks_in j xs)
      → StretchesOk Follows (t + 1) rows' (record { row = r; first = x.first; after = t + 1 } ∷ xs)
  unfolding ticks_in length_for goes_to same
  grown_ok x xs own now begun first k ticks =
      let one : t + 1 - x.first ≡ x.after - x.first + 1 = omega arith in
      record {
        order = (
          record { not_empty = omega arith; past = omega arith; named = given_inside rows' r (omega (arith, more r, same_self r)) },
          grown_follows x _ xs own refl first,
          order_keeps t (t + 1) (length rows) rows' xs (omega arith) (λ j. omega (arith, more j, ticks j)) k,
        );
        ticks = λ j. omega (arith, more j, ticks j, length_for_grown (eqb r j) _ _ one, ap (λ (i : ℕ). choose (eqb i j) (x.after - x.first) 0) own);
      }

  -- A new stretch is an empty one that grows.
  new_ok : (xs : List Stretch) → StretchesOk Follows t rows xs → ToFirst Follows (record { row = r; first = t; after = t }) xs
      → StretchesOk Follows (t + 1) rows' (record { row = r; first = t; after = t + 1 } ∷ xs)
  new_ok xs k first =
      grown_ok (record { row = r; first = t; after = t }) xs refl refl (omega arith) first k.order (λ j. omega (arith, k.ticks j, length_for_empty t r j))

  stretch_ok : (xs : List Stretch) → StretchesOk Follows t rows xs → StretchesOk Follows (t + 1) rows' (stretch t r xs)
  unfolding stretch ticks_in
  stretch_ok [] k = new_ok [] k tt
  stretch_ok (x ∷ xs) k =
      let ok : StretchOk t (length rows) x = k.order.0 in
      by_both (StretchesOk Follows (t + 1) rows') (eqb x.row r) (eqb x.after t)
      (λ a b. grown_ok x xs (eqb-true _ _ a) (eqb-true _ _ b) (omega arith) k.order.1 k.order.2 k.ticks)
      (λ n. new_ok (x ∷ xs) k (record { apart = ok.past; longest = λ touch q. eqb-false _ _ (n (eq-eqb _ _ q)) touch }))

give_to_stretched : {t : ℕ} {s : State} → Wf deciding t s → Stretched deciding t s → (p : Proc) → s.proc ≡ p
    → StretchesOk Follows (t + 1) (give_to p t s).rows (give_to p t s).stretches
unfolding give_to running_row
give_to_stretched {t} {s} w q idle e = rows_keep (t + 1) s.rows (omega arith) q (λ j. refl)
give_to_stretched {t} {s} w q (running r) e = stretch_ok t r s.rows _ (give_to-given w (running r) e) s.stretches q

stretched_kept : Kept Stretched
unfolding fresh ticks_in
stretched_kept =
    record { begins = record { order = tt; ticks = λ j. refl }; steps = stretched_step; gives = λ w n q. give_to_stretched w q _ refl }

-- Stretches newest first, put one by one before those that are in time order already.
order_onto : (t n : ℕ) (x : Stretch) (xs done : List Stretch) → InOrder Follows t n (x ∷ xs) → ToFirst Precedes x done → InOrder Precedes t n done
    → InOrder Precedes t n (reverse_aux (x ∷ xs) done)
order_onto t n x [] done k first a = (k.0, first, a)
order_onto t n x (y ∷ ys) done k first a = order_onto t n y ys (x ∷ done) k.2 k.1 (k.0, first, a)

order_reversed : (t n : ℕ) (xs : List Stretch) → InOrder Follows t n xs → InOrder Precedes t n (reverse xs)
order_reversed t n [] k = tt
order_reversed t n (x ∷ xs) k = order_onto t n x xs [] k tt tt

ticks_onto : (j : ℕ) (xs done : List Stretch) → ticks_in j (reverse_aux xs done) ≡ ticks_in j xs + ticks_in j done
unfolding ticks_in
ticks_onto j [] done = omega arith
ticks_onto j (x ∷ xs) done = omega (arith, ticks_onto j xs (x ∷ done))

in_time_order_lem : {t : ℕ} {rows : List Row} {xs : List Stretch} → StretchesOk Follows t rows xs → StretchesOk Precedes t rows (reverse xs)
unfolding ticks_in
in_time_order_lem {t} {rows} {xs} k =
    record { order = order_reversed t (length rows) xs k.order; ticks = λ j. omega (arith, k.ticks j, ticks_onto j xs []) }

module _ {p : Picks} (l : Lawful p) where
  -- The stretches before every tick, newest first,
  pub stretches_before : (released : ℕ → List Job) → ((t : ℕ) → Timely t (released t)) → (n : ℕ)
      → StretchesOk Follows n (before p released n).rows (before p released n).stretches
  stretches_before released timely n = always l released timely Stretched stretched_kept n

  -- and those of a list's result, in time order.
  pub end_stretches : (jobs : List Job) → Proper jobs → StretchesOk Precedes (run p jobs).tick (run p jobs).state.rows (reverse (run p jobs).state.stretches)
  end_stretches jobs proper = in_time_order_lem (end_kept l jobs proper Stretched stretched_kept)
