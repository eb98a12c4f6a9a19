-- Document 01's own picks are lawful: the earliest deadline, then the lowest row; and the lowest row that is due.
-- With this, all that is proved over lawful picks holds of its rules. Rests on Picks and Lawful.
use Prim.Native.Nat.{ℕ, zero, suc}
use native.Mathlib.Omega.{arith}
use mathlib.Core.Path.{◌≡◌, refl, sym, ap, ◌∙◌}
use mathlib.Core.Bool.{true, false≢true}
use mathlib.Core.Option.{Option, none, some}
use mathlib.Core.List.{List, [], ◌∷◌}
use lib.Dec.{leb, eqb}
use lib.ListN.{get_or}
use borrow.Author.Tests.{leb-true, leb-false, eqb-true, eqb-false}
use Rattle.rules.specs.State.{Fate, Row, no_row, latest_start, is_waiting, waiting, taken, finished, dropped}
use Rattle.rules.specs.Picks.{up, first_of, first_waiting, lowest_due, document}
use Rattle.promises.specs.Lawful.{IsFirst, IsNext, Lawful}
use Rattle.rules.proofs.Choose.{by_test, by_both}
use Rattle.promises.proofs.Rows.{finished_not_waiting}

is_waiting_lem : (f : Fate) → is_waiting f ≡ true → f ≡ waiting
is_waiting_lem waiting e = refl
is_waiting_lem taken e = absurd (false≢true e)
is_waiting_lem (finished u) e = absurd (false≢true e)
is_waiting_lem (dropped u) e = absurd (false≢true e)

-- The first waiting row of a list, from that of its tail: each fact is shown of row 0 and of the rows of the tail.
first_of_lawful : (r : Row) (rest : List Row) (o : Option ℕ) → IsFirst rest o → IsFirst (r ∷ rest) (first_of r rest o)
unfolding first_of IsFirst
first_of_lawful r rest none n =
    by_test (IsFirst (r ∷ rest)) (is_waiting r.fate)
    (λ q. (is_waiting_lem r.fate q, elim [ zero ↦ λ _. omega arith | suc j ↦ λ w. absurd (n j w) ]))
    (λ q. elim [ zero ↦ λ w. false≢true (sym q ∙ ap is_waiting w) | suc j ↦ n j ])
first_of_lawful r rest (some i) f =
    by_both (IsFirst (r ∷ rest)) (is_waiting r.fate) (leb r.job.deadline (get_or rest i no_row).job.deadline)
    (λ q d. (is_waiting_lem r.fate q, elim [ zero ↦ λ _. omega arith | suc j ↦ λ w. omega (arith, leb-true, f.1 j w) ]))
    (λ n. (f.0, elim [ zero ↦ λ w. let q = n (ap is_waiting w) in omega (arith, leb-false) | suc j ↦ f.1 j ]))

first_waiting_lawful : (rows : List Row) → IsFirst rows (first_waiting rows)
unfolding first_waiting IsFirst
first_waiting_lawful [] = λ j w. finished_not_waiting w
first_waiting_lawful (r ∷ rest) = first_of_lawful r rest (first_waiting rest) (first_waiting_lawful rest)

up_lawful : (t : ℕ) (r : Row) (rest : List Row) (o : Option ℕ) → (r.fate ≡ waiting → latest_start r ≡ t → ⊥) → IsNext t rest o → IsNext t (r ∷ rest) (up o)
unfolding up IsNext
up_lawful t r rest none n k = elim [ zero ↦ λ due. n due.0 due.1 | suc j ↦ k j ]
up_lawful t r rest (some i) n k = k

lowest_due_lawful : (t : ℕ) (rows : List Row) → IsNext t rows (lowest_due t rows)
unfolding lowest_due IsNext
lowest_due_lawful t [] = λ j due. finished_not_waiting due.0
lowest_due_lawful t (r ∷ rest) =
    by_both (IsNext t (r ∷ rest)) (is_waiting r.fate) (eqb (latest_start r) t)
    (λ q d. (is_waiting_lem r.fate q, eqb-true _ _ d))
    (λ n. up_lawful t r rest (lowest_due t rest) (λ w. eqb-false _ _ (n (ap is_waiting w))) (lowest_due_lawful t rest))

pub document_lawful : Lawful document
document_lawful = record { first = first_waiting_lawful; next = lowest_due_lawful }
