-- What a change of the arrays does to the rows and the delayed entries that they stand for. Rests on View.
use Rattle.std.proofs.Common.{◌≡◌, ℕ, zero, suc, ◌+◌, ◌-◌, ◌<◌, ◌≤◌, List, [], ◌∷◌, ◌++◌, length, get_or, set, map, refl, ap, arith, add-one, get_or-set_other, get_or-set_same}
use Rattle.rules.specs.Job.{Job}
use Rattle.rules.specs.State.{Row, no_row, waiting, mark, Entry}
use Rattle.rules.specs.LatestStarts.{displaced, displace}
use Rattle.rules.specs.Give.{one_less}
use Rattle.engine.specs.Fates.{displaced_fate}
use Rattle.engine.specs.View.{fate_of, no_job, rows_of, entries_of}
use Rattle.engine.specs.declared.state.Fate.{Fate}
use Rattle.engine.specs.declared.state.Fate.TheVariants.{Waiting, Taken, Finished, Dropped}

-- Row i, from its job and the columns.
abbrev pub row_from : List Job → List ℕ → List Fate → ℕ → Row
row_from js ls fs i = record { job = get_or js i no_job; left = get_or ls i 0; fate = fate_of (get_or fs i Waiting) }

pub row_at : (js : List Job) (ls : List ℕ) (fs : List Fate) (i : ℕ) → i < length js → i < length ls → i < length fs
    → get_or (rows_of js ls fs) i no_row ≡ row_from js ls fs i
unfolding rows_of
row_at [] ls fs i h k m = absurd (omega arith)
row_at (j ∷ js) [] fs i h k m = absurd (omega arith)
row_at (j ∷ js) (l ∷ ls) [] i h k m = absurd (omega arith)
row_at (j ∷ js) (l ∷ ls) (g ∷ fs) zero h k m = refl
row_at (j ∷ js) (l ∷ ls) (g ∷ fs) (suc i) h k m = row_at js ls fs i (omega arith) (omega arith) (omega arith)

-- The job of row i, also where there is none.
pub job_at : (js : List Job) (ls : List ℕ) (fs : List Fate) (i : ℕ) → length js ≤ length ls → length js ≤ length fs
    → (get_or (rows_of js ls fs) i no_row).job ≡ get_or js i no_job
unfolding rows_of
job_at [] ls fs i h k = refl
job_at (j ∷ js) [] fs i h k = absurd (omega arith)
job_at (j ∷ js) (l ∷ ls) [] i h k = absurd (omega arith)
job_at (j ∷ js) (l ∷ ls) (g ∷ fs) zero h k = refl
job_at (j ∷ js) (l ∷ ls) (g ∷ fs) (suc i) h k = job_at js ls fs i (omega arith) (omega arith)

-- Row i meets the fate f.
pub marked : (js : List Job) (ls : List ℕ) (fs : List Fate) (i : ℕ) (f : Fate) → i < length js → i < length ls → i < length fs
    → rows_of js ls (set fs i f) ≡ mark i (fate_of f) (rows_of js ls fs)
unfolding rows_of
marked [] ls fs i f h k m = absurd (omega arith)
marked (j ∷ js) [] fs i f h k m = absurd (omega arith)
marked (j ∷ js) (l ∷ ls) [] i f h k m = absurd (omega arith)
marked (j ∷ js) (l ∷ ls) (g ∷ fs) zero f h k m = refl
marked (j ∷ js) (l ∷ ls) (g ∷ fs) (suc i) f h k m =
    ap (λ (rs : List Row). record { job = j; left = l; fate = fate_of g } ∷ rs) (marked js ls fs i f (omega arith) (omega arith) (omega arith))

-- Row i has one tick less left.
pub lessened : (js : List Job) (ls : List ℕ) (fs : List Fate) (i x : ℕ) → i < length js → i < length ls → i < length fs → x ≡ get_or ls i 0 - 1
    → rows_of js (set ls i x) fs ≡ set (rows_of js ls fs) i (one_less (get_or (rows_of js ls fs) i no_row))
unfolding rows_of one_less
lessened [] ls fs i x h k m e = absurd (omega arith)
lessened (j ∷ js) [] fs i x h k m e = absurd (omega arith)
lessened (j ∷ js) (l ∷ ls) [] i x h k m e = absurd (omega arith)
lessened (j ∷ js) (l ∷ ls) (g ∷ fs) zero x h k m e = ap (λ (y : ℕ). record { job = j; left = y; fate = fate_of g } ∷ rows_of js ls fs) e
lessened (j ∷ js) (l ∷ ls) (g ∷ fs) (suc i) x h k m e =
    ap (λ (rs : List Row). record { job = j; left = l; fate = fate_of g } ∷ rs) (lessened js ls fs i x (omega arith) (omega arith) (omega arith) e)

-- The row after all of them is written: it waits, with its cost left.
pub appended : (js : List Job) (ls : List ℕ) (fs : List Fate) (n c : ℕ) (j : Job) → length js ≡ n → n < length ls → n < length fs → c ≡ j.cost
    → rows_of (js ++ (j ∷ [])) (set ls n c) (set fs n Waiting) ≡ rows_of js ls fs ++ (record { job = j; left = j.cost; fate = waiting } ∷ [])
unfolding rows_of
appended [] [] fs n c j h k m e = absurd (omega arith)
appended [] (l ∷ ls) [] n c j h k m e = absurd (omega arith)
appended [] (l ∷ ls) (g ∷ fs) zero c j h k m e = rw e
appended [] (l ∷ ls) (g ∷ fs) (suc n) c j h k m e = absurd (omega arith)
appended (i ∷ js) [] fs n c j h k m e = absurd (omega arith)
appended (i ∷ js) (l ∷ ls) [] n c j h k m e = absurd (omega arith)
appended (i ∷ js) (l ∷ ls) (g ∷ fs) zero c j h k m e = absurd (omega arith)
appended (i ∷ js) (l ∷ ls) (g ∷ fs) (suc n) c j h k m e =
    ap (λ (rs : List Row). record { job = i; left = l; fate = fate_of g } ∷ rs) (appended js ls fs n c j (omega arith) (omega arith) (omega arith) e)

-- Columns written behind the first k say the same entries.
pub entries_below : (k i r t m : ℕ) (rs ts ms : List ℕ) → k ≤ i → entries_of k (set rs i r) (set ts i t) (set ms i m) ≡ entries_of k rs ts ms
unfolding entries_of
entries_below zero i r t m rs ts ms h = refl
entries_below (suc k) i r t m rs ts ms h =
    let other : k ≡ i → ⊥ = λ e. omega arith in
    rw (get_or-set_other rs, get_or-set_other ts, get_or-set_other ms, entries_below k i r t m rs ts ms (omega arith))

-- An entry more.
pub pushed : (k r t m : ℕ) (rs ts ms : List ℕ) → k < length rs → k < length ts → k < length ms
    → entries_of (k + 1) (set rs k r) (set ts k t) (set ms k m) ≡ record { row = r; since = t; room = m } ∷ entries_of k rs ts ms
unfolding entries_of
pushed k r t m rs ts ms h i j =
    rw (add-one k, get_or-set_same rs, get_or-set_same ts, get_or-set_same ms, entries_below k k r t m rs ts ms (omega arith))

-- A fate is displaced as the rules displace it,
same_fate : (f : Fate) → fate_of (displaced_fate f) ≡ displaced (fate_of f)
unfolding displaced
same_fate Waiting = refl
same_fate Taken = refl
same_fate (Finished t) = refl
same_fate (Dropped t) = refl

-- and so are rows.
pub displaced_rows : (js : List Job) (ls : List ℕ) (fs : List Fate) → rows_of js ls (map displaced_fate fs) ≡ map displace (rows_of js ls fs)
unfolding rows_of displace
displaced_rows [] ls fs = refl
displaced_rows (j ∷ js) [] fs = refl
displaced_rows (j ∷ js) (l ∷ ls) [] = refl
displaced_rows (j ∷ js) (l ∷ ls) (g ∷ fs) = rw (same_fate g, displaced_rows js ls fs)

-- No entry is none.
pub no_entries : (rs ts ms : List ℕ) → entries_of 0 rs ts ms ≡ []
unfolding entries_of
no_entries rs ts ms = refl

-- No job is no row.
pub no_rows : (ls : List ℕ) (fs : List Fate) → rows_of [] ls fs ≡ []
unfolding rows_of
no_rows ls fs = refl

-- The entry on top is that of the last place, and the rest is what is below it.
pub record Top (k : ℕ) (rs ts ms : List ℕ) (e : Entry) (rest : List Entry) : Type 0 where
  pub entry : e ≡ record { row = get_or rs (k - 1) 0; since = get_or ts (k - 1) 0; room = get_or ms (k - 1) 0 }
  pub below : rest ≡ entries_of (k - 1) rs ts ms

pub top_of : (k : ℕ) (rs ts ms : List ℕ) (e : Entry) (rest : List Entry) → 0 < k → entries_of k rs ts ms ≡ e ∷ rest → Top k rs ts ms e rest
unfolding entries_of
top_of zero rs ts ms e rest h s = absurd (omega arith)
top_of (suc k) rs ts ms e rest h s =
    let same : suc k - 1 ≡ k = omega arith in
    let entry : e ≡ record { row = get_or rs k 0; since = get_or ts k 0; room = get_or ms k 0 } = cc in
    let below : rest ≡ entries_of k rs ts ms = cc in
    record { entry = rw same entry; below = rw same below }
