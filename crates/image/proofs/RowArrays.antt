-- Rows as arrays of 14 bytes, and as the bytes that these make one behind the other: what each row says is the same.
-- Rests on Rows and Refusals.
use Rattle.std.proofs.Common.{◌≡◌, ℕ, zero, suc, ◌+◌, ◌-◌, ◌*◌, ◌/◌, ◌≤◌, ◌<◌, Bool, List, [], ◌∷◌, ◌++◌, length, get_or, take, drop, refl, sym, ap, ◌∙◌, arith, length-drop}
use Rattle.std.specs.Prelude.{◌==◌}
use Rattle.std.specs.List.{concat, list_any}
use Rattle.std.specs.Simd.{first_chunks}
use Rattle.std.proofs.Math.Bool.{or_comm, or-false}
use Rattle.std.proofs.Math.Nat.{add_assoc, add-zero, zero-add}
use Rattle.std.proofs.Math.Seq.{take-suc}
use Rattle.std.proofs.lemmas.List.{get_or-append-add, get_or_append_left, take-append-drop}
use Rattle.std.proofs.lemmas.List.Folds.{list_any-append}
use Rattle.fields.specs.Fields.{be}
use Rattle.fields.proofs.Laws.{rest_whole}
use Rattle.rules.specs.Job.{Job}
use Rattle.image.specs.Rows.{name_at, job_at}
use Rattle.image.specs.Refusals.{named, release_before, row_bytes, row_count, row_number, row_fault, rows_from}

-- Each row has 14 bytes.
abbrev pub Whole : List (List ℕ) → Type 0
Whole rows = (k : ℕ) → k < length rows → length (get_or rows k []) ≡ 14

-- Byte j of row k.
byte_at_row : (rows : List (List ℕ)) → Whole rows → (k j : ℕ) → k < length rows → j < 14
    → get_or (concat rows) (14 * k + j) 0 ≡ get_or (get_or rows k []) j 0
byte_at_row [] w k j h l = absurd (omega arith)
byte_at_row (r ∷ rows) w zero j h l =
    let size = w zero h in
    ap (λ (i : ℕ). get_or (r ++ concat rows) i 0) (zero-add j) ∙ get_or_append_left r (concat rows) 0 j (omega arith)
byte_at_row (r ∷ rows) w (suc k) j h l =
    let size = w zero (omega arith) in
    let after : 14 * suc k + j ≡ length r + (14 * k + j) = omega arith in
    ap (λ (i : ℕ). get_or (r ++ concat rows) i 0) after ∙ get_or-append-add r (concat rows) (14 * k + j) 0
    ∙ byte_at_row rows (λ i s. w (suc i) (omega arith)) k j (omega arith) l

-- The number at place `off` of row k.
pub be-row : (rows : List (List ℕ)) → Whole rows → (n k off : ℕ) → k < length rows → off + n ≤ 14
    → be n (concat rows) (14 * k + off) ≡ be n (get_or rows k []) off
unfolding be
be-row rows w zero k off h l = refl
be-row rows w (suc zero) k off h l = byte_at_row rows w k off h (omega arith)
be-row rows w (suc (suc n)) k off h l =
    let byte : get_or (concat rows) (14 * k + off + suc n) 0 ≡ get_or (get_or rows k []) (off + suc n) 0 =
    ap (λ (i : ℕ). get_or (concat rows) i 0) (add_assoc (14 * k) off (suc n)) ∙ byte_at_row rows w k (off + suc n) h (omega arith) in
    rw (be-row rows w (suc n) k off h (omega arith), byte)

-- The job of row k.
pub job-row : (rows : List (List ℕ)) → Whole rows → (k : ℕ) → k < length rows → job_at (concat rows) k ≡ job_at (get_or rows k []) 0
job-row rows w k h =
    let name : be 2 (concat rows) (14 * k) ≡ be 2 (get_or rows k []) 0 =
    ap (be 2 (concat rows)) (sym (add-zero (14 * k))) ∙ be-row rows w 2 k 0 h (omega arith) in
    rw (name, be-row rows w 4 k 2 h (omega arith), be-row rows w 4 k 6 h (omega arith), be-row rows w 4 k 10 h (omega arith))

-- Whether one of the first k rows has a name.
pub named-rows : (rows : List (List ℕ)) → Whole rows → (x k : ℕ) → k ≤ length rows
    → list_any (λ row. be 2 row 0 == x) (take k rows) ≡ named (concat rows) x k
unfolding named
named-rows rows w x zero h = refl
named-rows rows w x (suc k) h =
    let here : be 2 (get_or rows k []) 0 ≡ name_at (concat rows) k = ap (λ (j : Job). j.name) (sym (job-row rows w k h)) in
    let earlier = named-rows rows w x k (omega arith) in
    ap (list_any (λ row. be 2 row 0 == x)) (take-suc rows k [] h) ∙ list_any-append (λ row. be 2 row 0 == x) (take k rows) (get_or rows k [] ∷ [])
    ∙ rw (earlier, here, or-false) (or_comm (named (concat rows) x k) _)

-- Row k's test, as its job, its name and the rows before it make it.
pub tested : (rows : List (List ℕ)) → Whole rows → (k before x : ℕ) (taken : Bool) (j : Job) → k < length rows → before ≡ release_before (concat rows) k
    → j ≡ job_at (get_or rows k []) 0 → x ≡ j.name → taken ≡ list_any (λ row. be 2 row 0 == x) (take k rows)
    → row_number j.name taken j.release j.cost j.deadline before ≡ row_fault (concat rows) k
unfolding row_fault
tested rows w k before x taken j h e same name t =
    let job : j ≡ job_at (concat rows) k = same ∙ sym (job-row rows w k h) in
    let again : taken ≡ named (concat rows) j.name k = t ∙ named-rows rows w x k (omega arith) ∙ ap (λ (y : ℕ). named (concat rows) y k) name in
    rw (again, e) (ap (λ (i : Job). row_number i.name (named (concat rows) i.name k) i.release i.cost i.deadline (release_before (concat rows) k)) job)

-- Bytes cut into rows are the bytes again.
pub concat-chunks : (k : ℕ) (xs : List ℕ) → length xs ≡ 14 * k → concat (first_chunks 14 k xs) ≡ xs
concat-chunks zero [] e = refl
concat-chunks zero (x ∷ xs) e = absurd (omega arith)
concat-chunks (suc k) xs e =
    ap (λ (ys : List ℕ). take 14 xs ++ ys) (concat-chunks k (drop 14 xs) (omega (arith, length-drop 14 xs))) ∙ take-append-drop 14 xs

-- So the rows cut from bytes that are k whole rows are those of the bytes.
pub cut_rows : (xs : List ℕ) (k : ℕ) (rows : List (List ℕ)) → length xs ≡ 14 * k → rows ≡ first_chunks 14 (length xs / 14) xs → length rows ≡ length xs / 14
    → rows_from (concat rows) (length rows) 0 ≡ rows_from xs k 0
cut_rows xs k rows e cut size =
    let count : length xs / 14 ≡ k = omega arith in
    rw (size, cut, count, concat-chunks k xs e)

-- The same of the rows behind an image's header.
pub cut_list : (s : List ℕ) (rows : List (List ℕ)) → length s ≡ 7 + 14 * row_count s
    → rows ≡ first_chunks 14 (length (take (length s - 7) (drop 7 s)) / 14) (take (length s - 7) (drop 7 s))
    → length rows ≡ length (take (length s - 7) (drop 7 s)) / 14
    → rows_from (concat rows) (length rows) 0 ≡ rows_from (row_bytes s) (row_count s) 0
cut_list s rows e cut size =
    cut_rows (row_bytes s) (row_count s) rows (omega (arith, length-drop 7 s)) (rw (rest_whole s 7) at cut) (rw (rest_whole s 7) at size)
