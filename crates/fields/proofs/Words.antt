-- A field of n bytes in a word of four: they are the word's last bytes, by which the library reads and makes numbers; and
-- bytes copied into a part of a buffer are bytes laid. Rests on the fields' definitions.
use Rattle.std.proofs.Common.{◌≡◌, ℕ, zero, suc, ◌+◌, ◌-◌, ◌≤◌, ◌/◌, List, [], ◌∷◌, length, get_or, take, drop, append_assoc, refl, sym, ap, ◌∙◌, arith, length-drop}
use Rattle.std.proofs.Math.Nat.{add-zero, zero-add}
use Rattle.std.proofs.lemmas.List.{append-nil, length-take-le, get_or-take, get_or-drop, drop-drop}
use Rattle.std.specs.Int.{w32, from_be_bytes, to_be_bytes}
use borrow.Rule.Slice.PartMut.{put_mid}
use Rattle.fields.specs.Fields.{be, bytes, laid}

-- The word that held zeros and has the bytes x as its last n.
abbrev word_of : ℕ → List ℕ → List ℕ
word_of n x = put_mid (4 - n) (4 - (4 - n)) (0 ∷ 0 ∷ 0 ∷ 0 ∷ []) x

-- Its number is that of the bytes.
pub word_number : (n : ℕ) (x : List ℕ) → n ≤ 4 → length x ≡ n → from_be_bytes w32 (word_of n x) ≡ be n x 0
unfolding be
word_number zero x h e = refl
word_number (suc zero) x h e = rw append-nil (omega arith)
word_number (suc (suc zero)) x h e = rw append-nil (omega arith)
word_number (suc (suc (suc zero))) x h e = rw append-nil (omega arith)
word_number (suc (suc (suc (suc zero)))) x h e = rw append-nil (omega arith)
word_number (suc (suc (suc (suc (suc n))))) x h e = absurd (omega arith)

-- Bytes cut out at a place make the number that stands there.
pub be-cut : (n : ℕ) (s : List ℕ) (at k : ℕ) → n ≤ k → be n (take k (drop at s)) 0 ≡ be n s at
unfolding be
be-cut zero s at k h = refl
be-cut (suc zero) s at k h = get_or-take k (drop at s) 0 0 (omega arith) ∙ get_or-drop at s 0 0 ∙ ap (λ (i : ℕ). get_or s i 0) (add-zero at)
be-cut (suc (suc n)) s at k h =
    let byte : get_or (take k (drop at s)) (0 + suc n) 0 ≡ get_or s (at + suc n) 0 =
    ap (λ (i : ℕ). get_or (take k (drop at s)) i 0) (zero-add (suc n)) ∙ get_or-take k (drop at s) (suc n) 0 (omega arith) ∙ get_or-drop at s (suc n) 0 in
    rw (be-cut (suc n) s at k (omega arith), byte)

-- The bytes x that were cut out of s at a place, as the last of a word, make the number that stands there.
pub number_read : (n : ℕ) (s : List ℕ) (at : ℕ) (x : List ℕ) → n ≤ 4 → at + n ≤ length s → x ≡ take (at + n - at) (drop at s)
    → from_be_bytes w32 (word_of n x) ≡ be n s at
number_read n s at x few inside e =
    let size : length x ≡ n = ap length e ∙ length-take-le (at + n - at) (drop at s) (omega (arith, length-drop at s)) ∙ omega arith in
    word_number n x few size ∙ ap (λ (y : List ℕ). be n y 0) e ∙ be-cut n s at (at + n - at) (omega arith)

-- The bytes of a number are the last of all four.
pub word_bytes : (n v : ℕ) → n ≤ 4 → take (4 - (4 - n)) (drop (4 - n) (to_be_bytes w32 v)) ≡ bytes n v
unfolding bytes
word_bytes zero v h = refl
word_bytes (suc zero) v h = refl
word_bytes (suc (suc zero)) v h = refl
word_bytes (suc (suc (suc zero))) v h =
    let high : v / 65536 ≡ v / 256 / 256 = omega arith in
    rw high
word_bytes (suc (suc (suc (suc zero)))) v h =
    let high : v / 65536 ≡ v / 256 / 256 = omega arith in
    let highest : v / 16777216 ≡ v / 256 / 256 / 256 = omega arith in
    rw (highest, high)
word_bytes (suc (suc (suc (suc (suc n))))) v h = absurd (omega arith)

-- The k bytes at a place of d replaced by w.
pub copied : (d : List ℕ) (at k : ℕ) (w : List ℕ) → k ≡ length w → put_mid at k d w ≡ laid d at w
unfolding laid
copied d at k w e = rw (drop-drop k at d, e) (sym (append_assoc (take at d) w _))
