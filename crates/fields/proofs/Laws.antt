-- Stores one after the other are bytes laid at a place; two pieces laid side by side are one piece; and a number laid is the
-- number read back. Rests on the fields' definitions and the library's laws of lists.
use mathlib.Core.Path.{◌≡◌, refl, sym, ap, ◌∙◌}
use mathlib.Core.List.{List, [], ◌∷◌, ◌++◌, append_assoc}
use Prim.Native.Nat.{ℕ, zero, suc, ◌^◌, ◌+◌, ◌-◌, ◌*◌, ◌/◌, ◌%◌, ◌≤◌, ◌<◌}
use native.Mathlib.Numerals.{towards_suc, add-one}
use native.Mathlib.Nat.{zero-add, add-zero, pow-suc}
use native.Mathlib.Omega.{arith}
use lib.ListN.{length, get_or, set, take, drop, length-append, length-drop}
use lib.Seq.{paste-suc, sets-eq, paste, length-paste, length-take-le, take_all, take-length, take_at, drop_at, drop-drop, drop-cons, get_or-append_seam}
use Rattle.fields.specs.Fields.{be, be2, be4, bytes, bytes2, bytes4, laid}

-- Stores one after the other are bytes laid too: of one byte, of two and of four;
pub lay1 : (d : List ℕ) (at v : ℕ) → at + 1 ≤ length d → set d at v ≡ laid d at (v ∷ [])
unfolding laid
lay1 d at v h = sets-eq (v ∷ []) d at h

pub lay2 : (d : List ℕ) (at v : ℕ) → at + 2 ≤ length d → set (set d at (v / 256 % 256)) (at + 1) (v % 256) ≡ laid d at (bytes2 v)
unfolding bytes laid
lay2 d at v h = simp towards_suc (simp towards_suc at (sets-eq ((v / 256 % 256) ∷ (v % 256) ∷ []) d at h))

pub lay4 : (d : List ℕ) (at v : ℕ) → at + 4 ≤ length d
    → set (set (set (set d at (v / 256 / 256 / 256 % 256)) (at + 1) (v / 256 / 256 % 256)) (at + 2) (v / 256 % 256)) (at + 3) (v % 256) ≡ laid d at (bytes4 v)
unfolding bytes laid
lay4 d at v h = simp towards_suc (simp towards_suc at (sets-eq ((v / 256 / 256 / 256 % 256) ∷ (v / 256 / 256 % 256) ∷ (v / 256 % 256) ∷ (v % 256) ∷ []) d at h))

-- and so is a copy, byte by byte: one byte more of it,
pub lay_more : (d : List ℕ) (at : ℕ) (w : List ℕ) (i : ℕ) (x : List ℕ) → at + length w ≤ length d → i < length w → x ≡ paste d at w i
    → set x (at + i) (get_or w i 0) ≡ paste d at w (i + 1)
lay_more d at w i x room inside e =
    rw (e, add-one i) (paste-suc d at w i 0 (omega arith) inside)

-- whichever way its place is told,
pub lay_next : (d : List ℕ) (at : ℕ) (w : List ℕ) (i k : ℕ) (x : List ℕ) → at + length w ≤ length d → i < length w → k ≡ at + i → x ≡ paste d at w i
    → set x k (get_or w i 0) ≡ paste d at w (i + 1)
lay_next d at w i k x room inside place e = rw place (lay_more d at w i x room inside e)

-- and all of it.
pub lay_all : (d : List ℕ) (at : ℕ) (w : List ℕ) → paste d at w (length w) ≡ laid d at w
unfolding laid
lay_all d at w = rw (take-length w)

-- A piece w laid where the first n bytes end.
behind : (front rest w : List ℕ) (n : ℕ) → length front ≡ n
    → take n (front ++ rest) ++ w ++ drop (n + length w) (front ++ rest) ≡ front ++ w ++ drop (length w) rest
behind front rest w n size =
    ap (λ (x : List ℕ). x ++ w ++ drop (n + length w) (front ++ rest)) (take_at front rest n size)
    ∙ ap (λ (x : List ℕ). front ++ w ++ x)
    (sym (drop-drop (length w) n (front ++ rest)) ∙ ap (drop (length w)) (drop_at front rest n size))

module _ (d : List ℕ) (at : ℕ) where
  pub length-laid : (w : List ℕ) → at + length w ≤ length d → length (laid d at w) ≡ length d
  unfolding laid
  length-laid w h = rw (← lay_all d at w) (length-paste d at w (length w) h (omega arith))

  -- A piece laid right behind another is one piece.
  pub laid_next : (v w : List ℕ) → at + length v ≤ length d → laid (laid d at v) (at + length v) w ≡ laid d at (v ++ w)
  unfolding laid
  laid_next v w h =
      let rest = drop (at + length v) d in
      let size : length (take at d ++ v) ≡ at + length v =
      omega (arith, length-append (take at d) v, length-take-le at d (omega arith)) in
      let ends : at + length v + length w ≡ at + length (v ++ w) = omega (arith, length-append v w) in
      behind (take at d ++ v) rest w (at + length v) size
      ∙ ap (λ (x : List ℕ). take at d ++ v ++ w ++ x) (drop-drop (length w) (at + length v) d ∙ ap (λ (k : ℕ). drop k d) ends)
      ∙ ap (λ (x : List ℕ). x ++ drop (at + length (v ++ w)) d) (append_assoc (take at d) v w)

-- A piece v laid at `at`, and then w where it ends, are v and w laid.
pub join : (d d1 d2 : List ℕ) (at p : ℕ) (v w : List ℕ) → d1 ≡ laid d at v → at + length v ≡ p → p ≤ length d → d2 ≡ laid d1 p w
    → d2 ≡ laid d at (v ++ w)
join d d1 d2 at p v w e end room f =
    f
    ∙ ap (λ (x : List ℕ). laid x p w) e
    ∙ ap (λ (k : ℕ). laid (laid d at v) k w) (sym end)
    ∙ laid_next d at v w (omega arith)

-- What is laid from the start on is followed by what the buffer held there.
pub laid-start : (d w : List ℕ) → laid d 0 w ≡ w ++ drop (length w) d
unfolding laid
laid-start d w = rw (zero-add (length w))

-- The part of a slice from place k to its end.
pub rest_whole : (s : List ℕ) (k : ℕ) → take (length s - k) (drop k s) ≡ drop k s
rest_whole s k = take_all (length s - k) (drop k s) (omega (arith, length-drop k s))

-- That part, laid from the start of a buffer on.
pub rest_laid : (s d : List ℕ) (k : ℕ) → laid d 0 (take (length s - k) (drop k s)) ≡ drop k s ++ drop (length (drop k s)) d
rest_laid s d k = rw (rest_whole s k) (laid-start d (drop k s))

-- A number's bytes are as many as they are called.
pub bytes_length : (n v : ℕ) → length (bytes n v) ≡ n
unfolding bytes
bytes_length zero v = refl
bytes_length (suc n) v = omega (arith, length-append (bytes n (v / 256)) ((v % 256) ∷ []), bytes_length n (v / 256))

-- A number laid is read back.
pub be-bytes : (n v : ℕ) (rest : List ℕ) → v < 256 ^ n → be n (bytes n v ++ rest) 0 ≡ v
unfolding be bytes
be-bytes zero v rest h = omega arith
be-bytes (suc zero) v rest h = omega arith
be-bytes (suc (suc n)) v rest h =
    let high : v / 256 < 256 ^ suc n = omega (arith, pow-suc 256 (suc n)) in
    let front = bytes (suc n) (v / 256) in
    let cut : (front ++ ((v % 256) ∷ [])) ++ rest ≡ front ++ ((v % 256) ∷ rest) = append_assoc front ((v % 256) ∷ []) rest in
    let low : get_or (front ++ ((v % 256) ∷ rest)) (0 + suc n) 0 ≡ v % 256 =
    ap (λ (i : ℕ). get_or (front ++ ((v % 256) ∷ rest)) i 0) (zero-add (suc n) ∙ sym (bytes_length (suc n) (v / 256))) ∙ get_or-append_seam front (v % 256) rest 0 in
    rw (cut, be-bytes (suc n) (v / 256) ((v % 256) ∷ rest) high, low) (omega arith)

-- One byte is itself.
pub bytes1 : (v : ℕ) → v < 256 → bytes 1 v ≡ v ∷ []
unfolding bytes
bytes1 v h = let same : v % 256 ≡ v = omega arith in rw same

pub be2-bytes2 : (v : ℕ) (rest : List ℕ) → v < 65536 → be2 (bytes2 v ++ rest) 0 ≡ v
be2-bytes2 v rest h = be-bytes 2 v rest h

pub be4-bytes4 : (v : ℕ) (rest : List ℕ) → v < 4294967296 → be4 (bytes4 v ++ rest) 0 ≡ v
be4-bytes4 v rest h = be-bytes 4 v rest h

-- What a byte is.
abbrev pub Bytes : List ℕ → Type 0
Bytes s = (i : ℕ) → get_or s i 0 < 256

-- A list from place k on is its byte there, and the list from the next place on.
next : (s : List ℕ) (k m : ℕ) → k + 1 ≡ m → k < length s → drop k s ≡ get_or s k 0 ∷ drop m s
next s k m e h = drop-cons s k 0 h ∙ ap (λ (j : ℕ). get_or s k 0 ∷ drop j s) (sym (add-one k) ∙ e)

module _ (s : List ℕ) (b : Bytes s) (at : ℕ) where
  -- A number read has the bytes that it was read from.
  pub bytes-be : (n : ℕ) → at + n ≤ length s → bytes n (be n s at) ++ drop (at + n) s ≡ drop at s
  unfolding be bytes
  bytes-be zero h = ap (λ (k : ℕ). drop k s) (add-zero at)
  bytes-be (suc zero) h =
      let low : get_or s at 0 % 256 ≡ get_or s at 0 = omega (arith, b at) in
      ap (λ (x : ℕ). x ∷ drop (at + 1) s) low ∙ sym (next s at (at + 1) refl (omega arith))
  bytes-be (suc (suc n)) h =
      let m = be (suc n) s at in
      let x = get_or s (at + suc n) 0 in
      let rest = drop (at + suc (suc n)) s in
      let high : (m * 256 + x) / 256 ≡ m = omega (arith, b (at + suc n)) in
      let low : (m * 256 + x) % 256 ≡ x = omega (arith, b (at + suc n)) in
      ap (λ (v : ℕ). (bytes (suc n) v ++ (((m * 256 + x) % 256) ∷ [])) ++ rest) high
      ∙ ap (λ (y : ℕ). (bytes (suc n) m ++ (y ∷ [])) ++ rest) low
      ∙ append_assoc (bytes (suc n) m) (x ∷ []) rest
      ∙ ap (λ (l : List ℕ). bytes (suc n) m ++ l) (sym (next s (at + suc n) (at + suc (suc n)) (omega arith) (omega arith)))
      ∙ bytes-be (suc n) (omega arith)

  pub bytes2-be2 : at + 2 ≤ length s → bytes2 (be2 s at) ++ drop (at + 2) s ≡ drop at s
  bytes2-be2 h = bytes-be 2 h

  pub bytes4-be4 : at + 4 ≤ length s → bytes4 (be4 s at) ++ drop (at + 4) s ≡ drop at s
  bytes4-be4 h = bytes-be 4 h
