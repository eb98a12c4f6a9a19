-- The pieces of an image, laid one behind the other, are the image. Rests on the fields' laws and on Calls.
use mathlib.Core.Path.{◌≡◌, ap, ◌∙◌}
use mathlib.Core.List.{List, [], ◌∷◌, ◌++◌}
use Prim.Native.Nat.{ℕ, ◌+◌, ◌/◌, ◌≤◌}
use native.Mathlib.Omega.{arith}
use lib.ListN.{length, drop}
use Rattle.fields.specs.Fields.{bytes, bytes2, bytes4, laid}
use Rattle.fields.proofs.Laws.{laid_next, laid-start}
use Rattle.image.specs.Calls.{image_of}

pub image_length : (rs : List ℕ) → length (image_of rs) ≡ 7 + length rs
unfolding image_of bytes
image_length rs = omega arith

-- The first field is laid in d1, the version in d2, the number of rows in d3 and the rows in d4.
pub image_laid : (rs d d1 d2 d3 d4 : List ℕ) → 7 + length rs ≤ length d → d1 ≡ laid d 0 (bytes4 (3 + length rs)) → d2 ≡ laid d1 4 (bytes 1 1)
    → d3 ≡ laid d2 5 (bytes2 (length rs / 14)) → d4 ≡ laid d3 7 rs → d4 ≡ image_of rs ++ drop (7 + length rs) d
unfolding image_of bytes
image_laid rs d d1 d2 d3 d4 h e1 e2 e3 e4 =
    let f = bytes4 (3 + length rs) in
    let n = bytes2 (length rs / 14) in
    let two : d2 ≡ laid d 0 (f ++ (1 ∷ [])) = e2 ∙ ap (λ (x : List ℕ). laid x 4 (1 ∷ [])) e1 ∙ laid_next d 0 f (1 ∷ []) (omega arith) in
    let three : d3 ≡ laid d 0 (f ++ (1 ∷ []) ++ n) = e3 ∙ ap (λ (x : List ℕ). laid x 5 n) two ∙ laid_next d 0 (f ++ (1 ∷ [])) n (omega arith) in
    let four : d4 ≡ laid d 0 (f ++ (1 ∷ []) ++ n ++ rs) = e4 ∙ ap (λ (x : List ℕ). laid x 7 rs) three ∙ laid_next d 0 (f ++ (1 ∷ []) ++ n) rs (omega arith) in
    four ∙ laid-start d (image_of rs) ∙ ap (λ (k : ℕ). image_of rs ++ drop k d) (image_length rs)
