-- Big-endian numbers in a list of bytes, the bytes of such a number, and bytes laid into a buffer.
use Rattle.std.specs.Prelude.{ℕ, zero, suc, ◌+◌, ◌*◌, ◌/◌, ◌%◌, List, [], ◌∷◌, ◌++◌, length, get_or, take, drop}

-- The number of the n bytes that start at `at`.
unfoldable pub be : ℕ → List ℕ → ℕ → ℕ
be zero s at = 0
be (suc zero) s at = get_or s at 0
be (suc (suc n)) s at = be (suc n) s at * 256 + get_or s (at + suc n) 0

-- The n bytes of a number, which are the lowest of all its bytes.
unfoldable pub bytes : ℕ → ℕ → List ℕ
bytes zero v = []
bytes (suc n) v = bytes n (v / 256) ++ ((v % 256) ∷ [])

-- The number of two bytes that starts at `at`, and of four.
abbrev pub be2 : List ℕ → ℕ → ℕ
be2 s at = be 2 s at

abbrev pub be4 : List ℕ → ℕ → ℕ
be4 s at = be 4 s at

-- The two bytes of a number, and the four.
abbrev pub bytes2 : ℕ → List ℕ
bytes2 v = bytes 2 v

abbrev pub bytes4 : ℕ → List ℕ
bytes4 v = bytes 4 v

-- A buffer d with the bytes w laid into it from place `at` on; what is before and after them keeps what it held.
unfoldable pub laid : List ℕ → ℕ → List ℕ → List ℕ
laid d at w = take at d ++ w ++ drop (at + length w) d
