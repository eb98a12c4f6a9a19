-- An answer as one 64-bit number: number × 2^56 + row × 2^40 + size × 2^24 + value. Rests on image's answer.
use Rattle.std.specs.Prelude.{ℕ, ◌+◌, ◌*◌, ◌^◌}
use Rattle.image.specs.declared.answer.Answer.{Answer}

unfoldable pub packed : Answer → ℕ
packed a = a.number * 2 ^ 56 + a.row * 2 ^ 40 + a.size * 2 ^ 24 + a.value
