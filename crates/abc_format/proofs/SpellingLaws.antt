-- The writer's spelling of a number stands for it.
use Rattle.std.proofs.Common.{ℕ, ◌<◌, ◌^◌, ℤ, [], sym, ap, ◌∙◌, arith}
use Rattle.std.specs.Prelude.{FitsSigned}
use Rattle.std.specs.Int.{cast_unsigned, w32}
use Rattle.std.proofs.Math.Facts.{Fits-of_z}
use Rattle.std.proofs.lemmas.Int.{to_z-of_z}
use Rattle.std.proofs.lemmas.List.{append-nil}
use Rattle.abc_format.specs.Numbers.{u30_bytes, int_bytes, u32_at}
use Rattle.abc_format.specs.Grammar.{IsSpelledBy, IsU30, IsS32}
use Rattle.abc_format.proofs.NumberLaws.{u32_at-u30_bytes, u32_at-int_bytes}

-- the shortest spelling
pub spelled : (n : ℕ) → n < 4294967296 → IsSpelledBy n (u30_bytes n)
spelled n lt = ap u32_at (sym (append-nil (u30_bytes n))) ∙ u32_at-u30_bytes n [] lt

pub u30-spelled : (n : ℕ) → n < 1073741824 → IsU30 n (u30_bytes n)
u30-spelled n lt = record { below = lt; spelled = spelled n (omega arith) }

pub int-spelled : (z : ℤ) → FitsSigned w32 z → IsS32 z (int_bytes z)
int-spelled z fits =
    let in_range = Fits-of_z fits in
    let lt : cast_unsigned w32 z < 2 ^ 32 = in_range.fits in
    record { bits = cast_unsigned w32 z; spelled = record { below = lt; spelled = u32_at-int_bytes z [] lt }; is = to_z-of_z w32 z fits }
