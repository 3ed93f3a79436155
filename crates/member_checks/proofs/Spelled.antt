-- The digits and the bytes of a character's number.
use Rattle.std.proofs.Common.{◌≡◌, ℕ, zero, suc, ◌+◌, ◌-◌, ◌*◌, ◌/◌, ◌%◌, ◌<◌, ◌≤◌, [], ◌∷◌, arith}
use Rattle.std.proofs.Math.Utf8.{encode}
use Rattle.member_checks.specs.Rooms.{room}

-- one digit more leaves room for the others
pub next_room : (k n d : ℕ) → n < room k → (k ≡ 0 → ⊥) → d ≤ 36 → n * 16 + d < room (k - 1)
next_room zero n d h some b = omega (arith, h)
next_room (suc zero) n d h some b = omega (arith, h, b)
next_room (suc (suc zero)) n d h some b = omega (arith, h, b)
next_room (suc (suc (suc zero))) n d h some b = omega (arith, h, b)
next_room (suc (suc (suc (suc k)))) n d h some b = omega (arith, h)

pub two_bytes : (n : ℕ) → 128 ≤ n → n < 2048 → (192 + n / 64) ∷ (128 + n % 64) ∷ [] ≡ encode n
unfolding encode
two_bytes n h k = grind (arith, h, k)

pub three_bytes : (n : ℕ) → 2048 ≤ n → n < 65536 → (224 + n / 4096) ∷ (128 + (n / 64) % 64) ∷ (128 + n % 64) ∷ [] ≡ encode n
unfolding encode
three_bytes n h k = grind (arith, h, k)

pub four_bytes : (n : ℕ) → 65536 ≤ n → (240 + n / 262144) ∷ (128 + (n / 4096) % 64) ∷ (128 + (n / 64) % 64) ∷ (128 + n % 64) ∷ [] ≡ encode n
unfolding encode
four_bytes n h = grind (arith, h)
