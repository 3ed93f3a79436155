-- Room for the digits of a character's number.
use Rattle.std.specs.Prelude.{ℕ, zero, suc}

-- the number that digits give, before so many others, is below this; there are at most three others
abbrev pub room : ℕ → ℕ
room zero = 65536
room (suc zero) = 2048
room (suc (suc zero)) = 64
room (suc (suc (suc zero))) = 2
room (suc (suc (suc (suc n)))) = 0
