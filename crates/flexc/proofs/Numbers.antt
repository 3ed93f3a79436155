-- Numbers in decimal digits.
use Rattle.std.proofs.Common.{ℕ, ◌+◌, ◌-◌, ◌*◌, ◌<◌, ◌≤◌, List, [], ◌∷◌, arith}
use Rattle.std.proofs.lemmas.List.Elements.{All-head, All-tail, All-nil, All-cons}
use Rattle.flexc.specs.Words.{IsDigit, IsEnding, number_behind}

-- further digits say no smaller number
least : (n : ℕ) (digits : List ℕ) → n ≤ number_behind n digits
least n [] = omega arith
least n (d ∷ ds) = omega (arith, least (10 * n + (d - 48)) ds)

pub no_digits : (n : ℕ) → n ≤ 1000000000 → IsEnding n []
no_digits n le = record { digits_are = All-nil IsDigit; most = le }

pub one_digit : (n d : ℕ) (ds : List ℕ) → IsDigit d → IsEnding (10 * n + (d - 48)) ds → IsEnding n (d ∷ ds)
one_digit n d ds digit e = record { digits_are = All-cons IsDigit d ds digit e.digits_are; most = e.most }

pub first_digit : (n d : ℕ) (ds : List ℕ) → IsEnding n (d ∷ ds) → IsDigit d
first_digit n d ds e = All-head IsDigit d ds e.digits_are

pub other_digits : (n d : ℕ) (ds : List ℕ) → IsEnding n (d ∷ ds) → IsEnding (10 * n + (d - 48)) ds
other_digits n d ds e = record { digits_are = All-tail IsDigit d ds e.digits_are; most = e.most }

pub too_large : (n d : ℕ) (ds : List ℕ) → 1000000000 < 10 * n + (d - 48) → IsEnding n (d ∷ ds) → ⊥
too_large n d ds lt e = let most = e.most in omega (arith, lt, most, least (10 * n + (d - 48)) ds)

pub ruleset endings = (no_digits, one_digit, first_digit, other_digits, too_large)
