-- How the code reads digits.
use Rattle.std.specs.Prelude.{ℕ, ◌+◌, ◌-◌, ◌*◌, Option, Some, None, ◌&&◌, if◌then◌else◌, nat_lt}
use Rattle.document_sites.specs.BindingTexts.{is_digit}

-- a number with one digit more, if that is a digit and the number stays below this
abbrev pub longer_below : ℕ → ℕ → ℕ → Option ℕ
longer_below limit number digit = if is_digit digit && nat_lt (number * 10 + (digit - 48)) limit then Some (number * 10 + (digit - 48)) else None
