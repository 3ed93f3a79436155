-- What stands at the start of bytes, and what follows it.
use Rattle.std.specs.Prelude.{◌≡◌, ℕ, ◌+◌, List, length, take, drop, if◌then◌else◌, ◌==◌, nat_le, Option, Some, None, MatchOption}
use Rattle.std.specs.List.{position}
use Rattle.std.specs.Str.{is_utf8}
use Rattle.byteorder.specs.Endian.{little_number}

-- what stands at the start, and what follows it
pub record Front (A : Type 0) : Type 0 where
  pub it : A
  pub rest : List ℕ

-- the reading gives this item and this rest
abbrev pub Gives : {A : Type 0} → Option (Front A) → A → List ℕ → Type 0
Gives reading it rest = reading ≡ Some (record { it = it; rest = rest })

-- an answer of the code is what the reading gives, seen so, and `None` where it gives nothing
abbrev pub Finds : {A B : Type 0} → Option A → (B → A) → Option B → Type 0
Finds reading view result = MatchOption result (reading ≡ None) (λ x. reading ≡ Some (view x))

-- the first n bytes, where there are so many
unfoldable pub split : ℕ → List ℕ → Option (Front (List ℕ))
split n bytes = if nat_le n (length bytes) then Some (record { it = take n bytes; rest = drop n bytes }) else None

abbrev pub number_of : ℕ → Option (Front (List ℕ)) → Option (Front ℕ)
number_of n None = None
number_of n (Some field) = Some (record { it = little_number n field.it; rest = field.rest })

-- a number of n bytes, the lowest first
abbrev pub number : ℕ → List ℕ → Option (Front ℕ)
number n bytes = number_of n (split n bytes)

-- the bytes before the first 0, if they are UTF-8, and those after it
abbrev pub name_to : List ℕ → Option ℕ → Option (Front (List ℕ))
name_to bytes None = None
name_to bytes (Some end) = if is_utf8 (take end bytes) then Some (record { it = take end bytes; rest = drop (end + 1) bytes }) else None

unfoldable pub name : List ℕ → Option (Front (List ℕ))
name bytes = name_to bytes (position (λ byte. byte == 0) bytes)
