-- Words on texts and lists.
use Rattle.std.specs.Prelude.{ℕ, suc, ◌-◌, List, [], ◌∷◌, length, take, drop, Bool, true, false, ◌&&◌, if◌then◌else◌, nat_le, ◌==◌, Option, Some, None, bytes_eq}
use Rattle.std.specs.List.{list_any}

-- UTF-8, byte by byte
abbrev pub Text : Type 0
Text = List ℕ

abbrev pub among : Text → List Text → Bool
among name names = list_any (bytes_eq name) names

abbrev pub begins_with : Text → Text → Bool
begins_with start text = bytes_eq start (take (length start) text)

abbrev pub ends_with : Text → Text → Bool
ends_with end text = nat_le (length end) (length text) && bytes_eq end (drop (length text - length end) text)

-- without so many bytes at the end
abbrev pub cut_end : ℕ → Text → Text
cut_end n text = take (length text - n) text

abbrev pub add_byte : Bool → ℕ → List Text → List Text
add_byte true b pieces = [] ∷ pieces
add_byte false b [] = (b ∷ []) ∷ []
add_byte false b (piece ∷ pieces) = (b ∷ piece) ∷ pieces

-- the pieces between the bytes c, at least one
abbrev pub split : ℕ → Text → List Text
split c [] = [] ∷ []
split c (b ∷ bs) = add_byte (b == c) b (split c bs)

abbrev pub without_last : {A : Type 0} → List A → List A
without_last [] = []
without_last (x ∷ []) = []
without_last (x ∷ y ∷ xs) = x ∷ without_last (y ∷ xs)

-- the last name, and the empty one where there is none
abbrev pub last_name : List Text → Text
last_name [] = []
last_name (x ∷ []) = x
last_name (x ∷ y ∷ xs) = last_name (y ∷ xs)

-- the index of the first number that is n, or the length
abbrev pub place_of : ℕ → List ℕ → ℕ
place_of n [] = 0
place_of n (x ∷ xs) = if x == n then 0 else suc (place_of n xs)

abbrev pub is_there : {A : Type 0} → Option A → Bool
is_there None = false
is_there (Some x) = true
