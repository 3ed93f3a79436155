-- Names with a prefix, by the first place of their `:`.
use Rattle.std.proofs.Common.{◌≡◌, ℕ, suc, ◌+◌, ◌<◌, Bool, true, false, ◌||◌, not, cond, ltb, List, [], ◌∷◌, length, refl, ◌∙◌, arith}
use Rattle.std.specs.List.{list_any, position_or_len, before_first, after_first}
use Rattle.std.proofs.lemmas.Bool.Decides.{nat_tests}
use Rattle.mxml_tree.specs.Namespaces.{is_colon, prefix_of, local_of}

passes_before : (b t : Bool) (n m : ℕ) → t ≡ ltb n m → (b || t) ≡ ltb (cond (not b) (1 + n) 0) (suc m)
passes_before true t n m e = grind (arith, nat_tests)
passes_before false t n m e = grind (arith, nat_tests)

-- an element passes where the first place of one is before the end
any_by_place : (p : ℕ → Bool) (xs : List ℕ) → list_any p xs ≡ ltb (position_or_len p xs) (length xs)
any_by_place p [] = refl
any_by_place p (x ∷ xs) = passes_before (p x) (list_any p xs) (position_or_len p xs) (length xs) (any_by_place p xs)

has_colon : (name : List ℕ) → position_or_len is_colon name < length name → list_any is_colon name ≡ true
has_colon name lt = any_by_place is_colon name ∙ grind (arith, nat_tests)

has_no_colon : (name : List ℕ) → position_or_len is_colon name ≡ length name → list_any is_colon name ≡ false
has_no_colon name e = any_by_place is_colon name ∙ grind (arith, nat_tests)

pub prefix_before : (name : List ℕ) → position_or_len is_colon name < length name → prefix_of name ≡ before_first is_colon name
prefix_before name lt = rw (has_colon name lt, prefix_of)

pub local_behind : (name : List ℕ) → position_or_len is_colon name < length name → local_of name ≡ after_first is_colon name
local_behind name lt = rw (has_colon name lt, local_of)

pub no_prefix : (name : List ℕ) → position_or_len is_colon name ≡ length name → prefix_of name ≡ []
no_prefix name e = rw (has_no_colon name e, prefix_of)

pub local_is_all : (name : List ℕ) → position_or_len is_colon name ≡ length name → local_of name ≡ name
local_is_all name e = rw (has_no_colon name e, local_of)
