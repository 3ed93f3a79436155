-- The characters that names are made of, and names.
use Rattle.std.specs.Prelude.{◌≡◌, ◌⊎◌, ℕ, ◌==◌, nat_lt, ◌||◌, Bool, true, false, List, ◌∷◌, ◌++◌, IsTrue, encode_utf8, encode_utf8_all, codes}
use Rattle.std.specs.List.{list_all}
use Rattle.std.specs.Str.{all_scalars}
use Rattle.std.specs.Char.{IsScalar, is_ascii_alphabetic, is_ascii_digit}
use Rattle.unicode_ident.specs.Ident.{is_xid_start, is_xid_continue}
use Rattle.mxml_items.specs.Runs.{StopsAt, is_in_name}

-- XID start; below 128 these are the letters
abbrev pub is_start : ℕ → Bool
is_start c = elim (nat_lt c 128) [ true ↦ is_ascii_alphabetic c | false ↦ is_xid_start c ]

-- XID continue; below 128 these are letters, digits and `_`
abbrev pub is_continue : ℕ → Bool
is_continue c = elim (nat_lt c 128) [ true ↦ (is_ascii_alphabetic c || is_ascii_digit c) || (c == 95) | false ↦ is_xid_continue c ]

-- what begins a part of a name, and what goes on with it
abbrev pub starts_part : ℕ → Bool
starts_part c = is_start c || (c == 95)

abbrev pub continues_part : ℕ → Bool
continues_part c = (is_continue c || (c == 45)) || (c == 46)

-- a part of a name: a first character that passes one test, then others that each pass another
pub record IsPart (bytes : List ℕ) : Type 0 where
  pub first : ℕ
  pub others : List ℕ
  pub are_characters : IsTrue (all_scalars (first ∷ others))
  pub spelled : bytes ≡ encode_utf8_all (first ∷ others)
  pub starts_it : IsTrue (starts_part first)
  pub continue_it : IsTrue (list_all continues_part others)

-- two parts joined by `:`
pub record AreTwoParts (bytes : List ℕ) : Type 0 where
  pub prefix : List ℕ
  pub local : List ℕ
  pub is : bytes ≡ prefix ++ (codes ":" ++ local)
  pub is_prefix : IsPart prefix
  pub is_local : IsPart local

-- a name: one part, or two joined by `:`
abbrev pub IsName : List ℕ → Type 0
IsName bytes = IsPart bytes ⊎ AreTwoParts bytes

-- a name at the front of a text, behind which stands nothing that names are made of
pub record BeginsWithName (text name rest : List ℕ) : Type 0 where
  pub is : text ≡ name ++ rest
  pub is_name : IsName name
  pub stops : StopsAt is_in_name rest

abbrev pub HasNoName : List ℕ → Type 0
HasNoName text = (name rest : List ℕ) → ¬ (BeginsWithName text name rest)

-- no character begins a text that may begin a part
abbrev pub HasNoStart : List ℕ → Type 0
HasNoStart text = (c : ℕ) (rest : List ℕ) → IsScalar c → text ≡ encode_utf8 c ++ rest → starts_part c ≡ false

-- a character that may begin a part, and what stands behind it
abbrev pub BeginsWithStart : List ℕ → List ℕ → Type 0
BeginsWithStart text rest = (c : ℕ) × (starts_part c ≡ true) × (text ≡ encode_utf8 c ++ rest)
