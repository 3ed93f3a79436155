-- Which bytes are a SWF file, and what they say: its version, its tags, its program and the name of its main class.
-- SWF File Format Specification, version 19: the header, the tag format, DoABC and SymbolClass.
use Rattle.std.specs.Prelude.{◌≡◌, ◌≢◌, ℕ, ◌+◌, ◌*◌, ◌/◌, ◌<◌, ◌^◌, ◌==◌, if◌then◌else◌, Bool, true, false, Option, Some, None, List, [], ◌∷◌, ◌++◌, length, All, codes, nat_le, ◌⊎◌}
use Rattle.std.specs.Str.{IsUtf8}
use Rattle.byteorder.specs.Endian.{little_bytes}
use Rattle.flex_base.specs.Split.{Split, Each}
use Rattle.swf_tags.specs.Spelling.{end_tag, show_frame, set_background_color, file_attributes, symbol_class, do_abc, long_header, zero_ended, abc_body, symbol_body}
use Rattle.swf_tags.specs.declared.types.Tag.{Tag}

-- numbers that bytes can have
abbrev pub AreBytes : List ℕ → Type 0
AreBytes bytes = All (λ byte. byte < 256) bytes

-- a tag as it stands in a file: its code, whether its header is the long one, and the bytes of its body
pub record Part : Type 0 where
  pub code : ℕ
  pub long : Bool
  pub body : List ℕ

-- the bytes of a header
abbrev pub header_size : Bool → ℕ
header_size false = 2
header_size true = 6

-- the short header has the length of the body in its lower six bits, where 63 stands for the long header; that has the length behind it
abbrev pub header_bytes : Bool → ℕ → ℕ → List ℕ
header_bytes false code size = little_bytes 2 (64 * code + size)
header_bytes true code size = long_header code size

-- below this is the length of the body
abbrev pub size_limit : Bool → ℕ
size_limit false = 63
size_limit true = 2 ^ 32

pub record IsHeader (part : Part) (bytes : List ℕ) : Type 0 where
  pub code_fits : part.code < 1024
  pub size_fits : length part.body < size_limit part.long
  pub is : bytes ≡ header_bytes part.long part.code (length part.body)

-- a header, and the body behind it
abbrev pub IsPart : Part → List ℕ → Type 0
IsPart part bytes = Split (IsHeader part) (λ back. back ≡ part.body) bytes

abbrev pub part_size : Part → ℕ
part_size part = header_size part.long + length part.body

-- the tag that begins at this place
abbrev pub tag_at : ℕ → Part → Tag
tag_at place part = record { place = place; code = part.code; length = length part.body }

-- the tags that stand one behind another, the first at this place
abbrev pub tags_at : ℕ → List Part → List Tag
tags_at place [] = []
tags_at place (part ∷ parts) = tag_at place part ∷ tags_at (place + part_size part) parts

-- the last tag is the only End
abbrev pub EndsOnce : List Part → Type 0
EndsOnce [] = ⊥
EndsOnce (part ∷ parts) = ((part.code ≡ end_tag) × (parts ≡ [])) ⊎ ((part.code ≢ end_tag) × EndsOnce parts)

-- the bodies of the tags with this code, in order
abbrev pub bodies : ℕ → List Part → List (List ℕ)
bodies code [] = []
bodies code (part ∷ parts) = if part.code == code then part.body ∷ bodies code parts else bodies code parts

-- a text without a zero, and its end
pub record IsName (name bytes : List ℕ) : Type 0 where
  pub no_zero : All (λ byte. byte ≢ 0) name
  pub valid : IsUtf8 name
  pub is : bytes ≡ zero_ended name

-- the body of a DoABC: four bytes of flags, a name, and the ABC
pub record IsDoAbc (abc body : List ℕ) : Type 0 where
  pub name : List ℕ
  pub parts : Split (λ flags. length flags ≡ 4) (Split (IsName name) (λ rest. rest ≡ abc)) body

-- one of these bodies is all that there is, and stands for this ABC
pub record IsProgram (abc : List ℕ) (programs : List (List ℕ)) : Type 0 where
  pub body : List ℕ
  pub one : programs ≡ body ∷ []
  pub holds : IsDoAbc abc body

-- a pair of a SymbolClass: a number, and the name of the class that belongs to it
pub record Pair : Type 0 where
  pub id : ℕ
  pub name : List ℕ

pub record IsPair (pair : Pair) (bytes : List ℕ) : Type 0 where
  pub id_fits : pair.id < 2 ^ 16
  pub parts : Split (λ front. front ≡ little_bytes 2 pair.id) (IsName pair.name) bytes

-- the body of a SymbolClass: the number of its pairs, and the pairs
pub record IsSymbolClass (pairs : List Pair) (body : List ℕ) : Type 0 where
  pub count_fits : length pairs < 2 ^ 16
  pub parts : Split (λ front. front ≡ little_bytes 2 (length pairs)) (Each IsPair pairs) body

-- a list of pairs for each body
abbrev pub AreSymbols : List (List Pair) → List (List ℕ) → Type 0
AreSymbols [] [] = Unit {0}
AreSymbols (pairs ∷ symbols) (body ∷ others) = IsSymbolClass pairs body × AreSymbols symbols others
AreSymbols _ _ = ⊥

-- the first of two, where it is there
abbrev pub first_of : Option (List ℕ) → Option (List ℕ) → Option (List ℕ)
first_of None other = other
first_of (Some name) other = Some name

-- the pair with the number 0 names the main class
abbrev pub main_of : Pair → Option (List ℕ)
main_of pair = if pair.id == 0 then Some pair.name else None

-- the first such pair of a list counts
abbrev pub main_in : List Pair → Option (List ℕ)
main_in [] = None
main_in (pair ∷ pairs) = first_of (main_of pair) (main_in pairs)

-- and over all lists
abbrev pub main_among : List (List Pair) → Option (List ℕ)
main_among [] = None
main_among (pairs ∷ symbols) = first_of (main_in pairs) (main_among symbols)

-- a rectangle, whose first five bits say how many bits each of its four sides takes
abbrev pub rectangle_size : ℕ → ℕ
rectangle_size first = (5 + 4 * (first / 8) + 7) / 8

pub record IsRectangle (bytes : List ℕ) : Type 0 where
  pub first : ℕ
  pub others : List ℕ
  pub is : bytes ≡ first ∷ others
  pub size : length bytes ≡ rectangle_size first

-- `FWS`, the version, the length of the whole file, the rectangle, the frame rate and the number of frames, the tags up to End, and
-- what stands behind it; one DoABC has the ABC, and the first pair with the number 0 in the SymbolClass tags has the name
pub record IsSwf (version : ℕ) (tags : List Tag) (abc main bytes : List ℕ) : Type 0 where
  pub rectangle : List ℕ
  pub frames : List ℕ
  pub tag_bytes : List ℕ
  pub behind : List ℕ
  pub parts : List Part
  pub symbols : List (List Pair)
  pub is : bytes ≡ codes "FWS" ++ version ∷ [] ++ little_bytes 4 (length bytes) ++ rectangle ++ frames ++ tag_bytes ++ behind
  pub fits : length bytes < 2 ^ 32
  pub is_rectangle : IsRectangle rectangle
  pub four : length frames ≡ 4
  pub each : Each IsPart parts tag_bytes
  pub placed : tags ≡ tags_at (12 + length rectangle) parts
  pub ends : EndsOnce parts
  pub program : IsProgram abc (bodies do_abc parts)
  pub named : AreSymbols symbols (bodies symbol_class parts)
  pub main_class : main_among symbols ≡ Some main

-- the tags of a written file in order
abbrev pub written_parts : List ℕ → List ℕ → List Part
written_parts main abc =
    record { code = file_attributes; long = false; body = 0x08 ∷ 0x00 ∷ 0x00 ∷ 0x00 ∷ [] }
    ∷ record { code = set_background_color; long = false; body = 0xFF ∷ 0xFF ∷ 0xFF ∷ [] }
    ∷ record { code = do_abc; long = true; body = abc_body abc }
    ∷ record { code = symbol_class; long = nat_le 63 (length (symbol_body main)); body = symbol_body main }
    ∷ record { code = show_frame; long = false; body = [] }
    ∷ record { code = end_tag; long = false; body = [] }
    ∷ []

abbrev pub written_tags : List ℕ → List ℕ → List Tag
written_tags main abc = tags_at 21 (written_parts main abc)
