-- Texts of attributes and property tags: pieces, literals and percentages.
use Rattle.std.specs.Prelude.{ℕ, suc, ◌+◌, ◌-◌, ◌*◌, ◌^◌, ℤ, pos, neg_ℤ, List, [], ◌∷◌, ◌++◌, length, Bool, true, false, not, ◌&&◌, ◌||◌, if◌then◌else◌, ◌==◌, nat_lt, nat_le, Option, Some, None, option_map, bytes_eq, codes}
use Rattle.std.specs.List.{list_all, fold}
use Rattle.flex_program.specs.Program.{Literal}
use Rattle.source_sites.specs.Texts.{Text, ends_with, cut_end}
use Rattle.source_sites.specs.Types.{ValueType}
use Rattle.source_sites.specs.Members.{Property}

pub data Piece : Type 0 where
  Plain : (text : Text) → Piece
  -- what stands between a `{` and the first `}` behind it
  Part : (text : Text) → Piece
  -- a `{` without a `}` behind it
  Unclosed : Piece

abbrev pub add_plain : ℕ → List Piece → List Piece
add_plain b (Plain text ∷ pieces) = Plain (b ∷ text) ∷ pieces
add_plain b pieces = Plain (b ∷ []) ∷ pieces

abbrev pub add_to_part : ℕ → List Piece → List Piece
add_to_part b (Part text ∷ pieces) = Part (b ∷ text) ∷ pieces
add_to_part b pieces = pieces

abbrev pub next_is_brace : Text → Bool
next_is_brace [] = false
next_is_brace (b ∷ bs) = b == 123 || b == 125

pub data Byte : Type 0 where
  Escapes : Byte
  Opens : Byte
  Plain_byte : Byte

abbrev pub byte_kind : Bool → ℕ → Text → Byte
byte_kind escaped b rest = if escaped then Plain_byte else if b == 92 && next_is_brace rest then Escapes else if b == 123 then Opens else Plain_byte

abbrev mutual
  -- `\{` and `\}` write a plain brace; any other `}` outside parts is a plain one too
  pub pieces_outside : Text → Bool → List Piece
  pieces_outside [] escaped = []
  pieces_outside (b ∷ bs) escaped =
      elim (byte_kind escaped b bs) [ Escapes ↦ pieces_outside bs true | Opens ↦ pieces_inside bs false | Plain_byte ↦ add_plain b (pieces_outside bs false) ]

  pub pieces_inside : Text → Bool → List Piece
  pieces_inside [] escaped = Unclosed ∷ []
  pieces_inside (b ∷ bs) escaped = elim (b == 125) [ true ↦ Part [] ∷ pieces_outside bs false | false ↦ add_to_part b (pieces_inside bs false) ]

abbrev pub pieces : Text → List Piece
pieces text = pieces_outside text false

abbrev pub is_plain : Piece → Bool
is_plain (Plain text) = true
is_plain _ = false

-- the text has a `{` that isn't escaped
abbrev pub is_binding : Text → Bool
is_binding text = not (list_all is_plain (pieces text))

abbrev pub plain_text : Piece → Text
plain_text (Plain text) = text
plain_text _ = []

abbrev pub joined : List Piece → Text
joined [] = []
joined (p ∷ ps) = plain_text p ++ joined ps

-- what a text without parts stands for
abbrev pub literal_text : Text → Text
literal_text text = joined (pieces text)

-- what a text with parts is
pub data BindingText : Type 0 where
  One_part : (text : Text) → BindingText
  -- `@`, one part and nothing else
  Two_way : (text : Text) → BindingText
  Concatenation : (pieces : List Piece) → BindingText

abbrev pub binding_text_of : List Piece → BindingText
binding_text_of (Part text ∷ []) = One_part text
binding_text_of (Plain plain ∷ Part text ∷ []) = if bytes_eq plain (codes "@") then Two_way text else Concatenation (Plain plain ∷ Part text ∷ [])
binding_text_of ps = Concatenation ps

abbrev pub binding_text : Text → BindingText
binding_text text = binding_text_of (pieces text)

abbrev pub is_two_way : BindingText → Bool
is_two_way (Two_way text) = true
is_two_way _ = false

-- how many bindings a text is
abbrev pub bindings_of_text : Text → ℕ
bindings_of_text text = if is_two_way (binding_text text) then 2 else 1

abbrev pub is_digit : ℕ → Bool
is_digit b = nat_le 48 b && nat_le b 57

abbrev pub number_of : List ℕ → ℕ
number_of digits = fold (λ n digit. n * 10 + (digit - 48)) 0 digits

abbrev pub digits_below : ℕ → Text → Option ℕ
digits_below limit digits =
    if list_all is_digit digits && nat_le 1 (length digits) && nat_lt (number_of digits) limit then Some (number_of digits) else None

-- `-?[0-9]+` that fits an int
abbrev pub whole_number : Text → Option ℤ
whole_number [] = None
whole_number (b ∷ bs) =
    if b == 45 then option_map (λ n. neg_ℤ (pos n)) (digits_below (suc (2 ^ 31)) bs) else option_map pos (digits_below (2 ^ 31) (b ∷ bs))

abbrev pub truth_value : Text → Option Literal
truth_value text =
    if bytes_eq text (codes "true") then Some (Literal.Truth true)
    else if bytes_eq text (codes "false") then Some (Literal.Truth false)
    else None

-- what a text becomes as a value of a type, if it converts
abbrev pub literal_value : ValueType → Text → Option Literal
literal_value ValueType.String text = Some (Literal.Quoted text)
literal_value ValueType.Int text = option_map Literal.Whole (whole_number text)
literal_value ValueType.Boolean text = truth_value text
literal_value _ text = None

-- a property with the value that a text sets it to
pub record Setting : Type 0 where
  pub name : Text
  pub value : Literal

abbrev pub percent_name : Text → Option Text
percent_name name =
    if bytes_eq name (codes "width") then Some (codes "percentWidth")
    else if bytes_eq name (codes "height") then Some (codes "percentHeight")
    else None

abbrev pub percent_value : Text → Option ℤ
percent_value text = if ends_with (codes "%") text then whole_number (cut_end 1 text) else None

abbrev pub setting_of : Option Text → Option ℤ → Option Setting
setting_of (Some name) (Some n) = Some (record { name = name; value = Literal.Whole n })
setting_of _ _ = None

-- `N%` for the native width and height
abbrev pub percent_setting : Property → Text → Option Setting
percent_setting p text = if p.native then setting_of (percent_name p.name) (percent_value text) else None

abbrev pub or_literal : Option Setting → Property → Text → Option Setting
or_literal (Some s) p text = Some s
or_literal None p text = option_map (λ value. record { name = p.name; value = value }) (literal_value p.type text)

-- what a text without parts sets
abbrev pub setting : Property → Text → Option Setting
setting p text = or_literal (percent_setting p (literal_text text)) p (literal_text text)
