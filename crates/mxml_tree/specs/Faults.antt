-- The first fault of a document's items.
use Rattle.std.specs.Prelude.{ℕ, ◌==◌, nat_le, ◌&&◌, not, Bool, true, false, List, [], ◌∷◌, ◌++◌, map, filter, filter_map, length, drop, Option, Some, None, is_none, option_map, codes, bytes_eq}
use Rattle.std.specs.List.{list_any, list_all, starts_with}
use Rattle.mxml_items.specs.Pieces.{is_white}
use Rattle.mxml_items.specs.Items.{Written, Item, Instruction, Comment, CData, Tag, End_tag, Words, Placed}
use Rattle.mxml_tree.specs.declared.fault.TreeCode.{TreeCode}
use Rattle.mxml_tree.specs.declared.fault.TreeCode.TheVariants as code
use Rattle.mxml_tree.specs.Namespaces.{declares, prefix_of}

-- an element that a place of the text lies in: the name of its start tag, and the prefixes that this declares
pub record Open : Type 0 where
  pub name : List ℕ
  pub prefixes : List (List ℕ)

-- where an item stands: the elements around it, the innermost first, and whether an element came before
pub record Around : Type 0 where
  pub elements : List Open
  pub rooted : Bool

abbrev pub at_start : Around
at_start = record { elements = []; rooted = false }

-- the prefixes that are declared inside elements, the innermost first; none and `xml` are outside all
abbrev pub prefixes_around : List Open → List (List ℕ)
prefixes_around [] = [] ∷ codes "xml" ∷ []
prefixes_around (e ∷ elements) = e.prefixes ++ prefixes_around elements

-- the prefixes that a tag's attributes declare
abbrev pub own_prefixes : List Written → List (List ℕ)
own_prefixes attributes = filter_map (λ (a : Written). declares a.name) attributes

-- where the next item stands: a start tag opens an element, an end tag closes the innermost
abbrev pub past : Item → Around → Around
past (Tag name attributes true) around = record around { rooted = true }
past (Tag name attributes false) around = record { elements = record { name = name; prefixes = own_prefixes attributes } ∷ around.elements; rooted = true }
past (End_tag name) around = record around { elements = drop 1 around.elements }
past _ around = around

abbrev pub is_outside : Around → Bool
is_outside around = length around.elements == 0

abbrev pub is_repeated : List (List ℕ) → Bool
is_repeated [] = false
is_repeated (name ∷ others) = elim (list_any (bytes_eq name) others) [ true ↦ true | false ↦ is_repeated others ]

-- the names of attributes as they are written
abbrev pub names_of : List Written → List (List ℕ)
names_of attributes = map (λ (a : Written). a.name) attributes

-- the attributes that declare no namespace
abbrev pub plain : List Written → List Written
plain attributes = filter (λ (a : Written). is_none (declares a.name)) attributes

abbrev pub is_known : List (List ℕ) → List ℕ → Bool
is_known prefixes prefix = list_any (bytes_eq prefix) prefixes

-- a name without prefix has no namespace, which every attribute may have
abbrev pub is_known_attribute : List (List ℕ) → List ℕ → Bool
is_known_attribute prefixes [] = true
is_known_attribute prefixes (b ∷ prefix) = is_known prefixes (b ∷ prefix)

-- a prefix of the tag or of an attribute has no namespace
abbrev pub is_unknown : List (List ℕ) → List ℕ → List Written → Bool
is_unknown prefixes name attributes =
    not (is_known prefixes (prefix_of name) && list_all (λ (a : Written). is_known_attribute prefixes (prefix_of a.name)) (plain attributes))

abbrev pub closes : List ℕ → List Open → Bool
closes name [] = false
closes name (e ∷ elements) = bytes_eq name e.name

-- a fault where a test is true, else what comes of the others
abbrev pub broken : TreeCode → Bool → Option TreeCode → Option TreeCode
broken code true others = Some code
broken code false others = others

-- what is wrong with a tag in elements, apart from where it stands: names twice, then prefixes
abbrev pub fault_of_tag : List Open → List ℕ → List Written → Option TreeCode
fault_of_tag elements name attributes =
    broken code.TooDeep (nat_le 64 (length elements))
    (broken code.DuplicateAttribute (is_repeated (names_of attributes))
    (broken code.UnknownPrefix (is_unknown (own_prefixes attributes ++ prefixes_around elements) name attributes) None))

-- the first fault that an item has where it stands
abbrev pub fault_of : Item → Around → Option TreeCode
fault_of Instruction around = None
fault_of Comment around = None
fault_of (CData content) around = broken code.TextOutside (is_outside around) None
fault_of (Words content) around = broken code.TextOutside (is_outside around && not (list_all is_white content)) None
fault_of (Tag name attributes empty) around = broken code.TextOutside (is_outside around && around.rooted) (fault_of_tag around.elements name attributes)
fault_of (End_tag name) around = broken code.WrongEnd (not (closes name around.elements)) None

-- what is wrong where the items end: the rest of the text, with which no item begins, or the whole
abbrev pub fault_at_end : Around → List ℕ → Option TreeCode
fault_at_end around (b ∷ rest) = elim (starts_with ◌==◌ (b ∷ rest) (codes "<!DOCTYPE")) [ true ↦ Some code.Doctype | false ↦ Some code.NotAnItem ]
fault_at_end around [] =
    elim (is_outside around) [
      | false ↦ Some code.Unclosed
      | true ↦ elim around.rooted [ true ↦ None | false ↦ Some code.NoRoot ]
    ]

-- a fault and its place
pub record Fault : Type 0 where
  pub code : TreeCode
  pub at : ℕ

abbrev pub fault : ℕ → TreeCode → Fault
fault at code = record { code = code; at = at }

-- the first item with a fault, else what is wrong where they end
abbrev pub first_fault : List Placed → Around → ℕ → List ℕ → Option Fault
first_fault [] around end rest = option_map (fault end) (fault_at_end around rest)
first_fault (placed ∷ others) around end rest =
    elim (fault_of placed.item around) [ Some code ↦ Some (fault placed.at code) | None ↦ first_fault others (past placed.item around) end rest ]
