-- The sources that are built so far.
use Rattle.std.specs.Prelude.{◌≡◌, ℕ, ◌≤◌, List, [], ◌∷◌, ◌++◌, length, Option, None, Some, option_map, find, All, Bool, true, false, not, ◌&&◌, nat_lt, nat_le, ◌==◌, codes}
use Rattle.std.specs.List.{list_all, list_any}
use Rattle.std.specs.Str.{IsUtf8, bytes_eq}
use Rattle.flex_front.specs.declared.document.Element.{Element}
use Rattle.flex_front.specs.declared.document.Element.TheVariants as element
use Rattle.flex_front.specs.declared.document.Document.{Document}
use Rattle.flex_front.specs.declared.reading.SourceRefusal.{SourceRefusal}
use Rattle.flex_front.specs.declared.reading.SourceRefusal.TheVariants as refusal
use Rattle.mxml_tree.specs.declared.tree.Attribute.{Attribute}
use Rattle.mxml_tree.specs.declared.tree.Element as Tag
use Rattle.mxml_tree.specs.declared.tree.Node as Row
use Rattle.mxml_tree.specs.declared.tree.NodeKind.TheVariants as kind
use Rattle.mxml_tree.specs.Faults.{fault}
use Rattle.mxml_tree.specs.IsTree.{HasNodes, IsFirstFault}

-- the keywords of ActionScript
abbrev pub keywords : List (List ℕ)
keywords =
    codes "as" ∷ codes "break" ∷ codes "case" ∷ codes "catch" ∷ codes "class" ∷ codes "const" ∷ codes "continue" ∷ codes "default" ∷ codes "delete"
    ∷ codes "do" ∷ codes "else" ∷ codes "extends" ∷ codes "false" ∷ codes "finally" ∷ codes "for" ∷ codes "function" ∷ codes "if" ∷ codes "implements"
    ∷ codes "import" ∷ codes "in" ∷ codes "instanceof" ∷ codes "interface" ∷ codes "internal" ∷ codes "is" ∷ codes "native" ∷ codes "new" ∷ codes "null"
    ∷ codes "override" ∷ codes "package" ∷ codes "private" ∷ codes "protected" ∷ codes "public" ∷ codes "return" ∷ codes "super" ∷ codes "switch"
    ∷ codes "this" ∷ codes "throw" ∷ codes "to" ∷ codes "true" ∷ codes "try" ∷ codes "typeof" ∷ codes "use" ∷ codes "var" ∷ codes "void" ∷ codes "while"
    ∷ codes "with" ∷ []

-- properties of an Application
abbrev pub properties : List (List ℕ)
properties = codes "visible" ∷ codes "enabled" ∷ codes "x" ∷ codes "y" ∷ codes "width" ∷ codes "height" ∷ codes "parent" ∷ []

-- whether a word is one of these
abbrev pub is_among : List (List ℕ) → List ℕ → Bool
is_among words word = list_any (λ other. bytes_eq other word) words

-- a lower-case letter
abbrev pub is_letter : ℕ → Bool
is_letter byte = nat_le 97 byte && nat_le byte 122

-- 1 to 32 bytes
abbrev pub is_short : List ℕ → Bool
is_short word = nat_lt 0 (length word) && nat_le (length word) 32

-- a word that may be a name: 1 to 32 lower-case letters, and no keyword
abbrev pub is_name : List ℕ → Bool
is_name word = is_short word && (list_all is_letter word && not (is_among keywords word))

-- a word that may be an id
pub record IsId (word : List ℕ) : Type 0 where
  pub name : is_name word ≡ true
  pub free : is_among properties word ≡ false

-- a visible ASCII byte or a space that stands for itself: none of " ' < & { } @ \
pub record IsPlain (byte : ℕ) : Type 0 where
  pub from : 32 ≤ byte
  pub to : byte ≤ 126
  pub itself : list_any (λ other. other == byte) (codes "\"'<&{}@\\") ≡ false

-- a text that may be the value of an attribute, or what a handler traces
pub record IsText (text : List ℕ) : Type 0 where
  pub few : length text ≤ 200
  pub plain : All IsPlain text

abbrev pub id_of : Element → List ℕ
id_of (element.Label id text) = id
id_of (element.Button id click) = id

-- an element whose id and texts may be such
abbrev pub IsElement : Element → Type 0
IsElement (element.Label id text) = IsId id × IsText text
IsElement (element.Button id None) = IsId id
IsElement (element.Button id (Some text)) = IsId id × IsText text

-- the namespace of the components of Flex 4
abbrev pub spark : List ℕ
spark = codes "library://ns.adobe.com/flex/spark"

-- whether an attribute is in no namespace and has this name
abbrev pub is_named : List ℕ → Attribute → Bool
is_named name a = bytes_eq a.space [] && bytes_eq a.local name

-- the value of such an attribute, if there is one
abbrev pub value_of : List ℕ → List Attribute → Option (List ℕ)
value_of name attributes = option_map (λ (a : Attribute). a.value) (find (is_named name) attributes)

-- the call of `trace` that a handler makes
abbrev pub call_of : List ℕ → List ℕ
call_of text = codes "trace('" ++ (text ++ codes "')")

-- what the tag of an element says: its name, and so many attributes with these values
abbrev pub Says : Tag.Element → Element → Type 0
Says tag (element.Label id text) =
    (tag.local ≡ codes "Label") × (length tag.attributes ≡ 2) × (value_of (codes "id") tag.attributes ≡ Some id) × (value_of (codes "text") tag.attributes ≡ Some text)
Says tag (element.Button id None) = (tag.local ≡ codes "Button") × (length tag.attributes ≡ 1) × (value_of (codes "id") tag.attributes ≡ Some id)
Says tag (element.Button id (Some text)) =
    (tag.local ≡ codes "Button") × (length tag.attributes ≡ 2) × (value_of (codes "id") tag.attributes ≡ Some id) × (value_of (codes "click") tag.attributes ≡ Some (call_of text))

-- a node that is this element, directly in the root
pub record IsRow (row : Row.Node) (e : Element) : Type 0 where
  pub tag : Tag.Element
  pub is : row.kind ≡ kind.Element tag
  pub inside : row.parent ≡ Some 0
  pub space : tag.space ≡ spark
  pub says : Says tag e

-- nodes that are these elements
abbrev pub AreRows : List Row.Node → List Element → Type 0
AreRows [] [] = Unit {0}
AreRows (row ∷ rows) (e ∷ es) = IsRow row e × AreRows rows es
AreRows _ _ = ⊥

-- the root: an Application without attributes
pub record IsApplication (row : Row.Node) : Type 0 where
  pub tag : Tag.Element
  pub is : row.kind ≡ kind.Element tag
  pub space : tag.space ≡ spark
  pub local : tag.local ≡ codes "Application"
  pub plain : length tag.attributes ≡ 0

-- no element has this id
abbrev pub IsNewId : List ℕ → List Element → Type 0
IsNewId id es = All (λ e. bytes_eq (id_of e) id ≡ false) es

-- no id is that of an earlier element, where these elements stand before
abbrev pub AreNewIds : List Element → List Element → Type 0
AreNewIds before [] = Unit {0}
AreNewIds before (e ∷ es) = IsNewId (id_of e) before × AreNewIds (before ++ e ∷ []) es

-- the only name of a main source
abbrev pub main_name : List ℕ
main_name = codes "Main.mxml"

-- nodes are elements that may stand in a document
pub record AreElements (rows : List Row.Node) (elements : List Element) : Type 0 where
  pub are : AreRows rows elements
  pub few : length elements ≤ 100
  pub fine : All IsElement elements
  pub distinct : AreNewIds [] elements

-- a tree is that of a document: an Application, with elements in it and nothing else
pub record IsSource (nodes : List Row.Node) (document : Document) : Type 0 where
  pub root : Row.Node
  pub rows : List Row.Node
  pub is : nodes ≡ root ∷ rows
  pub is_application : IsApplication root
  pub elements : AreElements rows document.elements

-- a source of this name and these bytes has this document
pub record HasDocument (name bytes : List ℕ) (document : Document) : Type 0 where
  pub main : name ≡ main_name
  pub nodes : List Row.Node
  pub has_nodes : HasNodes bytes nodes
  pub is : IsSource nodes document

-- a source has a tree, and no document
pub record IsNotBuilt (name bytes : List ℕ) : Type 0 where
  pub nodes : List Row.Node
  pub has_nodes : HasNodes bytes nodes
  pub none : (document : Document) → HasDocument name bytes document → ⊥

-- why a source isn't built: its first fault, or that it has no document; want of memory may come at any
abbrev pub IsRefused : List ℕ → List ℕ → SourceRefusal → Type 0
IsRefused name bytes (refusal.Fault code at) = IsFirstFault (fault at code) bytes
IsRefused name bytes refusal.NotYetBuilt = IsNotBuilt name bytes
IsRefused name bytes refusal.NoMemory = Unit {0}

-- a source has at most one document
abbrev pub IsOneDocument : Type 0
IsOneDocument = (name bytes : List ℕ) (d e : Document) → HasDocument name bytes d → HasDocument name bytes e → d ≡ e

-- an element whose id and texts are UTF-8 and aren't too long
abbrev pub IsShort : Element → Type 0
IsShort (element.Label id text) = (length id ≤ 32) × IsUtf8 id × (length text ≤ 200) × IsUtf8 text
IsShort (element.Button id None) = (length id ≤ 32) × IsUtf8 id
IsShort (element.Button id (Some text)) = (length id ≤ 32) × IsUtf8 id × (length text ≤ 200) × IsUtf8 text

-- not too many such elements
pub record IsSmall (document : Document) : Type 0 where
  pub few : length document.elements ≤ 100
  pub short : All IsShort document.elements

-- the document of a source is small
abbrev pub IsSmallDocument : Type 0
IsSmallDocument = (name bytes : List ℕ) (document : Document) → HasDocument name bytes document → IsSmall document
