-- The parts of a source, as the reading finds them.
use Rattle.std.specs.Prelude.{◌≢◌, ℕ, List, None, Some}
use Rattle.flex_front.specs.declared.document.Element.{Element}
use Rattle.flex_front.specs.declared.document.Element.TheVariants as element
use Rattle.flex_front.specs.declared.document.Document.{Document}
use Rattle.flex_front.specs.declared.reading.SourceRefusal.{SourceRefusal}
use Rattle.flex_front.specs.declared.reading.SourceRefusal.TheVariants as refusal
use Rattle.flex_front.specs.declared.reading.parts.Part.{Part}
use Rattle.flex_front.specs.declared.reading.parts.Part.TheVariants as part
use Rattle.flex_front.specs.Source.{AreElements, IsElement, IsRow, IsSource, Says, call_of}
use Rattle.mxml_tree.specs.declared.tree.Element as Tag
use Rattle.mxml_tree.specs.declared.tree.Node as Row

-- the element that a part of a source says
abbrev pub element_of : Part → Element
element_of (part.Label id text) = element.Label id.now text.now
element_of (part.Button id None) = element.Button id.now None
element_of (part.Button id (Some text)) = element.Button id.now (Some text.now)

-- a tag says this element, which may stand in a document
pub record IsPartOf (tag : Tag.Element) (e : Element) : Type 0 where
  pub says : Says tag e
  pub fine : IsElement e

abbrev pub HasNoPart : Tag.Element → Type 0
HasNoPart tag = (e : Element) → IsPartOf tag e → ⊥

-- a node is this element, which may stand in a document
pub record IsFineRow (row : Row.Node) (e : Element) : Type 0 where
  pub is : IsRow row e
  pub fine : IsElement e

abbrev pub HasNoRow : Row.Node → Type 0
HasNoRow row = (e : Element) → IsFineRow row e → ⊥

-- a text is no call of `trace`
abbrev pub HasNoText : List ℕ → Type 0
HasNoText call = (text : List ℕ) → call ≢ call_of text

-- a refusal of a node, of nodes, and of a tree: as not built only where there is no element, no elements, or no document
abbrev pub IsNoElement : Row.Node → SourceRefusal → Type 0
IsNoElement row refusal.NotYetBuilt = HasNoRow row
IsNoElement row refusal.NoMemory = Unit {0}
IsNoElement row _ = ⊥

abbrev pub IsElementless : List Row.Node → SourceRefusal → Type 0
IsElementless rows refusal.NotYetBuilt = (elements : List Element) → AreElements rows elements → ⊥
IsElementless rows refusal.NoMemory = Unit {0}
IsElementless rows _ = ⊥

abbrev pub IsSourceless : List Row.Node → SourceRefusal → Type 0
IsSourceless nodes refusal.NotYetBuilt = (document : Document) → IsSource nodes document → ⊥
IsSourceless nodes refusal.NoMemory = Unit {0}
IsSourceless nodes _ = ⊥
