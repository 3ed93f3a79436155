-- A document as it is read: its elements and texts, each with what it is.
use Rattle.std.specs.Prelude.{ℕ, List, [], ◌∷◌, ◌++◌, Bool, true, false}
use Rattle.std.specs.List.{flat_map}
use Rattle.flex_world.specs.declared.kind.Class.{Class}
use Rattle.mxml_tree.specs.Tree.{Node, Elem, Chars, Nodes, NoNode, MoreNode}
use Rattle.mxml_tree.specs.declared.tree.Attribute.{Attribute}
use Rattle.mxml_tree.specs.declared.tree.Characters.{Characters}
use Rattle.source_sites.specs.Texts.{Text}
use Rattle.source_sites.specs.Sites.{Rule}
use Rattle.source_sites.specs.Sources.{Holder}
use Rattle.source_sites.specs.Members.{Table}
use Rattle.document_sites.specs.Standing.{Placed, Before, nothing_before, behind, has_elements, placed_in, text_right, root_placed}

mutual
  pub data Part : Type 0 where
    -- from its first byte on; with what stands in it, as it is and read
    An_element : (at : ℕ) (placed : Placed) (nodes : Nodes) (parts : Parts) → Part
    A_text : (at : ℕ) (characters : Characters) (right : Bool) → Part

  pub data Parts : Type 0 where
    NoPart : Parts
    MorePart : (part : Part) (parts : Parts) → Parts

-- in a document: the class table, and the class of the document
module _ (t : Table) (class : Class) where
  abbrev mutual
    pub part_of : Node → Placed → Before → Part
    part_of (Elem at tag nodes) parent before =
        let p = placed_in t class parent before tag (has_elements nodes) in An_element at p nodes (parts_of nodes p nothing_before)
    part_of (Chars at characters) parent before = A_text at characters (text_right t class parent.standing before)

    pub parts_of : Nodes → Placed → Before → Parts
    parts_of NoNode parent before = NoPart
    parts_of (MoreNode node nodes) parent before = MorePart (part_of node parent before) (parts_of nodes parent (behind node before))

  -- a document, read
  abbrev pub document_part : Holder → Part
  document_part root = An_element root.at (root_placed t class root.tag) root.nodes (parts_of root.nodes (root_placed t class root.tag) nothing_before)

-- an element with its parts
pub record StandingElement : Type 0 where
  pub at : ℕ
  pub placed : Placed
  pub parts : Parts

abbrev mutual
  -- an element and those in it, in document order
  pub elements_from : Part → List StandingElement
  elements_from (An_element at placed nodes parts) = record { at = at; placed = placed; parts = parts } ∷ elements_inside parts
  elements_from (A_text at characters right) = []

  pub elements_inside : Parts → List StandingElement
  elements_inside NoPart = []
  elements_inside (MorePart part parts) = elements_from part ++ elements_inside parts

abbrev pub text_or : Part → Text → Text
text_or (An_element at placed nodes parts) other = other
text_or (A_text at characters right) other = characters.text

-- the first text in an element, or the empty one
abbrev pub first_text : Parts → Text
first_text NoPart = []
first_text (MorePart part others) = text_or part (first_text others)

abbrev pub is_text_or : Part → Bool → Bool
is_text_or (An_element at placed nodes parts) other = other
is_text_or (A_text at characters right) other = true

abbrev pub has_text : Parts → Bool
has_text NoPart = false
has_text (MorePart part others) = is_text_or part (has_text others)

-- the rules of a document, from those of each attribute, each element and each text: parts before the whole that holds them
module _ (on_attribute : ℕ → Placed → Attribute → List Rule) (on_element : ℕ → Placed → Nodes → Parts → List Rule) (on_text : ℕ → Bool → List Rule) where
  abbrev mutual
    pub sites_of_part : Part → List Rule
    sites_of_part (An_element at placed nodes parts) =
        flat_map (on_attribute at placed) placed.tag.attributes ++ (sites_of_parts parts ++ on_element at placed nodes parts)
    sites_of_part (A_text at characters right) = on_text at right

    pub sites_of_parts : Parts → List Rule
    sites_of_parts NoPart = []
    sites_of_parts (MorePart part parts) = sites_of_part part ++ sites_of_parts parts
