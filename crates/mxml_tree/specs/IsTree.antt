-- Which tree stands for which text: properly nested items with one root.
use Rattle.std.specs.Prelude.{◌≡◌, ℕ, ◌+◌, ◌-◌, ◌≤◌, Bool, true, List, [], ◌∷◌, ◌++◌, length, Some, IsTrue, IsFalse, MatchBool, IsUtf8}
use Rattle.std.specs.List.{list_all}
use Rattle.std.specs.Str.{IsValidUpTo}
use Rattle.mxml_items.specs.Items as i
use Rattle.mxml_items.specs.Items.{Placed, AreItems, NoItemBegins}
use Rattle.mxml_items.specs.Texts.{IsBegun}
use Rattle.mxml_tree.specs.declared.tree.Attribute.{Attribute}
use Rattle.mxml_tree.specs.declared.tree.Element.{Element}
use Rattle.mxml_tree.specs.declared.tree.Node as Row
use Rattle.mxml_tree.specs.declared.fault.TreeCode.TheVariants as code
use Rattle.mxml_tree.specs.declared.fault.TreeRefusal.{TreeRefusal}
use Rattle.mxml_tree.specs.declared.fault.TreeRefusal.TheVariants as refusal
use Rattle.mxml_tree.specs.Values.{IsMeant}
use Rattle.mxml_tree.specs.Namespaces.{Declared, AreDeclared, at_first, prefix_of, local_of, space_of, attribute_space}
use Rattle.mxml_tree.specs.Faults.{Fault, fault, is_repeated, names_of, plain, first_fault, at_start}
use Rattle.mxml_tree.specs.Texts.{is_white_text, AreCharacters, NoTextBegins}
use Rattle.mxml_tree.specs.Tree.{Node, Elem, Chars, Nodes, NoNode, MoreNode, table_of}

-- whether an item makes no node and no part of one
abbrev pub is_passed_over : i.Item → Bool
is_passed_over i.Instruction = true
is_passed_over i.Comment = true
is_passed_over item = is_white_text item

abbrev pub ArePassedOver : List Placed → Type 0
ArePassedOver items = IsTrue (list_all (λ (placed : Placed). is_passed_over placed.item) items)

-- an attribute that declares nothing, where these namespaces are declared
pub record IsAttributeOf (declared : List Declared) (written : i.Written) (attribute : Attribute) : Type 0 where
  pub stands : attribute.at ≡ written.at
  pub space : attribute_space declared (prefix_of written.name) ≡ Some attribute.space
  pub local : attribute.local ≡ local_of written.name
  pub value : IsMeant written.value attribute.value

abbrev pub AreAttributesOf : List Declared → List i.Written → List Attribute → Type 0
AreAttributesOf declared [] [] = Unit {0}
AreAttributesOf declared (w ∷ ws) (a ∷ attributes) = IsAttributeOf declared w a × AreAttributesOf declared ws attributes
AreAttributesOf declared _ _ = ⊥

-- the namespace and the local name of an element, where these namespaces are declared
pub record IsNamed (element : Element) (declared : List Declared) (name : List ℕ) : Type 0 where
  pub space : space_of declared (prefix_of name) ≡ Some element.space
  pub local : element.local ≡ local_of name

-- what a tag says of its element, where namespaces are declared outside and these by the tag
pub record IsTagOf (element : Element) (declared own : List Declared) (name : List ℕ) (attributes : List i.Written) : Type 0 where
  pub are_declared : AreDeclared attributes own
  pub no_attribute_twice : IsFalse (is_repeated (names_of attributes))
  pub is_named : IsNamed element (own ++ declared) name
  pub are_attributes : AreAttributesOf (own ++ declared) (plain attributes) element.attributes

-- the place past an element: past its end tag, or past itself where it's empty
abbrev pub end_of : Placed → List Placed → ℕ
end_of start [] = start.end
end_of start (last ∷ others) = last.end

-- an element's tags and what stands between them, which has to hold Inner at the namespaces that are declared inside
pub record IsElement (at : ℕ) (element : Element) (Inner : List Declared → List Placed → Type 0) (declared : List Declared) (level : ℕ) (items : List Placed) : Type 0 where
  pub start : Placed
  pub inner : List Placed
  -- the end tag, where there is one
  pub last : List Placed
  pub is : items ≡ start ∷ inner ++ last
  pub name : List ℕ
  pub attributes : List i.Written
  pub empty : Bool
  pub starts : start.item ≡ i.Tag name attributes empty
  pub ends : MatchBool empty ((inner ≡ []) × (last ≡ [])) ((end : Placed) × (last ≡ end ∷ []) × (end.item ≡ i.End_tag name))
  pub not_too_deep : level ≤ 64
  -- the namespaces that the tag declares
  pub own : List Declared
  pub is_tag : IsTagOf element declared own name attributes
  pub stands : at ≡ start.at
  pub stops : element.end ≡ end_of start last
  pub stands_inside : Inner (own ++ declared) inner

-- some items are passed over, then some make a node, and of the others something holds
pub record Makes (IsOne : List Placed → List Placed → Type 0) (Others : List Placed → Type 0) (items : List Placed) : Type 0 where
  pub passed : List Placed
  pub own : List Placed
  pub others : List Placed
  pub is : items ≡ passed ++ own ++ others
  pub passed_over : ArePassedOver passed
  pub is_one : IsOne own others
  pub go_on : Others others

abbrev mutual
  -- a node at a level, by its items and those behind it
  pub IsNode : Node → List Declared → ℕ → List Placed → List Placed → Type 0
  IsNode (Elem at element nodes) declared level items behind = IsElement at element (AreNodes nodes (level + 1)) declared level items
  IsNode (Chars at node) declared level items behind = AreCharacters at node items × NoTextBegins behind

  pub AreNodes : Nodes → ℕ → List Declared → List Placed → Type 0
  AreNodes NoNode level declared items = ArePassedOver items
  AreNodes (MoreNode node nodes) level declared items = Makes (IsNode node declared level) (AreNodes nodes level declared) items

-- a text consists of items, up to a place from which on there is none
pub record Consists (items : List Placed) (end : ℕ) (rest text : List ℕ) : Type 0 where
  pub utf8 : IsUtf8 text
  pub begun : List ℕ
  pub is_begun : IsBegun text begun
  pub are : AreItems items end rest (length text - length begun) begun
  pub no_more : NoItemBegins end rest

-- the tree of a text, by its root
pub record IsTree (root : Node) (text : List ℕ) : Type 0 where
  pub items : List Placed
  pub whole : Consists items (length text) [] text
  pub at : ℕ
  pub element : Element
  pub nodes : Nodes
  pub is_element : root ≡ Elem at element nodes
  pub one : Makes (IsNode root at_first 1) ArePassedOver items

-- the table of a text's tree
pub record HasNodes (text : List ℕ) (nodes : List Row.Node) : Type 0 where
  pub root : Node
  pub is_tree : IsTree root text
  pub is : nodes ≡ table_of root

-- the first fault of a text: what isn't UTF-8, else that of the first item with one, else that of the end
pub data IsFirstFault (fault : Fault) (text : List ℕ) : Type 0 where
  In_bytes : fault.code ≡ code.NotUtf8 → IsValidUpTo text fault.at → IsFirstFault fault text
  In_items : (items : List Placed) (end : ℕ) (rest : List ℕ) → Consists items end rest text → first_fault items at_start end rest ≡ Some fault → IsFirstFault fault text

-- a refusal is the first fault of a text; want of memory may come at any
abbrev pub IsRefusalOf : List ℕ → TreeRefusal → Type 0
IsRefusalOf text (refusal.Fault code at) = IsFirstFault (fault at code) text
IsRefusalOf text refusal.NoMemory = Unit {0}
