-- The state of a reading: the elements that are open and the nodes so far, and what the items read say of them.
use Rattle.std.specs.Prelude.{◌≡◌, ℕ, ◌+◌, ◌≤◌, ◌==◌, ◌&&◌, not, Bool, false, List, [], ◌∷◌, ◌++◌, map, length, reverse, Option, Some, None, slice_get, slice_set}
use Rattle.mxml_items.specs.Items as i
use Rattle.mxml_items.specs.Items.{Placed}
use Rattle.mxml_tree.specs.declared.building.Building.{Building}
use Rattle.mxml_tree.specs.declared.elements.Declaration.{Declaration}
use Rattle.mxml_tree.specs.declared.elements.OpenElement.{OpenElement}
use Rattle.mxml_tree.specs.declared.fault.TreeRefusal.{TreeRefusal}
use Rattle.mxml_tree.specs.declared.fault.TreeRefusal.TheVariants as refusal
use Rattle.mxml_tree.specs.declared.tree.Element.{Element}
use Rattle.mxml_tree.specs.declared.tree.Node as Row
use Rattle.mxml_tree.specs.declared.tree.NodeKind.TheVariants as kind
use Rattle.mxml_tree.specs.Faults.{Around, fault, fault_of_tag, first_fault, at_start, is_outside, own_prefixes}
use Rattle.mxml_tree.specs.IsTree.{AreNodes, IsTagOf}
use Rattle.mxml_tree.specs.Namespaces.{Declared, at_first}
use Rattle.mxml_tree.specs.Opened.{declared_in, open_of, own_of, prefixes_in}
use Rattle.mxml_tree.specs.Texts.{NoTextBegins}
use Rattle.mxml_tree.specs.Tree.{Node, Elem, Nodes, NoNode, MoreNode, rows_of, table_of}

-- nodes, and others behind them
abbrev pub with_nodes : Nodes → Nodes → Nodes
with_nodes NoNode others = others
with_nodes (MoreNode node nodes) others = MoreNode node (with_nodes nodes others)

abbrev pub with_node : Nodes → Node → Nodes
with_node nodes node = with_nodes nodes (MoreNode node NoNode)

-- an element whose end is still to come, with its start tag
pub record Begun : Type 0 where
  pub start : Placed
  pub element : Element
  pub opened : OpenElement

-- the elements around a place of the text, the innermost first; in each the nodes that are made, and the items that they are made of
pub data Nest : Type 0 where
  Outside : (done : Nodes) (items : List Placed) → Nest
  Inside : (begun : Begun) (done : Nodes) (items : List Placed) (outer : Nest) → Nest

-- the elements of the code
abbrev pub opened_in : Nest → List OpenElement
opened_in (Outside done items) = []
opened_in (Inside begun done items outer) = begun.opened ∷ opened_in outer

-- the level of an element that begins here
abbrev pub level_in : Nest → ℕ
level_in (Outside done items) = 1
level_in (Inside begun done items outer) = level_in outer + 1

abbrev mutual
  -- the number of the element around the place
  pub parent_in : Nest → Option ℕ
  parent_in (Outside done items) = None
  parent_in (Inside begun done items outer) = Some (length (table outer))

  -- the table of the nodes so far
  pub table : Nest → List Row.Node
  table (Outside done items) = rows_of None 0 done
  table (Inside begun done items outer) =
      table outer
      ++ record { parent = parent_in outer; at = begun.start.at; kind = kind.Element begun.element }
      ∷ rows_of (Some (length (table outer))) (length (table outer) + 1) done

-- the number of the innermost of open elements, which stands first
abbrev pub innermost : List OpenElement → Option ℕ
innermost [] = None
innermost (element ∷ opened) = Some element.node

-- where the next item stands
abbrev pub around : Building → Around
around b = record { elements = map open_of (reverse b.opened.items); rooted = not (length b.nodes == 0) }

-- whatever nodes come at the front of the items left, they go on with those that are made of the items before
abbrev pub GoesOn : List Declared → ℕ → Nodes → List Placed → List Placed → Type 0
GoesOn declared level done items left =
    (nodes : Nodes) (inner behind : List Placed) → inner ++ behind ≡ left → AreNodes nodes level declared inner → AreNodes (with_nodes done nodes) level declared (items ++ inner)

-- no node, or one element
abbrev pub AreAtMostRoot : Nodes → Type 0
AreAtMostRoot NoNode = Unit {0}
AreAtMostRoot (MoreNode (Elem at element nodes) NoNode) = Unit {0}
AreAtMostRoot _ = ⊥

-- an element may begin here: in another, or outside where there was none
abbrev pub MayBegin : Nest → Type 0
MayBegin (Outside done items) = done ≡ NoNode
MayBegin (Inside begun done items outer) = Unit {0}

-- an element that begins in a nest, by its start tag
pub record Begins (begun : Begun) (outer : Nest) : Type 0 where
  pub attributes : List i.Written
  pub starts : begun.start.item ≡ i.Tag begun.opened.name.now attributes false
  pub is_tag : IsTagOf begun.element (declared_in (opened_in outer)) (own_of begun.opened.declarations) begun.opened.name.now attributes
  pub not_too_deep : level_in outer ≤ 64
  pub number : begun.opened.node ≡ length (table outer)
  pub may : MayBegin outer

-- a nest is that of the items read, of all those of a text
abbrev pub Holds : List Placed → Nest → List Placed → Type 0
Holds all (Outside done items) left = (items ++ left ≡ all) × AreAtMostRoot done × GoesOn at_first 1 done items left
Holds all (Inside begun done items outer) left =
    Begins begun outer
    × Holds all outer (begun.start ∷ items ++ left)
    × GoesOn (own_of begun.opened.declarations ++ declared_in (opened_in outer)) (level_in outer + 1) done items left

-- the code's state stands where these of all items are left
pub record Stands (all left : List Placed) (b : Building) : Type 0 where
  pub nest : Nest
  pub holds : Holds all nest left
  pub opened : opened_in nest ≡ reverse b.opened.items
  pub nodes : b.nodes ≡ table nest
  pub faults : (end : ℕ) (rest : List ℕ) → first_fault all at_start end rest ≡ first_fault left (around b) end rest

-- with another end, where it's an element
abbrev pub ended : ℕ → Row.Node → Row.Node
ended end row = elim row.kind [ kind.Element element ↦ record row { kind = kind.Element (record element { end = end }) } | kind.Characters characters ↦ row ]

-- with another end of the element with this number
abbrev pub end_at : ℕ → ℕ → List Row.Node → List Row.Node
end_at number end nodes = elim (slice_get nodes number) [ Some row ↦ slice_set nodes number (ended end row) | None ↦ nodes ]

-- whether a further element would be a second root
abbrev pub is_after_root : Building → Bool
is_after_root b = is_outside (around b) && (around b).rooted

-- a node is added, and nothing is opened or closed
pub record Adds (node : Row.Node) (old new : Building) : Type 0 where
  pub nodes : new.nodes ≡ old.nodes ++ node ∷ []
  pub same : new.opened.items ≡ old.opened.items

-- an element is opened, of which a node is added
pub record Opens (name : List ℕ) (declarations : List Declaration) (node : Row.Node) (old new : Building) : Type 0 where
  pub element : OpenElement
  pub is : new.opened.items ≡ old.opened.items ++ element ∷ []
  pub is_named : element.name.now ≡ name
  pub number : element.node ≡ length old.nodes
  pub declares : element.declarations ≡ declarations
  pub nodes : new.nodes ≡ old.nodes ++ node ∷ []

-- items are read
abbrev pub Reads : List Placed → Building → Building → Type 0
Reads items old new = (all left : List Placed) → Stands all (items ++ left) old → Stands all left new

-- texts are read, where no more of them come
abbrev pub ReadsTexts : List Placed → Building → Building → Type 0
ReadsTexts items old new = (all left : List Placed) → NoTextBegins left → Stands all (items ++ left) old → Stands all left new

-- a refusal is the first fault, where these items come next
abbrev pub RefusesIn : List Placed → Building → TreeRefusal → Type 0
RefusesIn items old (refusal.Fault code at) =
    (all left : List Placed) (end : ℕ) (rest : List ℕ) → Stands all (items ++ left) old → first_fault all at_start end rest ≡ Some (fault at code)
RefusesIn items old refusal.NoMemory = Unit {0}

-- what a tag begins in open elements, the outermost first: what it declares, and the element with an end for now
pub record BeginsIn (opened : List OpenElement) (name : List ℕ) (attributes : List i.Written) (end : ℕ) (declarations : List Declaration) (element : Element) : Type 0 where
  pub is_tag : IsTagOf element (declared_in (reverse opened)) (own_of declarations) name attributes
  pub no_fault : fault_of_tag (map open_of (reverse opened)) name attributes ≡ None
  pub prefixes : own_prefixes attributes ≡ prefixes_in declarations
  pub ends : element.end ≡ end

-- a refusal is the fault that a tag at a place has in open elements
abbrev pub RefusesTag : List OpenElement → List ℕ → List i.Written → ℕ → TreeRefusal → Type 0
RefusesTag opened name attributes at (refusal.Fault code place) = (place ≡ at) × (fault_of_tag (map open_of (reverse opened)) name attributes ≡ Some code)
RefusesTag opened name attributes at refusal.NoMemory = Unit {0}

-- where all items are read, the nodes are those of a root, and nothing stands behind the items
pub record IsDone (b : Building) (rest : List ℕ) (all : List Placed) (nodes : List Row.Node) : Type 0 where
  pub nothing_behind : rest ≡ []
  pub at : ℕ
  pub element : Element
  pub inner : Nodes
  pub is_table : nodes ≡ table_of (Elem at element inner)
  pub are_nodes : AreNodes (MoreNode (Elem at element inner) NoNode) 1 at_first all

abbrev pub Finishes : Building → List ℕ → List Row.Node → Type 0
Finishes b rest nodes = (all : List Placed) → Stands all [] b → IsDone b rest all nodes

abbrev pub RefusesEnd : Building → ℕ → List ℕ → TreeRefusal → Type 0
RefusesEnd b end rest (refusal.Fault code at) = (all : List Placed) → Stands all [] b → first_fault all at_start end rest ≡ Some (fault at code)
RefusesEnd b end rest refusal.NoMemory = Unit {0}
