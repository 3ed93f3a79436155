-- What each tag of a document is, where it stands, and whether it may stand there.
use Rattle.std.specs.Prelude.{List, [], ◌∷◌, Bool, true, false, not, ◌&&◌, ◌||◌, if◌then◌else◌, Option, Some, None, option_and_then, map, unwrap_or, bytes_eq, codes}
use Rattle.component_catalog.specs.declared.class.NativeClass.TheVariants as native
use Rattle.component_catalog.specs.declared.class.TagPlace.{TagPlace}
use Rattle.component_catalog.specs.declared.class.TagPlace.TheVariants.{Nowhere, States}
use Rattle.component_catalog.specs.Properties.{properties}
use Rattle.component_catalog.specs.Classes.{spark}
use Rattle.flex_world.specs.Classes.{is_component, is_container}
use Rattle.flex_world.specs.declared.kind.Class.{Class}
use Rattle.mxml_tree.specs.Tree.{Node, Elem, Chars, Nodes, NoNode, MoreNode}
use Rattle.mxml_tree.specs.declared.tree.Element.{Element}
use Rattle.source_sites.specs.Texts.{Text, among, is_there}
use Rattle.source_sites.specs.Types.{ValueType}
use Rattle.source_sites.specs.Scripts.{language_space}
use Rattle.source_sites.specs.Names.{Meaning, class_of_tag}
use Rattle.source_sites.specs.Bases.{goes_into}
use Rattle.source_sites.specs.Members.{Property, Owned, Event, Table, tags_of, has_tag, built_in}
use Rattle.source_sites.specs.LookUps.{native_member, property_in, member_named, property_seen, event_of}

-- how an instance stands in what holds it
pub data Role : Type 0 where
  Root : Role
  -- a visual child, if it may be one
  Child : Role
  -- in fx:Declarations
  Declared : Role
  -- in an Array
  Item : Role
  -- in a property tag
  Value : Role
  -- where no instance can stand
  Astray : Role

-- what a property tag holds
pub data Holds : Type 0 where
  Words : Holds
  One_instance : (class : Class) → Holds
  Array_items : Holds

-- what a tag is
pub data Standing : Type 0 where
  An_instance : (meaning : Meaning) (role : Role) → Standing
  Property_tag : (property : Property) (holds : Holds) → Standing
  Script : Standing
  Metadata : Standing
  Declarations : Standing
  Binding : Standing
  -- `s:states`
  States_tag : Standing
  A_state : Standing
  -- the name or the groups of a State, as a tag
  State_property : Standing
  -- fx:String, fx:int, fx:Boolean or fx:Array, by its type
  Literal_tag : (type : ValueType) (needs_id : Bool) → Standing
  Unknown_tag : Standing

pub record Placed : Type 0 where
  pub tag : Element
  pub standing : Standing
  -- whether it may stand there
  pub right : Bool

-- what stands before in the same element
pub record Before : Type 0 where
  pub any : Bool
  pub text : Bool

abbrev pub nothing_before : Before
nothing_before = record { any = false; text = false }

abbrev pub is_text_node : Node → Bool
is_text_node (Elem at tag nodes) = false
is_text_node (Chars at characters) = true

abbrev pub behind : Node → Before → Before
behind node b = record { any = true; text = b.text || is_text_node node }

abbrev pub has_elements : Nodes → Bool
has_elements NoNode = false
has_elements (MoreNode node nodes) = not (is_text_node node) || has_elements nodes

abbrev pub is_root : Role → Bool
is_root Root = true
is_root _ = false

-- a tag that is known to be this, and whether it may stand there
abbrev pub stands : Element → Standing → Bool → Placed
stands tag standing right = record { tag = tag; standing = standing; right = right }

abbrev pub unknown : Element → Placed
unknown tag = stands tag Unknown_tag true

abbrev pub is_language_tag : Element → Bool
is_language_tag tag = bytes_eq tag.space language_space

abbrev pub is_states_tag : Element → Bool
is_states_tag tag = bytes_eq tag.space spark && bytes_eq tag.local (codes "states")

abbrev pub literal_or_unknown : Element → Option ValueType → Placed
literal_or_unknown tag None = unknown tag
literal_or_unknown tag (Some type) = stands tag (Literal_tag type false) false

-- a tag of the language; the first four may stand in the root alone, and the literals where others say so
abbrev pub language_placed : Bool → Element → Placed
language_placed right tag =
    if bytes_eq tag.local (codes "Script") then stands tag Script right
    else if bytes_eq tag.local (codes "Metadata") then stands tag Metadata right
    else if bytes_eq tag.local (codes "Declarations") then stands tag Declarations right
    else if bytes_eq tag.local (codes "Binding") then stands tag Binding right
    else literal_or_unknown tag (built_in tag.local)

abbrev pub is_literal_tag : Element → Bool
is_literal_tag tag = is_language_tag tag && is_there (built_in tag.local)

abbrev pub literal_placed : Bool → Element → Placed
literal_placed needs_id tag = stands tag (Literal_tag (unwrap_or (built_in tag.local) ValueType.Unknown) needs_id) true

abbrev pub is_state_class : Meaning → Bool
is_state_class Meaning.State = true
is_state_class _ = false

abbrev pub state_property_names : List Text
state_property_names = codes "name" ∷ codes "stateGroups" ∷ []

-- a property of an Array or a class holds words where no element stands in its tag
abbrev pub holds_of : ValueType → Bool → Holds
holds_of ValueType.Array true = Array_items
holds_of (ValueType.Object class) true = One_instance class
holds_of _ _ = Words

-- those of a State
abbrev pub state_property : Text → Option Property
state_property name = option_and_then (λ (m : Owned). property_in m.kind) (member_named name (map native_member (properties native.State)))

-- in a document: the class table, and the class of the document
module _ (t : Table) (class : Class) where
  abbrev pub tags_of_meaning : Meaning → TagPlace
  tags_of_meaning Meaning.No_class = Nowhere
  tags_of_meaning Meaning.State = States
  tags_of_meaning (Meaning.Means c) = tags_of t.constructors c

  abbrev pub has_no_tag : TagPlace → Bool
  has_no_tag Nowhere = true
  has_no_tag _ = false

  abbrev pub is_known_tag : Meaning → Bool
  is_known_tag meaning = not (has_no_tag (tags_of_meaning meaning))

  abbrev pub may_be_instance : Meaning → Bool
  may_be_instance meaning = has_tag (tags_of_meaning meaning)

  abbrev pub is_component_class : Meaning → Bool
  is_component_class (Meaning.Means c) = is_component t.bases c
  is_component_class _ = false

  abbrev pub is_container_class : Meaning → Bool
  is_container_class (Meaning.Means c) = is_container t.bases c
  is_container_class _ = false

  -- the property that a name stands for on an instance, where the document may see it
  abbrev pub property_on : Meaning → Text → Option Property
  property_on Meaning.No_class name = None
  property_on Meaning.State name = state_property name
  property_on (Meaning.Means c) name = property_seen t class c name

  abbrev pub event_on : Meaning → Text → Option Event
  event_on (Meaning.Means c) name = event_of t c name
  event_on _ name = None

  abbrev pub instance_or_unknown : Role → Bool → Element → Meaning → Placed
  instance_or_unknown role right tag meaning = if is_known_tag meaning then stands tag (An_instance meaning role) right else unknown tag

  -- a tag where no element may stand, or below one that isn't known, where only what is inside is judged
  abbrev pub stray_placed : Bool → Element → Placed
  stray_placed right tag =
      if is_language_tag tag then language_placed false tag
      else if is_states_tag tag then stands tag States_tag false
      else instance_or_unknown Astray right tag (class_of_tag t.names tag)

  -- an instance that is no visual child
  abbrev pub plain_placed : Role → Element → Placed
  plain_placed role tag =
      if is_language_tag tag then language_placed false tag
      else if is_states_tag tag then stands tag States_tag false
      else instance_or_unknown role (may_be_instance (class_of_tag t.names tag)) tag (class_of_tag t.names tag)

  -- a visual child: a component in a container
  abbrev pub child_placed : Meaning → Element → Placed
  child_placed parent tag =
      instance_or_unknown Child (may_be_instance (class_of_tag t.names tag) && is_component_class (class_of_tag t.names tag) && is_container_class parent) tag
      (class_of_tag t.names tag)

  -- a child whose name is a property and a class is the property tag
  abbrev pub property_or_child : Meaning → Element → Bool → Option Property → Placed
  property_or_child parent tag filled None = child_placed parent tag
  property_or_child parent tag filled (Some p) = stands tag (Property_tag p (holds_of p.type filled)) true

  -- a property of the parent's class, in the parent's namespace
  abbrev pub own_property : Element → Meaning → Element → Option Property
  own_property parent meaning tag = if bytes_eq parent.space tag.space then property_on meaning tag.local else None

  abbrev pub in_instance : Element → Meaning → Role → Element → Bool → Placed
  in_instance parent meaning role tag filled =
      if is_language_tag tag then language_placed (is_root role) tag
      else if is_states_tag tag then stands tag States_tag (is_root role)
      else property_or_child meaning tag filled (own_property parent meaning tag)

  abbrev pub literal_or_plain : Bool → Role → Element → Placed
  literal_or_plain needs_id role tag = if is_literal_tag tag then literal_placed needs_id tag else plain_placed role tag

  abbrev pub goes_in : Class → Standing → Bool
  goes_in type (An_instance (Meaning.Means c) role) = goes_into t.bases (ValueType.Object c) (ValueType.Object type)
  goes_in type (An_instance _ role) = false
  goes_in type _ = true

  abbrev pub also_right : Bool → Placed → Placed
  also_right right p = record p { right = p.right && right }

  -- one instance of the property's class, and nothing before it
  abbrev pub value_placed : Class → Before → Element → Placed
  value_placed type before tag = also_right (not before.any && goes_in type (plain_placed Value tag).standing) (plain_placed Value tag)

  abbrev pub in_states : Element → Placed
  in_states tag =
      if not (is_language_tag tag) && not (is_states_tag tag) && is_state_class (class_of_tag t.names tag) then stands tag A_state true else stray_placed false tag

  abbrev pub in_state : Element → Element → Placed
  in_state parent tag = if bytes_eq parent.space tag.space && among tag.local state_property_names then stands tag State_property true else stray_placed false tag

  abbrev pub in_property : Holds → Before → Element → Placed
  in_property Words before tag = stray_placed false tag
  in_property (One_instance type) before tag = value_placed type before tag
  in_property Array_items before tag = literal_or_plain false Item tag

  abbrev pub in_literal : ValueType → Element → Placed
  in_literal ValueType.Array tag = literal_or_plain false Item tag
  in_literal type tag = stray_placed false tag

  -- what a tag is, by what its parent is; `filled` says that elements stand in it
  abbrev pub placed_in : Placed → Before → Element → Bool → Placed
  placed_in parent before tag filled =
      elim parent.standing [
        | An_instance meaning role ↦ in_instance parent.tag meaning role tag filled
        | Property_tag p holds ↦ in_property holds before tag
        | Script ↦ stray_placed false tag
        | Metadata ↦ stray_placed false tag
        | Declarations ↦ literal_or_plain true Declared tag
        | Binding ↦ stray_placed false tag
        | States_tag ↦ in_states tag
        | A_state ↦ in_state parent.tag tag
        | State_property ↦ stray_placed false tag
        | Literal_tag type needs_id ↦ in_literal type tag
        | Unknown_tag ↦ stray_placed true tag
      ]

  abbrev pub text_in_property : Holds → Before → Bool
  text_in_property Words before = not before.text
  text_in_property (One_instance type) before = not before.any
  text_in_property Array_items before = false

  abbrev pub text_in_literal : ValueType → Before → Bool
  text_in_literal ValueType.Array before = false
  text_in_literal type before = not before.text

  -- whether a text may stand there
  abbrev pub text_right : Standing → Before → Bool
  text_right (Property_tag p holds) before = text_in_property holds before
  text_right Script before = true
  text_right Metadata before = true
  text_right State_property before = not before.text
  text_right (Literal_tag type needs_id) before = text_in_literal type before
  text_right Unknown_tag before = true
  text_right _ before = false

  abbrev pub root_placed : Element → Placed
  root_placed tag = stands tag (An_instance (class_of_tag t.names tag) Root) true
