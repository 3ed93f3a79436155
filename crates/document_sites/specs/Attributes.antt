-- What each attribute of a document is.
use Rattle.std.specs.Prelude.{ℕ, List, [], ◌∷◌, length, Bool, true, false, not, ◌&&◌, ◌||◌, if◌then◌else◌, ◌==◌, Option, Some, None, bytes_eq, codes}
use Rattle.flex_world.specs.declared.kind.Class.{Class}
use Rattle.mxml_tree.specs.declared.tree.Attribute.{Attribute}
use Rattle.source_sites.specs.Texts.{Text, among, is_there}
use Rattle.source_sites.specs.Names.{Meaning}
use Rattle.source_sites.specs.Members.{Property, Event, Table}
use Rattle.document_sites.specs.Standing.{Role, Standing, is_root, property_on, event_on, state_property_names, An_instance, Binding, A_state, Literal_tag, Unknown_tag}

-- a name with what stands behind its first dot, if there is one
pub record Dotted : Type 0 where
  pub name : Text
  pub state : Option Text

abbrev pub add_to_name : ℕ → Dotted → Dotted
add_to_name b d = record d { name = b ∷ d.name }

abbrev pub dotted_name : Text → Dotted
dotted_name [] = record { name = []; state = None }
dotted_name (b ∷ bs) = elim (b == 46) [ true ↦ record { name = []; state = Some bs } | false ↦ add_to_name b (dotted_name bs) ]

-- what an attribute is
pub data AttributeKind : Type 0 where
  -- `id`, includeIn, excludeFrom or a policy
  Special : (name : Text) → AttributeKind
  Sets : (property : Property) → AttributeKind
  Hears : (event : Event) → AttributeKind
  -- one that the tag itself has, as `source` of fx:Binding
  Of_the_tag : (name : Text) → AttributeKind
  -- a name that can't stand there
  Misplaced : AttributeKind
  -- neither a property, an event nor one of the special names
  Strange : AttributeKind
  -- on a tag that isn't known
  Not_judged : AttributeKind

abbrev pub special_names : List Text
special_names = codes "id" ∷ codes "includeIn" ∷ codes "excludeFrom" ∷ codes "itemCreationPolicy" ∷ codes "itemDestructionPolicy" ∷ []

abbrev pub is_special : Text → Bool
is_special name = among name special_names

abbrev pub current_state : Text
current_state = codes "currentState"

abbrev pub of_other_tags : Text → AttributeKind
of_other_tags name = if is_special name || bytes_eq name current_state then Misplaced else Strange

abbrev pub of_tag : List Text → Text → AttributeKind
of_tag own name = if among name own then Of_the_tag name else of_other_tags name

-- a property goes before an event of that name
abbrev pub set_or_heard : Option Property → Option Event → AttributeKind
set_or_heard (Some p) event = Sets p
set_or_heard None (Some e) = Hears e
set_or_heard None None = Strange

abbrev pub binding_names : List Text
binding_names = codes "source" ∷ codes "destination" ∷ codes "twoWay" ∷ []

module _ (t : Table) (class : Class) where
  -- `currentState` can't stand on the root, nor on what has no such property
  abbrev pub on_instance : Meaning → Role → Text → AttributeKind
  on_instance meaning role name =
      if is_special name then Special name
      else if bytes_eq name current_state && (is_root role || not (is_there (property_on t class meaning name))) then Misplaced
      else set_or_heard (property_on t class meaning name) (event_on t class meaning name)

  -- by the tag, and the name before a dot
  abbrev pub attribute_on : Standing → Text → Text → AttributeKind
  attribute_on (An_instance meaning role) name local = on_instance meaning role name
  attribute_on Binding name local = of_tag binding_names local
  attribute_on A_state name local = of_tag state_property_names name
  attribute_on (Literal_tag type true) name local = of_tag (codes "id" ∷ []) local
  attribute_on Unknown_tag name local = Not_judged
  attribute_on _ name local = of_other_tags local

  abbrev pub if_judged : AttributeKind → AttributeKind
  if_judged Not_judged = Not_judged
  if_judged _ = Strange

  -- an attribute with a prefix is a strange one
  abbrev pub attribute_kind : Standing → Attribute → AttributeKind
  attribute_kind standing a =
      if length a.space == 0 then attribute_on standing (dotted_name a.local).name a.local else if_judged (attribute_on standing (dotted_name a.local).name a.local)
