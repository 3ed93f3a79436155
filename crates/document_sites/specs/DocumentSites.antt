-- Phase 3 in documents: tags, attributes and texts.
use Rattle.std.specs.Prelude.{ℕ, ◌+◌, List, [], ◌∷◌, ◌++◌, length, map, Bool, true, false, not, ◌&&◌, ◌||◌, if◌then◌else◌, ◌==◌, nat_le, nat_lt, Option, bytes_eq, codes}
use Rattle.std.specs.List.{list_any, filter, flat_map}
use Rattle.component_catalog.specs.declared.class.TagPlace.{TagPlace}
use Rattle.component_catalog.specs.declared.class.TagPlace.TheVariants.{Anywhere, Root}
use Rattle.flex_world.specs.declared.kind.Class.{Class}
use Rattle.flex_world.specs.declared.kind.Class.TheVariants as Class
use Rattle.mxml_tree.specs.Tree.{Nodes, NoNode}
use Rattle.mxml_tree.specs.declared.tree.Attribute.{Attribute}
use Rattle.mxml_tree.specs.declared.tree.Element.{Element}
use Rattle.source_sites.specs.declared.code.Code.TheVariants as code
use Rattle.source_sites.specs.Texts.{Text, is_there, place_of}
use Rattle.source_sites.specs.Syntax.{TypedName}
use Rattle.source_sites.specs.Types.{ValueType}
use Rattle.source_sites.specs.Sites.{Rule, rule}
use Rattle.source_sites.specs.Sources.{Reading, Readers, Holder}
use Rattle.source_sites.specs.Scripts.{holder, code_origin, placed}
use Rattle.source_sites.specs.declared.names.NamedClass.{NamedClass}
use Rattle.source_sites.specs.Names.{script_items}
use Rattle.source_sites.specs.Members.{Property, Table, is_id, id_type, metadata_tags}
use Rattle.class_sites.specs.ReadingSites.{unread}
use Rattle.class_sites.specs.MemberSites.{DeclaredName, name_of_id, names_before, duplicate_member, too_many_members, bad_metadata, local_sites, item_sites}
use Rattle.document_sites.specs.BindingTexts.{is_binding, bindings_of_text, literal_value, setting}
use Rattle.document_sites.specs.Standing.{Role, Holds, Standing, Placed, is_root, tags_of_meaning}
use Rattle.document_sites.specs.Parts.{Part, Parts, StandingElement, first_text, has_text, elements_from, sites_of_part}
use Rattle.document_sites.specs.Attributes.{dotted_name, AttributeKind, attribute_kind}

-- all sites of code in an attribute stand at its name
abbrev pub all_at : ℕ → List Rule → List Rule
all_at at sites = map (λ (r : Rule). record r { at = at }) sites

abbrev pub state_of : Attribute → Option Text
state_of a = (dotted_name a.local).state

abbrev pub may_override : AttributeKind → Bool
may_override (AttributeKind.Special name) = true
may_override (AttributeKind.Sets p) = not p.read_only
may_override (AttributeKind.Hears e) = true
may_override (AttributeKind.Of_the_tag name) = true
may_override _ = false

-- an attribute with a dot that is an override
abbrev pub is_override : AttributeKind → Attribute → Bool
is_override kind a = is_there (state_of a) && may_override kind

-- an attribute, a property tag or an fx:Binding that is so many bindings
pub record Counted : Type 0 where
  pub at : ℕ
  pub bindings : ℕ

-- the places of what is counted in a document, in document order
pub record Counts : Type 0 where
  -- the root first
  pub instances : List ℕ
  pub states : List ℕ
  pub overrides : List ℕ
  pub bindings : List Counted

abbrev pub is_instance : Standing → Bool
is_instance (Standing.An_instance meaning role) = true
is_instance _ = false

abbrev pub is_root_standing : Standing → Bool
is_root_standing (Standing.An_instance meaning role) = is_root role
is_root_standing _ = false

abbrev pub is_state : Standing → Bool
is_state Standing.A_state = true
is_state _ = false

abbrev pub places_where : (Standing → Bool) → List StandingElement → List ℕ
places_where test es = map (λ (e : StandingElement). e.at) (filter (λ (e : StandingElement). test e.placed.standing) es)

abbrev pub says_two_way : Element → Bool
says_two_way tag = list_any (λ (a : Attribute). length a.space == 0 && bytes_eq a.local (codes "twoWay") && bytes_eq a.value (codes "true")) tag.attributes

abbrev pub is_words : Holds → Bool
is_words Holds.Words = true
is_words _ = false

-- a property tag that is a binding
abbrev pub is_binding_tag : Property → Holds → Parts → Bool
is_binding_tag p holds parts = is_words holds && not p.read_only && is_binding (first_text parts)

abbrev pub counted_if : Bool → ℕ → Text → List Counted
counted_if test at text = if test then record { at = at; bindings = bindings_of_text text } ∷ [] else []

abbrev pub sets_binding : AttributeKind → Attribute → Bool
sets_binding (AttributeKind.Sets p) a = not p.read_only && not (is_there (state_of a)) && is_binding a.value
sets_binding _ a = false

abbrev pub bindings_of_tag : Standing → ℕ → Element → Parts → List Counted
bindings_of_tag (Standing.Property_tag p holds) at tag parts = counted_if (is_binding_tag p holds parts) at (first_text parts)
bindings_of_tag Standing.Binding at tag parts = record { at = at; bindings = if says_two_way tag then 2 else 1 } ∷ []
bindings_of_tag _ at tag parts = []

module _ (t : Table) (class : Class) where
  abbrev pub overrides_of : StandingElement → List ℕ
  overrides_of e = map (λ (a : Attribute). a.at) (filter (λ (a : Attribute). is_override (attribute_kind t class e.placed.standing a) a) e.placed.tag.attributes)

  abbrev pub bindings_of : StandingElement → List Counted
  bindings_of e =
      flat_map (λ (a : Attribute). counted_if (sets_binding (attribute_kind t class e.placed.standing a) a) a.at a.value) e.placed.tag.attributes
      ++ bindings_of_tag e.placed.standing e.at e.placed.tag e.parts

  abbrev pub counts_of_elements : List StandingElement → Counts
  counts_of_elements es =
      record {
        instances = places_where is_instance es;
        states = places_where is_state es;
        overrides = flat_map overrides_of es;
        bindings = flat_map bindings_of es;
      }

  abbrev pub counts_of : Part → Counts
  counts_of part = counts_of_elements (elements_from part)

-- how many bindings stand before a place
abbrev pub bindings_before : ℕ → List Counted → ℕ
bindings_before at [] = 0
bindings_before at (c ∷ cs) = if c.at == at then 0 else c.bindings + bindings_before at cs

abbrev pub bindings_at : ℕ → List Counted → ℕ
bindings_at at [] = 0
bindings_at at (c ∷ cs) = if c.at == at then c.bindings else bindings_at at cs

abbrev pub fits_bindings : ℕ → ℕ → Bool
fits_bindings before more = nat_lt 512 before || nat_le (before + more) 512

abbrev pub may_carry : Role → Bool
may_carry Role.Child = true
may_carry Role.Astray = true
may_carry _ = false

-- an id can't stand on the root, and includeIn, excludeFrom and the policies stand on visual children alone
abbrev pub may_be_special : Standing → Text → Bool
may_be_special (Standing.An_instance meaning role) name = if bytes_eq name (codes "id") then not (is_root role) else may_carry role
may_be_special _ name = true

abbrev pub is_truth_word : Text → Bool
is_truth_word text = bytes_eq text (codes "true") || bytes_eq text (codes "false")

abbrev pub too_long_value : ℕ → Text → Rule
too_long_value at text = rule at code.TooLong (nat_le (length text) 2048)

abbrev pub has_id : Element → Bool
has_id tag = list_any is_id tag.attributes

-- a document: its file and class, the names that the class declares, and what is counted in it
module _ (readers : Readers) (t : Table) (k : ℕ) (here : NamedClass) (declared : List DeclaredName) (bytes : List ℕ) (counts : Counts) where
  abbrev pub class : Class
  class = Class.File k

  -- attributes

  abbrev pub stands_rightly : Standing → AttributeKind → Attribute → Bool
  stands_rightly standing (AttributeKind.Special name) a = is_there (state_of a) || may_be_special standing name
  stands_rightly standing AttributeKind.Misplaced a = false
  stands_rightly standing kind a = true

  abbrev pub wrong_attribute_place : Standing → AttributeKind → Attribute → Rule
  wrong_attribute_place standing kind a = rule a.at code.WrongPlace (stands_rightly standing kind a)

  abbrev pub is_strange : AttributeKind → Bool
  is_strange AttributeKind.Strange = true
  is_strange _ = false

  abbrev pub unknown_attribute : AttributeKind → Attribute → Rule
  unknown_attribute kind a = rule a.at code.UnknownAttribute (not (is_strange kind))

  abbrev pub is_read_only : AttributeKind → Bool
  is_read_only (AttributeKind.Sets p) = p.read_only
  is_read_only _ = false

  abbrev pub read_only_attribute : AttributeKind → Attribute → Rule
  read_only_attribute kind a = rule a.at code.ReadOnly (not (is_read_only kind))

  -- an id is an identifier; the text of a property converts
  abbrev pub is_right_special : Text → Attribute → Bool
  is_right_special name a = not (bytes_eq name (codes "id")) || is_there (state_of a) || readers.is_identifier a.value

  abbrev pub is_right_own : Text → Attribute → Bool
  is_right_own name a =
      if bytes_eq name (codes "id") then readers.is_identifier a.value
      else if bytes_eq name (codes "twoWay") then is_truth_word a.value
      else true

  abbrev pub is_right_literal : AttributeKind → Attribute → Bool
  is_right_literal (AttributeKind.Special name) a = is_right_special name a
  is_right_literal (AttributeKind.Of_the_tag name) a = is_right_own name a
  is_right_literal (AttributeKind.Sets p) a = is_binding a.value || is_there (setting p a.value)
  is_right_literal kind a = true

  abbrev pub bad_attribute_literal : AttributeKind → Attribute → Rule
  bad_attribute_literal kind a = rule a.at code.BadLiteral (is_right_literal kind a)

  -- BadToken, Syntax and TooDeep of a handler
  abbrev pub unread_handler : AttributeKind → Attribute → List Rule
  unread_handler (AttributeKind.Hears e) a = unread (λ at. a.at) (readers.handler a.value)
  unread_handler kind a = []

  abbrev pub handler_local_sites : Reading (List TypedName) → List Rule
  handler_local_sites (Reading.Reads locals) = local_sites readers t k here declared locals
  handler_local_sites (Reading.Faults at code) = []

  -- the types that a handler names
  abbrev pub handler_type_sites : AttributeKind → Attribute → List Rule
  handler_type_sites (AttributeKind.Hears e) a = all_at a.at (handler_local_sites (readers.handler a.value))
  handler_type_sites kind a = []

  abbrev pub too_many_overrides : AttributeKind → Attribute → Rule
  too_many_overrides kind a = rule a.at code.TooMany (not (is_override kind a && place_of a.at counts.overrides == 512))

  abbrev pub too_many_bindings : ℕ → Rule
  too_many_bindings at = rule at code.TooMany (fits_bindings (bindings_before at counts.bindings) (bindings_at at counts.bindings))

  -- an id that makes a member of the class
  abbrev pub makes_member : Placed → Attribute → Bool
  makes_member p a = is_id a && not (is_root_standing p.standing) && readers.is_identifier a.value && is_there (id_type t.names t.constructors p.tag)

  abbrev pub if_member : ℕ → Placed → Attribute → (List DeclaredName → DeclaredName → Rule) → List Rule
  if_member at p a judged = if makes_member p a then judged (names_before at a.at declared) (name_of_id (holder at p.tag NoNode) a) ∷ [] else []

  abbrev pub judged_attribute_sites : ℕ → Placed → AttributeKind → Attribute → List Rule
  judged_attribute_sites at p kind a =
      handler_type_sites kind a
      ++ if_member at p a (duplicate_member readers t k here declared)
      ++ (wrong_attribute_place p.standing kind a ∷ unknown_attribute kind a ∷ read_only_attribute kind a ∷ bad_attribute_literal kind a ∷ [])
      ++ unread_handler kind a
      ++ (too_long_value a.at a.value ∷ too_many_overrides kind a ∷ too_many_bindings a.at ∷ [])
      ++ if_member at p a (too_many_members readers t k here declared)

  -- nothing is judged of the attributes of a tag that isn't known
  abbrev pub attribute_sites_as : ℕ → Placed → Attribute → AttributeKind → List Rule
  attribute_sites_as at p a AttributeKind.Not_judged = []
  attribute_sites_as at p a kind = judged_attribute_sites at p kind a

  abbrev pub attribute_sites : ℕ → Placed → Attribute → List Rule
  attribute_sites at p a = attribute_sites_as at p a (attribute_kind t class p.standing a)

  -- elements

  abbrev pub may_be_root_tag : TagPlace → Bool
  may_be_root_tag Anywhere = true
  may_be_root_tag Root = true
  may_be_root_tag _ = false

  abbrev pub is_known_standing : Standing → Bool
  is_known_standing Standing.Unknown_tag = false
  is_known_standing (Standing.An_instance meaning role) = not (is_root role) || may_be_root_tag (tags_of_meaning t class meaning)
  is_known_standing _ = true

  abbrev pub unknown_tag : ℕ → Placed → Rule
  unknown_tag at p = rule at code.UnknownTag (is_known_standing p.standing)

  abbrev pub has_needed_id : Standing → Element → Bool
  has_needed_id (Standing.Literal_tag type needs_id) tag = not needs_id || has_id tag
  has_needed_id _ tag = true

  abbrev pub wrong_place : ℕ → Placed → Rule
  wrong_place at p = rule at code.WrongPlace (p.right && has_needed_id p.standing p.tag)

  abbrev pub is_read_only_tag : Standing → Bool
  is_read_only_tag (Standing.Property_tag p holds) = p.read_only
  is_read_only_tag _ = false

  abbrev pub read_only_tag : ℕ → Placed → Rule
  read_only_tag at p = rule at code.ReadOnly (not (is_read_only_tag p.standing))

  abbrev pub is_empty_array : ValueType → Parts → Bool
  is_empty_array ValueType.Array parts = not (has_text parts)
  is_empty_array type parts = false

  abbrev pub is_right_property : Property → Holds → Parts → Bool
  is_right_property p Holds.Words parts = is_empty_array p.type parts || is_binding (first_text parts) || is_there (setting p (first_text parts))
  is_right_property p holds parts = true

  abbrev pub is_right_literal_tag : ValueType → Parts → Bool
  is_right_literal_tag ValueType.Array parts = true
  is_right_literal_tag type parts = is_there (literal_value type (first_text parts))

  abbrev pub has_right_text : Standing → Parts → Bool
  has_right_text (Standing.Property_tag p holds) parts = is_right_property p holds parts
  has_right_text (Standing.Literal_tag type needs_id) parts = is_right_literal_tag type parts
  has_right_text _ parts = true

  abbrev pub bad_literal : ℕ → Placed → Parts → Rule
  bad_literal at p parts = rule at code.BadLiteral (has_right_text p.standing parts)

  -- the texts whose bytes are limited
  abbrev pub limited_text : Standing → Parts → Text
  limited_text (Standing.Property_tag p Holds.Words) parts = first_text parts
  limited_text (Standing.Literal_tag ValueType.String needs_id) parts = first_text parts
  limited_text Standing.State_property parts = first_text parts
  limited_text _ parts = []

  abbrev pub too_many_instances : ℕ → Rule
  too_many_instances at = rule at code.TooMany (not (place_of at counts.instances == 513))

  abbrev pub too_many_states : ℕ → Rule
  too_many_states at = rule at code.TooMany (not (place_of at counts.states == 64))

  abbrev pub too_many : Standing → ℕ → List Rule
  too_many (Standing.An_instance meaning role) at = too_many_instances at ∷ []
  too_many Standing.A_state at = too_many_states at ∷ []
  too_many (Standing.Property_tag property holds) at = too_many_bindings at ∷ []
  too_many Standing.Binding at = too_many_bindings at ∷ []
  too_many _ at = []

  -- the members and the metadata in an element
  abbrev pub code_sites_in : Standing → Holder → List Rule
  code_sites_in Standing.Script h = flat_map (item_sites readers t k here declared h.at) (script_items readers h)
  code_sites_in Standing.Metadata h = map (bad_metadata readers t k here declared) (metadata_tags readers h)
  code_sites_in _ h = []

  abbrev pub code_sites : Placed → Holder → List Rule
  code_sites p h = placed bytes (code_origin h) (code_sites_in p.standing h)

  -- the code in it, which its span holds; then the element's own rules in the order of the table
  abbrev pub element_sites : ℕ → Placed → Nodes → Parts → List Rule
  element_sites at p nodes parts =
      code_sites p (holder at p.tag nodes)
      ++ ((unknown_tag at p ∷ wrong_place at p ∷ read_only_tag at p ∷ bad_literal at p parts ∷ too_long_value at (limited_text p.standing parts) ∷ [])
      ++ too_many p.standing at)

  abbrev pub misplaced_text : ℕ → Bool → List Rule
  misplaced_text at right = rule at code.WrongPlace right ∷ []

  abbrev pub document_sites : Part → List Rule
  document_sites part = sites_of_part attribute_sites element_sites misplaced_text part
