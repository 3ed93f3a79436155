-- What members declare: functions and variables, and the words before them.
use Rattle.std.specs.Prelude.{ℕ, List, [], ◌∷◌, Bool, true, false, Option, ◌==◌, if◌then◌else◌, bytes_eq, codes}
use Rattle.std.specs.List.{list_any, find, flat_map}
use Rattle.as3_parser.specs.declared.tree.Modifier.{Modifier}
use Rattle.as3_parser.specs.declared.tree.Modifier.TheVariants as modifier
use Rattle.source_sites.specs.Texts.{Text}
use Rattle.source_sites.specs.Syntax.{Function, Declares, MetadataTag, Member, Item}
use Rattle.source_sites.specs.declared.names.NamedClass.{NamedClass}

abbrev pub functions_in : Declares → List Function
functions_in (Declares.Variables variables) = []
functions_in (Declares.Method f) = f ∷ []

abbrev pub functions_of : List Member → List Function
functions_of members = flat_map (λ (m : Member). functions_in m.declares) members

-- the constructor of a class is its first function of the class's name
abbrev pub is_constructor : NamedClass → Function → Bool
is_constructor here f = bytes_eq f.name.text here.name

abbrev pub constructor_in : NamedClass → List Member → Option Function
constructor_in here members = find (is_constructor here) (functions_of members)

-- the members among what stands in a script, in text order
abbrev pub member_in : Item → List Member
member_in (Item.Imports i) = []
member_in (Item.Declares_member m) = m ∷ []

-- `public`, `private` and `protected` are the access words
abbrev pub is_access : Modifier → Bool
is_access modifier.Override = false
is_access _ = true

-- the access that words give: that of the first access word
abbrev pub access_of : List Modifier → Modifier
access_of [] = modifier.Public
access_of (m ∷ ms) = if is_access m then m else access_of ms

abbrev pub modifier_number : Modifier → ℕ
modifier_number modifier.Public = 0
modifier_number modifier.Private = 1
modifier_number modifier.Protected = 2
modifier_number modifier.Override = 3

abbrev pub same_modifier : Modifier → Modifier → Bool
same_modifier a b = modifier_number a == modifier_number b

abbrev pub overrides : List Modifier → Bool
overrides modifiers = list_any (same_modifier modifier.Override) modifiers

abbrev pub has_metadata : Text → List MetadataTag → Bool
has_metadata name tags = list_any (λ (m : MetadataTag). bytes_eq m.name name) tags

abbrev pub is_bindable : List MetadataTag → Bool
is_bindable = has_metadata (codes "Bindable")
