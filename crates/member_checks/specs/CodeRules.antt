-- The rules of the members of a class file.
use Rattle.std.specs.Prelude.{◌≡◌, ℕ, List, [], ◌∷◌, ◌++◌, map, length, Bool, not, ◌&&◌, ◌==◌, bytes_eq, Option, None, option_and_then, if◌then◌else◌}
use Rattle.std.specs.List.{flat_map, list_any}
use Rattle.member_checks.specs.declared.names.NamedPlace.{NamedPlace}
use Rattle.as3_parser.specs.declared.tree.Lexeme.{Lexeme}
use Rattle.as3_parser.specs.declared.tree.Modifier.{Modifier}
use Rattle.source_sites.specs.declared.code.Code.TheVariants as code
use Rattle.source_sites.specs.declared.site.Site.{Site}
use Rattle.source_sites.specs.Sites.{Rule, first_site, rule}
use Rattle.as3_parser.specs.declared.tree.Member as m
use Rattle.as3_parser.specs.declared.tree.Parameter as p
use Rattle.as3_parser.specs.declared.tree.Variable as v
use Rattle.as3_types.specs.Types.{function_of}
use Rattle.as3_parser.specs.declared.tree.ResultType as r
use Rattle.as3_parser.specs.declared.tree.Statement.{Statement}
use Rattle.source_sites.specs.Sources.{Reading, Readers}
use Rattle.source_sites.specs.Syntax.{ClassFile, Declares, Function, Member, MetadataTag, ResultType, TypedName}
use Rattle.source_sites.specs.Trees.{declares_of, locals_of_body, member_of, parameter_of, result_of, variable_of}
use Rattle.source_sites.specs.Types.{ValueType}
use Rattle.flex_world.specs.Classes.{base_in}
use Rattle.flex_world.specs.declared.kind.Class.TheVariants as Class
use Rattle.source_sites.specs.Texts.{Text}
use Rattle.source_sites.specs.Members.{Found}
use Rattle.source_sites.specs.LookUps as look_ups
use Rattle.class_sites.specs.MemberSites as sites
use Rattle.class_sites.specs.MemberSites.{DeclaredName, names_of_members}
use Rattle.as3_types.specs.Tables.{table_of}
use Rattle.as3_types.specs.Identifiers.{is_identifier}
use Rattle.member_checks.specs.declared.scope.ClassScope.{ClassScope}

-- a class file is read already: which texts are identifiers is all that is asked
abbrev pub class_readers : Readers
class_readers =
    record {
      is_identifier = is_identifier;
      members = λ text. Reading.Faults 0 code.Syntax;
      metadata = λ text. Reading.Faults 0 code.Syntax;
      handler = λ text. Reading.Faults 0 code.Syntax;
    }

module _ (s : ClassScope) where
  abbrev pub declared_in : List DeclaredName
  declared_in = names_of_members 0 (map member_of s.members.now)

  abbrev pub metadata_rule : MetadataTag → Rule
  metadata_rule m = sites.bad_metadata class_readers (table_of s.table.now) s.file s.here.now declared_in m

  abbrev pub right_arguments : MetadataTag → Bool
  right_arguments m = sites.has_right_arguments class_readers (table_of s.table.now) s.file s.here.now declared_in m

  abbrev pub type_rule : List Lexeme → Rule
  type_rule path = sites.unknown_type class_readers (table_of s.table.now) s.file s.here.now declared_in path

  abbrev pub name_rules : DeclaredName → List Rule
  name_rules n = sites.name_sites class_readers (table_of s.table.now) s.file s.here.now declared_in n

  abbrev pub local_rules : List TypedName → List Rule
  local_rules locals = sites.local_sites class_readers (table_of s.table.now) s.file s.here.now declared_in locals

  abbrev pub parameter_rules : ℕ → List TypedName → List Rule
  parameter_rules n parameters = sites.parameter_sites class_readers (table_of s.table.now) s.file s.here.now declared_in n parameters

  abbrev pub result_rules : ResultType → List Rule
  result_rules result = sites.result_sites class_readers (table_of s.table.now) s.file s.here.now declared_in result

  abbrev pub function_rules : List Modifier → Function → List Rule
  function_rules modifiers f = sites.function_sites class_readers (table_of s.table.now) s.file s.here.now declared_in 0 modifiers f

  abbrev pub variable_rules : List Modifier → TypedName → List Rule
  variable_rules modifiers v = sites.variable_sites class_readers (table_of s.table.now) s.file s.here.now declared_in 0 modifiers v

  abbrev pub declared_rules : List Modifier → Declares → List Rule
  declared_rules modifiers d = sites.declared_sites class_readers (table_of s.table.now) s.file s.here.now declared_in 0 modifiers d

  abbrev pub member_rules : Member → List Rule
  member_rules m = sites.member_sites class_readers (table_of s.table.now) s.file s.here.now declared_in 0 m

  abbrev pub members_rules : List m.Member → List Rule
  members_rules members = flat_map member_rules (map member_of members)

  abbrev pub members_and_words : ClassFile → List Rule
  members_and_words file = flat_map member_rules file.members ++ (sites.wrong_class_modifiers file ∷ [])

  -- those of the class behind its imports: of its metadata, its members and its words
  abbrev pub behind_imports : ClassFile → List Rule
  behind_imports file = map metadata_rule file.metadata ++ members_and_words file

  abbrev pub class_rules : ClassFile → List Rule
  class_rules file = sites.class_file_member_sites class_readers (table_of s.table.now) s.file s.here.now declared_in file

  abbrev pub known_type : ValueType → Bool
  known_type t = sites.is_known_type class_readers (table_of s.table.now) s.file s.here.now declared_in t

-- the rules of a name behind earlier ones: whether it is free in the bases, and whether it fits what it overrides
abbrev pub new_rule : Lexeme → List NamedPlace → Bool → Rule
new_rule name earlier free = rule name.span.start code.DuplicateMember (not (list_any (λ (n : NamedPlace). bytes_eq n.name name.text) earlier) && free)

abbrev pub override_rule : Lexeme → Bool → Rule
override_rule name fits = rule name.span.start code.WrongOverride fits

abbrev pub room_rule : Lexeme → List NamedPlace → Rule
room_rule name earlier = rule name.span.start code.TooMany (not (length earlier == 1024))

abbrev pub rules_of_name : Lexeme → List NamedPlace → Bool → Bool → List Rule
rules_of_name name earlier free fits = new_rule name earlier free ∷ override_rule name fits ∷ room_rule name earlier ∷ []

-- the member of the bases of a class that has the name; a constructor takes none
abbrev pub above_unless : ClassScope → Bool → Text → Option Found
above_unless s constructor name =
    if constructor then None else option_and_then (λ base. look_ups.member_of (table_of s.table.now) base name) (base_in (table_of s.table.now).bases (Class.File s.file))

-- a site is that of the first broken of these rules, or there is none
abbrev pub Finds : ClassScope → List Rule → Option Site → Type 0
Finds s rules site = site ≡ first_site s.file rules

-- the rules of what a member declares, and of the types that a function names
abbrev pub code_rules : ClassScope → m.Member → List Rule
code_rules s member = declared_rules s member.modifiers.items (declares_of member.kind)

abbrev pub body_rules : ClassScope → Option r.ResultType → List Statement → List Rule
body_rules s given body = result_rules s (result_of given) ++ local_rules s (locals_of_body body)

abbrev pub named_type_rules : ClassScope → List p.Parameter → Option r.ResultType → List Statement → List Rule
named_type_rules s parameters given body = parameter_rules s 0 (map parameter_of parameters) ++ body_rules s given body

-- what a member declares, and then its words
abbrev pub code_and_words : ClassScope → m.Member → List Rule
code_and_words s member = code_rules s member ++ (sites.wrong_modifiers (member_of member) ∷ [])

abbrev pub rules_of_parameters : ClassScope → List p.Parameter → List Rule
rules_of_parameters s parameters = parameter_rules s 0 (map parameter_of parameters)

-- the first broken rule of the name of a variable, whatever its words are
abbrev pub FindsOfVariableName : ClassScope → v.Variable → Option Site → Type 0
FindsOfVariableName s variable site = (modifiers : List Modifier) → Finds s (name_rules s (sites.name_of_variable 0 modifiers (variable_of variable))) site

-- and of that of a function, whatever its local variables are
abbrev pub FindsOfFunctionName : ClassScope → List Modifier → Lexeme → List p.Parameter → Option r.ResultType → Option Site → Type 0
FindsOfFunctionName s modifiers name parameters given site =
    (locals : List TypedName) → Finds s (name_rules s (sites.name_of_function 0 modifiers (function_of name parameters given locals))) site
