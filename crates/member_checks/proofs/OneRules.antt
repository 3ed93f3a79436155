-- The rules of members are the same for all readers that know the same identifiers.
use Rattle.std.proofs.Common.{◌≡◌, ◌∙◌, sym, ℕ, suc, List, [], ◌∷◌, ◌++◌, ap, refl, map, true, false, length, codes, bytes_eq, ◌&&◌, not}
use Rattle.std.specs.Prelude.{Option, Some, None, if◌then◌else◌, ◌==◌, is_some}
use Rattle.std.specs.List.{flat_map, list_all}
use Rattle.as3_parser.specs.declared.tree.Lexeme.{Lexeme}
use Rattle.as3_parser.specs.declared.tree.Modifier.{Modifier}
use Rattle.flex_world.specs.declared.kind.Class.{Class}
use Rattle.source_sites.specs.declared.code.Code.TheVariants as code
use Rattle.source_sites.specs.Members.{Table, declared_event, event_at, event_of_class, metadata_value, type_at}
use Rattle.source_sites.specs.Names.{class_at, class_of, path_at, path_names}
use Rattle.source_sites.specs.declared.site.Site.{Site}
use Rattle.source_sites.specs.Sites.{Rule, first_site, rule}
use Rattle.source_sites.specs.Sources.{Readers}
use Rattle.source_sites.specs.Syntax.{ClassFile, Declares, Function, Member, MetadataTag, ResultType, TypedName}
use Rattle.source_sites.specs.Texts.{Text, is_there, split}
use Rattle.source_sites.specs.Types.{ValueType}
use Rattle.source_sites.specs.declared.names.NamedClass.{NamedClass}
use Rattle.class_sites.specs.MemberSites.{DeclaredName, bad_metadata, class_file_member_sites, declared_sites, function_sites, has_right_arguments, is_known_type, local_sites, member_sites, name_of_function, name_sites, name_of_variable, parameter_sites, result_sites, too_many_parameters, unknown_type, variable_sites, wrong_class_modifiers, wrong_import, wrong_modifiers}
use Rattle.as3_types.specs.Identifiers.{is_identifier}
use Rattle.member_checks.specs.AllReaders.{KnowsIdentifiers}
use Rattle.member_checks.specs.CodeRules.{class_readers}
use Rattle.member_checks.proofs.Walks.{first_fails, first_holds}

-- the rules of a class behind its imports
abbrev pub class_part : Table → ℕ → NamedClass → List DeclaredName → ClassFile → List Rule
class_part t k here ns file =
    map (bad_metadata class_readers t k here ns) file.metadata ++ (flat_map (member_sites class_readers t k here ns 0) file.members ++ (wrong_class_modifiers file ∷ []))

mapped : {A B : Type 0} (f g : A → B) → ((x : A) → f x ≡ g x) → (xs : List A) → map f xs ≡ map g xs
mapped f g same [] = refl
mapped f g same (x ∷ xs) = ap (λ y. y ∷ map f xs) (same x) ∙ ap (λ ys. g x ∷ ys) (mapped f g same xs)

joined : {A B : Type 0} (f g : A → List B) → ((x : A) → f x ≡ g x) → (xs : List A) → flat_map f xs ≡ flat_map g xs
joined f g same [] = refl
joined f g same (x ∷ xs) = ap (λ y. y ++ flat_map f xs) (same x) ∙ ap (λ ys. g x ++ ys) (joined f g same xs)

module _ (r : Readers) (knows : KnowsIdentifiers r) (t : Table) (k : ℕ) (here : NamedClass) (ns : List DeclaredName) where
  identifiers : (path : List Text) → list_all r.is_identifier path ≡ list_all is_identifier path
  identifiers [] = refl
  identifiers (name ∷ path) = ap (λ b. b && list_all r.is_identifier path) (knows name) ∙ ap (λ b. is_identifier name && b) (identifiers path)

  class_event : (name : Text) (class : Option Class) → event_of_class t.names t.bases r.is_identifier name class ≡ event_of_class t.names t.bases is_identifier name class
  class_event name None = refl
  class_event name (Some class) = refl

  path_event : (name : Text) (path : List Text) → event_at t.names t.bases r.is_identifier here name path ≡ event_at t.names t.bases is_identifier here name path
  path_event name path =
      ap (λ b. if b then event_of_class t.names t.bases r.is_identifier name (class_of (class_at t.names here path)) else None) (identifiers path)
      ∙ ap (λ e. if list_all is_identifier path then e else None) (class_event name (class_of (class_at t.names here path)))

  event : (m : MetadataTag) → declared_event t.names t.bases r.is_identifier here m ≡ declared_event t.names t.bases is_identifier here m
  event m =
      let name = metadata_value (codes "name") m in
      ap (λ e. if bytes_eq m.name (codes "Event") && not (length name == 0) then e else None) (path_event name (split 46 (metadata_value (codes "type") m)))

  arguments : (m : MetadataTag) → has_right_arguments r t k here ns m ≡ has_right_arguments class_readers t k here ns m
  arguments m =
      ap
      (λ e. if bytes_eq m.name (codes "Embed") then false
      else if bytes_eq m.name (codes "Bindable") then length m.arguments == 0
      else if bytes_eq m.name (codes "Event") then is_there e
      else true)
      (event m)

  metadata : (m : MetadataTag) → bad_metadata r t k here ns m ≡ bad_metadata class_readers t k here ns m
  metadata m = ap (rule m.at code.BadMetadata) (arguments m)

  known : (v : ValueType) → is_known_type r t k here ns v ≡ is_known_type class_readers t k here ns v
  known ValueType.Int = refl
  known ValueType.Boolean = refl
  known ValueType.String = refl
  known ValueType.Array = refl
  known (ValueType.Object class) = refl
  known ValueType.Any = refl
  known ValueType.Nothing = refl
  known ValueType.Void = refl
  known ValueType.Listener = refl
  known ValueType.Unknown = refl

  named_type : (path : List Lexeme) → unknown_type r t k here ns path ≡ unknown_type class_readers t k here ns path
  named_type path = ap (rule (path_at path) code.UnknownType) (known (type_at t.names here (path_names path)))

  locals : (vs : List TypedName) → local_sites r t k here ns vs ≡ local_sites class_readers t k here ns vs
  locals vs = mapped (λ (v : TypedName). unknown_type r t k here ns v.type_name) (λ (v : TypedName). unknown_type class_readers t k here ns v.type_name) (λ v. named_type v.type_name) vs

  parameters : (n : ℕ) (ps : List TypedName) → parameter_sites r t k here ns n ps ≡ parameter_sites class_readers t k here ns n ps
  parameters n [] = refl
  parameters n (p ∷ ps) =
      ap (λ x. too_many_parameters n p ∷ x ∷ parameter_sites r t k here ns (suc n) ps) (named_type p.type_name)
      ∙ ap (λ xs. too_many_parameters n p ∷ unknown_type class_readers t k here ns p.type_name ∷ xs) (parameters (suc n) ps)

  result : (given : ResultType) → result_sites r t k here ns given ≡ result_sites class_readers t k here ns given
  result ResultType.No_result = refl
  result ResultType.Void_result = refl
  result (ResultType.Gives path) = ap (λ x. x ∷ []) (named_type path)

  function : (words : List Modifier) (f : Function) → function_sites r t k here ns 0 words f ≡ function_sites class_readers t k here ns 0 words f
  function words f =
      let own : List Rule = name_sites class_readers t k here ns (name_of_function 0 words f) in
      ap (λ xs. own ++ (xs ++ (result_sites r t k here ns f.result ++ local_sites r t k here ns f.locals))) (parameters 0 f.parameters)
      ∙ (ap (λ xs. own ++ (parameter_sites class_readers t k here ns 0 f.parameters ++ (xs ++ local_sites r t k here ns f.locals))) (result f.result)
      ∙ ap (λ xs. own ++ (parameter_sites class_readers t k here ns 0 f.parameters ++ (result_sites class_readers t k here ns f.result ++ xs))) (locals f.locals))

  variable : (words : List Modifier) (v : TypedName) → variable_sites r t k here ns 0 words v ≡ variable_sites class_readers t k here ns 0 words v
  variable words v = ap (λ x. name_sites class_readers t k here ns (name_of_variable 0 words v) ++ (x ∷ [])) (named_type v.type_name)

  declares : (words : List Modifier) (d : Declares) → declared_sites r t k here ns 0 words d ≡ declared_sites class_readers t k here ns 0 words d
  declares words (Declares.Variables vs) = joined (variable_sites r t k here ns 0 words) (variable_sites class_readers t k here ns 0 words) (variable words) vs
  declares words (Declares.Method f) = function words f

  tags : (ms : List MetadataTag) → map (bad_metadata r t k here ns) ms ≡ map (bad_metadata class_readers t k here ns) ms
  tags ms = mapped (bad_metadata r t k here ns) (bad_metadata class_readers t k here ns) metadata ms

  member : (m : Member) → member_sites r t k here ns 0 m ≡ member_sites class_readers t k here ns 0 m
  member m =
      ap (λ xs. xs ++ (declared_sites r t k here ns 0 m.modifiers m.declares ++ (wrong_modifiers m ∷ []))) (tags m.metadata)
      ∙ ap (λ xs. map (bad_metadata class_readers t k here ns) m.metadata ++ (xs ++ (wrong_modifiers m ∷ []))) (declares m.modifiers m.declares)

  pub same_rules : (file : ClassFile) → class_file_member_sites r t k here ns file ≡ class_file_member_sites class_readers t k here ns file
  same_rules file =
      ap (λ xs. map wrong_import file.imports ++ (xs ++ (flat_map (member_sites r t k here ns 0) file.members ++ (wrong_class_modifiers file ∷ [])))) (tags file.metadata)
      ∙ ap (λ xs. map wrong_import file.imports ++ (map (bad_metadata class_readers t k here ns) file.metadata ++ (xs ++ (wrong_class_modifiers file ∷ []))))
      (joined (member_sites r t k here ns 0) (member_sites class_readers t k here ns 0) member file.members)

  -- a rule of the imports is broken, or none is
  pub imports_fail : (n : ℕ) (file : ClassFile) (x : Option Site) → x ≡ first_site n (map wrong_import file.imports) → is_some x ≡ true → x ≡ first_site n (class_file_member_sites r t k here ns file)
  imports_fail n file x e some =
      first_fails n (map wrong_import file.imports) (map (bad_metadata r t k here ns) file.metadata ++ (flat_map (member_sites r t k here ns 0) file.members ++ (wrong_class_modifiers file ∷ []))) x e some

  pub imports_hold : (n : ℕ) (file : ClassFile) (x y : Option Site) → x ≡ first_site n (map wrong_import file.imports) → is_some x ≡ false → y ≡ first_site n (class_part t k here ns file)
      → y ≡ first_site n (class_file_member_sites r t k here ns file)
  imports_hold n file x y e none f =
      first_holds n (map wrong_import file.imports) (class_part t k here ns file) x y e none f ∙ ap (first_site n) (sym (same_rules file))
