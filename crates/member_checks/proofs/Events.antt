-- The types of events that metadata declare.
use Rattle.std.proofs.Common.{◌≡◌, ◌∙◌, List, [], ◌∷◌, ◌++◌, ap, sym, refl, Bool, true, false, ◌&&◌, not, codes, bytes_eq, length, append_assoc}
use Rattle.std.proofs.lemmas.List.{map-append}
use Rattle.std.specs.Prelude.{Option, Some, None, option_map, option_and_then, if◌then◌else◌, ◌==◌, is_some}
use Rattle.std.specs.List.{list_all}
use Rattle.std.specs.Str.{IsUtf8, chars, is_utf8}
use Rattle.std.proofs.lemmas.Str.{IsUtf8-from_is_utf8}
use Rattle.as3_lexer.specs.Spelling.{keyword_of}
use Rattle.as3_parser.specs.declared.tree.Lexeme.{Lexeme}
use Rattle.flex_world.specs.Classes.{is_event}
use Rattle.flex_world.specs.declared.kind.Class.{Class}
use Rattle.source_sites.specs.Texts.{Text, is_there, split}
use Rattle.source_sites.specs.Members.{Event, event_at, event_of_class, metadata_value}
use Rattle.source_sites.specs.Names.{class_at, class_of, path_names}
use Rattle.source_sites.specs.Syntax.{MetadataTag}
use Rattle.source_sites.specs.declared.names.NamedClass.{NamedClass}
use Rattle.as3_types.specs.declared.table.ClassTable.{ClassTable}
use Rattle.as3_types.specs.Identifiers.{are_word, is_identifier}
use Rattle.member_checks.specs.EventTypes.{class_of_type, event_declared, identifier_in, identifiers_in, if_event}

-- what isn't UTF-8 is no identifier
pub not_utf8 : (bytes name : Text) → bytes ≡ name → (IsUtf8 bytes → ⊥) → None ≡ identifier_in name
not_utf8 bytes name is h = by_test (is_utf8 bytes) refl
  where
    by_test : (b : Bool) → is_utf8 bytes ≡ b → None ≡ identifier_in name
    by_test true e = absurd (h (IsUtf8-from_is_utf8 bytes e))
    by_test false e = sym (ap (λ b. if b && are_word (chars name) && not (is_there (keyword_of name)) then Some name else None) (ap is_utf8 (sym is) ∙ e))

module _ (names rest others : List Text) (name : Text) (are : list_all is_identifier rest ≡ list_all is_identifier names) (is : rest ≡ name ∷ others) where
  whole : list_all is_identifier names ≡ (is_identifier name && list_all is_identifier others)
  whole = sym are ∙ ap (list_all is_identifier) is

  -- one name is no identifier
  pub no_identifier : None ≡ identifier_in name → None ≡ identifiers_in names
  no_identifier e = by_test (is_identifier name) refl
    where
      by_test : (b : Bool) → is_identifier name ≡ b → None ≡ identifiers_in names
      by_test true t = absurd (let some : None ≡ Some name = e ∙ ap (λ b. if b then Some name else None) t in cc)
      by_test false t = sym (ap (λ b. if b then Some names else None) (whole ∙ ap (λ b. b && list_all is_identifier others) t))

  -- or it is one
  pub one_identifier : (word : Text) → Some word ≡ identifier_in name → (word ≡ name) × (list_all is_identifier others ≡ list_all is_identifier names)
  one_identifier word e = by_test (is_identifier name) refl
    where
      by_test : (b : Bool) → is_identifier name ≡ b → (word ≡ name) × (list_all is_identifier others ≡ list_all is_identifier names)
      by_test true t =
          let some : Some word ≡ Some name = e ∙ ap (λ b. if b then Some name else None) t in
          (cc, sym (whole ∙ ap (λ b. b && list_all is_identifier others) t))
      by_test false t = absurd (let none : Some word ≡ None = e ∙ ap (λ b. if b then Some name else None) t in cc)

pub next_name : (path : List Lexeme) (word : Lexeme) (others names rest : List Text) (name : Text) → path_names path ++ rest ≡ names → rest ≡ name ∷ others → word.text ≡ name
    → path_names (path ++ word ∷ []) ++ others ≡ names
next_name path word others names rest name so-far is same =
    ap (λ ns. ns ++ others) (map-append (λ (l : Lexeme). l.text) path (word ∷ []))
    ∙ (append_assoc (path_names path) (word.text ∷ []) others ∙ (ap (λ n. path_names path ++ n ∷ others) same ∙ (ap (λ r. path_names path ++ r) (sym is) ∙ so-far)))

module _ (table : ClassTable) (here : NamedClass) where
  event_if : (name : Text) (class : Class) (b : Bool) → option_map (λ (e : Event). e.«class») (if b then Some (record { name = name; class = class }) else None) ≡ (if b then Some class else None)
  event_if name class true = refl
  event_if name class false = refl

  event_of : (name : Text) (found : Option Class) → option_map (λ (e : Event). e.«class») (event_of_class table.classes table.bases is_identifier name found) ≡ option_and_then (if_event table) found
  event_of name None = refl
  event_of name (Some class) = event_if name class (is_event table.bases class)

  event_by : (name : Text) (path : List Text) (b : Bool) → option_map (λ (e : Event). e.«class») (if b then event_of_class table.classes table.bases is_identifier name (class_of (class_at table.classes here path)) else None)
      ≡ option_and_then (λ p. option_and_then (if_event table) (class_of (class_at table.classes here p))) (if b then Some path else None)
  event_by name path true = event_of name (class_of (class_at table.classes here path))
  event_by name path false = refl

  -- metadata declare the event that their type names
  pub declared_by_type : (m : MetadataTag) (written : Text) → bytes_eq m.name (codes "Event") ≡ true → (length (metadata_value (codes "name") m) == 0) ≡ false → written ≡ metadata_value (codes "type") m
      → class_of_type table here written ≡ event_declared table here m
  declared_by_type m written event named is =
      let name = metadata_value (codes "name") m in
      let path = split 46 (metadata_value (codes "type") m) in
      let given : (bytes_eq m.name (codes "Event") && not (length name == 0)) ≡ true = ap (λ b. b && not (length name == 0)) event ∙ ap not named in
      ap (class_of_type table here) is
      ∙ (sym (event_by name path (list_all is_identifier path))
      ∙ ap (λ b. option_map (λ (e : Event). e.«class») (if b then event_at table.classes table.bases is_identifier here name path else None)) (sym given))

pub there_mapped : {A B : Type 0} (f : A → B) (x : Option A) → is_some (option_map f x) ≡ is_there x
there_mapped f None = refl
there_mapped f (Some a) = refl
