-- The members of the catalog's classes by their names.
use Rattle.std.proofs.Common.{◌≡◌, ◌∙◌, List, [], ◌∷◌, ◌++◌, map, refl, ap, sym, Bool, true, false, ◌||◌, ◌&&◌, not, cond, bytes_eq, Bor}
use Rattle.std.proofs.lemmas.Slice.Eq.{bytes_eq-Decides}
use Rattle.std.proofs.lemmas.Cmp.{nat_list_eq_equiv}
use Rattle.std.specs.Prelude.{Option, Some, None, option_map, if◌then◌else◌, length}
use Rattle.std.specs.List.{find, filter, list_all, list_any}
use Rattle.as3_parser.specs.declared.tree.Modifier.TheVariants as modifier
use Rattle.component_catalog.specs.declared.class.NativeClass.{NativeClass}
use Rattle.component_catalog.specs.declared.class.NativeClass.TheVariants as class
use Rattle.component_catalog.specs.declared.property.PropertyRow.{PropertyRow}
use Rattle.component_catalog.specs.declared.method.NativeMethod.{NativeMethod}
use Rattle.component_catalog.specs.Classes.{base_of, nearest, or_else, upward}
use Rattle.component_catalog.specs.Properties.{Property, own_property, properties, property_of}
use Rattle.component_catalog.specs.Methods.{NamedMethod, Row, method_of, methods, own_method, row}
use Rattle.flex_world.specs.declared.kind.Class.TheVariants as Class
use Rattle.source_sites.specs.Texts.{Text}
use Rattle.source_sites.specs.Types.{may_be_left_out, parameter_type, result_type_of}
use Rattle.source_sites.specs.Members.{A_method, Owned, Table}
use Rattle.source_sites.specs.LookUps.{member_named, native_function, native_member, own_members}
use Rattle.as3_types.specs.Natives.{declares_method}

abbrev row_in : Property → PropertyRow
row_in p = p.row

abbrev method_in : NamedMethod → NativeMethod
method_in m = m.method

module _ (name : Text) where
  abbrev has_property : Property → Bool
  has_property p = bytes_eq name p.name

  abbrev has_method : NamedMethod → Bool
  has_method m = bytes_eq name m.name

  -- a property and a method of this name
  abbrev pub as_property : PropertyRow → Owned
  as_property r = native_member (record { name = name; row = r })

  abbrev pub as_function : Row → Owned
  as_function r =
      record {
        name = name;
        access = modifier.Public;
        kind =
            A_method
            (record {
              name = name;
              signature = record { parameters = map parameter_type r.parameters; optional = length (filter may_be_left_out r.parameters); result = result_type_of r.result };
              native = true;
            });
      }

  module _ (rest : List Owned) where
    abbrev among_properties : List Property → Option Owned
    among_properties ps = member_named name (map native_member ps ++ rest)

    property_step : (p : Property) (ps : List Property) (r : PropertyRow) (b : Bool) → b ≡ has_property p
        → (Some r ≡ option_map row_in (find has_property ps) → Some (as_property r) ≡ among_properties ps) → Some r ≡ option_map row_in (cond b (Some p) (find has_property ps))
        → Some (as_property r) ≡ cond b (Some (native_member p)) (among_properties ps)
    property_step p ps r true is more e =
        let same : name ≡ p.name = (bytes_eq-Decides name p.name).0 (sym is) in
        let rows : r ≡ p.row = cc in
        ap (λ x. Some (as_property x)) rows ∙ ap (λ n. Some (native_member (record { name = n; row = p.row }))) same
    property_step p ps r false is more e = more e

    found_property : (ps : List Property) (r : PropertyRow) → Some r ≡ option_map row_in (find has_property ps) → Some (as_property r) ≡ among_properties ps
    found_property [] r e = cc
    found_property (p ∷ ps) r e =
        property_step p ps r (has_property p) refl (found_property ps r) e ∙ ap (λ b. cond b (Some (native_member p)) (among_properties ps)) (nat_list_eq_equiv.symm name p.name)

    no_step : (p : Property) (ps : List Property) (b : Bool) → (None ≡ option_map row_in (find has_property ps) → member_named name rest ≡ among_properties ps)
        → None ≡ option_map row_in (cond b (Some p) (find has_property ps)) → member_named name rest ≡ cond b (Some (native_member p)) (among_properties ps)
    no_step p ps true more e = cc
    no_step p ps false more e = more e

    no_property : (ps : List Property) → None ≡ option_map row_in (find has_property ps) → member_named name rest ≡ among_properties ps
    no_property [] e = refl
    no_property (p ∷ ps) e =
        no_step p ps (has_property p) (no_property ps) e ∙ ap (λ b. cond b (Some (native_member p)) (among_properties ps)) (nat_list_eq_equiv.symm name p.name)

  abbrev among_methods : List NamedMethod → Option Owned
  among_methods ms = member_named name (map native_function ms)

  method_step : (m : NamedMethod) (ms : List NamedMethod) (r : Row) (b : Bool) → b ≡ has_method m
      → (Some r ≡ option_map row (option_map method_in (find has_method ms)) → Some (as_function r) ≡ among_methods ms)
      → Some r ≡ option_map row (option_map method_in (cond b (Some m) (find has_method ms))) → Some (as_function r) ≡ cond b (Some (native_function m)) (among_methods ms)
  method_step m ms r true is more e =
      let same : name ≡ m.name = (bytes_eq-Decides name m.name).0 (sym is) in
      let rows : r ≡ row m.method = cc in
      ap (λ x. Some (as_function x)) rows ∙ ap (λ n. Some (native_function (record { name = n; method = m.method }))) same
  method_step m ms r false is more e = more e

  found_method : (ms : List NamedMethod) (r : Row) → Some r ≡ option_map row (option_map method_in (find has_method ms)) → Some (as_function r) ≡ among_methods ms
  found_method [] r e = cc
  found_method (m ∷ ms) r e =
      method_step m ms r (has_method m) refl (found_method ms r) e ∙ ap (λ b. cond b (Some (native_function m)) (among_methods ms)) (nat_list_eq_equiv.symm name m.name)

  missing_step : (m : NamedMethod) (ms : List NamedMethod) (b : Bool) → (None ≡ option_map row (option_map method_in (find has_method ms)) → None ≡ among_methods ms)
      → None ≡ option_map row (option_map method_in (cond b (Some m) (find has_method ms))) → None ≡ cond b (Some (native_function m)) (among_methods ms)
  missing_step m ms true more e = cc
  missing_step m ms false more e = more e

  no_method : (ms : List NamedMethod) → None ≡ option_map row (option_map method_in (find has_method ms)) → None ≡ among_methods ms
  no_method [] e = refl
  no_method (m ∷ ms) e =
      missing_step m ms (has_method m) (no_method ms) e ∙ ap (λ b. cond b (Some (native_function m)) (among_methods ms)) (nat_list_eq_equiv.symm name m.name)

  module _ (t : Table) (c : NativeClass) where
    pub a_property : (r : PropertyRow) → Some r ≡ own_property c name → Some (as_property r) ≡ member_named name (own_members t (Class.Native c))
    a_property r e = found_property (map native_function (methods c)) (properties c) r e

    pub a_method : (r : Row) → None ≡ own_property c name → Some r ≡ option_map row (own_method c name) → Some (as_function r) ≡ member_named name (own_members t (Class.Native c))
    a_method r none e = found_method (methods c) r e ∙ no_property (map native_function (methods c)) (properties c) none

    pub no_member : None ≡ own_property c name → None ≡ option_map row (own_method c name) → None ≡ member_named name (own_members t (Class.Native c))
    no_member none e = no_method (methods c) e ∙ no_property (map native_function (methods c)) (properties c) none

  -- a property that is named among a class's own is its own
  module _ (others : Option PropertyRow) where
    any_step : (p : Property) (ps : List Property) (b : Bool)
        → (list_any has_property ps ≡ true → or_else (option_map row_in (find has_property ps)) others ≡ option_map row_in (find has_property ps)) → (b || list_any has_property ps) ≡ true
        → or_else (option_map row_in (cond b (Some p) (find has_property ps))) others ≡ option_map row_in (cond b (Some p) (find has_property ps))
    any_step p ps true more e = refl
    any_step p ps false more e = more e

    own_among : (ps : List Property) → list_any has_property ps ≡ true → or_else (option_map row_in (find has_property ps)) others ≡ option_map row_in (find has_property ps)
    own_among [] e = absurd (cc)
    own_among (p ∷ ps) e = any_step p ps (has_property p) (own_among ps) e

  not_step : (p : Property) (ps : List Property) (b : Bool) → (list_any has_property ps ≡ false → None ≡ option_map row_in (find has_property ps)) → (b || list_any has_property ps) ≡ false
      → None ≡ option_map row_in (cond b (Some p) (find has_property ps))
  not_step p ps true more e = cc
  not_step p ps false more e = more e

  none_among : (ps : List Property) → list_any has_property ps ≡ false → None ≡ option_map row_in (find has_property ps)
  none_among [] e = refl
  none_among (p ∷ ps) e = not_step p ps (has_property p) (none_among ps) e

  any_named : (ps : List Property) → list_any (λ n. bytes_eq n name) (map (λ (p : Property). p.name) ps) ≡ list_any has_property ps
  any_named [] = refl
  any_named (p ∷ ps) =
      ap (λ b. b || list_any (λ n. bytes_eq n name) (map (λ (p : Property). p.name) ps)) (nat_list_eq_equiv.symm p.name name) ∙ ap (λ b. has_property p || b) (any_named ps)

  any_shown : (names : List (Bor Text)) → list_any (λ (n : Bor Text). bytes_eq n.now name) names ≡ list_any (λ n. bytes_eq n name) (map (λ (n : Bor Text). n.now) names)
  any_shown [] = refl
  any_shown (n ∷ names) = ap (λ b. bytes_eq n.now name || b) (any_shown names)

  module _ (names : List (Bor Text)) (c : NativeClass) where
    abbrev AreNames : Type 0
    AreNames = map (λ (n : Bor Text). n.now) names ≡ map (λ (p : Property). p.name) (properties c)

    any_own : AreNames → list_any has_property (properties c) ≡ list_any (λ (n : Bor Text). bytes_eq n.now name) names
    any_own are = sym (any_shown names ∙ (ap (list_any (λ n. bytes_eq n name)) are ∙ any_named (properties c)))

    pub named_property : AreNames → list_any (λ (n : Bor Text). bytes_eq n.now name) names ≡ true → property_of c name ≡ own_property c name
    named_property are e = own_among (nearest (λ level. own_property level name) (upward 3 (base_of c))) (properties c) (any_own are ∙ e)

    pub unnamed_property : AreNames → list_any (λ (n : Bor Text). bytes_eq n.now name) names ≡ false → None ≡ own_property c name
    unnamed_property are e = none_among (properties c) (any_own are ∙ e)

  -- of the methods that a class has, its own are those that it declares
  module _ (c : NativeClass) where
    abbrev kept : Option Row → Option Row
    kept None = None
    kept (Some r) = if declares_method c r.method then Some r else None

    abbrev declares : NamedMethod → Bool
    declares m = declares_method c m.method

    both : (a b : Bool) → (a && b) ≡ true → (a ≡ true) × (b ≡ true)
    both true b e = (refl, e)
    both false b e = absurd (cc)

    own_step : (m : NamedMethod) (ms : List NamedMethod) (others : Option NativeMethod) (b : Bool) → declares m ≡ true
        → kept (option_map row (or_else (option_map method_in (find has_method ms)) others)) ≡ option_map row (option_map method_in (find has_method ms))
        → kept (option_map row (or_else (option_map method_in (cond b (Some m) (find has_method ms))) others)) ≡ option_map row (option_map method_in (cond b (Some m) (find has_method ms)))
    own_step m ms others true d more = ap (λ b. if b then Some (row m.method) else None) d
    own_step m ms others false d more = more

    own_level : (ms : List NamedMethod) (others : Option NativeMethod) → list_all declares ms ≡ true → kept (option_map row others) ≡ None
        → kept (option_map row (or_else (option_map method_in (find has_method ms)) others)) ≡ option_map row (option_map method_in (find has_method ms))
    own_level [] others all none = none
    own_level (m ∷ ms) others all none =
        let split = both (declares m) (list_all declares ms) all in
        own_step m ms others (has_method m) split.0 (own_level ms others split.1 none)

    other_step : (m : NamedMethod) (ms : List NamedMethod) (others : Option NativeMethod) (b : Bool) → not (declares m) ≡ true
        → kept (option_map row (or_else (option_map method_in (find has_method ms)) others)) ≡ None
        → kept (option_map row (or_else (option_map method_in (cond b (Some m) (find has_method ms))) others)) ≡ None
    other_step m ms others true d more = ap (λ b. if b then Some (row m.method) else None) (undeclared (declares m) d)
      where
        undeclared : (b : Bool) → not b ≡ true → b ≡ false
        undeclared true e = sym e
        undeclared false e = refl
    other_step m ms others false d more = more

    other_level : (ms : List NamedMethod) (others : Option NativeMethod) → list_all (λ m. not (declares m)) ms ≡ true → kept (option_map row others) ≡ None
        → kept (option_map row (or_else (option_map method_in (find has_method ms)) others)) ≡ None
    other_level [] others all none = none
    other_level (m ∷ ms) others all none =
        let split = both (not (declares m)) (list_all (λ m. not (declares m)) ms) all in
        other_step m ms others (has_method m) split.0 (other_level ms others split.1 none)

    other_levels : (levels : List NativeClass) → list_all (λ l. list_all (λ m. not (declares m)) (methods l)) levels ≡ true → kept (option_map row (nearest (λ l. own_method l name) levels)) ≡ None
    other_levels [] all = refl
    other_levels (l ∷ levels) all =
        let split = both (list_all (λ m. not (declares m)) (methods l)) (list_all (λ l. list_all (λ m. not (declares m)) (methods l)) levels) all in
        other_level (methods l) (nearest (λ l. own_method l name) levels) split.0 (other_levels levels split.1)

    kept_for : list_all declares (methods c) ≡ true → list_all (λ l. list_all (λ m. not (declares m)) (methods l)) (upward 3 (base_of c)) ≡ true
        → kept (method_of c name) ≡ option_map row (own_method c name)
    kept_for all none = own_level (methods c) (nearest (λ l. own_method l name) (upward 3 (base_of c))) all (other_levels (upward 3 (base_of c)) none)

  kept_is_own : (c : NativeClass) → kept c (method_of c name) ≡ option_map row (own_method c name)
  kept_is_own class.EventDispatcher = kept_for class.EventDispatcher refl refl
  kept_is_own class.UIComponent = kept_for class.UIComponent refl refl
  kept_is_own class.SkinnableContainer = kept_for class.SkinnableContainer refl refl
  kept_is_own class.Group = kept_for class.Group refl refl
  kept_is_own class.VGroup = kept_for class.VGroup refl refl
  kept_is_own class.HGroup = kept_for class.HGroup refl refl
  kept_is_own class.Application = kept_for class.Application refl refl
  kept_is_own class.Panel = kept_for class.Panel refl refl
  kept_is_own class.Label = kept_for class.Label refl refl
  kept_is_own class.Button = kept_for class.Button refl refl
  kept_is_own class.ToggleButton = kept_for class.ToggleButton refl refl
  kept_is_own class.CheckBox = kept_for class.CheckBox refl refl
  kept_is_own class.TextInput = kept_for class.TextInput refl refl
  kept_is_own class.State = kept_for class.State refl refl
  kept_is_own class.Event = kept_for class.Event refl refl
  kept_is_own class.MouseEvent = kept_for class.MouseEvent refl refl
  kept_is_own class.FlexEvent = kept_for class.FlexEvent refl refl

  module _ (c : NativeClass) (r : Row) where
    pub declared_method : Some r ≡ method_of c name → declares_method c r.method ≡ true → Some r ≡ option_map row (own_method c name)
    declared_method e d = ap (λ b. if b then Some r else None) (sym d) ∙ (ap (kept c) e ∙ kept_is_own c)

    pub inherited_method : Some r ≡ method_of c name → declares_method c r.method ≡ false → None ≡ option_map row (own_method c name)
    inherited_method e d = ap (λ b. if b then Some r else None) (sym d) ∙ (ap (kept c) e ∙ kept_is_own c)

  pub without_method : (c : NativeClass) → None ≡ method_of c name → None ≡ option_map row (own_method c name)
  without_method c e = ap (kept c) e ∙ kept_is_own c
