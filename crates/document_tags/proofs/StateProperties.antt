-- The properties of a State.
use Rattle.std.proofs.Common.{◌≡◌, ◌∙◌, ap, refl, sym, subst, Bool, true, false, cond, bytes_eq, codes}
use Rattle.std.proofs.lemmas.Slice.Eq.{bytes_eq-Decides}
use Rattle.std.proofs.lemmas.Cmp.{nat_list_eq_equiv}
use Rattle.std.specs.Prelude.{Some, None, option_and_then, option_map}
use Rattle.component_catalog.specs.Classes.{or_else}
use Rattle.component_catalog.specs.Properties.{Property, bound, property_of}
use Rattle.component_catalog.specs.declared.class.NativeClass.TheVariants as native
use Rattle.component_catalog.specs.declared.property.PropertyRow.{PropertyRow}
use Rattle.component_catalog.specs.declared.value.StartValue.TheVariants as start
use Rattle.component_catalog.specs.declared.value.ValueType.TheVariants as kind
use Rattle.source_sites.specs.LookUps.{native_member, property_in}
use Rattle.source_sites.specs.Members.{Owned}
use Rattle.source_sites.specs.Texts.{Text}
use Rattle.document_sites.specs.Standing.{state_property}
use Rattle.class_table.specs.Seen.{property_of_row}

abbrev named : Text → Property
named name = record { name = name; row = bound kind.String start.Null }

module _ (name : Text) where
  no_row : (x y : Bool) (p q : Property) → x ≡ false → y ≡ false
      → option_map (property_of_row name) (or_else (option_map (λ (p : Property). p.row) (cond x (Some p) (cond y (Some q) None))) None) ≡ None
  no_row false false p q e f = refl
  no_row false true p q e f = absurd (cc)
  no_row true y p q e f = absurd (cc)

  no_member : (x y : Bool) (m n : Owned) → x ≡ false → y ≡ false → option_and_then (λ (m : Owned). property_in m.kind) (cond x (Some m) (cond y (Some n) None)) ≡ None
  no_member false false m n e f = refl
  no_member false true m n e f = absurd (cc)
  no_member true y m n e f = absurd (cc)

  by_names : (x y : Bool) → bytes_eq name (codes "name") ≡ x → bytes_eq name (codes "stateGroups") ≡ y → option_map (property_of_row name) (property_of native.State name) ≡ state_property name
  by_names true y e f =
      let same : name ≡ codes "name" = (bytes_eq-Decides name (codes "name")).0 e in
      subst (λ (n : Text). option_map (property_of_row n) (property_of native.State n) ≡ state_property n) (sym same) refl
  by_names false true e f =
      let same : name ≡ codes "stateGroups" = (bytes_eq-Decides name (codes "stateGroups")).0 f in
      subst (λ (n : Text). option_map (property_of_row n) (property_of native.State n) ≡ state_property n) (sym same) refl
  by_names false false e f =
      no_row (bytes_eq name (codes "name")) (bytes_eq name (codes "stateGroups")) (named (codes "name")) (named (codes "stateGroups")) e f
      ∙ sym
      (no_member (bytes_eq (codes "name") name) (bytes_eq (codes "stateGroups") name) (native_member (named (codes "name"))) (native_member (named (codes "stateGroups")))
      (nat_list_eq_equiv.symm (codes "name") name ∙ e) (nat_list_eq_equiv.symm (codes "stateGroups") name ∙ f))

  state_row : option_map (property_of_row name) (property_of native.State name) ≡ state_property name
  state_row = by_names (bytes_eq name (codes "name")) (bytes_eq name (codes "stateGroups")) refl refl

  -- what is found of a row of this name, and where there is none
  pub with_row : (r : PropertyRow) → Some r ≡ property_of native.State name → Some (property_of_row name r) ≡ state_property name
  with_row r e = ap (option_map (property_of_row name)) e ∙ state_row

  pub without_row : None ≡ property_of native.State name → None ≡ state_property name
  without_row e = ap (option_map (property_of_row name)) e ∙ state_row
