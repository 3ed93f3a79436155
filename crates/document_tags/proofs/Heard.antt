-- Events by their names.
use Rattle.std.proofs.Common.{◌≡◌, ◌∙◌, List, [], ◌∷◌, ap, refl, sym, Bool, true, false, cond, bytes_eq}
use Rattle.std.proofs.lemmas.Slice.Eq.{bytes_eq-Decides}
use Rattle.std.specs.Prelude.{Option, Some, None, option_map}
use Rattle.component_catalog.specs.Classes.{or_else}
use Rattle.component_catalog.specs.declared.class.NativeClass.TheVariants as native
use Rattle.flex_world.specs.Classes.{descends_from, lineage_in}
use Rattle.flex_world.specs.declared.kind.Class.{Class}
use Rattle.source_sites.specs.LookUps.{event_among, event_named, own_events}
use Rattle.source_sites.specs.Members.{Event, Table}
use Rattle.source_sites.specs.Names.{Meaning}
use Rattle.source_sites.specs.Texts.{Text}
use Rattle.class_table.specs.Sent.{class_in}
use Rattle.document_sites.specs.Attributes.{AttributeKind, set_or_heard}
use Rattle.document_sites.specs.Standing.{event_on}

module _ (name : Text) where
  abbrev named : Option Class → Option Event
  named o = option_map (λ class. record { name = name; class = class }) o

  one_named : (e : Event) (rest : Option Event) (b : Bool) → bytes_eq e.name name ≡ b → rest ≡ named (class_in rest) → cond b (Some e) rest ≡ named (class_in (cond b (Some e) rest))
  one_named e rest true is others = ap (λ n. Some (record { name = n; class = e.«class» })) ((bytes_eq-Decides e.name name).0 is)
  one_named e rest false is others = others

  among_named : (es : List Event) → event_named name es ≡ named (class_in (event_named name es))
  among_named [] = refl
  among_named (e ∷ es) = one_named e (event_named name es) (bytes_eq e.name name) refl (among_named es)

  first_named : (x y : Option Event) → x ≡ named (class_in x) → y ≡ named (class_in y) → or_else x y ≡ named (class_in (or_else x y))
  first_named None y here above = above
  first_named (Some e) y here above = here

  if_named : (b : Bool) (x : Option Event) → x ≡ named (class_in x) → cond b x None ≡ named (class_in (cond b x None))
  if_named true x is = is
  if_named false x is = refl

  module _ (t : Table) where
    upward_named : (classes : List Class) → event_among t name classes ≡ named (class_in (event_among t name classes))
    upward_named [] = refl
    upward_named (c ∷ cs) = first_named (event_named name (own_events t c)) (event_among t name cs) (among_named (own_events t c)) (upward_named cs)

    on_named : (class : Class) (meaning : Meaning) → event_on t class meaning name ≡ named (class_in (event_on t class meaning name))
    on_named class Meaning.No_class = refl
    on_named class Meaning.State = refl
    on_named class (Meaning.Means c) = if_named (descends_from t.bases native.EventDispatcher c) (event_among t name (lineage_in t.bases c)) (upward_named (lineage_in t.bases c))

    pub heard : (class : Class) (meaning : Meaning) (event : Class) → Some event ≡ class_in (event_on t class meaning name)
        → AttributeKind.Hears (record { name = name; class = event }) ≡ set_or_heard None (event_on t class meaning name)
    heard class meaning event e = ap (set_or_heard None) (ap named e ∙ sym (on_named class meaning))

    pub not_heard : (class : Class) (meaning : Meaning) → None ≡ class_in (event_on t class meaning name) → AttributeKind.Strange ≡ set_or_heard None (event_on t class meaning name)
    not_heard class meaning e = ap (set_or_heard None) (ap named e ∙ sym (on_named class meaning))
