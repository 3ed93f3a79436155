-- The events of a name that a class declares itself.
use Rattle.std.proofs.Common.{◌≡◌, ◌∙◌, ℕ, zero, suc, List, [], ◌∷◌, ap, refl, sym, map, Bool, true, false, cond, bytes_eq}
use Rattle.std.specs.Prelude.{Option, Some, option_map, slice_get, unwrap_or}
use Rattle.std.specs.List.{find}
use Rattle.std.proofs.lemmas.Cmp.{nat_list_eq_equiv}
use Rattle.component_catalog.specs.Events as catalog
use Rattle.component_catalog.specs.Events.{events, own_event}
use Rattle.component_catalog.specs.declared.class.NativeClass.{NativeClass}
use Rattle.component_catalog.specs.declared.event.EventRow.{EventRow}
use Rattle.flex_world.specs.declared.kind.Class.{Class}
use Rattle.source_sites.specs.Texts.{Text}
use Rattle.source_sites.specs.Members.{Event, Table, nth_list}
use Rattle.source_sites.specs.LookUps.{event_named, native_event, own_events}
use Rattle.as3_types.specs.declared.table.OwnEvent.{OwnEvent}
use Rattle.as3_types.specs.Tables.{event_of}
use Rattle.class_table.specs.Sent.{class_in}

module _ (name : Text) where
  abbrev class_of_row : Option EventRow → Option Class
  class_of_row r = option_map (λ (r : EventRow). Class.Native r.«class») r

  abbrev among : List catalog.Event → Option EventRow
  among es = option_map (λ (e : catalog.Event). e.row) (find (λ (e : catalog.Event). bytes_eq name e.name) es)

  native_step : (e : catalog.Event) (es : List catalog.Event) (b : Bool) → class_of_row (among es) ≡ class_in (event_named name (map native_event es))
      → class_of_row (option_map (λ (e : catalog.Event). e.row) (cond b (Some e) (find (λ (e : catalog.Event). bytes_eq name e.name) es))) ≡ class_in (cond b (Some (native_event e)) (event_named name (map native_event es)))
  native_step e es true more = refl
  native_step e es false more = more

  native_events : (es : List catalog.Event) → class_of_row (among es) ≡ class_in (event_named name (map native_event es))
  native_events [] = refl
  native_events (e ∷ es) =
      native_step e es (bytes_eq name e.name) (native_events es) ∙ ap (λ b. class_in (cond b (Some (native_event e)) (event_named name (map native_event es)))) (nat_list_eq_equiv.symm name e.name)

  -- of a class of the catalog
  pub of_row : (t : Table) (c : NativeClass) (row : Option EventRow) → row ≡ own_event c name → class_of_row row ≡ class_in (event_named name (own_events t (Class.Native c)))
  of_row t c row e = ap class_of_row e ∙ native_events (events c)

  abbrev class_of_own : Option OwnEvent → Option Class
  class_of_own e = option_map (λ (e : OwnEvent). e.«class») e

  own_step : (e : OwnEvent) (es : List OwnEvent) (b : Bool) → class_of_own (find (λ (e : OwnEvent). bytes_eq e.name name) es) ≡ class_in (event_named name (map event_of es))
      → class_of_own (cond b (Some e) (find (λ (e : OwnEvent). bytes_eq e.name name) es)) ≡ class_in (cond b (Some (event_of e)) (event_named name (map event_of es)))
  own_step e es true more = refl
  own_step e es false more = more

  source_events : (es : List OwnEvent) → class_of_own (find (λ (e : OwnEvent). bytes_eq e.name name) es) ≡ class_in (event_named name (map event_of es))
  source_events [] = refl
  source_events (e ∷ es) = own_step e es (bytes_eq e.name name) (source_events es)

  nth_mapped : (xss : List (List OwnEvent)) (k : ℕ) → slice_get (map (map event_of) xss) k ≡ option_map (map event_of) (slice_get xss k)
  nth_mapped [] k = refl
  nth_mapped (xs ∷ xss) zero = refl
  nth_mapped (xs ∷ xss) (suc k) = nth_mapped xss k

  -- of a source class
  pub of_source : (xss : List (List OwnEvent)) (k : ℕ) (es : List OwnEvent) (found : Option OwnEvent) → Some es ≡ slice_get xss k → found ≡ find (λ (e : OwnEvent). bytes_eq e.name name) es
      → class_of_own found ≡ class_in (event_named name (nth_list (map (map event_of) xss) k))
  of_source xss k es found at is =
      ap class_of_own is
      ∙ (source_events es ∙ ap (λ (o : Option (List Event)). class_in (event_named name (unwrap_or o []))) (ap (option_map (map event_of)) at ∙ sym (nth_mapped xss k)))
