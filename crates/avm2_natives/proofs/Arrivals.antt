-- Where events arrive, and the properties that events keep.
use Rattle.std.proofs.Common.{List, [], ap, false, refl, sym, true, ◌++◌, ◌∙◌, ◌∷◌, ◌≡◌, ℕ, map, Bool}
use Rattle.std.proofs.lemmas.List.{append_assoc, map-append, reverse-append}
use Rattle.std.proofs.lemmas.List.Elements.{filter-append}
use Rattle.std.specs.List.{filter}
use Rattle.std.specs.Prelude.{None, Option, Some, codes, option_map, reverse}
use Rattle.flex_base.specs.Events.{arrival, arrivals}
use Rattle.flex_base.specs.declared.event.Arrival.{Arrival}
use Rattle.flex_base.specs.declared.event.Phase.TheVariants as phase
use Rattle.flex_base.specs.declared.value.ObjId.{ObjId}
use Rattle.flex_base.specs.declared.value.Value.{Value}
use Rattle.flex_world.specs.Events.{event_path, is_before_bubbling}
use Rattle.flex_world.specs.Objects.{Field, Object, field_named, is_true, property, property_or}

kept_only : (o : Option Field) → option_map (λ (f : Field). f.value) o ≡ property_or o None
kept_only None = refl
kept_only (Some f) = refl

-- the type of an event is a property that it keeps
pub type_kept : (c : Object) → option_map (λ (f : Field). f.value) (field_named (codes "type") c.fields) ≡ property c (codes "type")
type_kept c = kept_only (field_named (codes "type") c.fields)

-- and whether it bubbles
pub bubbles_kept : (c : Object) → option_map (λ (f : Field). f.value) (field_named (codes "bubbles") c.fields) ≡ property c (codes "bubbles")
bubbles_kept c = kept_only (field_named (codes "bubbles") c.fields)

all_pass : (found : List Arrival) → filter (λ a. true) found ≡ found
all_pass [] = refl
all_pass (a ∷ found) = ap (λ l. a ∷ l) (all_pass found)

inward_passes : (outer : List ObjId) → filter is_before_bubbling (reverse (map (arrival phase.Capture) outer)) ≡ reverse (map (arrival phase.Capture) outer)
inward_passes [] = refl
inward_passes (o ∷ outer) =
    ap (filter is_before_bubbling) (reverse-append (arrival phase.Capture o ∷ []) (map (arrival phase.Capture) outer))
    ∙ (filter-append is_before_bubbling (reverse (map (arrival phase.Capture) outer)) (arrival phase.Capture o ∷ [])
    ∙ (ap (λ l. l ++ arrival phase.Capture o ∷ []) (inward_passes outer) ∙ sym (reverse-append (arrival phase.Capture o ∷ []) (map (arrival phase.Capture) outer))))

none_outward : (outer : List ObjId) → filter is_before_bubbling (map (arrival phase.Bubble) outer) ≡ []
none_outward [] = refl
none_outward (o ∷ outer) = none_outward outer

-- where an event arrives that bubbles
pub bubbling : (target : ObjId) (outer : List ObjId)
    → reverse (map (arrival phase.Capture) outer) ++ (arrival phase.Target target ∷ map (arrival phase.Bubble) outer) ≡ event_path target outer true
bubbling target outer = sym (all_pass (arrivals target outer))

-- and one that doesn't
pub silent : (target : ObjId) (outer : List ObjId)
    → reverse (map (arrival phase.Capture) outer) ++ (arrival phase.Target target ∷ []) ≡ event_path target outer false
silent target outer =
    sym
    (filter-append is_before_bubbling (reverse (map (arrival phase.Capture) outer)) (arrival phase.Target target ∷ map (arrival phase.Bubble) outer)
    ∙ (ap (λ l. l ++ filter is_before_bubbling (arrival phase.Target target ∷ map (arrival phase.Bubble) outer)) (inward_passes outer)
    ∙ ap (λ l. reverse (map (arrival phase.Capture) outer) ++ (arrival phase.Target target ∷ l)) (none_outward outer)))

-- an arrival is put in front of those further outward
pub put_outward : (rest others : List ObjId) (o : ObjId) (made all : List Arrival)
    → rest ≡ others ++ o ∷ [] → all ≡ map (arrival phase.Bubble) rest ++ made → all ≡ map (arrival phase.Bubble) others ++ (arrival phase.Bubble o ∷ made)
put_outward rest others o made all is whole =
    whole
    ∙ (ap (λ l. map (arrival phase.Bubble) l ++ made) is
    ∙ (ap (λ l. l ++ made) (map-append (arrival phase.Bubble) others (o ∷ []))
    ∙ append_assoc (map (arrival phase.Bubble) others) (arrival phase.Bubble o ∷ []) made))

-- an arrival is put in front of those further inward
pub put_before : (rest others : List ObjId) (o : ObjId) (made all : List Arrival)
    → rest ≡ o ∷ others → all ≡ reverse (map (arrival phase.Capture) rest) ++ made
    → all ≡ reverse (map (arrival phase.Capture) others) ++ (arrival phase.Capture o ∷ made)
put_before rest others o made all is whole =
    whole
    ∙ (ap (λ l. reverse (map (arrival phase.Capture) l) ++ made) is
    ∙ (ap (λ l. l ++ made) (reverse-append (arrival phase.Capture o ∷ []) (map (arrival phase.Capture) others))
    ∙ append_assoc (reverse (map (arrival phase.Capture) others)) (arrival phase.Capture o ∷ []) made))
