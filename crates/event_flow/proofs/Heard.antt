-- The listeners that hear an event in the phase of a number.
use Rattle.std.proofs.Common.{List, [], ◌∷◌, ◌≡◌, Bool, true, false, ◌&&◌, map, ℕ, refl, ap, fold}
use Rattle.std.specs.List.{filter}
use Rattle.std.specs.Prelude.{Option, None, Some, if◌then◌else◌}
use Rattle.std.specs.Str.{bytes_eq}
use Rattle.flex_base.specs.declared.event.Phase.{Phase}
use Rattle.flex_world.specs.Events.{insert_by_priority, listener_of}
use Rattle.flex_world.specs.Objects.{Registration}
use Rattle.event_flow.specs.Hearing.{fits, hearers_at, hearers_in, phase_of}

filter_none : {X : Type 0} (p : X → Bool) (xs : List X) → filter (λ x. p x && false) xs ≡ []
filter_none p [] = refl
filter_none p (x ∷ xs) = by (filter_none p xs) (p x)
  where
    by : filter (λ x. p x && false) xs ≡ [] → (b : Bool) → (if b && false then x ∷ filter (λ x. p x && false) xs else filter (λ x. p x && false) xs) ≡ []
    by later true = later
    by later false = later

abbrev pub heard : List ℕ → Option Phase → List Registration → List Registration
heard kind p rs = fold insert_by_priority [] (filter (λ r. bytes_eq r.event kind && fits p r.capture) rs)

hearers_are_heard : (kind : List ℕ) (p : Option Phase) (rs : List Registration) → map listener_of (heard kind p rs) ≡ hearers_in kind p rs
hearers_are_heard kind None rs = ap (λ l. map listener_of (fold insert_by_priority [] l)) (filter_none (λ r. bytes_eq r.event kind) rs)
hearers_are_heard kind (Some p) rs = refl

pub hearers_by_number : (kind : List ℕ) (n : ℕ) (rs : List Registration) → map listener_of (heard kind (phase_of n) rs) ≡ hearers_at kind n rs
hearers_by_number kind n rs = hearers_are_heard kind (phase_of n) rs
