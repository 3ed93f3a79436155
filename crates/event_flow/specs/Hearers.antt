-- The listeners that hear an event, each with its priority.
use Rattle.std.specs.List.{filter, fold}
use Rattle.std.specs.Prelude.{Bool, List, [], if◌then◌else◌, int_lt, map, ℕ, ℤ, ◌&&◌, ◌==◌, ◌∷◌}
use Rattle.flex_base.specs.declared.value.ObjId.{ObjId}
use Rattle.event_flow.specs.Hearing.{fits, phase_of}
use Rattle.event_flow.specs.declared.registrations.Key.{Key}

abbrev pub Hearer : Type 0
Hearer = ℤ × (ObjId × ℕ)

-- behind those of a priority as high or higher
abbrev pub with_hearer : ℤ → ObjId × ℕ → List Hearer → List Hearer
with_hearer p l [] = (p, l) ∷ []
with_hearer p l (h ∷ hs) = if int_lt h.0 p then (p, l) ∷ h ∷ hs else h ∷ with_hearer p l hs

abbrev pub listeners : List Hearer → List (ObjId × ℕ)
listeners hs = map (λ (h : Hearer). h.1) hs

-- whether a registration of this key is for events of the type of a number, in the phase of a number
abbrev pub is_for : ℕ → ℕ → Key → Bool
is_for kind phase k = (kind == k.kind) && fits (phase_of phase) k.capture

abbrev pub listener_of : Key → ObjId × ℕ
listener_of k = (record { 0 = k.object }, k.method)

abbrev pub with_pair : List Hearer → Key × ℤ → List Hearer
with_pair hs p = with_hearer p.1 (listener_of p.0) hs

-- those among some registrations, after others
abbrev pub hearers_after : ℕ → ℕ → List Hearer → List (Key × ℤ) → List Hearer
hearers_after kind phase hs pairs = fold with_pair hs (filter (λ (p : Key × ℤ). is_for kind phase p.0) pairs)
