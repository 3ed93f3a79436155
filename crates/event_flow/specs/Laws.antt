-- What a whole dispatch is.
use Rattle.std.specs.List.{flat_map}
use Rattle.std.specs.Prelude.{Bool, List, [], length, map, suc, zero, ℕ, ◌++◌, ◌∷◌, ◌≡◌}
use Rattle.flex_base.specs.declared.event.Arrival.{Arrival}
use Rattle.flex_base.specs.declared.value.ObjId.{ObjId}
use Rattle.event_flow.specs.Dispatch.{Dispatch, arrive, begun, call, dispatch_path, moved, next_move, with_listeners}
use Rattle.event_flow.specs.declared.flow.FlowMove.{FlowMove}
use Rattle.event_flow.specs.declared.flow.FlowMove.TheVariants.{Arrive, Call, Done}

-- the listeners that are supplied wherever the event arrives
module _ (lists : Arrival → List (ObjId × ℕ)) where
  -- they are supplied after a move, the next arrivals before it being these
  abbrev pub supplied : FlowMove → List Arrival → Dispatch → Dispatch
  supplied (Arrive o phase) (a ∷ arrivals) d = with_listeners (lists a) d
  supplied (Arrive o phase) [] d = d
  supplied (Call o m) arrivals d = d
  supplied Done arrivals d = d

  -- so many moves of a dispatch
  abbrev pub moves_made : ℕ → Dispatch → List FlowMove
  moves_made zero d = []
  moves_made (suc n) d = next_move d ∷ moves_made n (supplied (next_move d) d.arrivals (moved (next_move d) d))

  -- each arrival and the calls there
  abbrev pub whole : List Arrival → List FlowMove
  whole arrivals = flat_map (λ a. arrive a ∷ map call (lists a)) arrivals

-- the moves of a dispatch that nothing stops are these, and then it is over
abbrev pub DispatchIsWhole : Type 0
DispatchIsWhole =
    (lists : Arrival → List (ObjId × ℕ)) (path : List ObjId) (bubbles cancelable : Bool)
    → moves_made lists (suc (length (whole lists (dispatch_path path bubbles)))) (begun path bubbles cancelable) ≡ whole lists (dispatch_path path bubbles) ++ Done ∷ []
