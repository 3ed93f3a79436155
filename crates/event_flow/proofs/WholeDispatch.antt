-- A dispatch that nothing stops makes its moves to the end.
use Rattle.std.proofs.Common.{Bool, List, [], ap, false, length, map, refl, suc, true, ℕ, ◌++◌, ◌∷◌, ◌≡◌}
use Rattle.flex_base.specs.declared.event.Arrival.{Arrival}
use Rattle.flex_base.specs.declared.value.ObjId.{ObjId}
use Rattle.flex_world.specs.Events.{opened_delivery}
use Rattle.flex_world.specs.Making.{undelivered}
use Rattle.event_flow.specs.Dispatch.{Dispatch, arrive, call}
use Rattle.event_flow.specs.Laws.{moves_made, whole}
use Rattle.event_flow.specs.declared.flow.FlowMove.{FlowMove}
use Rattle.event_flow.specs.declared.flow.FlowMove.TheVariants.{Done}

module _ (lists : Arrival → List (ObjId × ℕ)) (cancelable : Bool) where
  abbrev pub running : Bool → List (ObjId × ℕ) → List Arrival → Dispatch
  running arriving calls arrivals = record { listeners = calls; arrivals = arrivals; is_arriving = arriving; delivery = opened_delivery cancelable undelivered }

  abbrev pub left : List (ObjId × ℕ) → List Arrival → List FlowMove
  left calls arrivals = map call calls ++ whole lists arrivals

  abbrev pub Ends : Bool → List (ObjId × ℕ) → List Arrival → Type 0
  Ends arriving calls arrivals = moves_made lists (suc (length (left calls arrivals))) (running arriving calls arrivals) ≡ left calls arrivals ++ Done ∷ []

  at_node : (arrivals : List Arrival) → ((arriving : Bool) → Ends arriving [] arrivals) → (calls : List (ObjId × ℕ)) (arriving : Bool) → Ends arriving calls arrivals
  at_node arrivals later [] arriving = later arriving
  at_node arrivals later (l ∷ calls) arriving = ap (λ moves. call l ∷ moves) (at_node arrivals later calls false)

  pub along : (arrivals : List Arrival) (calls : List (ObjId × ℕ)) (arriving : Bool) → Ends arriving calls arrivals
  along [] = at_node [] (λ arriving. refl)
  along (a ∷ arrivals) = at_node (a ∷ arrivals) (λ arriving. ap (λ moves. arrive a ∷ moves) (along arrivals (lists a) true))
