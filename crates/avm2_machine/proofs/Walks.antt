-- The walk along a path of names.
use Rattle.std.proofs.Common.{◌≡◌, ℕ, suc, List, [], ◌∷◌, Option, None, Some, drop, refl, sym, ap, ◌∙◌}
use Rattle.flex_base.specs.declared.value.ObjId.{ObjId}
use Rattle.avm2_machine.specs.declared.stage.Stage.{Stage}
use Rattle.avm2_machine.specs.Stage.{held, property, walked}

-- from no object it comes to none
walked_none : (s : Stage) (path : List (List ℕ)) → walked s None path ≡ None
walked_none s [] = refl
walked_none s (name ∷ path) = refl

-- a property that holds no object ends it
pub walked_stops : (s : Stage) (o : ObjId) (whole : Option ObjId) (path : List (List ℕ)) (i : ℕ) (name : List ℕ)
    → drop i path ≡ name ∷ drop (suc i) path → walked s (Some o) (drop i path) ≡ whole → held (property s o name) ≡ None → None ≡ whole
walked_stops s o whole path i name next walk none =
    sym (walked_none s (drop (suc i) path)) ∙ ap (λ h. walked s h (drop (suc i) path)) (sym none) ∙ ap (walked s (Some o)) (sym next) ∙ walk
