-- Properties that the player writes.
use Rattle.std.proofs.Common.{List, ◌≡◌, refl, ℕ}
use Rattle.std.specs.Prelude.{None, Option, Some}
use Rattle.avm2_effects.specs.Writes.{store_at}
use Rattle.avm2_meaning.specs.Effects.{acted}
use Rattle.avm2_meaning.specs.Properties.{store_field}
use Rattle.avm2_meaning.specs.Results.{Goes, bind, need}
use Rattle.avm2_meaning.specs.Script.{write_and}
use Rattle.avm2_meaning.specs.declared.frame.Native.{Native}
use Rattle.avm2_meaning.specs.declared.heap.Heap.{Heap}
use Rattle.flex_base.specs.declared.value.ObjId.{ObjId}
use Rattle.flex_base.specs.declared.value.Value.{Value}
use Rattle.flex_world.specs.Objects.{Field, Object, field_named}
use Rattle.ui_runtime.specs.Stage.{object_at}

-- a write and what is to be done then
pub by_storing : (o : ObjId) (key : List ℕ) (v : Value) (n : Native) (h : Heap)
    → write_and o key v n h ≡ bind (store_at o key v h) (λ e h1. Goes (acted e n) h1)
by_storing o key v n h = by (object_at o h.stage)
  where
    with_field : (found : Option Field)
        → need found h (λ f. bind (store_field o f v h) (λ e h1. Goes (acted e n) h1))
        ≡ bind (need found h (λ f. store_field o f v h)) (λ e h1. Goes (acted e n) h1)
    with_field None = refl
    with_field (Some f) = refl

    by : (c : Option Object)
        → need c h (λ x. need (field_named key x.fields) h (λ f. bind (store_field o f v h) (λ e h1. Goes (acted e n) h1)))
        ≡ bind (need c h (λ x. need (field_named key x.fields) h (λ f. store_field o f v h))) (λ e h1. Goes (acted e n) h1)
    by None = refl
    by (Some c) = with_field (field_named key c.fields)
