-- Values written as they are, by what a class tells of their property.
use Rattle.std.proofs.Common.{List, ◌||◌, ◌≡◌, ◌∙◌, ap, refl, ℕ}
use Rattle.std.specs.Prelude.{None, Option, Some, option_map}
use Rattle.avm2_effects.proofs.Told.{named, same_item}
use Rattle.avm2_effects.specs.Writes.{item_at, kept_target, store_at, target_of}
use Rattle.avm2_effects.specs.declared.targets.Target.{Target}
use Rattle.avm2_meaning.specs.Properties.{store, store_field, written_item}
use Rattle.avm2_meaning.specs.Results.{Goes, Result, bind, need}
use Rattle.avm2_meaning.specs.declared.effect.Effect.{Effect}
use Rattle.avm2_meaning.specs.declared.heap.Heap.{Heap}
use Rattle.flex_base.specs.declared.value.ObjId.{ObjId}
use Rattle.flex_base.specs.declared.value.Value.{Value}
use Rattle.flex_world.specs.Objects.{Field, Object, field_named}
use Rattle.ui_runtime.specs.Stage.{object_at}

module _ (o : ObjId) (key : List ℕ) (v : Value) (h : Heap) where
  stored : (f : Field) → f.name ≡ key → store_field o f v h ≡ store o key v (item_at o v (target_of f).text) h
  stored f is = ap (λ k. store o k v (written_item o f v) h) is ∙ ap (λ item. store o key v item h) (same_item o f v (f.public || f.bindable))

  by_found : (found : Option Field) → ((f : Field) → found ≡ Some f → f.name ≡ key)
      → need found h (λ f. store_field o f v h) ≡ bind (need (option_map target_of found) h (λ t. Goes t h)) (λ t h1. store o key v (item_at o v t.text) h1)
  by_found None names = refl
  by_found (Some f) names = stored f (names f refl)

  -- a property is written by what is known of it
  pub by_target : store_at o key v h ≡ bind (kept_target o key h) (λ t h1. store o key v (item_at o v t.text) h1)
  by_target = by (object_at o h.stage)
    where
      by : (c : Option Object)
          → need c h (λ x. need (field_named key x.fields) h (λ f. store_field o f v h))
          ≡ bind (need c h (λ x. need (option_map target_of (field_named key x.fields)) h (λ t. Goes t h))) (λ t h1. store o key v (item_at o v t.text) h1)
      by None = refl
      by (Some c) = by_found (field_named key c.fields) (named key c.fields)
