use Rattle.std.proofs.Common.{◌≡◌, ◌∙◌, ap, refl, sym}
use Rattle.std.specs.Option.{option_copied}
use Rattle.std.specs.Prelude.{None, Option, Some, option_map}
use Rattle.flex_world.specs.Objects.{field_named}
use Rattle.flex_objects.specs.Properties.{holding, items_of, slot_field}
use Rattle.flex_objects.proofs.Fields.{told_alike}
use Rattle.flex_objects.proofs.properties.Properties.slot.Goals as goal

in_two : {A B C : Type 0} (g : B → C) (f : A → B) (o : Option A) → option_map (λ a. g (f a)) o ≡ option_map g (option_map f o)
in_two g f None = refl
in_two g f (Some a) = refl

pub returns-in-Some : goal.returns-in-Some
returns-in-Some c v =
    let key = c.args.key.now in
    let fields = items_of (option_map (λ t. t.value) c.self.inside.table) in
    let table : fields ≡ c.in-Some.table.value = ap (λ o. items_of (option_map (λ t. t.value) o)) c.in-Some.is in
    in_two (holding v) (slot_field key) (option_copied c.get.result) ∙ ap (option_map (holding v)) c.get.ensures
    ∙ ap (λ l. option_map (holding v) (field_named key l)) (c.deref.ensures ∙ sym table)
    ∙ sym (told_alike v key fields c.self.inside.values.items c.self.inside.all) ∙ ap (λ l. option_map (holding v) (field_named key l)) c.self.view_is
