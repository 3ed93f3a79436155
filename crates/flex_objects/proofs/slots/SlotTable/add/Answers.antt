use Rattle.std.proofs.Common.{◌≡◌, ◌∙◌, ap, sym, subst, map, true, ◌++◌, ◌∷◌, [], ℕ, List}
use Rattle.std.proofs.lemmas.List.{map_push}
use Rattle.std.specs.Prelude.{is_none}
use Rattle.std.specs.String.{string_bytes}
use Rattle.indexmap.proofs.CallerLemmas.{insert_entry-new}
use Rattle.flex_world.specs.Objects.{field_named}
use Rattle.flex_objects.specs.Properties.{slot_field}
use Rattle.flex_objects.specs.Tables.{entry_field}
use Rattle.flex_objects.proofs.Tables.{absent}
use Rattle.flex_objects.proofs.slots.SlotTable.add.Goals as goal

pub returns : goal.returns
returns c =
    let es = c.self.inside.slots.entries in
    let key : List ℕ = string_bytes c.in_ok-key.key in
    let spelled : key ≡ c.args.key.now = c.in_ok-key.ensures.ok ∙ c.as_str.ensures in
    let free : is_none (field_named key (map entry_field es)) ≡ true =
    subst (λ k. is_none (field_named k (map entry_field es)) ≡ true) (sym spelled) (subst (λ fields. is_none (field_named c.args.key.now fields) ≡ true) (sym c.self.view_is) c.requires) in
    ap (map entry_field) (c.in_ok-insert.ensures.entries ∙ insert_entry-new _ c.self.inside.slots c.in_ok-key.key c.args.slot (absent key es free))
    ∙ map_push entry_field es (c.in_ok-key.key, c.args.slot)
    ∙ ap (λ fields. fields ++ slot_field key c.args.slot ∷ []) c.self.view_is ∙ ap (λ k. c.args.self.now ++ slot_field k c.args.slot ∷ []) spelled
