use Rattle.std.proofs.Common.{rules, ◌≡◌, ◌∙◌, ◌++◌, ◌∷◌, [], ◌+◌, ap, map, sym, suc, take, arith}
use Rattle.std.proofs.lemmas.List.{append-nil}
use Rattle.std.proofs.lemmas.Option.{slice_get-map}
use Rattle.std.specs.Prelude.{None, Some, option_map, slice_get}
use Rattle.flex_world.specs.Objects.{Field}
use Rattle.flex_objects.specs.Tables.{entry_field}
use Rattle.flex_objects.proofs.Positions.{one_of, take_step}
use Rattle.flex_objects.proofs.slots.SlotTable.first_values.Goals as goal
use Rattle.flex_objects.proofs.slots.SlotTable.first_values.Goals.{in-Some+in_ok-clone+in_ok-push, in_default}

pub loop-place-preserved : goal.loop-place-preserved
loop-place-preserved c =
    let n = c.loop-place.place in
    let es = c.self.inside.slots.entries in
    let start_of = λ (f : Field). f.value in
    let values = map start_of c.args.self.now in
    let one_more : n + 1 ≡ suc n = omega arith in
    let entry : slice_get values n ≡ option_map start_of (option_map entry_field (slice_get es n)) =
    ap (λ fields. slice_get (map start_of fields) n) (sym c.self.view_is) ∙ slice_get-map start_of (map entry_field es) n ∙ ap (option_map start_of) (slice_get-map entry_field es n) in
    let more = sym (take_step values n) ∙ ap (λ k. take k values) (sym one_more) in
    elim c.match-get_index.branch [
      | in-Some+in_ok-clone+in_ok-push w ↦
          let start = w.in-Some.slot.now.start in
          let copied : w.in_ok-clone.field-0 ≡ start = search rules in
          let held : slice_get values n ≡ Some start = entry ∙ ap (λ o. option_map start_of (option_map entry_field o)) (sym w.in-Some.ensures.entry) in
          ap (λ v. v.items) w.values-is ∙ w.in_ok-push.ensures.items ∙ ap (λ x. c.loop-place.values.items ++ x ∷ []) copied
          ∙ ap (λ l. l ++ start ∷ []) c.loop-place.invariant ∙ ap (λ o. take n values ++ one_of o) (sym held) ∙ more
      | in_default w ↦
          let held : slice_get values n ≡ None = entry ∙ ap (λ o. option_map start_of (option_map entry_field o)) (sym w.in_default.ensures.entry) in
          ap (λ v. v.items) w.values-is ∙ c.loop-place.invariant ∙ sym (append-nil (take n values)) ∙ ap (λ o. take n values ++ one_of o) (sym held) ∙ more
    ]
