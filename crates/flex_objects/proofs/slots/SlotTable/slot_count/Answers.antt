use Rattle.std.proofs.Common.{◌≡◌, ◌∙◌, ◌+◌, ap, sym, suc, take, length, cond, arith}
use Rattle.std.specs.Prelude.{slice_get}
use Rattle.flex_world.specs.Making.{slots}
use Rattle.flex_objects.specs.Properties.{is_slot_in}
use Rattle.flex_objects.proofs.Fields.{slots_step}
use Rattle.flex_objects.proofs.slots.SlotTable.slot_count.Goals as goal
use Rattle.flex_objects.proofs.slots.SlotTable.slot_count.Goals.{then-is_slot, else-is_slot}

pub loop-place-preserved : goal.loop-place-preserved
loop-place-preserved c =
    let n = c.loop-place.place in
    let fields = c.args.self.now in
    let before = length (slots (take n fields)) in
    let one_more : n + 1 ≡ suc n = omega arith in
    let step : length (slots (take (n + 1) fields)) ≡ before + cond (is_slot_in (slice_get fields n)) 1 0 = ap (λ k. length (slots (take k fields))) one_more ∙ slots_step fields n in
    elim c.if-is_slot.branch [
      | then-is_slot w ↦
          let more : length (slots (take (n + 1) fields)) ≡ before + 1 = step ∙ ap (λ b. before + cond b 1 0) (sym c.is_slot.ensures ∙ w.if-is_slot.true) in
          (omega (arith, w.count-is, c.loop-place.invariant.0, more), omega (arith, w.count-is, c.loop-place.invariant.1))
      | else-is_slot w ↦
          let more : length (slots (take (n + 1) fields)) ≡ before + 0 = step ∙ ap (λ b. before + cond b 1 0) (sym c.is_slot.ensures ∙ w.if-is_slot.false) in
          (omega (arith, w.count-is, c.loop-place.invariant.0, more), omega (arith, w.count-is, c.loop-place.invariant.1))
    ]
