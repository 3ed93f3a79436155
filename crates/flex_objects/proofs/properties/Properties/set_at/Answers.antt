use Rattle.std.proofs.Common.{◌∙◌, ◌≤◌, ap, sym, arith, length}
use Rattle.std.specs.Prelude.{option_map}
use Rattle.flex_base.specs.Lists.{changed_at}
use Rattle.flex_objects.specs.Properties.{holding, items_of}
use Rattle.flex_objects.proofs.Fields.{changed_outside, length_filled, set_filled}
use Rattle.flex_objects.proofs.properties.Properties.set_at.Goals as goal
use Rattle.flex_objects.proofs.properties.Properties.set_at.Goals.{in-Text-1, in-Undefined-1}

pub returns-then-place-len : goal.returns-then-place-len
returns-then-place-len c =
    let fields = items_of (option_map (λ t. t.value) c.self.inside.table) in
    let v = c.args.value in
    let n = c.args.place in
    let stands = set_filled fields c.self.inside.values.items n v c.self.inside.all ∙ ap (λ l. changed_at (holding v) l n) c.self.view_is in
    elim c.match-index_mut-value.branch [ in-Text-1 w ↦ w.self-is ∙ stands | in-Undefined-1 w ↦ w.self-is ∙ stands ]

pub returns-else-place-len : goal.returns-else-place-len
returns-else-place-len c =
    let fields = items_of (option_map (λ t. t.value) c.self.inside.table) in
    let values = c.self.inside.values.items in
    let outside : length (c.args.self.now) ≤ c.args.place =
    omega (arith, c.if-place-len.false, c.len.ensures, length_filled fields values c.self.inside.all, ap length c.self.view_is) in
    sym (changed_outside (holding c.args.value) c.args.self.now c.args.place outside)
