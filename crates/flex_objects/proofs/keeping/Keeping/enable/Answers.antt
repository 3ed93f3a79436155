use Rattle.std.proofs.Common.{◌≡◌, ◌∙◌, arith, ap, refl}
use Rattle.std.specs.List.{insert, position_or_len}
use Rattle.std.specs.Prelude.{nat_lt}
use Rattle.flex_objects.specs.Entities.{insert_number, with_enabled}
use Rattle.flex_objects.proofs.Positions.{insert_first, place_within}
use Rattle.flex_objects.proofs.keeping.Keeping.enable.Goals as goal

pub insert-requires : goal.insert-requires
insert-requires c =
    let within = place_within (λ n. nat_lt c.args.binding n) c.as_slice.result.now in
    omega (arith, within, c.first_above-place.ensures, c.as_slice.ensures.len)

pub returns : goal.returns
returns c =
    let ns = c.self.inside.enabled.items in
    let place : c.first_above-place.result ≡ position_or_len (λ n. nat_lt c.args.binding n) ns =
    c.first_above-place.ensures ∙ ap (position_or_len (λ n. nat_lt c.args.binding n)) c.as_slice.ensures.value in
    let items : c.insert.new.self.items ≡ insert_number c.args.binding ns =
    c.in_ok-insert.ensures.items ∙ ap (λ n. insert ns n c.args.binding) place
    ∙ insert_first (λ n. nat_lt c.args.binding n) c.args.binding (insert_number c.args.binding) refl (λ y ys. refl) ns in
    ap (λ l. record { enabled = l; open_bindings = c.self.inside.open_bindings.items; entered = c.self.inside.entered; running = c.self.inside.running; kept = c.self.inside.kept }) items ∙ ap (with_enabled c.args.binding) c.self.view_is
