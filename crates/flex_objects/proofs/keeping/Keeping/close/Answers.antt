use Rattle.std.proofs.Common.{rules, ◌≡◌, ◌∙◌, ap, refl, sym, ◌==◌}
use Rattle.std.proofs.lemmas.Iterator.{YieldsList-from_slice}
use Rattle.std.proofs.lemmas.Iterator.Search.{position_from_yields_List}
use Rattle.flex_world.specs.Objects.{without_number}
use Rattle.flex_objects.specs.Entities.{without_open}
use Rattle.flex_objects.proofs.Positions.{cut, cut_first}
use Rattle.flex_objects.proofs.keeping.Keeping.close.Goals as goal

pub returns-in-Some : goal.returns-in-Some
returns-in-Some c =
    let ns = c.self.inside.open_bindings.items in
    let found = position_from_yields_List (λ n. n == c.args.binding) _ _ c.position.result c.position.ensures.ran (YieldsList-from_slice ns cc) (λ x b q k. search rules) in
    let items : c.remove.new.self.items ≡ without_number c.args.binding ns =
    c.remove.ensures.items ∙ ap (cut ns) (sym c.in-Some.is ∙ found) ∙ cut_first (λ n. n == c.args.binding) (without_number c.args.binding) refl (λ x xs. refl) ns in
    ap (λ l. record { enabled = c.self.inside.enabled.items; open_bindings = l; entered = c.self.inside.entered; running = c.self.inside.running; kept = c.self.inside.kept }) items ∙ ap (without_open c.args.binding) c.self.view_is

pub returns-in_default : goal.returns-in_default
returns-in_default c =
    let ns = c.self.inside.open_bindings.items in
    let found = position_from_yields_List (λ n. n == c.args.binding) _ _ c.position.result c.position.ensures.ran (YieldsList-from_slice ns cc) (λ x b q k. search rules) in
    let items : ns ≡ without_number c.args.binding ns =
    ap (cut ns) (sym c.in_default.is ∙ found) ∙ cut_first (λ n. n == c.args.binding) (without_number c.args.binding) refl (λ x xs. refl) ns in
    sym c.self.view_is ∙ ap (λ l. record { enabled = c.self.inside.enabled.items; open_bindings = l; entered = c.self.inside.entered; running = c.self.inside.running; kept = c.self.inside.kept }) items ∙ ap (without_open c.args.binding) c.self.view_is
