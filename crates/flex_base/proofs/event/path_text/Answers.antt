-- The first name, and each other one behind a dot.
use Rattle.std.proofs.Common.{◌≡◌, ◌++◌, ◌∷◌, List, ℕ, ap, sym, ◌∙◌, subst, string_bytes, rules}
use Rattle.std.specs.Prelude.{IfOk}
use Rattle.std.specs.List.{flat_map}
use Rattle.flex_base.specs.Events.{path_text}
use Rattle.flex_base.proofs.Paths.{joined_further}
use Rattle.flex_base.proofs.event.path_text.Goals as goal

pub returns : goal.returns
returns c =
    let first = c.in-Some.first.now in
    let others = c.in-Some.others.now in
    let begun : string_bytes c.push_str.new.self ≡ first = search rules in
    let whole : first ∷ others ≡ c.args.path.now = search rules in
    let e : c.deref.result.now ≡ path_text c.args.path.now =
    c.deref.ensures ∙ c.in_ok-put_further.ensures ∙ ap (λ l. l ++ flat_map (λ name. 46 ∷ name) others) begun ∙ joined_further first others ∙ ap path_text whole in
    subst (λ l. IfOk c.make-2.result (λ text. text ≡ l)) e c.make-2.ensures
