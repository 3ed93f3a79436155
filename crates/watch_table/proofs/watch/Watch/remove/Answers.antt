use Rattle.std.proofs.Common.{rules, tests, ◌∙◌, ◌≡◌, ap, sym, option_map}
use Rattle.std.proofs.lemmas.Fn.{filter_same}
use Rattle.std.specs.Prelude.{Some, not}
use Rattle.std.specs.Result.{result_ok}
use Rattle.watch_table.specs.Affected.{is_of, without_binding}
use Rattle.watch_table.proofs.Walks.{changes_to}
use Rattle.watch_table.proofs.watch.Watch.remove.Goals as goal

pub returns : goal.returns
returns c =
    let document = c.args.document in
    let binding = c.args.binding in
    let held : c.self.inside.chains ≡ Some c.in_ok-chains.chains = sym c.take.ensures.value ∙ c.ok_or.ensures.ok_part ∙ ap result_ok c.in_ok-chains.was in
    let before : c.args.self.now ≡ Some c.in_ok-chains.chains.items = sym c.self.view_is ∙ ap (option_map (λ v. v.items)) held in
    changes_to (without_binding document binding) c.args.self.now c.in_ok-chains.chains.items c.retain.new.self.items before
    (filter_same _ (λ w. not (is_of document binding w)) _ (λ x b f' k. search (rules, tests)) _ _ c.retain.ensures.filtered)
