use Rattle.std.proofs.Common.{rules, ◌≡◌, ◌∙◌, ◌<◌, length, Some, refl, sym, ap, subst}
use Rattle.std.specs.Prelude.{slice_set}
use Rattle.std.proofs.lemmas.Option.{slice_get-get_or}
use Rattle.avm2_verify.specs.Known.{Known, Grows}
use Rattle.avm2_verify.proofs.KnownLaws.{grown_from}
use Rattle.avm2_verify.proofs.walk.Walk.arrive.Goals as goal

pub returns-in_ok-push-in-None : goal.returns-in_ok-push-in-None
returns-in_ok-push-in-None c =
    let at = c.in-Some.at in
    let lt = c.requires at c.in-Some.is in
    let view : Known = record { table = c.self.inside.table.items; work = c.self.inside.work.items } in
    let after : Known = record { table = slice_set c.self.inside.table.items at (Some c.args.depths); work = c.push.new.self.items } in
    let same : c.args.self.now ≡ view = search rules in
    let inside : at < length c.self.inside.table.items = subst (λ (k : Known). at < length k.table) same lt in
    subst (λ p. Grows p c.args.depths c.args.self.now after) (sym c.in-Some.is)
    (grown_from c.args.self.now view after at c.args.depths same lt (slice_get-get_or c.self.inside.table.items at c.index.result.now inside ∙ ap Some (sym c.index.ensures ∙ c.in-None.is)) refl c.in_ok-push-in-None.ensures.items)
