use Rattle.std.proofs.Common.{true≢false, sym, ◌∙◌, subst}
use Rattle.mxml_items.specs.Names.{IsName}
use Rattle.mxml_items.proofs.NameLaws.{no_name_of, name_is_utf8}
use Rattle.mxml_items.proofs.names.name.Goals as goal

pub returns-else-is_name : goal.returns-else-is_name
returns-else-is_name c =
    no_name_of c.args.text.now c.run.result.0.now c.run.result.1.now c.run.ensures
    (λ n. true≢false (sym (c.is_name.ensures.1 (subst IsName (sym c.in-Ok.ensures.cases.0) n)) ∙ c.if-is_name.false))

pub returns-in-Err : goal.returns-in-Err
returns-in-Err c = no_name_of c.args.text.now c.run.result.0.now c.run.result.1.now c.run.ensures (λ n. c.in-Err.ensures.cases.0 (name_is_utf8 c.run.result.0.now n))
