use Rattle.std.proofs.Common.{Some, None, ◌∙◌, sym, arith}
use Rattle.std.proofs.lemmas.Str.Pattern.{split_once_first}
use Rattle.mxml_tree.proofs.NameLaws.{prefix_before, no_prefix}
use Rattle.mxml_tree.proofs.names.prefix_of.Goals as goal

pub returns-in-None : goal.returns-in-None
returns-in-None c = sym (no_prefix c.args.name.now (split_once_first 58 c.args.name.now None c.in-None.ensures.cases (omega arith)))

pub returns-in-Some : goal.returns-in-Some
returns-in-Some c =
    let name = c.args.name.now in
    let split = split_once_first 58 name (Some (c.in-Some.prefix, c.in-Some.field-0-1)) c.in-Some.ensures.cases (omega arith) in
    split.1 ∙ sym (prefix_before name split.0)
