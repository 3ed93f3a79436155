use Rattle.std.proofs.Common.{Some, None, ◌∙◌, sym, arith}
use Rattle.std.proofs.lemmas.Str.Pattern.{split_once_first}
use Rattle.mxml_tree.proofs.NameLaws.{local_behind, local_is_all}
use Rattle.mxml_tree.proofs.names.local_of.Goals as goal

pub returns-in-None : goal.returns-in-None
returns-in-None c = sym (local_is_all c.args.name.now (split_once_first 58 c.args.name.now None c.in-None.ensures.cases (omega arith)))

pub returns-in-Some : goal.returns-in-Some
returns-in-Some c =
    let name = c.args.name.now in
    let split = split_once_first 58 name (Some (c.in-Some.field-0-0, c.in-Some.local)) c.in-Some.ensures.cases (omega arith) in
    split.2 ∙ sym (local_behind name split.0)
