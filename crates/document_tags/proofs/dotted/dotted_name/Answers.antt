-- With a dot, and without one.
use Rattle.std.proofs.Common.{lit<, Some, None}
use Rattle.std.proofs.lemmas.Str.Pattern.{split_parts}
use Rattle.document_tags.proofs.Dots.{with_dot, without_dot}
use Rattle.document_tags.proofs.dotted.dotted_name.Goals as goal

pub returns-in-Some : goal.returns-in-Some
returns-in-Some c =
    let parts = split_parts 46 c.args.text.now (Some (c.in-Some.name, c.in-Some.state)) c.in-Some.ensures.cases (lit< tt) in
    with_dot c.args.text.now c.in-Some.name.now c.in-Some.state.now parts.0 parts.1

pub returns-in-None : goal.returns-in-None
returns-in-None c =
    let none = split_parts 46 c.args.text.now None c.in-None.ensures.cases (lit< tt) in
    without_dot c.args.text.now none
