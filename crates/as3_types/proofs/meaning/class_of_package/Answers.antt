-- By the end of the namespace.
use Rattle.std.proofs.Common.{◌≡◌, ◌∙◌, ◌++◌, ap, sym, subst, codes, IfOk}
use Rattle.source_sites.specs.Names.{Meaning}
use Rattle.as3_types.specs.Meanings.{meaning_of}
use Rattle.as3_types.proofs.Packages.{no_package, of_folder, of_nothing}
use Rattle.as3_types.proofs.meaning.class_of_package.Goals as goal

pub returns-in_default : goal.returns-in_default
returns-in_default c = no_package c.args.classes.now c.args.name.now c.args.space.now c.in_default.ensures.cases

pub returns-then-is_empty : goal.returns-then-is_empty
returns-then-is_empty c =
    let cases = c.in-Some.ensures.cases in
    of_nothing c.args.classes.now c.args.name.now c.in-Some.folder.now c.args.space.now (cases.1.1 ∙ ap (λ f. f ++ codes ".*") (sym cases.2)) (sym c.if-is_empty.ensures)

pub returns : goal.returns
returns c =
    let cases = c.in-Some.ensures.cases in
    let means : Meaning → Type 0 = λ m. IfOk c.class_in.result (λ x. meaning_of x ≡ m) in
    subst means (of_folder c.args.classes.now c.args.name.now c.in-Some.folder.now c.args.space.now (cases.1.1 ∙ ap (λ f. f ++ codes ".*") (sym cases.2)) (sym c.if-is_empty.ensures)) c.class_in.ensures
