use Rattle.std.proofs.Common.{true≢false, sym, subst, IsTrue, ◌↔◌, Bool}
use Rattle.mxml_items.specs.Names.{IsPart}
use Rattle.mxml_items.proofs.NameLaws.{part_by_characters, no_part}
use Rattle.mxml_items.proofs.names.is_part.Goals as goal

pub returns-in-Some : goal.returns-in-Some
returns-in-Some c =
    let P : Bool → Type 0 = λ b. IsTrue b ↔ IsPart c.args.word.now in
    subst P (sym c.all_continue.ensures) (part_by_characters c.args.word.now c.in-Some.others.now c.utf8.word c.in-Some.ensures)

pub returns-in-None : goal.returns-in-None
returns-in-None c = (λ e. absurd (true≢false (sym e)), λ p. absurd (no_part c.args.word.now c.in-None.ensures p))
