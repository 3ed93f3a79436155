use Rattle.std.proofs.Common.{None, map, refl, sym, subst}
use Rattle.mxml_items.specs.Texts.{placed_of}
use Rattle.mxml_tree.specs.declared.tree.Characters.{Characters}
use Rattle.mxml_tree.specs.Readable.{IsReadablePlaced}
use Rattle.mxml_tree.specs.Texts.{AreCharacters, not_white}
use Rattle.mxml_tree.proofs.TextLaws.{holds_of_first, IsTextItem, each_is_text, one_makes, several_make}
use Rattle.mxml_tree.proofs.texts.characters.Goals as goal
use Rattle.mxml_tree.proofs.texts.characters.Goals.{in-None+in_ok-text_in-in-None, in-Some-first_not_white+in_ok-joined_text-in-Some-first_not_white}

pub text_in-requires-clause-readable : goal.text_in-requires-clause-readable
text_in-requires-clause-readable c =
    (holds_of_first IsReadablePlaced (map placed_of c.args.texts.now) (placed_of c.in-Some.first.now) (not_white (map placed_of c.in-Some.others.now)) c.requires.readable c.in-Some.ensures).0

pub text_in-requires-clause-text : goal.text_in-requires-clause-text
text_in-requires-clause-text c =
    let items = map placed_of c.args.texts.now in
    holds_of_first IsTextItem items (placed_of c.in-Some.first.now) (not_white (map placed_of c.in-Some.others.now)) (each_is_text items c.requires.texts) c.in-Some.ensures

pub span_of-requires : goal.span_of-requires
span_of-requires c =
    (holds_of_first IsReadablePlaced (map placed_of c.args.texts.now) (placed_of c.in-Some.first.now) (not_white (map placed_of c.in-Some.others.now)) c.requires.readable c.in-Some.ensures).1

pub returns : goal.returns
returns c =
    let items = map placed_of c.args.texts.now in
    let first = placed_of c.in-Some.first.now in
    let others = not_white (map placed_of c.in-Some.others.now) in
    let P : Characters → Type 0 = λ node. AreCharacters first.at node items in
    elim c.match-first_not_white-2.branch [
      | in-None+in_ok-text_in-in-None w ↦
          let node : Characters = record { text = w.in_ok-text_in-in-None.field-0; span = w.span_of.result } in
          subst P (sym w.characters-is) (one_makes items first others node c.requires.texts c.in-Some.ensures w.in-None.ensures w.in_ok-text_in-in-None.ensures w.span_of.ensures)
      | in-Some-first_not_white+in_ok-joined_text-in-Some-first_not_white w ↦
          let node : Characters = record { text = w.in_ok-joined_text-in-Some-first_not_white.field-0; span = None } in
          subst P (sym w.characters-is)
          (several_make items first others _ _ node c.requires.texts c.in-Some.ensures w.in-Some-first_not_white.ensures w.in_ok-joined_text-in-Some-first_not_white.ensures refl)
    ]
