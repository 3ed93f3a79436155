use Rattle.std.proofs.Common.{◌∷◌, ◌∙◌, ◌+◌, ◌-◌, length, map, drop, sym, ap, arith}
use Rattle.std.proofs.lemmas.List.{length-drop, take_all}
use Rattle.mxml_items.specs.Texts.{placed_of}
use Rattle.mxml_tree.specs.Texts.{not_white}
use Rattle.mxml_tree.proofs.TextLaws.{not_white_at}
use Rattle.mxml_tree.proofs.texts.first_not_white.Goals as goal

pub returns-then-not-is_white_text : goal.returns-then-not-is_white_text
returns-then-not-is_white_text c =
    let texts = c.args.texts.now in
    let i = c.loop-index.index in
    let x = c.index-texts-index.result in
    not_white_at texts i x c.loop-index-test.true c.index-texts-index.is c.loop-index.invariant (sym c.is_white_text.ensures ∙ c.if-not-is_white_text.true)
    ∙ ap (λ xs. placed_of x ∷ not_white (map placed_of xs)) (sym (take_all (length texts - (i + 1)) (drop (i + 1) texts) (rw length-drop (omega arith))))
