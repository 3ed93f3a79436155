use Rattle.std.proofs.Common.{◌∙◌, ◌+◌, ◌++◌, List, ℕ, map, take, string_bytes, sym, ap, subst}
use Rattle.mxml_items.specs.Texts.{placed_of}
use Rattle.mxml_tree.specs.Readable.{IsReadablePlaced}
use Rattle.mxml_tree.specs.Texts.{AreTextsIn, not_white}
use Rattle.mxml_tree.proofs.TextLaws.{holds_at, IsTextItem, each_is_text, is_white_next, is_not_white_next, one_joined_more}
use Rattle.mxml_tree.proofs.texts.joined_text.Goals as goal
use Rattle.mxml_tree.proofs.texts.joined_text.Goals.{then-not-is_white_text+in_ok-text+in_ok-push_str, else-not-is_white_text}

pub text_in-requires-clause-readable : goal.text_in-requires-clause-readable
text_in-requires-clause-readable c =
    (holds_at IsReadablePlaced c.args.texts.now c.loop-placed.placed-index c.placed-item.result c.loop-placed-test.true c.placed-item.is c.requires.readable).0

pub text_in-requires-clause-text : goal.text_in-requires-clause-text
text_in-requires-clause-text c =
    holds_at IsTextItem c.args.texts.now c.loop-placed.placed-index c.placed-item.result c.loop-placed-test.true c.placed-item.is (each_is_text (map placed_of c.args.texts.now) c.requires.texts)

pub loop-placed-preserved : goal.loop-placed-preserved
loop-placed-preserved c =
    let texts = c.args.texts.now in
    let i = c.loop-placed.placed-index in
    let x = c.placed-item.result in
    let front = not_white (map placed_of (take i texts)) in
    let P : List ℕ → Type 0 = λ text. AreTextsIn (not_white (map placed_of (take (i + 1) texts))) text in
    elim c.if-not-is_white_text.branch [
      | then-not-is_white_text+in_ok-text+in_ok-push_str w ↦
          let joined = ap string_bytes w.joined-is ∙ w.in_ok-push_str.ensures.bytes ∙ ap (λ more. string_bytes c.loop-placed.joined ++ more) w.as_str.ensures in
          let is_not_white = sym c.is_white_text.ensures ∙ w.if-not-is_white_text.true in
          subst P (sym joined)
          (rw (is_not_white_next texts i x c.loop-placed-test.true c.placed-item.is is_not_white)
          (one_joined_more front (placed_of x) (string_bytes c.loop-placed.joined) w.in_ok-text.text c.loop-placed.invariant w.in_ok-text.ensures))
      | else-not-is_white_text w ↦
          let is_white = sym c.is_white_text.ensures ∙ w.if-not-is_white_text.false in
          subst P (sym (ap string_bytes w.joined-is)) (rw (is_white_next texts i x c.loop-placed-test.true c.placed-item.is is_white) c.loop-placed.invariant)
    ]
