use Rattle.std.proofs.Common.{◌+◌, map, take, drop, get_or, sym, ap, ◌∙◌}
use Rattle.mxml_items.specs.Reading.{written}
use Rattle.mxml_tree.specs.Faults.{is_repeated, names_of}
use Rattle.mxml_tree.proofs.AttributeLaws.{past_end, names_more, names_around}
use Rattle.mxml_tree.proofs.RepeatedNames.{seen_before, now_seen}
use Rattle.mxml_tree.proofs.attributes.is_repeated.Goals as goal

pub returns-then-not-branch : goal.returns-then-not-branch
returns-then-not-branch c =
    let attributes = c.args.attributes.now in
    let i = c.loop-attribute.attribute-index in
    sym (ap is_repeated (names_around attributes i past_end c.loop-attribute-test.true)
    ∙ seen_before c.loop-attribute.names.keys (names_of (map written (take i attributes))) (get_or attributes i past_end).name (names_of (map written (drop (i + 1) attributes))) c.loop-attribute.invariant
    (sym c.in_ok-insert.ensures.added ∙ c.if-not-branch.true))

pub loop-attribute-preserved : goal.loop-attribute-preserved
loop-attribute-preserved c =
    let attributes = c.args.attributes.now in
    let i = c.loop-attribute.attribute-index in
    rw (names_more attributes i past_end c.loop-attribute-test.true, c.in_ok-insert.ensures.keys)
    (now_seen c.loop-attribute.names.keys (names_of (map written (take i attributes))) (get_or attributes i past_end).name c.loop-attribute.invariant (sym c.in_ok-insert.ensures.added ∙ c.if-not-branch.false))
