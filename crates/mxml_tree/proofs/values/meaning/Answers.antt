use Rattle.std.proofs.Common.{drop, length, ◌++◌, if◌then◌else◌, subst, sym, ◌∙◌, ap}
use Rattle.std.specs.Str.{IsUtf8}
use Rattle.std.specs.Prelude.{encode_utf8}
use Rattle.std.proofs.lemmas.Result.{IfOk-weaker}
use Rattle.mxml_tree.specs.Values.{StandsFor, text_of, value_of}
use Rattle.mxml_tree.proofs.Meanings.{SoFar, cut_here, goes_on, unread_is_shorter, all_is_read}
use Rattle.mxml_tree.proofs.MeantIsUtf8.{stands_for_utf8}
use Rattle.mxml_tree.proofs.values.meaning.Goals as goal

pub loop-plain-preserved : goal.loop-plain-preserved
loop-plain-preserved c =
    let found = c.in-Some.ensures in
    let rest = c.loop-plain.rest.now in
    let plain = c.in-Some.plain.now in
    let unread = c.in-Some.unread.now in
    subst (λ bytes. SoFar c.args.spaces c.args.written.now bytes unread) (sym (c.in_ok-put_character.ensures ∙ ap (λ x. x ++ encode_utf8 c.in-Some.c) c.in_ok-put_plain.ensures))
    (goes_on c.args.spaces c.args.written.now c.loop-plain.bytes rest plain (drop (length plain) rest) c.in-Some.c unread c.loop-plain.invariant found.plain (cut_here rest plain found.front) found.reference)

pub loop-plain-smaller : goal.loop-plain-smaller
loop-plain-smaller c =
    let found = c.in-Some.ensures in
    let rest = c.loop-plain.rest.now in
    let plain = c.in-Some.plain.now in
    unread_is_shorter rest plain (drop (length plain) rest) c.in-Some.c c.in-Some.unread.now (cut_here rest plain found.front) found.reference

pub text_with-requires : goal.text_with-requires
text_with-requires c =
    subst IsUtf8 (sym (c.as_slice.ensures ∙ c.in_ok-put_plain-2.ensures))
    (stands_for_utf8 c.args.spaces c.args.written.now _ c.requires.utf8 (all_is_read c.args.spaces c.args.written.now c.loop-plain.bytes c.loop-plain.rest.now c.loop-plain.invariant c.in_default.ensures.none))

pub returns : goal.returns
returns c =
    let read = if c.args.spaces then value_of else text_of in
    let whole = all_is_read c.args.spaces c.args.written.now c.loop-plain.bytes c.loop-plain.rest.now c.loop-plain.invariant c.in_default.ensures.none in
    IfOk-weaker c.text_with.result _ (StandsFor read c.args.written.now)
    (λ text same. subst (StandsFor read c.args.written.now) (sym (same ∙ c.as_slice.ensures ∙ c.in_ok-put_plain-2.ensures)) whole) c.text_with.ensures
