use Rattle.std.proofs.Common.{◌++◌, false, map, subst, sym, ◌∙◌, ap}
use Rattle.std.specs.Str.{IsUtf8}
use Rattle.mxml_items.specs.Pieces.{Written}
use Rattle.mxml_tree.specs.Values.{cdata_text}
use Rattle.mxml_tree.proofs.MeantIsUtf8.{any_bytes, meant_is_utf8}
use Rattle.mxml_tree.proofs.values.cdata_text.Goals as goal

pub text_with-requires : goal.text_with-requires
text_with-requires c =
    let content = c.args.content.now in
    subst IsUtf8 (sym (c.as_slice.ensures ∙ c.in_ok-put_plain.ensures ∙ ap (λ x. x ++ cdata_text content) c.new-bytes.ensures)) (meant_is_utf8 false (map Written content) content c.requires (any_bytes content))
