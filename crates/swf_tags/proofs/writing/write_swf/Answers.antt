-- The written bytes are a SWF file, since the name is a `str`.
use Rattle.std.proofs.Common.{◌≡◌, rules, sym, subst}
use Rattle.std.specs.Str.{IsUtf8}
use Rattle.swf_tags.specs.File.{IsSwf, written_tags}
use Rattle.swf_tags.specs.Spelling.{swf_bytes}
use Rattle.swf_tags.proofs.SwfLaws.{swf_is_written}
use Rattle.swf_tags.proofs.writing.write_swf.Goals as goal

pub returns-clause-related : goal.returns-clause-related
returns-clause-related c =
    let main = c.args.main.now in
    let abc = c.args.abc.now in
    let spelled : c.put_tag-4.new.bytes ≡ swf_bytes main abc = search rules in
    let valid = subst IsUtf8 c.as_str.ensures c.as_str.utf8 in
    subst (IsSwf 10 (written_tags main abc) abc main) (sym spelled) (swf_is_written main abc c.requires.no_zero valid c.requires.fits)
