-- No name is there at first.
use Rattle.std.proofs.Common.{◌∙◌, ◌++◌, ap}
use Rattle.source_sites.specs.Texts.{split}
use Rattle.member_checks.specs.Dots.{begun}
use Rattle.member_checks.proofs.Pieces.{begun_empty}
use Rattle.member_checks.proofs.event_types.names_between_dots.Goals as goal

pub loop-byte-init : goal.loop-byte-init
loop-byte-init c =
    ap (λ names. names ++ begun c.new-name.result (split 46 c.args.written.now)) c.new-names.ensures ∙ (ap (λ name. begun name (split 46 c.args.written.now)) c.new-name.ensures ∙ begun_empty 46 c.args.written.now)
