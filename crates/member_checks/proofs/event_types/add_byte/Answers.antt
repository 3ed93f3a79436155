-- At a dot, and at another byte.
use Rattle.std.proofs.Common.{◌∙◌, ◌++◌, [], ◌∷◌, ap}
use Rattle.std.specs.Prelude.{◌==◌}
use Rattle.std.proofs.lemmas.Bool.{ne_eqb}
use Rattle.source_sites.specs.Texts.{split}
use Rattle.member_checks.specs.Dots.{begun}
use Rattle.member_checks.proofs.Pieces.{name_ends, name_grows}
use Rattle.member_checks.proofs.event_types.add_byte.Goals as goal

pub returns-then-byte-eq46 : goal.returns-then-byte-eq46
returns-then-byte-eq46 c =
    λ rest. ap (λ ns. ns ++ begun c.new.result (split 46 rest)) c.in_ok-push.ensures.ok
    ∙ (ap (λ n. (c.args.names.now ++ c.args.name ∷ []) ++ begun n (split 46 rest)) c.new.ensures
    ∙ name_ends 46 c.args.byte c.args.name rest c.args.names.now (ap (λ b. b == 46) c.if-byte-eq46.true))

pub returns : goal.returns
returns c =
    λ rest. ap (λ n. c.args.names.now ++ begun n (split 46 rest)) c.in_ok-push-2.ensures.ok
    ∙ name_grows 46 c.args.byte c.args.name rest c.args.names.now (ne_eqb c.args.byte 46 c.if-byte-eq46.false)
