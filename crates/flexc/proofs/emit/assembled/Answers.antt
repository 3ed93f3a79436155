use Rattle.std.proofs.Common.{rules, ◌≡◌, map, subst, sym, length, ◌<◌, All, IfOk}
use Rattle.avm2_code.specs.declared.parts.Part.TheVariants.{Plain}
use Rattle.avm2_code.specs.Assembly.{AreMarked, PartFits, code_of}
use Rattle.flexc.specs.Emitted.{encode_all}
use Rattle.flexc.proofs.PlainCode.{plain, plain_same, plain_fits, plain_marked, plain_short, plain_is}
use Rattle.flexc.proofs.emit.assembled.Goals as goal

pub assemble-requires-clause-marked : goal.assemble-requires-clause-marked
assemble-requires-clause-marked c =
    let parts : c.in_ok-parts.parts ≡ map Plain c.args.instructions.now = search rules in
    subst AreMarked (sym (plain_same _ _ c.args.instructions.now parts c.new-marks.ensures)) (plain_marked c.args.instructions.now)

pub assemble-requires-clause-fits : goal.assemble-requires-clause-fits
assemble-requires-clause-fits c =
    let parts : c.in_ok-parts.parts ≡ map Plain c.args.instructions.now = search rules in
    subst (All PartFits) (sym parts) (plain_fits c.args.instructions.now c.requires.fits)

pub assemble-requires-clause-short : goal.assemble-requires-clause-short
assemble-requires-clause-short c =
    let parts : c.in_ok-parts.parts ≡ map Plain c.args.instructions.now = search rules in
    subst (λ p. length (code_of p) < 8388608) (sym (plain_same _ _ c.args.instructions.now parts c.new-marks.ensures)) (plain_short c.args.instructions.now c.requires.few)

pub returns : goal.returns
returns c =
    let parts : c.in_ok-parts.parts ≡ map Plain c.args.instructions.now = search rules in
    let same : code_of (plain c.args.instructions.now) ≡ encode_all c.args.instructions.now = plain_is c.args.instructions.now in
    subst (λ code. IfOk c.assemble.result (λ x. x ≡ code)) same (subst (λ p. IfOk c.assemble.result (λ x. x ≡ code_of p)) (plain_same _ _ c.args.instructions.now parts c.new-marks.ensures) c.assemble.ensures.value)
