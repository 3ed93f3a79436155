use Rattle.std.proofs.Common.{rules, arith, ◌≡◌, Err, sym, ◌∙◌}
use Rattle.swf_tags.specs.declared.types.SwfRefusal.TheVariants as refusal
use Rattle.swf_tags.proofs.StepLaws.{whole-at_end, whole-fails}
use Rattle.swf_tags.proofs.reading.read_swf.Goals as goal

pub returns-in_err-stage : goal.returns-in_err-stage
returns-in_err-stage c =
    let why = c.in_err-stage.field-0.0 in
    let is : c.from_residual.result ≡ Err why = search rules in
    rw is (whole-fails _ c.start.result c.args.bytes.now why (omega arith) c.start.ensures c.in_err-stage.ensures)

pub returns-in_err-swf : goal.returns-in_err-swf
returns-in_err-swf c =
    let fault = c.in_err-swf.field-0.0 in
    let is : c.from_residual-in_err-swf.result ≡ Err (refusal.BadSwf fault.place fault.reason) = search rules in
    let whole = whole-at_end _ c.start.result c.in_ok-stage.stage c.args.bytes.now (omega arith) c.start.ensures c.in_ok-stage.ensures.0 in
    rw is (sym whole ∙ c.in_err-swf.ensures)

pub returns : goal.returns
returns c = sym (whole-at_end _ c.start.result c.in_ok-stage.stage c.args.bytes.now (omega arith) c.start.ensures c.in_ok-stage.ensures.0) ∙ c.in_ok-swf.ensures
