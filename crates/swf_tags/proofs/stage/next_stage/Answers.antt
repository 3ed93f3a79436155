use Rattle.std.proofs.Common.{rules, arith, ◌≡◌, ◌-◌, ◌++◌, length, take, Err, refl, sym, ◌∙◌}
use Rattle.swf_tags.specs.Feeding.{kept_with}
use Rattle.swf_tags.proofs.StepLaws.{passes-over, body-fails, body-part, fed-ended, signature-fails}
use Rattle.swf_tags.proofs.FeedLaws.{fed-failed}
use Rattle.swf_tags.proofs.stage.next_stage.Goals as goal

pub returns-in_err-in_signature-in-Signature : goal.returns-in_err-in_signature-in-Signature
returns-in_err-in_signature-in-Signature c =
    let why = c.in_err-in_signature-in-Signature.field-0.0 in
    let is : c.from_residual-in_err-in_signature-in-Signature.result ≡ Err why = search rules in
    let more = c.in_ok-bytes-in-Signature.bytes in
    let longer : more ≡ c.in-Signature.bytes ++ take 1 c.args.rest.now = search rules in
    rw is (signature-fails _ c.args.stage c.in-Signature.bytes more c.args.rest.now why c.in-Signature.is longer c.requires.some c.in_err-in_signature-in-Signature.ensures)

pub returns-in_err-in_body-in-Body : goal.returns-in_err-in_body-in-Body
returns-in_err-in_body-in-Body c =
    let why = c.in_err-in_body-in-Body.field-0.0 in
    let is : c.from_residual-in_err-in_body-in-Body.result ≡ Err why = search rules in
    let body = c.in-Body in
    let more = c.in_ok-kept-in-Body.kept in
    let longer : more ≡ kept_with body.header.code body.kept (take c.min-count.result c.args.rest.now) = search rules in
    let passes = passes-over _ c.args.stage body.before body.header body.kept more body.left c.min-count.result c.args.rest.now body.is c.requires.awaits c.requires.some c.min-count.ensures longer in
    rw is (body-fails _ _ c.args.stage body.before body.header body.kept more body.left _ c.min-count.result c.args.rest.now why passes c.in_err-in_body-in-Body.ensures)

pub returns-in_ok-in_body-in-Body : goal.returns-in_ok-in_body-in-Body
returns-in_ok-in_body-in-Body c =
    let body = c.in-Body in
    let more = c.in_ok-kept-in-Body.kept in
    let longer : more ≡ kept_with body.header.code body.kept (take c.min-count.result c.args.rest.now) = search rules in
    let taken = c.args.end - length c.args.rest.now in
    let passes = passes-over taken c.args.stage body.before body.header body.kept more body.left c.min-count.result c.args.rest.now body.is c.requires.awaits c.requires.some c.min-count.ensures longer in
    let part = body-part taken _ c.args.stage body.before body.header body.kept more body.left _ c.min-count.result c.args.rest.now passes in
    let reached = c.in_ok-in_body-in-Body.ensures in
    record { some = passes.some; within = passes.in_rest; fine = reached.1; is = reached.0 ∙ sym part }

pub returns-in-Ended : goal.returns-in-Ended
returns-in-Ended c = record {
  some = c.requires.some;
  within = omega arith;
  fine = refl;
  is = sym (fed-ended (take (length c.args.rest.now) c.args.rest.now) _ c.in-Ended.said c.in-Ended.swf c.in-Ended.is);
}

pub returns-in-Failed : goal.returns-in-Failed
returns-in-Failed c = rw c.from.ensures (fed-failed c.args.rest.now _ c.in-Failed.fault c.in-Failed.is)
