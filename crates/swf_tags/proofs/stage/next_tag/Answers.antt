use Rattle.std.proofs.Common.{rules, arith, ◌≡◌, ◌+◌, ◌-◌, ◌<◌, ◌++◌, [], length, take, Err, refl, sym, ◌∙◌}
use Rattle.swf_tags.specs.Fields.{split}
use Rattle.swf_tags.proofs.StepLaws.{TagStands, header-fails, tag-fails, tag-part, tag-some}
use Rattle.swf_tags.proofs.stage.next_tag.Goals as goal

pub returns-in_err-stage : goal.returns-in_err-stage
unfolding split
returns-in_err-stage c =
    let why = c.in_err-stage.field-0.0 in
    let is : c.from_residual.result ≡ Err why = search rules in
    let end = c.args.end in
    let rest = c.args.rest.now in
    let body = c.in-Some-split_at_checked.body.now in
    let behind = c.in-Some-split_at_checked.behind.now in
    let empty : c.args.bytes ≡ [] = search rules in
    let stands : TagStands c.in-Some.header body behind rest = record { after_header = c.in-Some.after.now; header = search rules; split_is = search rules } in
    let some = tag-some c.in-Some.header body behind rest stands in
    let place : end - length behind + length behind ≡ end - length rest + length rest = omega (arith, some, c.requires.within) in
    rw is (tag-fails _ _ _ c.args.before c.in-Some.header c.args.bytes body behind rest why refl empty stands place c.in_err-stage.ensures)

pub returns : goal.returns
unfolding split
returns c =
    let end = c.args.end in
    let rest = c.args.rest.now in
    let body = c.in-Some-split_at_checked.body.now in
    let behind = c.in-Some-split_at_checked.behind.now in
    let empty : c.args.bytes ≡ [] = search rules in
    let stands : TagStands c.in-Some.header body behind rest = record { after_header = c.in-Some.after.now; header = search rules; split_is = search rules } in
    let some = tag-some c.in-Some.header body behind rest stands in
    let count : 0 < length rest - length behind = omega (arith, some) in
    let place : end - length behind + length behind ≡ end - length rest + length rest = omega (arith, some, c.requires.within) in
    let part = tag-part (end - length rest) (end - length behind) _ c.args.before c.in-Some.header c.args.bytes body behind rest refl empty stands place in
    let reached = c.in_ok-stage.ensures in
    record { some = count; within = omega (arith, some); fine = reached.1; is = reached.0 ∙ sym part }

pub returns-in_err-in_header : goal.returns-in_err-in_header
returns-in_err-in_header c =
    let why = c.in_err-in_header.field-0.0 in
    let is : c.from_residual-in_err-in_header.result ≡ Err why = search rules in
    let more = c.in_ok-bytes.bytes in
    let longer : more ≡ c.args.bytes ++ take 1 c.args.rest.now = search rules in
    rw is (header-fails _ _ _ c.args.before c.args.bytes more c.args.rest.now why refl longer c.requires.some refl c.in_err-in_header.ensures)
