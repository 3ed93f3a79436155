use Rattle.std.proofs.Common.{◌≡◌, ◌∙◌, ◌-◌, ap, arith, false, sym, true}
use Rattle.std.specs.Prelude.{slice_get}
use Rattle.stage_objects.specs.Entities.{objects_in}
use Rattle.stage_objects.proofs.Forerunners.{found_last, goes_before, passed_by, same_child}
use Rattle.stage_objects.proofs.objects.Objects.behind_forerunners.Goals as goal

pub returns-then-is_forerunner-clause-place : goal.returns-then-is_forerunner-clause-place
returns-then-is_forerunner-clause-place c =
    let s = c.args.self.now in
    let is : goes_before (objects_in s) c.args.spot (slice_get c.args.children.now (c.loop-place.place - 1)) ≡ true =
    ap (goes_before (objects_in s) c.args.spot) (sym c.at.ensures) ∙ sym (same_child s c.args.spot c.at.result) ∙ sym c.is_forerunner.ensures ∙ c.if-is_forerunner.true in
    found_last (objects_in s) c.args.spot c.args.children.now c.loop-place.place (omega arith) is c.loop-place.invariant.last

pub loop-place-preserved : goal.loop-place-preserved
loop-place-preserved c =
    let s = c.args.self.now in
    let is : goes_before (objects_in s) c.args.spot (slice_get c.args.children.now (c.loop-place.place - 1)) ≡ false =
    ap (goes_before (objects_in s) c.args.spot) (sym c.at.ensures) ∙ sym (same_child s c.args.spot c.at.result) ∙ sym c.is_forerunner.ensures ∙ c.if-is_forerunner.false in
    record {
      last = passed_by (objects_in s) c.args.spot c.args.children.now c.loop-place.place (omega arith) is c.loop-place.invariant.last;
      within = omega arith;
    }
