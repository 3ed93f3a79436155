use Rattle.std.proofs.Common.{◌≡◌, ◌<◌, length, take, Err, refl, rules, arith}
use Rattle.std.proofs.lemmas.Grind.{common_steps}
use Rattle.flex_edge.specs.declared.consumer.FeedRefusal.TheVariants as feed
use Rattle.flex_edge.proofs.Feeding.{beginning_fails, feeding_begins, feeding_goes_on}
use Rattle.flex_edge.proofs.consumer.feed_file.Goals as goal

pub returns-in_err-begin : goal.returns-in_err-begin
returns-in_err-begin g c =
    let why = c.in_err-begin.field-0.0 in
    let is : c.from_residual.result ≡ Err (feed.Files why) = search rules in
    rw is (beginning_fails g.C.Consumer.takes c.args.name.now _ c.args.consumer.now why _ c.in_err-begin.ensures)

pub loop-count-init : goal.loop-count-init
loop-count-init g c = feeding_begins g.C.Consumer.takes c.args.name.now _ c.args.consumer.now _ c.in_ok-begin.ensures

pub loop-count-preserved : goal.loop-count-preserved
loop-count-preserved g c =
    let some : 0 < c.in_ok-count.count = omega arith in
    let within = c.in_ok-count.ensures.0 in
    let size : length (take c.in_ok-count.count c.next.new.buf) ≡ c.in_ok-count.count = grind (arith, common_steps, within) in
    feeding_goes_on g.C.Consumer.takes c.args.name.now _ c.args.consumer.now _ _ c.loop-count.consumer c.next.new.buf c.loop-count.invariant
    (take c.in_ok-count.count c.next.new.buf) c.in_ok-count.count c.take.new.self c.in_ok-count.ensures refl
    (record { some = omega arith; fits = omega arith }) c.in-Ok.ensures.taken
