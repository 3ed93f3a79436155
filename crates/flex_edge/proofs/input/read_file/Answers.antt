use Rattle.flex_edge.proofs.Feeding.{reads_whole, reads_part}
use Rattle.flex_edge.proofs.input.read_file.Goals as goal

pub returns-in-Ok : goal.returns-in-Ok
returns-in-Ok g c = reads_whole c.args.name.now _ _ (record { bytes = c.new.result; most = c.args.most }) _ c.new.ensures c.in-Ok.ensures

pub returns : goal.returns
returns g c =
    let feeds = rw c.in-Err-Consumer.field-0-is at c.in-Err-Consumer.ensures in
    reads_part c.args.name.now _ _ (record { bytes = c.new.result; most = c.args.most }) _ c.new.ensures c.in-Err-Consumer.refusal feeds
