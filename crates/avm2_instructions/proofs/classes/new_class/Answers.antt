use Rattle.avm2_instructions.proofs.Kept.{made_over_top}
use Rattle.avm2_instructions.proofs.classes.new_class.Goals as goal

pub returns : goal.returns
returns c =
    made_over_top
    c.make_over.result
    c.args.program.now
    c.args.number
    c.in_ok-base.base
    c.args.work.now
    c.take.new.work
    c.make_over.new.work
    c.args.heap.now
    c.make_over.new.heap
    c.in_ok-base.ensures
    c.make_over.ensures
