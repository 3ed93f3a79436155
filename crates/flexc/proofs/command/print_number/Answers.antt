use Rattle.std.proofs.Common.{rules, Ok, subst, ◌∙◌}
use Rattle.std.specs.Prelude.{decimal}
use Rattle.flex_edge.specs.Whole.{Prints}
use Rattle.flexc.proofs.Says.{prints_then}
use Rattle.flexc.proofs.command.print_number.Goals as goal

pub returns : goal.returns
returns g c =
    let first : Prints (g.O.Sink.state c.args.out.now) c.args.mark.now (Ok tt) (g.O.Sink.state c.print.new.out) = search rules in
    let second : Prints (g.O.Sink.state c.print.new.out) (decimal c.args.number) c.print-2.result (g.O.Sink.state c.print-2.new.out) =
    subst (λ digits. Prints (g.O.Sink.state c.print.new.out) digits c.print-2.result (g.O.Sink.state c.print-2.new.out)) (c.as_bytes-2.ensures.value ∙ c.format.ensures.text) c.print-2.ensures in
    prints_then c.args.mark.now (decimal c.args.number) _ _ _ c.print-2.result first second
