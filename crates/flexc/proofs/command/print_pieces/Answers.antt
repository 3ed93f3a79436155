use Rattle.std.proofs.Common.{rules, ◌≡◌, ◌∷◌, [], Ok, Err}
use Rattle.flex_edge.specs.Whole.{Prints}
use Rattle.flexc.proofs.Says.{prints_then, prints_stop}
use Rattle.flexc.proofs.command.print_pieces.Goals as goal

pub returns-in_err-print-2 : goal.returns-in_err-print-2
returns-in_err-print-2 g c =
    let e = c.in_err-print-2.field-0.0 in
    let first : Prints (g.O.Sink.state c.args.out.now) c.args.before.now (Ok tt) (g.O.Sink.state c.print.new.out) = search rules in
    let second : Prints (g.O.Sink.state c.print.new.out) c.args.name.now (Err e) (g.O.Sink.state c.print-2.new.out) = search rules in
    let is : c.from_residual-in_err-print-2.result ≡ Err e = search rules in
    rw is (prints_then _ _ _ _ _ (Err e) first (prints_stop _ _ _ _ e second))

pub returns-in_err-print-3 : goal.returns-in_err-print-3
returns-in_err-print-3 g c =
    let e = c.in_err-print-3.field-0.0 in
    let first : Prints (g.O.Sink.state c.args.out.now) c.args.before.now (Ok tt) (g.O.Sink.state c.print.new.out) = search rules in
    let second : Prints (g.O.Sink.state c.print.new.out) c.args.name.now (Ok tt) (g.O.Sink.state c.print-2.new.out) = search rules in
    let third : Prints (g.O.Sink.state c.print-2.new.out) c.args.after.now (Err e) (g.O.Sink.state c.print-3.new.out) = search rules in
    let is : c.from_residual-in_err-print-3.result ≡ Err e = search rules in
    rw is (prints_then _ _ _ _ _ (Err e) first (prints_then _ _ _ _ _ (Err e) second (prints_stop _ _ _ _ e third)))

pub returns : goal.returns
returns g c =
    let first : Prints (g.O.Sink.state c.args.out.now) c.args.before.now (Ok tt) (g.O.Sink.state c.print.new.out) = search rules in
    let second : Prints (g.O.Sink.state c.print.new.out) c.args.name.now (Ok tt) (g.O.Sink.state c.print-2.new.out) = search rules in
    let third : Prints (g.O.Sink.state c.print-2.new.out) c.args.after.now (Ok tt) (g.O.Sink.state c.print-3.new.out) = search rules in
    let last : Prints (g.O.Sink.state c.print-3.new.out) (10 ∷ []) c.print-4.result (g.O.Sink.state c.print-4.new.out) = search rules in
    prints_then _ _ _ _ _ c.print-4.result first (prints_then _ _ _ _ _ c.print-4.result second (prints_then _ _ _ _ _ c.print-4.result third last))
