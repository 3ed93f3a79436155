use Rattle.std.proofs.Common.{rules, ◌≡◌, ◌++◌, ◌∷◌, [], Ok, Err, subst, sym}
use Rattle.std.specs.Prelude.{codes, decimal}
use Rattle.flex_edge.specs.Whole.{Prints}
use Rattle.mxml_tree.specs.CodeNames.{name_of}
use Rattle.flexc.proofs.Says.{prints_place, prints_then, prints_stop}
use Rattle.flexc.proofs.command.print_fault.Goals as goal

pub returns-in_err-print : goal.returns-in_err-print
returns-in_err-print g c =
    let e = c.in_err-print.field-0.0 in
    let is : c.from_residual.result ≡ Err e = search rules in
    let first : Prints (g.O.Sink.state c.args.out.now) c.args.name.now (Err e) (g.O.Sink.state c.print.new.out) = search rules in
    rw is (prints_place c.args.name.now c.args.line c.args.column c.args.code _ _ (Err e) (prints_stop _ _ _ _ e first))

pub returns-in_err-print_number : goal.returns-in_err-print_number
returns-in_err-print_number g c =
    let e = c.in_err-print_number.field-0.0 in
    let is : c.from_residual-in_err-print_number.result ≡ Err e = search rules in
    let first : Prints (g.O.Sink.state c.args.out.now) c.args.name.now (Ok tt) (g.O.Sink.state c.print.new.out) = search rules in
    let second : Prints (g.O.Sink.state c.print.new.out) (codes ":" ++ decimal c.args.line) (Err e) (g.O.Sink.state c.print_number.new.out) = search rules in
    rw is (prints_place c.args.name.now c.args.line c.args.column c.args.code _ _ (Err e) (prints_then _ _ _ _ _ (Err e) first (prints_stop _ _ _ _ e second)))

pub returns-in_err-print_number-2 : goal.returns-in_err-print_number-2
returns-in_err-print_number-2 g c =
    let e = c.in_err-print_number-2.field-0.0 in
    let is : c.from_residual-in_err-print_number-2.result ≡ Err e = search rules in
    let first : Prints (g.O.Sink.state c.args.out.now) c.args.name.now (Ok tt) (g.O.Sink.state c.print.new.out) = search rules in
    let second : Prints (g.O.Sink.state c.print.new.out) (codes ":" ++ decimal c.args.line) (Ok tt) (g.O.Sink.state c.print_number.new.out) = search rules in
    let third : Prints (g.O.Sink.state c.print_number.new.out) (codes ":" ++ decimal c.args.column) (Err e) (g.O.Sink.state c.print_number-2.new.out) = search rules in
    rw is (prints_place c.args.name.now c.args.line c.args.column c.args.code _ _ (Err e) (prints_then _ _ _ _ _ (Err e) first (prints_then _ _ _ _ _ (Err e) second (prints_stop _ _ _ _ e third))))

pub returns : goal.returns
returns g c =
    let first : Prints (g.O.Sink.state c.args.out.now) c.args.name.now (Ok tt) (g.O.Sink.state c.print.new.out) = search rules in
    let second : Prints (g.O.Sink.state c.print.new.out) (codes ":" ++ decimal c.args.line) (Ok tt) (g.O.Sink.state c.print_number.new.out) = search rules in
    let third : Prints (g.O.Sink.state c.print_number.new.out) (codes ":" ++ decimal c.args.column) (Ok tt) (g.O.Sink.state c.print_number-2.new.out) = search rules in
    let last : Prints (g.O.Sink.state c.print_number-2.new.out) (codes ": " ++ (name_of c.args.code ++ (10 ∷ []))) c.print_pieces.result (g.O.Sink.state c.print_pieces.new.out) = subst (λ n. Prints (g.O.Sink.state c.print_number-2.new.out) (codes ": " ++ (n ++ (10 ∷ []))) c.print_pieces.result (g.O.Sink.state c.print_pieces.new.out)) c.name.ensures c.print_pieces.ensures in
    prints_place c.args.name.now c.args.line c.args.column c.args.code _ _ c.print_pieces.result (prints_then _ _ _ _ _ c.print_pieces.result first (prints_then _ _ _ _ _ c.print_pieces.result second (prints_then _ _ _ _ _ c.print_pieces.result third last)))
