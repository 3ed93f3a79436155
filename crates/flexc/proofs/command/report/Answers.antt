use Rattle.std.proofs.Common.{◌++◌, subst}
use Rattle.std.specs.Prelude.{codes}
use Rattle.std.proofs.lemmas.List.{append-nil}
use Rattle.flexc.specs.Command.{Says}
use Rattle.flexc.proofs.command.report.Goals as goal

pub returns-in-CannotRead : goal.returns-in-CannotRead
returns-in-CannotRead g c =
    rw c.in-CannotRead.is
    (subst (λ l. Says 7 (codes "cannot read " ++ l) (g.O.Sink.state c.args.out.now) (g.O.Sink.state c.print_line-in-CannotRead.new.out) c.print_line-in-CannotRead.result) (append-nil c.in-CannotRead.name.now)
    c.print_line-in-CannotRead.ensures)

pub returns-in-ScriptNotYetBuilt : goal.returns-in-ScriptNotYetBuilt
returns-in-ScriptNotYetBuilt g c =
    rw c.in-ScriptNotYetBuilt.is
    (subst (λ d. Says 4 (codes "script:" ++ (d ++ codes ": not yet built")) (g.O.Sink.state c.args.out.now) (g.O.Sink.state c.print_line-in-ScriptNotYetBuilt.new.out) c.print_line-in-ScriptNotYetBuilt.result) c.format-number.ensures.text
    c.print_line-in-ScriptNotYetBuilt.ensures)
