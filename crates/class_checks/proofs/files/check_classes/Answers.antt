-- The classes, and then the members.
use Rattle.std.proofs.Common.{sym}
use Rattle.as3_types.specs.Tables.{table_of}
use Rattle.class_checks.proofs.Seen.{first_phase, second_phase}
use Rattle.class_checks.proofs.files.check_classes.Goals as goal

pub returns-then-is_some : goal.returns-then-is_some
returns-then-is_some c =
    λ s knows are. first_phase s (table_of c.args.table.now) c.args.files.now are c.in_ok-site.site (c.in_ok-site.ensures s knows) (sym c.if-is_some.ensures)

pub returns : goal.returns
returns c =
    λ s knows are. second_phase s (table_of c.args.table.now) c.args.files.now are c.in_ok-site.site (c.in_ok-site.ensures s knows) c.in_ok-behind.behind (sym c.if-is_some.ensures)
    (c.in_ok-behind.ensures s knows)
