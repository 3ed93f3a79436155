-- A class of the catalog.
use Rattle.std.proofs.Common.{◌∙◌, ap, sym}
use Rattle.class_table.specs.Sent.{event_declared_by}
use Rattle.class_table.proofs.event_look_ups.own_event.Goals as goal

pub returns-in-Native : goal.returns-in-Native
returns-in-Native c = c.event_of_native.ensures c.args.table.now ∙ ap (λ class. event_declared_by c.args.table.now class c.args.name.now) (sym c.in-Native.is)
