-- By what the base has.
use Rattle.std.proofs.Common.{◌∙◌, ap, sym}
use Rattle.std.specs.Prelude.{None, if◌then◌else◌}
use Rattle.component_catalog.specs.Events.{event_of}
use Rattle.class_table.proofs.NativeEvents.{its_own}
use Rattle.class_table.proofs.event_look_ups.native_event.Goals as goal

pub returns-then-inherits_event : goal.returns-then-inherits_event
returns-then-inherits_event c =
    ap (λ b. if b then None else event_of c.args.class c.args.name.now) (sym c.if-inherits_event.true ∙ c.inherits_event.ensures) ∙ its_own c.args.name.now c.args.class

pub returns-else-inherits_event : goal.returns-else-inherits_event
returns-else-inherits_event c =
    c.event_of.ensures ∙ (ap (λ b. if b then None else event_of c.args.class c.args.name.now) (sym c.if-inherits_event.false ∙ c.inherits_event.ensures) ∙ its_own c.args.name.now c.args.class)
