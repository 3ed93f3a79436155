-- A method that the class declares.
use Rattle.std.proofs.Common.{◌∙◌, sym}
use Rattle.component_catalog.specs.Methods.{row_of}
use Rattle.as3_types.proofs.Natives.{declared_method}
use Rattle.as3_types.proofs.look_ups.own_method.Goals as goal

pub returns-then-declares_method : goal.returns-then-declares_method
returns-then-declares_method c =
    declared_method c.args.name.now c.args.class (row_of c.in_ok-found.found) c.in_ok-found.ensures (sym c.declares_method.ensures ∙ c.if-declares_method.true)
