-- A property, a method, or neither.
use Rattle.component_catalog.specs.Methods.{row_of}
use Rattle.as3_types.specs.Tables.{table_of}
use Rattle.as3_types.proofs.Natives.{a_method, a_property, no_member}
use Rattle.as3_types.proofs.look_ups.native_member.Goals as goal

pub returns-in-Some : goal.returns-in-Some
returns-in-Some c = λ table. a_property c.args.name.now (table_of table) c.args.class c.in-Some.row c.in-Some.ensures

pub returns-in-Some-own_method : goal.returns-in-Some-own_method
returns-in-Some-own_method c =
    λ table. a_method c.args.name.now (table_of table) c.args.class (row_of c.in-Some-own_method.method) c.in_default.ensures c.in-Some-own_method.ensures

pub returns-in-None : goal.returns-in-None
returns-in-None c = λ table. no_member c.args.name.now (table_of table) c.args.class c.in_default.ensures c.in-None.ensures
