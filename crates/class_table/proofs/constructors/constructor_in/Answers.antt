-- A function.
use Rattle.std.proofs.Common.{◌∙◌, ap, sym}
use Rattle.source_sites.specs.Trees.{declares_of, locals_of_body}
use Rattle.as3_types.specs.Types.{function_of}
use Rattle.class_table.specs.Columns.{constructor_declared, taken_by}
use Rattle.class_table.proofs.FirstConstructor.{of_function}
use Rattle.class_table.proofs.constructors.constructor_in.Goals as goal

pub returns-in_ok-taken-in-Method : goal.returns-in_ok-taken-in-Method
returns-in_ok-taken-in-Method c =
    let classes = c.args.classes.now in
    let here = c.args.here.now in
    let m = c.in-Method in
    let locals = locals_of_body m.field-3.items in
    c.in_ok-taken-in-Method.ensures locals
    ∙ (ap (λ ps. taken_by classes here (function_of m.name ps m.given locals)) c.as_slice-parameters.ensures.value
    ∙ (of_function classes here (function_of m.name m.parameters.items m.given locals) ∙ ap (λ k. constructor_declared classes here (declares_of k)) (sym m.is)))
