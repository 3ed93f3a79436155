-- The parameters, and then the result.
use Rattle.std.proofs.Common.{◌∙◌, ap, map}
use Rattle.source_sites.specs.Types.{Signature, ValueType}
use Rattle.as3_types.specs.Types.{type_of, type_of_parameter}
use Rattle.as3_types.proofs.Typed.{types_of_parameters}
use Rattle.as3_types.proofs.types.signature_of.Goals as goal
use Rattle.std.specs.Prelude.{List}

pub returns : goal.returns
returns c =
    let given : List ValueType → Signature = λ ts. record { parameters = ts; optional = 0; result = type_of c.in_ok-result.result } in
    let giving : ValueType → Signature = λ t. record { parameters = map (type_of_parameter c.args.classes.now c.args.here.now) c.args.parameters.now; optional = 0; result = t } in
    λ locals. ap given c.in_ok-types.ensures
    ∙ (ap giving (c.in_ok-result.ensures c.args.parameters.now locals)
    ∙ types_of_parameters c.args.classes.now c.args.here.now c.args.name.now c.args.parameters.now c.args.given.now locals)
