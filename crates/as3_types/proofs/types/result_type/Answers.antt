-- A function without a written result.
use Rattle.std.proofs.Common.{◌∙◌, ap, sym}
use Rattle.std.specs.Prelude.{if◌then◌else◌}
use Rattle.source_sites.specs.Types.{ValueType}
use Rattle.source_sites.specs.Members.{result_type}
use Rattle.source_sites.specs.Trees.{result_of}
use Rattle.as3_types.specs.Types.{function_of}
use Rattle.as3_types.proofs.types.result_type.Goals as goal

pub returns-in-None : goal.returns-in-None
returns-in-None c =
    λ parameters locals. ap (λ b. if b then ValueType.Void else ValueType.Unknown) (sym c.if-is_constructor.true ∙ c.is_constructor.ensures parameters c.args.given.now locals)
    ∙ ap (λ given. result_type c.args.classes.now c.args.here.now (function_of c.args.name.now parameters c.args.given.now locals) (result_of given)) (sym c.in-None.is)

pub returns-in-None-2 : goal.returns-in-None-2
returns-in-None-2 c =
    λ parameters locals. ap (λ b. if b then ValueType.Void else ValueType.Unknown) (sym c.if-is_constructor.false ∙ c.is_constructor.ensures parameters c.args.given.now locals)
    ∙ ap (λ given. result_type c.args.classes.now c.args.here.now (function_of c.args.name.now parameters c.args.given.now locals) (result_of given)) (sym c.in-None-2.is)
