-- By the name.
use Rattle.std.proofs.Common.{◌∙◌, ap, sym}
use Rattle.std.specs.Prelude.{Some, None, if◌then◌else◌}
use Rattle.source_sites.specs.Members.{signature_of}
use Rattle.source_sites.specs.Types.{Signature}
use Rattle.as3_types.specs.Types.{function_of}
use Rattle.class_table.proofs.constructors.if_constructor.Goals as goal

pub returns-then-not-is_constructor : goal.returns-then-not-is_constructor
returns-then-not-is_constructor c =
    λ locals. let s : Signature = signature_of c.args.classes.now c.args.here.now (function_of c.args.name.now c.args.parameters.now c.args.given.now locals) in
    sym (ap (λ b. if b then Some s else None) (sym (c.is_constructor.ensures c.args.parameters.now c.args.given.now locals) ∙ c.if-not-is_constructor.true))

pub returns : goal.returns
returns c =
    λ locals. let s : Signature = signature_of c.args.classes.now c.args.here.now (function_of c.args.name.now c.args.parameters.now c.args.given.now locals) in
    ap Some (c.in_ok-taken.ensures locals) ∙ sym (ap (λ b. if b then Some s else None) (sym (c.is_constructor.ensures c.args.parameters.now c.args.given.now locals) ∙ c.if-not-is_constructor.false))
