use Rattle.std.proofs.Common.{ap, sym, ◌∙◌, unwrap_or}
use Rattle.flex_world.specs.declared.kind.StaticType.TheVariants.{Unnamed}
use Rattle.avm2_program.specs.Naming.{type_named}
use Rattle.avm2_program.proofs.types.named_type.Goals as goal

pub returns-in-Some : goal.returns-in-Some
returns-in-Some c =
    ap (λ r. unwrap_or r Unnamed)
    (sym c.in-Some.is ∙ (c.in_ok-found.ensures ∙ ap (type_named c.args.classes.now) c.in_ok-name.ensures))
