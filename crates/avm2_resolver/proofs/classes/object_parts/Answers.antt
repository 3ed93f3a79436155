use Rattle.std.proofs.Common.{◌∙◌, ap}
use Rattle.avm2_program.specs.Naming.{naming_with}
use Rattle.avm2_resolver.proofs.Gathered.{fields_are, hidden_are, members_are}
use Rattle.avm2_resolver.proofs.classes.object_parts.Goals as goal

pub returns-clause-members : goal.returns-clause-members
returns-clause-members c =
    ap (λ p. p.0) c.into_parts.ensures
    ∙ (ap (λ o. o.members) c.in_ok-gathered.ensures ∙ members_are (naming_with c.args.abc.now c.args.classes.now) c.args.types.now c.args.class c.requires.types)

pub returns-clause-fields : goal.returns-clause-fields
returns-clause-fields c =
    ap (λ p. p.1) c.into_parts.ensures
    ∙ (ap (λ o. o.fields) c.in_ok-gathered.ensures ∙ fields_are (naming_with c.args.abc.now c.args.classes.now) c.args.types.now c.args.class c.requires.types)

pub returns-clause-hidden : goal.returns-clause-hidden
returns-clause-hidden c =
    ap (λ p. p.2) c.into_parts.ensures
    ∙ (ap (λ o. o.hidden) c.in_ok-gathered.ensures ∙ hidden_are (naming_with c.args.abc.now c.args.classes.now) c.args.types.now c.args.class c.requires.types)
