use Rattle.std.proofs.Common.{◌∙◌, sym, ap, ◌||◌, bytes_eq}
use Rattle.std.specs.List.{list_any}
use Rattle.source_sites.specs.Names.{star}
use Rattle.source_sites.specs.Trees.{step_name}
use Rattle.as3_types.proofs.Stars.{early_name}
use Rattle.as3_types.proofs.words.has_early_star.Goals as goal

-- src/words.rt:125:1
pub returns-else-is_star : goal.returns-else-is_star
returns-else-is_star c =
    c.has_star.ensures
    ∙ sym (early_name step_name star c.args.import.now.first.text c.args.import.now.steps.items c.in-Some.early.now c.in-Some.field-0-0.now (sym c.as_slice.ensures.value ∙ c.in-Some.ensures.cases.0)
    ∙ ap (λ b. b || list_any (λ step. bytes_eq star (step_name step)) c.in-Some.early.now) (ap (bytes_eq star) (sym c.as_str.ensures) ∙ (sym c.is_star.ensures ∙ c.if-is_star.false)))
