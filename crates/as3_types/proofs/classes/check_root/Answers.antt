-- Rule by rule.
use Rattle.std.proofs.Common.{[], ◌∷◌}
use Rattle.source_sites.specs.Sites.{Rule}
use Rattle.class_sites.specs.ClassSites.{base_cycle, duplicate_class, not_application, unknown_base, wrong_root}
use Rattle.as3_types.specs.Meanings.{meaning_of}
use Rattle.as3_types.proofs.Ordered.{before}
use Rattle.as3_types.proofs.classes.check_root.Goals as goal

pub returns : goal.returns
returns c =
    let a : Rule = duplicate_class c.args.classes.now c.args.file c.args.here.now c.args.at in
    let b : Rule = unknown_base c.args.at (meaning_of c.args.base) in
    let d : Rule = wrong_root c.args.classes.now c.args.bases.now c.args.at (meaning_of c.args.base) in
    let e : Rule = base_cycle c.args.bases.now c.args.file c.args.at in
    let f : Rule = not_application c.args.bases.now c.args.file c.args.at in
    before c.args.file a (b ∷ d ∷ e ∷ f ∷ []) c.duplicate_class-duplicate.result c.or-3.result c.or-4.result c.or-4.ensures c.duplicate_class-duplicate.ensures
    (before c.args.file b (d ∷ e ∷ f ∷ []) c.unknown_base-unknown.result c.or-2.result c.or-3.result c.or-3.ensures c.unknown_base-unknown.ensures
    (before c.args.file d (e ∷ f ∷ []) c.wrong_root-wrong.result c.or.result c.or-2.result c.or-2.ensures c.wrong_root-wrong.ensures
    (before c.args.file e (f ∷ []) c.base_cycle-cycle.result c.not_application-main.result c.or.result c.or.ensures c.base_cycle-cycle.ensures c.not_application-main.ensures)))
