-- Rule by rule.
use Rattle.std.proofs.Common.{◌∷◌, List}
use Rattle.source_sites.specs.Sites.{Rule}
use Rattle.source_sites.specs.Trees.{class_file_of, path_of}
use Rattle.class_sites.specs.ClassSites.{base_cycle, base_sites, duplicate_class, wrong_class_name, wrong_package}
use Rattle.as3_types.specs.Meanings.{meaning_of}
use Rattle.as3_types.proofs.Ordered.{before}
use Rattle.as3_types.proofs.classes.check_class_file.Goals as goal

pub returns : goal.returns
returns c =
    let at = c.args.parsed.now.file.class.name.span.start in
    let a : Rule = wrong_package c.args.here.now (class_file_of c.args.parsed.now) in
    let b : Rule = wrong_class_name c.args.here.now (class_file_of c.args.parsed.now) in
    let d : Rule = duplicate_class c.args.classes.now c.args.file c.args.here.now at in
    let e : Rule = base_cycle c.args.bases.now c.args.file at in
    let rest : List Rule = base_sites c.args.classes.now (path_of c.args.parsed.now.file.class.base) (meaning_of c.args.base) in
    before c.args.file a (b ∷ d ∷ e ∷ rest) c.in_ok-package.package c.or-3.result c.or-4.result c.or-4.ensures c.in_ok-package.ensures
    (before c.args.file b (d ∷ e ∷ rest) c.wrong_class_name-name.result c.or-2.result c.or-3.result c.or-3.ensures c.wrong_class_name-name.ensures
    (before c.args.file d (e ∷ rest) c.duplicate_class-duplicate.result c.or.result c.or-2.result c.or-2.ensures c.duplicate_class-duplicate.ensures
    (before c.args.file e rest c.base_cycle-cycle.result c.check_base-base.result c.or.result c.or.ensures c.base_cycle-cycle.ensures c.check_base-base.ensures)))
