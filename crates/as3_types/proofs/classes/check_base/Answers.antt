-- Both rules of a base.
use Rattle.std.proofs.Common.{◌∙◌, [], ◌∷◌, ap, sym}
use Rattle.source_sites.specs.Names.{path_at}
use Rattle.source_sites.specs.Sites.{Rule, first_site}
use Rattle.source_sites.specs.Trees.{path_of}
use Rattle.class_sites.specs.ClassSites.{base_sites, unknown_base, wrong_base}
use Rattle.as3_types.specs.Meanings.{meaning_of}
use Rattle.as3_types.proofs.Ordered.{before}
use Rattle.as3_types.proofs.classes.check_base.Goals as goal

pub returns-in-Some : goal.returns-in-Some
returns-in-Some c =
    let at = c.start_of-at.result in
    let a : Rule = unknown_base at (meaning_of c.args.base) in
    let b : Rule = wrong_base c.args.classes.now at (meaning_of c.args.base) in
    before c.args.file a (b ∷ []) c.unknown_base.result c.wrong_base.result c.or.result c.or.ensures c.unknown_base.ensures c.wrong_base.ensures
    ∙ (ap (λ n. first_site c.args.file (unknown_base n (meaning_of c.args.base) ∷ wrong_base c.args.classes.now n (meaning_of c.args.base) ∷ [])) (c.start_of-at.ensures ∙ ap path_at c.as_slice.ensures.value)
    ∙ ap (λ p. first_site c.args.file (base_sites c.args.classes.now (path_of p) (meaning_of c.args.base))) (sym c.in-Some.is))
