-- File by file.
use Rattle.std.proofs.Common.{◌∙◌, ◌++◌, [], ◌∷◌, ap, sym, append_assoc}
use Rattle.std.proofs.lemmas.List.{nil_from_length}
use Rattle.source_sites.specs.Names.{class_of}
use Rattle.named_sources.specs.Named.{bases_read}
use Rattle.named_sources.proofs.SameSources.{no_file_left}
use Rattle.named_sources.proofs.bases.bases_by_content.Goals as goal

pub loop-file-preserved : goal.loop-file-preserved
loop-file-preserved c =
    let classes = c.args.classes.now in
    let had = c.loop-file.bases in
    let here = c.in-Some-split_first.here.now in
    let others = c.in-Some-split_first.others.now in
    let behind = bases_read classes others c.in-Some.behind.now in
    ap (λ bs. bs ++ behind) c.in_ok-push.ensures.ok
    ∙ (append_assoc had (c.class_meant.result ∷ []) behind
    ∙ (ap (λ b. had ++ b ∷ behind) (c.class_meant.ensures ∙ ap class_of c.in_ok-base.ensures)
    ∙ (ap (λ fs. had ++ bases_read classes (here ∷ others) fs) (sym c.in-Some.ensures.cases.0)
    ∙ (ap (λ cs. had ++ bases_read classes cs c.loop-file.rest.now) (sym c.in-Some-split_first.ensures.cases.0) ∙ c.loop-file.invariant))))

pub returns : goal.returns
returns c =
    no_file_left c.args.classes.now c.loop-file.bases c.loop-file.named.now (bases_read c.args.classes.now c.args.classes.now c.args.files.now) c.loop-file.rest.now c.loop-file.invariant
    (nil_from_length c.loop-file.rest.now c.in_default.ensures.cases)
