-- File by file.
use Rattle.std.proofs.Common.{◌∙◌, ◌++◌, [], ◌∷◌, ap, sym, append_assoc}
use Rattle.std.specs.Prelude.{option_map}
use Rattle.std.proofs.lemmas.List.{map-append, nil_from_length}
use Rattle.as3_types.specs.Types.{signature_as}
use Rattle.class_table.specs.Ids.{taken_by_each}
use Rattle.source_table.specs.Constructors.{constructors_read}
use Rattle.source_table.proofs.SameConstructors.{no_constructor_left}
use Rattle.source_table.proofs.constructors.constructors_by_content.Goals as goal

pub loop-file-preserved : goal.loop-file-preserved
loop-file-preserved c =
    let classes = c.args.classes.now in
    let had = c.loop-file.constructors in
    let here = c.in-Some-split_first.here.now in
    let others = c.in-Some-split_first.others.now in
    let found = c.in_ok-found.found in
    let behind = constructors_read classes others c.in-Some.behind.now in
    ap (λ cs. taken_by_each cs ++ behind) c.in_ok-push.ensures.ok
    ∙ (ap (λ ts. ts ++ behind) (map-append (option_map signature_as) had (found ∷ []))
    ∙ (append_assoc (taken_by_each had) (option_map signature_as found ∷ []) behind
    ∙ (ap (λ t. taken_by_each had ++ t ∷ behind) c.in_ok-found.ensures
    ∙ (ap (λ fs. taken_by_each had ++ constructors_read classes (here ∷ others) fs) (sym c.in-Some.ensures.cases.0)
    ∙ (ap (λ cs. taken_by_each had ++ constructors_read classes cs c.loop-file.rest.now) (sym c.in-Some-split_first.ensures.cases.0) ∙ c.loop-file.invariant)))))

pub returns : goal.returns
returns c =
    no_constructor_left c.args.classes.now (taken_by_each c.loop-file.constructors) c.loop-file.named.now (constructors_read c.args.classes.now c.args.classes.now c.args.files.now) c.loop-file.rest.now
    c.loop-file.invariant (nil_from_length c.loop-file.rest.now c.in_default.ensures.cases)
