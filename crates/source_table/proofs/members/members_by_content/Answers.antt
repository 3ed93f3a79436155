-- File by file.
use Rattle.std.proofs.Common.{◌∙◌, ◌++◌, [], ◌∷◌, ap, sym, append_assoc, map}
use Rattle.std.proofs.lemmas.List.{map-append, nil_from_length}
use Rattle.as3_types.specs.Tables.{owned_of}
use Rattle.class_table.specs.Ids.{taken_by_each}
use Rattle.source_table.specs.Members.{members_by_content}
use Rattle.source_table.proofs.SameMembers.{no_member_left}
use Rattle.source_table.proofs.members.members_by_content.Goals as goal

pub loop-file-preserved : goal.loop-file-preserved
loop-file-preserved c =
    let classes = c.args.classes.now in
    let constructors = taken_by_each c.args.constructors.now in
    let had = map (map owned_of) c.loop-file.members in
    let here = c.in-Some-split_first.here.now in
    let others = c.in-Some-split_first.others.now in
    let found = c.in_ok-found.found in
    let behind = members_by_content classes constructors others c.in-Some.behind.now in
    ap (λ os. map (map owned_of) os ++ behind) c.in_ok-push.ensures.ok
    ∙ (ap (λ os. os ++ behind) (map-append (map owned_of) c.loop-file.members (found ∷ []))
    ∙ (append_assoc had (map owned_of found ∷ []) behind
    ∙ (ap (λ os. had ++ os ∷ behind) c.in_ok-found.ensures
    ∙ (ap (λ fs. had ++ members_by_content classes constructors (here ∷ others) fs) (sym c.in-Some.ensures.cases.0)
    ∙ (ap (λ cs. had ++ members_by_content classes constructors cs c.loop-file.rest.now) (sym c.in-Some-split_first.ensures.cases.0) ∙ c.loop-file.invariant)))))

pub returns : goal.returns
returns c =
    let constructors = taken_by_each c.args.constructors.now in
    no_member_left c.args.classes.now constructors (map (map owned_of) c.loop-file.members) c.loop-file.named.now
    (members_by_content c.args.classes.now constructors c.args.classes.now c.args.files.now) c.loop-file.rest.now c.loop-file.invariant (nil_from_length c.loop-file.rest.now c.in_default.ensures.cases)
