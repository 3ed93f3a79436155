use Rattle.std.proofs.lemmas.Option.{slice_get_past, slice_get_read}
use Rattle.std.proofs.Common.{refl, rules, ltb}
use Rattle.std.proofs.lemmas.List.Sorted.{IsPartitionPoint-from_clause, IsPartitionedBy-ltb}
use Rattle.avm2_program.proofs.Targets.{IsPoint, stands, stands_behind, stands_nowhere}
use Rattle.avm2_program.proofs.branches.number_at.Goals as goal

pub returns-in-Some : goal.returns-in-Some
returns-in-Some c =
    let parted = IsPartitionedBy-ltb (λ d. d.place) _ c.args.place c.requires in
    let point : IsPoint c.args.code.now c.args.place c.partition_point-number.result = IsPartitionPoint-from_clause (λ d. ltb d.place c.args.place) _ _ c.partition_point-number.ensures.partitioned parted (λ a r q k. search rules) in
    stands _ _ _ point c.in-Some.d.now (slice_get_read c.args.code.now _ c.partition_point-number.result c.in-Some.d.now refl (search rules) (search rules)) c.if-d-place.true

pub returns-in_default : goal.returns-in_default
returns-in_default c =
    let parted = IsPartitionedBy-ltb (λ d. d.place) _ c.args.place c.requires in
    let point : IsPoint c.args.code.now c.args.place c.partition_point-number.result = IsPartitionPoint-from_clause (λ d. ltb d.place c.args.place) _ _ c.partition_point-number.ensures.partitioned parted (λ a r q k. search rules) in
    stands_behind _ _ _ point c.requires c.in-Some.d.now (slice_get_read c.args.code.now _ c.partition_point-number.result c.in-Some.d.now refl (search rules) (search rules)) c.if-d-place.false

pub returns-in_default-2 : goal.returns-in_default-2
returns-in_default-2 c =
    let parted = IsPartitionedBy-ltb (λ d. d.place) _ c.args.place c.requires in
    let point : IsPoint c.args.code.now c.args.place c.partition_point-number.result = IsPartitionPoint-from_clause (λ d. ltb d.place c.args.place) _ _ c.partition_point-number.ensures.partitioned parted (λ a r q k. search rules) in
    stands_nowhere _ _ _ point (slice_get_past c.args.code.now c.partition_point-number.result (search rules))
