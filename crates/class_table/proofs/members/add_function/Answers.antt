-- A constructor, or a method.
use Rattle.std.proofs.Common.{◌∙◌, ◌++◌, [], ◌∷◌, ap, sym, map, append-nil, false}
use Rattle.std.specs.Prelude.{if◌then◌else◌}
use Rattle.std.proofs.lemmas.List.{map-append}
use Rattle.source_sites.specs.Members.{Owned, A_method, signature_of}
use Rattle.source_sites.specs.Types.{Signature}
use Rattle.source_sites.specs.Texts.{Text}
use Rattle.as3_types.specs.declared.table.OwnMember.{OwnMember}
use Rattle.as3_types.specs.declared.table.OwnKind.TheVariants as own
use Rattle.as3_types.specs.Tables.{owned_of}
use Rattle.as3_types.specs.Types.{function_of, signature_as}
use Rattle.class_table.proofs.members.add_function.Goals as goal

pub returns-then-is_constructor : goal.returns-then-is_constructor
returns-then-is_constructor c =
    let had = map owned_of c.args.owned.now in
    λ locals. let s : Signature = signature_of c.args.code.now.classes.now c.args.code.now.here.now (function_of c.args.name.now c.args.parameters.now c.args.given.now locals) in
    let method : Owned = record { name = c.args.name.now.text; access = c.args.access; kind = A_method (record { name = c.args.name.now.text; signature = s; native = false }) } in
    sym (append-nil had) ∙ ap (λ b. had ++ (if b then [] else method ∷ [])) (sym c.if-is_constructor.true ∙ c.is_constructor.ensures c.args.parameters.now c.args.given.now locals)

pub returns : goal.returns
returns c =
    let had = map owned_of c.args.owned.now in
    λ locals. let s : Signature = signature_of c.args.code.now.classes.now c.args.code.now.here.now (function_of c.args.name.now c.args.parameters.now c.args.given.now locals) in
    let method : Text → Signature → Owned = λ n t. record { name = n; access = c.args.access; kind = A_method (record { name = n; signature = t; native = false }) } in
    let member : OwnMember = record { name = c.in_ok-name.name; access = c.args.access; kind = own.Method c.in_ok-taken.taken } in
    ap (map owned_of) c.in_ok-push.ensures.ok
    ∙ (map-append owned_of c.args.owned.now (member ∷ [])
    ∙ (ap (λ n. had ++ method n (signature_as c.in_ok-taken.taken) ∷ []) c.in_ok-name.ensures.cases
    ∙ (ap (λ t. had ++ method c.args.name.now.text t ∷ []) (c.in_ok-taken.ensures locals)
    ∙ ap (λ b. had ++ (if b then [] else method c.args.name.now.text s ∷ [])) (sym c.if-is_constructor.false ∙ c.is_constructor.ensures c.args.parameters.now c.args.given.now locals))))
