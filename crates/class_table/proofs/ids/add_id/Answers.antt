-- An id, or another attribute.
use Rattle.std.proofs.Common.{◌∙◌, ◌++◌, [], ◌∷◌, ap, sym, map, append-nil, true, false}
use Rattle.std.specs.Prelude.{if◌then◌else◌}
use Rattle.std.proofs.lemmas.List.{map-append}
use Rattle.as3_parser.specs.declared.tree.Modifier.TheVariants as modifier
use Rattle.source_sites.specs.Members.{Owned, A_property, owned_id}
use Rattle.source_sites.specs.Texts.{Text}
use Rattle.as3_types.specs.declared.table.OwnMember.{OwnMember}
use Rattle.as3_types.specs.declared.table.OwnKind.TheVariants as own
use Rattle.as3_types.specs.Tables.{owned_of}
use Rattle.as3_types.specs.Types.{type_of}
use Rattle.class_table.proofs.ids.add_id.Goals as goal

pub returns-then-not-is_name : goal.returns-then-not-is_name
returns-then-not-is_name c =
    let had = map owned_of c.args.owned.now in
    let member : Owned = owned_id [] [] (type_of c.args.kind) c.args.attribute.now in
    sym (append-nil had) ∙ ap (λ b. had ++ (if b then member ∷ [] else [])) (sym c.if-not-is_name.true ∙ c.is_name.ensures)

pub returns : goal.returns
returns c =
    let had = map owned_of c.args.owned.now in
    let id : Text → Owned = λ n. record { name = n; access = modifier.Public; kind = A_property (record { name = n; type = type_of c.args.kind; read_only = false; bindable = true; native = false }) } in
    let member : OwnMember = record { name = c.in_ok-name.name; access = modifier.Public; kind = own.Property c.args.kind true } in
    ap (map owned_of) c.in_ok-push.ensures.ok
    ∙ (map-append owned_of c.args.owned.now (member ∷ [])
    ∙ (ap (λ n. had ++ id n ∷ []) c.in_ok-name.ensures.cases
    ∙ ap (λ b. had ++ (if b then id c.args.attribute.now.value ∷ [] else [])) (sym c.if-not-is_name.false ∙ c.is_name.ensures)))
