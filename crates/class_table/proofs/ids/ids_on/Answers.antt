-- A tag whose ids are members.
use Rattle.std.proofs.Common.{◌∙◌, [], ap, sym}
use Rattle.std.specs.Prelude.{Option, option_map, unwrap_or}
use Rattle.source_sites.specs.Types as types
use Rattle.as3_types.specs.Types.{type_of}
use Rattle.class_table.specs.Ids.{ids_named}
use Rattle.class_table.proofs.ids.ids_on.Goals as goal

pub returns : goal.returns
returns c =
    λ at nodes. c.in_ok-owned.ensures
    ∙ (ap (ids_named (type_of c.in-Some.kind)) c.as_slice.ensures
    ∙ ap (λ (o : Option types.ValueType). unwrap_or (option_map (λ type. ids_named type c.args.tag.now.attributes) o) []) (ap (option_map type_of) (sym c.in-Some.is) ∙ c.in_ok-kind.ensures))
