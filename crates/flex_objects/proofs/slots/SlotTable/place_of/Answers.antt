use Rattle.std.proofs.Common.{◌∙◌, ap, sym, map}
use Rattle.std.specs.Str.{bytes_eq}
use Rattle.std.specs.String.{string_bytes}
use Rattle.flex_world.specs.Objects.{Field}
use Rattle.flex_objects.specs.Properties.{place_of}
use Rattle.flex_objects.specs.Tables.{entry_field}
use Rattle.flex_objects.proofs.Positions.{same_place}
use Rattle.flex_objects.proofs.Tables.{bytes_eq_symmetric, place_is_position}
use Rattle.flex_objects.proofs.slots.SlotTable.place_of.Goals as goal

pub returns : goal.returns
returns c =
    let key = c.args.key.now in
    let es = c.self.inside.slots.entries in
    c.get_index_of.ensures.index
    ∙ sym (same_place entry_field (λ e. e.0) (λ (f : Field). bytes_eq f.name key) (λ k. bytes_eq key (string_bytes k)) (λ e. bytes_eq_symmetric (string_bytes e.0) key) es)
    ∙ sym (place_is_position key (map entry_field es)) ∙ ap (place_of key) c.self.view_is
