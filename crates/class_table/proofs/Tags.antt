-- Metadata of a name.
use Rattle.std.proofs.Common.{◌≡◌, List, [], ◌∷◌, ap, refl, map, bytes_eq, ◌||◌}
use Rattle.std.specs.List.{list_any}
use Rattle.as3_parser.specs.declared.tree.MetadataTag as t
use Rattle.source_sites.specs.Functions.{has_metadata}
use Rattle.source_sites.specs.Texts.{Text}
use Rattle.source_sites.specs.Trees.{tag_of}

pub named_tag : (name : Text) (tags : List t.MetadataTag) → has_metadata name (map tag_of tags) ≡ list_any (λ (tag : t.MetadataTag). bytes_eq tag.name.text name) tags
named_tag name [] = refl
named_tag name (tag ∷ tags) = ap (λ b. bytes_eq tag.name.text name || b) (named_tag name tags)
