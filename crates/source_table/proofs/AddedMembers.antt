-- What members, items and metadata that are put together add.
use Rattle.std.proofs.Common.{◌≡◌, ◌∙◌, List, [], ◌∷◌, ◌++◌, refl, ap, flat_map, bytes_eq, codes, ◌||◌}
use Rattle.std.specs.List.{list_any}
use Rattle.std.proofs.lemmas.Grind.{flat_map-append}
use Rattle.std.proofs.lemmas.List.Folds.{list_any-append}
use Rattle.as3_parser.specs.declared.tree.Metadata.{Metadata}
use Rattle.source_sites.specs.Functions.{is_bindable, member_in}
use Rattle.source_sites.specs.Members.{owned_declared}
use Rattle.source_sites.specs.Syntax.{Item, Member, MetadataTag}
use Rattle.source_sites.specs.Trees.{tags_of}
use Rattle.class_table.specs.declared.scope.ClassCode.{ClassCode}
use Rattle.source_table.specs.Members.{has_bindable, is_bindable_class, items_added, members_added}

module _ (code : ClassCode) where
  pub members_together : (xs ys : List Member) → members_added code (xs ++ ys) ≡ members_added code xs ++ members_added code ys
  members_together xs ys = flat_map-append (λ (m : Member). owned_declared code.classes.now code.here.now code.bindable m m.declares) xs ys

  pub items_together : (xs ys : List Item) → items_added code (xs ++ ys) ≡ items_added code xs ++ items_added code ys
  items_together xs ys = ap (members_added code) (flat_map-append member_in xs ys) ∙ members_together (flat_map member_in xs) (flat_map member_in ys)

tags_together : (xs ys : List MetadataTag) → is_bindable (xs ++ ys) ≡ (is_bindable xs || is_bindable ys)
tags_together xs ys = list_any-append (λ (m : MetadataTag). bytes_eq m.name (codes "Bindable")) xs ys

pub bindable_by_each : (metadata : List Metadata) → is_bindable_class metadata ≡ list_any has_bindable metadata
bindable_by_each [] = refl
bindable_by_each (m ∷ metadata) =
    tags_together (tags_of m) (flat_map tags_of metadata) ∙ ap (λ b. is_bindable (tags_of m) || b) (bindable_by_each metadata)
