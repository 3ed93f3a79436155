-- A word that doesn't stand again.
use Rattle.std.proofs.Common.{◌≡◌, ◌∙◌, List, ◌∷◌, ap, false, ◌||◌}
use Rattle.std.specs.List.{list_any}
use Rattle.as3_parser.specs.declared.tree.Modifier.{Modifier}
use Rattle.source_sites.specs.Functions.{same_modifier}
use Rattle.class_sites.specs.MemberSites.{has_repeated}

pub stands_once : (words others : List Modifier) (word : Modifier) → words ≡ word ∷ others → list_any (same_modifier word) others ≡ false → has_repeated words ≡ has_repeated others
stands_once words others word e once = ap has_repeated e ∙ ap (λ b. b || has_repeated others) once
