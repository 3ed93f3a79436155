-- The first word of access.
use Rattle.std.proofs.Common.{◌≡◌, ◌∙◌, List, ◌∷◌, sym, ap, true, false}
use Rattle.std.specs.Prelude.{if◌then◌else◌}
use Rattle.as3_parser.specs.declared.tree.Modifier.{Modifier}
use Rattle.source_sites.specs.Functions.{access_of, is_access}

pub access_here : (words others : List Modifier) (word : Modifier) → words ≡ word ∷ others → is_access word ≡ true → word ≡ access_of words
access_here words others word e access = sym (ap access_of e ∙ ap (λ b. if b then word else access_of others) access)

pub access_behind : (words others : List Modifier) (word : Modifier) → words ≡ word ∷ others → is_access word ≡ false → access_of words ≡ access_of others
access_behind words others word e access = ap access_of e ∙ ap (λ b. if b then word else access_of others) access
