-- A keyword that is written so.
use Rattle.std.proofs.Common.{◌≡◌, List, [], ◌∷◌, refl, true, false, ◌||◌, cond, bytes_eq}
use Rattle.std.specs.Prelude.{Some}
use Rattle.std.specs.List.{find, list_any}
use Rattle.as3_lexer.specs.declared.keyword.Keyword.{Keyword}
use Rattle.as3_lexer.specs.Spelling.{keyword_spelling}
use Rattle.source_sites.specs.Texts.{Text, is_there}

pub any_found : (text : Text) (ks : List Keyword) → list_any (λ k. bytes_eq (keyword_spelling k) text) ks ≡ is_there (find (λ k. bytes_eq (keyword_spelling k) text) ks)
any_found text [] = refl
any_found text (k ∷ ks) =
    elim (bytes_eq (keyword_spelling k) text) as (λ b. (b || list_any (λ k. bytes_eq (keyword_spelling k) text) ks) ≡ is_there (cond b (Some k) (find (λ k. bytes_eq (keyword_spelling k) text) ks))) [
      | true ↦ refl
      | false ↦ any_found text ks
    ]
