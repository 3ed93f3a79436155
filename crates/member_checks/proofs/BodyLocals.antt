-- The local variables of statements, part by part.
use Rattle.std.proofs.Common.{◌≡◌, ◌∙◌, List, [], ◌∷◌, ◌++◌, refl, ap, sym, true, false, Vec, Global}
use Rattle.std.specs.Prelude.{Option, is_some}
use mathlib.Core.Former.{Count}
use Rattle.as3_parser.specs.declared.tree.Span.{Span}
use Rattle.as3_parser.specs.declared.tree.Statement.{Statement, Block, Block', Row_of-Statement, end_of-Statement, more_of-Statement, items-the_row-Statement, items_hidden-the_row-Statement-0}
use Rattle.source_sites.specs.declared.site.Site.{Site}
use Rattle.source_sites.specs.Sites.{first_site}
use Rattle.source_sites.specs.Syntax.{TypedName}
use Rattle.source_sites.specs.Trees.{locals_in, locals_of, locals_of_body}
use Rattle.member_checks.specs.declared.scope.ClassScope.{ClassScope}
use Rattle.member_checks.specs.CodeRules.{local_rules, type_rule}
use Rattle.member_checks.proofs.Walks.{first_fails, first_holds}

abbrev row_of : Statement → (n : Count) × Row_of-Statement n
row_of (Block' span shape row) = (_, row)
row_of _ = (_, end_of-Statement)

in_row : (n : _) (row : Row_of-Statement n) → locals_in row ≡ locals_of_body (items-the_row-Statement n row)
in_row n end_of-Statement = refl
in_row n (more_of-Statement s rest) = ap (λ vs. locals_of s ++ vs) (in_row _ rest)

pub locals_of_block : (span : Span) (v : Vec Statement Global) → locals_of (Block span v) ≡ locals_of_body v.items
locals_of_block span v = let row = row_of (Block span v) in in_row row.0 row.1 ∙ ap locals_of_body (items_hidden-the_row-Statement-0 v)

module _ (s : ClassScope) where
  abbrev pub of_locals : List TypedName → Option Site
  of_locals vs = first_site s.file (local_rules s vs)

  of_two : (xs ys : List TypedName) → local_rules s (xs ++ ys) ≡ local_rules s xs ++ local_rules s ys
  of_two [] ys = refl
  of_two (x ∷ xs) ys = ap (λ rules. type_rule s x.type_name ∷ rules) (of_two xs ys)

  -- a type of the first variables isn't known, or each is
  pub fails_first : (xs ys all : List TypedName) (x : Option Site) → all ≡ xs ++ ys → x ≡ of_locals xs → is_some x ≡ true → x ≡ of_locals all
  fails_first xs ys all x is e some =
      first_fails s.file (local_rules s xs) (local_rules s ys) x e some ∙ ap (first_site s.file) (sym (of_two xs ys) ∙ ap (local_rules s) (sym is))

  pub holds_first : (xs ys all : List TypedName) (x : Option Site) → all ≡ xs ++ ys → x ≡ of_locals xs → is_some x ≡ false → of_locals ys ≡ of_locals all
  holds_first xs ys all x is e none =
      first_holds s.file (local_rules s xs) (local_rules s ys) x (of_locals ys) e none refl ∙ ap (first_site s.file) (sym (of_two xs ys) ∙ ap (local_rules s) (sym is))
