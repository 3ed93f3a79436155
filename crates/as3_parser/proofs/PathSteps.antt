-- How a path is read.
use Rattle.std.proofs.Common.{◌≡◌, ℕ, ◌-◌, ◌<◌, List, [], ◌∷◌, ◌++◌, length, Some, refl, sym, ap, subst, ◌∙◌, arith}
use Rattle.as3_lexer.specs.declared.mark.Mark.TheVariants as mark
use Rattle.as3_lexer.specs.declared.token.Token.{Token}
use Rattle.as3_lexer.specs.declared.token.TokenKind.TheVariants as kind
use Rattle.as3_parser.specs.declared.tree.Lexeme.{Lexeme}
use Rattle.as3_parser.specs.Grammar.{Symbol, Part}
use Rattle.as3_parser.specs.Productions as production
use Rattle.as3_parser.specs.Trees.{lexeme_of, IsPath}
use Rattle.as3_parser.specs.Trees as trees
use Rattle.as3_parser.specs.Ahead.{Ahead, kinds_from, kind_at, Begun, Skips, Lexed, IsThere, Reads}
use Rattle.as3_parser.specs.Forms.{part}
use Rattle.as3_parser.proofs.NamedKinds.{same_kind}
use Rattle.as3_parser.proofs.Reach.{pass, there_is, next_is, kind_is, single, no_more, use_next, joined, gets_on}

opened : {s : List Symbol} {w : List ℕ} → Ahead (Part production.path ∷ s) w → Ahead (production.identifier ∷ Part production.more_names ∷ s) w
opened a = single production.path (production.identifier ∷ part production.more_names) a refl (λ k. refl)

pub path_there : {source : List ℕ} {ts : List Token} {i d : ℕ} → Begun source ts i d (part production.path) → IsThere source ts i
path_there b = there_is b.cut (opened b.ahead)

pub path_first : {source : List ℕ} {ts : List Token} {i j : ℕ} {l : Lexeme} {v : List Lexeme} → Lexed source ts i j l → v ≡ l ∷ [] → Reads ts i j (part production.path) (part production.more_names) (IsPath source v)
path_first {source = source} {v = v} l is = record {
  from = λ s a.
      let p = pass (opened a) l.skips in
      record {
        span = p.token ∷ [];
        piece = p.piece;
        is = subst (λ y. IsPath source y (p.token ∷ [])) (sym (is ∙ ap (λ y. y ∷ []) (l.is p.token p.at))) (trees.name p.token (same_kind _ kind.Identifier p.number refl));
        ahead = p.ahead;
      };
}

more_opened : {s : List Symbol} (ts : List Token) (i : ℕ) → Ahead (Part production.more_names ∷ s) (kinds_from ts i) → kind_at ts i ≡ Some (kind.Mark mark.Dot) → Ahead (production.sign mark.Dot ∷ production.identifier ∷ Part production.more_names ∷ s) (kinds_from ts i)
more_opened ts i a dot = use_next production.more_names _ 0 (production.sign mark.Dot ∷ production.identifier ∷ part production.more_names) a (next_is ts i (kind.Mark mark.Dot) dot) refl refl

pub path_more_there : {source : List ℕ} {ts : List Token} {i j k d : ℕ} {P : List Token → Type 0} → Begun source ts i d (part production.path) → Reads ts i j (part production.path) (part production.more_names) P → kind_at ts j ≡ Some (kind.Mark mark.Dot) → Skips ts j k → IsThere source ts k
path_more_there b r dot skips =
    let one = r.from b.behind b.ahead in
    there_is b.cut (pass (more_opened _ _ one.ahead dot) skips).ahead

pub path_more : {source : List ℕ} {ts : List Token} {i j k n : ℕ} {l : Lexeme} {v w : List Lexeme} → Reads ts i j (part production.path) (part production.more_names) (IsPath source v) → kind_at ts j ≡ Some (kind.Mark mark.Dot) → Skips ts j k → Lexed source ts k n l → w ≡ v ++ l ∷ [] → Reads ts i n (part production.path) (part production.more_names) (IsPath source w)
path_more {source = source} {v = v} r dot skips l is = record {
  from = λ s a.
      let one = r.from s a in
      let p = pass (more_opened _ _ one.ahead dot) skips in
      let q = pass p.ahead l.skips in
      let w = one.span ++ (p.token ∷ q.token ∷ []) in
      record {
        span = w;
        piece = joined one.piece (joined p.piece q.piece);
        is = subst (λ y. IsPath source y w) (sym (is ∙ ap (λ y. v ++ y ∷ []) (l.is q.token q.at))) (trees.part p.token q.token (same_kind _ (kind.Mark mark.Dot) p.number refl) (same_kind _ kind.Identifier q.number refl) one.is);
        ahead = q.ahead;
      };
}

pub path_ends : {ts : List Token} {i j : ℕ} {P : List Token → Type 0} → Reads ts i j (part production.path) (part production.more_names) P → (kind_at ts j ≡ Some (kind.Mark mark.Dot) → ⊥) → Reads ts i j (part production.path) [] P
path_ends {ts = ts} {j = j} r other = record {
  from = λ s a.
      let one = r.from s a in
      record { span = one.span; piece = one.piece; is = one.is; ahead = no_more production.more_names _ (production.identifier ∷ part production.more_names) one.ahead refl refl (λ k. refl) (λ q. other (kind_is ts j (kind.Mark mark.Dot) q refl)) };
}

pub path_gets_on : {source : List ℕ} {ts : List Token} {i j k n d : ℕ} {l : Lexeme} {P : List Token → Type 0} → Begun source ts i d (part production.path) → Reads ts i j (part production.path) (part production.more_names) P → kind_at ts j ≡ Some (kind.Mark mark.Dot) → Skips ts j k → Lexed source ts k n l → length ts - n < length ts - j
path_gets_on b r dot skips l =
    let one = r.from b.behind b.ahead in
    let p = pass (more_opened _ _ one.ahead dot) skips in
    let q = pass p.ahead l.skips in
    gets_on (joined p.piece q.piece) (omega arith)
