-- What is known of a sentence, from its first token to its last.
use Rattle.std.proofs.Common.{◌≡◌, ℕ, List, [], ◌∷◌, ◌++◌, drop, refl, sym, ap, subst, ◌∙◌, arith, append-nil}
use Rattle.std.specs.Prelude.{IsUtf8}
use Rattle.as3_lexer.specs.declared.token.Token.{Token}
use Rattle.as3_lexer.specs.Tokens.{HasTokens}
use Rattle.as3_parser.specs.declared.start.Start.{Start}
use Rattle.as3_parser.specs.declared.start.Start.TheVariants as start
use Rattle.std.specs.Global.{Vec}
use Rattle.as3_parser.specs.declared.tree.Expression.{Expression}
use Rattle.as3_parser.specs.declared.tree.MetadataTag.{MetadataTag}
use Rattle.as3_parser.specs.Grammar.{Symbol, Part}
use Rattle.as3_parser.specs.Judged.{Outcome, Judged, fine, syntax, deep}
use Rattle.as3_parser.specs.Kinds.{kinds_of}
use Rattle.as3_parser.specs.Productions.{the_rules, dangling}
use Rattle.as3_parser.specs.Productions as production
use Rattle.as3_parser.specs.Syntax.{wanted, asked, limit, IsSentence}
use Rattle.as3_parser.specs.Ahead.{Ahead, kinds_from, Begun, Reached, Reads}
use Rattle.as3_parser.specs.Forms.{part, ReadsMetadataTags, ReadsExpression}
use Rattle.as3_parser.specs.Parsed.{IsExpressionOf, IsMetadataOf}
use Rattle.as3_parser.proofs.Ahead.{nothing_left}
use Rattle.as3_parser.proofs.Reach.{single}
use Rattle.as3_parser.proofs.Total.{judged, start_fits}
use Rattle.as3_parser.proofs.TokenCuts.{tokens_cut}

-- a sentence is derived, an `else` being that of the nearest `if`
pub sentence_ahead : (start : Start) (tokens : List Token) → IsSentence start tokens → Ahead (wanted start) (asked start tokens)
sentence_ahead start tokens h = let j = judged start (asked start tokens) in go j.0 j.1 where
  go : (a : Outcome) → Judged the_rules dangling limit (wanted start) (asked start tokens) a → Ahead (wanted start) (asked start tokens)
  go a (fine cs d low) = record { fits = start_fits start; choices = cs; derives = d; shallow = low }
  go a (syntax k f low) = absurd (f.none h.sentence)
  go a (deep k f) = absurd (h.shallow _ (record { place = k; is = f; counted = refl }))

pub from_start : (tokens : List Token) → kinds_of tokens ≡ kinds_from tokens 0
unfolding kinds_from
from_start [] = refl
from_start (t ∷ tokens) = refl

-- the whole is begun
pub begins_whole : (source : List ℕ) (tokens : List Token) (symbols : List Symbol) → IsUtf8 source → HasTokens source tokens → Ahead symbols (kinds_of tokens) → Begun source tokens 0 64 symbols
begins_whole source tokens symbols utf8 has a = record {
  cut = tokens_cut source tokens utf8 has;
  behind = [];
  ahead = subst (λ y. Ahead y (kinds_from tokens 0)) (sym (append-nil symbols)) (subst (λ y. Ahead symbols y) (from_start tokens) a);
  room = omega arith;
}

-- and ended
none_left : (tokens : List Token) (j : ℕ) → kinds_from tokens j ≡ [] → drop j tokens ≡ []
unfolding kinds_from
none_left tokens j is = go (drop j tokens) refl is where
  go : (w : List Token) → drop j tokens ≡ w → kinds_of w ≡ [] → drop j tokens ≡ []
  go [] e h = e
  go (t ∷ w) e h = absurd (cc)

drop_none : (tokens : List Token) → drop 0 tokens ≡ tokens
drop_none [] = refl
drop_none (t ∷ tokens) = refl

pub ends_whole : {tokens : List Token} {j : ℕ} {P : List Token → Type 0} → Reached tokens 0 j [] P → P tokens
ends_whole {tokens = tokens} {j = j} {P = P} r =
    let left = none_left tokens j (nothing_left r.ahead) in
    let all : tokens ≡ r.span = sym (drop_none tokens) ∙ r.piece.splits ∙ ap (λ y. r.span ++ y) left ∙ append-nil r.span in
    subst P (sym all) r.is

-- tokens that are asked for as they are
pub whole_begun : (start : Start) {source : List ℕ} {tokens slice : List Token} → asked start tokens ≡ kinds_of tokens → slice ≡ tokens → IsUtf8 source → HasTokens source tokens → IsSentence start tokens → Begun source slice 0 64 (wanted start)
whole_begun start {source = source} {tokens = tokens} plain same utf8 has h = subst (λ y. Begun source y 0 64 (wanted start)) (sym same) (begins_whole source tokens (wanted start) utf8 has (subst (λ y. Ahead (wanted start) y) plain (sentence_ahead start tokens h)))

pub whole_read : (start : Start) {tokens slice : List Token} {j : ℕ} {P : List Token → Type 0} → asked start tokens ≡ kinds_of tokens → slice ≡ tokens → IsSentence start tokens → Reads slice 0 j (wanted start) [] P → P tokens
whole_read start {tokens = tokens} {slice = slice} {P = P} plain same h r =
    let a = sentence_ahead start tokens h in
    let b : Ahead (wanted start ++ []) (kinds_from slice 0) = subst (λ y. Ahead y (kinds_from slice 0)) (sym (append-nil (wanted start))) (subst (λ y. Ahead (wanted start) y) (plain ∙ from_start tokens ∙ ap (λ y. kinds_from y 0) (sym same)) a) in
    subst P same (ends_whole (r.from [] b))

pub expression_of : {source : List ℕ} {tokens slice : List Token} {j : ℕ} {x : Expression} → slice ≡ tokens → IsSentence start.Expression tokens → ReadsExpression source slice 0 j 0 x → IsExpressionOf source tokens x
expression_of same h r = record { sentence = h; tree = whole_read start.Expression refl same h r.is }

-- metadata is tags
pub metadata_opened : {s : List Symbol} {w : List ℕ} → Ahead (Part production.metadata ∷ s) w → Ahead (Part production.metadata_tags ∷ s) w
metadata_opened a = single production.metadata (Part production.metadata_tags ∷ []) a refl (λ k. refl)

pub metadata_begun : {source : List ℕ} {tokens slice : List Token} → slice ≡ tokens → IsUtf8 source → HasTokens source tokens → IsSentence start.Metadata tokens → Begun source slice 0 limit (part production.metadata_tags)
metadata_begun same utf8 has h =
    let b = whole_begun start.Metadata refl same utf8 has h in
    record { cut = b.cut; behind = b.behind; ahead = metadata_opened b.ahead; room = omega arith }

pub metadata_of : {source : List ℕ} {tokens slice : List Token} {j : ℕ} (v : Vec MetadataTag) → slice ≡ tokens → IsSentence start.Metadata tokens → ReadsMetadataTags source slice 0 j v → IsMetadataOf source tokens (record { tags = v })
metadata_of v same h r = record { sentence = h; tree = whole_read start.Metadata refl same h (record { from = λ s a. r.is.from s (metadata_opened a) }) }
