-- How metadata is read.
use Rattle.std.proofs.Common.{◌≡◌, inl, inr, ℕ, ◌-◌, ◌<◌, List, [], ◌∷◌, ◌++◌, length, Some, None, refl, sym, subst, arith}
use Rattle.std.specs.Global.{Vec}
use Rattle.as3_lexer.specs.declared.mark.Mark.TheVariants as mark
use Rattle.as3_lexer.specs.declared.token.Token.{Token}
use Rattle.as3_lexer.specs.declared.token.TokenKind.TheVariants as kind
use Rattle.as3_parser.specs.declared.tree.Span.{Span}
use Rattle.as3_parser.specs.declared.tree.Lexeme.{Lexeme}
use Rattle.as3_parser.specs.declared.tree.MetadataArgument.{MetadataArgument}
use Rattle.as3_parser.specs.declared.tree.MetadataTag.{MetadataTag}
use Rattle.as3_parser.specs.Grammar.{Symbol, Part}
use Rattle.as3_parser.specs.Productions as production
use Rattle.as3_parser.specs.Trees.{span_of, lexeme_of}
use Rattle.as3_parser.specs.Spans.{span_between}
use Rattle.as3_parser.specs.Metadata.{IsArgument, AreArguments, AreClosed, IsTag, AreTags}
use Rattle.as3_parser.specs.Metadata as is
use Rattle.as3_parser.specs.Ahead.{Ahead, kinds_from, kind_at, Begun, Skips, Lexed, IsThere, Piece, Reached, Reads}
use Rattle.as3_parser.specs.Forms.{part, arguments_behind, ReadsMetadataArgument, ReadsMetadataArguments, ReadsMetadataTag, ReadsMetadataTags}
use Rattle.as3_parser.proofs.NamedKinds.{same_kind}
use Rattle.as3_parser.proofs.Reach.{pass, there_is, next_is, kind_is, single, two, no_more, not_closed, use_next, starts_with_token, joined, empty_piece, gets_on, spans}

-- ---- an argument

keyed : {s : List Symbol} (ts : List Token) (i : ℕ) → Ahead (Part production.pair ∷ s) (kinds_from ts i) → kind_at ts i ≡ Some kind.Identifier → Ahead (production.identifier ∷ production.sign mark.Assign ∷ production.text ∷ s) (kinds_from ts i)
keyed ts i a h = use_next production.pair _ 0 (production.identifier ∷ production.sign mark.Assign ∷ production.text ∷ []) a (next_is ts i kind.Identifier h) refl refl

unkeyed : {s : List Symbol} (ts : List Token) (i : ℕ) → Ahead (Part production.pair ∷ s) (kinds_from ts i) → (kind_at ts i ≡ Some kind.Identifier → ⊥) → Ahead (production.text ∷ s) (kinds_from ts i)
unkeyed ts i a other = elim (two production.pair (production.identifier ∷ production.sign mark.Assign ∷ production.text ∷ []) (production.text ∷ []) a refl refl (λ k. refl)) [ inl h ↦ absurd (other (kind_is ts i kind.Identifier (starts_with_token h) refl)) | inr h ↦ h ]

pub key_there : {source : List ℕ} {ts : List Token} {i d : ℕ} → Begun source ts i d (part production.pair) → kind_at ts i ≡ Some kind.Identifier → IsThere source ts i
key_there {ts = ts} {i = i} b h = there_is b.cut (keyed ts i b.ahead h)

pub value_there : {source : List ℕ} {ts : List Token} {i j k d : ℕ} {l : Lexeme} → Begun source ts i d (part production.pair) → kind_at ts i ≡ Some kind.Identifier → Lexed source ts i j l → Skips ts j k → IsThere source ts k
value_there {ts = ts} {i = i} b h l skips = there_is b.cut (pass (pass (keyed ts i b.ahead h) l.skips).ahead skips).ahead

pub plain_there : {source : List ℕ} {ts : List Token} {i d : ℕ} → Begun source ts i d (part production.pair) → (kind_at ts i ≡ Some kind.Identifier → ⊥) → IsThere source ts i
plain_there {ts = ts} {i = i} b other = there_is b.cut (unkeyed ts i b.ahead other)

pub argument_keyed : {source : List ℕ} {ts : List Token} {i j k m : ℕ} {l n : Lexeme} → kind_at ts i ≡ Some kind.Identifier → Lexed source ts i j l → Skips ts j k → Lexed source ts k m n → ReadsMetadataArgument source ts i m (record { key = Some l; value = n })
argument_keyed {source = source} {ts = ts} {i = i} {l = l} {n = n} h key skips value = record {
  is = record {
    from = λ s a.
        let p = pass (keyed ts i a h) key.skips in
        let q = pass p.ahead skips in
        let r = pass q.ahead value.skips in
        let w = p.token ∷ q.token ∷ r.token ∷ [] in
        let make : Lexeme → Lexeme → MetadataArgument = λ y z. record { key = Some y; value = z } in
        let known : IsArgument source (make (lexeme_of source p.token) (lexeme_of source r.token)) w = is.keyed p.token q.token r.token (same_kind _ kind.Identifier p.number refl) (same_kind _ (kind.Mark mark.Assign) q.number refl) (same_kind _ kind.Text r.number refl) in
        record {
          span = w;
          piece = joined p.piece (joined q.piece r.piece);
          is = subst (λ y. IsArgument source (make y n) w) (sym (key.is p.token p.at)) (subst (λ z. IsArgument source (make (lexeme_of source p.token) z) w) (sym (value.is r.token r.at)) known);
          ahead = r.ahead;
        };
  };
}

pub argument_plain : {source : List ℕ} {ts : List Token} {i j : ℕ} {n : Lexeme} → (kind_at ts i ≡ Some kind.Identifier → ⊥) → Lexed source ts i j n → ReadsMetadataArgument source ts i j (record { key = None; value = n })
argument_plain {source = source} {ts = ts} {i = i} other value = record {
  is = record {
    from = λ s a.
        let p = pass (unkeyed ts i a other) value.skips in
        let make : Lexeme → MetadataArgument = λ z. record { key = None; value = z } in
        record {
          span = p.token ∷ [];
          piece = p.piece;
          is = subst (λ z. IsArgument source (make z) (p.token ∷ [])) (sym (value.is p.token p.at)) (is.plain p.token (same_kind _ kind.Text p.number refl));
          ahead = p.ahead;
        };
  };
}

-- ---- arguments

pub arguments_none : {source : List ℕ} {ts : List Token} {i j : ℕ} (v : Vec MetadataArgument) → kind_at ts i ≡ Some (kind.Mark mark.RightParenthesis) → Skips ts i j → v.items ≡ [] → ReadsMetadataArguments source ts i j v
arguments_none {source = source} {ts = ts} {i = i} v h skips none = record {
  is = record {
    from = λ s a.
        let b = use_next production.pairs _ 1 [] a (next_is ts i (kind.Mark mark.RightParenthesis) h) refl refl in
        let p = pass b skips in
        record { span = p.token ∷ []; piece = p.piece; is = subst (λ y. AreClosed source y (p.token ∷ [])) (sym none) (is.none p.token (same_kind _ (kind.Mark mark.RightParenthesis) p.number refl)); ahead = p.ahead };
  };
}

listed : {s : List Symbol} (ts : List Token) (i : ℕ) → (kind_at ts i ≡ Some (kind.Mark mark.RightParenthesis) → ⊥) → Ahead (Part production.pairs ∷ production.sign mark.RightParenthesis ∷ s) (kinds_from ts i) → Ahead (Part production.pair ∷ Part production.more_pairs ∷ production.sign mark.RightParenthesis ∷ s) (kinds_from ts i)
listed ts i other a = not_closed production.pairs (Part production.pair ∷ Part production.more_pairs ∷ []) a refl refl (λ k. refl) (λ q. other (kind_is ts i (kind.Mark mark.RightParenthesis) q refl))

commaed : {s : List Symbol} (ts : List Token) (i : ℕ) → Ahead (Part production.more_pairs ∷ s) (kinds_from ts i) → kind_at ts i ≡ Some (kind.Mark mark.Comma) → Ahead (production.sign mark.Comma ∷ Part production.pair ∷ Part production.more_pairs ∷ s) (kinds_from ts i)
commaed ts i a h = use_next production.more_pairs _ 0 (production.sign mark.Comma ∷ Part production.pair ∷ Part production.more_pairs ∷ []) a (next_is ts i (kind.Mark mark.Comma) h) refl refl

abbrev pub behind_arguments : List Symbol
behind_arguments = Part production.more_pairs ∷ production.sign mark.RightParenthesis ∷ []

pub arguments_begun : {source : List ℕ} {ts : List Token} {i d : ℕ} → Begun source ts i d arguments_behind → (kind_at ts i ≡ Some (kind.Mark mark.RightParenthesis) → ⊥) → Begun source ts i d (part production.pair)
arguments_begun {ts = ts} {i = i} b other = record { cut = b.cut; behind = Part production.more_pairs ∷ production.sign mark.RightParenthesis ∷ b.behind; ahead = listed ts i other b.ahead; room = b.room }

pub arguments_start : {source : List ℕ} {ts : List Token} {i j : ℕ} {x : MetadataArgument} {xs : List MetadataArgument} → (kind_at ts i ≡ Some (kind.Mark mark.RightParenthesis) → ⊥) → ReadsMetadataArgument source ts i j x → xs ≡ x ∷ [] → Reads ts i j arguments_behind behind_arguments (AreArguments source xs)
arguments_start {source = source} {ts = ts} {i = i} other r same = record {
  from = λ s a.
      let one = r.is.from (Part production.more_pairs ∷ production.sign mark.RightParenthesis ∷ s) (listed ts i other a) in
      record { span = one.span; piece = one.piece; is = subst (λ y. AreArguments source y one.span) (sym same) (is.one one.is); ahead = one.ahead };
}

pub arguments_next : {source : List ℕ} {ts : List Token} {i j k d : ℕ} {P : List Token → Type 0} → Begun source ts i d arguments_behind → Reads ts i j arguments_behind behind_arguments P → kind_at ts j ≡ Some (kind.Mark mark.Comma) → Skips ts j k → Begun source ts k d (part production.pair)
arguments_next {ts = ts} {j = j} b r h skips =
    let one = r.from b.behind b.ahead in
    record { cut = b.cut; behind = Part production.more_pairs ∷ production.sign mark.RightParenthesis ∷ b.behind; ahead = (pass (commaed ts j one.ahead h) skips).ahead; room = b.room }

pub arguments_more : {source : List ℕ} {ts : List Token} {i j k m : ℕ} {x : MetadataArgument} {xs ys : List MetadataArgument} → Reads ts i j arguments_behind behind_arguments (AreArguments source xs) → kind_at ts j ≡ Some (kind.Mark mark.Comma) → Skips ts j k → ReadsMetadataArgument source ts k m x → ys ≡ xs ++ x ∷ [] → Reads ts i m arguments_behind behind_arguments (AreArguments source ys)
arguments_more {source = source} {ts = ts} {j = j} r h skips q same = record {
  from = λ s a.
      let one = r.from s a in
      let p = pass (commaed ts j one.ahead h) skips in
      let next = q.is.from (Part production.more_pairs ∷ production.sign mark.RightParenthesis ∷ s) p.ahead in
      let w = one.span ++ (p.token ∷ next.span) in
      record { span = w; piece = joined one.piece (joined p.piece next.piece); is = subst (λ y. AreArguments source y w) (sym same) (is.more p.token one.is (same_kind _ (kind.Mark mark.Comma) p.number refl) next.is); ahead = next.ahead };
}

pub arguments_on : {source : List ℕ} {ts : List Token} {i j k m d : ℕ} {x : MetadataArgument} {P : List Token → Type 0} → Begun source ts i d arguments_behind → Reads ts i j arguments_behind behind_arguments P → kind_at ts j ≡ Some (kind.Mark mark.Comma) → Skips ts j k → ReadsMetadataArgument source ts k m x → length ts - m < length ts - j
arguments_on {ts = ts} {j = j} b r h skips q =
    let one = r.from b.behind b.ahead in
    let p = pass (commaed ts j one.ahead h) skips in
    let next = q.is.from (Part production.more_pairs ∷ production.sign mark.RightParenthesis ∷ b.behind) p.ahead in
    gets_on (joined p.piece next.piece) (omega arith)

pub arguments_whole : {source : List ℕ} {ts : List Token} {i j k : ℕ} (v : Vec MetadataArgument) → Reads ts i j arguments_behind behind_arguments (AreArguments source v.items) → (kind_at ts j ≡ Some (kind.Mark mark.Comma) → ⊥) → Skips ts j k → ReadsMetadataArguments source ts i k v
arguments_whole {ts = ts} {j = j} v r other skips = record {
  is = record {
    from = λ s a.
        let one = r.from s a in
        let b = no_more production.more_pairs _ (Part production.pair ∷ Part production.more_pairs ∷ []) one.ahead refl refl (λ k. refl) (λ q. other (kind_is ts j (kind.Mark mark.Comma) q refl)) in
        let p = pass b skips in
        record { span = one.span ++ (p.token ∷ []); piece = joined one.piece p.piece; is = is.some p.token one.is (same_kind _ (kind.Mark mark.RightParenthesis) p.number refl); ahead = p.ahead };
  };
}

-- ---- a tag

opened : {s : List Symbol} {w : List ℕ} → Ahead (Part production.metadata_tag ∷ s) w → Ahead (production.sign mark.LeftBracket ∷ production.identifier ∷ Part production.tag_arguments ∷ production.sign mark.RightBracket ∷ s) w
opened a = single production.metadata_tag (production.sign mark.LeftBracket ∷ production.identifier ∷ Part production.tag_arguments ∷ production.sign mark.RightBracket ∷ []) a refl (λ k. refl)

bracketed : {s : List Symbol} (ts : List Token) (i : ℕ) → Ahead (Part production.tag_arguments ∷ s) (kinds_from ts i) → kind_at ts i ≡ Some (kind.Mark mark.LeftParenthesis) → Ahead (production.sign mark.LeftParenthesis ∷ Part production.pairs ∷ production.sign mark.RightParenthesis ∷ s) (kinds_from ts i)
bracketed ts i a h = use_next production.tag_arguments _ 0 (production.sign mark.LeftParenthesis ∷ Part production.pairs ∷ production.sign mark.RightParenthesis ∷ []) a (next_is ts i (kind.Mark mark.LeftParenthesis) h) refl refl

unbracketed : {s : List Symbol} (ts : List Token) (i : ℕ) → Ahead (Part production.tag_arguments ∷ s) (kinds_from ts i) → (kind_at ts i ≡ Some (kind.Mark mark.LeftParenthesis) → ⊥) → Ahead s (kinds_from ts i)
unbracketed ts i a other = no_more production.tag_arguments _ (Part production.pairs ∷ production.sign mark.RightParenthesis ∷ []) a refl refl (λ k. refl) (λ q. other (kind_is ts i (kind.Mark mark.LeftParenthesis) q refl))

pub tag_name : {source : List ℕ} {ts : List Token} {i j d : ℕ} → Begun source ts i d (part production.metadata_tag) → Skips ts i j → IsThere source ts j
tag_name b skips = there_is b.cut (pass (opened b.ahead) skips).ahead

pub tag_arguments : {source : List ℕ} {ts : List Token} {i j k m d : ℕ} {l : Lexeme} → Begun source ts i d (part production.metadata_tag) → Skips ts i j → Lexed source ts j k l → kind_at ts k ≡ Some (kind.Mark mark.LeftParenthesis) → Skips ts k m → Begun source ts m d arguments_behind
tag_arguments {ts = ts} {k = k} b skips l h skips2 =
    let p = pass (opened b.ahead) skips in
    let q = pass p.ahead l.skips in
    record { cut = b.cut; behind = production.sign mark.RightBracket ∷ b.behind; ahead = (pass (bracketed ts k q.ahead h) skips2).ahead; room = b.room }

abbrev tag : Span → Lexeme → Vec MetadataArgument → MetadataTag
tag s l v = record { span = s; name = l; arguments = v }

tag_as : {source : List ℕ} {ts : List Token} {i j : ℕ} {y : Span} {l m : Lexeme} (v : Vec MetadataArgument) {w : List Token} {s : List Symbol} → Reached ts i j s (λ u. (u ≡ w) × IsTag source (tag (span_of w) m v) w) → 0 < length w → y ≡ span_between ts i j → l ≡ m → Reached ts i j s (IsTag source (tag y l v))
tag_as {source = source} {ts = ts} {i = i} {j = j} {y = y} {l = l} {m = m} v {w = w} r some y_is l_is =
    let piece = subst (λ u. Piece ts i j u) r.is.0 r.piece in
    record { span = w; piece = piece; is = subst (λ z. IsTag source (tag z l v) w) (sym (spans piece some y_is)) (subst (λ z. IsTag source (tag (span_of w) z v) w) (sym l_is) r.is.1); ahead = r.ahead }

pub tag_plain : {source : List ℕ} {ts : List Token} {i j k m : ℕ} {l : Lexeme} (v : Vec MetadataArgument) {y : Span} → Skips ts i j → Lexed source ts j k l → (kind_at ts k ≡ Some (kind.Mark mark.LeftParenthesis) → ⊥) → Skips ts k m → v.items ≡ [] → y ≡ span_between ts i m → ReadsMetadataTag source ts i m (tag y l v)
tag_plain {source = source} {ts = ts} {k = k} v skips l other skips2 none y_is = record {
  is = record {
    from = λ s a.
        let p = pass (opened a) skips in
        let q = pass p.ahead l.skips in
        let r = pass (unbracketed ts k q.ahead other) skips2 in
        let w = p.token ∷ q.token ∷ r.token ∷ [] in
        tag_as v {w = w} (record { span = w; piece = joined p.piece (joined q.piece r.piece); is = (refl, is.plain v p.token q.token r.token (same_kind _ (kind.Mark mark.LeftBracket) p.number refl) (same_kind _ kind.Identifier q.number refl) (same_kind _ (kind.Mark mark.RightBracket) r.number refl) none); ahead = r.ahead }) (omega arith) y_is (l.is q.token q.at);
  };
}

pub tag_whole : {source : List ℕ} {ts : List Token} {i j k m n o : ℕ} {l : Lexeme} (v : Vec MetadataArgument) {y : Span} → Skips ts i j → Lexed source ts j k l → kind_at ts k ≡ Some (kind.Mark mark.LeftParenthesis) → Skips ts k m → ReadsMetadataArguments source ts m n v → Skips ts n o → y ≡ span_between ts i o → ReadsMetadataTag source ts i o (tag y l v)
tag_whole {source = source} {ts = ts} {k = k} v skips l h skips2 r skips3 y_is = record {
  is = record {
    from = λ s a.
        let p = pass (opened a) skips in
        let q = pass p.ahead l.skips in
        let o = pass (bracketed ts k q.ahead h) skips2 in
        let inner = r.is.from (production.sign mark.RightBracket ∷ s) o.ahead in
        let z = pass inner.ahead skips3 in
        let w = p.token ∷ q.token ∷ o.token ∷ (inner.span ++ (z.token ∷ [])) in
        tag_as v {w = w} (record { span = w; piece = joined p.piece (joined q.piece (joined o.piece (joined inner.piece z.piece))); is = (refl, is.with_arguments v p.token q.token o.token z.token (same_kind _ (kind.Mark mark.LeftBracket) p.number refl) (same_kind _ kind.Identifier q.number refl) (same_kind _ (kind.Mark mark.LeftParenthesis) o.number refl) inner.is (same_kind _ (kind.Mark mark.RightBracket) z.number refl)); ahead = z.ahead }) (omega arith) y_is (l.is q.token q.at);
  };
}

-- ---- tags

tag_some : {source : List ℕ} {x : MetadataTag} {w : List Token} → IsTag source x w → 0 < length w
tag_some (is.plain v l n r a b c d) = omega arith
tag_some (is.with_arguments v l n o r a b c d f) = omega arith

another : {s : List Symbol} (ts : List Token) (i : ℕ) → Ahead (Part production.metadata_tags ∷ s) (kinds_from ts i) → kind_at ts i ≡ Some (kind.Mark mark.LeftBracket) → Ahead (Part production.metadata_tag ∷ Part production.metadata_tags ∷ s) (kinds_from ts i)
another ts i a h = use_next production.metadata_tags _ 0 (Part production.metadata_tag ∷ Part production.metadata_tags ∷ []) a (next_is ts i (kind.Mark mark.LeftBracket) h) refl refl

no_other : {s : List Symbol} (ts : List Token) (i : ℕ) → Ahead (Part production.metadata_tags ∷ s) (kinds_from ts i) → (kind_at ts i ≡ Some (kind.Mark mark.LeftBracket) → ⊥) → Ahead s (kinds_from ts i)
no_other ts i a other = elim (two production.metadata_tags (Part production.metadata_tag ∷ Part production.metadata_tags ∷ []) [] a refl refl (λ k. refl)) [ inl h ↦ absurd (other (kind_is ts i (kind.Mark mark.LeftBracket) (starts_with_token (opened h)) refl)) | inr h ↦ h ]

pub tags_start : {source : List ℕ} {ts : List Token} {i : ℕ} {xs : List MetadataTag} → xs ≡ [] → Reads ts i i (part production.metadata_tags) (part production.metadata_tags) (AreTags source xs)
tags_start {source = source} {i = i} none = record { from = λ s a. record { span = []; piece = empty_piece i; is = subst (λ y. AreTags source y []) (sym none) is.none; ahead = a } }

pub tags_next : {source : List ℕ} {ts : List Token} {i j d : ℕ} {P : List Token → Type 0} → Begun source ts i d (part production.metadata_tags) → Reads ts i j (part production.metadata_tags) (part production.metadata_tags) P → kind_at ts j ≡ Some (kind.Mark mark.LeftBracket) → Begun source ts j d (part production.metadata_tag)
tags_next {ts = ts} {j = j} b r h = record { cut = b.cut; behind = Part production.metadata_tags ∷ b.behind; ahead = another ts j (r.from b.behind b.ahead).ahead h; room = b.room }

pub tags_more : {source : List ℕ} {ts : List Token} {i j k : ℕ} {x : MetadataTag} {xs ys : List MetadataTag} → Reads ts i j (part production.metadata_tags) (part production.metadata_tags) (AreTags source xs) → kind_at ts j ≡ Some (kind.Mark mark.LeftBracket) → ReadsMetadataTag source ts j k x → ys ≡ xs ++ x ∷ [] → Reads ts i k (part production.metadata_tags) (part production.metadata_tags) (AreTags source ys)
tags_more {source = source} {ts = ts} {j = j} r h q same = record {
  from = λ s a.
      let one = r.from s a in
      let next = q.is.from (Part production.metadata_tags ∷ s) (another ts j one.ahead h) in
      record { span = one.span ++ next.span; piece = joined one.piece next.piece; is = subst (λ y. AreTags source y (one.span ++ next.span)) (sym same) (is.more one.is next.is); ahead = next.ahead };
}

pub tags_on : {source : List ℕ} {ts : List Token} {i j k d : ℕ} {x : MetadataTag} {P : List Token → Type 0} → Begun source ts i d (part production.metadata_tags) → Reads ts i j (part production.metadata_tags) (part production.metadata_tags) P → kind_at ts j ≡ Some (kind.Mark mark.LeftBracket) → ReadsMetadataTag source ts j k x → length ts - k < length ts - j
tags_on {ts = ts} {j = j} b r h q =
    let next = q.is.from (Part production.metadata_tags ∷ b.behind) (another ts j (r.from b.behind b.ahead).ahead h) in
    gets_on next.piece (tag_some next.is)

pub tags_end : {source : List ℕ} {ts : List Token} {i j : ℕ} (v : Vec MetadataTag) → Reads ts i j (part production.metadata_tags) (part production.metadata_tags) (AreTags source v.items) → (kind_at ts j ≡ Some (kind.Mark mark.LeftBracket) → ⊥) → ReadsMetadataTags source ts i j v
tags_end {ts = ts} {j = j} v r other = record {
  is = record {
    from = λ s a.
        let one = r.from s a in
        record { span = one.span; piece = one.piece; is = one.is; ahead = no_other ts j one.ahead other };
  };
}
