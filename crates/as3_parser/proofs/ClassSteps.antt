-- How a class file is read.
use Rattle.std.proofs.Common.{◌≡◌, ◌⊎◌, inl, inr, ℕ, suc, ◌+◌, ◌-◌, ◌<◌, ◌≤◌, List, [], ◌∷◌, ◌++◌, length, Option, Some, None, refl, sym, ap, subst, ◌∙◌, arith}
use Rattle.std.specs.Prelude.{IsUtf8}
use Rattle.std.specs.Global.{Vec}
use Rattle.as3_lexer.specs.declared.keyword.Keyword.TheVariants as keyword
use Rattle.as3_lexer.specs.declared.mark.Mark.TheVariants as mark
use Rattle.as3_lexer.specs.declared.token.Token.{Token}
use Rattle.as3_lexer.specs.declared.token.TokenKind.TheVariants as kind
use Rattle.as3_lexer.specs.Tokens.{HasTokens}
use Rattle.as3_parser.specs.declared.start.Start.TheVariants as start
use Rattle.as3_parser.specs.declared.tree.Lexeme.{Lexeme}
use Rattle.as3_parser.specs.declared.tree.MetadataTag.{MetadataTag}
use Rattle.as3_parser.specs.declared.tree.Import.{Import}
use Rattle.as3_parser.specs.declared.tree.Modifier.{Modifier}
use Rattle.as3_parser.specs.declared.tree.Member.{Member}
use Rattle.as3_parser.specs.declared.tree.Class.{Class}
use Rattle.as3_parser.specs.declared.tree.ClassFile.{ClassFile}
use Rattle.as3_parser.specs.Grammar.{Symbol, Part}
use Rattle.as3_parser.specs.Productions as production
use Rattle.as3_parser.specs.Syntax.{limit, IsSentence}
use Rattle.as3_parser.specs.Trees.{lexeme_of}
use Rattle.as3_parser.specs.Classes.{IsPackage, AreImports, IsBase, AreMembers, IsClass, IsClassFile}
use Rattle.as3_parser.specs.Classes as is
use Rattle.as3_parser.specs.Parsed.{IsClassFileOf}
use Rattle.as3_parser.specs.Ahead.{Ahead, kinds_from, kind_at, Begun, Skips, Lexed, IsThere, Piece, Reached, Reads}
use Rattle.as3_parser.specs.Forms.{part, ReadsPath, ReadsMetadataTags}
use Rattle.as3_parser.specs.MemberForms.{ReadsImport, ReadsModifiers, ReadsMember}
use Rattle.as3_parser.specs.ClassForms.{package_symbols, ReadsPackage, ReadsImports, ReadsBase, members_symbols, AreMembersClosed, ReadsClassMembers, class_symbols, ReadsClass, ReadsClassFile}
use Rattle.as3_parser.proofs.NamedKinds.{same_kind}
use Rattle.as3_parser.proofs.Reach.{pass, there_is, next_is, kind_is, single, two, no_more, not_closed, use_next, starts_with_token, joined, empty_piece, gets_on}
use Rattle.as3_parser.proofs.MemberSteps.{imported, import_some, member_some}
use Rattle.as3_parser.proofs.Sentences.{whole_begun, whole_read}

-- ---- the package

pathed : {s : List Symbol} (ts : List Token) (i : ℕ) → (kind_at ts i ≡ Some (kind.Mark mark.LeftBrace) → ⊥) → Ahead (Part production.optional_path ∷ production.sign mark.LeftBrace ∷ s) (kinds_from ts i) → Ahead (Part production.path ∷ production.sign mark.LeftBrace ∷ s) (kinds_from ts i)
pathed ts i other a = not_closed production.optional_path (Part production.path ∷ []) a refl refl (λ k. refl) (λ q. other (kind_is ts i (kind.Mark mark.LeftBrace) q refl))

pub package_none : {source : List ℕ} {ts : List Token} {i j : ℕ} → kind_at ts i ≡ Some (kind.Mark mark.LeftBrace) → Skips ts i j → ReadsPackage source ts i j None
package_none {ts = ts} {i = i} h skips = record {
  is = record {
    from = λ s a.
        let p = pass (use_next production.optional_path _ 1 [] a (next_is ts i (kind.Mark mark.LeftBrace) h) refl refl) skips in
        record { span = p.token ∷ []; piece = p.piece; is = is.none p.token (same_kind _ (kind.Mark mark.LeftBrace) p.number refl); ahead = p.ahead };
  };
}

pub package_begun : {source : List ℕ} {ts : List Token} {i d : ℕ} → Begun source ts i d package_symbols → (kind_at ts i ≡ Some (kind.Mark mark.LeftBrace) → ⊥) → Begun source ts i limit (part production.path)
package_begun {ts = ts} {i = i} b other = record { cut = b.cut; behind = production.sign mark.LeftBrace ∷ b.behind; ahead = pathed ts i other b.ahead; room = omega arith }

pub package_whole : {source : List ℕ} {ts : List Token} {i j k : ℕ} (v : Vec Lexeme) → (kind_at ts i ≡ Some (kind.Mark mark.LeftBrace) → ⊥) → ReadsPath source ts i j v → Skips ts j k → ReadsPackage source ts i k (Some v)
package_whole {ts = ts} {i = i} v other r skips = record {
  is = record {
    from = λ s a.
        let one = r.is.from (production.sign mark.LeftBrace ∷ s) (pathed ts i other a) in
        let p = pass one.ahead skips in
        record { span = one.span ++ (p.token ∷ []); piece = joined one.piece p.piece; is = is.some v p.token one.is (same_kind _ (kind.Mark mark.LeftBrace) p.number refl); ahead = p.ahead };
  };
}

-- ---- imports

another : {s : List Symbol} (ts : List Token) (i : ℕ) → Ahead (Part production.imports ∷ s) (kinds_from ts i) → kind_at ts i ≡ Some (kind.Keyword keyword.Import) → Ahead (Part production.import_directive ∷ Part production.imports ∷ s) (kinds_from ts i)
another ts i a h = use_next production.imports _ 0 (Part production.import_directive ∷ Part production.imports ∷ []) a (next_is ts i (kind.Keyword keyword.Import) h) refl refl

pub imports_start : {source : List ℕ} {ts : List Token} {i : ℕ} {xs : List Import} → xs ≡ [] → Reads ts i i (part production.imports) (part production.imports) (AreImports source xs)
imports_start {source = source} {i = i} none = record { from = λ s a. record { span = []; piece = empty_piece i; is = subst (λ y. AreImports source y []) (sym none) is.none; ahead = a } }

pub imports_next : {source : List ℕ} {ts : List Token} {i j d : ℕ} {P : List Token → Type 0} → Begun source ts i d (part production.imports) → Reads ts i j (part production.imports) (part production.imports) P → kind_at ts j ≡ Some (kind.Keyword keyword.Import) → Begun source ts j d (part production.import_directive)
imports_next {ts = ts} {j = j} b r h = record { cut = b.cut; behind = Part production.imports ∷ b.behind; ahead = another ts j (r.from b.behind b.ahead).ahead h; room = b.room }

pub imports_more : {source : List ℕ} {ts : List Token} {i j k : ℕ} {x : Import} {xs ys : List Import} → Reads ts i j (part production.imports) (part production.imports) (AreImports source xs) → kind_at ts j ≡ Some (kind.Keyword keyword.Import) → ReadsImport source ts j k x → ys ≡ xs ++ x ∷ [] → Reads ts i k (part production.imports) (part production.imports) (AreImports source ys)
imports_more {source = source} {ts = ts} {j = j} r h q same = record {
  from = λ s a.
      let one = r.from s a in
      let next_ = q.is.from (Part production.imports ∷ s) (another ts j one.ahead h) in
      record { span = one.span ++ next_.span; piece = joined one.piece next_.piece; is = subst (λ y. AreImports source y (one.span ++ next_.span)) (sym same) (is.more one.is next_.is); ahead = next_.ahead };
}

pub imports_on : {source : List ℕ} {ts : List Token} {i j k d : ℕ} {x : Import} {P : List Token → Type 0} → Begun source ts i d (part production.imports) → Reads ts i j (part production.imports) (part production.imports) P → kind_at ts j ≡ Some (kind.Keyword keyword.Import) → ReadsImport source ts j k x → length ts - k < length ts - j
imports_on {ts = ts} {j = j} b r h q = let next_ = q.is.from (Part production.imports ∷ b.behind) (another ts j (r.from b.behind b.ahead).ahead h) in gets_on next_.piece (import_some next_.is)

pub imports_end : {source : List ℕ} {ts : List Token} {i j : ℕ} (v : Vec Import) → Reads ts i j (part production.imports) (part production.imports) (AreImports source v.items) → (kind_at ts j ≡ Some (kind.Keyword keyword.Import) → ⊥) → ReadsImports source ts i j v
imports_end {ts = ts} {j = j} v r other = record {
  is = record {
    from = λ s a.
        let one = r.from s a in
        record { span = one.span; piece = one.piece; is = one.is; ahead = elim (two production.imports (Part production.import_directive ∷ Part production.imports ∷ []) [] one.ahead refl refl (λ k. refl)) [ inl h ↦ absurd (other (kind_is ts j (kind.Keyword keyword.Import) (starts_with_token (imported h)) refl)) | inr h ↦ h ] };
  };
}

-- ---- the base

extending : {s : List Symbol} (ts : List Token) (i : ℕ) → Ahead (Part production.base_class ∷ s) (kinds_from ts i) → kind_at ts i ≡ Some (kind.Keyword keyword.Extends) → Ahead (production.word keyword.Extends ∷ Part production.path ∷ s) (kinds_from ts i)
extending ts i a h = use_next production.base_class _ 0 (production.word keyword.Extends ∷ Part production.path ∷ []) a (next_is ts i (kind.Keyword keyword.Extends) h) refl refl

pub base_none : {source : List ℕ} {ts : List Token} {i : ℕ} → (kind_at ts i ≡ Some (kind.Keyword keyword.Extends) → ⊥) → ReadsBase source ts i i None
base_none {ts = ts} {i = i} other = record { is = record { from = λ s a. record { span = []; piece = empty_piece i; is = is.none; ahead = no_more production.base_class _ (Part production.path ∷ []) a refl refl (λ k. refl) (λ e. other (kind_is ts i (kind.Keyword keyword.Extends) e refl)) } } }

pub base_begun : {source : List ℕ} {ts : List Token} {i j d : ℕ} → Begun source ts i d (part production.base_class) → kind_at ts i ≡ Some (kind.Keyword keyword.Extends) → Skips ts i j → Begun source ts j limit (part production.path)
base_begun {ts = ts} {i = i} b h skips = record { cut = b.cut; behind = b.behind; ahead = (pass (extending ts i b.ahead h) skips).ahead; room = omega arith }

pub base_whole : {source : List ℕ} {ts : List Token} {i j k : ℕ} (v : Vec Lexeme) → kind_at ts i ≡ Some (kind.Keyword keyword.Extends) → Skips ts i j → ReadsPath source ts j k v → ReadsBase source ts i k (Some v)
base_whole {ts = ts} {i = i} v h skips r = record {
  is = record {
    from = λ s a.
        let p = pass (extending ts i a h) skips in
        let one = r.is.from s p.ahead in
        record { span = p.token ∷ one.span; piece = joined p.piece one.piece; is = is.some v p.token (same_kind _ (kind.Keyword keyword.Extends) p.number refl) one.is; ahead = one.ahead };
  };
}

-- ---- the members

a_member : {s : List Symbol} (ts : List Token) (i : ℕ) → (kind_at ts i ≡ Some (kind.Mark mark.RightBrace) → ⊥) → Ahead (Part production.class_members ∷ production.sign mark.RightBrace ∷ s) (kinds_from ts i) → Ahead (Part production.member ∷ Part production.class_members ∷ production.sign mark.RightBrace ∷ s) (kinds_from ts i)
a_member ts i other a = not_closed production.class_members (Part production.member ∷ Part production.class_members ∷ []) a refl refl (λ k. refl) (λ q. other (kind_is ts i (kind.Mark mark.RightBrace) q refl))

pub members_start : {source : List ℕ} {ts : List Token} {i : ℕ} {xs : List Member} → xs ≡ [] → Reads ts i i members_symbols members_symbols (AreMembers source xs)
members_start {source = source} {i = i} none = record { from = λ s a. record { span = []; piece = empty_piece i; is = subst (λ y. AreMembers source y []) (sym none) is.none; ahead = a } }

pub members_next : {source : List ℕ} {ts : List Token} {i j d : ℕ} {P : List Token → Type 0} → Begun source ts i d members_symbols → Reads ts i j members_symbols members_symbols P → (kind_at ts j ≡ Some (kind.Mark mark.RightBrace) → ⊥) → Begun source ts j d (part production.member)
members_next {ts = ts} {j = j} b r other = record { cut = b.cut; behind = Part production.class_members ∷ production.sign mark.RightBrace ∷ b.behind; ahead = a_member ts j other (r.from b.behind b.ahead).ahead; room = b.room }

pub members_more : {source : List ℕ} {ts : List Token} {i j k : ℕ} {x : Member} {xs ys : List Member} → Reads ts i j members_symbols members_symbols (AreMembers source xs) → (kind_at ts j ≡ Some (kind.Mark mark.RightBrace) → ⊥) → ReadsMember source ts j k x → ys ≡ xs ++ x ∷ [] → Reads ts i k members_symbols members_symbols (AreMembers source ys)
members_more {source = source} {ts = ts} {j = j} r other q same = record {
  from = λ s a.
      let one = r.from s a in
      let next_ = q.is.from (Part production.class_members ∷ production.sign mark.RightBrace ∷ s) (a_member ts j other one.ahead) in
      record { span = one.span ++ next_.span; piece = joined one.piece next_.piece; is = subst (λ y. AreMembers source y (one.span ++ next_.span)) (sym same) (is.more one.is next_.is); ahead = next_.ahead };
}

pub members_on : {source : List ℕ} {ts : List Token} {i j k d : ℕ} {x : Member} {P : List Token → Type 0} → Begun source ts i d members_symbols → Reads ts i j members_symbols members_symbols P → (kind_at ts j ≡ Some (kind.Mark mark.RightBrace) → ⊥) → ReadsMember source ts j k x → length ts - k < length ts - j
members_on {ts = ts} {j = j} b r other q = let next_ = q.is.from (Part production.class_members ∷ production.sign mark.RightBrace ∷ b.behind) (a_member ts j other (r.from b.behind b.ahead).ahead) in gets_on next_.piece (member_some next_.is)

pub members_whole : {source : List ℕ} {ts : List Token} {i j k : ℕ} (v : Vec Member) → Reads ts i j members_symbols members_symbols (AreMembers source v.items) → kind_at ts j ≡ Some (kind.Mark mark.RightBrace) → Skips ts j k → ReadsClassMembers source ts i k v
members_whole {ts = ts} {j = j} v r h skips = record {
  is = record {
    from = λ s a.
        let one = r.from s a in
        let p = pass (use_next production.class_members _ 1 [] one.ahead (next_is ts j (kind.Mark mark.RightBrace) h) refl refl) skips in
        record { span = one.span ++ (p.token ∷ []); piece = joined one.piece p.piece; is = record { inner_tokens = one.span; right = p.token; is = refl; are = one.is; brace = same_kind _ (kind.Mark mark.RightBrace) p.number refl }; ahead = p.ahead };
  };
}

-- ---- the class

pub class_tags : {source : List ℕ} {ts : List Token} {i d : ℕ} → Begun source ts i d class_symbols → Begun source ts i limit (part production.metadata_tags)
class_tags b = record { cut = b.cut; behind = Part production.modifiers ∷ production.word keyword.Class ∷ production.identifier ∷ Part production.base_class ∷ production.sign mark.LeftBrace ∷ Part production.class_members ∷ production.sign mark.RightBrace ∷ b.behind; ahead = b.ahead; room = omega arith }

pub class_modifiers : {source : List ℕ} {ts : List Token} {i j d : ℕ} {v : Vec MetadataTag} → Begun source ts i d class_symbols → ReadsMetadataTags source ts i j v → Begun source ts j limit (part production.modifiers)
class_modifiers b r = record { cut = b.cut; behind = production.word keyword.Class ∷ production.identifier ∷ Part production.base_class ∷ production.sign mark.LeftBrace ∷ Part production.class_members ∷ production.sign mark.RightBrace ∷ b.behind; ahead = (r.is.from (Part production.modifiers ∷ production.word keyword.Class ∷ production.identifier ∷ Part production.base_class ∷ production.sign mark.LeftBrace ∷ Part production.class_members ∷ production.sign mark.RightBrace ∷ b.behind) b.ahead).ahead; room = omega arith }

-- up to the name
named : {source : List ℕ} {ts : List Token} {i j k m : ℕ} {v : Vec MetadataTag} {u : Vec Modifier} (s : List Symbol) → Ahead (class_symbols ++ s) (kinds_from ts i) → ReadsMetadataTags source ts i j v → ReadsModifiers source ts j k u → Skips ts k m → Ahead (production.identifier ∷ Part production.base_class ∷ production.sign mark.LeftBrace ∷ Part production.class_members ∷ production.sign mark.RightBrace ∷ s) (kinds_from ts m)
named s a r q skips =
    let one = r.is.from (Part production.modifiers ∷ production.word keyword.Class ∷ production.identifier ∷ Part production.base_class ∷ production.sign mark.LeftBrace ∷ Part production.class_members ∷ production.sign mark.RightBrace ∷ s) a in
    let mods = q.is.from (production.word keyword.Class ∷ production.identifier ∷ Part production.base_class ∷ production.sign mark.LeftBrace ∷ Part production.class_members ∷ production.sign mark.RightBrace ∷ s) one.ahead in
    (pass mods.ahead skips).ahead

pub class_name : {source : List ℕ} {ts : List Token} {i j k m d : ℕ} {v : Vec MetadataTag} {u : Vec Modifier} → Begun source ts i d class_symbols → ReadsMetadataTags source ts i j v → ReadsModifiers source ts j k u → Skips ts k m → IsThere source ts m
class_name b r q skips = there_is b.cut (named b.behind b.ahead r q skips)

pub class_base : {source : List ℕ} {ts : List Token} {i j k m n d : ℕ} {v : Vec MetadataTag} {u : Vec Modifier} {l : Lexeme} → Begun source ts i d class_symbols → ReadsMetadataTags source ts i j v → ReadsModifiers source ts j k u → Skips ts k m → Lexed source ts m n l → Begun source ts n limit (part production.base_class)
class_base b r q skips lx = record { cut = b.cut; behind = production.sign mark.LeftBrace ∷ Part production.class_members ∷ production.sign mark.RightBrace ∷ b.behind; ahead = (pass (named b.behind b.ahead r q skips) lx.skips).ahead; room = omega arith }

pub class_members : {source : List ℕ} {ts : List Token} {i j k m n o p d : ℕ} {v : Vec MetadataTag} {u : Vec Modifier} {l : Lexeme} {x : Option (Vec Lexeme)} → Begun source ts i d class_symbols → ReadsMetadataTags source ts i j v → ReadsModifiers source ts j k u → Skips ts k m → Lexed source ts m n l → ReadsBase source ts n o x → Skips ts o p → Begun source ts p d members_symbols
class_members b r q skips lx t skips2 =
    let base = t.is.from (production.sign mark.LeftBrace ∷ Part production.class_members ∷ production.sign mark.RightBrace ∷ b.behind) (pass (named b.behind b.ahead r q skips) lx.skips).ahead in
    record { cut = b.cut; behind = b.behind; ahead = (pass base.ahead skips2).ahead; room = b.room }

abbrev class_of : Vec MetadataTag → Vec Modifier → Lexeme → Option (Vec Lexeme) → Vec Member → Class
class_of v u l x y = record { metadata = v; modifiers = u; name = l; base = x; members = y }

pub class_whole : {source : List ℕ} {ts : List Token} {i j k m n o p q : ℕ} (v : Vec MetadataTag) (u : Vec Modifier) {l : Lexeme} {x : Option (Vec Lexeme)} (y : Vec Member) → ReadsMetadataTags source ts i j v → ReadsModifiers source ts j k u → Skips ts k m → Lexed source ts m n l → ReadsBase source ts n o x → Skips ts o p → ReadsClassMembers source ts p q y → ReadsClass source ts i q (class_of v u l x y)
class_whole {source = source} {ts = ts} {i = i} {q = q} v u {x = x} y r1 r2 skips lx r3 skips2 r4 = record {
  is = record {
    from = λ s a.
        let one = r1.is.from (Part production.modifiers ∷ production.word keyword.Class ∷ production.identifier ∷ Part production.base_class ∷ production.sign mark.LeftBrace ∷ Part production.class_members ∷ production.sign mark.RightBrace ∷ s) a in
        let mods = r2.is.from (production.word keyword.Class ∷ production.identifier ∷ Part production.base_class ∷ production.sign mark.LeftBrace ∷ Part production.class_members ∷ production.sign mark.RightBrace ∷ s) one.ahead in
        let p1 = pass mods.ahead skips in
        let p2 = pass p1.ahead lx.skips in
        let base = r3.is.from (production.sign mark.LeftBrace ∷ Part production.class_members ∷ production.sign mark.RightBrace ∷ s) p2.ahead in
        let p3 = pass base.ahead skips2 in
        let inner = r4.is.from s p3.ahead in
        let w = one.span ++ (mods.span ++ (p1.token ∷ p2.token ∷ (base.span ++ (p3.token ∷ (inner.is.inner_tokens ++ (inner.is.right ∷ [])))))) in
        let piece = joined one.piece (joined mods.piece (joined p1.piece (joined p2.piece (joined base.piece (joined p3.piece inner.piece))))) in
        record {
          span = w;
          piece = subst (λ z. Piece ts i q (one.span ++ (mods.span ++ (p1.token ∷ p2.token ∷ (base.span ++ (p3.token ∷ z)))))) inner.is.is piece;
          is = subst (λ z. IsClass source (class_of v u z x y) w) (sym (lx.is p2.token p2.at)) (is.class v u y p1.token p2.token p3.token inner.is.right one.is mods.is (same_kind _ (kind.Keyword keyword.Class) p1.number refl) (same_kind _ kind.Identifier p2.number refl) base.is (same_kind _ (kind.Mark mark.LeftBrace) p3.number refl) inner.is.are inner.is.brace);
          ahead = inner.ahead;
        };
  };
}

-- ---- the file

opened : {s : List Symbol} {w : List ℕ} → Ahead (Part production.class_file ∷ s) w → Ahead (production.word keyword.Package ∷ Part production.optional_path ∷ production.sign mark.LeftBrace ∷ Part production.imports ∷ Part production.metadata_tags ∷ Part production.modifiers ∷ production.word keyword.Class ∷ production.identifier ∷ Part production.base_class ∷ production.sign mark.LeftBrace ∷ Part production.class_members ∷ production.sign mark.RightBrace ∷ production.sign mark.RightBrace ∷ s) w
opened a = single production.class_file (production.word keyword.Package ∷ Part production.optional_path ∷ production.sign mark.LeftBrace ∷ Part production.imports ∷ Part production.metadata_tags ∷ Part production.modifiers ∷ production.word keyword.Class ∷ production.identifier ∷ Part production.base_class ∷ production.sign mark.LeftBrace ∷ Part production.class_members ∷ production.sign mark.RightBrace ∷ production.sign mark.RightBrace ∷ []) a refl (λ k. refl)

pub file_package : {source : List ℕ} {ts : List Token} {i j d : ℕ} → Begun source ts i d (part production.class_file) → Skips ts i j → Begun source ts j limit package_symbols
file_package b skips = record { cut = b.cut; behind = Part production.imports ∷ Part production.metadata_tags ∷ Part production.modifiers ∷ production.word keyword.Class ∷ production.identifier ∷ Part production.base_class ∷ production.sign mark.LeftBrace ∷ Part production.class_members ∷ production.sign mark.RightBrace ∷ production.sign mark.RightBrace ∷ b.behind; ahead = (pass (opened b.ahead) skips).ahead; room = omega arith }

pub file_imports : {source : List ℕ} {ts : List Token} {i j k d : ℕ} {x : Option (Vec Lexeme)} → Begun source ts i d (part production.class_file) → Skips ts i j → ReadsPackage source ts j k x → Begun source ts k limit (part production.imports)
file_imports b skips r = record { cut = b.cut; behind = Part production.metadata_tags ∷ Part production.modifiers ∷ production.word keyword.Class ∷ production.identifier ∷ Part production.base_class ∷ production.sign mark.LeftBrace ∷ Part production.class_members ∷ production.sign mark.RightBrace ∷ production.sign mark.RightBrace ∷ b.behind; ahead = (r.is.from (Part production.imports ∷ Part production.metadata_tags ∷ Part production.modifiers ∷ production.word keyword.Class ∷ production.identifier ∷ Part production.base_class ∷ production.sign mark.LeftBrace ∷ Part production.class_members ∷ production.sign mark.RightBrace ∷ production.sign mark.RightBrace ∷ b.behind) (pass (opened b.ahead) skips).ahead).ahead; room = omega arith }

pub file_class : {source : List ℕ} {ts : List Token} {i j k m d : ℕ} {x : Option (Vec Lexeme)} {v : Vec Import} → Begun source ts i d (part production.class_file) → Skips ts i j → ReadsPackage source ts j k x → ReadsImports source ts k m v → Begun source ts m d class_symbols
file_class b skips r q =
    let one = r.is.from (Part production.imports ∷ Part production.metadata_tags ∷ Part production.modifiers ∷ production.word keyword.Class ∷ production.identifier ∷ Part production.base_class ∷ production.sign mark.LeftBrace ∷ Part production.class_members ∷ production.sign mark.RightBrace ∷ production.sign mark.RightBrace ∷ b.behind) (pass (opened b.ahead) skips).ahead in
    let imports = q.is.from (Part production.metadata_tags ∷ Part production.modifiers ∷ production.word keyword.Class ∷ production.identifier ∷ Part production.base_class ∷ production.sign mark.LeftBrace ∷ Part production.class_members ∷ production.sign mark.RightBrace ∷ production.sign mark.RightBrace ∷ b.behind) one.ahead in
    record { cut = b.cut; behind = production.sign mark.RightBrace ∷ b.behind; ahead = imports.ahead; room = b.room }

pub file_whole : {source : List ℕ} {ts : List Token} {i j k m n o : ℕ} {x : Option (Vec Lexeme)} (v : Vec Import) {c : Class} → Skips ts i j → ReadsPackage source ts j k x → ReadsImports source ts k m v → ReadsClass source ts m n c → Skips ts n o → ReadsClassFile source ts i o (record { package_name = x; imports = v; class = c })
file_whole v skips r1 r2 r3 skips2 = record {
  is = record {
    from = λ s a.
        let p1 = pass (opened a) skips in
        let one = r1.is.from (Part production.imports ∷ Part production.metadata_tags ∷ Part production.modifiers ∷ production.word keyword.Class ∷ production.identifier ∷ Part production.base_class ∷ production.sign mark.LeftBrace ∷ Part production.class_members ∷ production.sign mark.RightBrace ∷ production.sign mark.RightBrace ∷ s) p1.ahead in
        let imports = r2.is.from (Part production.metadata_tags ∷ Part production.modifiers ∷ production.word keyword.Class ∷ production.identifier ∷ Part production.base_class ∷ production.sign mark.LeftBrace ∷ Part production.class_members ∷ production.sign mark.RightBrace ∷ production.sign mark.RightBrace ∷ s) one.ahead in
        let inner = r3.is.from (production.sign mark.RightBrace ∷ s) imports.ahead in
        let p2 = pass inner.ahead skips2 in
        record {
          span = p1.token ∷ (one.span ++ (imports.span ++ (inner.span ++ (p2.token ∷ []))));
          piece = joined p1.piece (joined one.piece (joined imports.piece (joined inner.piece p2.piece)));
          is = is.file v p1.token p2.token (same_kind _ (kind.Keyword keyword.Package) p1.number refl) one.is imports.is inner.is (same_kind _ (kind.Mark mark.RightBrace) p2.number refl);
          ahead = p2.ahead;
        };
  };
}

pub file_begun : {source : List ℕ} {tokens slice : List Token} → slice ≡ tokens → IsUtf8 source → HasTokens source tokens → IsSentence start.ClassFile tokens → Begun source slice 0 64 (part production.class_file)
file_begun same utf8 has h = whole_begun start.ClassFile refl same utf8 has h

pub file_of : {source : List ℕ} {tokens slice : List Token} {j : ℕ} {x : ClassFile} → slice ≡ tokens → IsSentence start.ClassFile tokens → ReadsClassFile source slice 0 j x → IsClassFileOf source tokens x
file_of same h r = record { sentence = h; tree = whole_read start.ClassFile refl same h r.is }
