-- The steps of the reading of a sentence, token by token and part by part.
use Rattle.std.proofs.Common.{◌≡◌, ◌⊎◌, inl, inr, ◌↔◌, ℕ, zero, suc, ◌+◌, ◌-◌, ◌<◌, ◌≤◌, Bool, true, false, IsTrue, List, [], ◌∷◌, ◌++◌, length, drop, Option, Some, None, option_map, refl, sym, ap, ap₂, subst, ◌∙◌, arith, append_assoc, length-append, length-drop, drop-cons, drop_of_length-le, get_or, slice_get, ltb, ltb-true, ltb-false}
use Rattle.std.proofs.lemmas.Option.{slice_get-get_or, slice_get_cases}
use Rattle.std.specs.Option.{option_map_or}
use Rattle.as3_lexer.specs.declared.mark.Mark.{Mark}
use Rattle.as3_lexer.specs.declared.token.Token.{Token}
use Rattle.as3_lexer.specs.declared.token.TokenKind.{TokenKind}
use Rattle.as3_lexer.specs.declared.token.TokenKind.TheVariants as kind
use Rattle.as3_parser.specs.declared.tree.Span.{Span}
use Rattle.as3_parser.specs.Grammar.{Symbol, Part, Close}
use Rattle.as3_parser.specs.Grammar as grammar
use Rattle.as3_parser.specs.Predicts.{next}
use Rattle.as3_parser.specs.Table.{pick}
use Rattle.as3_parser.specs.Kinds.{kind_number, mark_number, kinds_of}
use Rattle.as3_parser.specs.Productions.{the_rules}
use Rattle.as3_parser.specs.Here.{table}
use Rattle.as3_parser.specs.Trees.{end_of, span_of}
use Rattle.as3_parser.specs.Spans.{span_between}
use Rattle.as3_parser.specs.Ahead.{Ahead, kinds_from, kind_at, AreCut, Skips, IsThere, Piece}
use Rattle.as3_parser.proofs.Ahead.{use_side, some_side, read_next}
use Rattle.as3_parser.proofs.NamedKinds.{same_kind}

-- what a test says
pub not_so : {b : Bool} {P : Type 0} → (IsTrue b ↔ P) → b ≡ false → P → ⊥
not_so h is p = let yes_ = h.1 p in absurd (cc)

-- a list that was empty
pub sole : {X : Type 0} {xs ys : List X} {x : X} → xs ≡ [] → ys ≡ xs ++ x ∷ [] → ys ≡ x ∷ []
sole {x = x} none is = is ∙ ap (λ y. y ++ x ∷ []) none

-- ---- tokens and their kinds

pub token_at : (ts : List Token) (i : ℕ) (t : Token) (r : List Token) → drop i ts ≡ t ∷ r → slice_get ts i ≡ Some t
token_at ts i t r h = go (ltb i (length ts)) refl where
  go : (b : Bool) → ltb i (length ts) ≡ b → slice_get ts i ≡ Some t
  go true e = let lt : i < length ts = ltb-true _ _ e in
      let d = drop-cons ts i t lt in
      slice_get-get_or ts i t lt ∙ (let f : get_or ts i t ≡ t = cc in ap (λ y. Some y) f)
  go false e = let le : length ts ≤ i = ltb-false _ _ e in
      let d : drop i ts ≡ [] = drop_of_length-le ts {i = i} le in
      absurd (let f : t ∷ r ≡ [] = sym h ∙ d in cc)

token_within : (ts : List Token) (i : ℕ) (t : Token) (r : List Token) → drop i ts ≡ t ∷ r → i < length ts
token_within ts i t r h = go (ltb i (length ts)) refl where
  go : (b : Bool) → ltb i (length ts) ≡ b → i < length ts
  go true e = ltb-true _ _ e
  go false e = let le : length ts ≤ i = ltb-false _ _ e in
      let d : drop i ts ≡ [] = drop_of_length-le ts {i = i} le in
      absurd (let f : t ∷ r ≡ [] = sym h ∙ d in cc)

-- the next token, which was passed
pub record Passed (x : ℕ) (s : List Symbol) (ts : List Token) (i j : ℕ) : Type 0 where
  pub token : Token
  pub at : slice_get ts i ≡ Some token
  pub within : i < length ts
  pub piece : Piece ts i j (token ∷ [])
  pub number : kind_number token.kind ≡ x
  pub ahead : Ahead s (kinds_from ts j)

pub pass : {ts : List Token} {i j x : ℕ} {s : List Symbol} → Ahead (grammar.Token x ∷ s) (kinds_from ts i) → Skips ts i j → Passed x s ts i j
unfolding kinds_from
pass {ts = ts} {i = i} {j = j} {x = x} {s = s} a skips = let n = read_next a in go (drop i ts) refl n.rest n.is n.ahead where
  go : (w : List Token) → drop i ts ≡ w → (rest : List ℕ) → kinds_of w ≡ x ∷ rest → Ahead s rest → Passed x s ts i j
  go [] e rest is h = absurd (cc)
  go (t ∷ w) e rest is h =
      let lt = token_within ts i t w e in
      let on = skips.on lt in
      let split : drop i ts ≡ get_or ts i t ∷ drop (suc i) ts = drop-cons ts i t lt in
      let next_is : suc i ≡ j = omega (arith, on) in
      let w_is : w ≡ drop (suc i) ts = cc in
      let w_at : w ≡ drop j ts = w_is ∙ ap (λ y. drop y ts) next_is in
      let rest_is : rest ≡ kinds_of w = cc in
      let number : kind_number t.kind ≡ x = cc in
      record {
        token = t;
        at = token_at ts i t w e;
        within = lt;
        piece = record { splits = e ∙ ap (λ y. t ∷ y) w_at; more = on };
        number = number;
        ahead = subst (λ y. Ahead s y) (rest_is ∙ ap (λ y. kinds_of y) w_at) h;
      }

-- the same before it is passed
pub there_is : {source : List ℕ} {ts : List Token} {i x : ℕ} {s : List Symbol} → AreCut source ts → Ahead (grammar.Token x ∷ s) (kinds_from ts i) → IsThere source ts i
there_is {ts = ts} {i = i} cut a = record { cut = cut; within = (pass {j = i + 1} a (record { on = λ lt. refl })).within }

pub is_mark : (t : Token) (m : Mark) → kind_number t.kind ≡ mark_number m → ltb (mark_number m) 60 ≡ true → t.kind ≡ kind.Mark m
is_mark t m same named = same_kind t.kind (kind.Mark m) same named

-- what comes next, by the kind of the next token
pub next_is : (ts : List Token) (i : ℕ) (k : TokenKind) → kind_at ts i ≡ Some k → next (kinds_from ts i) ≡ suc (kind_number k)
unfolding kinds_from
next_is ts i k h = elim (slice_get_cases ts i).1 [
  | inl q ↦
      let t = q.0 in
      let d = drop-cons ts i t q.1 in
      let is : Some t.kind ≡ Some k = sym (ap (λ o. option_map (λ u. u.kind) o) q.2) ∙ h in
      let same : t.kind ≡ k = cc in
      ap (λ y. next (kinds_of y)) d ∙ ap (λ y. suc (kind_number y.kind)) q.3 ∙ ap (λ y. suc (kind_number y)) same
  | inr q ↦ absurd (let is : None ≡ Some k = sym (ap (λ o. option_map (λ u. u.kind) o) q.1) ∙ h in cc)
]

-- nothing comes next
pub no_next : (ts : List Token) (i : ℕ) → kind_at ts i ≡ None → next (kinds_from ts i) ≡ 0
unfolding kinds_from
no_next ts i h = elim (slice_get_cases ts i).1 [
  | inl q ↦ absurd (let is : Some (q.0).kind ≡ None = sym (ap (λ o. option_map (λ u. u.kind) o) q.2) ∙ h in cc)
  | inr q ↦ ap (λ y. next (kinds_of y)) (drop_of_length-le ts {i = i} q.0)
]

-- and the other way
pub kind_is : (ts : List Token) (i : ℕ) (k : TokenKind) → next (kinds_from ts i) ≡ suc (kind_number k) → ltb (kind_number k) 60 ≡ true → kind_at ts i ≡ Some k
unfolding kinds_from
kind_is ts i k h named = elim (slice_get_cases ts i).1 [
  | inl q ↦
      let t = q.0 in
      let d = drop-cons ts i t q.1 in
      let is : suc (kind_number (get_or ts i t).kind) ≡ suc (kind_number k) = sym (ap (λ y. next (kinds_of y)) d) ∙ h in
      let same : kind_number t.kind ≡ kind_number k = ap (λ y. kind_number y.kind) (sym q.3) ∙ (omega arith) in
      ap (λ o. option_map (λ u. u.kind) o) q.2 ∙ ap (λ y. Some y) (same_kind t.kind k same named)
  | inr q ↦ absurd (let d : drop i ts ≡ [] = drop_of_length-le ts {i = i} q.0 in let is : 0 ≡ suc (kind_number k) = sym (ap (λ y. next (kinds_of y)) d) ∙ h in omega (arith, is))
]

-- ---- symbols

pub single : {s : List Symbol} {w : List ℕ} (n : ℕ) (r : List Symbol) → Ahead (Part n ∷ s) w → the_rules n 0 ≡ Some r → ((k : ℕ) → the_rules n (suc k) ≡ None) → Ahead (r ++ s) w
single {s = s} {w = w} n r a first others = let q = some_side n a in go q.number q.right q.is q.ahead where
  go : (i : ℕ) (q : List Symbol) → the_rules n i ≡ Some q → Ahead (q ++ s) w → Ahead (r ++ s) w
  go zero q is h = let same : q ≡ r = cc in subst (λ y. Ahead (y ++ s) w) same h
  go (suc i) q is h = absurd (let e = others i in cc)

-- a part that may be there or not
pub two : {s : List Symbol} {w : List ℕ} (n : ℕ) (r q : List Symbol) → Ahead (Part n ∷ s) w → the_rules n 0 ≡ Some r → the_rules n 1 ≡ Some q → ((k : ℕ) → the_rules n (suc (suc k)) ≡ None) → Ahead (r ++ s) w ⊎ Ahead (q ++ s) w
two {s = s} {w = w} n r q a first second others = let z = some_side n a in go z.number z.right z.is z.ahead where
  go : (i : ℕ) (z : List Symbol) → the_rules n i ≡ Some z → Ahead (z ++ s) w → Ahead (r ++ s) w ⊎ Ahead (q ++ s) w
  go zero z is h = let same : z ≡ r = cc in inl (subst (λ y. Ahead (y ++ s) w) same h)
  go (suc zero) z is h = let same : z ≡ q = cc in inr (subst (λ y. Ahead (y ++ s) w) same h)
  go (suc (suc i)) z is h = absurd (let e = others i in cc)

pub starts_with_token : {s : List Symbol} {w : List ℕ} {t : ℕ} → Ahead (grammar.Token t ∷ s) w → next w ≡ suc t
starts_with_token a = let n = read_next a in ap (λ y. next y) n.is

-- the right side that what comes next begins
pub use_next : {s : List Symbol} {w : List ℕ} (n l j : ℕ) (r : List Symbol) → Ahead (Part n ∷ s) w → next w ≡ l → pick table n l ≡ Some j → the_rules n j ≡ Some r → Ahead (r ++ s) w
use_next n l j r a is picks rule = use_side n j r a (ap (λ y. pick table n y) is ∙ picks) rule

-- no more of a list, each of which begins with a token
pub no_more : {s : List Symbol} {w : List ℕ} (n t : ℕ) (r : List Symbol) → Ahead (Part n ∷ s) w → the_rules n 0 ≡ Some (grammar.Token t ∷ r) → the_rules n 1 ≡ Some [] → ((k : ℕ) → the_rules n (suc (suc k)) ≡ None) → (next w ≡ suc t → ⊥) → Ahead s w
no_more n t r a first second others other = elim (two n (grammar.Token t ∷ r) [] a first second others) [ inl h ↦ absurd (other (starts_with_token h)) | inr h ↦ h ]

-- something stands before a token that isn't next
pub not_closed : {s : List Symbol} {w : List ℕ} {t : ℕ} (n : ℕ) (r : List Symbol) → Ahead (Part n ∷ grammar.Token t ∷ s) w → the_rules n 0 ≡ Some r → the_rules n 1 ≡ Some [] → ((k : ℕ) → the_rules n (suc (suc k)) ≡ None) → (next w ≡ suc t → ⊥) → Ahead (r ++ (grammar.Token t ∷ s)) w
not_closed n r a first second others other = elim (two n r [] a first second others) [ inl h ↦ h | inr h ↦ absurd (other (starts_with_token h)) ]

-- ---- pieces

pub joined : {ts : List Token} {i j k : ℕ} {a b : List Token} → Piece ts i j a → Piece ts j k b → Piece ts i k (a ++ b)
joined {ts = ts} {k = k} {a = a} {b = b} p q = record {
  splits = p.splits ∙ ap (λ y. a ++ y) q.splits ∙ sym (append_assoc a b (drop k ts));
  more = (let e = length-append a b in let f = p.more in let g = q.more in omega arith);
}

pub empty_piece : {ts : List Token} (i : ℕ) → Piece ts i i []
empty_piece i = record { splits = refl; more = omega arith }

-- a loop gets on
pub gets_on : {ts : List Token} {i j : ℕ} {w : List Token} → Piece ts i j w → 0 < length w → length ts - j < length ts - i
gets_on {ts = ts} {i = i} {j = j} {w = w} p some =
    let long = ap (λ y. length y) p.splits ∙ length-append w (drop j ts) in
    let a = length-drop i ts in
    let b = length-drop j ts in
    let more = p.more in
    omega (arith, long, a, b, more, some)

-- ---- spans

last_at : (ts : List Token) (i : ℕ) (w : List Token) (r : List Token) → drop i ts ≡ w ++ r → 0 < length w → option_map_or (λ t. t.end) (slice_get ts (i + length w - 1)) 0 ≡ end_of w
last_at ts i [] r h some = absurd (omega (arith, some))
last_at ts i (t ∷ []) r h some = let e : i + 1 - 1 ≡ i = omega arith in ap (λ y. option_map_or (λ t. t.end) (slice_get ts y) 0) e ∙ ap (λ y. option_map_or (λ t. t.end) y 0) (token_at ts i t r h)
last_at ts i (t ∷ u ∷ w) r h some =
    let lt = token_within ts i t (u ∷ (w ++ r)) h in
    let d = drop-cons ts i t lt in
    let rest : drop (suc i) ts ≡ u ∷ (w ++ r) = cc in
    let e : i + length (t ∷ u ∷ w) - 1 ≡ suc i + length (u ∷ w) - 1 = omega arith in
    ap (λ y. option_map_or (λ t. t.end) (slice_get ts y) 0) e ∙ last_at ts (suc i) (u ∷ w) r rest (omega arith)

pub spans : {ts : List Token} {i j : ℕ} {w : List Token} {x : Span} → Piece ts i j w → 0 < length w → x ≡ span_between ts i j → x ≡ span_of w
spans {w = []} p some is = absurd (omega (arith, some))
spans {ts = ts} {i = i} {j = j} {w = t ∷ w} p some is =
    let first = token_at ts i t (w ++ drop j ts) p.splits in
    let more = p.more in
    let j_is : j ≡ i + length (t ∷ w) = more in
    let last = last_at ts i (t ∷ w) (drop j ts) p.splits some in
    let f : Option Token → ℕ → Span = λ a b. record { start = option_map_or (λ t. t.start) a 0; end = b } in
    is ∙ ap₂ f first (ap (λ y. option_map_or (λ t. t.end) (slice_get ts (y - 1)) 0) j_is ∙ last)
