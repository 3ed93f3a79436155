-- How the reading of a sentence gets on.
use Rattle.std.proofs.Common.{◌≡◌, ℕ, suc, ◌+◌, ◌<◌, ◌≤◌, Bool, true, false, List, [], ◌∷◌, ◌++◌, length, take, Some, refl, sym, ap, subst, ◌∙◌, arith, append_assoc, get_or, slice_get, ltb, ltb-true, ltb-false}
use Rattle.std.proofs.lemmas.Option.{slice_get-get_or}
use Rattle.as3_lexer.specs.declared.token.Token.{Token}
use Rattle.as3_parser.specs.declared.tree.Lexeme.{Lexeme}
use Rattle.as3_parser.specs.Grammar.{Symbol, Part, Close}
use Rattle.as3_parser.specs.Grammar as grammar
use Rattle.as3_parser.specs.Predicts.{next, Nulls}
use Rattle.as3_parser.specs.Levels.{level, Deep, Nearest}
use Rattle.as3_parser.specs.Levels as levels
use Rattle.as3_parser.specs.Stands.{Fits}
use Rattle.as3_parser.specs.Derives.{Derives, done, reads, takes, passes}
use Rattle.as3_parser.specs.Table.{pick, sets}
use Rattle.as3_parser.specs.Productions.{the_rules, dangling}
use Rattle.as3_parser.specs.Syntax.{part_of, limit}
use Rattle.as3_parser.specs.Here.{table}
use Rattle.as3_parser.specs.Trees.{lexeme_of}
use Rattle.as3_parser.specs.Ahead.{Ahead, IsCut, Lexed, IsThere}
use Rattle.as3_parser.specs.declared.start.Start.TheVariants as start
use Rattle.as3_parser.proofs.Predict.{fits_on, next_take}
use Rattle.as3_parser.proofs.Levels.{deep_back, deep_some}
use Rattle.as3_parser.proofs.Derives.{taken}
use Rattle.as3_parser.proofs.Fine.{predicts_start}

there : (ts : List Token) (i : ℕ) (d : Token) → i < length ts → slice_get ts i ≡ Some (get_or ts i d)
there ts i d lt = slice_get-get_or ts i d lt

pub cut_at : {source : List ℕ} {ts : List Token} {i : ℕ} (d : Token) → IsThere source ts i → IsCut source (get_or ts i d)
cut_at {ts = ts} {i = i} d h = h.cut.each i (get_or ts i d) (there ts i d h.within)

pub lexed : {source : List ℕ} {ts : List Token} {i : ℕ} {l : Lexeme} (d : Token) → IsThere source ts i → l ≡ lexeme_of source (get_or ts i d) → Lexed source ts i (i + 1) l
lexed {source = source} {ts = ts} {i = i} d h is = record {
  skips = record { on = λ lt. refl };
  is = λ t at. (let same : Some (get_or ts i d) ≡ Some t = sym (there ts i d h.within) ∙ at in let one : get_or ts i d ≡ t = cc in is ∙ ap (λ y. lexeme_of source y) one);
}

-- the side that is picked for the next token is the one that follows
pub use_side : {w : List ℕ} {s : List Symbol} (n j : ℕ) (r : List Symbol) → Ahead (Part n ∷ s) w → pick table n (next w) ≡ Some j → the_rules n j ≡ Some r → Ahead (r ++ s) w
use_side {s = s} n j r a at rule = go a.derives a.fits a.shallow at where
  go : {v cs : List ℕ} → Derives the_rules dangling (Part n ∷ s) v cs → Fits (sets table) (Part n ∷ s) → ((i : ℕ) → i < length v → Deep the_rules dangling limit (Part n ∷ s) (take (suc i) v) → ⊥) → pick table n (next v) ≡ Some j → Ahead (r ++ s) v
  go (takes {w = v} {cs = cs} i q is near d) fits h at =
      let p = predicts_start start.Expression in
      let one = taken the_rules (part_of start.Expression) (pick table) (sets table) dangling p n s i q fits is near d in
      let same : i ≡ j = cc in
      let is2 : the_rules n j ≡ Some q = subst (λ y. the_rules n y ≡ Some q) same is in
      let side : q ≡ r = cc in
      record {
        fits = fits_on the_rules (part_of start.Expression) (pick table) (sets table) dangling p ((sets table).Follow n) r s fits.0 (p.follow n j r rule) fits.1;
        choices = cs;
        derives = subst (λ y. Derives the_rules dangling (y ++ s) v cs) side d;
        shallow = λ k lt b. h k lt (deep_back the_rules (part_of start.Expression) (pick table) (sets table) dangling p limit n s j r (ap (λ y. pick table n y) (next_take the_rules (part_of start.Expression) (pick table) (sets table) dangling p v k lt) ∙ at) rule b);
      }

-- some side is picked
pub record Side (n : ℕ) (s : List Symbol) (w : List ℕ) : Type 0 where
  pub number : ℕ
  pub right : List Symbol
  pub is : the_rules n number ≡ Some right
  pub picked : pick table n (next w) ≡ Some number
  pub ahead : Ahead (right ++ s) w

pub some_side : {w : List ℕ} {s : List Symbol} (n : ℕ) → Ahead (Part n ∷ s) w → Side n s w
some_side {w = w} {s = s} n a = go a.derives a.fits (λ j r at rule. use_side n j r a at rule) where
  go : {v cs : List ℕ} → Derives the_rules dangling (Part n ∷ s) v cs → Fits (sets table) (Part n ∷ s) → ((j : ℕ) (r : List Symbol) → pick table n (next v) ≡ Some j → the_rules n j ≡ Some r → Ahead (r ++ s) v) → Side n s v
  go (takes i q is near d) fits more =
      let one = taken the_rules (part_of start.Expression) (pick table) (sets table) dangling (predicts_start start.Expression) n s i q fits is near d in
      record { number = i; right = q; is = is; picked = one; ahead = more i q one is }

pub pass_close : {w : List ℕ} {s : List Symbol} → Ahead (Close ∷ s) w → Ahead s w
pass_close {s = s} a = go a.derives a.fits a.shallow where
  go : {v cs : List ℕ} → Derives the_rules dangling (Close ∷ s) v cs → Fits (sets table) (Close ∷ s) → ((j : ℕ) → j < length v → Deep the_rules dangling limit (Close ∷ s) (take (suc j) v) → ⊥) → Ahead s v
  go (passes {cs = cs} d) fits h = record { fits = fits; choices = cs; derives = d; shallow = λ j lt q. h j lt (levels.passes q) }

-- the next token is the one on top, below level 65
pub record Next (t : ℕ) (s : List Symbol) (w : List ℕ) : Type 0 where
  pub rest : List ℕ
  pub is : w ≡ t ∷ rest
  pub low : limit ≤ level s → ⊥
  pub ahead : Ahead s rest

read_back : (t : ℕ) (s : List Symbol) (v : List ℕ) (j : ℕ) → j < length v → Deep the_rules dangling limit s (take (suc j) v) → Deep the_rules dangling limit (grammar.Token t ∷ s) (t ∷ take (suc j) v)
read_back t s [] j lt d = absurd (omega arith)
read_back t s (u ∷ v) j lt d = levels.reads d

pub read_next : {w : List ℕ} {s : List Symbol} {t : ℕ} → Ahead (grammar.Token t ∷ s) w → Next t s w
read_next {s = s} {t = t} a = go a.derives a.fits a.shallow where
  go : {v cs : List ℕ} → Derives the_rules dangling (grammar.Token t ∷ s) v cs → Fits (sets table) (grammar.Token t ∷ s) → ((j : ℕ) → j < length v → Deep the_rules dangling limit (grammar.Token t ∷ s) (take (suc j) v) → ⊥) → Next t s v
  go (reads {w = v} {cs = cs} d) fits h = record { rest = v; is = refl; low = λ q. h 0 (omega arith) (levels.last q); ahead = record { fits = fits; choices = cs; derives = d; shallow = λ j lt q. h (suc j) (omega arith) (read_back t s v j lt q) } }

pub nothing_left : {w : List ℕ} → Ahead [] w → w ≡ []
nothing_left a = go a.derives where
  go : {v cs : List ℕ} → Derives the_rules dangling [] v cs → v ≡ []
  go done = refl

level_more : (a s : List Symbol) → level s ≤ level (a ++ s)
level_more [] s = omega arith
level_more (grammar.Token t ∷ a) s = level_more a s
level_more (Part n ∷ a) s = level_more a s
level_more (Close ∷ a) s = let h = level_more a s in omega arith

nulls_split : (a b : List Symbol) → Nulls (sets table) (a ++ b) → Nulls (sets table) a × Nulls (sets table) b
nulls_split [] b h = (tt, h)
nulls_split (grammar.Token t ∷ a) b h = absurd h
nulls_split (Close ∷ a) b h = nulls_split a b h
nulls_split (Part n ∷ a) b h = let q = nulls_split a b h.1 in ((h.0, q.0), q.1)

next_first : (w : List ℕ) → next (take 1 w) ≡ next w
next_first [] = refl
next_first (t ∷ w) = refl

-- the first token of symbols that aren't null is read with all the marks that stand behind them
first_deep : {z : List Symbol} {w cs : List ℕ} → Derives the_rules dangling z w cs → (a s : List Symbol) → z ≡ a ++ s → (Nulls (sets table) a → ⊥) → limit ≤ level s → Deep the_rules dangling limit z (take 1 w)
first_deep d [] s e some high = absurd (some tt)
first_deep done (y ∷ a) s e some high = absurd (cc)
first_deep (reads {s = z} d) (grammar.Token u ∷ a) s e some high = let f : z ≡ a ++ s = cc in let h = level_more a s in levels.last (subst (λ y. limit ≤ level y) (sym f) (omega arith))
first_deep (reads d) (Part u ∷ a) s e some high = absurd (cc)
first_deep (reads d) (Close ∷ a) s e some high = absurd (cc)
first_deep (passes d) (grammar.Token u ∷ a) s e some high = absurd (cc)
first_deep (passes d) (Part u ∷ a) s e some high = absurd (cc)
first_deep (passes {s = z} d) (Close ∷ a) s e some high = let f : z ≡ a ++ s = cc in levels.passes (first_deep d a s f some high)
first_deep (takes i r is near d) (grammar.Token u ∷ a) s e some high = absurd (cc)
first_deep (takes i r is near d) (Close ∷ a) s e some high = absurd (cc)
first_deep (takes {n = n} {s = z} {w = w} i r is near d) (Part u ∷ a) s e some high =
    let p = predicts_start start.Expression in
    let f : z ≡ a ++ s = cc in
    let same : n ≡ u = cc in
    let not_null : Nulls (sets table) (r ++ a) → ⊥ = λ q. let k = nulls_split r a q in some (subst (λ y. (sets table).Null y) same (p.null n i r is k.0), k.1) in
    levels.takes i r is (subst (λ y. Nearest dangling n r y) (sym (next_first w)) near) (first_deep d (r ++ a) s (ap (λ y. r ++ y) f ∙ sym (append_assoc r a s)) not_null high)

-- a part that isn't null begins below level 65
pub level_low : {w : List ℕ} {s : List Symbol} (n : ℕ) → Ahead (Part n ∷ s) w → ((sets table).Null n → ⊥) → level s < limit
level_low {w = w} {s = s} n a some = go (ltb (level s) limit) refl where
  at_first : (v : List ℕ) → ((j : ℕ) → j < length v → Deep the_rules dangling limit (Part n ∷ s) (take (suc j) v) → ⊥) → Deep the_rules dangling limit (Part n ∷ s) (take 1 v) → ⊥
  at_first [] h d = deep_some the_rules (part_of start.Expression) (pick table) (sets table) dangling (predicts_start start.Expression) limit d ⊥ refl
  at_first (t ∷ v) h d = h 0 (omega arith) d

  go : (b : Bool) → ltb (level s) limit ≡ b → level s < limit
  go true e = ltb-true (level s) limit e
  go false e = absurd (at_first w a.shallow (first_deep a.derives (Part n ∷ []) s refl (λ q. some q.0) (ltb-false (level s) limit e)))
