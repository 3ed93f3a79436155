-- What the loop keeps.
use Rattle.std.proofs.Common.{◌≡◌, ℕ, suc, ◌+◌, ◌-◌, ◌<◌, ◌≤◌, Bool, true, false, ◌&&◌, List, [], ◌∷◌, ◌++◌, length, drop, get_or, Option, Some, None, refl, sym, ap, subst, subst₂, ◌∙◌, arith, lt-ltb, ltb, ltb-true, ltb-false, eqb, eqb-true, drop-cons, drop_of_length-le}
use Rattle.std.proofs.lemmas.Bool.{eq-eqb}
use Rattle.as3_parser.specs.Grammar.{Symbol, Token, Part, Close, nth}
use Rattle.as3_parser.specs.Exact.{Exact, right, wrong}
use Rattle.as3_parser.specs.Levels.{DeepAt}
use Rattle.as3_parser.specs.Judged.{Outcome, Sentence, Syntax, TooDeep, Judged, fine, syntax, deep}
use Rattle.as3_parser.specs.Marks.{marks}
use Rattle.as3_parser.specs.Predicts.{next, Predicts}
use Rattle.as3_parser.specs.Table.{Entry, entry, rules, pick, sets, nulls, heft}
use Rattle.as3_parser.specs.Productions.{the_rules, dangling}
use Rattle.as3_parser.specs.Syntax.{part_of, limit}
use Rattle.as3_parser.specs.Here.{table, unlimited, symbol_of, symbols, Stands, Stops, Took, Refused, Settled, Settles, Reaches, load, is_read, is_spent, deepest, IsDeep, DeepSoFar, SoFar, DeepIs, HasFaults}
use Rattle.as3_parser.specs.declared.start.Start.{Start}
use Rattle.as3_parser.specs.declared.start.Start.TheVariants as start
use Rattle.as3_parser.specs.declared.faults.Top.{Top}
use Rattle.as3_parser.specs.declared.faults.Top.TheVariants.{Reads, Empty, Fails}
use Rattle.as3_parser.proofs.Tables.{sound, side_listed, implies, both}
use Rattle.as3_parser.proofs.Derives.{derives_reads}
use Rattle.as3_parser.proofs.Prefixes.{not_deep_behind}
use Rattle.as3_parser.proofs.Judge.{at_start, at_use, at_act, at_read, answer_end, answer_extra, answer_token, answer_short, answer_none, answer_deep}
use Rattle.as3_parser.proofs.Marks.{marks_level}
use Rattle.as3_parser.proofs.Fine.{fits, same_rules, predicts_start}

token_of : (b : ℕ) → b < 128 → symbol_of b ≡ Token b
token_of b h = go (ltb b 128) (lt-ltb b 128 h) where
  go : (t : Bool) → t ≡ true → (elim t as (λ _. Symbol) [ true ↦ Token b | false ↦ elim (ltb b 255) [ true ↦ Part (b - 128) | false ↦ Close ] ]) ≡ Token b
  go true h = refl
  go false h = absurd (cc)

part_symbol : (b : ℕ) → 128 ≤ b → b < 255 → symbol_of b ≡ Part (b - 128)
part_symbol b h k = go (ltb b 128) (ltb b 255) refl (lt-ltb b 255 k) where
  go : (t u : Bool) → ltb b 128 ≡ t → u ≡ true → (elim t as (λ _. Symbol) [ true ↦ Token b | false ↦ elim u as (λ _. Symbol) [ true ↦ Part (b - 128) | false ↦ Close ] ]) ≡ Part (b - 128)
  go true u e f = absurd (let k : b < 128 = ltb-true b 128 e in omega arith)
  go false true e f = refl
  go false false e f = absurd (cc)

act_of : (b : ℕ) → 255 ≤ b → symbol_of b ≡ Close
act_of b h = go (ltb b 128) (ltb b 255) refl refl where
  go : (t u : Bool) → ltb b 128 ≡ t → ltb b 255 ≡ u → (elim t as (λ _. Symbol) [ true ↦ Token b | false ↦ elim u as (λ _. Symbol) [ true ↦ Part (b - 128) | false ↦ Close ] ]) ≡ Close
  go true u e f = absurd (let k : b < 128 = ltb-true b 128 e in omega arith)
  go false true e f = absurd (let k : b < 255 = ltb-true b 255 f in omega arith)
  go false false e f = refl

pub settle_token : (l : ℕ) (old cur new : List ℕ) (t : ℕ) → Reaches l old cur → cur ≡ t ∷ new → t < 128 → Settles l old (Reads t) new
unfolding symbols
settle_token l old cur new t h is lt = record { from = λ m start ts i a e. subst (λ y. Stands m start ts i y) (ap (λ y. symbols y) is ∙ ap (λ y. y ∷ symbols new) (token_of t lt)) (h.from m start ts i a e) }

pub settle_empty : (l : ℕ) (old cur new : List ℕ) → Reaches l old cur → cur ≡ [] → Settles l old Empty new
unfolding symbols
settle_empty l old cur new h is = record { from = λ m start ts i a e. subst (λ y. Stands m start ts i y) (ap (λ y. symbols y) is) (h.from m start ts i a e) }

part_stands : (l : ℕ) (old cur mid : List ℕ) (t : ℕ) → Reaches l old cur → cur ≡ t ∷ mid → 128 ≤ t → t < 255 → (m start : ℕ) (ts : List ℕ) (i : ℕ) → Stands m start ts i (symbols old) → next (drop i ts) ≡ l → Stands m start ts i (Part (t - 128) ∷ symbols mid)
unfolding symbols
part_stands l old cur mid t h is le lw m start ts i a e = subst (λ y. Stands m start ts i y) (ap (λ y. symbols y) is ∙ ap (λ y. y ∷ symbols mid) (part_symbol t le lw)) (h.from m start ts i a e)

pub settle_fails : (l : ℕ) (old cur mid new : List ℕ) (t : ℕ) → Reaches l old cur → cur ≡ t ∷ mid → 128 ≤ t → t < 255 → Refused (t - 128) l → Settles l old Fails new
settle_fails l old cur mid new t h is le lw refused =
    record { from = λ m start ts i a e. let s = part_stands l old cur mid t h is le lw m start ts i a e in record { is = answer_none the_rules start (pick table) (sets table) dangling a.predicts m ts i (t - 128) (symbols mid) s.at (ap (λ y. pick table (t - 128) y) e ∙ refused.is) } }

pub settle_more : (l : ℕ) (old cur mid new : List ℕ) (t : ℕ) → Reaches l old cur → cur ≡ t ∷ mid → 128 ≤ t → t < 255 → Took (t - 128) l mid new → Reaches l old new
settle_more l old cur mid new t h is le lw k =
    record { from = λ m start ts i a e. let s = part_stands l old cur mid t h is le lw m start ts i a e in subst (λ y. Stands m start ts i y) (sym k.stack) (record { at = at_use the_rules start (pick table) (sets table) dangling a.predicts m ts i (t - 128) (symbols mid) k.side k.right s.at (ap (λ y. pick table (t - 128) y) e ∙ k.picks) (sym (same_rules (t - 128) k.side) ∙ k.is); predicts = a.predicts }) }

act_stack : (cur mid : List ℕ) (t : ℕ) → cur ≡ t ∷ mid → 255 ≤ t → symbols cur ≡ Close ∷ symbols mid
unfolding symbols
act_stack cur mid t is le = ap (λ y. symbols y) is ∙ ap (λ y. y ∷ symbols mid) (act_of t le)

pub settle_act : (l : ℕ) (old cur new : List ℕ) (t : ℕ) → Reaches l old cur → cur ≡ t ∷ new → 255 ≤ t → Reaches l old new
settle_act l old cur new t h is le =
    record { from = λ m start ts i a e. let s = subst (λ y. Stands m start ts i y) (act_stack cur new t is le) (h.from m start ts i a e) in record { at = at_act the_rules start (pick table) (sets table) dangling a.predicts m ts i (symbols new) s.at; predicts = a.predicts } }

pub act_smaller : (cur new : List ℕ) (t : ℕ) → cur ≡ t ∷ new → 255 ≤ t → load new < load cur
unfolding load
act_smaller cur new t is le = subst (λ y. heft table (symbols new) < heft table y) (sym (act_stack cur new t is le)) (omega arith)

heft_null : (es : List Entry) (a s : List Symbol) → nulls es a ≡ true → heft es (a ++ s) ≡ heft es a + heft es s
heft_null es [] s h = omega arith
heft_null es (Token t ∷ a) s h = absurd (cc)
heft_null es (Close ∷ a) s h = let e = heft_null es a s h in omega arith
heft_null es (Part m ∷ a) s h = let p = both ((entry es m).null) (nulls es a) h in go ((entry es m).null) p.0 (heft_null es a s p.1) where
  go : (b : Bool) → b ≡ true → heft es (a ++ s) ≡ heft es a + heft es s → (elim b as (λ _. ℕ) [ true ↦ (entry es m).weight + heft es (a ++ s) | false ↦ (entry es m).weight ]) ≡ (elim b as (λ _. ℕ) [ true ↦ (entry es m).weight + heft es a | false ↦ (entry es m).weight ]) + heft es s
  go true h e = omega arith
  go false h e = absurd (cc)

heft_solid : (es : List Entry) (a s : List Symbol) → nulls es a ≡ false → heft es (a ++ s) ≡ heft es a
heft_solid es [] s h = absurd (cc)
heft_solid es (Token t ∷ a) s h = refl
heft_solid es (Close ∷ a) s h = ap (λ y. suc y) (heft_solid es a s h)
heft_solid es (Part m ∷ a) s h = go ((entry es m).null) h (λ q. heft_solid es a s q) where
  go : (b : Bool) → (b && nulls es a) ≡ false → (nulls es a ≡ false → heft es (a ++ s) ≡ heft es a) → (elim b as (λ _. ℕ) [ true ↦ (entry es m).weight + heft es (a ++ s) | false ↦ (entry es m).weight ]) ≡ (elim b as (λ _. ℕ) [ true ↦ (entry es m).weight + heft es a | false ↦ (entry es m).weight ])
  go true h e = ap (λ y. (entry es m).weight + y) (e h)
  go false h e = refl

lighter : (es : List Entry) (n : ℕ) (a s : List Symbol) → heft es a < (entry es n).weight → (nulls es a ≡ true → (entry es n).null ≡ true) → heft es (a ++ s) < heft es (Part n ∷ s)
lighter es n a s lt null = go (nulls es a) ((entry es n).null) refl refl where
  go : (b d : Bool) → nulls es a ≡ b → (entry es n).null ≡ d → heft es (a ++ s) < (elim d as (λ _. ℕ) [ true ↦ (entry es n).weight + heft es s | false ↦ (entry es n).weight ])
  go true true p q = let e = heft_null es a s p in omega arith
  go true false p q = absurd (let e : (entry es n).null ≡ true = null p in (cc))
  go false true p q = let e = heft_solid es a s p in omega arith
  go false false p q = let e = heft_solid es a s p in omega arith

pub took_lighter : (n j : ℕ) (r s : List Symbol) → rules table n j ≡ Some r → heft table (r ++ s) < heft table (Part n ∷ s)
took_lighter n j r s is =
    let z = side_listed (nth (entry table n).sides j) r is in
    let k = sound table dangling fits n j z.0 z.1 in
    let h = lighter table n z.0.symbols s (ltb-true _ _ k.light) (implies _ _ k.null) in
    subst (λ y. heft table (y ++ s) < heft table (Part n ∷ s)) z.2 h

stack_part : (cur mid : List ℕ) (t : ℕ) → cur ≡ t ∷ mid → 128 ≤ t → t < 255 → symbols cur ≡ Part (t - 128) ∷ symbols mid
unfolding symbols
stack_part cur mid t is le lw = ap (λ y. symbols y) is ∙ ap (λ y. y ∷ symbols mid) (part_symbol t le lw)

smaller_by : (a b : List Symbol) {x y : List Symbol} → a ≡ x → b ≡ y → heft table y < heft table x → heft table b < heft table a
smaller_by a b p q h = subst₂ (λ u v. heft table u < heft table v) (sym q) (sym p) h

pub settle_smaller : (l : ℕ) (cur mid new : List ℕ) (t : ℕ) → cur ≡ t ∷ mid → 128 ≤ t → t < 255 → Took (t - 128) l mid new → load new < load cur
unfolding load
settle_smaller l cur mid new t is le lw k = smaller_by (symbols cur) (symbols new) (stack_part cur mid t is le lw) k.stack (took_lighter (t - 128) k.side k.right (symbols mid) k.is)

pub reaches_start : (l : ℕ) (old : List ℕ) → Reaches l old old
reaches_start l old = record { from = λ m start ts i a e. a }

first_symbols : (s : Start) → symbols ((128 + part_of s) ∷ []) ≡ Part (part_of s) ∷ []
unfolding symbols
first_symbols start.ClassFile = refl
first_symbols start.Members = refl
first_symbols start.Handler = refl
first_symbols start.Metadata = refl
first_symbols start.Expression = refl

begin : (m : ℕ) (s : Start) (ts new : List ℕ) (top : ℕ) → top ≡ 128 + part_of s → new ≡ top ∷ [] → Stands m (part_of s) ts 0 (symbols new)
begin m s ts new top at is =
    let p = predicts_start s in
    subst (λ y. Stands m (part_of s) ts 0 y) (sym (ap symbols (is ∙ ap (λ y. y ∷ []) at) ∙ first_symbols s))
    (record { at = at_start the_rules (part_of s) (pick table) (sets table) dangling p m ts; predicts = p })

pub starts : (s : Start) (ts new : List ℕ) (top : ℕ) → top ≡ 128 + part_of s → new ≡ top ∷ [] → SoFar (part_of s) ts 0 (symbols new) None
starts s ts new top at is = record { stands = begin unlimited s ts new top at is; deep = begin limit s ts new top at is }

next_at : (ts : List ℕ) (i : ℕ) → i < length ts → drop i ts ≡ get_or ts i 0 ∷ drop (i + 1) ts
next_at ts i lt = let e : suc i ≡ i + 1 = omega arith in subst (λ y. drop i ts ≡ get_or ts i 0 ∷ drop y ts) e (drop-cons ts i 0 lt)

-- what the top of the stack says, where a token comes next
settled : (m start : ℕ) (ts old new : List ℕ) (l : ℕ) (top : Top) (i : ℕ) → i < length ts → Stands m start ts i (symbols old) → Settles l old top new → l ≡ get_or ts i 0 + 1 → Settled m start ts i top new
settled m start ts old new l top i lt a h l_is =
    let one : suc (get_or ts i 0) ≡ get_or ts i 0 + 1 = omega arith in
    h.from m start ts i a (ap (λ y. next y) (next_at ts i lt) ∙ one ∙ sym l_is)

reads_more : (m start : ℕ) (ts new : List ℕ) (i t : ℕ) → i < length ts → Stands m start ts i (Token t ∷ symbols new) → t ≡ get_or ts i 0 → marks new < m → Stands m start ts (i + 1) (symbols new)
reads_more m start ts new i t lt s is low =
    record { at = at_read the_rules start (pick table) (sets table) dangling s.predicts m ts i t (symbols new) (let z = marks_level new in omega arith) s.at (next_at ts i lt ∙ ap (λ y. y ∷ drop (i + 1) ts) (sym is)); predicts = s.predicts }

reads_deep : (m start : ℕ) (ts new : List ℕ) (i t : ℕ) → i < length ts → Stands m start ts i (Token t ∷ symbols new) → t ≡ get_or ts i 0 → m ≤ marks new → Judged the_rules dangling m (Part start ∷ []) ts (TooDeep i)
reads_deep m start ts new i t lt s is high =
    answer_deep the_rules start (pick table) (sets table) dangling s.predicts m ts i t (symbols new) (drop (i + 1) ts) s.at (next_at ts i lt ∙ ap (λ y. y ∷ drop (i + 1) ts) (sym is)) (let z = marks_level new in omega arith)

-- the token that comes next is not read
not_read : (m start : ℕ) (ts new : List ℕ) (top : Top) (i kind : ℕ) → i < length ts → Settled m start ts i top new → kind ≡ get_or ts i 0 → is_read top kind ≡ false → Stops m start ts i
not_read m start ts new (Reads t) i kind lt s is other =
    let differs : t ≡ get_or ts i 0 → ⊥ = λ e. (let f : eqb t t ≡ false = subst (λ y. eqb t y ≡ false) (is ∙ sym e) other in let g : eqb t t ≡ true = eq-eqb t t refl in (cc)) in
    record { is = answer_token the_rules start (pick table) (sets table) dangling s.predicts m ts i t (get_or ts i 0) (symbols new) (drop (i + 1) ts) s.at (next_at ts i lt) differs }
not_read m start ts new Empty i kind lt s is other =
    record { is = answer_extra the_rules start (pick table) (sets table) dangling s.predicts m ts i (get_or ts i 0) (drop (i + 1) ts) s.at (next_at ts i lt) }
not_read m start ts new Fails i kind lt s is other = s

read_top : (top : Top) (kind : ℕ) → is_read top kind ≡ true → top ≡ Reads kind
read_top (Reads t) kind h = ap (λ y. Reads y) (eqb-true t kind h)
read_top Empty kind h = absurd (cc)
read_top Fails kind h = absurd (cc)

-- ---- what was judged says of faults

exact_stops : (m start : ℕ) (ts : List ℕ) (i : ℕ) → Stops m start ts i → Exact the_rules (Part start ∷ []) ts (Some i)
exact_stops m start ts i stops = go (Syntax i) i refl stops.is where
  go : (a : Outcome) (k : ℕ) → a ≡ Syntax k → Judged the_rules dangling m (Part start ∷ []) ts a → Exact the_rules (Part start ∷ []) ts (Some k)
  go a k e (fine cs d h) = absurd (cc)
  go a k e (syntax j f h) = let same : j ≡ k = cc in subst (λ y. Exact the_rules (Part start ∷ []) ts (Some y)) same (wrong j f)
  go a k e (deep j f) = absurd (cc)

shallow_stops : (m start : ℕ) (ts : List ℕ) (i : ℕ) → Stops m start ts i → (d : ℕ) → ¬ (DeepAt the_rules dangling m (Part start ∷ []) ts d)
shallow_stops m start ts i stops d at = go (Syntax i) i refl stops.is where
  go : (a : Outcome) (k : ℕ) → a ≡ Syntax k → Judged the_rules dangling m (Part start ∷ []) ts a → ⊥
  go a k e (fine cs q h) = absurd (cc)
  go a k e (syntax j f h) = not_deep_behind the_rules dangling m (Part start ∷ []) ts j d f h at
  go a k e (deep j f) = absurd (cc)

deep_of : (start : ℕ) (ts : List ℕ) (i : ℕ) → Judged the_rules dangling limit (Part start ∷ []) ts (TooDeep i) → IsDeep start ts i
deep_of start ts i j = go (TooDeep i) i refl j where
  go : (a : Outcome) (k : ℕ) → a ≡ TooDeep k → Judged the_rules dangling limit (Part start ∷ []) ts a → IsDeep start ts k
  go a k e (fine cs q h) = absurd (cc)
  go a k e (syntax j f h) = absurd (cc)
  go a k e (deep j f) = let same : j ≡ k = cc in subst (λ y. IsDeep start ts y) same f

pub exact_whole : (m start : ℕ) (ts : List ℕ) → Predicts the_rules start (pick table) (sets table) dangling → Judged the_rules dangling m (Part start ∷ []) ts Sentence → Exact the_rules (Part start ∷ []) ts None
exact_whole m start ts p j = go Sentence refl j where
  go : (a : Outcome) → a ≡ Sentence → Judged the_rules dangling m (Part start ∷ []) ts a → Exact the_rules (Part start ∷ []) ts None
  go a e (fine cs d h) = right (derives_reads the_rules start (pick table) (sets table) dangling p d)
  go a e (syntax j f h) = absurd (cc)
  go a e (deep j f) = absurd (cc)

pub shallow_whole : (m start : ℕ) (ts : List ℕ) → Judged the_rules dangling m (Part start ∷ []) ts Sentence → (d : ℕ) → ¬ (DeepAt the_rules dangling m (Part start ∷ []) ts d)
shallow_whole m start ts j d at = go Sentence refl j where
  go : (a : Outcome) → a ≡ Sentence → Judged the_rules dangling m (Part start ∷ []) ts a → ⊥
  go a e (fine cs q h) = h d at.within at.opens
  go a e (syntax j f h) = absurd (cc)
  go a e (deep j f) = absurd (cc)

-- ---- the loop

goes_deep : (start : ℕ) (ts new : List ℕ) (i t open_levels : ℕ) → i < length ts → Stands limit start ts i (Token t ∷ symbols new) → t ≡ get_or ts i 0 → open_levels ≡ marks new → DeepSoFar start ts (i + 1) (symbols new) (deepest None i open_levels)
goes_deep start ts new i t open_levels lt s is same = go (ltb open_levels limit) refl where
  go : (b : Bool) → ltb open_levels limit ≡ b → DeepSoFar start ts (i + 1) (symbols new) (elim b as (λ _. Option ℕ) [ true ↦ None | false ↦ Some i ])
  go true e = reads_more limit start ts new i t lt s is (subst (λ y. y < limit) same (ltb-true open_levels limit e))
  go false e = deep_of start ts i (reads_deep limit start ts new i t lt s is (subst (λ y. limit ≤ y) same (ltb-false open_levels limit e)))

pub goes_on : (start : ℕ) (ts old new : List ℕ) (l : ℕ) (top : Top) (i kind open_levels : ℕ) (before after : Option ℕ) → i < length ts → SoFar start ts i (symbols old) before → Settles l old top new → l ≡ get_or ts i 0 + 1 → kind ≡ get_or ts i 0 → is_read top kind ≡ true → open_levels ≡ marks new → open_levels < unlimited → after ≡ deepest before i open_levels → SoFar start ts (i + 1) (symbols new) after
goes_on start ts old new l top i kind open_levels before after lt so_far h l_is is read same few after_is =
    let there = subst (λ y. Settled unlimited start ts i y new) (read_top top kind read) (settled unlimited start ts old new l top i lt so_far.stands h l_is) in
    record {
      stands = reads_more unlimited start ts new i kind lt there is (subst (λ y. y < unlimited) same few);
      deep = subst (λ y. DeepSoFar start ts (i + 1) (symbols new) y) (sym after_is) (go before so_far.deep);
    }
  where
    go : (d : Option ℕ) → DeepSoFar start ts i (symbols old) d → DeepSoFar start ts (i + 1) (symbols new) (deepest d i open_levels)
    go None s = goes_deep start ts new i kind open_levels lt (subst (λ y. Settled limit start ts i y new) (read_top top kind read) (settled limit start ts old new l top i lt s h l_is)) is same
    go (Some d) s = s

stops_deep : (start : ℕ) (ts old : List ℕ) (i j : ℕ) (first : Option ℕ) → DeepSoFar start ts i (symbols old) first → (Stands limit start ts i (symbols old) → Stops limit start ts j) → DeepIs start ts first
stops_deep start ts old i j None s stop = shallow_stops limit start ts j (stop s)
stops_deep start ts old i j (Some d) s stop = s

pub stops : (start : ℕ) (ts old new : List ℕ) (l : ℕ) (top : Top) (i kind : ℕ) (first : Option ℕ) → i < length ts → SoFar start ts i (symbols old) first → Settles l old top new → l ≡ get_or ts i 0 + 1 → kind ≡ get_or ts i 0 → is_read top kind ≡ false → HasFaults start ts (Some i) first
stops start ts old new l top i kind first lt so_far h l_is is other = record {
  syntax = exact_stops unlimited start ts i (not_read unlimited start ts new top i kind lt (settled unlimited start ts old new l top i lt so_far.stands h l_is) is other);
  deep = stops_deep start ts old i i first so_far.deep (λ s. not_read limit start ts new top i kind lt (settled limit start ts old new l top i lt s h l_is) is other);
}

at_end : (ts : List ℕ) (i : ℕ) → i ≡ length ts → drop i ts ≡ []
at_end ts i h = drop_of_length-le ts {i = i} (omega arith)

settled_end : (m start : ℕ) (ts old new : List ℕ) (top : Top) (i : ℕ) → i ≡ length ts → Stands m start ts i (symbols old) → Settles 0 old top new → Settled m start ts i top new
settled_end m start ts old new top i end a h = h.from m start ts i a (ap (λ y. next y) (at_end ts i end))

spent : (m start : ℕ) (ts new : List ℕ) (top : Top) (i : ℕ) → i ≡ length ts → Settled m start ts i top new → is_spent top ≡ true → Judged the_rules dangling m (Part start ∷ []) ts Sentence
spent m start ts new (Reads t) i end s h = absurd (cc)
spent m start ts new Empty i end s h = answer_end the_rules start (pick table) (sets table) dangling s.predicts m ts i s.at (at_end ts i end)
spent m start ts new Fails i end s h = absurd (cc)

not_spent : (m start : ℕ) (ts new : List ℕ) (top : Top) (i : ℕ) → i ≡ length ts → Settled m start ts i top new → is_spent top ≡ false → Stops m start ts (length ts)
not_spent m start ts new (Reads t) i end s h = subst (λ y. Stops m start ts y) end (record { is = answer_short the_rules start (pick table) (sets table) dangling s.predicts m ts i t (symbols new) s.at (at_end ts i end) })
not_spent m start ts new Empty i end s h = absurd (cc)
not_spent m start ts new Fails i end s h = subst (λ y. Stops m start ts y) end s

pub ends_well : (start : ℕ) (ts old new : List ℕ) (top : Top) (i : ℕ) (first : Option ℕ) → i ≡ length ts → SoFar start ts i (symbols old) first → Settles 0 old top new → is_spent top ≡ true → HasFaults start ts None first
ends_well start ts old new top i first end so_far h well = record {
  syntax = exact_whole unlimited start ts so_far.stands.predicts (spent unlimited start ts new top i end (settled_end unlimited start ts old new top i end so_far.stands h) well);
  deep = go first so_far.deep;
}
  where
    go : (d : Option ℕ) → DeepSoFar start ts i (symbols old) d → DeepIs start ts d
    go None s = shallow_whole limit start ts (spent limit start ts new top i end (settled_end limit start ts old new top i end s h) well)
    go (Some d) s = s

pub ends_short : (start : ℕ) (ts old new : List ℕ) (top : Top) (i : ℕ) (first : Option ℕ) → i ≡ length ts → SoFar start ts i (symbols old) first → Settles 0 old top new → is_spent top ≡ false → HasFaults start ts (Some (length ts)) first
ends_short start ts old new top i first end so_far h short = record {
  syntax = exact_stops unlimited start ts (length ts) (not_spent unlimited start ts new top i end (settled_end unlimited start ts old new top i end so_far.stands h) short);
  deep = stops_deep start ts old i (length ts) first so_far.deep (λ s. not_spent limit start ts new top i end (settled_end limit start ts old new top i end s h) short);
}
