-- Attributes: where their parts end.
use Rattle.std.proofs.Common.{◌≡◌, ◌≢◌, ◌⊎◌, ℕ, ◌+◌, ◌-◌, ◌<◌, ◌≤◌, List, [], ◌∷◌, ◌++◌, length, Bool, true, false, inl, inr, refl, ap, sym, ◌∙◌, subst, true≢false, eqb, append_assoc, arith}
use Rattle.std.specs.Prelude.{◌||◌, codes}
use Rattle.std.specs.List.{list_all}
use lib.Utf8.{encode, encodes}
use Rattle.std.proofs.lemmas.Str.{length-encode, len_utf8_bounds}
use Rattle.std.proofs.lemmas.List.{length-append, append_cancel_left}
use Rattle.mxml_items.specs.Runs.{IsRun, StopsAt, is_in_name}
use Rattle.mxml_items.specs.Names.{IsPart, IsName, BeginsWithName, HasNoName}
use Rattle.mxml_items.specs.Pieces.{is_white, is_in_value, IsWritten}
use Rattle.mxml_items.specs.Items.{Written, IsWhite, IsValue, IsAttribute, AreAttributes}
use Rattle.mxml_items.specs.Reading.{BeginsWithQuoted, HasNoQuoted, BeginsWithValue, BeginsWithGiven, HasNoGiven, BeginsWithAttribute, HasNoAttribute, BeginsWithAttributes}
use Rattle.mxml_items.proofs.RunLaws.{both, head, tail, same_run}
use Rattle.mxml_items.proofs.NameLaws.{name_passes}
use Rattle.mxml_items.proofs.References.{either}
use Rattle.mxml_items.proofs.PieceLaws.{same_pieces, quote_ends}

pub no_ampersand : (quote : ℕ) → (quote ≡ 34) ⊎ (quote ≡ 39) → quote ≢ 38
no_ampersand quote (inl e) same = omega (arith, e, same)
no_ampersand quote (inr e) same = omega (arith, e, same)

-- a value is all pieces up to its quote
pub value_cut : (quote : ℕ) (body value end : List ℕ) → IsWritten (is_in_value quote) body value end → (v r : List ℕ) → BeginsWithValue quote body v r → (value ≡ v) × (end ≡ quote ∷ r)
value_cut quote body value end w v r b =
    let ends = quote_ends quote r (no_ampersand quote b.is_value.is_quote) in
    let same = sym w.is ∙ b.is in
    let values = same_pieces (is_in_value quote) w.pieces b.is_value.pieces value end v (quote ∷ r) w.are_pieces b.is_value.are_pieces same w.no_more ends in
    (values, append_cancel_left v end (quote ∷ r) (ap (λ x. x ++ end) (sym values) ∙ same))

-- of one text two values end alike
value_rest : (quote : ℕ) (body v r w s : List ℕ) → BeginsWithValue quote body v r → BeginsWithValue quote body w s → r ≡ s
value_rest quote body v r w s b d =
    let ends = quote_ends quote r (no_ampersand quote b.is_value.is_quote) in
    ap tail (value_cut quote body v (quote ∷ r) (record { pieces = b.is_value.pieces; is = b.is; are_pieces = b.is_value.are_pieces; no_more = ends }) w s d).1

quoted_rest : (text v r w s : List ℕ) → BeginsWithQuoted text v r → BeginsWithQuoted text w s → r ≡ s
quoted_rest text v r w s b d =
    let same = sym b.is ∙ d.is in
    let quotes : b.quote ≡ d.quote = ap (head 0) same in
    value_rest b.quote (v ++ (b.quote ∷ r)) v r w s (record { is = refl; is_value = b.is_value })
    (record { is = ap tail same ∙ ap (λ q. w ++ (q ∷ s)) (sym quotes); is_value = subst (λ q. IsValue q w) (sym quotes) d.is_value })

-- white space, by its bytes
white_bytes : (b : ℕ) → is_white b ≡ true → ((b ≡ 32) ⊎ (b ≡ 9)) ⊎ ((b ≡ 10) ⊎ (b ≡ 13))
white_bytes b pass = go (either ((eqb b 32) || (eqb b 9)) ((eqb b 10) || (eqb b 13)) pass)
  where
    same : (b n : ℕ) → eqb b n ≡ true → b ≡ n
    same b n e = grind arith

    two : (m n : ℕ) → (eqb b m ≡ true) ⊎ (eqb b n ≡ true) → (b ≡ m) ⊎ (b ≡ n)
    two m n (inl e) = inl (same b m e)
    two m n (inr e) = inr (same b n e)

    go : ((eqb b 32 || eqb b 9) ≡ true) ⊎ ((eqb b 10 || eqb b 13) ≡ true) → ((b ≡ 32) ⊎ (b ≡ 9)) ⊎ ((b ≡ 10) ⊎ (b ≡ 13))
    go (inl e) = inl (two 32 9 (either (eqb b 32) (eqb b 9) e))
    go (inr e) = inr (two 10 13 (either (eqb b 10) (eqb b 13) e))

-- a test that no white space passes
pub white_fails : (test : ℕ → Bool) → test 32 ≡ false → test 9 ≡ false → test 10 ≡ false → test 13 ≡ false → (b : ℕ) → is_white b ≡ true → test b ≡ false
white_fails test space tab feed return b pass = go (white_bytes b pass)
  where
    go : ((b ≡ 32) ⊎ (b ≡ 9)) ⊎ ((b ≡ 10) ⊎ (b ≡ 13)) → test b ≡ false
    go (inl (inl e)) = ap test e ∙ space
    go (inl (inr e)) = ap test e ∙ tab
    go (inr (inl e)) = ap test e ∙ feed
    go (inr (inr e)) = ap test e ∙ return

pub no_name_in_white : (b : ℕ) → is_white b ≡ true → is_in_name b ≡ false
no_name_in_white = white_fails is_in_name refl refl refl refl

pub no_white_in_name : (b : ℕ) → is_in_name b ≡ true → is_white b ≡ false
no_white_in_name b pass = go (is_white b) refl
  where
    go : (t : Bool) → is_white b ≡ t → t ≡ false
    go false e = refl
    go true e = absurd (true≢false (sym pass ∙ no_name_in_white b e))

-- names stop before white space, and before what stops them
pub stops_behind_white : (test : ℕ → Bool) → ((b : ℕ) → is_white b ≡ true → test b ≡ false) → (gap others : List ℕ) → IsWhite gap → StopsAt test others → StopsAt test (gap ++ others)
stops_behind_white test fails [] others white stops = stops
stops_behind_white test fails (b ∷ gap) others white stops = fails b (both (is_white b) (list_all is_white gap) white).0

part_not_empty : (word : List ℕ) → IsPart word → 1 ≤ length word
part_not_empty word p =
    let long = ap length p.spelled ∙ length-append (encode p.first) (encodes p.others) in
    let one = length-encode p.first in
    let some = (len_utf8_bounds p.first).0 in
    omega (arith, long, one, some)

pub name_not_empty : (word : List ℕ) → IsName word → 1 ≤ length word
name_not_empty word (inl p) = part_not_empty word p
name_not_empty word (inr p) = (let long = ap length p.is ∙ length-append p.prefix (codes ":" ++ p.local) in let some = part_not_empty p.prefix p.is_prefix in omega (arith, long, some))

-- a name begins with a byte that names are made of
pub name_goes_on : (P : List ℕ → Type 0) (name others : List ℕ) → IsName name → ((b : ℕ) (bytes : List ℕ) → is_in_name b ≡ true → P (b ∷ bytes)) → P (name ++ others)
name_goes_on P name others is turn = go name (name_not_empty name is) (name_passes name is)
  where
    go : (name : List ℕ) → 1 ≤ length name → list_all is_in_name name ≡ true → P (name ++ others)
    go [] some pass = absurd (omega (arith, some))
    go (b ∷ bytes) some pass = turn b (bytes ++ others) (both (is_in_name b) (list_all is_in_name bytes) pass).0

pub white_stops : (name others : List ℕ) → IsName name → StopsAt is_white (name ++ others)
white_stops name others is = (let P : List ℕ → Type 0 = λ t. StopsAt is_white t in name_goes_on P name others is (λ b bytes pass. no_white_in_name b pass))

quote_stops : (text v r : List ℕ) → BeginsWithQuoted text v r → StopsAt is_white text
quote_stops text v r b = subst (StopsAt is_white) (sym b.is) (go b.is_value.is_quote)
  where
    go : (b.quote ≡ 34) ⊎ (b.quote ≡ 39) → is_white b.quote ≡ false
    go (inl e) = ap is_white e
    go (inr e) = ap is_white e

-- behind white space stands the `=`, and behind that and white space the quotes
pub equals_cut : (text gap behind : List ℕ) → IsRun is_white text gap behind → (v r : List ℕ) (g : BeginsWithGiven text v r) → 61 ∷ (g.after ++ g.quoted) ≡ behind
equals_cut text gap behind run v r g = (same_run is_white g.before (61 ∷ (g.after ++ g.quoted)) gap behind (sym g.is ∙ run.is) g.is_before run.pass refl run.stops).1

pub quoted_cut : (text gap behind : List ℕ) → IsRun is_white text gap behind → (v r : List ℕ) (after quoted : List ℕ) → text ≡ after ++ quoted → IsWhite after → BeginsWithQuoted quoted v r → quoted ≡ behind
quoted_cut text gap behind run v r after quoted is white q = (same_run is_white after quoted gap behind (sym is ∙ run.is) white run.pass (quote_stops quoted v r q) run.stops).1

pub given_by : (text gap equals before after quoted v r : List ℕ) → IsRun is_white text gap equals → equals ≡ codes "=" ++ before → IsRun is_white before after quoted → BeginsWithQuoted quoted v r → BeginsWithGiven text v r
given_by text gap equals before after quoted v r run is second q =
    record { before = gap; after = after; quoted = quoted; is = run.is ∙ ap (λ x. gap ++ x) (is ∙ ap (λ x. 61 ∷ x) second.is); is_before = run.pass; is_after = second.pass; is_quoted = q }

pub no_equals : (text gap behind : List ℕ) → IsRun is_white text gap behind → ((rest : List ℕ) → behind ≢ codes "=" ++ rest) → HasNoGiven text
no_equals text gap behind run none v r g = none (g.after ++ g.quoted) (sym (equals_cut text gap behind run v r g))

pub no_quoted : (text gap equals before after quoted : List ℕ) → IsRun is_white text gap equals → equals ≡ codes "=" ++ before → IsRun is_white before after quoted → HasNoQuoted quoted → HasNoGiven text
no_quoted text gap equals before after quoted run is second none v r g =
    let behind = ap tail (equals_cut text gap equals run v r g ∙ is) in
    none v r (subst (λ t. BeginsWithQuoted t v r) (quoted_cut before after quoted second v r g.after g.quoted (sym behind) g.is_after g.is_quoted) g.is_quoted)

given_rest : (text v r w s : List ℕ) → BeginsWithGiven text v r → BeginsWithGiven text w s → r ≡ s
given_rest text v r w s g h =
    let one = same_run is_white g.before (61 ∷ (g.after ++ g.quoted)) h.before (61 ∷ (h.after ++ h.quoted)) (sym g.is ∙ h.is) g.is_before h.is_before refl refl in
    let two = same_run is_white g.after g.quoted h.after h.quoted (ap tail one.1) g.is_after h.is_after (quote_stops g.quoted v r g.is_quoted) (quote_stops h.quoted w s h.is_quoted) in
    quoted_rest g.quoted v r w s g.is_quoted (subst (λ t. BeginsWithQuoted t w s) (sym two.1) h.is_quoted)

given_stops : (text v r : List ℕ) → BeginsWithGiven text v r → StopsAt is_in_name text
given_stops text v r g = subst (StopsAt is_in_name) (sym g.is) (stops_behind_white is_in_name no_name_in_white g.before (61 ∷ (g.after ++ g.quoted)) g.is_before refl)

-- an attribute as white space, a name, and what is given
record InParts (at : ℕ) (text : List ℕ) (a : Written) (rest : List ℕ) : Type 0 where
  gap : List ℕ
  given : List ℕ
  is : text ≡ gap ++ (a.name ++ given)
  some_gap : 1 ≤ length gap
  is_gap : IsWhite gap
  is_name : IsName a.name
  is_given : BeginsWithGiven given a.value rest

spread : (gap name before after value : List ℕ) (quote : ℕ) (rest : List ℕ) →
    (gap ++ (name ++ (before ++ (61 ∷ (after ++ (quote ∷ (value ++ (quote ∷ [])))))))) ++ rest ≡ gap ++ (name ++ (before ++ (61 ∷ (after ++ (quote ∷ (value ++ (quote ∷ rest)))))))
spread gap name before after value quote rest =
    let a = append_assoc value (quote ∷ []) rest in
    let b = append_assoc after (quote ∷ (value ++ (quote ∷ []))) rest ∙ ap (λ x. after ++ (quote ∷ x)) a in
    let c = append_assoc before (61 ∷ (after ++ (quote ∷ (value ++ (quote ∷ []))))) rest ∙ ap (λ x. before ++ (61 ∷ x)) b in
    let d = append_assoc name (before ++ (61 ∷ (after ++ (quote ∷ (value ++ (quote ∷ [])))))) rest ∙ ap (λ x. name ++ x) c in
    append_assoc gap (name ++ (before ++ (61 ∷ (after ++ (quote ∷ (value ++ (quote ∷ []))))))) rest ∙ ap (λ x. gap ++ x) d

in_parts : (at : ℕ) (text : List ℕ) (a : Written) (rest : List ℕ) → BeginsWithAttribute at text a rest → InParts at text a rest
in_parts at text a rest b =
    let i = b.is_attribute in
    record {
      gap = i.gap;
      given = i.before ++ (61 ∷ (i.after ++ (i.quote ∷ (a.value ++ (i.quote ∷ rest)))));
      is = b.is ∙ ap (λ x. x ++ rest) i.is ∙ spread i.gap a.name i.before i.after a.value i.quote rest;
      some_gap = i.some_gap;
      is_gap = i.is_gap;
      is_name = i.is_name;
      is_given = record {
        before = i.before;
        after = i.after;
        quoted = i.quote ∷ (a.value ++ (i.quote ∷ rest));
        is = refl;
        is_before = i.is_before;
        is_after = i.is_after;
        is_quoted = record { quote = i.quote; is = refl; is_value = i.is_value };
      };
    }

gap_cut : (at : ℕ) (text gap behind : List ℕ) → IsRun is_white text gap behind → (a : Written) (rest : List ℕ) (p : InParts at text a rest) → (p.gap ≡ gap) × (p.is_name ≡ p.is_name) × (a.name ++ p.given ≡ behind)
gap_cut at text gap behind run a rest p =
    let (gaps, others) = same_run is_white p.gap (a.name ++ p.given) gap behind (sym p.is ∙ run.is) p.is_gap run.pass (white_stops a.name p.given p.is_name) run.stops in
    (gaps, refl, others)

begins_name : (at : ℕ) (text gap behind : List ℕ) → IsRun is_white text gap behind → (a : Written) (rest : List ℕ) (p : InParts at text a rest) → BeginsWithName behind a.name p.given
begins_name at text gap behind run a rest p =
    record { is = sym (gap_cut at text gap behind run a rest p).2; is_name = p.is_name; stops = given_stops p.given a.value rest p.is_given }

pub same_name : (text n r m s : List ℕ) → BeginsWithName text n r → BeginsWithName text m s → (n ≡ m) × (r ≡ s)
same_name text n r m s b d = same_run is_in_name n r m s (sym b.is ∙ d.is) (name_passes n b.is_name) (name_passes m d.is_name) b.stops d.stops

pub no_gap : (text gap behind : List ℕ) → IsRun is_white text gap behind → length gap ≡ 0 → HasNoAttribute text
no_gap text gap behind run none at a rest b =
    let p = in_parts at text a rest b in
    let long = ap length (gap_cut at text gap behind run a rest p).0 in
    let some = p.some_gap in
    omega (arith, long, some, none)

pub no_attribute_name : (text gap behind : List ℕ) → IsRun is_white text gap behind → HasNoName behind → HasNoAttribute text
no_attribute_name text gap behind run none at a rest b = (let p = in_parts at text a rest b in none a.name p.given (begins_name at text gap behind run a rest p))

pub no_given : (text gap behind name given : List ℕ) → IsRun is_white text gap behind → BeginsWithName behind name given → HasNoGiven given → HasNoAttribute text
no_given text gap behind name given run named none at a rest b =
    let p = in_parts at text a rest b in
    let others = (same_name behind a.name p.given name given (begins_name at text gap behind run a rest p) named).1 in
    none a.value rest (subst (λ t. BeginsWithGiven t a.value rest) others p.is_given)

pub attribute_by : (at : ℕ) (text gap behind name given value rest : List ℕ) → IsRun is_white text gap behind → 1 ≤ length gap → BeginsWithName behind name given → BeginsWithGiven given value rest → BeginsWithAttribute at text (record { at = at + length gap; name = name; value = value }) rest
attribute_by at text gap behind name given value rest run some named g =
    let q = g.is_quoted in
    record {
      bytes = gap ++ (name ++ (g.before ++ (61 ∷ (g.after ++ (q.quote ∷ (value ++ (q.quote ∷ [])))))));
      is = run.is ∙ ap (λ x. gap ++ x) (named.is ∙ ap (λ x. name ++ x) (g.is ∙ ap (λ x. g.before ++ (61 ∷ (g.after ++ x))) q.is)) ∙ sym (spread gap name g.before g.after value q.quote rest);
      is_attribute = record {
        gap = gap;
        before = g.before;
        after = g.after;
        quote = q.quote;
        is = refl;
        some_gap = some;
        is_gap = run.pass;
        is_name = named.is_name;
        is_before = g.is_before;
        is_after = g.is_after;
        is_value = q.is_value;
        stands = refl;
      };
    }

-- of one text two attributes are the same bytes
pub attribute_rest : (at place : ℕ) (text : List ℕ) (a b : Written) (r s : List ℕ) → BeginsWithAttribute at text a r → BeginsWithAttribute place text b s → r ≡ s
attribute_rest at place text a b r s h k =
    let p = in_parts at text a r h in
    let q = in_parts place text b s k in
    let run : IsRun is_white text q.gap (b.name ++ q.given) = record { is = q.is; pass = q.is_gap; stops = white_stops b.name q.given q.is_name } in
    let named : BeginsWithName (b.name ++ q.given) b.name q.given = record { is = refl; is_name = q.is_name; stops = given_stops q.given b.value s q.is_given } in
    let others = (same_name (b.name ++ q.given) a.name p.given b.name q.given (begins_name at text q.gap (b.name ++ q.given) run a r p) named).1 in
    given_rest q.given a.value r b.value s (subst (λ t. BeginsWithGiven t a.value r) others p.is_given) q.is_given

pub empty_from : (n : ℕ) → eqb n 0 ≡ true → n ≡ 0
empty_from n e = grind arith

pub some_from : (n : ℕ) → eqb n 0 ≡ false → 1 ≤ n
some_from n e = grind arith

append_attribute : (xs : List Written) (a : Written) (at : ℕ) (b x : List ℕ) → AreAttributes xs at b → IsAttribute a (at + length b) x → AreAttributes (xs ++ a ∷ []) at (b ++ x)
append_attribute [] a at b x h k =
    record {
      front = x;
      back = [];
      is = ap (λ t. t ++ x) h ∙ sym (nothing_behind x);
      first = subst (λ n. IsAttribute a n x) (let none = ap length h in omega (arith, none)) k;
      second = refl;
    }
  where
    nothing_behind : (xs : List ℕ) → xs ++ [] ≡ xs
    nothing_behind [] = refl
    nothing_behind (x ∷ xs) = ap (λ t. x ∷ t) (nothing_behind xs)
append_attribute (c ∷ xs) a at b x h k =
    record {
      front = h.front;
      back = h.back ++ x;
      is = ap (λ t. t ++ x) h.is ∙ append_assoc h.front h.back x;
      first = h.first;
      second = append_attribute xs a (at + length h.front) h.back x h.second
          (subst (λ n. IsAttribute a n x) (let long = ap length h.is ∙ length-append h.front h.back in omega (arith, long)) k);
    }

-- some attributes at the front of a text
abbrev pub SoFar : List Written → ℕ → List ℕ → List ℕ → Type 0
SoFar xs at text rest = (bytes : List ℕ) × (text ≡ bytes ++ rest) × AreAttributes xs at bytes

pub attributes_go_on : (xs : List Written) (a : Written) (at place : ℕ) (text rest unread : List ℕ) → SoFar xs at text rest → place ≡ at + (length text - length rest) → BeginsWithAttribute place rest a unread → SoFar (xs ++ a ∷ []) at text unread
attributes_go_on xs a at place text rest unread (bytes, is, are) stands b =
    let long = ap length is ∙ length-append bytes rest in
    let here : place ≡ at + length bytes = omega (arith, long, stands) in
    (bytes ++ b.bytes, is ∙ ap (λ x. bytes ++ x) b.is ∙ sym (append_assoc bytes b.bytes unread), append_attribute xs a at bytes b.bytes are (subst (λ n. IsAttribute a n b.bytes) here b.is_attribute))

pub are_shorter : (xs : List Written) (at : ℕ) (text rest : List ℕ) → SoFar xs at text rest → length rest ≤ length text
are_shorter xs at text rest (bytes, is, are) = (let long = ap length is ∙ length-append bytes rest in omega (arith, long))

pub attribute_is_some : (at : ℕ) (text : List ℕ) (a : Written) (rest : List ℕ) → BeginsWithAttribute at text a rest → length rest < length text
attribute_is_some at text a rest b =
    let p = in_parts at text a rest b in
    let i = b.is_attribute in
    let long = ap length b.is ∙ length-append b.bytes rest in
    let inner = ap length i.is ∙ length-append i.gap (a.name ++ (i.before ++ (61 ∷ (i.after ++ (i.quote ∷ (a.value ++ (i.quote ∷ []))))))) in
    let some = i.some_gap in
    omega (arith, long, inner, some)

pub all_attributes : (xs : List Written) (at : ℕ) (text rest : List ℕ) → SoFar xs at text rest → HasNoAttribute rest → BeginsWithAttributes at text xs rest
all_attributes xs at text rest (bytes, is, are) none = record { bytes = bytes; is = is; are_attributes = are; no_more = none }
