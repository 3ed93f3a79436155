-- Parts of names by their characters and by their bytes.
use Rattle.std.proofs.Common.{Option, None, Some, MatchOption, Bor, drop, ◌≡◌, ◌≢◌, ◌↔◌, ℕ, ◌+◌, ◌<◌, ◌≤◌, List, [], ◌∷◌, ◌++◌, length, Bool, true, false, inl, inr, refl, ap, sym, ◌∙◌, subst, true≢false, ltb, eqb, not, zero, suc, get_or, lit<, arith}
use Rattle.std.specs.Prelude.{◌||◌, IsTrue, codes}
use Rattle.std.specs.List.{list_all}
use Rattle.std.specs.Str.{IsUtf8, IsAscii, chars}
use lib.Utf8.{encode, encodes, scalar, scalars}
use Rattle.std.proofs.lemmas.List.Folds.{list_all-append}
use Rattle.std.proofs.lemmas.Str.{encode_same, encodes-chars, scalars-chars, chars_from_encodes, cons_from_encodes, IsUtf8-past_char, IsUtf8-append, encodes-IsAscii}
use Rattle.std.specs.Str.Pattern.{FindsPrefixBy}
use Rattle.std.specs.Char.{IsScalar, is_ascii_alphabetic, is_ascii_digit}
use Rattle.unicode_ident.specs.Ident.{is_xid_start, is_xid_continue}
use Rattle.mxml_items.specs.Runs.{IsRun, is_in_part, is_in_name}
use Rattle.mxml_items.specs.Names.{IsPart, IsName, BeginsWithName, HasNoName, HasNoStart, BeginsWithStart, continues_part}
use Rattle.mxml_items.proofs.RunLaws.{both, and_true, PassesHigh, encode_passes, encodes_pass, list_all_weaker, same_run, tail}

-- a part by its first character and the others
pub part_by_characters : (word rest : List ℕ) → IsUtf8 word → BeginsWithStart word rest → IsTrue (list_all continues_part (chars rest)) ↔ IsPart word
part_by_characters word rest text (c, starts, is) = (make, take_apart)
  where
    behind : IsUtf8 rest
    behind = IsUtf8-past_char word rest c text is

    make : list_all continues_part (chars rest) ≡ true → IsPart word
    make pass =
        let (es, cut, _) = cons_from_encodes text.0 rest c (text.1.1 ∙ is) in
        record {
          first = c;
          others = chars rest;
          are_characters = and_true (scalar c) (scalars (chars rest)) (both (scalar c) (scalars es) (sym (ap scalars cut) ∙ text.1.0)).0 (scalars-chars rest behind);
          spelled = is ∙ ap (λ x. encode c ++ x) (sym (encodes-chars rest behind));
          starts_it = starts;
          continue_it = pass;
        }

    take_apart : IsPart word → list_all continues_part (chars rest) ≡ true
    take_apart p =
        let same = encode_same c p.first rest (encodes p.others) (sym is ∙ p.spelled) in
        subst (λ cs. list_all continues_part cs ≡ true) (chars_from_encodes p.others rest behind (sym same.1)) p.continue_it

pub no_part : (word : List ℕ) → HasNoStart word → IsPart word → ⊥
no_part word none p =
    true≢false (sym p.starts_it ∙ none p.first (encodes p.others) (both (scalar p.first) (scalars p.others) p.are_characters).0 p.spelled)

pub part_is_utf8 : (word : List ℕ) → IsPart word → IsUtf8 word
part_is_utf8 word p = (p.first ∷ p.others, (p.are_characters, sym p.spelled))

-- ASCII characters of a part, by their bytes
continues_byte : (t a d u m p x : Bool) → t ≡ true → (((elim t as (λ _. Bool) [ true ↦ (a || d) || u | false ↦ x ]) || m) || p) ≡ true → (((((not t || a) || d) || u) || m) || p) ≡ true
continues_byte true a d u m p x e h = h
continues_byte false a d u m p x e h = absurd (true≢false (sym e))

starts_byte : (t a d u m p x : Bool) → t ≡ true → ((elim t as (λ _. Bool) [ true ↦ a | false ↦ x ]) || u) ≡ true → (((((not t || a) || d) || u) || m) || p) ≡ true
starts_byte true true d u m p x e h = refl
starts_byte true false true u m p x e h = refl
starts_byte true false false true m p x e h = refl
starts_byte true false false false m p x e h = absurd (true≢false (sym h))
starts_byte false a d u m p x e h = absurd (true≢false (sym e))

high_byte : (t a d u m p : Bool) → t ≡ false → (((((not t || a) || d) || u) || m) || p) ≡ true
high_byte false a d u m p e = refl
high_byte true a d u m p e = absurd (true≢false e)

below : (c : ℕ) → c < 128 → ltb c 128 ≡ true
below c less = grind arith

not_below : (c : ℕ) → 128 ≤ c → ltb c 128 ≡ false
not_below c more = grind arith

pub part_passes_high : PassesHigh is_in_part
part_passes_high b more = high_byte (ltb b 128) (is_ascii_alphabetic b) (is_ascii_digit b) (eqb b 95) (eqb b 45) (eqb b 46) (not_below b more)

-- the bytes of a part
pub part_passes : (word : List ℕ) → IsPart word → list_all is_in_part word ≡ true
part_passes word p =
    ap (list_all is_in_part) p.spelled
    ∙ list_all-append is_in_part (encode p.first) (encodes p.others)
    ∙ and_true (list_all is_in_part (encode p.first)) (list_all is_in_part (encodes p.others)) (encode_passes is_in_part part_passes_high p.first start)
    (encodes_pass is_in_part continues_part part_passes_high goes_on p.others p.continue_it)
  where
    start : p.first < 128 → is_in_part p.first ≡ true
    start less =
        let b = p.first in
        starts_byte (ltb b 128) (is_ascii_alphabetic b) (is_ascii_digit b) (eqb b 95) (eqb b 45) (eqb b 46) (is_xid_start b) (below b less) p.starts_it

    goes_on : (c : ℕ) → continues_part c ≡ true → c < 128 → is_in_part c ≡ true
    goes_on b pass less = continues_byte (ltb b 128) (is_ascii_alphabetic b) (is_ascii_digit b) (eqb b 95) (eqb b 45) (eqb b 46) (is_xid_continue b) (below b less) pass

-- all but `:`
abbrev pub is_no_colon : ℕ → Bool
is_no_colon b = not (eqb b 58)

other_than : (b : ℕ) → b ≢ 58 → is_no_colon b ≡ true
other_than b ne = grind arith

pub lacks_colon : (bytes : List ℕ) → ((i : ℕ) → i < length bytes → get_or bytes i 0 ≢ 58) → list_all is_no_colon bytes ≡ true
lacks_colon [] none = refl
lacks_colon (b ∷ bytes) none =
    and_true (is_no_colon b) (list_all is_no_colon bytes) (other_than b (none 0 (omega arith)))
    (lacks_colon bytes (λ i less. none (suc i) (omega arith)))

part_or_colon : (b : ℕ) → is_in_part b ≡ true → is_no_colon b ≡ true
part_or_colon b pass = go (eqb b 58) refl
  where
    same : (b : ℕ) → eqb b 58 ≡ true → b ≡ 58
    same b e = grind arith

    go : (t : Bool) → eqb b 58 ≡ t → not t ≡ true
    go false e = refl
    go true e = absurd (true≢false (sym pass ∙ ap is_in_part (same b e)))

part_lacks_colon : (word : List ℕ) → IsPart word → list_all is_no_colon word ≡ true
part_lacks_colon word p = list_all_weaker is_in_part is_no_colon part_or_colon word (part_passes word p)

-- a name without a colon is one part
pub name_is_part : (word : List ℕ) → list_all is_no_colon word ≡ true → IsName word → IsPart word
name_is_part word none (inl p) = p
name_is_part word none (inr p) =
    absurd (true≢false (sym (both (list_all is_no_colon p.prefix) false (sym (list_all-append is_no_colon p.prefix (codes ":" ++ p.local)) ∙ ap (list_all is_no_colon) (sym p.is) ∙ none)).1))

-- a name with one is two parts, which it is between
pub name_is_parts : (word prefix local : List ℕ) → word ≡ prefix ++ (58 ∷ local) → list_all is_no_colon prefix ≡ true → IsName word → IsPart prefix × IsPart local
name_is_parts word prefix local is none (inl p) =
    absurd (true≢false (sym (both (list_all is_no_colon prefix) false (sym (list_all-append is_no_colon prefix (58 ∷ local)) ∙ ap (list_all is_no_colon) (sym is) ∙ part_lacks_colon word p)).1))
name_is_parts word prefix local is none (inr p) =
    let (fronts, backs) = same_run is_no_colon p.prefix (codes ":" ++ p.local) prefix (58 ∷ local) (sym p.is ∙ is) (part_lacks_colon p.prefix p.is_prefix) none refl refl in
    (subst IsPart fronts p.is_prefix, subst IsPart (ap tail backs) p.is_local)

in_part_in_name : (b : ℕ) → is_in_part b ≡ true → is_in_name b ≡ true
in_part_in_name b pass = ap (λ t. t || eqb b 58) pass

part_in_name : (word : List ℕ) → IsPart word → list_all is_in_name word ≡ true
part_in_name word p = list_all_weaker is_in_part is_in_name in_part_in_name word (part_passes word p)

pub name_passes : (word : List ℕ) → IsName word → list_all is_in_name word ≡ true
name_passes word (inl p) = part_in_name word p
name_passes word (inr p) =
    ap (list_all is_in_name) p.is
    ∙ list_all-append is_in_name p.prefix (codes ":" ++ p.local)
    ∙ and_true (list_all is_in_name p.prefix) (list_all is_in_name p.local) (part_in_name p.prefix p.is_prefix) (part_in_name p.local p.is_local)

pub name_is_utf8 : (word : List ℕ) → IsName word → IsUtf8 word
name_is_utf8 word (inl p) = part_is_utf8 word p
name_is_utf8 word (inr p) =
    subst IsUtf8 (sym p.is)
    (IsUtf8-append p.prefix (codes ":" ++ p.local) (part_is_utf8 p.prefix p.is_prefix)
    (IsUtf8-append (codes ":") p.local (codes ":", (refl, encodes-IsAscii (codes ":") ascii)) (part_is_utf8 p.local p.is_local)))
  where
    ascii : IsAscii (codes ":")
    ascii zero = lit< tt
    ascii (suc i) = lit< tt

-- the name that a text begins with is the run of bytes that names are made of
pub name_is_run : (text front rest name others : List ℕ) → IsRun is_in_name text front rest → BeginsWithName text name others → name ≡ front
name_is_run text front rest name others run begins =
    (same_run is_in_name name others front rest (sym begins.is ∙ run.is) (name_passes name begins.is_name) run.pass begins.stops run.stops).0

pub no_name_of : (text front rest : List ℕ) → IsRun is_in_name text front rest → ¬ (IsName front) → HasNoName text
no_name_of text front rest run none name others begins = none (subst IsName (name_is_run text front rest name others run begins) begins.is_name)

-- what the look for a first character that passes a test says, where a closure answers by the test
pub first_that : (Answers : (ℕ → Bool) → Type 0) (test : ℕ → Bool) → Answers test → (text : List ℕ) (r : Option (Bor (List ℕ))) →
    MatchOption r ((k : ℕ → Bool) → Answers k → FindsPrefixBy k text None) (λ x. (n : ℕ) × ((k : ℕ → Bool) → Answers k → FindsPrefixBy k text (Some n)) × (x.now ≡ drop n text) × (length x.now + n ≡ length text)) →
    MatchOption r ((c : ℕ) (rest : List ℕ) → IsScalar c → text ≡ encode c ++ rest → test c ≡ false) (λ x. (c : ℕ) × (test c ≡ true) × (text ≡ encode c ++ x.now))
first_that Answers test by text None h = h test by
first_that Answers test by text (Some x) (n, finds, is, _) =
    let found = finds test by in
    (found.0, found.1, found.2.split ∙ ap (λ t. encode found.0 ++ t) (sym is))
