-- A reference begins a text, or none does; and the pieces at the front of a text.
use Rattle.std.proofs.Common.{◌≡◌, ◌⊎◌, ℕ, zero, suc, ◌-◌, ◌<◌, ◌≤◌, List, [], ◌∷◌, ◌++◌, length, take, drop, Bool, true, false, inl, inr, refl, ap, sym, ◌∙◌, true≢false, arith}
use Rattle.std.proofs.lemmas.List.{length-append}
use Rattle.std.specs.Prelude.{codes}
use Rattle.std.specs.Char.{is_ascii_digit, is_ascii_hexdigit}
use Rattle.mxml_items.specs.declared.bytes.ByteKind.TheVariants as kind
use Rattle.mxml_items.specs.Runs.{takes}
use Rattle.mxml_items.specs.Pieces.{Less, Greater, Ampersand, Quote, Apostrophe, BeginsWithDigits, BeginsWithNamed, BeginsWithReference, HasNoDigits, HasNoNamed, HasNoReference, IsNamed, IsPlain, IsWritten, NamesCharacter, NamesNothing, is_in_text, is_in_value, may_be_named, number_of}
use Rattle.mxml_items.proofs.PieceLaws.{plain_goes_on, plain_is_all, text_run, value_run}
use Rattle.mxml_items.proofs.References.{by_decimal, by_hexadecimal, by_name, decimal_refers, hexadecimal_refers, name_refers, no_character, no_semicolon, shape}
use Rattle.mxml_laws.proofs.Fronts.{Runs, StartsNot, StartsOrNot, run_of, starts_or_not}

abbrev Named : List ℕ → Type 0
Named text = (c : ℕ) × (rest : List ℕ) × BeginsWithNamed text c rest

named_or_not : (text : List ℕ) → Named text ⊎ HasNoNamed text
named_or_not text = by (starts_or_not (codes "&lt;") text) (starts_or_not (codes "&gt;") text) (starts_or_not (codes "&amp;") text) (starts_or_not (codes "&quot;") text) (starts_or_not (codes "&apos;") text)
  where
    by : StartsOrNot (codes "&lt;") text → StartsOrNot (codes "&gt;") text → StartsOrNot (codes "&amp;") text → StartsOrNot (codes "&quot;") text → StartsOrNot (codes "&apos;") text → Named text ⊎ HasNoNamed text
    by (inl (rest, is)) _ _ _ _ = inl (60, rest, record { bytes = codes "&lt;"; is = is; is_named = Less refl refl })
    by (inr a) (inl (rest, is)) _ _ _ = inl (62, rest, record { bytes = codes "&gt;"; is = is; is_named = Greater refl refl })
    by (inr a) (inr b) (inl (rest, is)) _ _ = inl (38, rest, record { bytes = codes "&amp;"; is = is; is_named = Ampersand refl refl })
    by (inr a) (inr b) (inr c) (inl (rest, is)) _ = inl (34, rest, record { bytes = codes "&quot;"; is = is; is_named = Quote refl refl })
    by (inr a) (inr b) (inr c) (inr d) (inl (rest, is)) = inl (39, rest, record { bytes = codes "&apos;"; is = is; is_named = Apostrophe refl refl })
    by (inr a) (inr b) (inr c) (inr d) (inr e) = inr none
      where
        none : HasNoNamed text
        none n rest r = go r.is_named
          where
            go : IsNamed n r.bytes → ⊥
            go (Less _ same) = a rest (r.is ∙ ap (λ x. x ++ rest) same)
            go (Greater _ same) = b rest (r.is ∙ ap (λ x. x ++ rest) same)
            go (Ampersand _ same) = c rest (r.is ∙ ap (λ x. x ++ rest) same)
            go (Quote _ same) = d rest (r.is ∙ ap (λ x. x ++ rest) same)
            go (Apostrophe _ same) = e rest (r.is ∙ ap (λ x. x ++ rest) same)

character_or_not : (base : ℕ) (digits : List ℕ) → ((c : ℕ) × NamesCharacter base c digits) ⊎ NamesNothing base digits
character_or_not base [] = inr (λ c names. (let some = names.not_empty in omega (arith, some)))
character_or_not base (d ∷ digits) = by (may_be_named (number_of base (d ∷ digits))) refl
  where
    by : (t : Bool) → may_be_named (number_of base (d ∷ digits)) ≡ t → ((c : ℕ) × NamesCharacter base c (d ∷ digits)) ⊎ NamesNothing base (d ∷ digits)
    by true may = inl (number_of base (d ∷ digits), record { not_empty = omega arith; names_it = refl; may = may })
    by false may = inr (λ c names. true≢false (sym names.may ∙ ap may_be_named (sym names.names_it) ∙ may))

abbrev Digits : (ℕ → Bool) → ℕ → List ℕ → Type 0
Digits test base text = (c : ℕ) × (rest : List ℕ) × BeginsWithDigits test base text c rest

digits_or_not : (test : ℕ → Bool) (base : ℕ) (text : List ℕ) → test 59 ≡ false → Digits test base text ⊎ HasNoDigits test base text
digits_or_not test base text no_digit = by_run (run_of test text)
  where
    by_run : Runs test text → Digits test base text ⊎ HasNoDigits test base text
    by_run (digits, rest, run) = by (starts_or_not (codes ";") rest) (character_or_not base digits)
      where
        by : StartsOrNot (codes ";") rest → ((c : ℕ) × NamesCharacter base c digits) ⊎ NamesNothing base digits → Digits test base text ⊎ HasNoDigits test base text
        by (inr none) found = inr (no_semicolon test base text digits rest no_digit run none)
        by (inl ends) (inr nothing) = inr (no_character test base text digits rest no_digit run nothing)
        by (inl (behind, ends)) (inl (c, names)) =
            inl (c, behind, record { digits = digits; is = run.is ∙ ap (λ t. digits ++ t) ends; are_digits = record { not_empty = names.not_empty; pass = run.pass; names_it = names.names_it; may = names.may } })

abbrev pub Refers : List ℕ → Type 0
Refers text = (c : ℕ) × (rest : List ℕ) × BeginsWithReference text c rest

pub reference_or_not : (text : List ℕ) → Refers text ⊎ HasNoReference text
reference_or_not text = by (starts_or_not (codes "&#") text)
  where
    by_named : StartsNot (codes "&#") text → Named text ⊎ HasNoNamed text → Refers text ⊎ HasNoReference text
    by_named not_number (inl (c, rest, n)) = inl (c, rest, name_refers text c rest n)
    by_named not_number (inr none) = inr (λ c rest r. none c rest (by_name text not_number c rest r))

    by_hexadecimals : (number : List ℕ) → text ≡ codes "&#x" ++ number → Digits is_ascii_hexdigit 16 number ⊎ HasNoDigits is_ascii_hexdigit 16 number → Refers text ⊎ HasNoReference text
    by_hexadecimals number is (inl (c, rest, d)) = inl (c, rest, hexadecimal_refers text number is c rest d)
    by_hexadecimals number is (inr none) = inr (λ c rest r. none c rest (by_hexadecimal text number is c rest r))

    by_decimals : (number : List ℕ) → text ≡ codes "&#" ++ number → StartsNot (codes "x") number → Digits is_ascii_digit 10 number ⊎ HasNoDigits is_ascii_digit 10 number → Refers text ⊎ HasNoReference text
    by_decimals number is no_x (inl (c, rest, d)) = inl (c, rest, decimal_refers text number is c rest d)
    by_decimals number is no_x (inr none) = inr (λ c rest r. none c rest (by_decimal text number is no_x c rest r))

    by_number : (body : List ℕ) → text ≡ codes "&#" ++ body → StartsOrNot (codes "x") body → Refers text ⊎ HasNoReference text
    by_number body is (inl (number, x)) = by_hexadecimals number (is ∙ ap (λ t. codes "&#" ++ t) x) (digits_or_not is_ascii_hexdigit 16 number refl)
    by_number body is (inr no_x) = by_decimals body is no_x (digits_or_not is_ascii_digit 10 body refl)

    by : StartsOrNot (codes "&#") text → Refers text ⊎ HasNoReference text
    by (inr none) = by_named none (named_or_not text)
    by (inl (body, is)) = by_number body is (starts_or_not (codes "x") body)

-- of any text what stands behind the bytes at its front that are written as they are
abbrev Plains : (ℕ → Bool) → Type 0
Plains test = (text : List ℕ) → (rest : List ℕ) × IsPlain test text rest

-- of a text what stands behind its first pieces, where no reference begins
abbrev AllPlain : (ℕ → Bool) → List ℕ → Type 0
AllPlain test text = (rest : List ℕ) × IsPlain test text rest × HasNoReference rest

is_short : (test : ℕ → Bool) (text rest : List ℕ) → IsPlain test text rest → length rest ≤ length text
is_short test text rest p = (let long = ap length p.begins.is ∙ length-append p.begins.front rest in omega (arith, long))

shorter : (text : List ℕ) (c : ℕ) (rest : List ℕ) → BeginsWithReference text c rest → length rest < length text
shorter text c rest r =
    let m = shape c r.bytes r.is_reference in
    let one = ap length r.is ∙ length-append r.bytes rest in
    let two = ap length m.is in
    omega (arith, one, two)

all_plain : (test : ℕ → Bool) → Plains test → (n : ℕ) (text : List ℕ) → length text ≤ n → AllPlain test text
all_plain test plain zero text short = by (plain text)
  where
    by : ((rest : List ℕ) × IsPlain test text rest) → AllPlain test text
    by (rest, p) = go (reference_or_not rest)
      where
        go : Refers rest ⊎ HasNoReference rest → AllPlain test text
        go (inr none) = (rest, p, none)
        go (inl (c, unread, r)) = (let less = shorter rest c unread r in let whole = is_short test text rest p in absurd (omega (arith, less, whole, short)))
all_plain test plain (suc n) text short = by (plain text) (all_plain test plain n)
  where
    by : ((rest : List ℕ) × IsPlain test text rest) → ((text : List ℕ) → length text ≤ n → AllPlain test text) → AllPlain test text
    by (rest, p) further = go (reference_or_not rest)
      where
        go : Refers rest ⊎ HasNoReference rest → AllPlain test text
        go (inr none) = (rest, p, none)
        go (inl (c, unread, r)) =
            let less = shorter rest c unread r in
            let whole = is_short test text rest p in
            let (behind, k, none) = further unread (omega (arith, less, whole, short)) in
            (behind, plain_goes_on test text rest c unread behind p r k, none)

-- all pieces at the front of a text
abbrev pub AllWritten : (ℕ → Bool) → List ℕ → Type 0
AllWritten test text = (front : List ℕ) × (rest : List ℕ) × IsWritten test text front rest

written_of : (test : ℕ → Bool) → Plains test → (text : List ℕ) → AllWritten test text
written_of test plain text =
    let (rest, p, none) = all_plain test plain (length text) text (omega arith) in
    (take (length text - length rest) text, drop (length text - length rest) text, plain_is_all test text rest p none)

-- outside quotes, and between them
pub text_written : (text : List ℕ) → AllWritten is_in_text text
text_written = written_of is_in_text (λ text. let (front, rest, run) = run_of (takes kind.Plain) text in (rest, text_run text front rest run))

pub value_written : (quote : ℕ) (text : List ℕ) → AllWritten (is_in_value quote) text
value_written quote = written_of (is_in_value quote) (λ text. let (front, rest, run) = run_of (takes (kind.PlainExcept quote)) text in (rest, value_run quote text front rest run))
