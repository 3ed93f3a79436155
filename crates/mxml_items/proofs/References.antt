-- References: what is read of them, and where they end.
use Rattle.std.proofs.Common.{Option, None, Some, MatchOption, ◌≡◌, ◌≢◌, ◌⊎◌, ℕ, ◌+◌, ◌*◌, ◌<◌, ◌≤◌, List, [], ◌∷◌, ◌++◌, length, take, drop, get_or, Bool, true, false, inl, inr, refl, ap, sym, ◌∙◌, subst, true≢false, ltb, leb, eqb, not, append_assoc, arith}
use Rattle.std.specs.Prelude.{◌&&◌, ◌||◌, codes}
use Rattle.std.specs.List.{list_all, fold}
use Rattle.std.specs.Char.{is_ascii_digit, is_ascii_hexdigit, digit_value}
use Rattle.std.proofs.lemmas.List.{take-append-drop}
use Rattle.std.proofs.lemmas.List.Sums.{fold-append, fold_more}
use Rattle.std.proofs.lemmas.List.Folds.{list_all-append}
use Rattle.std.proofs.Math.Nat.{mul-le-mul_left}
use Rattle.mxml_items.specs.Runs.{IsRun}
use Rattle.mxml_items.specs.Pieces.{IsNamed, Less, Greater, Ampersand, Quote, Apostrophe, IsNumbered, AreDigits, IsReference, number_of, may_be_named, BeginsWithReference, BeginsWithNamed, BeginsWithDigits, HasNoDigits, NamesCharacter, NamesNothing}
use Rattle.mxml_items.proofs.RunLaws.{both, and_true, head, tail, same_run, list_all_weaker}

pub either : (x y : Bool) → (x || y) ≡ true → (x ≡ true) ⊎ (y ≡ true)
either true y e = inl refl
either false y e = inr e

pub match_weaker : {A : Type 0} (P P' : Type 0) (Q Q' : A → Type 0) (r : Option A) → (P → P') → ((a : A) → Q a → Q' a) → MatchOption r P Q → MatchOption r P' Q'
match_weaker P P' Q Q' None none some h = none h
match_weaker P P' Q Q' (Some a) none some h = some a h

fold_grows : (base : ℕ) → 1 ≤ base → (ys : List ℕ) (n : ℕ) → n ≤ fold (λ n digit. n * base + digit_value digit) n ys
fold_grows base low [] n = omega arith
fold_grows base low (d ∷ ys) n =
    let more = mul-le-mul_left n low in
    let others = fold_grows base low ys (n * base + digit_value d) in
    omega (arith, more, others)

may_bound : (c : ℕ) → may_be_named c ≡ true → c ≤ 0x10_FFFF
may_bound c may = go (either (ltb c 0xD800) (leb 0xE000 c && leb c 0x10_FFFF) (both (ltb c 0xD800 || (leb 0xE000 c && leb c 0x10_FFFF)) (not (eqb c 0)) may).0)
  where
    less : (c : ℕ) → ltb c 0xD800 ≡ true → c ≤ 0x10_FFFF
    less c e = grind arith

    at_most : (c : ℕ) → leb c 0x10_FFFF ≡ true → c ≤ 0x10_FFFF
    at_most c e = grind arith

    go : (ltb c 0xD800 ≡ true) ⊎ ((leb 0xE000 c && leb c 0x10_FFFF) ≡ true) → c ≤ 0x10_FFFF
    go (inl e) = less c e
    go (inr e) = at_most c (both (leb 0xE000 c) (leb c 0x10_FFFF) e).1

-- digits whose front stands for more than the last character name nothing
pub too_great : (base : ℕ) (digits : List ℕ) (i number d : ℕ) → 1 ≤ base → i < length digits → number ≡ number_of base (take i digits) → 0x10_FFFF < number * base + digit_value (get_or digits i d) → NamesNothing base digits
too_great base digits i number d low within is great c names =
    let f : ℕ → ℕ → ℕ = λ n digit. n * base + digit_value digit in
    let so_far : number_of base (take (i + 1) digits) ≡ number * base + digit_value (get_or digits i d) =
    fold_more f 0 digits i d within ∙ ap (λ n. n * base + digit_value (get_or digits i d)) (sym is) in
    let whole : number_of base digits ≡ fold f (number_of base (take (i + 1) digits)) (drop (i + 1) digits) =
    ap (number_of base) (sym (take-append-drop (i + 1) digits)) ∙ fold-append f 0 (take (i + 1) digits) (drop (i + 1) digits) in
    let grown = fold_grows base low (drop (i + 1) digits) (number_of base (take (i + 1) digits)) in
    let bound = may_bound c names.may in
    omega (arith, so_far, whole, grown, bound, names.names_it)

-- the digits that are read are the run of digits
digits_cut : (test : ℕ → Bool) (base : ℕ) (text digits rest : List ℕ) → test 59 ≡ false → IsRun test text digits rest →
    (c : ℕ) (others : List ℕ) (d : BeginsWithDigits test base text c others) → (d.digits ≡ digits) × (codes ";" ++ others ≡ rest)
digits_cut test base text digits rest no_digit run c others d =
    same_run test d.digits (codes ";" ++ others) digits rest (sym d.is ∙ run.is) d.are_digits.pass run.pass no_digit run.stops

pub no_semicolon : (test : ℕ → Bool) (base : ℕ) (text digits rest : List ℕ) → test 59 ≡ false → IsRun test text digits rest → ((others : List ℕ) → rest ≢ codes ";" ++ others) → HasNoDigits test base text
no_semicolon test base text digits rest no_digit run none c others d = none others (sym (digits_cut test base text digits rest no_digit run c others d).1)

pub no_character : (test : ℕ → Bool) (base : ℕ) (text digits rest : List ℕ) → test 59 ≡ false → IsRun test text digits rest → NamesNothing base digits → HasNoDigits test base text
no_character test base text digits rest no_digit run nothing c others d =
    let are = d.are_digits in
    nothing c (subst (NamesCharacter base c) (digits_cut test base text digits rest no_digit run c others d).0 (record { not_empty = are.not_empty; names_it = are.names_it; may = are.may }))

-- no reference by name goes on with `#`
not_by_name : (text body : List ℕ) → text ≡ codes "&#" ++ body → (c : ℕ) (bytes rest : List ℕ) → text ≡ bytes ++ rest → IsNamed c bytes → ⊥
not_by_name text body is c bytes rest cut named = go named
  where
    clash : (n : ℕ) (others : List ℕ) → bytes ≡ 38 ∷ n ∷ others → n ≡ 35
    clash n others same = ap (λ t. head 0 (tail t)) (sym (ap (λ x. x ++ rest) same) ∙ sym cut ∙ is)

    go : IsNamed c bytes → ⊥
    go (Less _ same) = (let e = clash 108 (codes "t;") same in omega (arith, e))
    go (Greater _ same) = (let e = clash 103 (codes "t;") same in omega (arith, e))
    go (Ampersand _ same) = (let e = clash 97 (codes "mp;") same in omega (arith, e))
    go (Quote _ same) = (let e = clash 113 (codes "uot;") same in omega (arith, e))
    go (Apostrophe _ same) = (let e = clash 97 (codes "pos;") same in omega (arith, e))

opened : (opening digits rest : List ℕ) → (opening ++ (digits ++ codes ";")) ++ rest ≡ opening ++ (digits ++ (codes ";" ++ rest))
opened opening digits rest = append_assoc opening (digits ++ codes ";") rest ∙ ap (λ x. opening ++ x) (append_assoc digits (codes ";") rest)

numbered_text : (opening : List ℕ) (test : ℕ → Bool) (base c : ℕ) (text bytes rest : List ℕ) → text ≡ bytes ++ rest → (n : IsNumbered opening test base c bytes) → text ≡ opening ++ (n.digits ++ (codes ";" ++ rest))
numbered_text opening test base c text bytes rest cut n = cut ∙ ap (λ x. x ++ rest) n.is ∙ opened opening n.digits rest

-- without `&#` a reference is one by name
pub by_name : (text : List ℕ) → ((rest : List ℕ) → text ≢ codes "&#" ++ rest) → (c : ℕ) (rest : List ℕ) → BeginsWithReference text c rest → BeginsWithNamed text c rest
by_name text none c rest r = go r.is_reference
  where
    go : IsReference c r.bytes → BeginsWithNamed text c rest
    go (inl named) = record { bytes = r.bytes; is = r.is; is_named = named }
    go (inr (inl n)) = absurd (none _ (numbered_text (codes "&#") is_ascii_digit 10 c text r.bytes rest r.is n))
    go (inr (inr n)) = absurd (none (120 ∷ (n.digits ++ (codes ";" ++ rest))) (numbered_text (codes "&#x") is_ascii_hexdigit 16 c text r.bytes rest r.is n))

pub name_refers : (text : List ℕ) (c : ℕ) (rest : List ℕ) → BeginsWithNamed text c rest → BeginsWithReference text c rest
name_refers text c rest n = record { bytes = n.bytes; is = n.is; is_reference = inl n.is_named }

-- behind `&#x` it is one by hexadecimal digits
pub by_hexadecimal : (text number : List ℕ) → text ≡ codes "&#x" ++ number → (c : ℕ) (rest : List ℕ) → BeginsWithReference text c rest → BeginsWithDigits is_ascii_hexdigit 16 number c rest
by_hexadecimal text number is c rest r = go r.is_reference
  where
    no_digit : (digits : List ℕ) → AreDigits is_ascii_digit 10 c digits → codes "&#" ++ (digits ++ (codes ";" ++ rest)) ≡ codes "&#x" ++ number → ⊥
    no_digit [] are same = (let some = are.not_empty in omega (arith, some))
    no_digit (d ∷ digits) are same =
        true≢false (sym (both (is_ascii_digit d) (list_all is_ascii_digit digits) are.pass).0 ∙ ap is_ascii_digit (ap (λ t. head 0 (tail (tail t))) same))

    go : IsReference c r.bytes → BeginsWithDigits is_ascii_hexdigit 16 number c rest
    go (inl named) = absurd (not_by_name text (120 ∷ number) is c r.bytes rest r.is named)
    go (inr (inl n)) = absurd (no_digit n.digits n.are_digits (sym (numbered_text (codes "&#") is_ascii_digit 10 c text r.bytes rest r.is n) ∙ is))
    go (inr (inr n)) =
        record {
          digits = n.digits;
          is = ap (λ t. tail (tail (tail t))) (sym is ∙ numbered_text (codes "&#x") is_ascii_hexdigit 16 c text r.bytes rest r.is n);
          are_digits = n.are_digits;
        }

pub hexadecimal_refers : (text number : List ℕ) → text ≡ codes "&#x" ++ number → (c : ℕ) (rest : List ℕ) → BeginsWithDigits is_ascii_hexdigit 16 number c rest → BeginsWithReference text c rest
hexadecimal_refers text number is c rest d =
    record {
      bytes = codes "&#x" ++ (d.digits ++ codes ";");
      is = is ∙ ap (λ x. codes "&#x" ++ x) d.is ∙ sym (opened (codes "&#x") d.digits rest);
      is_reference = inr (inr (record { digits = d.digits; is = refl; are_digits = d.are_digits }));
    }

-- behind another `&#` it is one by decimal digits
pub by_decimal : (text number : List ℕ) → text ≡ codes "&#" ++ number → ((rest : List ℕ) → number ≢ codes "x" ++ rest) → (c : ℕ) (rest : List ℕ) → BeginsWithReference text c rest → BeginsWithDigits is_ascii_digit 10 number c rest
by_decimal text number is none c rest r = go r.is_reference
  where
    go : IsReference c r.bytes → BeginsWithDigits is_ascii_digit 10 number c rest
    go (inl named) = absurd (not_by_name text number is c r.bytes rest r.is named)
    go (inr (inl n)) =
        record {
          digits = n.digits;
          is = ap (λ t. tail (tail t)) (sym is ∙ numbered_text (codes "&#") is_ascii_digit 10 c text r.bytes rest r.is n);
          are_digits = n.are_digits;
        }
    go (inr (inr n)) = absurd (none (n.digits ++ (codes ";" ++ rest)) (ap (λ t. tail (tail t)) (sym is ∙ numbered_text (codes "&#x") is_ascii_hexdigit 16 c text r.bytes rest r.is n)))

pub decimal_refers : (text number : List ℕ) → text ≡ codes "&#" ++ number → (c : ℕ) (rest : List ℕ) → BeginsWithDigits is_ascii_digit 10 number c rest → BeginsWithReference text c rest
decimal_refers text number is c rest d =
    record {
      bytes = codes "&#" ++ (d.digits ++ codes ";");
      is = is ∙ ap (λ x. codes "&#" ++ x) d.is ∙ sym (opened (codes "&#") d.digits rest);
      is_reference = inr (inl (record { digits = d.digits; is = refl; are_digits = d.are_digits }));
    }

-- all but `;`
abbrev pub is_no_semicolon : ℕ → Bool
is_no_semicolon b = not (eqb b 59)

no_end : (test : ℕ → Bool) → test 59 ≡ false → (b : ℕ) → test b ≡ true → is_no_semicolon b ≡ true
no_end test fails b pass = go (eqb b 59) refl
  where
    same : (b : ℕ) → eqb b 59 ≡ true → b ≡ 59
    same b e = grind arith

    go : (t : Bool) → eqb b 59 ≡ t → not t ≡ true
    go false e = refl
    go true e = absurd (true≢false (sym pass ∙ ap test (same b e) ∙ fails))

-- a reference begins with `&` and ends with its first `;`
pub record HasShape (bytes : List ℕ) : Type 0 where
  pub body : List ℕ
  pub is : bytes ≡ 38 ∷ (body ++ codes ";")
  pub no_semicolon : list_all is_no_semicolon (38 ∷ body) ≡ true

numbered_shape : (opening : List ℕ) (test : ℕ → Bool) (base c : ℕ) (bytes : List ℕ) → list_all is_no_semicolon (38 ∷ opening) ≡ true → test 59 ≡ false → IsNumbered (38 ∷ opening) test base c bytes → HasShape bytes
numbered_shape opening test base c bytes plain fails n =
    record {
      body = opening ++ n.digits;
      is = n.is ∙ ap (λ x. 38 ∷ x) (sym (append_assoc opening n.digits (codes ";")));
      no_semicolon =
          list_all-append is_no_semicolon (38 ∷ opening) n.digits
          ∙ and_true (list_all is_no_semicolon (38 ∷ opening)) (list_all is_no_semicolon n.digits) plain (list_all_weaker test is_no_semicolon (no_end test fails) n.digits n.are_digits.pass);
    }

pub shape : (c : ℕ) (bytes : List ℕ) → IsReference c bytes → HasShape bytes
shape c bytes (inl (Less _ is)) = record { body = codes "lt"; is = is; no_semicolon = refl }
shape c bytes (inl (Greater _ is)) = record { body = codes "gt"; is = is; no_semicolon = refl }
shape c bytes (inl (Ampersand _ is)) = record { body = codes "amp"; is = is; no_semicolon = refl }
shape c bytes (inl (Quote _ is)) = record { body = codes "quot"; is = is; no_semicolon = refl }
shape c bytes (inl (Apostrophe _ is)) = record { body = codes "apos"; is = is; no_semicolon = refl }
shape c bytes (inr (inl n)) = numbered_shape (codes "#") is_ascii_digit 10 c bytes refl refl n
shape c bytes (inr (inr n)) = numbered_shape (codes "#x") is_ascii_hexdigit 16 c bytes refl refl n

-- of one text two references are the same bytes
pub same_reference : (c d : ℕ) (bytes rest other others : List ℕ) → IsReference c bytes → IsReference d other → bytes ++ rest ≡ other ++ others → bytes ≡ other
same_reference c d bytes rest other others r s same =
    let m = shape c bytes r in
    let n = shape d other s in
    let cut = same_run is_no_semicolon (38 ∷ m.body) (codes ";" ++ rest) (38 ∷ n.body) (codes ";" ++ others)
    (sym (append_assoc (38 ∷ m.body) (codes ";") rest) ∙ ap (λ x. x ++ rest) (sym m.is) ∙ same ∙ ap (λ x. x ++ others) n.is ∙ append_assoc (38 ∷ n.body) (codes ";") others)
    m.no_semicolon n.no_semicolon refl refl in
    m.is ∙ ap (λ x. x ++ codes ";") cut.0 ∙ sym n.is
