-- A name begins a text, or none does.
use Rattle.std.proofs.Common.{◌≡◌, ◌⊎◌, ℕ, List, [], ◌∷◌, ◌++◌, length, Bool, true, false, inl, inr, refl, ap, sym, ◌∙◌, subst, true≢false, append-nil, IsUtf8, eqb, eqb-true, arith}
use Rattle.std.specs.Prelude.{◌&&◌}
use Rattle.std.specs.List.{list_all}
use Rattle.std.specs.Str.{chars, is_utf8}
use lib.Utf8.{encodes, scalars}
use Rattle.std.proofs.lemmas.Bool.{not-false}
use Rattle.std.proofs.lemmas.Str.{IsUtf8-from_is_utf8, chars-encodes, is_utf8-from_IsUtf8}
use Rattle.mxml_items.specs.Runs.{is_in_name}
use Rattle.mxml_items.specs.Names.{BeginsWithName, HasNoName, IsName, IsPart, continues_part, starts_part}
use Rattle.mxml_items.proofs.RunLaws.{and_true, both, head, tail}
use Rattle.mxml_items.proofs.AttributeLaws.{name_not_empty}
use Rattle.mxml_items.proofs.NameLaws.{is_no_colon, name_is_part, name_is_parts, no_name_of, part_is_utf8}
use Rattle.mxml_laws.proofs.Fronts.{Runs, run_of}

-- the bytes of characters are a part, or aren't
spelled_part : (characters word : List ℕ) → scalars characters ≡ true → encodes characters ≡ word → IsPart word ⊎ (¬ (IsPart word))
spelled_part [] word are is = inr (λ p. (let some = name_not_empty word (inl p) in let none = ap length is in omega (arith, some, none)))
spelled_part (c ∷ others) word are is = by (starts_part c && list_all continues_part others) refl
  where
    by : (t : Bool) → (starts_part c && list_all continues_part others) ≡ t → IsPart word ⊎ (¬ (IsPart word))
    by true passes =
        let (starts, continue) = both (starts_part c) (list_all continues_part others) passes in
        inl (record { first = c; others = others; are_characters = are; spelled = sym is; starts_it = starts; continue_it = continue })
    by false fails = inr none
      where
        none : ¬ (IsPart word)
        none p =
            let same : p.first ∷ p.others ≡ c ∷ others =
            sym (chars-encodes (p.first ∷ p.others) p.are_characters) ∙ ap chars (sym p.spelled ∙ sym is) ∙ chars-encodes (c ∷ others) are in
            let passes = and_true (starts_part p.first) (list_all continues_part p.others) p.starts_it p.continue_it in
            true≢false (sym passes ∙ ap (λ cs. starts_part (head 0 cs) && list_all continues_part (tail cs)) same ∙ fails)

part_or_not : (word : List ℕ) → IsPart word ⊎ (¬ (IsPart word))
part_or_not word = by (is_utf8 word) refl
  where
    of_characters : IsUtf8 word → IsPart word ⊎ (¬ (IsPart word))
    of_characters (characters, (are, is)) = spelled_part characters word are is

    by : (t : Bool) → is_utf8 word ≡ t → IsPart word ⊎ (¬ (IsPart word))
    by true is = of_characters (IsUtf8-from_is_utf8 word is)
    by false is = inr (λ p. true≢false (sym (is_utf8-from_IsUtf8 word (part_is_utf8 word p)) ∙ is))

word_or_not : (word : List ℕ) → IsName word ⊎ (¬ (IsName word))
word_or_not word = by_run (run_of is_no_colon word)
  where
    is_colon : (b : ℕ) → is_no_colon b ≡ false → b ≡ 58
    is_colon b is = eqb-true b 58 (not-false (eqb b 58) is)

    one_part : list_all is_no_colon word ≡ true → IsPart word ⊎ (¬ (IsPart word)) → IsName word ⊎ (¬ (IsName word))
    one_part plain (inl p) = inl (inl p)
    one_part plain (inr none) = inr (λ n. none (name_is_part word plain n))

    two_parts : (prefix local : List ℕ) → word ≡ prefix ++ (58 ∷ local) → list_all is_no_colon prefix ≡ true → IsPart prefix ⊎ (¬ (IsPart prefix)) → IsPart local ⊎ (¬ (IsPart local)) → IsName word ⊎ (¬ (IsName word))
    two_parts prefix local is plain (inl p) (inl q) = inl (inr (record { prefix = prefix; local = local; is = is; is_prefix = p; is_local = q }))
    two_parts prefix local is plain (inr none) found = inr (λ n. none (name_is_parts word prefix local is plain n).0)
    two_parts prefix local is plain (inl p) (inr none) = inr (λ n. none (name_is_parts word prefix local is plain n).1)

    by_run : Runs is_no_colon word → IsName word ⊎ (¬ (IsName word))
    by_run (front, [], run) = one_part (subst (λ t. list_all is_no_colon t ≡ true) (sym (run.is ∙ append-nil front)) run.pass) (part_or_not word)
    by_run (front, b ∷ local, run) = two_parts front local (run.is ∙ ap (λ n. front ++ (n ∷ local)) (is_colon b run.stops)) run.pass (part_or_not front) (part_or_not local)

abbrev pub Named : List ℕ → Type 0
Named text = (name : List ℕ) × (rest : List ℕ) × BeginsWithName text name rest

pub name_or_not : (text : List ℕ) → Named text ⊎ HasNoName text
name_or_not text = by_run (run_of is_in_name text)
  where
    by_run : Runs is_in_name text → Named text ⊎ HasNoName text
    by_run (front, rest, run) = by (word_or_not front)
      where
        by : IsName front ⊎ (¬ (IsName front)) → Named text ⊎ HasNoName text
        by (inl is) = inl (front, rest, record { is = run.is; is_name = is; stops = run.stops })
        by (inr none) = inr (no_name_of text front rest run none)
