-- The word that begins a text.
use Rattle.std.proofs.Common.{◌≡◌, ℕ, ◌+◌, ◌≤◌, List, [], ◌∷◌, ◌++◌, length, Bool, true, false, refl, ap, sym, ◌∙◌, subst, arith, length-append}
use Rattle.std.specs.Prelude.{IsUtf8, encode_utf8, encode_utf8_all}
use Rattle.std.specs.Bool.{then_some}
use Rattle.std.specs.List.{list_all}
use Rattle.std.specs.Str.{chars, all_scalars}
use Rattle.std.proofs.lemmas.Str.{chars-append, chars-encodes, encodes-append, encodes-chars, scalars-chars}
use Rattle.as3_lexer.specs.Forms.{IsWord, starts_word, continues_word}
use Rattle.as3_lexer.specs.Scanning.{continued_len, word_len, word_len_of}
use Rattle.as3_lexer.proofs.Cuts.{Cut, IfCut, AtLeast, and_left, and_right, and_both}

-- characters that continue a word, and the others
record Continued (cs : List ℕ) : Type 0 where
  word : List ℕ
  others : List ℕ
  is : cs ≡ word ++ others
  continues : list_all continues_word word ≡ true
  long : continued_len cs ≡ length (encode_utf8_all word)

split : (cs : List ℕ) → Continued cs
split [] = record { word = []; others = []; is = refl; continues = refl; long = refl }
split (c ∷ cs) = go (continues_word c) refl (split cs)
  where
    go : (t : Bool) → continues_word c ≡ t → Continued cs → Continued (c ∷ cs)
    go true here more =
        record {
          word = c ∷ more.word;
          others = more.others;
          is = ap (λ t. c ∷ t) more.is;
          continues = and_both (continues_word c) (list_all continues_word more.word) here more.continues;
          long = rw here (omega (arith, more.long, length-append (encode_utf8 c) (encode_utf8_all more.word)));
        }
    go false here more = record { word = []; others = c ∷ cs; is = refl; continues = refl; long = rw here refl }

scalars_front : (front back : List ℕ) → all_scalars (front ++ back) ≡ true → all_scalars front ≡ true
scalars_front [] back all = refl
scalars_front (c ∷ front) back all = and_both _ (all_scalars front) (and_left _ (all_scalars (front ++ back)) all) (scalars_front front back (and_right _ (all_scalars (front ++ back)) all))

scalars_back : (front back : List ℕ) → all_scalars (front ++ back) ≡ true → all_scalars back ≡ true
scalars_back [] back all = all
scalars_back (c ∷ front) back all = scalars_back front back (and_right _ (all_scalars (front ++ back)) all)

word_cut : (text cs : List ℕ) (c : ℕ) → encode_utf8_all (c ∷ cs) ≡ text → all_scalars (c ∷ cs) ≡ true → starts_word c ≡ true → Cut IsWord (length (encode_utf8 c) + continued_len cs) text
word_cut text cs c spelled all starts =
    let parts = split cs in
    let characters : c ∷ cs ≡ (c ∷ parts.word) ++ parts.others = ap (λ t. c ∷ t) parts.is in
    let scalars : all_scalars ((c ∷ parts.word) ++ parts.others) ≡ true = subst (λ t. all_scalars t ≡ true) characters all in
    record {
      front = encode_utf8_all (c ∷ parts.word);
      back = encode_utf8_all parts.others;
      is = sym spelled ∙ ap encode_utf8_all characters ∙ encodes-append (c ∷ parts.word) parts.others;
      long = omega (arith, parts.long, length-append (encode_utf8 c) (encode_utf8_all parts.word));
      form = record { first = c; others = parts.word; characters = scalars_front (c ∷ parts.word) parts.others scalars; spelled = refl; starts = starts; continues = parts.continues };
      utf8 = λ utf8. (parts.others, (scalars_back (c ∷ parts.word) parts.others scalars, refl));
    }

-- what is found is a word
pub word_found : (text : List ℕ) → IsUtf8 text → IfCut IsWord (word_len text) text
word_found text utf8 = go (chars text) (encodes-chars text utf8) (scalars-chars text utf8)
  where
    test : (cs : List ℕ) (c : ℕ) → encode_utf8_all (c ∷ cs) ≡ text → all_scalars (c ∷ cs) ≡ true → (t : Bool) → starts_word c ≡ t → IfCut IsWord (then_some t (length (encode_utf8 c) + continued_len cs)) text
    test cs c spelled all true starts = word_cut text cs c spelled all starts
    test cs c spelled all false starts = tt

    go : (cs : List ℕ) → encode_utf8_all cs ≡ text → all_scalars cs ≡ true → IfCut IsWord (word_len_of cs) text
    go [] spelled all = tt
    go (c ∷ cs) spelled all = test cs c spelled all (starts_word c) refl

continued_at_least : (word others : List ℕ) → list_all continues_word word ≡ true → length (encode_utf8_all word) ≤ continued_len (word ++ others)
continued_at_least [] others continues = omega arith
continued_at_least (c ∷ word) others continues =
    let here = and_left (continues_word c) (list_all continues_word word) continues in
    let more = continued_at_least word others (and_right (continues_word c) (list_all continues_word word) continues) in
    rw here (omega (arith, more, length-append (encode_utf8 c) (encode_utf8_all word)))

-- words are found, and nothing longer is missed
pub word_covered : (front back : List ℕ) → IsWord front → AtLeast (length front) (word_len (front ++ back))
word_covered front back form =
    let characters : chars front ≡ form.first ∷ form.others = ap chars form.spelled ∙ chars-encodes (form.first ∷ form.others) form.characters in
    let all : chars (front ++ back) ≡ form.first ∷ (form.others ++ chars back) =
    chars-append front back (form.first ∷ form.others, (form.characters, sym form.spelled)) ∙ ap (λ t. t ++ chars back) characters in
    let more = continued_at_least form.others (chars back) form.continues in
    let long : length front ≡ length (encode_utf8 form.first) + length (encode_utf8_all form.others) = ap length form.spelled ∙ length-append (encode_utf8 form.first) (encode_utf8_all form.others) in
    rw (all, form.starts) (omega (arith, more, long))
