-- The kind of a word.
use Rattle.std.proofs.Common.{◌≡◌, ℕ, ◌<◌, List, [], ◌∷◌, Option, Some, None, Bool, true, false, cond, refl, ap, sym, ◌∙◌, arith}
use Rattle.std.specs.Prelude.{◌≢◌, ◌&&◌, nat_le, find, bytes_eq, encode_utf8_all}
use Rattle.std.specs.List.{list_all}
use Rattle.std.specs.Str.{all_scalars}
use Rattle.std.proofs.lemmas.Bool.Decides.{nat_tests}
use Rattle.std.proofs.lemmas.Slice.Eq.{bytes_eq-Decides}
use Rattle.std.proofs.lemmas.Str.{encode_ascii}
use lib.Utf8.{low_scalar}
use Rattle.std.specs.Char.{is_ascii_alphabetic, is_ascii_alphanumeric}
use Rattle.unicode_ident.proofs.IdentLemmas.{is_xid_start-ascii, is_xid_continue-ascii}
use Rattle.as3_lexer.specs.declared.keyword.Keyword.{Keyword}
use Rattle.as3_lexer.specs.declared.keyword.Keyword.TheVariants as keyword
use Rattle.as3_lexer.specs.Spelling.{keyword_spelling, keywords, keyword_of}
use Rattle.as3_lexer.specs.Forms.{IsWord, starts_word, continues_word}
use Rattle.as3_lexer.proofs.Cuts.{and_left, and_right, and_both}

-- a keyword is read as itself
pub keyword_itself : (k : Keyword) → keyword_of (keyword_spelling k) ≡ Some k
keyword_itself keyword.As = refl
keyword_itself keyword.Break = refl
keyword_itself keyword.Case = refl
keyword_itself keyword.Catch = refl
keyword_itself keyword.Class = refl
keyword_itself keyword.Const = refl
keyword_itself keyword.Continue = refl
keyword_itself keyword.Default = refl
keyword_itself keyword.Delete = refl
keyword_itself keyword.Do = refl
keyword_itself keyword.Else = refl
keyword_itself keyword.Extends = refl
keyword_itself keyword.False = refl
keyword_itself keyword.Finally = refl
keyword_itself keyword.For = refl
keyword_itself keyword.Function = refl
keyword_itself keyword.If = refl
keyword_itself keyword.Implements = refl
keyword_itself keyword.Import = refl
keyword_itself keyword.In = refl
keyword_itself keyword.InstanceOf = refl
keyword_itself keyword.Interface = refl
keyword_itself keyword.Internal = refl
keyword_itself keyword.Is = refl
keyword_itself keyword.Native = refl
keyword_itself keyword.New = refl
keyword_itself keyword.Null = refl
keyword_itself keyword.Override = refl
keyword_itself keyword.Package = refl
keyword_itself keyword.Private = refl
keyword_itself keyword.Protected = refl
keyword_itself keyword.Public = refl
keyword_itself keyword.Return = refl
keyword_itself keyword.Super = refl
keyword_itself keyword.Switch = refl
keyword_itself keyword.This = refl
keyword_itself keyword.Throw = refl
keyword_itself keyword.To = refl
keyword_itself keyword.True = refl
keyword_itself keyword.Try = refl
keyword_itself keyword.TypeOf = refl
keyword_itself keyword.Use = refl
keyword_itself keyword.Var = refl
keyword_itself keyword.Void = refl
keyword_itself keyword.While = refl
keyword_itself keyword.With = refl

abbrev is_lower : ℕ → Bool
is_lower byte = nat_le 97 byte && nat_le byte 122

-- lower-case letters
record Lower (word : List ℕ) : Type 0 where
  first : ℕ
  others : List ℕ
  is : word ≡ first ∷ others
  lower : list_all is_lower (first ∷ others) ≡ true

keyword_lower : (k : Keyword) → Lower (keyword_spelling k)
keyword_lower keyword.As = record { first = 97; others = 115 ∷ []; is = refl; lower = refl }
keyword_lower keyword.Break = record { first = 98; others = 114 ∷ 101 ∷ 97 ∷ 107 ∷ []; is = refl; lower = refl }
keyword_lower keyword.Case = record { first = 99; others = 97 ∷ 115 ∷ 101 ∷ []; is = refl; lower = refl }
keyword_lower keyword.Catch = record { first = 99; others = 97 ∷ 116 ∷ 99 ∷ 104 ∷ []; is = refl; lower = refl }
keyword_lower keyword.Class = record { first = 99; others = 108 ∷ 97 ∷ 115 ∷ 115 ∷ []; is = refl; lower = refl }
keyword_lower keyword.Const = record { first = 99; others = 111 ∷ 110 ∷ 115 ∷ 116 ∷ []; is = refl; lower = refl }
keyword_lower keyword.Continue = record { first = 99; others = 111 ∷ 110 ∷ 116 ∷ 105 ∷ 110 ∷ 117 ∷ 101 ∷ []; is = refl; lower = refl }
keyword_lower keyword.Default = record { first = 100; others = 101 ∷ 102 ∷ 97 ∷ 117 ∷ 108 ∷ 116 ∷ []; is = refl; lower = refl }
keyword_lower keyword.Delete = record { first = 100; others = 101 ∷ 108 ∷ 101 ∷ 116 ∷ 101 ∷ []; is = refl; lower = refl }
keyword_lower keyword.Do = record { first = 100; others = 111 ∷ []; is = refl; lower = refl }
keyword_lower keyword.Else = record { first = 101; others = 108 ∷ 115 ∷ 101 ∷ []; is = refl; lower = refl }
keyword_lower keyword.Extends = record { first = 101; others = 120 ∷ 116 ∷ 101 ∷ 110 ∷ 100 ∷ 115 ∷ []; is = refl; lower = refl }
keyword_lower keyword.False = record { first = 102; others = 97 ∷ 108 ∷ 115 ∷ 101 ∷ []; is = refl; lower = refl }
keyword_lower keyword.Finally = record { first = 102; others = 105 ∷ 110 ∷ 97 ∷ 108 ∷ 108 ∷ 121 ∷ []; is = refl; lower = refl }
keyword_lower keyword.For = record { first = 102; others = 111 ∷ 114 ∷ []; is = refl; lower = refl }
keyword_lower keyword.Function = record { first = 102; others = 117 ∷ 110 ∷ 99 ∷ 116 ∷ 105 ∷ 111 ∷ 110 ∷ []; is = refl; lower = refl }
keyword_lower keyword.If = record { first = 105; others = 102 ∷ []; is = refl; lower = refl }
keyword_lower keyword.Implements = record { first = 105; others = 109 ∷ 112 ∷ 108 ∷ 101 ∷ 109 ∷ 101 ∷ 110 ∷ 116 ∷ 115 ∷ []; is = refl; lower = refl }
keyword_lower keyword.Import = record { first = 105; others = 109 ∷ 112 ∷ 111 ∷ 114 ∷ 116 ∷ []; is = refl; lower = refl }
keyword_lower keyword.In = record { first = 105; others = 110 ∷ []; is = refl; lower = refl }
keyword_lower keyword.InstanceOf = record { first = 105; others = 110 ∷ 115 ∷ 116 ∷ 97 ∷ 110 ∷ 99 ∷ 101 ∷ 111 ∷ 102 ∷ []; is = refl; lower = refl }
keyword_lower keyword.Interface = record { first = 105; others = 110 ∷ 116 ∷ 101 ∷ 114 ∷ 102 ∷ 97 ∷ 99 ∷ 101 ∷ []; is = refl; lower = refl }
keyword_lower keyword.Internal = record { first = 105; others = 110 ∷ 116 ∷ 101 ∷ 114 ∷ 110 ∷ 97 ∷ 108 ∷ []; is = refl; lower = refl }
keyword_lower keyword.Is = record { first = 105; others = 115 ∷ []; is = refl; lower = refl }
keyword_lower keyword.Native = record { first = 110; others = 97 ∷ 116 ∷ 105 ∷ 118 ∷ 101 ∷ []; is = refl; lower = refl }
keyword_lower keyword.New = record { first = 110; others = 101 ∷ 119 ∷ []; is = refl; lower = refl }
keyword_lower keyword.Null = record { first = 110; others = 117 ∷ 108 ∷ 108 ∷ []; is = refl; lower = refl }
keyword_lower keyword.Override = record { first = 111; others = 118 ∷ 101 ∷ 114 ∷ 114 ∷ 105 ∷ 100 ∷ 101 ∷ []; is = refl; lower = refl }
keyword_lower keyword.Package = record { first = 112; others = 97 ∷ 99 ∷ 107 ∷ 97 ∷ 103 ∷ 101 ∷ []; is = refl; lower = refl }
keyword_lower keyword.Private = record { first = 112; others = 114 ∷ 105 ∷ 118 ∷ 97 ∷ 116 ∷ 101 ∷ []; is = refl; lower = refl }
keyword_lower keyword.Protected = record { first = 112; others = 114 ∷ 111 ∷ 116 ∷ 101 ∷ 99 ∷ 116 ∷ 101 ∷ 100 ∷ []; is = refl; lower = refl }
keyword_lower keyword.Public = record { first = 112; others = 117 ∷ 98 ∷ 108 ∷ 105 ∷ 99 ∷ []; is = refl; lower = refl }
keyword_lower keyword.Return = record { first = 114; others = 101 ∷ 116 ∷ 117 ∷ 114 ∷ 110 ∷ []; is = refl; lower = refl }
keyword_lower keyword.Super = record { first = 115; others = 117 ∷ 112 ∷ 101 ∷ 114 ∷ []; is = refl; lower = refl }
keyword_lower keyword.Switch = record { first = 115; others = 119 ∷ 105 ∷ 116 ∷ 99 ∷ 104 ∷ []; is = refl; lower = refl }
keyword_lower keyword.This = record { first = 116; others = 104 ∷ 105 ∷ 115 ∷ []; is = refl; lower = refl }
keyword_lower keyword.Throw = record { first = 116; others = 104 ∷ 114 ∷ 111 ∷ 119 ∷ []; is = refl; lower = refl }
keyword_lower keyword.To = record { first = 116; others = 111 ∷ []; is = refl; lower = refl }
keyword_lower keyword.True = record { first = 116; others = 114 ∷ 117 ∷ 101 ∷ []; is = refl; lower = refl }
keyword_lower keyword.Try = record { first = 116; others = 114 ∷ 121 ∷ []; is = refl; lower = refl }
keyword_lower keyword.TypeOf = record { first = 116; others = 121 ∷ 112 ∷ 101 ∷ 111 ∷ 102 ∷ []; is = refl; lower = refl }
keyword_lower keyword.Use = record { first = 117; others = 115 ∷ 101 ∷ []; is = refl; lower = refl }
keyword_lower keyword.Var = record { first = 118; others = 97 ∷ 114 ∷ []; is = refl; lower = refl }
keyword_lower keyword.Void = record { first = 118; others = 111 ∷ 105 ∷ 100 ∷ []; is = refl; lower = refl }
keyword_lower keyword.While = record { first = 119; others = 104 ∷ 105 ∷ 108 ∷ 101 ∷ []; is = refl; lower = refl }
keyword_lower keyword.With = record { first = 119; others = 105 ∷ 116 ∷ 104 ∷ []; is = refl; lower = refl }

-- what is found is written so
find_gives : (word : List ℕ) (ks : List Keyword) (k : Keyword) → find (λ k. bytes_eq (keyword_spelling k) word) ks ≡ Some k → word ≡ keyword_spelling k
find_gives word [] k is = cc
find_gives word (other ∷ ks) k is = go (bytes_eq (keyword_spelling other) word) refl is (find_gives word ks k)
  where
    go : (t : Bool) → bytes_eq (keyword_spelling other) word ≡ t → cond t (Some other) (find (λ k. bytes_eq (keyword_spelling k) word) ks) ≡ Some k
        → (find (λ k. bytes_eq (keyword_spelling k) word) ks ≡ Some k → word ≡ keyword_spelling k) → word ≡ keyword_spelling k
    go true here found others = let same : other ≡ k = cc in sym ((bytes_eq-Decides (keyword_spelling other) word).0 here) ∙ ap keyword_spelling same
    go false here found others = others found

pub keyword_gives : (word : List ℕ) (k : Keyword) → keyword_of word ≡ Some k → word ≡ keyword_spelling k
keyword_gives word k is = find_gives word keywords k is

-- and what isn't found isn't one
pub keyword_none : (word : List ℕ) → keyword_of word ≡ None → (k : Keyword) → word ≢ keyword_spelling k
keyword_none word none k is = let found = ap keyword_of is ∙ keyword_itself k in cc

pub no_keyword : (word : List ℕ) → ((k : Keyword) → word ≢ keyword_spelling k) → keyword_of word ≡ None
no_keyword word none = go (keyword_of word) refl
  where
    go : (r : Option Keyword) → keyword_of word ≡ r → r ≡ None
    go None is = refl
    go (Some k) is = absurd (none k (keyword_gives word k is))

lower_small : (byte : ℕ) → is_lower byte ≡ true → byte < 128
lower_small byte is = grind (arith, nat_tests)

lower_letter : (byte : ℕ) → is_lower byte ≡ true → is_ascii_alphabetic byte ≡ true
lower_letter byte is = grind (arith, nat_tests)

lower_alphanumeric : (byte : ℕ) → is_lower byte ≡ true → is_ascii_alphanumeric byte ≡ true
lower_alphanumeric byte is = grind (arith, nat_tests)

lower_starts : (byte : ℕ) → is_lower byte ≡ true → starts_word byte ≡ true
lower_starts byte is = rw (is_xid_start-ascii byte (lower_small byte is), lower_letter byte is) refl

lower_continues : (byte : ℕ) → is_lower byte ≡ true → continues_word byte ≡ true
lower_continues byte is = rw (is_xid_continue-ascii byte (lower_small byte is), lower_alphanumeric byte is) refl

all_continue : (word : List ℕ) → list_all is_lower word ≡ true → list_all continues_word word ≡ true
all_continue [] lower = refl
all_continue (byte ∷ word) lower =
    and_both (continues_word byte) (list_all continues_word word) (lower_continues byte (and_left (is_lower byte) (list_all is_lower word) lower)) (all_continue word (and_right (is_lower byte) (list_all is_lower word) lower))

all_scalar : (word : List ℕ) → list_all is_lower word ≡ true → all_scalars word ≡ true
all_scalar [] lower = refl
all_scalar (byte ∷ word) lower =
    let below = λ (small : byte < 128). let less : byte < 55296 = omega arith in less in
    and_both _ (all_scalars word) (low_scalar byte (below (lower_small byte (and_left (is_lower byte) (list_all is_lower word) lower)))) (all_scalar word (and_right (is_lower byte) (list_all is_lower word) lower))

all_spelled : (word : List ℕ) → list_all is_lower word ≡ true → word ≡ encode_utf8_all word
all_spelled [] lower = refl
all_spelled (byte ∷ word) lower =
    let here = encode_ascii byte (lower_small byte (and_left (is_lower byte) (list_all is_lower word) lower)) in
    let others = all_spelled word (and_right (is_lower byte) (list_all is_lower word) lower) in
    rw (here, ← others) refl

-- each keyword has the form of a word
pub keyword_word : (k : Keyword) → IsWord (keyword_spelling k)
keyword_word k =
    let letters = keyword_lower k in
    record {
      first = letters.first;
      others = letters.others;
      characters = all_scalar (letters.first ∷ letters.others) letters.lower;
      spelled = letters.is ∙ all_spelled (letters.first ∷ letters.others) letters.lower;
      starts = lower_starts letters.first (and_left (is_lower letters.first) (list_all is_lower letters.others) letters.lower);
      continues = all_continue letters.others (and_right (is_lower letters.first) (list_all is_lower letters.others) letters.lower);
    }
