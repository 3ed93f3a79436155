-- The mark that begins a text.
use Rattle.std.proofs.Common.{◌≡◌, ℕ, zero, suc, ◌<◌, ◌≤◌, List, [], ◌∷◌, ◌++◌, length, get_or, Some, Bool, true, false, cond, inl, inr, refl, ap, sym, ◌∙◌, subst, arith}
use Rattle.std.specs.Prelude.{◌⊎◌, ◌&&◌, ◌||◌, ◌==◌, not, nat_lt, nat_le, nat_eq, find}
use Rattle.std.specs.List.{list_all, starts_with}
use Rattle.std.proofs.lemmas.Bool.Decides.{nat_tests}
use Rattle.as3_lexer.specs.declared.mark.Mark.{Mark}
use Rattle.as3_lexer.specs.declared.mark.Mark.TheVariants as mark
use Rattle.as3_lexer.specs.Spelling.{mark_spelling, marks, mark_of}
use Rattle.as3_lexer.specs.Forms.{is_blank}
use Rattle.as3_lexer.specs.Scanning.{is_quote}
use Rattle.std.specs.Char.{is_ascii_digit, is_ascii_alphabetic}
use Rattle.as3_lexer.proofs.Cuts.{and_left, and_right, same_front}
use Rattle.as3_lexer.proofs.Fronts.{same_byte}

-- its place in the list
place_of : Mark → ℕ
place_of mark.LeftBrace = 13
place_of mark.RightBrace = 14
place_of mark.LeftParenthesis = 15
place_of mark.RightParenthesis = 16
place_of mark.LeftBracket = 17
place_of mark.RightBracket = 18
place_of mark.Semicolon = 19
place_of mark.Comma = 20
place_of mark.Dot = 21
place_of mark.Colon = 22
place_of mark.Question = 23
place_of mark.Assign = 24
place_of mark.Equal = 2
place_of mark.StrictEqual = 0
place_of mark.NotEqual = 3
place_of mark.StrictNotEqual = 1
place_of mark.Less = 25
place_of mark.LessOrEqual = 4
place_of mark.Greater = 26
place_of mark.GreaterOrEqual = 5
place_of mark.Plus = 27
place_of mark.Minus = 28
place_of mark.Star = 29
place_of mark.Slash = 30
place_of mark.Percent = 31
place_of mark.Not = 32
place_of mark.And = 6
place_of mark.Or = 7
place_of mark.PlusAssign = 8
place_of mark.MinusAssign = 9
place_of mark.StarAssign = 10
place_of mark.Increment = 11
place_of mark.Decrement = 12

is_listed : (m : Mark) → get_or marks (place_of m) m ≡ m
unfolding place_of
is_listed mark.LeftBrace = refl
is_listed mark.RightBrace = refl
is_listed mark.LeftParenthesis = refl
is_listed mark.RightParenthesis = refl
is_listed mark.LeftBracket = refl
is_listed mark.RightBracket = refl
is_listed mark.Semicolon = refl
is_listed mark.Comma = refl
is_listed mark.Dot = refl
is_listed mark.Colon = refl
is_listed mark.Question = refl
is_listed mark.Assign = refl
is_listed mark.Equal = refl
is_listed mark.StrictEqual = refl
is_listed mark.NotEqual = refl
is_listed mark.StrictNotEqual = refl
is_listed mark.Less = refl
is_listed mark.LessOrEqual = refl
is_listed mark.Greater = refl
is_listed mark.GreaterOrEqual = refl
is_listed mark.Plus = refl
is_listed mark.Minus = refl
is_listed mark.Star = refl
is_listed mark.Slash = refl
is_listed mark.Percent = refl
is_listed mark.Not = refl
is_listed mark.And = refl
is_listed mark.Or = refl
is_listed mark.PlusAssign = refl
is_listed mark.MinusAssign = refl
is_listed mark.StarAssign = refl
is_listed mark.Increment = refl
is_listed mark.Decrement = refl

is_within : (m : Mark) → place_of m < 33
unfolding place_of
is_within mark.LeftBrace = omega arith
is_within mark.RightBrace = omega arith
is_within mark.LeftParenthesis = omega arith
is_within mark.RightParenthesis = omega arith
is_within mark.LeftBracket = omega arith
is_within mark.RightBracket = omega arith
is_within mark.Semicolon = omega arith
is_within mark.Comma = omega arith
is_within mark.Dot = omega arith
is_within mark.Colon = omega arith
is_within mark.Question = omega arith
is_within mark.Assign = omega arith
is_within mark.Equal = omega arith
is_within mark.StrictEqual = omega arith
is_within mark.NotEqual = omega arith
is_within mark.StrictNotEqual = omega arith
is_within mark.Less = omega arith
is_within mark.LessOrEqual = omega arith
is_within mark.Greater = omega arith
is_within mark.GreaterOrEqual = omega arith
is_within mark.Plus = omega arith
is_within mark.Minus = omega arith
is_within mark.Star = omega arith
is_within mark.Slash = omega arith
is_within mark.Percent = omega arith
is_within mark.Not = omega arith
is_within mark.And = omega arith
is_within mark.Or = omega arith
is_within mark.PlusAssign = omega arith
is_within mark.MinusAssign = omega arith
is_within mark.StarAssign = omega arith
is_within mark.Increment = omega arith
is_within mark.Decrement = omega arith

-- a mark is read as itself
reads_itself : (m : Mark) → mark_of (mark_spelling m) ≡ Some m
reads_itself mark.LeftBrace = refl
reads_itself mark.RightBrace = refl
reads_itself mark.LeftParenthesis = refl
reads_itself mark.RightParenthesis = refl
reads_itself mark.LeftBracket = refl
reads_itself mark.RightBracket = refl
reads_itself mark.Semicolon = refl
reads_itself mark.Comma = refl
reads_itself mark.Dot = refl
reads_itself mark.Colon = refl
reads_itself mark.Question = refl
reads_itself mark.Assign = refl
reads_itself mark.Equal = refl
reads_itself mark.StrictEqual = refl
reads_itself mark.NotEqual = refl
reads_itself mark.StrictNotEqual = refl
reads_itself mark.Less = refl
reads_itself mark.LessOrEqual = refl
reads_itself mark.Greater = refl
reads_itself mark.GreaterOrEqual = refl
reads_itself mark.Plus = refl
reads_itself mark.Minus = refl
reads_itself mark.Star = refl
reads_itself mark.Slash = refl
reads_itself mark.Percent = refl
reads_itself mark.Not = refl
reads_itself mark.And = refl
reads_itself mark.Or = refl
reads_itself mark.PlusAssign = refl
reads_itself mark.MinusAssign = refl
reads_itself mark.StarAssign = refl
reads_itself mark.Increment = refl
reads_itself mark.Decrement = refl

-- the marks are ASCII
abbrev is_ascii : ℕ → Bool
is_ascii byte = nat_lt byte 128

pub is_ascii_small : (byte : ℕ) → is_ascii byte ≡ true → byte < 128
is_ascii_small byte is = grind (arith, nat_tests)

pub mark_ascii : (m : Mark) → list_all is_ascii (mark_spelling m) ≡ true
mark_ascii mark.LeftBrace = refl
mark_ascii mark.RightBrace = refl
mark_ascii mark.LeftParenthesis = refl
mark_ascii mark.RightParenthesis = refl
mark_ascii mark.LeftBracket = refl
mark_ascii mark.RightBracket = refl
mark_ascii mark.Semicolon = refl
mark_ascii mark.Comma = refl
mark_ascii mark.Dot = refl
mark_ascii mark.Colon = refl
mark_ascii mark.Question = refl
mark_ascii mark.Assign = refl
mark_ascii mark.Equal = refl
mark_ascii mark.StrictEqual = refl
mark_ascii mark.NotEqual = refl
mark_ascii mark.StrictNotEqual = refl
mark_ascii mark.Less = refl
mark_ascii mark.LessOrEqual = refl
mark_ascii mark.Greater = refl
mark_ascii mark.GreaterOrEqual = refl
mark_ascii mark.Plus = refl
mark_ascii mark.Minus = refl
mark_ascii mark.Star = refl
mark_ascii mark.Slash = refl
mark_ascii mark.Percent = refl
mark_ascii mark.Not = refl
mark_ascii mark.And = refl
mark_ascii mark.Or = refl
mark_ascii mark.PlusAssign = refl
mark_ascii mark.MinusAssign = refl
mark_ascii mark.StarAssign = refl
mark_ascii mark.Increment = refl
mark_ascii mark.Decrement = refl

-- a byte with which neither white space, a number nor a text in quotation marks begins, nor an ASCII word
abbrev pub is_other : ℕ → Bool
is_other byte = not (is_blank byte) && (not (is_ascii_digit byte) && (not (is_quote byte) && (not (is_ascii_alphabetic byte) && (not ((byte == 36) || (byte == 95)) && nat_lt byte 128))))

-- what a mark begins with
pub record Begins (m : Mark) : Type 0 where
  pub first : ℕ
  pub others : List ℕ
  pub is : mark_spelling m ≡ first ∷ others
  pub other : is_other first ≡ true
  -- one mark alone begins with `/`
  pub slash : ((47 == first) ≡ false) ⊎ (m ≡ mark.Slash)

pub mark_begins : (m : Mark) → Begins m
mark_begins mark.LeftBrace = record { first = 123; others = []; is = refl; other = refl; slash = inl refl }
mark_begins mark.RightBrace = record { first = 125; others = []; is = refl; other = refl; slash = inl refl }
mark_begins mark.LeftParenthesis = record { first = 40; others = []; is = refl; other = refl; slash = inl refl }
mark_begins mark.RightParenthesis = record { first = 41; others = []; is = refl; other = refl; slash = inl refl }
mark_begins mark.LeftBracket = record { first = 91; others = []; is = refl; other = refl; slash = inl refl }
mark_begins mark.RightBracket = record { first = 93; others = []; is = refl; other = refl; slash = inl refl }
mark_begins mark.Semicolon = record { first = 59; others = []; is = refl; other = refl; slash = inl refl }
mark_begins mark.Comma = record { first = 44; others = []; is = refl; other = refl; slash = inl refl }
mark_begins mark.Dot = record { first = 46; others = []; is = refl; other = refl; slash = inl refl }
mark_begins mark.Colon = record { first = 58; others = []; is = refl; other = refl; slash = inl refl }
mark_begins mark.Question = record { first = 63; others = []; is = refl; other = refl; slash = inl refl }
mark_begins mark.Assign = record { first = 61; others = []; is = refl; other = refl; slash = inl refl }
mark_begins mark.Equal = record { first = 61; others = 61 ∷ []; is = refl; other = refl; slash = inl refl }
mark_begins mark.StrictEqual = record { first = 61; others = 61 ∷ 61 ∷ []; is = refl; other = refl; slash = inl refl }
mark_begins mark.NotEqual = record { first = 33; others = 61 ∷ []; is = refl; other = refl; slash = inl refl }
mark_begins mark.StrictNotEqual = record { first = 33; others = 61 ∷ 61 ∷ []; is = refl; other = refl; slash = inl refl }
mark_begins mark.Less = record { first = 60; others = []; is = refl; other = refl; slash = inl refl }
mark_begins mark.LessOrEqual = record { first = 60; others = 61 ∷ []; is = refl; other = refl; slash = inl refl }
mark_begins mark.Greater = record { first = 62; others = []; is = refl; other = refl; slash = inl refl }
mark_begins mark.GreaterOrEqual = record { first = 62; others = 61 ∷ []; is = refl; other = refl; slash = inl refl }
mark_begins mark.Plus = record { first = 43; others = []; is = refl; other = refl; slash = inl refl }
mark_begins mark.Minus = record { first = 45; others = []; is = refl; other = refl; slash = inl refl }
mark_begins mark.Star = record { first = 42; others = []; is = refl; other = refl; slash = inl refl }
mark_begins mark.Slash = record { first = 47; others = []; is = refl; other = refl; slash = inr refl }
mark_begins mark.Percent = record { first = 37; others = []; is = refl; other = refl; slash = inl refl }
mark_begins mark.Not = record { first = 33; others = []; is = refl; other = refl; slash = inl refl }
mark_begins mark.And = record { first = 38; others = 38 ∷ []; is = refl; other = refl; slash = inl refl }
mark_begins mark.Or = record { first = 124; others = 124 ∷ []; is = refl; other = refl; slash = inl refl }
mark_begins mark.PlusAssign = record { first = 43; others = 61 ∷ []; is = refl; other = refl; slash = inl refl }
mark_begins mark.MinusAssign = record { first = 45; others = 61 ∷ []; is = refl; other = refl; slash = inl refl }
mark_begins mark.StarAssign = record { first = 42; others = 61 ∷ []; is = refl; other = refl; slash = inl refl }
mark_begins mark.Increment = record { first = 43; others = 43 ∷ []; is = refl; other = refl; slash = inl refl }
mark_begins mark.Decrement = record { first = 45; others = 45 ∷ []; is = refl; other = refl; slash = inl refl }

-- each mark of a list is no longer than those before it
abbrev size : Mark → ℕ
size m = length (mark_spelling m)

abbrev is_sorted : List Mark → Bool
is_sorted [] = true
is_sorted (m ∷ ms) = list_all (λ o. nat_le (size o) (size m)) ms && is_sorted ms

sorted : is_sorted marks ≡ true
sorted = refl

is_le : (m n : ℕ) → nat_le m n ≡ true → m ≤ n
is_le m n is = grind (arith, nat_tests)

each_is : (test : Mark → Bool) (ms : List Mark) (k : ℕ) (d : Mark) → list_all test ms ≡ true → k < length ms → test (get_or ms k d) ≡ true
each_is test [] k d all less = absurd (omega arith)
each_is test (m ∷ ms) zero d all less = and_left (test m) (list_all test ms) all
each_is test (m ∷ ms) (suc k) d all less = each_is test ms k d (and_right (test m) (list_all test ms) all) (omega (arith, less))

-- the first that passes is the longest
record Found (test : Mark → Bool) (ms : List Mark) (m : Mark) : Type 0 where
  best : Mark
  is : find test ms ≡ Some best
  passes : test best ≡ true
  longest : size m ≤ size best

first_is_longest : (test : Mark → Bool) (ms : List Mark) (k : ℕ) (d : Mark) → is_sorted ms ≡ true → k < length ms → test (get_or ms k d) ≡ true → Found test ms (get_or ms k d)
first_is_longest test [] k d in_order less passes = absurd (omega arith)
first_is_longest test (m ∷ ms) zero d in_order less passes = record { best = m; is = rw passes refl; passes = passes; longest = omega arith }
first_is_longest test (m ∷ ms) (suc k) d in_order less passes =
    go (test m) refl (first_is_longest test ms k d (and_right _ (is_sorted ms) in_order) (omega (arith, less)) passes)
  where
    no_longer : size (get_or ms k d) ≤ size m
    no_longer = is_le _ _ (each_is (λ o. nat_le (size o) (size m)) ms k d (and_left _ (is_sorted ms) in_order) (omega (arith, less)))

    go : (t : Bool) → test m ≡ t → Found test ms (get_or ms k d) → Found test (m ∷ ms) (get_or ms k d)
    go true here later = record { best = m; is = rw here refl; passes = here; longest = no_longer }
    go false here later = record { best = later.best; is = rw here later.is; passes = later.passes; longest = later.longest }

found_passes : (test : Mark → Bool) (ms : List Mark) (m : Mark) → find test ms ≡ Some m → test m ≡ true
found_passes test [] m is = cc
found_passes test (o ∷ ms) m is = go (test o) refl is (found_passes test ms m)
  where
    go : (t : Bool) → test o ≡ t → cond t (Some o) (find test ms) ≡ Some m → (find test ms ≡ Some m → test m ≡ true) → test m ≡ true
    go true here found others = let same : o ≡ m = cc in subst (λ x. test x ≡ true) same here
    go false here found others = others found

-- a text begins with a mark exactly where it passes the test
starts_front : (front back : List ℕ) → starts_with nat_eq (front ++ back) front ≡ true
starts_front [] back = refl
starts_front (byte ∷ front) back = rw (itself byte) (starts_front front back)
  where
    itself : (a : ℕ) → nat_eq a a ≡ true
    itself a = grind (arith, nat_tests)

pub starts_gives : (front text : List ℕ) → starts_with nat_eq text front ≡ true → (back : List ℕ) × (text ≡ front ++ back)
starts_gives [] text is = (text, refl)
starts_gives (byte ∷ front) [] is = cc
starts_gives (byte ∷ front) (first ∷ text) is =
    let (back, rest) = starts_gives front text (and_right (nat_eq byte first) _ is) in
    let here = same_byte byte first (and_left (nat_eq byte first) _ is) in
    (back, cc)

-- what is found begins the text
pub mark_gives : (text : List ℕ) (m : Mark) → mark_of text ≡ Some m → (back : List ℕ) × (text ≡ mark_spelling m ++ back)
mark_gives text m is = starts_gives (mark_spelling m) text (found_passes (λ o. starts_with nat_eq text (mark_spelling o)) marks m is)

-- the longest mark is found, and of two as long there is one
pub record Longest (text : List ℕ) (m : Mark) : Type 0 where
  pub best : Mark
  pub is : mark_of text ≡ Some best
  pub longest : length (mark_spelling m) ≤ length (mark_spelling best)
  pub one : length (mark_spelling m) ≡ length (mark_spelling best) → best ≡ m

pub mark_longest : (m : Mark) (back : List ℕ) → Longest (mark_spelling m ++ back) m
mark_longest m back = go (first_is_longest (λ o. starts_with nat_eq (mark_spelling m ++ back) (mark_spelling o)) marks (place_of m) m sorted (is_within m) passes)
  where
    passes : starts_with nat_eq (mark_spelling m ++ back) (mark_spelling (get_or marks (place_of m) m)) ≡ true
    passes = rw (is_listed m) (starts_front (mark_spelling m) back)

    go : Found (λ o. starts_with nat_eq (mark_spelling m ++ back) (mark_spelling o)) marks (get_or marks (place_of m) m) → Longest (mark_spelling m ++ back) m
    go found =
        let (rest, splits) = mark_gives (mark_spelling m ++ back) found.best found.is in
        record {
          best = found.best;
          is = found.is;
          longest = subst (λ x. size x ≤ size found.best) (is_listed m) found.longest;
          one = λ long.
              let same = same_front (mark_spelling m) (mark_spelling found.best) back rest splits long in
              let read : Some m ≡ Some found.best = sym (reads_itself m) ∙ ap mark_of same.0 ∙ reads_itself found.best in
              cc;
        }
