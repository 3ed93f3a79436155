-- The white space or the comment that begins a text.
use Rattle.std.proofs.Common.{◌≡◌, ℕ, suc, ◌+◌, ◌<◌, ◌≤◌, List, [], ◌∷◌, ◌++◌, length, take, drop, Option, Some, None, Bool, true, false, cond, inl, inr, refl, ap, sym, ◌∙◌, subst, arith, length-append, append_assoc}
use Rattle.std.specs.Prelude.{◌⊎◌, IsUtf8, codes, nat_lt}
use Rattle.std.specs.List.{prefix_len}
use Rattle.std.specs.Option.{option_map}
use Rattle.std.proofs.lemmas.Bool.Decides.{nat_tests}
use Rattle.std.proofs.lemmas.List.{take-append-drop, length-take-le}
use Rattle.std.proofs.lemmas.List.Sums.{prefix_len-le-length, prefix_len_stops}
use Rattle.std.proofs.lemmas.Str.{IsUtf8-drop, IsCharBoundary-before_ascii, IsCharBoundary-end}
use Rattle.as3_lexer.specs.Forms.{AreSome, IsGap, IsLineComment, IsBlockComment, is_blank, is_in_line}
use Rattle.as3_lexer.specs.Scanning.{behind, closing_place, closing_place_or, comment_len, gap_len, line_comment_len}
use Rattle.as3_lexer.proofs.Cuts.{Cut, IfCut, AtLeast, longer_front, run_at_least, run_passes, run_cut, behind_ascii}
use Rattle.as3_lexer.proofs.Fronts.{behind_gives}

blank_small : (byte : ℕ) → is_blank byte ≡ true → byte < 128
blank_small byte is = grind (arith, nat_tests)

-- the first `*/` stands no later than any other
closing_covers : (front back : List ℕ) → (place : ℕ) × (closing_place (front ++ (codes "*/" ++ back)) ≡ Some place) × (place ≤ length front)
closing_covers [] back = (0, refl, omega arith)
closing_covers (byte ∷ front) back =
    let (place, is, less) = closing_covers front back in
    go (behind (codes "*/") (byte ∷ (front ++ (codes "*/" ++ back)))) (closing_place (front ++ (codes "*/" ++ back))) place is less
  where
    go : (r : Option (List ℕ)) (later : Option ℕ) (place : ℕ) → later ≡ Some place → place ≤ length front → (place : ℕ) × (closing_place_or r later ≡ Some place) × (place ≤ suc (length front))
    go (Some _) later place is less = (0, refl, omega arith)
    go None later place is less = (suc place, ap (option_map (λ place. suc place)) is, omega (arith, less))

-- what is found is one
closing_gives : (text : List ℕ) (place : ℕ) → closing_place text ≡ Some place → (front : List ℕ) × (back : List ℕ) × (text ≡ front ++ (codes "*/" ++ back)) × (length front ≡ place)
closing_gives [] place is = cc
closing_gives (byte ∷ text) place is = go (behind (codes "*/") (byte ∷ text)) refl (closing_place text) refl is (closing_gives text)
  where
    Place : ℕ → Type 0
    Place place = (front : List ℕ) × (back : List ℕ) × (byte ∷ text ≡ front ++ (codes "*/" ++ back)) × (length front ≡ place)

    go : (r : Option (List ℕ)) → behind (codes "*/") (byte ∷ text) ≡ r → (later : Option ℕ) → closing_place text ≡ later → closing_place_or r later ≡ Some place
        → ((place : ℕ) → closing_place text ≡ Some place → (front : List ℕ) × (back : List ℕ) × (text ≡ front ++ (codes "*/" ++ back)) × (length front ≡ place))
        → (front : List ℕ) × (back : List ℕ) × (byte ∷ text ≡ front ++ (codes "*/" ++ back)) × (length front ≡ place)
    go (Some rest) here later is found others = let zero_is : 0 ≡ place = cc in ([], rest, behind_gives (codes "*/") (byte ∷ text) rest here, zero_is)
    go None here None is found others = cc
    go None here (Some before) is found others =
        let (front, back, splits, long) = others before is in
        let place_is : suc before ≡ place = cc in
        (byte ∷ front, back, ap (λ t. byte ∷ t) splits, omega (arith, long, place_is))

behind_comment : (content : List ℕ) → IsUtf8 (47 ∷ 47 ∷ content) → IsUtf8 content
behind_comment content utf8 = behind_ascii [] content 47 (omega arith) (behind_ascii [] (47 ∷ content) 47 (omega arith) utf8)

ends_line : (byte : ℕ) → is_in_line byte ≡ false → byte < 128
ends_line byte is = grind (arith, nat_tests)

-- a line may be cut at its end
behind_line : (content : List ℕ) → IsUtf8 content → IsUtf8 (drop (prefix_len is_in_line content) content)
behind_line content utf8 = go (least (prefix_len is_in_line content) (length content) (prefix_len-le-length is_in_line content))
  where
    least : (m n : ℕ) → m ≤ n → (m ≡ n) ⊎ (m < n)
    least m n less = grind arith

    go : (prefix_len is_in_line content ≡ length content) ⊎ (prefix_len is_in_line content < length content) → IsUtf8 (drop (prefix_len is_in_line content) content)
    go (inl all) = rw all (IsUtf8-drop content (length content) utf8 (IsCharBoundary-end content))
    go (inr less) =
        IsUtf8-drop content (prefix_len is_in_line content) utf8
        (IsCharBoundary-before_ascii content (prefix_len is_in_line content) less (ends_line _ (prefix_len_stops is_in_line content 0 less)))

line_cut : (text content : List ℕ) → text ≡ codes "//" ++ content → Cut IsGap (prefix_len is_in_line content + 2) text
line_cut text content is =
    let n = prefix_len is_in_line content in
    let whole : content ≡ take n content ++ drop n content = sym (take-append-drop n content) in
    let long : length (take n content) ≡ n = length-take-le n content (prefix_len-le-length is_in_line content) in
    record {
      front = codes "//" ++ take n content;
      back = drop n content;
      is = is ∙ ap (λ t. codes "//" ++ t) whole;
      long = omega (arith, long);
      form = inr (inl (record { content = take n content; is = refl; in_line = run_passes is_in_line content }));
      utf8 = λ utf8. behind_line content (behind_comment content (subst IsUtf8 is utf8));
    }

block_cut : (text content : List ℕ) → text ≡ codes "/*" ++ content → (place : ℕ) → closing_place content ≡ Some place → Cut IsGap (place + 4) text
block_cut text content is place found =
    let (front, back, splits, long) = closing_gives content place found in
    let whole : text ≡ (codes "/*" ++ (front ++ codes "*/")) ++ back = is ∙ ap (λ t. codes "/*" ++ t) (splits ∙ sym (append_assoc front (codes "*/") back)) in
    record {
      front = codes "/*" ++ (front ++ codes "*/");
      back = back;
      is = whole;
      long = omega (arith, long, length-append front (codes "*/"));
      form = inr (inr (record { content = front; is = refl; first = λ other rest same. first front back splits long other rest same }));
      utf8 = λ utf8. behind_ascii (codes "/*" ++ (front ++ codes "*")) back 47 (omega arith) (subst IsUtf8 (is ∙ ap (λ t. codes "/*" ++ t) (splits ∙ sym (append_assoc front (codes "*") (47 ∷ back)))) utf8);
    }
  where
    first : (front back : List ℕ) → content ≡ front ++ (codes "*/" ++ back) → length front ≡ place → (other rest : List ℕ) → front ++ codes "*/" ≡ other ++ (codes "*/" ++ rest) → length front ≤ length other
    first front back splits long other rest same =
        let (least, at, less) = closing_covers other (rest ++ back) in
        let text_is : content ≡ other ++ (codes "*/" ++ (rest ++ back)) =
        splits ∙ sym (append_assoc front (codes "*/") back) ∙ ap (λ t. t ++ back) same ∙ append_assoc other (codes "*/" ++ rest) back in
        let same_place : Some place ≡ Some least = sym found ∙ ap closing_place text_is ∙ at in
        let place_is : place ≡ least = cc in
        omega (arith, long, place_is, less)

-- what is found is white space or a comment
comment_found : (text : List ℕ) → IfCut IsGap (comment_len text) text
comment_found text = go (behind (codes "//") text) refl (behind (codes "/*") text) refl
  where
    block : (content : List ℕ) → text ≡ codes "/*" ++ content → (r : Option ℕ) → closing_place content ≡ r → IfCut IsGap (option_map (λ place. place + 4) r) text
    block content is None found = tt
    block content is (Some place) found = block_cut text content is place found

    go : (r : Option (List ℕ)) → behind (codes "//") text ≡ r → (s : Option (List ℕ)) → behind (codes "/*") text ≡ s → IfCut IsGap (line_comment_len r text) text
    go (Some content) is s next = line_cut text content (behind_gives (codes "//") text content is)
    go None is None next = rw next tt
    go None is (Some content) next = rw next (block content (behind_gives (codes "/*") text content next) (closing_place content) refl)

pub gap_found : (text : List ℕ) → IfCut IsGap (gap_len text) text
gap_found text = go (nat_lt 0 (prefix_len is_blank text)) refl
  where
    weaker : (len : ℕ) → Cut (AreSome is_blank) len text → Cut IsGap len text
    weaker len cut = record { front = cut.front; back = cut.back; is = cut.is; long = cut.long; form = inl cut.form; utf8 = cut.utf8 }

    go : (t : Bool) → nat_lt 0 (prefix_len is_blank text) ≡ t → IfCut IsGap (cond t (Some (prefix_len is_blank text)) (comment_len text)) text
    go true some = weaker (prefix_len is_blank text) (run_cut is_blank blank_small text (grind (arith, nat_tests)))
    go false none = comment_found text

blank_covered : (front back : List ℕ) → AreSome is_blank front → AtLeast (length front) (gap_len (front ++ back))
blank_covered front back form =
    let least = run_at_least is_blank front back form.pass in
    let some : nat_lt 0 (prefix_len is_blank (front ++ back)) ≡ true = above _ (omega (arith, least, form.some)) in
    rw some least
  where
    above : (n : ℕ) → 1 ≤ n → nat_lt 0 n ≡ true
    above n less = grind (arith, nat_tests)

line_covered : (bytes back : List ℕ) → IsLineComment bytes → AtLeast (length bytes) (gap_len (bytes ++ back))
line_covered bytes back form =
    let least = run_at_least is_in_line form.content back form.in_line in
    rw form.is (omega (arith, least))

block_covered : (bytes back : List ℕ) → IsBlockComment bytes → AtLeast (length bytes) (gap_len (bytes ++ back))
block_covered bytes back form =
    let (place, found, less) = closing_covers form.content back in
    let found_here : closing_place ((form.content ++ codes "*/") ++ back) ≡ Some place = ap closing_place (append_assoc form.content (codes "*/") back) ∙ found in
    let (front, rest, splits, long) = closing_gives ((form.content ++ codes "*/") ++ back) place found_here in
    let fits : length (front ++ codes "*/") ≤ length (form.content ++ codes "*/") = omega (arith, long, less, length-append front (codes "*/"), length-append form.content (codes "*/")) in
    let (more, is) = longer_front (front ++ codes "*/") (form.content ++ codes "*/") rest back (append_assoc front (codes "*/") rest ∙ sym splits) fits in
    let first = form.first front more (is ∙ append_assoc front (codes "*/") more) in
    let size = length-append form.content (codes "*/") in
    rw (form.is, found_here) (omega (arith, first, long, size))

-- white space and comments are found, and nothing longer is missed
pub gap_covered : (front back : List ℕ) → IsGap front → AtLeast (length front) (gap_len (front ++ back))
gap_covered front back (inl form) = blank_covered front back form
gap_covered front back (inr (inl form)) = line_covered front back form
gap_covered front back (inr (inr form)) = block_covered front back form
