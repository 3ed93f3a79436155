-- Items: no two forms begin alike, and each is read as far as it goes.
use Rattle.std.proofs.Common.{◌≡◌, ◌≢◌, ◌⊎◌, ℕ, suc, ◌+◌, ◌-◌, ◌≤◌, List, [], ◌∷◌, ◌++◌, length, map, Option, None, Some, Result, Ok, Err, MatchOption, IfOk, Bor, Bool, true, false, cond, inl, inr, refl, ap, sym, ◌∙◌, subst, true≢false, eqb, not, append_assoc, arith}
use Rattle.std.specs.Prelude.{codes}
use Rattle.std.proofs.lemmas.List.{length-append}
use Rattle.mxml_items.specs.Runs.{is_in_name}
use Rattle.mxml_items.specs.Pieces as p
use Rattle.mxml_items.specs.Pieces.{Piece, ArePieces, HasNoPiece, is_in_text}
use Rattle.mxml_items.specs.Items.{Item, Instruction, Comment, CData, Tag, End_tag, Words, Written, IsItem, IsEnclosed, AreWords, closing, BeginsWithItem, NoItemBegins}
use Rattle.mxml_items.specs.declared.item.Item as Code
use Rattle.mxml_items.specs.declared.item.Item.TheVariants as item
use Rattle.mxml_items.specs.Reading.{item_of, written, BeginsWithEnclosed, HasNoEnclosed, BeginsWithEndTag, HasNoEndTag, HasNoTag, BeginsWithWords, HasNoWords, IsTagAt}
use Rattle.mxml_items.proofs.RunLaws.{head, tail}
use Rattle.mxml_items.proofs.References.{shape}
use Rattle.mxml_items.proofs.AttributeLaws.{name_goes_on}
use Rattle.mxml_items.proofs.TagLaws.{end_rest, tag_rest, words_longest}

-- of two fronts of a text the longer begins with the other
longer_front : (short long rest more : List ℕ) → short ++ rest ≡ long ++ more → length short ≤ length long → (back : List ℕ) × (long ≡ short ++ back)
longer_front [] long rest more same less = (long, refl)
longer_front (b ∷ short) [] rest more same less = (let never : length (b ∷ short) ≤ 0 = less in absurd (omega (arith, never)))
longer_front (b ∷ short) (c ∷ long) rest more same less =
    let (back, is) = longer_front short long rest more (ap tail same) (omega (arith, less)) in
    (back, ap (λ x. x ∷ long) (sym (ap (head 0) same)) ∙ ap (λ x. b ∷ x) is)

-- of one text what is enclosed ends at one place
enclosed_longest : (opening ending c d x r y s : List ℕ) → IsEnclosed opening ending c x → IsEnclosed opening ending d y → x ++ r ≡ y ++ s → length y ≤ length x
enclosed_longest opening ending c d x r y s h k same = by_order (order (length y) (length x))
  where
    order : (m n : ℕ) → (m ≤ n) ⊎ (suc n ≤ m)
    order m n = grind arith

    by_order : (length y ≤ length x) ⊎ (suc (length x) ≤ length y) → length y ≤ length x
    by_order (inl less) = less
    by_order (inr more) =
        let (back, is) = longer_front x y r s same (omega (arith, more)) in
        let inner : d ++ ending ≡ c ++ (ending ++ back) =
        cut opening (d ++ ending) (c ++ (ending ++ back)) (sym k.is ∙ is ∙ ap (λ t. t ++ back) h.is ∙ append_assoc opening (c ++ ending) back ∙ ap (λ t. opening ++ t) (append_assoc c ending back)) in
        let less = k.first c back inner in
        let long_x = ap length h.is ∙ length-append opening (c ++ ending) in
        let long_c = length-append c ending in
        let long_y = ap length k.is ∙ length-append opening (d ++ ending) in
        let long_d = length-append d ending in
        omega (arith, less, long_x, long_c, long_y, long_d)
      where
        cut : (front x y : List ℕ) → front ++ x ≡ front ++ y → x ≡ y
        cut [] x y same = same
        cut (b ∷ front) x y same = cut front x y (ap tail same)

-- the number of a form, and that of the form whose items may begin a text
abbrev pub form : Item → ℕ
form Instruction = 1
form Comment = 2
form (CData content) = 3
form (End_tag name) = 4
form (Tag name attributes empty) = 5
form (Words content) = 0

abbrev code : List ℕ → ℕ
code text = cond (eqb (head 0 text) 60) (cond (eqb (head 0 (tail text)) 63) 1 (cond (eqb (head 0 (tail text)) 33) (cond (eqb (head 0 (tail (tail text))) 45) 2 3) (cond (eqb (head 0 (tail text)) 47) 4 5))) 0

fails : (test : ℕ → Bool) (b n : ℕ) → test b ≡ true → test n ≡ false → eqb b n ≡ false
fails test b n pass no_pass = go (eqb b n) refl
  where
    same : (b n : ℕ) → eqb b n ≡ true → b ≡ n
    same b n e = grind arith

    go : (t : Bool) → eqb b n ≡ t → t ≡ false
    go false e = refl
    go true e = absurd (true≢false (sym pass ∙ ap test (same b n e) ∙ no_pass))

tag_code : (x y z : Bool) (n : ℕ) → x ≡ false → y ≡ false → z ≡ false → cond x 1 (cond y n (cond z 4 5)) ≡ 5
tag_code false false false n e f g = refl
tag_code true y z n e f g = absurd (true≢false e)
tag_code false true z n e f g = absurd (true≢false f)
tag_code false false true n e f g = absurd (true≢false g)

words_code : (x : Bool) (n : ℕ) → not x ≡ true → cond x n 0 ≡ 0
words_code false n e = refl
words_code true n e = absurd (true≢false (sym e))

form_of_words : (pieces : List Piece) (content rest : List ℕ) → ArePieces is_in_text pieces content → 1 ≤ length content → code (content ++ rest) ≡ 0
form_of_words [] content rest are some = (let none = ap length are in absurd (omega (arith, none, some)))
form_of_words (p.Written b ∷ pieces) content rest are some =
    ap (λ t. code (t ++ rest)) (are.is ∙ ap (λ t. t ++ are.back) are.first.0) ∙ words_code (eqb b 60) _ are.first.1
form_of_words (p.Referred c ∷ pieces) content rest are some = ap (λ t. code (t ++ rest)) (are.is ∙ ap (λ t. t ++ are.back) (shape c are.front are.first).is)

pub form_by_code : (it : Item) (at : ℕ) (x rest : List ℕ) → IsItem it at x → code (x ++ rest) ≡ form it
form_by_code Instruction at x rest h = ap (λ t. code (t ++ rest)) h.1.is
form_by_code Comment at x rest h = ap (λ t. code (t ++ rest)) h.1.is
form_by_code (CData content) at x rest h = ap (λ t. code (t ++ rest)) h.is
form_by_code (End_tag name) at x rest h = ap (λ t. code (t ++ rest)) h.is
form_by_code (Words content) at x rest h = ap (λ t. code (t ++ rest)) h.0 ∙ form_of_words h.1.pieces content rest h.1.are_pieces h.1.not_empty
form_by_code (Tag name attributes empty) at x rest h =
    let others = h.list ++ (h.gap ++ closing empty) in
    let P : List ℕ → Type 0 = λ t. code (60 ∷ t) ≡ 5 in
    ap (λ t. code (t ++ rest)) h.is ∙ ap (λ t. code (60 ∷ t)) (append_assoc name others rest)
    ∙ name_goes_on P name (others ++ rest) h.is_name
    (λ b bytes pass. tag_code (eqb b 63) (eqb b 33) (eqb b 47) _ (fails is_in_name b 63 pass refl) (fails is_in_name b 33 pass refl) (fails is_in_name b 47 pass refl))

-- where a text item ends, no piece stands
abbrev pub EndsAt : Item → List ℕ → Type 0
EndsAt (Words content) rest = HasNoPiece is_in_text rest
EndsAt _ rest = Unit {0}

shorter : (x r y s : List ℕ) → x ++ r ≡ y ++ s → r ≡ s → length y ≤ length x
shorter x r y s same rest =
    let long = sym (length-append x r) ∙ ap length same ∙ length-append y s in
    let ends = ap length rest in
    omega (arith, long, ends)

alike : (it other : Item) (at : ℕ) (x r y s : List ℕ) → form it ≡ form other → IsItem it at x → EndsAt it r → IsItem other at y → x ++ r ≡ y ++ s → length y ≤ length x
alike Instruction Instruction at x r y s e h end k same = enclosed_longest (codes "<?") (codes "?>") h.0 k.0 x r y s h.1 k.1 same
alike Comment Comment at x r y s e h end k same = enclosed_longest (codes "<!--") (codes "-->") h.0 k.0 x r y s h.1 k.1 same
alike (CData c) (CData d) at x r y s e h end k same = enclosed_longest (codes "<![CDATA[") (codes "]]>") c d x r y s h k same
alike (End_tag n) (End_tag m) at x r y s e h end k same =
    shorter x r y s same (end_rest (x ++ r) n r m s (record { bytes = x; is = refl; is_end_tag = h }) (record { bytes = y; is = same; is_end_tag = k }))
alike (Tag n xs a) (Tag m ys b) at x r y s e h end k same =
    shorter x r y s same (tag_rest at at (x ++ r) n m xs ys a b r s (record { bytes = x; is = refl; is_tag = h }) (record { bytes = y; is = same; is_tag = k }))
alike (Words c) (Words d) at x r y s e h end k same =
    words_longest (x ++ r) x r y s refl h.1.pieces (subst (ArePieces is_in_text h.1.pieces) (sym h.0) h.1.are_pieces) end same (subst AreWords (sym k.0) k.1)
alike _ _ at x r y s e h end k same = absurd (omega (arith, e))

-- an item that ends where it has to is the longest
pub item_by : (it : Item) (at : ℕ) (text bytes rest : List ℕ) → text ≡ bytes ++ rest → IsItem it at bytes → EndsAt it rest → BeginsWithItem it at text rest
item_by it at text bytes rest is h end =
    record {
      bytes = bytes;
      is = is;
      is_item = h;
      longest = λ other front back same k.
          let cut = sym is ∙ same in
          alike it other at bytes rest front back (sym (form_by_code it at bytes rest h) ∙ ap code cut ∙ form_by_code other at front back k) h end k cut;
    }

enclosed_is : (opening ending text content rest : List ℕ) → BeginsWithEnclosed opening ending text content rest → text ≡ (opening ++ (content ++ ending)) ++ rest
enclosed_is opening ending text content rest b = b.is ∙ sym (append_assoc opening (content ++ ending) rest ∙ ap (λ x. opening ++ x) (append_assoc content ending rest))

pub instruction_by : (at : ℕ) (text content rest : List ℕ) → BeginsWithEnclosed (codes "<?") (codes "?>") text content rest → BeginsWithItem Instruction at text rest
instruction_by at text content rest b = item_by Instruction at text _ rest (enclosed_is (codes "<?") (codes "?>") text content rest b) (content, b.enclosed) tt

pub comment_by : (at : ℕ) (text content rest : List ℕ) → BeginsWithEnclosed (codes "<!--") (codes "-->") text content rest → BeginsWithItem Comment at text rest
comment_by at text content rest b = item_by Comment at text _ rest (enclosed_is (codes "<!--") (codes "-->") text content rest b) (content, b.enclosed) tt

pub cdata_by : (at : ℕ) (text content rest : List ℕ) → BeginsWithEnclosed (codes "<![CDATA[") (codes "]]>") text content rest → BeginsWithItem (CData content) at text rest
cdata_by at text content rest b = item_by (CData content) at text _ rest (enclosed_is (codes "<![CDATA[") (codes "]]>") text content rest b) b.enclosed tt

pub end_tag_item : (at : ℕ) (text name rest : List ℕ) → BeginsWithEndTag text name rest → BeginsWithItem (End_tag name) at text rest
end_tag_item at text name rest b = item_by (End_tag name) at text b.bytes rest b.is b.is_end_tag tt

pub words_item : (at : ℕ) (text content rest : List ℕ) → BeginsWithWords text content rest → BeginsWithItem (Words content) at text rest
words_item at text content rest b = item_by (Words content) at text content rest b.is (refl, b.are_words) b.no_more

enclosed_at : (opening ending text content bytes rest : List ℕ) → text ≡ bytes ++ rest → IsEnclosed opening ending content bytes → BeginsWithEnclosed opening ending text content rest
enclosed_at opening ending text content bytes rest is h =
    record {
      is = is ∙ ap (λ x. x ++ rest) h.is ∙ append_assoc opening (content ++ ending) rest ∙ ap (λ x. opening ++ x) (append_assoc content ending rest);
      enclosed = record { is = refl; first = h.first };
    }

pub no_item : (at : ℕ) (text : List ℕ) → HasNoEnclosed (codes "<?") (codes "?>") text → HasNoEnclosed (codes "<!--") (codes "-->") text → HasNoEnclosed (codes "<![CDATA[") (codes "]]>") text → HasNoEndTag text → HasNoWords text → HasNoTag text → NoItemBegins at text
no_item at text a b c d e f Instruction bytes rest is h = a h.0 rest (enclosed_at (codes "<?") (codes "?>") text h.0 bytes rest is h.1)
no_item at text a b c d e f Comment bytes rest is h = b h.0 rest (enclosed_at (codes "<!--") (codes "-->") text h.0 bytes rest is h.1)
no_item at text a b c d e f (CData content) bytes rest is h = c content rest (enclosed_at (codes "<![CDATA[") (codes "]]>") text content bytes rest is h)
no_item at text a b c d e f (End_tag name) bytes rest is h = d name rest (record { bytes = bytes; is = is; is_end_tag = h })
no_item at text a b c d e f (Words content) bytes rest is h = e content rest (is ∙ ap (λ x. x ++ rest) h.0) h.1
no_item at text a b c d e f (Tag name attributes empty) bytes rest is h = f at name attributes empty rest (record { bytes = bytes; is = is; is_tag = h })

tag_item : (at : ℕ) (text : List ℕ) (found : Code.Item) (rest : List ℕ) → IsTagAt at text found rest → BeginsWithItem (item_of found) at text rest
tag_item at text (item.Tag name attributes empty) rest b = item_by (Tag name.now (map written attributes) empty) at text b.bytes rest b.is b.is_tag tt
tag_item at text item.Instruction rest b = absurd b
tag_item at text item.Comment rest b = absurd b
tag_item at text (item.CData content) rest b = absurd b
tag_item at text (item.EndTag name) rest b = absurd b
tag_item at text (item.Words content) rest b = absurd b

-- what the look for a tag says of an item, where no other item begins
pub tag_or_none : {Error : Type 0} (at : ℕ) (text : List ℕ) (r : Result (Option (Code.Item × Bor (List ℕ))) Error) → (HasNoTag text → NoItemBegins at text) →
    IfOk r (λ f. MatchOption f (HasNoTag text) (λ t. IsTagAt at text t.0 t.1.now)) → IfOk r (λ f. MatchOption f (NoItemBegins at text) (λ t. BeginsWithItem (item_of t.0) at text t.1.now))
tag_or_none at text (Ok None) none h = none h
tag_or_none at text (Ok (Some t)) none h = tag_item at text t.0 t.1.now h
tag_or_none at text (Err e) none h = tt
