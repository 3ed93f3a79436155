-- The items of a UTF-8 text can be read.
use Rattle.std.proofs.Common.{◌≡◌, ◌⊎◌, ℕ, ◌+◌, ◌-◌, ◌<◌, ◌≤◌, List, [], ◌∷◌, ◌++◌, length, map, Bool, true, false, inl, inr, refl, ap, sym, ◌∙◌, subst, eqb, not, append_assoc, arith}
use Rattle.std.specs.Prelude.{All, codes}
use Rattle.std.specs.Str.{IsUtf8}
use lib.Utf8.{encode}
use Rattle.std.proofs.lemmas.List.{length-append}
use Rattle.std.proofs.lemmas.List.Elements.{All-nil, All-cons}
use Rattle.std.proofs.lemmas.Str.{IsUtf8-past_char}
use Rattle.mxml_items.specs.Pieces.{Piece, ArePieces, is_in_text}
use Rattle.mxml_items.specs.Pieces as piece
use Rattle.mxml_items.specs.Items.{Item, Instruction, Comment, CData, Tag, End_tag, Words, Written, Placed, IsItem, AreWords, AreAttributes, BeginsWithItem, AreItems, closing}
use Rattle.mxml_items.specs.Texts.{HasItems, IsBegun, placed_of}
use Rattle.mxml_items.specs.declared.items.Items as Code
use Rattle.mxml_items.proofs.PieceLaws.{each_join}
use Rattle.mxml_tree.specs.Values.{ArePiecesOf}
use Rattle.mxml_tree.specs.Readable.{HasReadableValue, IsReadableItem, AreReadable}
use Rattle.mxml_tree.proofs.MarkLaws.{have_marks, readable_with_marks}
use Rattle.mxml_tree.proofs.Borders.{BeginsAscii, utf8_before, utf8_from, utf8_behind}

-- pieces by any test are pieces
pub pieces_of : (test : ℕ → Bool) (ps : List Piece) (bytes : List ℕ) → ArePieces test ps bytes → ArePiecesOf ps bytes
pieces_of test [] bytes are = are
pieces_of test (piece.Written b ∷ ps) bytes are =
    record { front = are.front; back = are.back; is = are.is; first = (are.first.0, refl, are.first.2); second = pieces_of test ps are.back are.second }
pieces_of test (piece.Referred c ∷ ps) bytes are = record { front = are.front; back = are.back; is = are.is; first = are.first; second = pieces_of test ps are.back are.second }

quote_is_ascii : (quote : ℕ) → (quote ≡ 34) ⊎ (quote ≡ 39) → quote < 128
quote_is_ascii quote (inl is) = omega (arith, is)
quote_is_ascii quote (inr is) = omega (arith, is)

-- the values of attributes in a text
values_are_readable : (xs : List Written) (at : ℕ) (before bytes rest : List ℕ) → AreAttributes xs at bytes → IsUtf8 (before ++ (bytes ++ rest)) → All HasReadableValue xs
values_are_readable [] at before bytes rest are text = All-nil HasReadableValue
values_are_readable (a ∷ xs) at before bytes rest are text =
    let i = are.first in
    let low = quote_is_ascii i.quote i.is_value.is_quote in
    let others = are.back ++ rest in
    let front = before ++ (i.gap ++ (a.name ++ (i.before ++ (61 ∷ i.after)))) in
    let here : before ++ (bytes ++ rest) ≡ front ++ (i.quote ∷ (a.value ++ (i.quote ∷ others))) =
    ap (λ x. before ++ (x ++ rest)) (are.is ∙ ap (λ x. x ++ are.back) i.is) ∙ spread before i.gap a.name i.before i.after a.value i.quote are.back rest in
    let value = utf8_behind front i.quote (a.value ++ (i.quote ∷ others)) (subst IsUtf8 here text) low in
    All-cons HasReadableValue a xs
    (record { utf8 = utf8_before a.value (i.quote ∷ others) value low; pieces = i.is_value.pieces; are_pieces = pieces_of _ i.is_value.pieces a.value i.is_value.are_pieces })
    (values_are_readable xs (at + length are.front) (before ++ are.front) are.back rest are.second
    (subst IsUtf8 (ap (λ x. before ++ (x ++ rest)) are.is ∙ ap (λ x. before ++ x) (append_assoc are.front are.back rest) ∙ sym (append_assoc before are.front (are.back ++ rest))) text))
  where
    spread : (start gap name before after value : List ℕ) (quote : ℕ) (back rest : List ℕ) →
        start ++ (((gap ++ (name ++ (before ++ (61 ∷ (after ++ (quote ∷ (value ++ (quote ∷ [])))))))) ++ back) ++ rest)
        ≡ (start ++ (gap ++ (name ++ (before ++ (61 ∷ after))))) ++ (quote ∷ (value ++ (quote ∷ (back ++ rest))))
    spread start gap name before after value quote back rest = simp append_assoc

-- what stands behind an item's last byte, where that is `>`
behind_end : (bytes front rest : List ℕ) → bytes ++ rest ≡ front ++ (62 ∷ rest) → IsUtf8 (bytes ++ rest) → IsUtf8 rest
behind_end bytes front rest is text = utf8_behind front 62 rest (subst IsUtf8 is text) (omega arith)

-- behind the longest text stands no byte of another character than an ASCII one
text_ends : (at : ℕ) (text content rest : List ℕ) → AreWords content → text ≡ content ++ rest → ((other : Item) (front back : List ℕ) → text ≡ front ++ back → IsItem other at front → length front ≤ length content) → BeginsAscii rest
text_ends at text content [] words is longest = tt
text_ends at text content (b ∷ rest) words is longest = by_size (order b 128)
  where
    order : (m n : ℕ) → (m < n) ⊎ (n ≤ m)
    order m n = grind arith

    passes : (b : ℕ) → 128 ≤ b → not (eqb b 60) ≡ true
    passes b more = grind arith

    by_size : (b < 128) ⊎ (128 ≤ b) → b < 128
    by_size (inl low) = low
    by_size (inr more) =
        let last : ArePieces is_in_text (piece.Written b ∷ []) (b ∷ []) =
        record { front = b ∷ []; back = []; is = refl; first = (refl, passes b more, λ same. omega (arith, more, same)); second = refl } in
        let long = length-append content (b ∷ []) in
        let item : AreWords (content ++ (b ∷ [])) =
        record { not_empty = omega (arith, long); pieces = words.pieces ++ (piece.Written b ∷ []); are_pieces = each_join is_in_text words.pieces (piece.Written b ∷ []) content (b ∷ []) words.are_pieces last } in
        let less = longest (Words (content ++ (b ∷ []))) (content ++ (b ∷ [])) rest (is ∙ sym (append_assoc content (b ∷ []) rest)) (refl, item) in
        absurd (omega (arith, less, long))

item_is_readable : (it : Item) (at : ℕ) (text rest : List ℕ) → BeginsWithItem it at text rest → IsUtf8 text → IsReadableItem it × IsUtf8 rest
item_is_readable Instruction at text rest b utf8 =
    let content = b.is_item.0 in
    (tt, behind_end b.bytes (codes "<?" ++ (content ++ codes "?")) rest (ap (λ x. x ++ rest) b.is_item.1.is ∙ simp append_assoc) (subst IsUtf8 b.is utf8))
item_is_readable Comment at text rest b utf8 =
    let content = b.is_item.0 in
    (tt, behind_end b.bytes (codes "<!--" ++ (content ++ codes "--")) rest (ap (λ x. x ++ rest) b.is_item.1.is ∙ simp append_assoc) (subst IsUtf8 b.is utf8))
item_is_readable (End_tag name) at text rest b utf8 =
    let i = b.is_item in
    (tt, behind_end b.bytes (codes "</" ++ (name ++ i.gap)) rest (ap (λ x. x ++ rest) i.is ∙ simp append_assoc) (subst IsUtf8 b.is utf8))
item_is_readable (CData content) at text rest b utf8 =
    let here : text ≡ codes "<![CDATA" ++ (91 ∷ (content ++ (codes "]]>" ++ rest))) = b.is ∙ ap (λ x. x ++ rest) b.is_item.is ∙ simp append_assoc in (
      utf8_before content (codes "]]>" ++ rest) (utf8_behind (codes "<![CDATA") 91 (content ++ (codes "]]>" ++ rest)) (subst IsUtf8 here utf8) (omega arith)) (omega arith),
      behind_end b.bytes (codes "<![CDATA[" ++ (content ++ codes "]]")) rest (ap (λ x. x ++ rest) b.is_item.is ∙ simp append_assoc) (subst IsUtf8 b.is utf8),
    )
item_is_readable (Words content) at text rest b utf8 =
    let words = b.is_item.1 in
    let is : text ≡ content ++ rest = b.is ∙ ap (λ x. x ++ rest) b.is_item.0 in
    let ascii = text_ends at text content rest words is (λ other front back same item. subst (λ x. length front ≤ length x) b.is_item.0 (b.longest other front back same item)) in
    (record { utf8 = utf8_before content rest (subst IsUtf8 is utf8) ascii; pieces = words.pieces; are_pieces = pieces_of is_in_text words.pieces content words.are_pieces }, utf8_from content rest (subst IsUtf8 is utf8) ascii)
item_is_readable (Tag name attributes empty) at text rest b utf8 =
    let i = b.is_item in
    let here : text ≡ (codes "<" ++ name) ++ (i.list ++ ((i.gap ++ closing empty) ++ rest)) = b.is ∙ ap (λ x. x ++ rest) i.is ∙ simp append_assoc in
    (values_are_readable attributes (at + 1 + length name) (codes "<" ++ name) i.list ((i.gap ++ closing empty) ++ rest) i.are_attributes (subst IsUtf8 here utf8), ends empty i.is)
  where
    ends : (empty : Bool) → b.bytes ≡ codes "<" ++ (name ++ (b.is_item.list ++ (b.is_item.gap ++ closing empty))) → IsUtf8 rest
    ends true is = behind_end b.bytes (codes "<" ++ (name ++ (b.is_item.list ++ (b.is_item.gap ++ codes "/")))) rest (ap (λ x. x ++ rest) is ∙ simp append_assoc) (subst IsUtf8 b.is utf8)
    ends false is = behind_end b.bytes (codes "<" ++ (name ++ (b.is_item.list ++ b.is_item.gap))) rest (ap (λ x. x ++ rest) is ∙ simp append_assoc) (subst IsUtf8 b.is utf8)

are_readable : (items : List Placed) (end : ℕ) (rest : List ℕ) (at : ℕ) (text : List ℕ) → AreItems items end rest at text → IsUtf8 text → All (λ (p : Placed). IsReadableItem p.item) items
are_readable [] end rest at text are utf8 = All-nil (λ (p : Placed). IsReadableItem p.item)
are_readable (placed ∷ items) end rest at text are utf8 =
    let (one, others) = item_is_readable placed.item at text are.rest are.begins utf8 in
    All-cons (λ (p : Placed). IsReadableItem p.item) placed items one (are_readable items end rest placed.end are.rest are.go_on others)

begun_is_utf8 : (text begun : List ℕ) → IsBegun text begun → IsUtf8 text → IsUtf8 begun
unfolding encode
begun_is_utf8 text begun (inl is) utf8 = IsUtf8-past_char text begun 0xFEFF utf8 is
begun_is_utf8 text begun (inr (is, _)) utf8 = subst IsUtf8 (sym is) utf8

pub items_are_readable : (text : List ℕ) (found : Code.Items) → HasItems text found → IsUtf8 text → AreReadable (map placed_of found.items)
items_are_readable text found h utf8 =
    let items = map placed_of found.items in
    let at = length text - length h.begun in
    readable_with_marks items (are_readable items found.end h.rest at h.begun h.are_items (begun_is_utf8 text h.begun h.is_begun utf8)) (have_marks items found.end h.rest at h.begun h.are_items)
