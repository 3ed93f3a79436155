-- A text has one list of items.
use Rattle.std.proofs.Common.{◌≡◌, ◌⊎◌, ℕ, ◌+◌, ◌-◌, List, [], ◌∷◌, ◌++◌, length, take, Bool, true, false, inl, inr, refl, ap, sym, ◌∙◌, subst, append_assoc, arith}
use Rattle.std.specs.Prelude.{codes}
use Rattle.std.proofs.Math.Seq.{take-append_seam}
use Rattle.std.proofs.lemmas.List.{append_cancel_left, append_cancel_right}
use Rattle.mxml_items.specs.Runs.{StopsAt, is_in_name}
use Rattle.mxml_items.specs.Pieces.{is_white}
use Rattle.mxml_items.specs.Items.{Item, Instruction, Comment, CData, Tag, End_tag, Words, Written, Placed, IsValue, AreAttributes, IsItem, IsTag, IsEndTag, BeginsWithItem, NoItemBegins, AreItems, closing}
use Rattle.mxml_items.specs.Texts.{IsBegun, mark}
use Rattle.mxml_items.specs.Reading.{BeginsWithAttribute, HasNoAttribute, BeginsWithTag}
use Rattle.mxml_items.proofs.RunLaws.{head, tail, same_run}
use Rattle.mxml_items.proofs.NameLaws.{name_passes}
use Rattle.mxml_items.proofs.PieceLaws.{quote_ends}
use Rattle.mxml_items.proofs.AttributeLaws.{no_ampersand, no_name_in_white, stops_behind_white, white_stops, value_cut, same_name}
use Rattle.mxml_items.proofs.TagLaws.{behind_tag_name, tag_text, tag_name, tag_body, no_attribute_at_end}
use Rattle.mxml_items.proofs.ItemLaws.{form, form_by_code}
use Rattle.mxml_tree.specs.IsTree.{Consists}

-- two fronts of a text that are as long are the same
same_front : (x r y s : List ℕ) → x ++ r ≡ y ++ s → length x ≡ length y → (x ≡ y) × (r ≡ s)
same_front x r y s same long = (fronts, append_cancel_left y r s (ap (λ t. t ++ r) (sym fronts) ∙ same))
  where
    fronts : x ≡ y
    fronts = sym (take-append_seam x r) ∙ ap (take (length x)) same ∙ ap (λ n. take n (y ++ s)) long ∙ take-append_seam y s

quote_is_no_white : (quote : ℕ) → (quote ≡ 34) ⊎ (quote ≡ 39) → is_white quote ≡ false
quote_is_no_white quote (inl e) = ap is_white e
quote_is_no_white quote (inr e) = ap is_white e

-- an attribute at the front of a text, part by part
spelled : (at : ℕ) (text : List ℕ) (a : Written) (rest : List ℕ) (b : BeginsWithAttribute at text a rest) →
    text ≡ b.is_attribute.gap ++ (a.name ++ (b.is_attribute.before ++ (61 ∷ (b.is_attribute.after ++ (b.is_attribute.quote ∷ (a.value ++ (b.is_attribute.quote ∷ rest)))))))
spelled at text a rest b = b.is ∙ ap (λ x. x ++ rest) b.is_attribute.is ∙ simp append_assoc

same_written : (a b : Written) → a.at ≡ b.at → a.name ≡ b.name → a.value ≡ b.value → a ≡ b
same_written a b e f g k = record { at = e k; name = f k; value = g k }

-- of one text two attributes are the same
same_attribute : (at : ℕ) (text : List ℕ) (a b : Written) (r s : List ℕ) → BeginsWithAttribute at text a r → BeginsWithAttribute at text b s → (a ≡ b) × (r ≡ s)
same_attribute at text a b r s h k =
    let i = h.is_attribute in
    let j = k.is_attribute in
    let value_i = a.value ++ (i.quote ∷ r) in
    let value_j = b.value ++ (j.quote ∷ s) in
    let given_i = i.before ++ (61 ∷ (i.after ++ (i.quote ∷ value_i))) in
    let given_j = j.before ++ (61 ∷ (j.after ++ (j.quote ∷ value_j))) in
    let gaps = same_run is_white i.gap (a.name ++ given_i) j.gap (b.name ++ given_j) (sym (spelled at text a r h) ∙ spelled at text b s k) i.is_gap j.is_gap (white_stops a.name given_i i.is_name) (white_stops b.name given_j j.is_name) in
    let names = same_run is_in_name a.name given_i b.name given_j gaps.1 (name_passes a.name i.is_name) (name_passes b.name j.is_name)
    (stops_behind_white is_in_name no_name_in_white i.before (61 ∷ (i.after ++ (i.quote ∷ value_i))) i.is_before refl)
    (stops_behind_white is_in_name no_name_in_white j.before (61 ∷ (j.after ++ (j.quote ∷ value_j))) j.is_before refl) in
    let equals = same_run is_white i.before (61 ∷ (i.after ++ (i.quote ∷ value_i))) j.before (61 ∷ (j.after ++ (j.quote ∷ value_j))) names.1 i.is_before j.is_before refl refl in
    let quoted = same_run is_white i.after (i.quote ∷ value_i) j.after (j.quote ∷ value_j) (ap tail equals.1) i.is_after j.is_after (quote_is_no_white i.quote i.is_value.is_quote) (quote_is_no_white j.quote j.is_value.is_quote) in
    let quotes : i.quote ≡ j.quote = ap (head 0) quoted.1 in
    let values = value_cut j.quote value_j b.value (j.quote ∷ s)
    (record { pieces = j.is_value.pieces; is = refl; are_pieces = j.is_value.are_pieces; no_more = quote_ends j.quote s (no_ampersand j.quote j.is_value.is_quote) })
    a.value r (record { is = sym (ap tail quoted.1) ∙ ap (λ q. a.value ++ (q ∷ r)) quotes; is_value = subst (λ q. IsValue q a.value) quotes i.is_value }) in
    (same_written a b (i.stands ∙ ap (λ x. at + length x) gaps.0 ∙ sym j.stands) names.0 (sym values.0), sym (ap tail values.1))

-- and all that stand there one behind another
same_attributes : (xs ys : List Written) (at : ℕ) (x r y s : List ℕ) → AreAttributes xs at x → AreAttributes ys at y → x ++ r ≡ y ++ s → HasNoAttribute r → HasNoAttribute s → (xs ≡ ys) × (r ≡ s)
same_attributes [] [] at x r y s h k same none no_other = (refl, sym (ap (λ t. t ++ r) h) ∙ same ∙ ap (λ t. t ++ s) k)
same_attributes [] (b ∷ ys) at x r y s h k same none no_other =
    absurd (none at b (k.back ++ s) (record { bytes = k.front; is = sym (ap (λ t. t ++ r) h) ∙ same ∙ ap (λ t. t ++ s) k.is ∙ append_assoc k.front k.back s; is_attribute = k.first }))
same_attributes (a ∷ xs) [] at x r y s h k same none no_other =
    absurd (no_other at a (h.back ++ r) (record { bytes = h.front; is = sym (ap (λ t. t ++ s) k) ∙ sym same ∙ ap (λ t. t ++ r) h.is ∙ append_assoc h.front h.back r; is_attribute = h.first }))
same_attributes (a ∷ xs) (b ∷ ys) at x r y s h k same none no_other =
    let cut_x : x ++ r ≡ h.front ++ (h.back ++ r) = ap (λ t. t ++ r) h.is ∙ append_assoc h.front h.back r in
    let cut_y : x ++ r ≡ k.front ++ (k.back ++ s) = same ∙ ap (λ t. t ++ s) k.is ∙ append_assoc k.front k.back s in
    let one = same_attribute at (x ++ r) a b (h.back ++ r) (k.back ++ s) (record { bytes = h.front; is = cut_x; is_attribute = h.first }) (record { bytes = k.front; is = cut_y; is_attribute = k.first }) in
    let fronts = append_cancel_right h.front k.front (k.back ++ s) (ap (λ t. h.front ++ t) (sym one.1) ∙ sym cut_x ∙ cut_y) in
    let others = same_attributes xs ys (at + length h.front) h.back r k.back s h.second (subst (λ n. AreAttributes ys n k.back) (ap (λ t. at + length t) (sym fronts)) k.second) one.1 none no_other in
    (ap (λ t. t ∷ xs) one.0 ∙ ap (λ t. b ∷ t) others.0, others.1)

stops : (empty : Bool) (rest : List ℕ) → StopsAt is_white (closing empty ++ rest)
stops true rest = refl
stops false rest = refl

same_closing : (e f : Bool) → closing e ++ [] ≡ closing f ++ [] → e ≡ f
same_closing true true same = refl
same_closing false false same = refl
same_closing true false same = (let e : 47 ≡ 62 = ap (head 0) same in absurd (omega (arith, e)))
same_closing false true same = (let e : 62 ≡ 47 = ap (head 0) same in absurd (omega (arith, e)))

same_tag_of : {n m : List ℕ} {xs ys : List Written} {e f : Bool} → n ≡ m → xs ≡ ys → e ≡ f → Tag n xs e ≡ Tag m ys f
same_tag_of names lists ends k = Tag (names k) (lists k) (ends k)

-- the same bytes are one tag
same_tag : (at : ℕ) (x n m : List ℕ) (xs ys : List Written) (e f : Bool) → IsTag n xs e at x → IsTag m ys f at x → Tag n xs e ≡ Tag m ys f
same_tag at x n m xs ys e f h k =
    let b : BeginsWithTag at (x ++ []) n xs e [] = record { bytes = x; is = refl; is_tag = h } in
    let d : BeginsWithTag at (x ++ []) m ys f [] = record { bytes = x; is = refl; is_tag = k } in
    let behind_n = behind_tag_name at (x ++ []) n xs e [] b in
    let behind_m = behind_tag_name at (x ++ []) m ys f [] d in
    let names = same_name (n ++ behind_n) n behind_n m behind_m (tag_name at (x ++ []) n xs e [] b) (tag_body at (x ++ []) m ys f [] d (n ++ behind_n) (tag_text at (x ++ []) n xs e [] b)) in
    let lists = same_attributes xs ys (at + 1 + length n) h.list (h.gap ++ (closing e ++ [])) k.list (k.gap ++ (closing f ++ [])) h.are_attributes
    (subst (λ t. AreAttributes ys (at + 1 + length t) k.list) (sym names.0) k.are_attributes) names.1
    (no_attribute_at_end h.gap e [] h.is_gap) (no_attribute_at_end k.gap f [] k.is_gap) in
    let ends = same_run is_white h.gap (closing e ++ []) k.gap (closing f ++ []) lists.1 h.is_gap k.is_gap (stops e []) (stops f []) in
    same_tag_of names.0 lists.0 (same_closing e f ends.1)

same_end_tag : (x n m : List ℕ) → IsEndTag n x → IsEndTag m x → n ≡ m
same_end_tag x n m h k =
    let same = append_cancel_left (codes "</") (n ++ (h.gap ++ codes ">")) (m ++ (k.gap ++ codes ">")) (sym h.is ∙ k.is) in
    (same_run is_in_name n (h.gap ++ codes ">") m (k.gap ++ codes ">") same (name_passes n h.is_name) (name_passes m k.is_name)
    (stops_behind_white is_in_name no_name_in_white h.gap (codes ">") h.is_gap refl) (stops_behind_white is_in_name no_name_in_white k.gap (codes ">") k.is_gap refl)).0

-- of one form
same_of_form : (it other : Item) (at : ℕ) (x : List ℕ) → form it ≡ form other → IsItem it at x → IsItem other at x → it ≡ other
same_of_form Instruction Instruction at x e h k = refl
same_of_form Comment Comment at x e h k = refl
same_of_form (CData c) (CData d) at x e h k =
    ap CData (append_cancel_right c d (codes "]]>") (append_cancel_left (codes "<![CDATA[") (c ++ codes "]]>") (d ++ codes "]]>") (sym h.is ∙ k.is)))
same_of_form (End_tag n) (End_tag m) at x e h k = ap End_tag (same_end_tag x n m h k)
same_of_form (Tag n xs a) (Tag m ys b) at x e h k = same_tag at x n m xs ys a b h k
same_of_form (Words c) (Words d) at x e h k = ap Words (sym h.0 ∙ k.0)
same_of_form _ _ at x e h k = absurd (omega (arith, e))

-- the same bytes at a place are one item
pub same_item : (it other : Item) (at : ℕ) (x : List ℕ) → IsItem it at x → IsItem other at x → it ≡ other
same_item it other at x h k = same_of_form it other at x (sym (form_by_code it at x [] h) ∙ form_by_code other at x [] k) h k

same_placed : (p q : Placed) → p.item ≡ q.item → p.at ≡ q.at → p.end ≡ q.end → p ≡ q
same_placed p q e f g k = record { item = e k; at = f k; end = g k }

-- the longest item at the front of a text
first_item : (it other : Item) (at : ℕ) (text r s : List ℕ) → BeginsWithItem it at text r → BeginsWithItem other at text s → (it ≡ other) × (r ≡ s)
first_item it other at text r s h k =
    let less = h.longest other k.bytes s k.is k.is_item in
    let more = k.longest it h.bytes r h.is h.is_item in
    let (bytes, rest) = same_front h.bytes r k.bytes s (sym h.is ∙ k.is) (omega (arith, less, more)) in
    (same_item it other at k.bytes (subst (IsItem it at) bytes h.is_item) k.is_item, rest)

-- the items of a text, where they end, and what stands there
pub same_items : (xs ys : List Placed) (end end2 : ℕ) (rest rest2 : List ℕ) (at : ℕ) (text : List ℕ) →
    AreItems xs end rest at text → NoItemBegins end rest → AreItems ys end2 rest2 at text → NoItemBegins end2 rest2 → (xs ≡ ys) × (end ≡ end2) × (rest ≡ rest2)
same_items [] [] end end2 rest rest2 at text h none k no_other = (refl, h.0 ∙ sym k.0, h.1 ∙ sym k.1)
same_items [] (q ∷ ys) end end2 rest rest2 at text h none k no_other =
    absurd (none q.item k.begins.bytes k.rest (h.1 ∙ k.begins.is) (subst (λ n. IsItem q.item n k.begins.bytes) (sym h.0) k.begins.is_item))
same_items (p ∷ xs) [] end end2 rest rest2 at text h none k no_other =
    absurd (no_other p.item h.begins.bytes h.rest (k.1 ∙ h.begins.is) (subst (λ n. IsItem p.item n h.begins.bytes) (sym k.0) h.begins.is_item))
same_items (p ∷ xs) (q ∷ ys) end end2 rest rest2 at text h none k no_other =
    let (item, behind) = first_item p.item q.item at text h.rest k.rest h.begins k.begins in
    let ends : p.end ≡ q.end = (let long = ap length behind in let one = h.ends in let two = k.ends in omega (arith, long, one, two)) in
    let others = same_items xs ys end end2 rest rest2 p.end h.rest h.go_on none
    (subst (λ t. AreItems ys end2 rest2 p.end t) (sym behind) (subst (λ n. AreItems ys end2 rest2 n k.rest) (sym ends) k.go_on)) no_other in
    (ap (λ t. t ∷ xs) (same_placed p q item (h.stands ∙ sym k.stands) ends) ∙ ap (λ t. q ∷ t) others.0, others.1, others.2)

-- where the items of a text begin
same_begun : (text a b : List ℕ) → IsBegun text a → IsBegun text b → a ≡ b
same_begun text a b (inl is) (inl was) = append_cancel_left mark a b (sym is ∙ was)
same_begun text a b (inl is) (inr (_, none)) = absurd (none a is)
same_begun text a b (inr (_, none)) (inl was) = absurd (none b was)
same_begun text a b (inr (is, _)) (inr (was, _)) = is ∙ sym was

-- the items that a text consists of
pub consists_of_one : (xs ys : List Placed) (end end2 : ℕ) (rest rest2 text : List ℕ) → Consists xs end rest text → Consists ys end2 rest2 text → (xs ≡ ys) × (end ≡ end2) × (rest ≡ rest2)
consists_of_one xs ys end end2 rest rest2 text h k =
    let begun = same_begun text k.begun h.begun k.is_begun h.is_begun in
    same_items xs ys end end2 rest rest2 (length text - length h.begun) h.begun h.are h.no_more (subst (λ b. AreItems ys end2 rest2 (length text - length b) b) begun k.are) k.no_more
