-- What stands inside an element up to its end tag, where nothing is at fault, is nodes.
use Rattle.std.proofs.Common.{◌≡◌, ◌⊎◌, ℕ, zero, suc, ◌+◌, ◌≤◌, ◌==◌, List, [], ◌∷◌, ◌++◌, Bool, true, false, Option, None, Some, is_some, length, inl, inr, refl, ap, sym, ◌∙◌, subst, true≢false, append_assoc, arith}
use Rattle.std.proofs.lemmas.Bool.{not-false}
use Rattle.std.proofs.lemmas.List.{length-append}
use Rattle.std.proofs.lemmas.Slice.Eq.{bytes_eq-Decides}
use Rattle.std.specs.List.{starts_with}
use Rattle.std.specs.Prelude.{codes, option_map}
use Rattle.mxml_items.specs.Items as i
use Rattle.mxml_items.specs.Items.{Placed, Written}
use Rattle.mxml_tree.specs.declared.fault.TreeCode.{TreeCode}
use Rattle.mxml_tree.specs.declared.fault.TreeCode.TheVariants as code
use Rattle.mxml_tree.specs.declared.tree.Element.{Element}
use Rattle.mxml_tree.specs.Faults.{Around, Open, fault, fault_at_end, fault_of, fault_of_tag, first_fault, is_outside, own_prefixes, past}
use Rattle.mxml_tree.specs.IsTree.{AreNodes, ArePassedOver, IsElement, IsNode, is_passed_over}
use Rattle.mxml_tree.specs.Namespaces.{Declared}
use Rattle.mxml_tree.specs.Texts.{AreAllTexts, NoTextBegins, is_text}
use Rattle.mxml_tree.specs.Tree.{Chars, Elem, Node, Nodes, NoNode, MoreNode}
use Rattle.mxml_tree.proofs.FaultLaws.{not_broken, others_not_broken}
use Rattle.mxml_tree.proofs.NodeLaws.{passed_in_front}
use Rattle.mxml_tree.proofs.NoFault.{Fits}
use Rattle.mxml_tree.proofs.TextReading.{no_zero}
use Rattle.mxml_laws.proofs.Meanings.{HasMeaning, HaveMeanings, meanings_before, meanings_behind}
use Rattle.mxml_laws.proofs.Tags.{ElementOf, element_of, fits_inside, with_end}
use Rattle.mxml_laws.proofs.Texts.{Characterized, Texts, both_fine, no_text_in_front, texts_behind, texts_of, white_or_node}

-- inside these elements, the innermost first
abbrev pub inside : List Open → Around
inside elements = record { elements = elements; rooted = true }

-- nodes, the end tag of a name, and items without a fault inside these elements
pub record Inside (declared : List Declared) (level : ℕ) (name : List ℕ) (elements : List Open) (end : ℕ) (rest : List ℕ) (items : List Placed) : Type 0 where
  pub nodes : Nodes
  pub inner : List Placed
  pub last : Placed
  pub behind : List Placed
  pub is : items ≡ inner ++ last ∷ behind
  pub are : AreNodes nodes level declared inner
  pub ends : last.item ≡ i.End_tag name
  pub fine : first_fault behind (inside elements) end rest ≡ None

behind_is_shorter : (front behind items : List Placed) (last : Placed) → items ≡ front ++ last ∷ behind → length behind + 1 ≤ length items
behind_is_shorter front behind items last is = (let long = ap length is ∙ length-append front (last ∷ behind) in omega (arith, long))

-- the element of a tag, of its inside and of its end tag
pub whole_element : (declared : List Declared) (level : ℕ) (start : Placed) (name : List ℕ) (attributes : List Written) (inner : List Placed) (last : Placed) (nodes : Nodes) → start.item ≡ i.Tag name attributes false → last.item ≡ i.End_tag name → (e : ElementOf declared level name attributes last.end) → AreNodes nodes (level + 1) (e.own ++ declared) inner → IsElement start.at e.element (AreNodes nodes (level + 1)) declared level (start ∷ inner ++ last ∷ [])
whole_element declared level start name attributes inner last nodes starts ends e are =
    record {
      start = start;
      inner = inner;
      last = last ∷ [];
      is = refl;
      name = name;
      attributes = attributes;
      empty = false;
      starts = starts;
      ends = (last, refl, ends);
      not_too_deep = e.not_too_deep;
      own = e.own;
      is_tag = e.is_tag;
      stands = refl;
      stops = e.ends;
      stands_inside = are;
    }

pub empty_element : (declared : List Declared) (level : ℕ) (start : Placed) (name : List ℕ) (attributes : List Written) → start.item ≡ i.Tag name attributes true → (e : ElementOf declared level name attributes start.end) → IsElement start.at e.element (AreNodes NoNode (level + 1)) declared level (start ∷ [])
empty_element declared level start name attributes starts e =
    record {
      start = start;
      inner = [];
      last = [];
      is = refl;
      name = name;
      attributes = attributes;
      empty = true;
      starts = starts;
      ends = (refl, refl);
      not_too_deep = e.not_too_deep;
      own = e.own;
      is_tag = e.is_tag;
      stands = refl;
      stops = e.ends;
      stands_inside = refl;
    }

abbrev end_code : Bool → Option TreeCode
end_code outside = elim outside [ false ↦ Some code.Unclosed | true ↦ None ]

abbrev rest_code : Bool → Option TreeCode
rest_code doctype = elim doctype [ true ↦ Some code.Doctype | false ↦ Some code.NotAnItem ]

-- where no item begins and nothing is at fault, the text is at its end
pub no_rest : (end b : ℕ) (rest : List ℕ) (around : Around) → option_map (fault end) (fault_at_end around (b ∷ rest)) ≡ None → ⊥
no_rest end b rest around none = by (starts_with ◌==◌ (b ∷ rest) (codes "<!DOCTYPE")) none
  where
    by : (t : Bool) → option_map (fault end) (rest_code t) ≡ None → ⊥
    by true none = true≢false (ap is_some none)
    by false none = true≢false (ap is_some none)

module _ (declared : List Declared) (level : ℕ) (innermost : Open) (elements : List Open) (end : ℕ) (rest : List ℕ) where
  is_inside : is_outside (inside (innermost ∷ elements)) ≡ false
  is_inside = no_zero (length (innermost ∷ elements)) (omega arith)

  abbrev Ends : List Placed → Type 0
  Ends items = Inside declared level innermost.name elements end rest items

  -- the items can't be at their end
  never_ends : first_fault [] (inside (innermost ∷ elements)) end rest ≡ None → ⊥
  never_ends none = by rest none
    where
      outside : (t : Bool) → t ≡ false → option_map (fault end) (end_code t) ≡ None → ⊥
      outside false is none = true≢false (ap is_some none)
      outside true is none = true≢false is

      by : (rest : List ℕ) → option_map (fault end) (fault_at_end (inside (innermost ∷ elements)) rest) ≡ None → ⊥
      by [] none = outside (is_outside (inside (innermost ∷ elements))) is_inside none
      by (b ∷ rest) none = no_rest end b rest (inside (innermost ∷ elements)) none

  past_over : (passed left : List Placed) → ArePassedOver passed → Ends left → Ends (passed ++ left)
  past_over passed left over s =
      record {
        nodes = s.nodes;
        inner = passed ++ s.inner;
        last = s.last;
        behind = s.behind;
        is = ap (λ t. passed ++ t) s.is ∙ sym (append_assoc passed s.inner (s.last ∷ s.behind));
        are = passed_in_front s.nodes level declared passed s.inner over s.are;
        ends = s.ends;
        fine = s.fine;
      }

  with_node : (node : Node) (own left : List Placed) (s : Ends left) → IsNode node declared level own s.inner → Ends (own ++ left)
  with_node node own left s is =
      record {
        nodes = MoreNode node s.nodes;
        inner = own ++ s.inner;
        last = s.last;
        behind = s.behind;
        is = ap (λ t. own ++ t) s.is ∙ sym (append_assoc own s.inner (s.last ∷ s.behind));
        are = record { passed = []; own = own; others = s.inner; is = refl; passed_over = refl; is_one = is; go_on = s.are };
        ends = s.ends;
        fine = s.fine;
      }

  with_texts : (texts left : List Placed) → Characterized texts → AreAllTexts texts left → Ends left → Ends (texts ++ left)
  with_texts texts left (at, characters, are) all s = with_node (Chars at characters) texts left s (are, no_text_in_front s.inner (s.last ∷ s.behind) left (sym s.is) all.no_more)

  with_element : (at : ℕ) (element : Element) (nodes : Nodes) (own left : List Placed) → IsElement at element (AreNodes nodes (level + 1)) declared level own → Ends left → Ends (own ++ left)
  with_element at element nodes own left is s = with_node (Elem at element nodes) own left s is

  at_end_tag : (placed : Placed) (others : List Placed) (name : List ℕ) → placed.item ≡ i.End_tag name → fault_of (i.End_tag name) (inside (innermost ∷ elements)) ≡ None → first_fault others (inside elements) end rest ≡ None → Ends (placed ∷ others)
  at_end_tag placed others name is none fine =
      record {
        nodes = NoNode;
        inner = [];
        last = placed;
        behind = others;
        is = refl;
        are = refl;
        ends = is ∙ ap i.End_tag ((bytes_eq-Decides name innermost.name).0 (not-false _ (not_broken code.WrongEnd _ _ none)));
        fine = fine;
      }

-- so it is with items of a length
abbrev Within : ℕ → Type 0
Within n =
    (items : List Placed) (innermost : Open) (elements : List Open) (level : ℕ) (declared : List Declared) (end : ℕ) (rest : List ℕ)
    → length items ≤ n → HaveMeanings items → Fits (innermost ∷ elements) level declared → first_fault items (inside (innermost ∷ elements)) end rest ≡ None
    → Inside declared level innermost.name elements end rest items

module _ (n : ℕ) (further : Within n) (placed : Placed) (others : List Placed) (innermost : Open) (elements : List Open) (level : ℕ) (declared : List Declared) (end : ℕ) (rest : List ℕ)
    (short : length (placed ∷ others) ≤ suc n) (have : HaveMeanings (placed ∷ others)) (fits : Fits (innermost ∷ elements) level declared)
  where
    abbrev around : Around
    around = inside (innermost ∷ elements)

    abbrev Here : List Placed → Type 0
    Here items = Inside declared level innermost.name elements end rest items

    less : length others ≤ n
    less = omega (arith, short)

    next : first_fault others around end rest ≡ None → Here others
    next fine = further others innermost elements level declared end rest less have.1 fits fine

    past_item : is_passed_over placed.item ≡ true → Here others → Here (placed ∷ others)
    past_item over s = past_over declared level innermost elements end rest (placed ∷ []) others (rw over refl) s

    abbrev Own : List ℕ → List Written → Type 0
    Own name attributes = ElementOf declared level name attributes placed.end

    no_tag_fault : (name : List ℕ) (attributes : List Written) (empty : Bool) → fault_of (i.Tag name attributes empty) around ≡ None → fault_of_tag (innermost ∷ elements) name attributes ≡ None
    no_tag_fault name attributes empty none = others_not_broken code.TextOutside _ _ none

    by_empty : (name : List ℕ) (attributes : List Written) → placed.item ≡ i.Tag name attributes true → Own name attributes → Here others → Here (placed ∷ others)
    by_empty name attributes is e s = with_element declared level innermost elements end rest placed.at e.element NoNode (placed ∷ []) others (empty_element declared level placed name attributes is e) s

    by_whole : (name : List ℕ) (attributes : List Written) → placed.item ≡ i.Tag name attributes false → (e : Own name attributes)
        → Inside (e.own ++ declared) (level + 1) name (innermost ∷ elements) end rest others → Here (placed ∷ others)
    by_whole name attributes is e s =
        subst Here whole
        (with_element declared level innermost elements end rest placed.at (with_end e s.last.end).element s.nodes own s.behind (whole_element declared level placed name attributes s.inner s.last s.nodes is s.ends (with_end e s.last.end) s.are)
        (further s.behind innermost elements level declared end rest (omega (arith, shorter, less)) (meanings_behind s.inner (s.last ∷ s.behind) (subst HaveMeanings s.is have.1)).1 fits s.fine))
      where
        own : List Placed
        own = placed ∷ s.inner ++ s.last ∷ []

        shorter : length s.behind + 1 ≤ length others
        shorter = behind_is_shorter s.inner s.behind others s.last s.is

        whole : (placed ∷ s.inner ++ s.last ∷ []) ++ s.behind ≡ placed ∷ others
        whole = ap (λ t. placed ∷ t) (append_assoc s.inner (s.last ∷ []) s.behind ∙ sym s.is)

    by_start : (name : List ℕ) (attributes : List Written) → placed.item ≡ i.Tag name attributes false → first_fault others (inside (record { name = name; prefixes = own_prefixes attributes } ∷ innermost ∷ elements)) end rest ≡ None → Own name attributes → Here (placed ∷ others)
    by_start name attributes is fine e =
        by_whole name attributes is e
        (further others (record { name = name; prefixes = own_prefixes attributes }) (innermost ∷ elements) (level + 1) (e.own ++ declared) end rest less have.1 (fits_inside (innermost ∷ elements) level declared e.own name attributes e.element fits e.is_tag) fine)

    by_texts : is_text placed.item ≡ true → first_fault (placed ∷ others) around end rest ≡ None → Texts (placed ∷ others) → Here (placed ∷ others)
    by_texts is none ([], left, split, all) = absurd (true≢false (sym is ∙ subst NoTextBegins (sym split) all.no_more))
    by_texts is none (text ∷ texts, left, split, all) = subst Here (sym split) (go (white_or_node (text ∷ texts) (meanings_before (text ∷ texts) left (subst HaveMeanings split have)) all.are_texts))
      where
        behind : Here left
        behind =
            let long = ap length split ∙ length-append (text ∷ texts) left in
            let fine = texts_behind (text ∷ texts) left around end rest all.are_texts (is_inside declared level innermost elements end rest) (subst (λ items. first_fault items around end rest ≡ None) split none) in
            further left innermost elements level declared end rest (omega (arith, long, short)) (meanings_behind (text ∷ texts) left (subst HaveMeanings split have)) fits fine

        go : ArePassedOver (text ∷ texts) ⊎ Characterized (text ∷ texts) → Here ((text ∷ texts) ++ left)
        go (inl white) = past_over declared level innermost elements end rest (text ∷ texts) left white behind
        go (inr node) = with_texts declared level innermost elements end rest (text ∷ texts) left node all behind

    by_item : first_fault (placed ∷ others) around end rest ≡ None → (item : i.Item) → placed.item ≡ item → fault_of item around ≡ None → first_fault others (past item around) end rest ≡ None → HasMeaning item → Here (placed ∷ others)
    by_item none i.Instruction is no_fault fine has = past_item (ap is_passed_over is) (next fine)
    by_item none i.Comment is no_fault fine has = past_item (ap is_passed_over is) (next fine)
    by_item none (i.CData content) is no_fault fine has = by_texts (ap is_text is) none (texts_of (placed ∷ others))
    by_item none (i.Words content) is no_fault fine has = by_texts (ap is_text is) none (texts_of (placed ∷ others))
    by_item none (i.End_tag name) is no_fault fine has = at_end_tag declared level innermost elements end rest placed others name is no_fault fine
    by_item none (i.Tag name attributes true) is no_fault fine has =
        by_empty name attributes is (element_of (innermost ∷ elements) level declared name attributes placed.end fits has (no_tag_fault name attributes true no_fault)) (next fine)
    by_item none (i.Tag name attributes false) is no_fault fine has =
        by_start name attributes is fine (element_of (innermost ∷ elements) level declared name attributes placed.end fits has (no_tag_fault name attributes false no_fault))

one_more : (n : ℕ) → Within n → Within (suc n)
one_more n further [] innermost elements level declared end rest short have fits none = absurd (never_ends declared level innermost elements end rest none)
one_more n further (placed ∷ others) innermost elements level declared end rest short have fits none =
    let (first, second) = both_fine placed others (inside (innermost ∷ elements)) end rest none in
    by_item n further placed others innermost elements level declared end rest short have fits none placed.item refl first second have.0

within : (n : ℕ) → Within n
within zero = none_at_all
  where
    none_at_all : Within 0
    none_at_all [] innermost elements level declared end rest short have fits none = absurd (never_ends declared level innermost elements end rest none)
    none_at_all (placed ∷ others) innermost elements level declared end rest short have fits none = absurd (omega (arith, short))
within (suc n) = one_more n (within n)

pub nodes_inside : (items : List Placed) (innermost : Open) (elements : List Open) (level : ℕ) (declared : List Declared) (end : ℕ) (rest : List ℕ)
    → HaveMeanings items → Fits (innermost ∷ elements) level declared → first_fault items (inside (innermost ∷ elements)) end rest ≡ None
    → Inside declared level innermost.name elements end rest items
nodes_inside items innermost elements level declared end rest = within (length items) items innermost elements level declared end rest (omega arith)
