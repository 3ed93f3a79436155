-- Texts and CDATA as they are read: where they are at fault, and the node that they make.
use Rattle.std.proofs.Common.{◌≡◌, ◌⊎◌, ℕ, ◌+◌, ◌==◌, List, [], ◌∷◌, ◌++◌, Bool, true, false, not, None, Some, length, map, reverse, inl, inr, refl, ap, sym, ◌∙◌, subst, true≢false, cond, arith}
use Rattle.std.specs.Prelude.{◌&&◌, ◌≤◌, is_some}
use Rattle.std.specs.List.{list_all}
use Rattle.mxml_items.specs.Pieces.{is_white}
use Rattle.std.proofs.lemmas.List.{length-append}
use Rattle.mxml_items.specs.Items as i
use Rattle.mxml_items.specs.Items.{Placed}
use Rattle.mxml_tree.specs.declared.building.Building.{Building}
use Rattle.mxml_tree.specs.declared.elements.OpenElement.{OpenElement}
use Rattle.mxml_tree.specs.declared.fault.TreeCode.TheVariants as code
use Rattle.mxml_tree.specs.declared.tree.Characters.{Characters}
use Rattle.mxml_tree.specs.declared.tree.Node as Row
use Rattle.mxml_tree.specs.declared.tree.NodeKind.TheVariants as kind
use Rattle.mxml_tree.specs.Building.{Adds, Nest, Outside, Inside, Stands, around, innermost, opened_in, parent_in, table}
use Rattle.mxml_tree.specs.Faults.{Around, at_start, fault, fault_of, first_fault, is_outside, past}
use Rattle.mxml_tree.specs.IsTree.{ArePassedOver, is_passed_over}
use Rattle.mxml_tree.specs.Opened.{open_of}
use Rattle.mxml_tree.specs.Texts.{AreCharacters, AreTexts, NoTextBegins, is_text, is_white_text, not_white}
use Rattle.mxml_tree.specs.Tree.{Chars, rows_of}
use Rattle.mxml_tree.proofs.FaultLaws.{AreLeft, one_read, one_refused, broken_later, broken_here}
use Rattle.mxml_tree.proofs.NestLaws.{MayTake, holds_past, holds_with}
use Rattle.mxml_tree.proofs.StandsLaws.{add_nothing, opened_with_child, opened_with_passed, parent_is}
use Rattle.mxml_tree.proofs.TableLaws.{table_with_child, table_with_passed, with_child, with_passed}

pub true_front : (x y : Bool) → (x && y) ≡ true → x ≡ true
true_front true y is = refl
true_front false y is = is

pub true_back : (x y : Bool) → (x && y) ≡ true → y ≡ true
true_back true y is = is
true_back false y is = absurd (true≢false (sym is))

no_and : (x y : Bool) → x ≡ false → (x && y) ≡ false
no_and x y is = rw is refl

and_no : (x y : Bool) → y ≡ false → (x && y) ≡ false
and_no true y is = is
and_no false y is = refl

-- where a text may stand: inside the root, or where it's white
abbrev pub MayStand : i.Item → Around → Type 0
MayStand item around = (is_outside around ≡ false) ⊎ (is_white_text item ≡ true)

pub text_fault : (item : i.Item) (around : Around) → is_text item ≡ true → MayStand item around → fault_of item around ≡ None
text_fault (i.Words content) around is (inl inside) = broken_later code.TextOutside _ _ (no_and _ _ inside)
text_fault (i.Words content) around is (inr white) = broken_later code.TextOutside _ _ (and_no (is_outside around) _ (ap not white))
text_fault (i.CData content) around is (inl inside) = broken_later code.TextOutside _ _ inside
text_fault (i.CData content) around is (inr white) = absurd (true≢false (sym white))
text_fault i.Instruction around is may = absurd (true≢false (sym is))
text_fault i.Comment around is may = absurd (true≢false (sym is))
text_fault (i.Tag name attributes empty) around is may = absurd (true≢false (sym is))
text_fault (i.End_tag name) around is may = absurd (true≢false (sym is))

pub text_past : (item : i.Item) (around : Around) → is_text item ≡ true → past item around ≡ around
text_past (i.Words content) around is = refl
text_past (i.CData content) around is = refl
text_past i.Instruction around is = refl
text_past i.Comment around is = refl
text_past (i.Tag name attributes empty) around is = absurd (true≢false (sym is))
text_past (i.End_tag name) around is = absurd (true≢false (sym is))

text_outside : (item : i.Item) (around : Around) → is_text item ≡ true → is_outside around ≡ true → is_white_text item ≡ false → fault_of item around ≡ Some code.TextOutside
text_outside (i.Words content) around is outside black = broken_here code.TextOutside (is_outside around && not (list_all is_white content)) None (rw outside (ap not black))
text_outside (i.CData content) around is outside black = broken_here code.TextOutside _ _ outside
text_outside i.Instruction around is outside black = absurd (true≢false (sym is))
text_outside i.Comment around is outside black = absurd (true≢false (sym is))
text_outside (i.Tag name attributes empty) around is outside black = absurd (true≢false (sym is))
text_outside (i.End_tag name) around is outside black = absurd (true≢false (sym is))

-- the first of texts that aren't white, if there is one
one_white : (white : Bool) (placed : Placed) (others : List Placed) → cond (not white) (placed ∷ others) others ≡ [] → (white ≡ true) × (others ≡ [])
one_white true placed others none = (refl, none)
one_white false placed others none = absurd (true≢false (sym (ap is_nil none)))
  where
    is_nil : List Placed → Bool
    is_nil [] = true
    is_nil (x ∷ xs) = false

abbrev first_of : (default : Placed) → List Placed → Placed
first_of default [] = default
first_of default (x ∷ xs) = x

one_first : (white : Bool) (placed : Placed) (others : List Placed) (first : Placed) (more : List Placed) → cond (not white) (placed ∷ others) others ≡ first ∷ more → ((white ≡ true) × (others ≡ first ∷ more)) ⊎ ((white ≡ false) × (placed ≡ first))
one_first true placed others first more is = inl (refl, is)
one_first false placed others first more is = inr (refl, ap (first_of placed) is)

pub inside_read : (all texts left : List Placed) (around : Around) → AreTexts texts → is_outside around ≡ false → AreLeft all (texts ++ left) around → AreLeft all left around
inside_read all [] left around are inside is = is
inside_read all (placed ∷ texts) left around are inside is =
    let text = true_front _ _ are in
    inside_read all texts left around (true_back _ _ are) inside (one_read all (texts ++ left) placed around around is (text_fault placed.item around text (inl inside)) (text_past placed.item around text))

pub white_read : (all texts left : List Placed) (around : Around) → AreTexts texts → not_white texts ≡ [] → AreLeft all (texts ++ left) around → AreLeft all left around
white_read all [] left around are white is = is
white_read all (placed ∷ texts) left around are white is =
    let text = true_front _ _ are in
    let (own, others) = one_white (is_white_text placed.item) placed (not_white texts) white in
    white_read all texts left around (true_back _ _ are) others (one_read all (texts ++ left) placed around around is (text_fault placed.item around text (inr own)) (text_past placed.item around text))

pub outside_refused : (all texts left : List Placed) (around : Around) (first : Placed) (more : List Placed) → AreTexts texts → is_outside around ≡ true → not_white texts ≡ first ∷ more → AreLeft all (texts ++ left) around → (end : ℕ) (rest : List ℕ) → first_fault all at_start end rest ≡ Some (fault first.at code.TextOutside)
outside_refused all [] left around first more are outside is left_are end rest = absurd (true≢false (ap is_nil is))
  where
    is_nil : List Placed → Bool
    is_nil [] = true
    is_nil (x ∷ xs) = false
outside_refused all (placed ∷ texts) left around first more are outside is left_are end rest =
    go (one_first (is_white_text placed.item) placed (not_white texts) first more is)
    (λ white others. outside_refused all texts left around first more (true_back _ _ are) outside others (one_read all (texts ++ left) placed around around left_are (text_fault placed.item around text (inr white)) (text_past placed.item around text)) end rest)
  where
    text : is_text placed.item ≡ true
    text = true_front _ _ are

    go : ((is_white_text placed.item ≡ true) × (not_white texts ≡ first ∷ more)) ⊎ ((is_white_text placed.item ≡ false) × (placed ≡ first)) → (is_white_text placed.item ≡ true → not_white texts ≡ first ∷ more → first_fault all at_start end rest ≡ Some (fault first.at code.TextOutside)) → first_fault all at_start end rest ≡ Some (fault first.at code.TextOutside)
    go (inl (white, others)) later = later white others
    go (inr (black, same)) later = one_refused all (texts ++ left) placed around code.TextOutside left_are (text_outside placed.item around text outside black) end rest ∙ ap (λ (p : Placed). Some (fault p.at code.TextOutside)) same

white_passed : (item : i.Item) → is_white_text item ≡ true → is_passed_over item ≡ true
white_passed (i.Words content) is = is
white_passed (i.CData content) is = is
white_passed i.Instruction is = refl
white_passed i.Comment is = refl
white_passed (i.Tag name attributes empty) is = is
white_passed (i.End_tag name) is = is

all_passed : (texts : List Placed) → not_white texts ≡ [] → ArePassedOver texts
all_passed [] white = refl
all_passed (placed ∷ texts) white =
    let (own, others) = one_white (is_white_text placed.item) placed (not_white texts) white in
    rw (white_passed placed.item own) (all_passed texts others)

pub stands_white : (all texts left : List Placed) (b : Building) → AreTexts texts → not_white texts ≡ [] → Stands all (texts ++ left) b → Stands all left b
stands_white all texts left b are white stands =
    record {
      nest = with_passed stands.nest texts;
      holds = holds_past all stands.nest texts left (all_passed texts white) stands.holds;
      opened = opened_with_passed stands.nest texts ∙ stands.opened;
      nodes = stands.nodes ∙ sym (table_with_passed stands.nest texts);
      faults = white_read all texts left (around b) are white stands.faults;
    }

no_text_in_front : (inner behind left : List Placed) → inner ++ behind ≡ left → NoTextBegins left → NoTextBegins inner
no_text_in_front [] behind left same none = tt
no_text_in_front (placed ∷ inner) behind left same none = subst NoTextBegins (sym same) none

pub no_zero : (n : ℕ) → 1 ≤ n → (n == 0) ≡ false
no_zero n some = grind (arith, some)

pub is_inside : (opened : List OpenElement) (number : ℕ) → innermost opened ≡ Some number → (length (map open_of opened) == 0) ≡ false
is_inside [] number is = absurd (true≢false (sym (ap is_some is)))
is_inside (element ∷ opened) number is = no_zero (length (map open_of (element ∷ opened))) (omega arith)

pub none_open : (opened : List OpenElement) → innermost opened ≡ None → (length (map open_of opened) == 0) ≡ true
none_open [] is = refl
none_open (element ∷ opened) is = absurd (true≢false (ap is_some is))

inside_rooted : (nest : Nest) (number : ℕ) → innermost (opened_in nest) ≡ Some number → (length (table nest) == 0) ≡ false
inside_rooted (Outside done items) number is = absurd (true≢false (sym (ap is_some is)))
inside_rooted (Inside begun done items outer) number is =
    let row : Row.Node = record { parent = parent_in outer; at = begun.start.at; kind = kind.Element begun.element } in
    let long = length-append (table outer) (row ∷ rows_of (Some (length (table outer))) (length (table outer) + 1) done) in
    no_zero (length (table (Inside begun done items outer))) (omega (arith, long))

pub stands_texts : (all texts left : List Placed) (b new : Building) (at : ℕ) (characters : Characters) (number : ℕ) → NoTextBegins left → AreCharacters at characters texts → innermost (reverse b.opened.items) ≡ Some number → Adds (record { parent = innermost (reverse b.opened.items); at = at; kind = kind.Characters characters }) b new → Stands all (texts ++ left) b → Stands all left new
stands_texts all texts left b new at characters number no_more are inside adds stands =
    let nest = stands.nest in
    let node = Chars at characters in
    let parent = parent_is all (texts ++ left) nest stands.holds ∙ ap innermost stands.opened in
    record {
      nest = with_child nest node texts;
      holds = holds_with all nest node texts left (may_take nest (ap innermost stands.opened ∙ inside)) (λ inner behind same. (are, no_text_in_front inner behind left same no_more)) stands.holds;
      opened = opened_with_child nest node texts ∙ stands.opened ∙ ap reverse (sym adds.same);
      nodes = adds.nodes ∙ ap (λ t. t ++ record { parent = innermost (reverse b.opened.items); at = at; kind = kind.Characters characters } ∷ []) stands.nodes ∙ ap (λ parent. table nest ++ record { parent = parent; at = at; kind = kind.Characters characters } ∷ []) (sym parent) ∙ sym (table_with_child nest node texts);
      faults = subst (λ a. AreLeft all left a) around_new (inside_read all texts left (around b) are.are_texts (is_inside (reverse b.opened.items) number inside) stands.faults);
    }
  where
    may_take : (nest : Nest) → innermost (opened_in nest) ≡ Some number → MayTake nest (Chars at characters)
    may_take (Outside done items) is = absurd (true≢false (sym (ap is_some is)))
    may_take (Inside begun done items outer) is = tt

    around_new : around b ≡ around new
    around_new =
        let rooted = ap (λ nodes. length nodes == 0) stands.nodes ∙ inside_rooted stands.nest number (ap innermost stands.opened ∙ inside) in
        rw adds.same rw adds.nodes rw (add_nothing b.nodes (record { parent = innermost (reverse b.opened.items); at = at; kind = kind.Characters characters })) rw rooted refl
