-- Items read one after another.
use Rattle.std.proofs.Common.{◌≡◌, ℕ, ◌+◌, ◌-◌, ◌≤◌, ◌==◌, List, [], ◌∷◌, ◌++◌, true, false, length, take, drop, get_or, refl, ap, sym, ◌∙◌, subst, arith}
use Rattle.std.proofs.lemmas.List.{drop-drop, drop-map, take_rest, length-append, length-drop, map-append}
use Rattle.std.proofs.lemmas.List.Elements.{All-head, All-take, All-drop}
use Rattle.std.specs.Prelude.{IsFalse}
use Rattle.mxml_items.specs.declared.items.Placed as Code
use Rattle.mxml_items.specs.Items.{Placed}
use Rattle.mxml_items.specs.Reading.{item_of}
use Rattle.mxml_items.specs.Texts.{placed_of}
use Rattle.mxml_tree.specs.declared.building.Building.{Building}
use Rattle.mxml_tree.specs.declared.fault.TreeRefusal.{TreeRefusal}
use Rattle.mxml_tree.specs.declared.fault.TreeRefusal.TheVariants as refusal
use Rattle.mxml_tree.specs.Building.{Reads, ReadsTexts, RefusesIn, Stands}
use Rattle.mxml_tree.specs.Readable.{AreReadable, IsReadableItem, IsReadablePlaced}
use Rattle.mxml_tree.specs.Reading.{Advances, RefusesAt, RefusesItems, placed_in}
use Rattle.mxml_tree.specs.Texts.{AreAllTexts, NoTextBegins, is_text}
use Rattle.mxml_tree.proofs.StandsLaws.{zero_is}

pub first_is_readable : (items : List Code.Placed) (first : Code.Placed) → 1 ≤ length items → first ≡ get_or items 0 first → AreReadable (placed_in items) → IsReadableItem (item_of first.item)
first_is_readable [] first some is readable = absurd (omega (arith, some))
first_is_readable (p ∷ items) first some is readable = subst (λ (q : Code.Placed). IsReadableItem (item_of q.item)) (sym is) (All-head IsReadablePlaced (placed_of p) (placed_in items) readable).0

pub first_is_no_text : (items texts others : List Code.Placed) (first : Code.Placed) → items ≡ texts ++ others → (length texts == 0) ≡ true → NoTextBegins (placed_in others) → 1 ≤ length items → first ≡ get_or items 0 first → IsFalse (is_text (item_of first.item))
first_is_no_text items [] [] first is none no_text some at = absurd (let long = ap length is in omega (arith, long, some))
first_is_no_text items [] (p ∷ others) first is none no_text some at = subst (λ (q : Code.Placed). IsFalse (is_text (item_of q.item))) (sym (at ∙ ap (λ xs. get_or xs 0 first) is)) no_text
first_is_no_text items (t ∷ texts) others first is none no_text some at = absurd (let no = zero_is (length (t ∷ texts)) none in omega (arith, no))

pub advances_one : (items : List Code.Placed) (first : Code.Placed) (old new : Building) → 1 ≤ length items → first ≡ get_or items 0 first → Reads (placed_of first ∷ []) old new → Advances items old new 1
advances_one [] first old new some is reads = absurd (omega (arith, some))
advances_one (p ∷ items) first old new some is reads =
    record {
      some = omega arith;
      within = some;
      reads = λ all stands. reads all (placed_in items) (subst (λ (q : Code.Placed). Stands all (placed_of q ∷ placed_in items) old) (sym is) stands);
    }

pub refuses_one : (items : List Code.Placed) (first : Code.Placed) (old : Building) (e : TreeRefusal) → 1 ≤ length items → first ≡ get_or items 0 first → RefusesIn (placed_of first ∷ []) old e → RefusesAt items old e
refuses_one items first old refusal.NoMemory some is refuses = tt
refuses_one [] first old (refusal.Fault code at) some is refuses = absurd (omega (arith, some))
refuses_one (p ∷ items) first old (refusal.Fault code at) some is refuses =
    λ all end rest stands. refuses all (placed_in items) end rest (subst (λ (q : Code.Placed). Stands all (placed_of q ∷ placed_in items) old) (sym is) stands)

pub texts_are_readable : (items texts others : List Code.Placed) → items ≡ texts ++ others → AreReadable (placed_in items) → AreReadable (placed_in texts)
texts_are_readable items texts others is readable =
    front_of (placed_in texts) (placed_in others) (subst AreReadable (ap placed_in is ∙ map-append placed_of texts others) readable)
  where
    front_take : (xs ys : List Placed) → take (length xs) (xs ++ ys) ≡ xs
    front_take [] ys = take_none ys
      where
        take_none : (ys : List Placed) → take 0 ys ≡ []
        take_none [] = refl
        take_none (y ∷ ys) = refl
    front_take (x ∷ xs) ys = ap (λ t. x ∷ t) (front_take xs ys)

    front_of : (xs ys : List Placed) → AreReadable (xs ++ ys) → AreReadable xs
    front_of xs ys are = subst AreReadable (front_take xs ys) (All-take IsReadablePlaced (length xs) (xs ++ ys) are)

drop_front : (xs ys : List Code.Placed) → drop (length xs) (xs ++ ys) ≡ ys
drop_front [] ys = drop_none ys
  where
    drop_none : (ys : List Code.Placed) → drop 0 ys ≡ ys
    drop_none [] = refl
    drop_none (y ∷ ys) = refl
drop_front (x ∷ xs) ys = drop_front xs ys

pub advances_texts : (items texts others : List Code.Placed) (old new : Building) → items ≡ texts ++ others → (length texts == 0) ≡ false → AreAllTexts (placed_in texts) (placed_in others) → ReadsTexts (placed_in texts) old new → Advances items old new (length texts)
advances_texts items texts others old new is some are reads =
    let both : placed_in items ≡ placed_in texts ++ placed_in others = ap placed_in is ∙ map-append placed_of texts others in
    let left : drop (length texts) items ≡ others = ap (drop (length texts)) is ∙ drop_front texts others in
    record {
      some = not_zero (length texts) some;
      within = (let long = ap length is ∙ length-append texts others in omega (arith, long));
      reads = λ all stands. subst (λ xs. Stands all (placed_in xs) new) (sym left) (reads all (placed_in others) are.no_more (subst (λ xs. Stands all xs old) both stands));
    }
  where
    not_zero : (n : ℕ) → (n == 0) ≡ false → 1 ≤ n
    not_zero n is = grind (arith, is)

pub refuses_texts : (items texts others : List Code.Placed) (old : Building) (e : TreeRefusal) → items ≡ texts ++ others → RefusesIn (placed_in texts) old e → RefusesAt items old e
refuses_texts items texts others old refusal.NoMemory is refuses = tt
refuses_texts items texts others old (refusal.Fault code at) is refuses =
    λ all end rest stands. refuses all (placed_in others) end rest (subst (λ xs. Stands all xs old) (ap placed_in is ∙ map-append placed_of texts others) stands)

pub refuses_all : (items left : List Code.Placed) (b : Building) (e : TreeRefusal) → Stands (placed_in items) (placed_in left) b → RefusesAt left b e → RefusesItems items e
refuses_all items left b refusal.NoMemory stands refuses = tt
refuses_all items left b (refusal.Fault code at) stands refuses = λ end rest. refuses (placed_in items) end rest stands

-- those that are left
pub left_are_readable : (items : List Code.Placed) (at : ℕ) → AreReadable (placed_in items) → AreReadable (placed_in (take (length items - at) (drop at items)))
left_are_readable items at readable =
    subst (λ xs. AreReadable (placed_in xs)) (sym (take_rest items at))
    (subst AreReadable (drop-map placed_of at items) (All-drop IsReadablePlaced at (placed_in items) readable))

pub more_read : (items : List Code.Placed) (at count : ℕ) (old new : Building) → Stands (placed_in items) (placed_in (drop at items)) old → at ≤ length items → Advances (take (length items - at) (drop at items)) old new count → Stands (placed_in items) (placed_in (drop (at + count) items)) new × (at + count ≤ length items)
more_read items at count old new stands within advances = (
  subst (λ xs. Stands (placed_in items) (placed_in xs) new) (ap (drop count) (take_rest items at) ∙ drop-drop count at items)
      (advances.reads (placed_in items) (subst (λ xs. Stands (placed_in items) (placed_in xs) old) (sym (take_rest items at)) stands)),
  (let less = advances.within in let long = ap length (take_rest items at) in let rest = length-drop at items in omega (arith, less, long, rest, within)),
)
