-- Where the items of a text end, and what that says of its tree and of its first fault.
use Rattle.std.proofs.Common.{◌≡◌, ℕ, ◌-◌, ◌≤◌, List, [], ◌∷◌, ◌++◌, length, drop, inl, inr, refl, ap, sym, ◌∙◌, subst, append_assoc, arith}
use Rattle.std.proofs.lemmas.List.{length-append}
use Rattle.std.specs.Prelude.{IsUtf8}
use Rattle.mxml_items.specs.declared.items.Items as Found
use Rattle.mxml_items.specs.Items.{Placed, AreItems}
use Rattle.mxml_items.specs.Texts.{HasItems, IsBegun, mark}
use Rattle.mxml_tree.specs.declared.building.Building.{Building}
use Rattle.mxml_tree.specs.declared.fault.TreeRefusal.{TreeRefusal}
use Rattle.mxml_tree.specs.declared.fault.TreeRefusal.TheVariants as refusal
use Rattle.mxml_tree.specs.declared.tree.Node as Row
use Rattle.mxml_tree.specs.Building.{Finishes, RefusesEnd, Stands}
use Rattle.mxml_tree.specs.IsTree.{Consists, HasNodes, In_items, IsRefusalOf}
use Rattle.mxml_tree.specs.Reading.{RefusesItems, placed_in}
use Rattle.mxml_tree.specs.Tree.{Elem}

-- a text is what stands up to a place, and what stands from there on
pub record IsCut (text : List ℕ) (end : ℕ) (rest : List ℕ) : Type 0 where
  pub front : List ℕ
  pub is : text ≡ front ++ rest
  pub long : length front ≡ end

cut_items : (items : List Placed) (end : ℕ) (rest : List ℕ) (at : ℕ) (before text : List ℕ) → length before ≡ at → AreItems items end rest at text → IsCut (before ++ text) end rest
cut_items [] end rest at before text long (ends, is) = record { front = before; is = ap (λ t. before ++ t) (sym is); long = long ∙ sym ends }
cut_items (placed ∷ items) end rest at before text long are =
    let b = are.begins in
    let longer = length-append before b.bytes in
    let whole = ap length b.is ∙ length-append b.bytes are.rest in
    let ends = are.ends in
    let cut = cut_items items end rest placed.end (before ++ b.bytes) are.rest (omega (arith, long, longer, whole, ends)) are.go_on in
    record { front = cut.front; is = ap (λ t. before ++ t) b.is ∙ sym (append_assoc before b.bytes are.rest) ∙ cut.is; long = cut.long }

pub cut_text : (text begun : List ℕ) (items : List Placed) (end : ℕ) (rest : List ℕ) → IsBegun text begun → AreItems items end rest (length text - length begun) begun → IsCut text end rest
cut_text text begun items end rest (inl is) are =
    let long = ap length is ∙ length-append mark begun in
    subst (λ t. IsCut t end rest) (sym is) (cut_items items end rest (length text - length begun) mark begun (omega (arith, long)) are)
cut_text text begun items end rest (inr (is, _)) are =
    let long = ap length is in
    subst (λ t. IsCut t end rest) is (cut_items items end rest (length text - length begun) [] begun (omega (arith, long)) are)

drop_front : (n : ℕ) (front rest : List ℕ) → length front ≡ n → drop n (front ++ rest) ≡ rest
drop_front n [] rest long = subst (λ m. drop m rest ≡ rest) long (drop_none rest)
  where
    drop_none : (xs : List ℕ) → drop 0 xs ≡ xs
    drop_none [] = refl
    drop_none (x ∷ xs) = refl
drop_front n (x ∷ front) rest long = subst (λ m. drop m (x ∷ front ++ rest) ≡ rest) long (drop_front (length front) front rest refl)

pub ends_within : (text : List ℕ) (found : Found.Items) → HasItems text found → found.end ≤ length text
ends_within text found has =
    let cut = cut_text text has.begun _ found.end has.rest has.is_begun has.are_items in
    let long = ap length cut.is ∙ length-append cut.front has.rest in
    let is = cut.long in
    omega (arith, long, is)

rest_is : (text : List ℕ) (found : Found.Items) (has : HasItems text found) → drop found.end text ≡ has.rest
rest_is text found has =
    let cut = cut_text text has.begun _ found.end has.rest has.is_begun has.are_items in
    ap (drop found.end) cut.is ∙ drop_front found.end cut.front has.rest cut.long

consists : (text : List ℕ) (found : Found.Items) (has : HasItems text found) → IsUtf8 text → Consists (placed_in found.items) found.end has.rest text
consists text found has utf8 = record { utf8 = utf8; begun = has.begun; is_begun = has.is_begun; are = has.are_items; no_more = has.no_more }

pub has_nodes : (text : List ℕ) (found : Found.Items) (b : Building) (nodes : List Row.Node) → HasItems text found → IsUtf8 text → Stands (placed_in found.items) [] b → Finishes b (drop found.end text) nodes → HasNodes text nodes
has_nodes text found b nodes has utf8 stands finishes =
    let done = finishes (placed_in found.items) stands in
    let none : has.rest ≡ [] = sym (rest_is text found has) ∙ done.nothing_behind in
    let cut = cut_text text has.begun _ found.end has.rest has.is_begun has.are_items in
    let ends : found.end ≡ length text = (let long = ap length cut.is ∙ length-append cut.front has.rest in let is = cut.long in let no = ap length none in omega (arith, long, is, no)) in
    record {
      root = Elem done.at done.element done.inner;
      is_tree =
          record {
            items = placed_in found.items;
            whole = subst (λ end. Consists (placed_in found.items) end [] text) ends (subst (λ rest. Consists (placed_in found.items) found.end rest text) none (consists text found has utf8));
            at = done.at;
            element = done.element;
            nodes = done.inner;
            is_element = refl;
            one = done.are_nodes;
          };
      is = done.is_table;
    }

pub refused_items : (text : List ℕ) (found : Found.Items) (e : TreeRefusal) → HasItems text found → IsUtf8 text → RefusesItems found.items e → IsRefusalOf text e
refused_items text found refusal.NoMemory has utf8 refuses = tt
refused_items text found (refusal.Fault code at) has utf8 refuses = In_items (placed_in found.items) found.end has.rest (consists text found has utf8) (refuses found.end has.rest)

pub refused_end : (text : List ℕ) (found : Found.Items) (b : Building) (e : TreeRefusal) → HasItems text found → IsUtf8 text → Stands (placed_in found.items) [] b → RefusesEnd b found.end (drop found.end text) e → IsRefusalOf text e
refused_end text found b refusal.NoMemory has utf8 stands refuses = tt
refused_end text found b (refusal.Fault code at) has utf8 stands refuses =
    In_items (placed_in found.items) found.end (drop found.end text) (subst (λ rest. Consists (placed_in found.items) found.end rest text) (sym (rest_is text found has)) (consists text found has utf8)) (refuses (placed_in found.items) stands)
