-- Each text has a tree or a first fault.
use Rattle.std.proofs.Common.{◌≡◌, ◌⊎◌, ℕ, ◌-◌, List, [], length, Option, None, Some, IsUtf8, inl, inr, refl, ap, ◌∙◌, subst, arith}
use Rattle.std.proofs.lemmas.List.{length-append}
use Rattle.std.specs.Str.{IsValidUpTo}
use Rattle.mxml_items.specs.Items.{Placed}
use Rattle.mxml_items.specs.Texts.{IsBegun}
use Rattle.mxml_tree.specs.declared.fault.TreeCode.TheVariants as code
use Rattle.mxml_tree.specs.declared.tree.Node as Row
use Rattle.mxml_tree.specs.Faults.{Fault, at_start, fault, first_fault}
use Rattle.mxml_tree.specs.IsTree.{Consists, HasNodes, In_bytes, In_items, IsFirstFault}
use Rattle.mxml_tree.specs.Tree.{Elem, table_of}
use Rattle.mxml_tree.proofs.TextEnds.{cut_text}
use Rattle.mxml_laws.specs.Laws.{HasTreeOrFault}
use Rattle.mxml_laws.proofs.Encodings.{utf8_or_not}
use Rattle.mxml_laws.proofs.Items.{begun_of, items_of}
use Rattle.mxml_laws.proofs.Meanings.{items_have}
use Rattle.mxml_laws.proofs.Roots.{Rooted, rooted}

abbrev Either : List ℕ → Type 0
Either text = ((nodes : List Row.Node) × HasNodes text nodes) ⊎ ((fault : Fault) × IsFirstFault fault text)

-- items without a fault up to the end of a text
has_tree : (text : List ℕ) (items : List Placed) (end : ℕ) (rest : List ℕ) → Consists items end rest text → Rooted items rest → (nodes : List Row.Node) × HasNodes text nodes
has_tree text items end rest consists r = (
  table_of (Elem r.at r.element r.nodes),
  record {
    root = Elem r.at r.element r.nodes;
    is_tree =
        record {
          items = items;
          whole = subst (λ n. Consists items n [] text) ends (subst (λ t. Consists items end t text) r.ends consists);
          at = r.at;
          element = r.element;
          nodes = r.nodes;
          is_element = refl;
          one = r.are;
        };
    is = refl;
  },
)
  where
    ends : end ≡ length text
    ends =
        let cut = cut_text text consists.begun items end rest consists.is_begun consists.are in
        let long = ap length cut.is ∙ length-append cut.front rest in
        let is = cut.long in
        let none = ap length r.ends in
        omega (arith, long, is, none)

by_items : (text : List ℕ) (items : List Placed) (end : ℕ) (rest : List ℕ) → Consists items end rest text → Either text
by_items text items end rest consists = by (first_fault items at_start end rest) refl
  where
    by : (found : Option Fault) → first_fault items at_start end rest ≡ found → Either text
    by (Some fault) is = inr (fault, In_items items end rest consists is)
    by None is = inl (has_tree text items end rest consists (rooted items end rest (items_have items end rest (length text - length consists.begun) consists.begun consists.are) is))

pub has_tree_or_fault : HasTreeOrFault
has_tree_or_fault text = by (utf8_or_not text) (begun_of text)
  where
    by : IsUtf8 text ⊎ ((n : ℕ) × IsValidUpTo text n) → ((begun : List ℕ) × IsBegun text begun) → Either text
    by (inr (n, stops)) begins = inr (fault n code.NotUtf8, In_bytes refl stops)
    by (inl utf8) (begun, is_begun) =
        let found = items_of (length text - length begun) begun in
        by_items text found.items found.end found.rest (record { utf8 = utf8; begun = begun; is_begun = is_begun; are = found.are; no_more = found.no_more })
