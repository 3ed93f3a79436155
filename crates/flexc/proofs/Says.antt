-- The printing of a line in pieces.
use Rattle.std.specs.Prelude.{codes, decimal}
use Rattle.flex_base.specs.Story.{with_end}
use Rattle.flexc.specs.Command.{place_line}
use Rattle.mxml_tree.specs.declared.fault.TreeCode.{TreeCode}
use Rattle.mxml_tree.specs.CodeNames.{name_of}
use Rattle.std.proofs.Common.{◌≡◌, ℕ, List, [], ◌∷◌, ◌++◌, Ok, Err, Result, sym, ap, ◌∙◌, subst, append_assoc}
use Rattle.flex_edge.specs.Outside.{Rose, SinkState}
use Rattle.flex_edge.specs.declared.refused.Refused.{Refused}
use Rattle.flex_edge.specs.declared.refused.Refused.TheVariants as refused
use Rattle.flex_edge.specs.Whole.{HasTaken, Prints}

-- a first part of what follows
taken_behind : (x y : List ℕ) (a b c : SinkState) → b.taken ≡ a.taken ++ x → HasTaken y b c → HasTaken (x ++ y) a c
taken_behind x y a b c before h = record {
  part = x ++ h.part;
  left = h.left;
  whole = ap (λ l. x ++ l) h.whole ∙ sym (append_assoc x h.part h.left);
  taken = h.taken ∙ ap (λ l. l ++ h.part) before ∙ append_assoc a.taken x h.part;
}

-- one piece behind another
pub prints_then : (x y : List ℕ) (a b c : SinkState) (result : Result (Unit {0}) Refused) → Prints a x (Ok tt) b → Prints b y result c → Prints a (x ++ y) result c
prints_then x y a b c (Ok done) p q = record {
  tells = q.tells ∙ p.tells;
  faults = q.faults ∙ p.faults;
  told = λ t. q.told (p.tells ∙ t) ∙ ap (λ l. l ++ y) (p.told t) ∙ append_assoc a.taken x y;
}
prints_then x y a b c (Err refused.Failed) p q = record {
  tells = q.tells ∙ p.tells;
  faults = subst (λ n. Rose n c.write_faults) p.faults q.faults;
  told = λ t. taken_behind x y a b c (p.told t) (q.told (p.tells ∙ t));
}
prints_then x y a b c (Err refused.NoMemory) p q = record {
  tells = q.tells ∙ p.tells;
  faults = q.faults ∙ p.faults;
  told = λ t. taken_behind x y a b c (p.told t) (q.told (p.tells ∙ t));
}

-- a piece that wasn't printed whole, and one that was to follow
pub prints_stop : (x y : List ℕ) (a b : SinkState) (refusal : Refused) → Prints a x (Err refusal) b → Prints a (x ++ y) (Err refusal) b
prints_stop x y a b refused.Failed p =
    record { tells = p.tells; faults = p.faults; told = λ t. let h = p.told t in record { part = h.part; left = h.left ++ y; whole = ap (λ l. l ++ y) h.whole ∙ append_assoc h.part h.left y; taken = h.taken } }
prints_stop x y a b refused.NoMemory p =
    record { tells = p.tells; faults = p.faults; told = λ t. let h = p.told t in record { part = h.part; left = h.left ++ y; whole = ap (λ l. l ++ y) h.whole ∙ append_assoc h.part h.left y; taken = h.taken } }

-- the line of a fault, in the pieces that are printed
pub prints_place : (name : List ℕ) (line column : ℕ) (code : TreeCode) (a b : SinkState) (result : Result (Unit {0}) Refused)
    → Prints a (name ++ ((codes ":" ++ decimal line) ++ ((codes ":" ++ decimal column) ++ (codes ": " ++ (name_of code ++ (10 ∷ [])))))) result b
    → Prints a (with_end (place_line name line column code)) result b
prints_place name line column code a b result p = subst (λ l. Prints a l result b) (sym pieces) p
  where
    pieces : with_end (place_line name line column code) ≡ name ++ ((codes ":" ++ decimal line) ++ ((codes ":" ++ decimal column) ++ (codes ": " ++ (name_of code ++ (10 ∷ [])))))
    pieces = simp append_assoc
