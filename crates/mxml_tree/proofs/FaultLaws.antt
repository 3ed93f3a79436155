-- The first fault of items, of which one or several are read.
use Rattle.std.proofs.Common.{◌≡◌, ℕ, List, ◌∷◌, Bool, true, false, Option, None, Some, refl, ap, ◌∙◌, true≢false}
use Rattle.std.specs.Prelude.{is_some}
use Rattle.mxml_items.specs.Items.{Placed}
use Rattle.mxml_tree.specs.declared.fault.TreeCode.{TreeCode}
use Rattle.mxml_tree.specs.Faults.{Around, Fault, at_start, broken, fault, fault_of, first_fault, past}

-- of all items those are left, at a place
abbrev pub AreLeft : List Placed → List Placed → Around → Type 0
AreLeft all left around = (end : ℕ) (rest : List ℕ) → first_fault all at_start end rest ≡ first_fault left around end rest

abbrev after : Placed → List Placed → Around → ℕ → List ℕ → Option TreeCode → Option Fault
after placed left around end rest found = elim found [ Some code ↦ Some (fault placed.at code) | None ↦ first_fault left (past placed.item around) end rest ]

pub one_read : (all left : List Placed) (placed : Placed) (around next : Around) → AreLeft all (placed ∷ left) around → fault_of placed.item around ≡ None → past placed.item around ≡ next → AreLeft all left next
one_read all left placed around next are none is end rest = are end rest ∙ ap (after placed left around end rest) none ∙ ap (λ a. first_fault left a end rest) is

pub one_refused : (all left : List Placed) (placed : Placed) (around : Around) (code : TreeCode) → AreLeft all (placed ∷ left) around → fault_of placed.item around ≡ Some code → (end : ℕ) (rest : List ℕ) → first_fault all at_start end rest ≡ Some (fault placed.at code)
one_refused all left placed around code are found end rest = are end rest ∙ ap (after placed left around end rest) found

-- where nothing is broken no test is true
pub not_broken : (code : TreeCode) (test : Bool) (others : Option TreeCode) → broken code test others ≡ None → test ≡ false
not_broken code false others none = refl
not_broken code true others none = absurd (true≢false (ap is_some none))

pub others_not_broken : (code : TreeCode) (test : Bool) (others : Option TreeCode) → broken code test others ≡ None → others ≡ None
others_not_broken code false others none = none
others_not_broken code true others none = absurd (true≢false (ap is_some none))

pub broken_later : (code : TreeCode) (test : Bool) (others : Option TreeCode) → test ≡ false → broken code test others ≡ others
broken_later code test others is = rw is refl

pub broken_here : (code : TreeCode) (test : Bool) (others : Option TreeCode) → test ≡ true → broken code test others ≡ Some code
broken_here code test others is = rw is refl
