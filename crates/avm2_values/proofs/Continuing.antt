-- Lists that are made item by item, where each may end the play.
use Rattle.std.proofs.Common.{◌≡◌, ◌∙◌, ◌++◌, ◌∷◌, List, [], ap, refl, sym}
use Rattle.std.proofs.lemmas.List.{append_assoc, append-nil}
use Rattle.std.specs.Prelude.{Err, Result as Computed}
use Rattle.avm2_meaning.specs.Results.{Goes, Halts, Result, bind}
use Rattle.avm2_meaning.specs.declared.heap.Heap.{Heap}
use Rattle.avm2_values.specs.Answers.{Gives}
use Rattle.avm2_values.specs.declared.refusal.Refusal.{Refusal}
use Rattle.avm2_values.specs.declared.refusal.Refusal.TheVariants.{Halt, NoMemory}

-- what the others come to, behind those that were made
abbrev pub behind : {A : Type 0} → List A → Result (List A) → Result (List A)
behind out (Goes vs h) = Goes (out ++ vs) h
behind out (Halts o) = Halts o

-- an item, and then the others
abbrev pub item_and : {A : Type 0} → Result A → (Heap → Result (List A)) → Result (List A)
item_and first others = bind first (λ v h. bind (others h) (λ vs h1. Goes (v ∷ vs) h1))

made_one : {A : Type 0} (out : List A) (v : A) (r : Result (List A)) → behind out (bind r (λ vs h. Goes (v ∷ vs) h)) ≡ behind (out ++ v ∷ []) r
made_one out v (Goes vs h) = ap (λ l. Goes l h) (sym (append_assoc out (v ∷ []) vs))
made_one out v (Halts o) = refl

-- nothing was made yet
pub at_first : {A : Type 0} (r : Result (List A)) → r ≡ behind [] r
at_first (Goes vs h) = refl
at_first (Halts o) = refl

-- the next item is made
pub next_made : {A : Type 0} (out : List A) (first : Result A) (others : Heap → Result (List A)) (v : A) (h : Heap)
    → first ≡ Goes v h → behind out (item_and first others) ≡ behind (out ++ v ∷ []) (others h)
next_made out first others v h is = ap (λ r. behind out (item_and r others)) is ∙ made_one out v (others h)

-- no item is left
pub none_left : {A : Type 0} (out : List A) (h : Heap) → behind out (Goes [] h) ≡ Goes out h
none_left out h = ap (λ l. Goes l h) (append-nil out)

-- the next item ends the play, or wants memory
pub next_refused : {A : Type 0} (out : List A) (first : Result A) (others : Heap → Result (List A)) (e : Refusal) (h : Heap) (whole : Result (List A))
    → whole ≡ behind out (item_and first others) → Gives {A = A} (Err e) h first → Gives {A = List A} (Err e) h whole
next_refused out first others (Halt o) h whole is halts = is ∙ ap (λ r. behind out (item_and r others)) halts
next_refused out first others NoMemory h whole is tells = tt
