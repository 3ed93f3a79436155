-- Contents that are made one behind another.
use Rattle.std.proofs.Common.{List, None, Some, [], ap, arith, drop, get_or, length, refl, sym, ℕ, ◌++◌, ◌+◌, ◌<◌, ◌∙◌, ◌∷◌, ◌≡◌, ◌≤◌}
use Rattle.std.proofs.lemmas.List.{at_drop_more, drop_all}
use Rattle.flex_front.specs.declared.document.Element.{Element}
use Rattle.flex_front.specs.declared.document.Element.TheVariants as element
use Rattle.flex_program.specs.DocumentTerms.{content_before, contents_of, instance_of}
use Rattle.flex_program.specs.Forms.{ContentForms}
use Rattle.flex_program.specs.Program.{Contents}
use Rattle.flex_program.specs.declared.document.Content.{Content}
use Rattle.flex_program.specs.declared.document.Content.TheVariants.{Child}
use Rattle.flex_program.specs.declared.document.Instance.{Instance}
use Rattle.built_programs.specs.Programs.{child_of, children_of, next_handler}

abbrev pub contents_before : List Content → Contents → Contents
contents_before [] rest = rest
contents_before (c ∷ cs) rest = content_before c (contents_before cs rest)

contents_whole : (cs : List Content) → contents_before cs Contents.NoContent ≡ contents_of cs
contents_whole [] = refl
contents_whole (c ∷ cs) = ap (content_before c) (contents_whole cs)

contents_more : (cs : List Content) (c : Content) (rest : Contents) → contents_before (cs ++ c ∷ []) rest ≡ contents_before cs (content_before c rest)
contents_more [] c rest = refl
contents_more (b ∷ cs) c rest = ap (content_before b) (contents_more cs c rest)

-- the first so many elements are these contents, and the next instance and the next handler have these numbers
pub record AreMade (es : List Element) (k number handler : ℕ) (cs : List Content) : Type 0 where
  pub numbered : number ≡ k + 1
  pub few : handler ≤ k
  pub made : contents_before cs (children_of number handler (drop k es)) ≡ children_of 1 0 es

next_few : (handler k : ℕ) (e : Element) → handler ≤ k → next_handler handler e ≤ k + 1
next_few handler k (element.Label id text) few = omega arith
next_few handler k (element.Button id None) few = omega arith
next_few handler k (element.Button id (Some text)) few = omega arith

abbrev rest : List Element → ℕ → Element → ℕ → ℕ → Contents
rest es k e number handler = children_of (number + 1) (next_handler handler e) (drop (k + 1) es)

-- one element more
pub made_more :
    (forms : (rest : Contents) → ContentForms rest) (es : List Element) (k : ℕ) (e : Element) (number handler : ℕ) (cs : List Content) (i : Instance)
    → k < length es → e ≡ get_or es k e → AreMade es k number handler cs → instance_of i ≡ child_of number handler e
    → AreMade es (k + 1) (number + 1) (next_handler handler e) (cs ++ Child i ∷ [])
made_more forms es k e number handler cs i within here so is =
    let n : number ≡ k + 1 = so.numbered in
    record {
      numbered = omega arith;
      few = next_few handler k e so.few;
      made =
          contents_more cs (Child i) (rest es k e number handler)
          ∙ ap (contents_before cs) ((forms (rest es k e number handler)).child i ∙ ap (λ j. Contents.Child j (rest es k e number handler)) is)
          ∙ ap (λ d. contents_before cs (children_of number handler (d ∷ drop (k + 1) es))) here
          ∙ ap (contents_before cs) (sym (at_drop_more (children_of number handler) es k e within))
          ∙ so.made;
    }

-- at the end
pub made_whole : (es : List Element) (k number handler : ℕ) (cs : List Content) → length es ≤ k → AreMade es k number handler cs → contents_of cs ≡ children_of 1 0 es
made_whole es k number handler cs end so =
    sym (contents_whole cs) ∙ sym (ap (λ l. contents_before cs (children_of number handler l)) (drop_all k es end)) ∙ so.made
