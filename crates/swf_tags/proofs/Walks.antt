-- The walks over the tags and over the pairs.
use Rattle.std.proofs.Common.{◌≡◌, ◌≢◌, ℕ, zero, suc, ◌+◌, ◌<◌, ◌≤◌, Bool, true, false, List, [], ◌∷◌, ◌++◌, length, Option, Result, Ok, Err, refl, sym, ap, ◌∙◌, arith}
use Rattle.std.specs.Prelude.{if◌then◌else◌}
use Rattle.std.proofs.lemmas.Bool.{eq-eqb, ne_eqb}
use Rattle.swf_tags.specs.Fields.{Front}
use Rattle.swf_tags.specs.Spelling.{end_tag}
use Rattle.swf_tags.specs.File.{Part, header_size, part_size, tag_at}
use Rattle.swf_tags.specs.Reading.{read_tags, read_pairs, next_part, with_body, after_part, ended, go_on, fails}
use Rattle.swf_tags.specs.declared.types.Seen.{Seen}
use Rattle.swf_tags.specs.declared.types.SwfReason.TheVariants as reason
use Rattle.swf_tags.specs.declared.types.Fault.{Fault}
use Rattle.swf_tags.specs.declared.types.Swf.{Swf}
use Rattle.swf_tags.specs.declared.types.Tag.{Tag}

-- the tags from here on give the whole answer, and are few enough
pub record Leads (answer : Result Swf Fault) (version place : ℕ) (tags : List Tag) (s : Seen) (rest : List ℕ) : Type 0 where
  pub most : ℕ
  pub enough : length rest ≤ most
  pub same : read_tags most version place tags s rest ≡ answer

-- so many pairs from here on give the whole answer
pub record PairsLead (answer : Option (Option (List ℕ))) (count passed : ℕ) (main : Option (List ℕ)) (rest : List ℕ) : Type 0 where
  pub left : ℕ
  pub all : passed + left ≡ count
  pub same : read_pairs left main rest ≡ answer

err_is : {A : Type 0} (r : Result A Fault) (f g : Fault) → r ≡ Err f → r ≡ Err g → f ≡ g
err_is r f g d e = cc

no-tag_left : (place : ℕ) (bytes : List ℕ) → length bytes ≤ 0 → next_part place bytes ≡ fails place reason.NoEnd
unfolding next_part
no-tag_left place [] none = refl
no-tag_left place (byte ∷ bytes) none = absurd (omega arith)

-- a tag that isn't there is the fault of the whole
pub leads_no_further : (answer : Result Swf Fault) (version place : ℕ) (tags : List Tag) (s : Seen) (rest : List ℕ) (fault : Fault) → Leads answer version place tags s rest
    → next_part place rest ≡ Err fault → answer ≡ Err fault
leads_no_further answer version place tags s rest fault w e = by w.most w.enough w.same
  where
    by : (most : ℕ) → length rest ≤ most → read_tags most version place tags s rest ≡ answer → answer ≡ Err fault
    by (suc k) enough same = sym same ∙ ap (after_part (λ at more t r. read_tags k version at more t r) version place tags s) e
    by zero enough same = sym same ∙ ap Err (err_is (next_part place rest) _ _ (no-tag_left place rest (omega arith)) e)

-- a header has bytes
pub some-header : (long : Bool) → 2 ≤ header_size long
some-header false = omega arith
some-header true = omega arith

-- what is left has a tag, so there was one more to be read
one-more : (place : ℕ) (rest : List ℕ) (part : Front Part) → next_part place rest ≡ Ok part → 0 < length rest
unfolding next_part
one-more place [] part e = cc
one-more place (byte ∷ rest) part e = omega arith

-- a tag that isn't the last leads on
pub leads_on : (answer : Result Swf Fault) (version place : ℕ) (tags : List Tag) (s t : Seen) (rest : List ℕ) (part : Front Part) → Leads answer version place tags s rest
    → next_part place rest ≡ Ok part → part.it.code ≢ end_tag → with_body place s part.it.code part.it.body ≡ Ok t → length part.rest < length rest
    → Leads answer version (place + part_size part.it) (tags ++ tag_at place part.it ∷ []) t part.rest
leads_on answer version place tags s t rest part w e other more shorter = by w.most w.enough w.same
  where
    on : ℕ → Seen → Result Swf Fault
    on k u = read_tags k version (place + part_size part.it) (tags ++ tag_at place part.it ∷ []) u part.rest

    by : (most : ℕ) → length rest ≤ most → read_tags most version place tags s rest ≡ answer → Leads answer version (place + part_size part.it) (tags ++ tag_at place part.it ∷ []) t part.rest
    by zero enough same = let some = one-more place rest part e in absurd (omega arith)
    by (suc k) enough same = record {
      most = k;
      enough = omega arith;
      same =
          sym (ap (after_part (λ at more t r. read_tags k version at more t r) version place tags s) e
          ∙ ap (λ b. if b then ended version (tags ++ tag_at place part.it ∷ []) place s.abc s.main else go_on (on k) (with_body place s part.it.code part.it.body)) (ne_eqb part.it.code end_tag other)
          ∙ ap (go_on (on k)) more)
          ∙ same;
    }

-- an End gives the whole answer
pub leads_to_end : (answer : Result Swf Fault) (version place : ℕ) (tags : List Tag) (s : Seen) (rest : List ℕ) (part : Front Part) → Leads answer version place tags s rest
    → next_part place rest ≡ Ok part → part.it.code ≡ end_tag → ended version (tags ++ tag_at place part.it ∷ []) place s.abc s.main ≡ answer
leads_to_end answer version place tags s rest part w e last = by w.most w.enough w.same
  where
    closing : Result Swf Fault
    closing = ended version (tags ++ tag_at place part.it ∷ []) place s.abc s.main

    on : ℕ → Seen → Result Swf Fault
    on k u = read_tags k version (place + part_size part.it) (tags ++ tag_at place part.it ∷ []) u part.rest

    by : (most : ℕ) → length rest ≤ most → read_tags most version place tags s rest ≡ answer → closing ≡ answer
    by zero enough same = let some = one-more place rest part e in absurd (omega arith)
    by (suc k) enough same =
        sym (ap (after_part (λ at more t r. read_tags k version at more t r) version place tags s) e
        ∙ ap (λ b. if b then closing else go_on (on k) (with_body place s part.it.code part.it.body)) (eq-eqb part.it.code end_tag last))
        ∙ same

-- what a tag can't give is the fault of the whole
pub leads_to_fault : (answer : Result Swf Fault) (version place : ℕ) (tags : List Tag) (s : Seen) (rest : List ℕ) (part : Front Part) (fault : Fault) → Leads answer version place tags s rest
    → next_part place rest ≡ Ok part → part.it.code ≢ end_tag → with_body place s part.it.code part.it.body ≡ Err fault → answer ≡ Err fault
leads_to_fault answer version place tags s rest part fault w e other bad = by w.most w.enough w.same
  where
    on : ℕ → Seen → Result Swf Fault
    on k u = read_tags k version (place + part_size part.it) (tags ++ tag_at place part.it ∷ []) u part.rest

    by : (most : ℕ) → length rest ≤ most → read_tags most version place tags s rest ≡ answer → answer ≡ Err fault
    by zero enough same = let some = one-more place rest part e in absurd (omega arith)
    by (suc k) enough same =
        sym same
        ∙ ap (after_part (λ at more t r. read_tags k version at more t r) version place tags s) e
        ∙ ap (λ b. if b then ended version (tags ++ tag_at place part.it ∷ []) place s.abc s.main else go_on (on k) (with_body place s part.it.code part.it.body)) (ne_eqb part.it.code end_tag other)
        ∙ ap (go_on (on k)) bad
