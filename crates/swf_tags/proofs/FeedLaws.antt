-- A file that is fed byte by byte is read as the whole.
use Rattle.flex_base.proofs.OptionLaws.{some_is}
use Rattle.std.proofs.Common.{◌≡◌, ◌≢◌, ℕ, suc, ◌+◌, ◌-◌, ◌<◌, Bool, true, false, List, [], ◌∷◌, ◌++◌, length, Option, Some, None, Result, Ok, Err, refl, sym, ap, subst, ◌∙◌, arith, append_assoc, length-append}
use Rattle.std.specs.Prelude.{if◌then◌else◌, ◌==◌, ◌||◌}
use Rattle.std.proofs.lemmas.Bool.{eqb-true, eqb-false}
use Rattle.std.proofs.lemmas.List.{append-nil}
use Rattle.std.proofs.lemmas.List.Sums.{fold-append}
use Rattle.swf_tags.specs.Spelling.{end_tag, do_abc, symbol_class}
use Rattle.swf_tags.specs.File.{Part, header_size, part_size, tag_at}
use Rattle.swf_tags.specs.Fields.{Front, split}
use Rattle.swf_tags.specs.Reading.{Head, behind_header, behind_signature, behind_three, content, ended, fails, fault_of, fitting, next_header, next_part, nothing, of_length, part_of, read_head, read_program, read_swf, read_symbols, read_tags, signature_fault, swf_fault, tags_behind, with_body, with_program, with_symbols}
use Rattle.swf_tags.specs.Feeding.{at_end, behind_body, behind_end, behind_letters, behind_tag, early_fault, fed, finished, in_body, in_head, in_header, is_read, kept_with, no_header, one_more, Progress, start, step, tag_of}
use Rattle.swf_tags.specs.declared.stage.Before.{Before}
use Rattle.swf_tags.specs.declared.stage.Stage.{Stage}
use Rattle.swf_tags.specs.declared.stage.Stage.TheVariants as stage
use Rattle.swf_tags.specs.declared.types.Fault.{Fault}
use Rattle.swf_tags.specs.declared.types.Header.{Header}
use Rattle.swf_tags.specs.declared.types.Seen.{Seen}
use Rattle.swf_tags.specs.declared.types.Swf.{Swf}
use Rattle.swf_tags.specs.declared.types.SwfReason.{SwfReason}
use Rattle.swf_tags.specs.declared.types.SwfReason.TheVariants as reason
use Rattle.swf_tags.specs.declared.types.Tag.{Tag}
use Rattle.swf_tags.proofs.FieldLaws.{split-gives}
use Rattle.swf_tags.proofs.StreamLaws.{behind_byte, head-bytes, head-last, head-more, header-bytes, header-last, header-more, longer_head, split-cons, split-zero}
use Rattle.swf_tags.proofs.Walks.{Leads, leads_no_further, leads_on, leads_to_end, leads_to_fault, some-header}

-- the counts of what is read agree
abbrev pub Sound : ℕ → Stage → Type 0
Sound taken (stage.Signature bytes) = (length bytes < 3) × (taken ≡ length bytes)
Sound taken (stage.Head bytes) = (behind_signature bytes ≡ None) × (taken ≡ 3 + length bytes)
Sound taken (stage.Header before bytes) = (next_header bytes ≡ None) × (taken ≡ before.place + length bytes)
Sound taken (stage.Body before h kept left) = (0 < left) × (taken + left ≡ before.place + header_size h.long + h.length)
Sound taken (stage.Ended said swf) = Unit {0}
Sound taken (stage.Failed fault) = Unit {0}

-- the tags from here on give the whole answer
record TagsGive (size : ℕ) (before : Before) (bytes : List ℕ) (answer : Result Swf Fault) : Type 0 where
  tags : Result Swf Fault
  lead : Leads tags before.version before.place before.tags before.seen bytes
  is : of_length size before.said tags ≡ answer

-- what is outside of a body gives the whole answer, with these bytes behind it
abbrev GivesOutside : ℕ → Stage → List ℕ → Result Swf Fault → Type 0
GivesOutside size (stage.Signature bytes) rest answer = content size (read_head (bytes ++ rest)) ≡ answer
GivesOutside size (stage.Head bytes) rest answer = content size (fitting (behind_signature (bytes ++ rest))) ≡ answer
GivesOutside size (stage.Header before bytes) rest answer = TagsGive size before (bytes ++ rest) answer
GivesOutside size (stage.Body before h kept left) rest answer = ⊥
GivesOutside size (stage.Ended said swf) rest answer = of_length size said (Ok swf) ≡ answer
GivesOutside size (stage.Failed fault) rest answer = Err fault ≡ answer

-- the place behind a tag
abbrev place_behind : Before → Header → ℕ
place_behind before h = before.place + header_size h.long + h.length

abbrev BodyGives : ℕ → Before → Header → List ℕ → Option (Front (List ℕ)) → Result Swf Fault → Type 0
BodyGives size before h kept None answer = fails before.place reason.TagBody ≡ answer
BodyGives size before h kept (Some f) answer = GivesOutside size (behind_body (place_behind before h) before h (kept_with h.code kept f.it)) f.rest answer

-- and so does what is inside
abbrev StageGives : ℕ → Stage → List ℕ → Result Swf Fault → Type 0
StageGives size (stage.Body before h kept left) rest answer = BodyGives size before h kept (split left rest) answer
StageGives size s rest answer = GivesOutside size s rest answer

outside-gives : (size : ℕ) (s : Stage) (rest : List ℕ) (answer : Result Swf Fault) → GivesOutside size s rest answer → StageGives size s rest answer
outside-gives size (stage.Signature bytes) rest answer g = g
outside-gives size (stage.Head bytes) rest answer g = g
outside-gives size (stage.Header before bytes) rest answer g = g
outside-gives size (stage.Body before h kept left) rest answer g = absurd g
outside-gives size (stage.Ended said swf) rest answer g = g
outside-gives size (stage.Failed fault) rest answer g = g

pub kept_with-append : (code : ℕ) (kept first second : List ℕ) → kept_with code kept (first ++ second) ≡ kept_with code (kept_with code kept first) second
kept_with-append code kept first second = by (is_read code)
  where
    by : (t : Bool) → (if t then kept ++ (first ++ second) else kept) ≡ (if t then (if t then kept ++ first else kept) ++ second else (if t then kept ++ first else kept))
    by true = sym (append_assoc kept first second)
    by false = refl

pub kept_with-none : (code : ℕ) (kept : List ℕ) → kept_with code kept [] ≡ kept
kept_with-none code kept = by (is_read code)
  where
    by : (t : Bool) → (if t then kept ++ [] else kept) ≡ kept
    by true = append-nil kept
    by false = refl

-- a tag that isn't read gives the same for each body
pub body-kept : (place : ℕ) (s : Seen) (code : ℕ) (body : List ℕ) → with_body place s code (kept_with code [] body) ≡ with_body place s code body
unfolding with_body
body-kept place s code body = by (code == do_abc) (code == symbol_class)
  where
    by : (a b : Bool)
        → (if a then with_program place s (read_program (if a || b then body else [])) else if b then with_symbols place s (read_symbols (if a || b then body else [])) else Ok s)
        ≡ (if a then with_program place s (read_program body) else if b then with_symbols place s (read_symbols body) else Ok s)
    by true b = refl
    by false true = refl
    by false false = refl

-- a whole tag leads to the stage behind it
tag-gives : (size : ℕ) (before : Before) (bytes rest : List ℕ) (h : Header) (answer : Result Swf Fault) → TagsGive size before bytes answer → next_header bytes ≡ Some (record { it = h; rest = rest })
    → BodyGives size before h [] (split h.length rest) answer
unfolding next_part behind_body
tag-gives size before [] rest h answer w e = let whole = header-bytes [] (record { it = h; rest = rest }) e in let some = some-header h.long in absurd (omega (arith, whole, some))
tag-gives size before (byte ∷ bytes) rest h answer w e = by (split h.length rest) refl
  where
    reads : (o : Option (Front (List ℕ))) → split h.length rest ≡ o → next_part before.place (byte ∷ bytes) ≡ part_of before.place h o
    reads o f = ap (behind_header before.place) e ∙ ap (part_of before.place h) f

    by : (o : Option (Front (List ℕ))) → split h.length rest ≡ o → BodyGives size before h [] o answer
    by None f =
        let fault = leads_no_further w.tags before.version before.place before.tags before.seen (byte ∷ bytes) (record { place = before.place; reason = reason.TagBody }) w.lead (reads None f) in
        ap (of_length size before.said) (sym fault) ∙ w.is
    by (Some f) g = whole (h.code == end_tag) refl
      where
        part : Front Part
        part = record { it = record { code = h.code; long = h.long; body = f.it }; rest = f.rest }

        read : next_part before.place (byte ∷ bytes) ≡ Ok part
        read = reads (Some f) g

        length_is : length f.it ≡ h.length
        length_is = (split-gives h.length rest f.it f.rest g).1

        shorter : length f.rest < length (byte ∷ bytes)
        shorter =
            let header = header-bytes (byte ∷ bytes) (record { it = h; rest = rest }) e in
            let some = some-header h.long in
            let halves = ap length (split-gives h.length rest f.it f.rest g).0 in
            let both = length-append f.it f.rest in
            omega (arith, header, some, halves, both)

        tag_is : tag_at before.place part.it ≡ tag_of before h
        tag_is = ap (λ (n : ℕ). let t : Tag = record { place = before.place; code = h.code; length = n } in t) length_is

        ends : (r : Result Swf Fault) → r ≡ w.tags → GivesOutside size (behind_end before.said r) f.rest answer
        ends (Err fault) k = ap (of_length size before.said) k ∙ w.is
        ends (Ok swf) k = ap (of_length size before.said) k ∙ w.is

        goes : h.code ≢ end_tag → (r : Result Seen Fault) → with_body before.place before.seen h.code f.it ≡ r
            → GivesOutside size (behind_tag (place_behind before h) before (before.tags ++ tag_of before h ∷ []) r) f.rest answer
        goes other (Err fault) k =
            let first = leads_to_fault w.tags before.version before.place before.tags before.seen (byte ∷ bytes) part fault w.lead read other k in
            ap (of_length size before.said) (sym first) ∙ w.is
        goes other (Ok t) k =
            let on = leads_on w.tags before.version before.place before.tags before.seen t (byte ∷ bytes) part w.lead read other k shorter in
            let at : before.place + part_size part.it ≡ place_behind before h = omega (arith, length_is) in
            record {
              tags = w.tags;
              lead = subst (λ (n : ℕ). Leads w.tags before.version n (before.tags ++ tag_of before h ∷ []) t f.rest) at
                  (subst (λ (l : Tag). Leads w.tags before.version (before.place + part_size part.it) (before.tags ++ l ∷ []) t f.rest) tag_is on);
              is = w.is;
            }

        whole : (t : Bool) → (h.code == end_tag) ≡ t
            → GivesOutside size (if t then behind_end before.said (ended before.version (before.tags ++ tag_of before h ∷ []) before.place before.seen.abc before.seen.main) else behind_tag (place_behind before h) before (before.tags ++ tag_of before h ∷ []) (with_body before.place before.seen h.code (kept_with h.code [] f.it))) f.rest answer
        whole true d =
            let closes = leads_to_end w.tags before.version before.place before.tags before.seen (byte ∷ bytes) part w.lead read (eqb-true h.code end_tag d) in
            ends (ended before.version (before.tags ++ tag_of before h ∷ []) before.place before.seen.abc before.seen.main)
            (ap (λ (l : Tag). ended before.version (before.tags ++ l ∷ []) before.place before.seen.abc before.seen.main) (sym tag_is) ∙ closes)
        whole false d =
            subst (λ (r : Result Seen Fault). GivesOutside size (behind_tag (place_behind before h) before (before.tags ++ tag_of before h ∷ []) r) f.rest answer)
            (sym (body-kept before.place before.seen h.code f.it))
            (goes (eqb-false h.code end_tag d) (with_body before.place before.seen h.code f.it) refl)

-- no bytes are a header
pub header-none : next_header [] ≡ None
header-none = by (next_header []) refl
  where
    by : (o : Option (Front Header)) → next_header [] ≡ o → o ≡ None
    by None e = refl
    by (Some h) e = let whole = header-bytes [] h e in let some = some-header h.it.long in absurd (omega (arith, whole, some))

-- what is behind a body is sound
sound-behind : (place : ℕ) (before : Before) (h : Header) (body : List ℕ) → Sound place (behind_body place before h body)
unfolding behind_body
sound-behind place before h body = by (h.code == end_tag)
  where
    tags : List Tag
    tags = before.tags ++ tag_of before h ∷ []

    ends : (r : Result Swf Fault) → Sound place (behind_end before.said r)
    ends (Err fault) = tt
    ends (Ok swf) = tt

    goes : (r : Result Seen Fault) → Sound place (behind_tag place before tags r)
    goes (Err fault) = tt
    goes (Ok t) = (header-none, omega arith)

    by : (t : Bool) → Sound place (if t then behind_end before.said (ended before.version tags before.place before.seen.abc before.seen.main) else behind_tag place before tags (with_body before.place before.seen h.code body))
    by true = ends (ended before.version tags before.place before.seen.abc before.seen.main)
    by false = goes (with_body before.place before.seen h.code body)

sound-body : (taken : ℕ) (before : Before) (h : Header) (kept : List ℕ) (left : ℕ) → taken + left ≡ place_behind before h → Sound taken (in_body taken before h kept left)
sound-body taken before h kept left e = by (left == 0) refl
  where
    by : (t : Bool) → (left == 0) ≡ t → Sound taken (if t then behind_body taken before h kept else stage.Body before h kept left)
    by true f = sound-behind taken before h kept
    by false f = let some = eqb-false left 0 f in (omega (arith, some), e)

-- one more byte keeps what is read sound
pub sound-step : (taken : ℕ) (s : Stage) (byte : ℕ) → Sound taken s → Sound (taken + 1) (step (taken + 1) s byte)
unfolding behind_signature
sound-step taken (stage.Signature []) byte w = (omega arith, omega arith)
sound-step taken (stage.Signature (first ∷ [])) byte w = (omega arith, omega arith)
sound-step taken (stage.Signature (first ∷ second ∷ [])) byte w = by (signature_fault first second byte)
  where
    by : (o : Option SwfReason) → Sound (taken + 1) (behind_letters o)
    by None = (refl, omega arith)
    by (Some why) = tt
sound-step taken (stage.Signature (first ∷ second ∷ third ∷ bytes)) byte w = absurd (omega arith)
sound-step taken (stage.Head bytes) byte w = by (behind_signature (bytes ++ byte ∷ [])) refl
  where
    by : (o : Option Head) → behind_signature (bytes ++ byte ∷ []) ≡ o → Sound (taken + 1) (in_head (bytes ++ byte ∷ []) o)
    by None e = let size = length-append bytes (byte ∷ []) in (e, omega arith)
    by (Some head) e =
        let size = length-append bytes (byte ∷ []) in
        let last = ap length (head-last bytes byte head w.0 e) in
        let whole = head-bytes (bytes ++ byte ∷ []) head e in
        (header-none, omega (arith, size, last, whole))
sound-step taken (stage.Header before bytes) byte w = by (next_header (bytes ++ byte ∷ [])) refl
  where
    by : (o : Option (Front Header)) → next_header (bytes ++ byte ∷ []) ≡ o → Sound (taken + 1) (in_header (taken + 1) before (bytes ++ byte ∷ []) o)
    by None e = let size = length-append bytes (byte ∷ []) in (e, omega arith)
    by (Some h) e =
        let size = length-append bytes (byte ∷ []) in
        let last = ap length (header-last bytes byte h w.0 e) in
        let whole = header-bytes (bytes ++ byte ∷ []) h e in
        sound-body (taken + 1) before h.it [] h.it.length (omega (arith, size, last, whole))
sound-step taken (stage.Body before h kept left) byte w = sound-body (taken + 1) before h (kept_with h.code kept (byte ∷ [])) (left - 1) (omega arith)
sound-step taken (stage.Ended said swf) byte w = tt
sound-step taken (stage.Failed fault) byte w = tt

-- what gives the answer with some bytes behind it gives it after the first of them
body-gives : (size taken : ℕ) (before : Before) (h : Header) (kept : List ℕ) (left : ℕ) (rest : List ℕ) (answer : Result Swf Fault) → taken + left ≡ place_behind before h
    → BodyGives size before h kept (split left rest) answer → StageGives size (in_body taken before h kept left) rest answer
body-gives size taken before h kept left rest answer e w = by (left == 0) refl
  where
    by : (t : Bool) → (left == 0) ≡ t → StageGives size (if t then behind_body taken before h kept else stage.Body before h kept left) rest answer
    by false f = w
    by true f =
        let none : left ≡ 0 = eqb-true left 0 f in
        let read : split left rest ≡ Some (record { it = []; rest = rest }) = ap (λ (n : ℕ). split n rest) none ∙ split-zero rest in
        let behind = subst (λ (o : Option (Front (List ℕ))). BodyGives size before h kept o answer) read w in
        let at : place_behind before h ≡ taken = omega (arith, e, none) in
        outside-gives size (behind_body taken before h kept) rest answer
        (subst (λ (n : ℕ). GivesOutside size (behind_body n before h kept) rest answer) at
        (subst (λ (l : List ℕ). GivesOutside size (behind_body (place_behind before h) before h l) rest answer) (kept_with-none h.code kept) behind))

step-gives : (size taken : ℕ) (s : Stage) (byte : ℕ) (rest : List ℕ) (answer : Result Swf Fault) → Sound taken s → StageGives size s (byte ∷ rest) answer → StageGives size (step (taken + 1) s byte) rest answer
unfolding read_head
step-gives size taken (stage.Signature []) byte rest answer w g = g
step-gives size taken (stage.Signature (first ∷ [])) byte rest answer w g = g
step-gives size taken (stage.Signature (first ∷ second ∷ [])) byte rest answer w g = by (signature_fault first second byte) g
  where
    by : (o : Option SwfReason) → content size (behind_three o rest) ≡ answer → StageGives size (behind_letters o) rest answer
    by None f = f
    by (Some why) f = f
step-gives size taken (stage.Signature (first ∷ second ∷ third ∷ bytes)) byte rest answer w g = absurd (omega arith)
step-gives size taken (stage.Head bytes) byte rest answer w g = by (behind_signature (bytes ++ byte ∷ [])) refl
  where
    same : (bytes ++ byte ∷ []) ++ rest ≡ bytes ++ byte ∷ rest
    same = append_assoc bytes (byte ∷ []) rest

    by : (o : Option Head) → behind_signature (bytes ++ byte ∷ []) ≡ o → StageGives size (in_head (bytes ++ byte ∷ []) o) rest answer
    by None e = ap (λ l. content size (fitting (behind_signature l))) same ∙ g
    by (Some head) e =
        let read : behind_signature (bytes ++ byte ∷ rest) ≡ Some (longer_head head rest) = ap behind_signature (sym same) ∙ head-more (bytes ++ byte ∷ []) rest head e in
        let last = head-last bytes byte head w.0 e in
        let whole : of_length size head.length (tags_behind (record { version = head.version; length = head.length; start = head.start; rest = rest })) ≡ answer =
        ap (λ l. of_length size head.length (tags_behind (record { version = head.version; length = head.length; start = head.start; rest = l }))) (sym (ap (λ l. l ++ rest) last))
        ∙ ap (λ o. content size (fitting o)) (sym read) ∙ g in
        record { tags = read_tags (length rest) head.version head.start [] nothing rest; lead = record { most = length rest; enough = omega arith; same = refl }; is = whole }
step-gives size taken (stage.Header before bytes) byte rest answer w g = by (next_header (bytes ++ byte ∷ [])) refl
  where
    same : (bytes ++ byte ∷ []) ++ rest ≡ bytes ++ byte ∷ rest
    same = append_assoc bytes (byte ∷ []) rest

    by : (o : Option (Front Header)) → next_header (bytes ++ byte ∷ []) ≡ o → StageGives size (in_header (taken + 1) before (bytes ++ byte ∷ []) o) rest answer
    by None e = subst (λ l. TagsGive size before l answer) (sym same) g
    by (Some h) e =
        let last = header-last bytes byte h w.0 e in
        let read : next_header (bytes ++ byte ∷ rest) ≡ Some (record { it = h.it; rest = rest }) =
        ap next_header (sym same) ∙ header-more (bytes ++ byte ∷ []) rest h e ∙ ap (λ l. Some (record { it = h.it; rest = l ++ rest })) last in
        let size_is = length-append bytes (byte ∷ []) in
        let none = ap length last in
        let whole = header-bytes (bytes ++ byte ∷ []) h e in
        body-gives size (taken + 1) before h.it [] h.it.length rest answer (omega (arith, size_is, none, whole)) (tag-gives size before (bytes ++ byte ∷ rest) rest h.it answer g read)
step-gives size taken (stage.Body before h kept left) byte rest answer w g = body-gives size (taken + 1) before h (kept_with h.code kept (byte ∷ [])) (left - 1) rest answer (omega arith) shorter
  where
    one : left ≡ suc (left - 1)
    one = omega arith

    by : (o : Option (Front (List ℕ))) → BodyGives size before h kept (behind_byte byte o) answer → BodyGives size before h (kept_with h.code kept (byte ∷ [])) o answer
    by None f = f
    by (Some found) f = subst (λ (l : List ℕ). GivesOutside size (behind_body (place_behind before h) before h l) found.rest answer) (kept_with-append h.code kept (byte ∷ []) found.it) f

    shorter : BodyGives size before h (kept_with h.code kept (byte ∷ [])) (split (left - 1) rest) answer
    shorter = by (split (left - 1) rest) (subst (λ (o : Option (Front (List ℕ))). BodyGives size before h kept o answer) (ap (λ (n : ℕ). split n (byte ∷ rest)) one ∙ split-cons (left - 1) byte rest) g)
step-gives size taken (stage.Ended said swf) byte rest answer w g = g
step-gives size taken (stage.Failed fault) byte rest answer w g = g

no-header : (place : ℕ) (bytes : List ℕ) → next_header bytes ≡ None → next_part place bytes ≡ no_header {A = Front Part} place bytes
unfolding next_part
no-header place [] e = refl
no-header place (byte ∷ bytes) e = ap (behind_header place) e

-- where the bytes end
end-gives : (size taken : ℕ) (s : Stage) (answer : Result Swf Fault) → Sound taken s → StageGives size s [] answer → at_end size s ≡ answer
unfolding read_head
end-gives size taken (stage.Signature []) answer w g = g
end-gives size taken (stage.Signature (first ∷ [])) answer w g = g
end-gives size taken (stage.Signature (first ∷ second ∷ [])) answer w g = g
end-gives size taken (stage.Signature (first ∷ second ∷ third ∷ bytes)) answer w g = absurd (omega arith)
end-gives size taken (stage.Head bytes) answer w g = ap (λ o. content size (fitting o)) (sym (ap behind_signature (append-nil bytes) ∙ w.0)) ∙ g
end-gives size taken (stage.Header before bytes) answer w g = by bytes w.0 (subst (λ l. TagsGive size before l answer) (append-nil bytes) g)
  where
    fault : (l : List ℕ) (f : Fault) → next_part before.place l ≡ Err f → TagsGive size before l answer → Err f ≡ answer
    fault l f e v = ap (of_length size before.said) (sym (leads_no_further v.tags before.version before.place before.tags before.seen l f v.lead e)) ∙ v.is

    by : (l : List ℕ) → next_header l ≡ None → TagsGive size before l answer → no_header before.place l ≡ answer
    by [] e v = fault [] (record { place = before.place; reason = reason.NoEnd }) (no-header before.place [] e) v
    by (byte ∷ l) e v = fault (byte ∷ l) (record { place = before.place; reason = reason.TagHeader }) (no-header before.place (byte ∷ l) e) v
end-gives size taken (stage.Body before h kept left) answer w g = by (split left []) refl g
  where
    by : (o : Option (Front (List ℕ))) → split left [] ≡ o → BodyGives size before h kept o answer → fails before.place reason.TagBody ≡ answer
    by None e f = f
    by (Some found) e f =
        let parts = split-gives left [] found.it found.rest e in
        let whole = ap length parts.0 in
        let both = length-append found.it found.rest in
        absurd (omega (arith, whole, both, parts.1))
end-gives size taken (stage.Ended said swf) answer w g = g
end-gives size taken (stage.Failed fault) answer w g = g

-- so many bytes were taken
pub fed-taken : (bytes : List ℕ) (progress : Progress) → (fed progress bytes).taken ≡ progress.taken + length bytes
fed-taken [] progress = omega arith
fed-taken (byte ∷ bytes) progress = fed-taken bytes (one_more progress byte) ∙ omega arith

pub fed-sound : (bytes : List ℕ) (progress : Progress) → Sound progress.taken progress.stage → Sound (fed progress bytes).taken (fed progress bytes).stage
fed-sound [] progress w = w
fed-sound (byte ∷ bytes) progress w = fed-sound bytes (one_more progress byte) (sound-step progress.taken progress.stage byte w)

fed-gives : (size : ℕ) (bytes : List ℕ) (progress : Progress) (answer : Result Swf Fault) → Sound progress.taken progress.stage → StageGives size progress.stage bytes answer
    → StageGives size (fed progress bytes).stage [] answer
fed-gives size [] progress answer w g = g
fed-gives size (byte ∷ bytes) progress answer w g =
    fed-gives size bytes (one_more progress byte) answer (sound-step progress.taken progress.stage byte w) (step-gives size progress.taken progress.stage byte bytes answer w g)

-- nothing is read at the start
pub start-sound : Sound 0 (stage.Signature [])
start-sound = (omega arith, refl)

-- what was fed and ends here is read as the whole
pub fed-whole : (bytes : List ℕ) → finished (fed start bytes) ≡ read_swf bytes
unfolding read_swf
fed-whole bytes =
    ap (λ (n : ℕ). at_end n (fed start bytes).stage) (fed-taken bytes start ∙ omega arith)
    ∙ end-gives (length bytes) (fed start bytes).taken (fed start bytes).stage (read_swf bytes) (fed-sound bytes start start-sound) (fed-gives (length bytes) bytes start (read_swf bytes) start-sound refl)

-- pieces one after another
pub fed-append : (progress : Progress) (first second : List ℕ) → fed progress (first ++ second) ≡ fed (fed progress first) second
fed-append progress first second = fold-append one_more progress first second

-- a fault stays
pub fed-failed : (bytes : List ℕ) (progress : Progress) (fault : Fault) → progress.stage ≡ stage.Failed fault → (fed progress bytes).stage ≡ stage.Failed fault
fed-failed [] progress fault e = e
fed-failed (byte ∷ bytes) progress fault e = fed-failed bytes (one_more progress byte) fault (ap (λ s. step (progress.taken + 1) s byte) e)

-- the early fault is the first fault of each file that begins so
pub early_fault-stays : (bytes more : List ℕ) (fault : Fault) → early_fault (fed start bytes).stage ≡ Some fault → swf_fault (bytes ++ more) ≡ Some fault
early_fault-stays bytes more fault e =
    let here = by (fed start bytes).stage e in
    let later : (fed start (bytes ++ more)).stage ≡ stage.Failed fault = ap (λ p. p.stage) (fed-append start bytes more) ∙ fed-failed more (fed start bytes) fault here in
    ap fault_of (sym (fed-whole (bytes ++ more))) ∙ ap (λ s. fault_of (at_end (fed start (bytes ++ more)).taken s)) later
  where
    by : (s : Stage) → early_fault s ≡ Some fault → s ≡ stage.Failed fault
    by (stage.Signature bytes) e = cc
    by (stage.Head bytes) e = cc
    by (stage.Header before bytes) e = cc
    by (stage.Body before h kept left) e = cc
    by (stage.Ended said swf) e = cc
    by (stage.Failed found) e = ap stage.Failed (some_is _ _ e)
