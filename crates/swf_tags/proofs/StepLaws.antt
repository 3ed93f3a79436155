-- What some bytes of a piece do at once.
use Rattle.flex_base.proofs.OptionLaws.{some_is}
use Rattle.std.proofs.Common.{◌≡◌, ℕ, ◌+◌, ◌-◌, ◌<◌, ◌≤◌, Bool, true, false, List, [], ◌∷◌, ◌++◌, length, take, drop, min, Option, Some, None, Result, Ok, Err, ◌≢◌, refl, sym, ap, subst, ◌∙◌, arith, append_assoc, length-append, length-drop}
use Rattle.std.specs.Prelude.{if◌then◌else◌, ◌==◌}
use Rattle.std.proofs.lemmas.List.{append-nil, take-append-drop, length-take-le}
use Rattle.std.proofs.Math.Seq.{take-append_seam}
use Rattle.std.proofs.lemmas.Bool.{eq-eqb, eqb-false, ne_eqb}
use Rattle.swf_tags.specs.Spelling.{end_tag}
use Rattle.swf_tags.specs.Fields.{Front, split}
use Rattle.swf_tags.specs.Reading.{Head, Refuses, behind_signature, ended, next_header, read_swf, signature_fault}
use Rattle.swf_tags.specs.Feeding.{AwaitsByte, Fails, IsStep, Progress, at_end, behind_body, behind_end, behind_letters, behind_tag, early_fault, fed, in_body, in_head, in_header, in_signature, kept_with, one_more, start, step, tag_of}
use Rattle.swf_tags.specs.Push.{FeedsFrom, FeedsTo, Push}
use Rattle.swf_tags.specs.declared.stage.Before.{Before}
use Rattle.swf_tags.specs.declared.stage.Stage.{Stage}
use Rattle.swf_tags.specs.declared.stage.Stage.TheVariants as stage
use Rattle.swf_tags.specs.declared.types.Fault.{Fault}
use Rattle.swf_tags.specs.declared.types.Header.{Header}
use Rattle.swf_tags.specs.declared.types.Seen.{Seen}
use Rattle.swf_tags.specs.declared.types.Swf.{Swf}
use Rattle.swf_tags.specs.declared.types.SwfReason.{SwfReason}
use Rattle.swf_tags.specs.declared.types.SwfRefusal.{SwfRefusal}
use Rattle.swf_tags.specs.declared.types.SwfRefusal.TheVariants as refusal
use Rattle.swf_tags.specs.declared.types.Tag.{Tag}
use Rattle.swf_tags.proofs.FeedLaws.{body-kept, fed-append, fed-failed, fed-taken, fed-whole, header-none, kept_with-append, kept_with-none}
use Rattle.swf_tags.proofs.FieldLaws.{split-gives}
use Rattle.swf_tags.proofs.StreamLaws.{header-bytes, header-last, header-more}
use Rattle.swf_tags.proofs.Walks.{some-header}

-- the fault that some of the bytes lead to is that of all
fails-longer : (progress : Progress) (count : ℕ) (rest : List ℕ) (why : SwfRefusal) → Fails (fed progress (take count rest)).stage why → Fails (fed progress rest).stage why
fails-longer progress count rest (refusal.BadSwf place reason) f =
    ap (λ l. (fed progress l).stage) (sym (take-append-drop count rest))
    ∙ ap (λ p. p.stage) (fed-append progress (take count rest) (drop count rest))
    ∙ fed-failed (drop count rest) (fed progress (take count rest)) (record { place = place; reason = reason }) f
fails-longer progress count rest refusal.NoMemory f = tt

pub signature-fails : (taken : ℕ) (s : Stage) (bytes more rest : List ℕ) (why : SwfRefusal) → s ≡ stage.Signature bytes → more ≡ bytes ++ take 1 rest → 0 < length rest
    → Fails (in_signature more) why → Fails (fed (record { taken = taken; stage = s }) rest).stage why
signature-fails taken s bytes more [] why is longer some f = absurd (omega arith)
signature-fails taken s bytes more (byte ∷ rest) why is longer some f =
    fails-longer (record { taken = taken; stage = s }) 1 (byte ∷ rest) why
    (subst (λ t. Fails (step (taken + 1) t byte) why) (sym is) (subst (λ l. Fails (in_signature l) why) longer f))

pub header-fails : (taken place : ℕ) (s : Stage) (before : Before) (bytes more rest : List ℕ) (why : SwfRefusal) → s ≡ stage.Header before bytes → more ≡ bytes ++ take 1 rest → 0 < length rest → place ≡ taken + 1
    → Fails (in_header place before more (next_header more)) why → Fails (fed (record { taken = taken; stage = s }) rest).stage why
header-fails taken place s before bytes more [] why is longer some at f = absurd (omega arith)
header-fails taken place s before bytes more (byte ∷ rest) why is longer some at f =
    fails-longer (record { taken = taken; stage = s }) 1 (byte ∷ rest) why
    (subst (λ t. Fails (step (taken + 1) t byte) why) (sym is)
    (subst (λ l. Fails (in_header (taken + 1) before l (next_header l)) why) longer (subst (λ (n : ℕ). Fails (in_header n before more (next_header more)) why) at f)))

-- bytes of a body, of which there are no more than are still to come
body-many : (bytes : List ℕ) (taken : ℕ) (before : Before) (h : Header) (kept : List ℕ) (left : ℕ) → 0 < length bytes → length bytes ≤ left
    → (fed (record { taken = taken; stage = stage.Body before h kept left }) bytes).stage ≡ in_body (taken + length bytes) before h (kept_with h.code kept bytes) (left - length bytes)
body-many [] taken before h kept left some within = absurd (omega arith)
body-many (byte ∷ []) taken before h kept left some within = refl
body-many (byte ∷ next ∷ bytes) taken before h kept left some within =
    ap (λ (s : Stage). (fed (record { taken = taken + 1; stage = s }) (next ∷ bytes)).stage) here
    ∙ body-many (next ∷ bytes) (taken + 1) before h (kept_with h.code kept (byte ∷ [])) (left - 1) (omega arith) (omega arith)
    ∙ ap (λ (n : ℕ). in_body n before h (kept_with h.code (kept_with h.code kept (byte ∷ [])) (next ∷ bytes)) (left - 1 - length (next ∷ bytes))) at
    ∙ ap (λ (n : ℕ). in_body (taken + length (byte ∷ next ∷ bytes)) before h (kept_with h.code (kept_with h.code kept (byte ∷ [])) (next ∷ bytes)) n) less
    ∙ ap (λ (l : List ℕ). in_body (taken + length (byte ∷ next ∷ bytes)) before h l (left - length (byte ∷ next ∷ bytes))) (sym (kept_with-append h.code kept (byte ∷ []) (next ∷ bytes)))
  where
    at : taken + 1 + length (next ∷ bytes) ≡ taken + length (byte ∷ next ∷ bytes)
    at = omega arith

    less : left - 1 - length (next ∷ bytes) ≡ left - length (byte ∷ next ∷ bytes)
    less = omega arith

    more : left - 1 ≢ 0
    more = λ e. absurd (omega arith)

    here : in_body (taken + 1) before h (kept_with h.code kept (byte ∷ [])) (left - 1) ≡ stage.Body before h (kept_with h.code kept (byte ∷ [])) (left - 1)
    here = ap (λ t. if t then behind_body (taken + 1) before h (kept_with h.code kept (byte ∷ [])) else stage.Body before h (kept_with h.code kept (byte ∷ [])) (left - 1)) (ne_eqb (left - 1) 0 more)

-- what a part of a body does: so many bytes, of which there are no more than are still to come
pub record PassesOver (taken place : ℕ) (s : Stage) (before : Before) (h : Header) (kept more : List ℕ) (left less count : ℕ) (rest : List ℕ) : Type 0 where
  pub is : s ≡ stage.Body before h kept left
  pub longer : more ≡ kept_with h.code kept (take count rest)
  pub some : 0 < count
  pub in_left : count ≤ left
  pub in_rest : count ≤ length rest
  pub at : place ≡ taken + count
  pub fewer : less ≡ left - count

-- as many as there are, and as are still to come
pub passes-over : (taken : ℕ) (s : Stage) (before : Before) (h : Header) (kept more : List ℕ) (left count : ℕ) (rest : List ℕ) → s ≡ stage.Body before h kept left → AwaitsByte s → 0 < length rest
    → count ≡ min (length rest) left → more ≡ kept_with h.code kept (take count rest) → PassesOver taken (taken + count) s before h kept more left (left - count) count rest
passes-over taken s before h kept more left count rest is awaits some least longer =
    let positive : 0 < left = subst AwaitsByte is awaits in
    record { is = is; longer = longer; some = omega arith; in_left = omega arith; in_rest = omega arith; at = refl; fewer = refl }

pub body-part : (taken place : ℕ) (s : Stage) (before : Before) (h : Header) (kept more : List ℕ) (left less count : ℕ) (rest : List ℕ) → PassesOver taken place s before h kept more left less count rest
    → (fed (record { taken = taken; stage = s }) (take count rest)).stage ≡ in_body place before h more less
body-part taken place s before h kept more left less count rest w =
    let size : length (take count rest) ≡ count = length-take-le count rest w.in_rest in
    let some = w.some in
    let in_left = w.in_left in
    ap (λ t. (fed (record { taken = taken; stage = t }) (take count rest)).stage) w.is
    ∙ body-many (take count rest) taken before h kept left (omega (arith, size)) (omega (arith, size))
    ∙ ap (λ (l : List ℕ). in_body (taken + length (take count rest)) before h l (left - length (take count rest))) (sym w.longer)
    ∙ ap (λ (n : ℕ). in_body (taken + n) before h more (left - n)) size
    ∙ ap (λ (n : ℕ). in_body n before h more (left - count)) (sym w.at)
    ∙ ap (in_body place before h more) (sym w.fewer)

pub body-fails : (taken place : ℕ) (s : Stage) (before : Before) (h : Header) (kept more : List ℕ) (left less count : ℕ) (rest : List ℕ) (why : SwfRefusal)
    → PassesOver taken place s before h kept more left less count rest → Fails (in_body place before h more less) why → Fails (fed (record { taken = taken; stage = s }) rest).stage why
body-fails taken place s before h kept more left less count rest why w f =
    fails-longer (record { taken = taken; stage = s }) count rest why
    (subst (λ t. Fails t why) (sym (body-part taken place s before h kept more left less count rest w)) f)

-- what follows the End is passed over
pub fed-ended : (bytes : List ℕ) (progress : Progress) (said : ℕ) (swf : Swf) → progress.stage ≡ stage.Ended said swf → (fed progress bytes).stage ≡ stage.Ended said swf
fed-ended [] progress said swf e = e
fed-ended (byte ∷ bytes) progress said swf e = fed-ended bytes (one_more progress byte) said swf (ap (λ s. step (progress.taken + 1) s byte) e)

-- one step, and then the others
pub fed-step : (taken count : ℕ) (s reached : Stage) (rest : List ℕ) → count ≤ length rest → reached ≡ (fed (record { taken = taken; stage = s }) (take count rest)).stage
    → fed (record { taken = taken; stage = s }) rest ≡ fed (record { taken = taken + count; stage = reached }) (drop count rest)
fed-step taken count s reached rest within e =
    let p : Progress = record { taken = taken; stage = s } in
    let size : length (take count rest) ≡ count = length-take-le count rest within in
    let at : (fed p (take count rest)).taken ≡ taken + count = fed-taken (take count rest) p ∙ ap (λ (n : ℕ). taken + n) size in
    ap (fed p) (sym (take-append-drop count rest))
    ∙ fed-append p (take count rest) (drop count rest)
    ∙ ap (λ (n : ℕ). fed (record { taken = n; stage = (fed p (take count rest)).stage }) (drop count rest)) at
    ∙ ap (λ (t : Stage). fed (record { taken = taken + count; stage = t }) (drop count rest)) (sym e)

awaits-body : (place : ℕ) (before : Before) (h : Header) (kept : List ℕ) (left : ℕ) → AwaitsByte (in_body place before h kept left)
unfolding behind_body
awaits-body place before h kept left = by (left == 0) refl
  where
    ends : (r : Result Swf Fault) → AwaitsByte (behind_end before.said r)
    ends (Err fault) = tt
    ends (Ok swf) = tt

    goes : (tags : List Tag) (r : Result Seen Fault) → AwaitsByte (behind_tag place before tags r)
    goes tags (Err fault) = tt
    goes tags (Ok t) = tt

    behind : (t : Bool) (tags : List Tag) (r : Result Swf Fault) (q : Result Seen Fault) → AwaitsByte (if t then behind_end before.said r else behind_tag place before tags q)
    behind true tags r q = ends r
    behind false tags r q = goes tags q

    by : (t : Bool) → (left == 0) ≡ t → AwaitsByte (if t then behind_body place before h kept else stage.Body before h kept left)
    by true e = behind (h.code == end_tag) _ _ _
    by false e = let some = eqb-false left 0 e in omega (arith, some)

awaits-step : (taken : ℕ) (s : Stage) (byte : ℕ) → AwaitsByte (step taken s byte)
awaits-step taken (stage.Signature bytes) byte = by (bytes ++ byte ∷ [])
  where
    letters : (o : Option SwfReason) → AwaitsByte (behind_letters o)
    letters None = tt
    letters (Some why) = tt

    by : (l : List ℕ) → AwaitsByte (in_signature l)
    by [] = tt
    by (first ∷ []) = tt
    by (first ∷ second ∷ []) = tt
    by (first ∷ second ∷ third ∷ []) = letters (signature_fault first second third)
    by (first ∷ second ∷ third ∷ fourth ∷ l) = tt
awaits-step taken (stage.Head bytes) byte = by (behind_signature (bytes ++ byte ∷ []))
  where
    by : (o : Option Head) → AwaitsByte (in_head (bytes ++ byte ∷ []) o)
    by None = tt
    by (Some head) = tt
awaits-step taken (stage.Header before bytes) byte = by (next_header (bytes ++ byte ∷ []))
  where
    by : (o : Option (Front Header)) → AwaitsByte (in_header taken before (bytes ++ byte ∷ []) o)
    by None = tt
    by (Some h) = awaits-body taken before h.it [] h.it.length
awaits-step taken (stage.Body before h kept left) byte = awaits-body taken before h (kept_with h.code kept (byte ∷ [])) (left - 1)
awaits-step taken (stage.Ended said swf) byte = tt
awaits-step taken (stage.Failed fault) byte = tt

-- a body that is being read has a byte to come, whatever is fed
pub awaits-fed : (bytes : List ℕ) (progress : Progress) → AwaitsByte progress.stage → AwaitsByte (fed progress bytes).stage
awaits-fed [] progress w = w
awaits-fed (byte ∷ bytes) progress w = awaits-fed bytes (one_more progress byte) (awaits-step (progress.taken + 1) progress.stage byte)

-- after one step, the bytes that are left lead to the same
pub record LeadsOn (end : ℕ) (progress : Progress) (s : Stage) (rest : List ℕ) : Type 0 where
  pub same : progress ≡ fed (record { taken = end - length rest; stage = s }) rest
  pub within : length rest ≤ end
  pub awaits : AwaitsByte s

pub step-leads : (end count : ℕ) (progress : Progress) (s reached : Stage) (rest next : List ℕ) → LeadsOn end progress s rest → IsStep (record { taken = end - length rest; stage = s }) rest reached count → next ≡ drop count rest
    → LeadsOn end progress reached next
step-leads end count progress s reached rest next w step is =
    let within = step.within in
    let fits = w.within in
    let size : length next ≡ length rest - count = ap length is ∙ length-drop count rest in
    let at : end - length rest + count ≡ end - length next = omega arith in
    record {
      same =
          w.same
          ∙ fed-step (end - length rest) count s reached rest within step.is
          ∙ ap (λ (n : ℕ). fed (record { taken = n; stage = reached }) (drop count rest)) at
          ∙ ap (λ (l : List ℕ). fed (record { taken = end - length next; stage = reached }) l) (sym is);
      within = omega arith;
      awaits = subst AwaitsByte (sym step.is) (awaits-fed (take count rest) (record { taken = end - length rest; stage = s }) w.awaits);
    }

-- what the whole leads to is what it is read as
pub whole-at_end : (taken : ℕ) (begun reached : Stage) (bytes : List ℕ) → taken ≡ 0 → begun ≡ stage.Signature [] → reached ≡ (fed (record { taken = taken; stage = begun }) bytes).stage
    → at_end (length bytes) reached ≡ read_swf bytes
whole-at_end taken begun reached bytes none is reach =
    ap (at_end (length bytes)) (reach ∙ ap (λ (n : ℕ). (fed (record { taken = n; stage = begun }) bytes).stage) none ∙ ap (λ (s : Stage). (fed (record { taken = 0; stage = s }) bytes).stage) is)
    ∙ ap (λ (n : ℕ). at_end n (fed start bytes).stage) (sym (fed-taken bytes start ∙ omega arith))
    ∙ fed-whole bytes

pub whole-fails : (taken : ℕ) (begun : Stage) (bytes : List ℕ) (why : SwfRefusal) → taken ≡ 0 → begun ≡ stage.Signature [] → Fails (fed (record { taken = taken; stage = begun }) bytes).stage why
    → Refuses (read_swf bytes) why
whole-fails taken begun bytes (refusal.BadSwf place reason) none is f = sym (whole-at_end taken begun (stage.Failed (record { place = place; reason = reason })) bytes none is (sym f))
whole-fails taken begun bytes refusal.NoMemory none is f = tt

-- a piece that is taken
pub feeds-taken : (taken before end : ℕ) (s reached : Stage) (piece : List ℕ) → before ≡ taken → end ≡ taken + length piece
    → (reached ≡ (fed (record { taken = before; stage = s }) piece).stage) × (early_fault reached ≡ None) → FeedsTo taken (fed (record { taken = taken; stage = s }) piece) (Ok tt) (record { taken = end; stage = Some reached })
feeds-taken taken before end s reached piece same at reach =
    let is : reached ≡ (fed (record { taken = taken; stage = s }) piece).stage = reach.0 ∙ ap (λ (n : ℕ). (fed (record { taken = n; stage = s }) piece).stage) same in
    let count : end ≡ (fed (record { taken = taken; stage = s }) piece).taken = at ∙ sym (fed-taken piece (record { taken = taken; stage = s })) in
    (ap early_fault (sym is) ∙ reach.1, ap (λ (n : ℕ). let p : Push = record { taken = n; stage = Some reached } in p) count ∙ ap (λ (t : Stage). let p : Push = record { taken = (fed (record { taken = taken; stage = s }) piece).taken; stage = Some t } in p) is)

-- the first bytes that are a header
record HeaderStands (before behind : List ℕ) (h : Header) (bytes : List ℕ) : Type 0 where
  front : List ℕ
  is : bytes ≡ front ++ behind
  read : next_header (before ++ front) ≡ Some (record { it = h; rest = [] })

header-stands : (bytes before behind : List ℕ) (h : Header) → next_header before ≡ None → next_header (before ++ bytes) ≡ Some (record { it = h; rest = behind }) → HeaderStands before behind h bytes
header-stands [] before behind h none e = let same = ap next_header (append-nil before) in cc
header-stands (byte ∷ bytes) before behind h none e = by (λ f. header-stands bytes (before ++ byte ∷ []) behind h f (ap next_header same ∙ e)) (next_header (before ++ byte ∷ [])) refl
  where
    same : (before ++ byte ∷ []) ++ bytes ≡ before ++ byte ∷ bytes
    same = append_assoc before (byte ∷ []) bytes

    by : (next_header (before ++ byte ∷ []) ≡ None → HeaderStands (before ++ byte ∷ []) behind h bytes) → (o : Option (Front Header)) → next_header (before ++ byte ∷ []) ≡ o
        → HeaderStands before behind h (byte ∷ bytes)
    by inner None f =
        let more = inner f in
        record { front = byte ∷ more.front; is = ap (λ l. byte ∷ l) more.is; read = ap next_header (sym (append_assoc before (byte ∷ []) more.front)) ∙ more.read }
    by inner (Some found) f =
        let last = header-last before byte found none f in
        let longer = header-more (before ++ byte ∷ []) bytes found f in
        let both : record { it = found.it; rest = found.rest ++ bytes } ≡ record { it = h; rest = behind } = some_is _ _ (sym longer ∙ ap next_header same ∙ e) in
        let it : found.it ≡ h = ap (λ (k : Front Header). k.it) both in
        let rest : bytes ≡ behind = ap (λ l. l ++ bytes) (sym last) ∙ ap (λ (k : Front Header). k.rest) both in
        record {
          front = byte ∷ [];
          is = ap (λ l. byte ∷ l) rest;
          read = f ∙ ap (λ (k : Header). Some (record { it = k; rest = found.rest })) it ∙ ap (λ l. Some (record { it = h; rest = l })) last;
        }

-- the place behind the last byte
last-place : (taken byte : ℕ) (bytes : List ℕ) → bytes ≡ [] → taken + 1 ≡ taken + length (byte ∷ bytes)
last-place taken byte bytes e = let none : length bytes ≡ 0 = ap length e in omega (arith, none)

-- bytes that are a header, one after another
fed-header : (bytes before : List ℕ) (taken : ℕ) (b : Before) (h : Header) → next_header before ≡ None → next_header (before ++ bytes) ≡ Some (record { it = h; rest = [] })
    → fed (record { taken = taken; stage = stage.Header b before }) bytes ≡ record { taken = taken + length bytes; stage = in_body (taken + length bytes) b h [] h.length }
fed-header [] before taken b h none e = let same = ap next_header (append-nil before) in cc
fed-header (byte ∷ bytes) before taken b h none e = by (λ f. fed-header bytes (before ++ byte ∷ []) (taken + 1) b h f (ap next_header same ∙ e)) (next_header (before ++ byte ∷ [])) refl
  where
    same : (before ++ byte ∷ []) ++ bytes ≡ before ++ byte ∷ bytes
    same = append_assoc before (byte ∷ []) bytes

    by : (next_header (before ++ byte ∷ []) ≡ None → fed (record { taken = taken + 1; stage = stage.Header b (before ++ byte ∷ []) }) bytes ≡ record { taken = taken + 1 + length bytes; stage = in_body (taken + 1 + length bytes) b h [] h.length })
        → (o : Option (Front Header)) → next_header (before ++ byte ∷ []) ≡ o → fed (record { taken = taken + 1; stage = in_header (taken + 1) b (before ++ byte ∷ []) o }) bytes ≡ record { taken = taken + length (byte ∷ bytes); stage = in_body (taken + length (byte ∷ bytes)) b h [] h.length }
    by inner None f =
        let at : taken + 1 + length bytes ≡ taken + length (byte ∷ bytes) = omega arith in
        inner f ∙ ap (λ (n : ℕ). let p : Progress = record { taken = n; stage = in_body n b h [] h.length } in p) at
    by inner (Some found) f =
        let last = header-last before byte found none f in
        let longer = header-more (before ++ byte ∷ []) bytes found f in
        let both : record { it = found.it; rest = found.rest ++ bytes } ≡ record { it = h; rest = [] } = some_is _ _ (sym longer ∙ ap next_header same ∙ e) in
        let it : found.it ≡ h = ap (λ (k : Front Header). k.it) both in
        let rest : bytes ≡ [] = ap (λ l. l ++ bytes) (sym last) ∙ ap (λ (k : Front Header). k.rest) both in
        let at = last-place taken byte bytes rest in
        ap (fed (record { taken = taken + 1; stage = in_body (taken + 1) b found.it [] found.it.length })) rest
        ∙ ap (λ (k : Header). let p : Progress = record { taken = taken + 1; stage = in_body (taken + 1) b k [] k.length } in p) it
        ∙ ap (λ (n : ℕ). let p : Progress = record { taken = n; stage = in_body n b h [] h.length } in p) at

-- a whole body
fed-body : (taken : ℕ) (b : Before) (h : Header) (body : List ℕ) → length body ≡ h.length
    → (fed (record { taken = taken; stage = in_body taken b h [] h.length }) body).stage ≡ behind_body (taken + length body) b h (kept_with h.code [] body)
fed-body taken b h [] size =
    ap (λ t. if t then behind_body taken b h [] else stage.Body b h [] h.length) (eq-eqb h.length 0 (sym size))
    ∙ ap (λ (n : ℕ). behind_body n b h []) at
    ∙ ap (behind_body (taken + 0) b h) (sym (kept_with-none h.code []))
  where
    at : taken ≡ taken + 0
    at = omega arith
fed-body taken b h (byte ∷ body) size =
    ap (λ t. (fed (record { taken = taken; stage = if t then behind_body taken b h [] else stage.Body b h [] h.length }) (byte ∷ body)).stage) (ne_eqb h.length 0 some)
    ∙ body-many (byte ∷ body) taken b h [] h.length (omega arith) (omega arith)
    ∙ ap (λ t. if t then behind_body (taken + length (byte ∷ body)) b h (kept_with h.code [] (byte ∷ body)) else stage.Body b h (kept_with h.code [] (byte ∷ body)) (h.length - length (byte ∷ body))) (eq-eqb (h.length - length (byte ∷ body)) 0 (omega arith))
  where
    some : h.length ≢ 0
    some = λ e. absurd (omega arith)

-- the bytes of a tag whose body isn't read don't matter
behind_body-kept : (place : ℕ) (b : Before) (h : Header) (body : List ℕ) → behind_body place b h (kept_with h.code [] body) ≡ behind_body place b h body
unfolding behind_body
behind_body-kept place b h body =
    ap (λ (r : Result Seen Fault). if h.code == end_tag then behind_end b.said (ended b.version (b.tags ++ tag_of b h ∷ []) b.place b.seen.abc b.seen.main) else behind_tag place b (b.tags ++ tag_of b h ∷ []) r)
    (body-kept b.place b.seen h.code body)

-- a tag that stands whole in a piece
pub record TagStands (h : Header) (body behind : List ℕ) (rest : List ℕ) : Type 0 where
  pub after_header : List ℕ
  pub header : next_header rest ≡ Some (record { it = h; rest = after_header })
  pub split_is : split h.length after_header ≡ Some (record { it = body; rest = behind })

-- a tag has bytes
pub tag-some : (h : Header) (body behind rest : List ℕ) → TagStands h body behind rest → length behind < length rest
tag-some h body behind rest w =
    let header = header-bytes rest (record { it = h; rest = w.after_header }) w.header in
    let some = some-header h.long in
    let halves = ap length (split-gives h.length w.after_header body behind w.split_is).0 in
    let both = length-append body behind in
    omega (arith, header, some, halves, both)

pub tag-part : (taken place : ℕ) (s : Stage) (b : Before) (h : Header) (bytes body behind rest : List ℕ) → s ≡ stage.Header b bytes → bytes ≡ [] → TagStands h body behind rest → place + length behind ≡ taken + length rest
    → (fed (record { taken = taken; stage = s }) (take (length rest - length behind) rest)).stage ≡ behind_body place b h body
tag-part taken place s b h bytes body behind rest is none w at =
    let stands = header-stands rest [] w.after_header h header-none w.header in
    let parts = split-gives h.length w.after_header body behind w.split_is in
    let front = stands.front in
    let whole : rest ≡ (front ++ body) ++ behind = stands.is ∙ ap (λ l. front ++ l) parts.0 ∙ sym (append_assoc front body behind) in
    let size = ap length whole ∙ length-append (front ++ body) behind in
    let halves = length-append front body in
    let count : length rest - length behind ≡ length (front ++ body) = omega (arith, size) in
    let taken_is : taken + length front + length body ≡ place = omega (arith, size, halves, at) in
    ap (λ (n : ℕ). (fed (record { taken = taken; stage = s }) (take n rest)).stage) count
    ∙ ap (λ l. (fed (record { taken = taken; stage = s }) (take (length (front ++ body)) l)).stage) whole
    ∙ ap (λ l. (fed (record { taken = taken; stage = s }) l).stage) (take-append_seam (front ++ body) behind)
    ∙ ap (λ (t : Stage). (fed (record { taken = taken; stage = t }) (front ++ body)).stage) (is ∙ ap (stage.Header b) none)
    ∙ ap (λ p. p.stage) (fed-append (record { taken = taken; stage = stage.Header b [] }) front body)
    ∙ ap (λ p. (fed p body).stage) (fed-header front [] taken b h header-none stands.read)
    ∙ fed-body (taken + length front) b h body parts.1
    ∙ ap (λ (n : ℕ). behind_body n b h (kept_with h.code [] body)) taken_is
    ∙ behind_body-kept place b h body

pub tag-fails : (taken place : ℕ) (s : Stage) (b : Before) (h : Header) (bytes body behind rest : List ℕ) (why : SwfRefusal) → s ≡ stage.Header b bytes → bytes ≡ [] → TagStands h body behind rest → place + length behind ≡ taken + length rest
    → Fails (behind_body place b h body) why → Fails (fed (record { taken = taken; stage = s }) rest).stage why
tag-fails taken place s b h bytes body behind rest why is none w at f =
    fails-longer (record { taken = taken; stage = s }) (length rest - length behind) rest why
    (subst (λ t. Fails t why) (sym (tag-part taken place s b h bytes body behind rest is none w at)) f)

-- a piece at a stage that isn't that of a fault
pub feeds-from : (taken : ℕ) (s : Stage) (piece : List ℕ) (result : Result (Unit {0}) SwfRefusal) (new : Push) → early_fault s ≡ None → FeedsTo taken (fed (record { taken = taken; stage = s }) piece) result new
    → FeedsFrom taken (Some s) piece result new
feeds-from taken (stage.Signature bytes) piece result new fine f = f
feeds-from taken (stage.Head bytes) piece result new fine f = f
feeds-from taken (stage.Header before bytes) piece result new fine f = f
feeds-from taken (stage.Body before h kept left) piece result new fine f = f
feeds-from taken (stage.Ended said swf) piece result new fine f = f
feeds-from taken (stage.Failed fault) piece result new fine f = cc
