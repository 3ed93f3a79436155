-- The fault that is known when bytes are fed is their first fault, where that is early.
use Rattle.std.proofs.Common.{◌≡◌, ℕ, ◌+◌, ◌-◌, ◌<◌, ◌≤◌, Bool, true, false, List, [], ◌∷◌, ◌++◌, length, drop, Option, Some, None, Result, Ok, Err, refl, sym, ap, subst, ◌∙◌, arith, append_assoc, length-append}
use Rattle.std.specs.Prelude.{if◌then◌else◌, ◌==◌, ◌&&◌, ◌||◌, nat_le}
use Rattle.std.specs.Option.{is_none}
use Rattle.std.specs.Result.{is_ok}
use Rattle.std.proofs.lemmas.Bool.{eqb-true, le-leb, leb-true}
use Rattle.std.proofs.lemmas.List.{append-nil, drop_all, drop-append-le}
use Rattle.swf_tags.specs.Spelling.{end_tag, do_abc, symbol_class}
use Rattle.swf_tags.specs.Fields.{Front, split}
use Rattle.swf_tags.specs.Reading.{Head, behind_header, behind_signature, early, early_of, ended, fails, fault_of, is_early, is_whole, next_header, next_part, nothing, part_of, read_program, read_symbols, signature_fault, swf_fault, with_body, with_program, with_symbols}
use Rattle.swf_tags.specs.Feeding.{Progress, at_end, behind_body, behind_end, behind_letters, behind_tag, early_fault, fed, in_body, in_head, in_header, kept_with, one_more, start, step, tag_of}
use Rattle.swf_tags.specs.declared.stage.Before.{Before}
use Rattle.swf_tags.specs.declared.stage.Stage.{Stage}
use Rattle.swf_tags.specs.declared.stage.Stage.TheVariants as stage
use Rattle.swf_tags.specs.declared.types.Fault.{Fault}
use Rattle.swf_tags.specs.declared.types.Header.{Header}
use Rattle.swf_tags.specs.declared.types.Seen.{Seen}
use Rattle.swf_tags.specs.declared.types.SwfReason.{SwfReason}
use Rattle.swf_tags.specs.declared.types.SwfReason.TheVariants as reason
use Rattle.swf_tags.specs.declared.types.Tag.{Tag}
use Rattle.swf_tags.proofs.StreamLaws.{header-bytes, header-last, header-more, split-more, split-none}
use Rattle.swf_tags.proofs.FieldLaws.{split-gives}
use Rattle.swf_tags.proofs.Walks.{some-header}
use Rattle.swf_tags.proofs.FeedLaws.{Sound, early_fault-stays, fed-sound, fed-taken, fed-whole, sound-step, start-sound}

-- a part of a tag, of whose body so many bytes are still to come
record BodyStands (h : Header) (left : ℕ) (tag : List ℕ) : Type 0 where
  after : List ℕ
  header : next_header tag ≡ Some (record { it = h; rest = after })
  size : length after + left ≡ h.length

-- what is being read stands in these bytes
abbrev Stands : List ℕ → Stage → Type 0
Stands bytes (stage.Signature pending) = bytes ≡ pending
Stands bytes (stage.Head pending) = Unit {0}
Stands bytes (stage.Header b pending) = (b.place ≤ length bytes) × (drop b.place bytes ≡ pending)
Stands bytes (stage.Body b h kept left) = (b.place ≤ length bytes) × BodyStands h left (drop b.place bytes)
Stands bytes (stage.Ended said swf) = Unit {0}
Stands bytes (stage.Failed fault) = is_early bytes fault.place fault.reason ≡ true

part-is : (place : ℕ) (tag after : List ℕ) (h : Header) → next_header tag ≡ Some (record { it = h; rest = after }) → 0 < length tag → next_part place tag ≡ part_of place h (split h.length after)
unfolding next_part
part-is place [] after h e some = absurd (omega arith)
part-is place (byte ∷ tag) after h e some = ap (behind_header place) e

some-tag : (tag after : List ℕ) (h : Header) → next_header tag ≡ Some (record { it = h; rest = after }) → 0 < length tag
some-tag tag after h e = let size = header-bytes tag (record { it = h; rest = after }) e in let some = some-header h.long in omega (arith, size, some)

-- a tag whose body is whole
tag-whole : (place : ℕ) (tag : List ℕ) (h : Header) → BodyStands h 0 tag → is_ok (next_part place tag) ≡ true
tag-whole place tag h w = ap is_ok (part-is place tag w.after h w.header (some-tag tag w.after h w.header)) ∙ by (split h.length w.after) refl
  where
    by : (o : Option (Front (List ℕ))) → split h.length w.after ≡ o → is_ok (part_of place h o) ≡ true
    by None e = let short = split-none h.length w.after e in let size = w.size in absurd (omega arith)
    by (Some f) e = refl

-- and one whose body isn't
tag-cut : (place left : ℕ) (tag : List ℕ) (h : Header) → 0 < left → BodyStands h left tag → is_ok (next_part place tag) ≡ false
tag-cut place left tag h some w = ap is_ok (part-is place tag w.after h w.header (some-tag tag w.after h w.header)) ∙ by (split h.length w.after) refl
  where
    by : (o : Option (Front (List ℕ))) → split h.length w.after ≡ o → is_ok (part_of place h o) ≡ false
    by None e = refl
    by (Some f) e =
        let parts = split-gives h.length w.after f.it f.rest e in
        let whole = ap length parts.0 in
        let both = length-append f.it f.rest in
        let size = w.size in
        absurd (omega (arith, whole, both, size, parts.1))

-- what a body that isn't of its form gives is early
body-early : (bytes : List ℕ) (place : ℕ) (s : Seen) (code : ℕ) (body : List ℕ) (fault : Fault) → is_whole bytes place ≡ true → with_body place s code body ≡ Err fault → is_early bytes fault.place fault.reason ≡ true
unfolding with_body
body-early bytes place s code body fault whole e = by (code == do_abc) (code == symbol_class) e
  where
    early-of : (r : Result Seen Fault) (f : Fault) → is_early bytes f.place f.reason ≡ true → r ≡ Err f → r ≡ Err fault → is_early bytes fault.place fault.reason ≡ true
    early-of r f holds d g = let same : f ≡ fault = cc in subst (λ (k : Fault). is_early bytes k.place k.reason ≡ true) same holds

    second : (known : Option (List ℕ)) (abc : List ℕ) → (if is_none known then Ok (record { abc = Some abc; main = s.main }) else fails {A = Seen} place reason.TwoAbc) ≡ Err fault → is_early bytes fault.place fault.reason ≡ true
    second None abc g = cc
    second (Some known) abc g = early-of (fails place reason.TwoAbc) (record { place = place; reason = reason.TwoAbc }) refl refl g

    program : (o : Option (List ℕ)) → with_program place s o ≡ Err fault → is_early bytes fault.place fault.reason ≡ true
    program None g = early-of (fails place reason.TagBody) (record { place = place; reason = reason.TagBody }) whole refl g
    program (Some abc) g = second s.abc abc g

    symbols : (o : Option (Option (List ℕ))) → with_symbols place s o ≡ Err fault → is_early bytes fault.place fault.reason ≡ true
    symbols None g = early-of (fails place reason.TagBody) (record { place = place; reason = reason.TagBody }) whole refl g
    symbols (Some main) g = cc

    by : (a b : Bool) → (if a then with_program place s (read_program body) else if b then with_symbols place s (read_symbols body) else Ok s) ≡ Err fault → is_early bytes fault.place fault.reason ≡ true
    by true b g = program (read_program body) g
    by false true g = symbols (read_symbols body) g
    by false false g = cc

stands-next : (bytes : List ℕ) (b : Before) → b.place ≡ length bytes → Stands bytes (stage.Header b [])
stands-next bytes b at = (omega arith, drop_all b.place bytes (omega arith))

-- behind a tag that is whole
stands-behind : (bytes : List ℕ) (b : Before) (h : Header) (body : List ℕ) → is_whole bytes b.place ≡ true → Stands bytes (behind_body (length bytes) b h body)
unfolding behind_body
stands-behind bytes b h body whole = by (h.code == end_tag)
  where
    tags : List Tag
    tags = b.tags ++ tag_of b h ∷ []

    ends : (abc main : Option (List ℕ)) → Stands bytes (behind_end b.said (ended b.version tags b.place abc main))
    ends None main = refl
    ends (Some abc) None = refl
    ends (Some abc) (Some main) = tt

    goes : (r : Result Seen Fault) → with_body b.place b.seen h.code body ≡ r → Stands bytes (behind_tag (length bytes) b tags r)
    goes (Err fault) e = body-early bytes b.place b.seen h.code body fault whole e
    goes (Ok t) e = stands-next bytes (record { version = b.version; said = b.said; place = length bytes; tags = tags; seen = t }) refl

    by : (t : Bool) → Stands bytes (if t then behind_end b.said (ended b.version tags b.place b.seen.abc b.seen.main) else behind_tag (length bytes) b tags (with_body b.place b.seen h.code body))
    by true = ends b.seen.abc b.seen.main
    by false = goes (with_body b.place b.seen h.code body) refl

stands-body : (bytes : List ℕ) (b : Before) (h : Header) (kept : List ℕ) (left : ℕ) → b.place ≤ length bytes → BodyStands h left (drop b.place bytes) → Stands bytes (in_body (length bytes) b h kept left)
stands-body bytes b h kept left within w = by (left == 0) refl
  where
    by : (t : Bool) → (left == 0) ≡ t → Stands bytes (if t then behind_body (length bytes) b h kept else stage.Body b h kept left)
    by true e = stands-behind bytes b h kept (tag-whole b.place (drop b.place bytes) h (subst (λ (n : ℕ). BodyStands h n (drop b.place bytes)) (eqb-true left 0 e) w))
    by false e = (within, w)

-- an early fault stays early
whole-more : (place byte : ℕ) (tag : List ℕ) → is_ok (next_part place tag) ≡ true → is_ok (next_part place (tag ++ byte ∷ [])) ≡ true
unfolding next_part
whole-more place byte [] e = cc
whole-more place byte (first ∷ tag) e = by (next_header (first ∷ tag)) refl e
  where
    inner : (h : Front Header) (o : Option (Front (List ℕ))) → split h.it.length h.rest ≡ o → is_ok (part_of place h.it o) ≡ true → is_ok (part_of place h.it (split h.it.length (h.rest ++ byte ∷ []))) ≡ true
    inner h None f g = cc
    inner h (Some body) f g = ap (λ o. is_ok (part_of place h.it o)) (split-more h.it.length h.rest (byte ∷ []) body f)

    by : (o : Option (Front Header)) → next_header (first ∷ tag) ≡ o → is_ok (behind_header place o) ≡ true → is_ok (behind_header place (next_header ((first ∷ tag) ++ byte ∷ []))) ≡ true
    by None f g = cc
    by (Some h) f g = ap (λ o. is_ok (behind_header place o)) (header-more (first ∷ tag) (byte ∷ []) h f) ∙ inner h (split h.it.length h.rest) refl g

no-part : (place : ℕ) (tag : List ℕ) → tag ≡ [] → is_ok (next_part place tag) ≡ true → ⊥
unfolding next_part
no-part place [] e f = cc
no-part place (byte ∷ tag) e f = cc

over : (a b : ℕ) → nat_le a b ≡ false → b ≤ a
over a b e = grind (arith, le-leb)

early-more : (bytes : List ℕ) (byte place : ℕ) (why : SwfReason) → is_early bytes place why ≡ true → is_early (bytes ++ byte ∷ []) place why ≡ true
early-more bytes byte place reason.Compressed e = let some = leb-true 3 (length bytes) e in let size = length-append bytes (byte ∷ []) in le-leb 3 (length (bytes ++ byte ∷ [])) (omega arith)
early-more bytes byte place reason.NotFws e = let some = leb-true 3 (length bytes) e in let size = length-append bytes (byte ∷ []) in le-leb 3 (length (bytes ++ byte ∷ [])) (omega arith)
early-more bytes byte place reason.Rect e = cc
early-more bytes byte place reason.NoEnd e = cc
early-more bytes byte place reason.TagHeader e = cc
early-more bytes byte place reason.TagBody e = by (nat_le place (length bytes)) refl
  where
    by : (t : Bool) → nat_le place (length bytes) ≡ t → is_whole (bytes ++ byte ∷ []) place ≡ true
    by true f = ap (λ l. is_ok (next_part place l)) (drop-append-le place bytes (byte ∷ []) (leb-true place (length bytes) f)) ∙ whole-more place byte (drop place bytes) e
    by false f = absurd (no-part place (drop place bytes) (drop_all place bytes (over place (length bytes) f)) e)
early-more bytes byte place reason.TwoAbc e = refl
early-more bytes byte place reason.NoAbc e = refl
early-more bytes byte place reason.NoMain e = refl
early-more bytes byte place reason.Length e = cc

-- three bytes that aren't the signature
letters-early : (bytes : List ℕ) (first second third : ℕ) (why : SwfReason) → 3 ≤ length bytes → signature_fault first second third ≡ Some why → is_early bytes 0 why ≡ true
letters-early bytes first second third why three e = by (first == 0x46 && second == 0x57 && third == 0x53) ((first == 0x43 || first == 0x5A) && second == 0x57 && third == 0x53) e
  where
    compressed : (r : SwfReason) → Some r ≡ Some why → is_early bytes 0 r ≡ true → is_early bytes 0 why ≡ true
    compressed r g holds = let same : r ≡ why = cc in subst (λ (k : SwfReason). is_early bytes 0 k ≡ true) same holds

    by : (a b : Bool) → (if a then None else if b then Some reason.Compressed else Some reason.NotFws) ≡ Some why → is_early bytes 0 why ≡ true
    by true b g = cc
    by false true g = compressed reason.Compressed g (le-leb 3 (length bytes) three)
    by false false g = compressed reason.NotFws g (le-leb 3 (length bytes) three)

-- one more byte
stands-step : (bytes : List ℕ) (s : Stage) (byte : ℕ) → Sound (length bytes) s → Stands bytes s → Stands (bytes ++ byte ∷ []) (step (length bytes + 1) s byte)
stands-step bytes (stage.Signature []) byte w e = ap (λ l. l ++ byte ∷ []) e
stands-step bytes (stage.Signature (first ∷ [])) byte w e = ap (λ l. l ++ byte ∷ []) e
stands-step bytes (stage.Signature (first ∷ second ∷ [])) byte w e = by (signature_fault first second byte) refl
  where
    three : 3 ≤ length (bytes ++ byte ∷ [])
    three = let size = length-append bytes (byte ∷ []) in let known = ap length e in omega (arith, size, known)

    by : (o : Option SwfReason) → signature_fault first second byte ≡ o → Stands (bytes ++ byte ∷ []) (behind_letters o)
    by None f = tt
    by (Some why) f = letters-early (bytes ++ byte ∷ []) first second byte why three f
stands-step bytes (stage.Signature (first ∷ second ∷ third ∷ pending)) byte w e = absurd (omega arith)
stands-step bytes (stage.Head pending) byte w e = by (behind_signature (pending ++ byte ∷ [])) (sound-step (length bytes) (stage.Head pending) byte w)
  where
    by : (o : Option Head) → Sound (length bytes + 1) (in_head (pending ++ byte ∷ []) o) → Stands (bytes ++ byte ∷ []) (in_head (pending ++ byte ∷ []) o)
    by None v = tt
    by (Some head) v = let size = length-append bytes (byte ∷ []) in stands-next (bytes ++ byte ∷ []) (record { version = head.version; said = head.length; place = head.start; tags = []; seen = nothing }) (omega (arith, size, v.1))
stands-step bytes (stage.Header b pending) byte w e = by (next_header (pending ++ byte ∷ [])) refl
  where
    size : length (bytes ++ byte ∷ []) ≡ length bytes + 1
    size = length-append bytes (byte ∷ []) ∙ omega arith

    tag : drop b.place (bytes ++ byte ∷ []) ≡ pending ++ byte ∷ []
    tag = drop-append-le b.place bytes (byte ∷ []) e.0 ∙ ap (λ l. l ++ byte ∷ []) e.1

    within : b.place ≤ length (bytes ++ byte ∷ [])
    within = let before = e.0 in omega (arith, size, before)

    by : (o : Option (Front Header)) → next_header (pending ++ byte ∷ []) ≡ o → Stands (bytes ++ byte ∷ []) (in_header (length bytes + 1) b (pending ++ byte ∷ []) o)
    by None f = (within, tag)
    by (Some h) f =
        let last = ap length (header-last pending byte h w.0 f) in
        let stands : BodyStands h.it h.it.length (drop b.place (bytes ++ byte ∷ [])) = record { after = h.rest; header = ap next_header tag ∙ f; size = omega (arith, last) } in
        subst (λ (n : ℕ). Stands (bytes ++ byte ∷ []) (in_body n b h.it [] h.it.length)) size (stands-body (bytes ++ byte ∷ []) b h.it [] h.it.length within stands)
stands-step bytes (stage.Body b h kept left) byte w e =
    let size : length (bytes ++ byte ∷ []) ≡ length bytes + 1 = length-append bytes (byte ∷ []) ∙ omega arith in
    let before = e.0 in
    let known = e.1.size in
    let some = w.0 in
    let more = length-append e.1.after (byte ∷ []) in
    let stands : BodyStands h (left - 1) (drop b.place (bytes ++ byte ∷ [])) = record {
      after = e.1.after ++ byte ∷ [];
      header = ap next_header (drop-append-le b.place bytes (byte ∷ []) before) ∙ header-more (drop b.place bytes) (byte ∷ []) (record { it = h; rest = e.1.after }) e.1.header;
      size = omega (arith, more, known, some);
    } in
    subst (λ (n : ℕ). Stands (bytes ++ byte ∷ []) (in_body n b h (kept_with h.code kept (byte ∷ [])) (left - 1))) size
    (stands-body (bytes ++ byte ∷ []) b h (kept_with h.code kept (byte ∷ [])) (left - 1) (omega (arith, size, before)) stands)
stands-step bytes (stage.Ended said swf) byte w e = tt
stands-step bytes (stage.Failed fault) byte w e = early-more bytes byte fault.place fault.reason e

stands-fed : (bytes done : List ℕ) (progress : Progress) → progress.taken ≡ length done → Sound progress.taken progress.stage → Stands done progress.stage → Stands (done ++ bytes) (fed progress bytes).stage
stands-fed [] done progress at w e = subst (λ l. Stands l progress.stage) (sym (append-nil done)) e
stands-fed (byte ∷ bytes) done progress at w e =
    let size : progress.taken + 1 ≡ length (done ++ byte ∷ []) = let more = length-append done (byte ∷ []) in omega (arith, more, at) in
    let sound = subst (λ (n : ℕ). Sound n progress.stage) at w in
    let stands = subst (λ (n : ℕ). Stands (done ++ byte ∷ []) (step (n + 1) progress.stage byte)) (sym at) (stands-step done progress.stage byte sound e) in
    subst (λ l. Stands l (fed (one_more progress byte) bytes).stage) (append_assoc done (byte ∷ []) bytes)
    (stands-fed bytes (done ++ byte ∷ []) (one_more progress byte) size (sound-step progress.taken progress.stage byte w) stands)

-- the fault that is known at a stage that stands in these bytes
early-known : (bytes : List ℕ) (size : ℕ) (s : Stage) → Sound (length bytes) s → Stands bytes s → early_fault s ≡ early_of bytes (fault_of (at_end size s))
early-known bytes size (stage.Signature pending) w e = sym (ap (λ t. if t then Some (record { place = 0; reason = reason.NotFws }) else None) (short (nat_le 3 (length bytes)) refl))
  where
    short : (t : Bool) → nat_le 3 (length bytes) ≡ t → nat_le 3 (length bytes) ≡ false
    short false f = f
    short true f = let three = leb-true 3 (length bytes) f in let known = ap length e in let few = w.0 in absurd (omega (arith, three, known, few))
early-known bytes size (stage.Head pending) w e = refl
early-known bytes size (stage.Header b []) w e = refl
early-known bytes size (stage.Header b (byte ∷ pending)) w e = refl
early-known bytes size (stage.Body b h kept left) w e = sym (ap (λ t. if t then Some (record { place = b.place; reason = reason.TagBody }) else None) (tag-cut b.place left (drop b.place bytes) h w.0 e.1))
early-known bytes size (stage.Ended said swf) w e = by (said == size)
  where
    by : (t : Bool) → None ≡ early_of bytes (fault_of (if t then Ok swf else fails 4 reason.Length))
    by true = refl
    by false = refl
early-known bytes size (stage.Failed fault) w e = sym (ap (λ t. if t then Some fault else None) e)

pub early-is : (bytes : List ℕ) → early_fault (fed start bytes).stage ≡ early bytes
early-is bytes =
    let at : (fed start bytes).taken ≡ length bytes = fed-taken bytes start ∙ omega arith in
    let sound = subst (λ (n : ℕ). Sound n (fed start bytes).stage) at (fed-sound bytes start start-sound) in
    early-known bytes (fed start bytes).taken (fed start bytes).stage sound (stands-fed bytes [] start refl start-sound refl)
    ∙ ap (λ r. early_of bytes (fault_of r)) (fed-whole bytes)

-- the early fault is the first fault of each file that begins so
pub early-stays : (bytes more : List ℕ) (fault : Fault) → early bytes ≡ Some fault → swf_fault (bytes ++ more) ≡ Some fault
early-stays bytes more fault e = early_fault-stays bytes more fault (early-is bytes ∙ e)
