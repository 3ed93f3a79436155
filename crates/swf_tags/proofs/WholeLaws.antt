-- A SWF file is read, and what is read is a SWF file.
use Rattle.flex_base.proofs.OptionLaws.{some_is}
use Rattle.flex_base.proofs.ResultLaws.{ok_is}
use Rattle.std.proofs.Common.{◌≡◌, ℕ, ◌+◌, ◌^◌, ◌<◌, ◌≤◌, Bool, true, false, List, [], ◌∷◌, ◌++◌, length, take, drop, Option, Some, None, Result, Ok, Err, refl, sym, ap, subst, ◌∙◌, arith, append_assoc, length-append, length-drop}
use Rattle.std.specs.Prelude.{if◌then◌else◌, ◌==◌, ◌&&◌, ◌||◌}
use Rattle.std.proofs.lemmas.Bool.{eq-eqb, eqb-true, and_parts}
use Rattle.std.proofs.lemmas.List.{take-append-drop, length-take-le}
use Rattle.std.proofs.lemmas.List.Elements.{All-tail}
use Rattle.byteorder.specs.Endian.{little_bytes}
use Rattle.flex_base.specs.Split.{Each}
use Rattle.swf_tags.specs.File.{AreBytes, Part, IsPart, IsHeader, IsRectangle, IsSwf, header_bytes, rectangle_size, tags_at}
use Rattle.swf_tags.specs.Fields.{Front, split, number}
use Rattle.swf_tags.specs.Reading.{Head, before_tags, frame, behind_length, behind_signature, fitting, signature_fault, behind_three, read_head, of_length, content, fails, nothing, read_tags, read_swf}
use Rattle.swf_tags.specs.declared.types.Fault.{Fault}
use Rattle.swf_tags.specs.declared.types.Swf.{Swf}
use Rattle.swf_tags.specs.declared.types.Tag.{Tag}
use Rattle.swf_tags.specs.declared.types.SwfReason.{SwfReason}
use Rattle.swf_tags.specs.declared.types.SwfReason.TheVariants as reason
use Rattle.swf_tags.proofs.FieldLaws.{split-front, split-gives, number-front, number-gives, append-bytes}
use Rattle.swf_tags.proofs.TagLaws.{tags-read, tags-give}

header-size : (part : Part) (bytes : List ℕ) → IsHeader part bytes → 0 < length bytes
header-size part bytes w = by part.long (ap length w.is)
  where
    by : (long : Bool) → length bytes ≡ length (header_bytes long part.code (length part.body)) → 0 < length bytes
    by false e = omega (arith, e)
    by true e = omega (arith, e)

-- there are no more tags than bytes
parts-size : (parts : List Part) (bytes : List ℕ) → Each IsPart parts bytes → length parts ≤ length bytes
parts-size [] bytes each = omega arith
parts-size (part ∷ parts) bytes each =
    let part_size = ap length each.first.is in
    let header = header-size part each.first.front each.first.first in
    let halves = length-append each.first.front each.first.back in
    let size = ap length each.is in
    let all = length-append each.front each.back in
    let others = parts-size parts each.back each.second in
    omega arith

-- what stands before the tags is read
signature-read : (version size : ℕ) (rectangle frames rest : List ℕ) → size < 2 ^ 32 → IsRectangle rectangle → length frames ≡ 4
    → behind_signature (version ∷ (little_bytes 4 size ++ ((rectangle ++ frames) ++ rest))) ≡ Some (record { version = version; length = size; start = 12 + length rectangle; rest = rest })
unfolding behind_signature
signature-read version size rectangle frames rest fits w four =
    let whole = length-append w.others frames in
    let given = ap length w.is in
    let is_size = w.size in
    let framed : length ((w.first ∷ w.others) ++ frames) ≡ rectangle_size w.first + 4 = omega arith in
    ap (behind_length version) (number-front 4 size ((rectangle ++ frames) ++ rest) fits)
    ∙ ap (λ l. frame version size ((l ++ frames) ++ rest)) w.is
    ∙ ap (before_tags version size (rectangle_size w.first)) (split-front (rectangle_size w.first + 4) ((w.first ∷ w.others) ++ frames) rest framed)
    ∙ ap (λ n. Some (record { version = version; length = size; start = 12 + n; rest = rest })) (sym w.size)

-- each SWF file is read
pub swf-read : (bytes : List ℕ) (version : ℕ) (tags : List Tag) (abc main : List ℕ) → IsSwf version tags abc main bytes
    → read_swf bytes ≡ Ok (record { version = version; tags = tags; abc = abc; main = main })
unfolding read_swf read_head
swf-read bytes version tags abc main w =
    let size = length bytes in
    let rest = w.tag_bytes ++ w.behind in
    let grouped : bytes ≡ 0x46 ∷ 0x57 ∷ 0x53 ∷ version ∷ (little_bytes 4 size ++ ((w.rectangle ++ w.frames) ++ rest)) =
    w.is ∙ ap (λ l. 0x46 ∷ 0x57 ∷ 0x53 ∷ version ∷ (little_bytes 4 size ++ l)) (append_assoc (w.rectangle ++ w.frames) w.tag_bytes w.behind) in
    let start = 12 + length w.rectangle in
    let few = parts-size w.parts w.tag_bytes w.each in
    let whole = length-append w.tag_bytes w.behind in
    ap (λ l. content size (read_head l)) grouped
    ∙ ap (λ o. content size (fitting o)) (signature-read version size w.rectangle w.frames rest w.fits w.is_rectangle w.four)
    ∙ ap (of_length size size) (tags-read w.parts (length rest) version start [] nothing w.tag_bytes w.behind w.symbols abc main (omega arith) w.each w.ends w.program w.named w.main_class)
    ∙ ap (λ t. if t then Ok (record { version = version; tags = tags_at start w.parts; abc = abc; main = main }) else fails 4 reason.Length) (eq-eqb size size refl)
    ∙ ap (λ l. Ok (record { version = version; tags = l; abc = abc; main = main })) (sym w.placed)

-- what was read before the tags is there
record HeadStands (head : Head) (bytes : List ℕ) : Type 0 where
  rectangle : List ℕ
  frames : List ℕ
  is : bytes ≡ head.version ∷ (little_bytes 4 head.length ++ ((rectangle ++ frames) ++ head.rest))
  fits : head.length < 2 ^ 32
  is_rectangle : IsRectangle rectangle
  four : length frames ≡ 4
  start : head.start ≡ 12 + length rectangle

-- a rectangle begins with its first byte
begins : (first : ℕ) (bytes it rest : List ℕ) → first ∷ bytes ≡ it ++ rest → length (take (rectangle_size first) it) ≡ rectangle_size first → IsRectangle (take (rectangle_size first) it)
begins first bytes it rest e size = by (take (rectangle_size first) it) (drop (rectangle_size first) it) (take-append-drop (rectangle_size first) it) size
  where
    by : (front back : List ℕ) → front ++ back ≡ it → length front ≡ rectangle_size first → IsRectangle front
    by [] back halves long = absurd (omega arith)
    by (f ∷ front) back halves long =
        let whole : first ∷ bytes ≡ f ∷ ((front ++ back) ++ rest) = e ∙ ap (λ l. l ++ rest) (sym halves) in
        let same : f ≡ first = cc in
        record { first = first; others = front; is = ap (λ (x : ℕ). x ∷ front) same; size = long }

frame-gives : (version size : ℕ) (bytes : List ℕ) (head : Head) → size < 2 ^ 32 → frame version size bytes ≡ Some head → HeadStands head (version ∷ (little_bytes 4 size ++ bytes))
frame-gives version size [] head fits e = cc
frame-gives version size (first ∷ bytes) head fits e = by (split (rectangle_size first + 4) (first ∷ bytes)) refl e
  where
    by : (o : Option (Front (List ℕ))) → split (rectangle_size first + 4) (first ∷ bytes) ≡ o → before_tags version size (rectangle_size first) o ≡ Some head
        → HeadStands head (version ∷ (little_bytes 4 size ++ (first ∷ bytes)))
    by None f g = cc
    by (Some found) f g =
        let parts = split-gives (rectangle_size first + 4) (first ∷ bytes) found.it found.rest f in
        let halves : take (rectangle_size first) found.it ++ drop (rectangle_size first) found.it ≡ found.it = take-append-drop (rectangle_size first) found.it in
        let front : length (take (rectangle_size first) found.it) ≡ rectangle_size first = length-take-le (rectangle_size first) found.it (omega (arith, parts.1)) in
        let back : length (drop (rectangle_size first) found.it) ≡ 4 = let l = length-drop (rectangle_size first) found.it in omega (arith, l, parts.1) in
        let stands : HeadStands (record { version = version; length = size; start = 12 + rectangle_size first; rest = found.rest }) (version ∷ (little_bytes 4 size ++ (first ∷ bytes))) = record {
          rectangle = take (rectangle_size first) found.it;
          frames = drop (rectangle_size first) found.it;
          is = ap (λ l. version ∷ (little_bytes 4 size ++ l)) (parts.0 ∙ ap (λ l. l ++ found.rest) (sym halves));
          fits = fits;
          is_rectangle = begins first bytes found.it found.rest parts.0 front;
          four = back;
          start = ap (λ k. 12 + k) (sym front);
        } in
        subst (λ (h : Head). HeadStands h (version ∷ (little_bytes 4 size ++ (first ∷ bytes)))) (some_is _ _ g) stands

signature-gives : (bytes : List ℕ) (head : Head) → AreBytes bytes → behind_signature bytes ≡ Some head → HeadStands head bytes
unfolding behind_signature
signature-gives [] head are e = cc
signature-gives (version ∷ bytes) head are e = by (number 4 bytes) refl e
  where
    by : (o : Option (Front ℕ)) → number 4 bytes ≡ o → behind_length version o ≡ Some head → HeadStands head (version ∷ bytes)
    by None f g = cc
    by (Some size) f g =
        let parts = number-gives 4 size.it bytes size.rest (All-tail (λ byte. byte < 256) version bytes are) f in
        subst (λ l. HeadStands head (version ∷ l)) (sym parts.0) (frame-gives version size.it size.rest head parts.1 g)

-- the signature, and the head behind it
record SignatureStands (head : Head) (bytes : List ℕ) : Type 0 where
  behind : List ℕ
  is : bytes ≡ 0x46 ∷ 0x57 ∷ 0x53 ∷ behind
  holds : HeadStands head behind

head-gives : (bytes : List ℕ) (head : Head) → AreBytes bytes → read_head bytes ≡ Ok head → SignatureStands head bytes
unfolding read_head
head-gives [] head are e = cc
head-gives (first ∷ []) head are e = cc
head-gives (first ∷ second ∷ []) head are e = cc
head-gives (first ∷ second ∷ third ∷ bytes) head are e = by (signature_fault first second third) refl e
  where
    are_rest : AreBytes bytes
    are_rest = All-tail (λ byte. byte < 256) third bytes (All-tail (λ byte. byte < 256) second (third ∷ bytes) (All-tail (λ byte. byte < 256) first (second ∷ third ∷ bytes) are))

    fits : (o : Option Head) → behind_signature bytes ≡ o → fitting o ≡ Ok head → (first == 0x46 && second == 0x57 && third == 0x53) ≡ true → SignatureStands head (first ∷ second ∷ third ∷ bytes)
    fits None f g signed = cc
    fits (Some found) f g signed =
        let outer = and_parts _ _ signed in
        let inner = and_parts _ _ outer.0 in
        record {
          behind = bytes;
          is = letters (eqb-true first 0x46 inner.0) (eqb-true second 0x57 inner.1) (eqb-true third 0x53 outer.1);
          holds = subst (λ (h : Head). HeadStands h bytes) (ok_is (fitting (Some found)) _ _ refl g) (signature-gives bytes found are_rest f);
        }
      where
        letters : first ≡ 0x46 → second ≡ 0x57 → third ≡ 0x53 → first ∷ second ∷ third ∷ bytes ≡ 0x46 ∷ 0x57 ∷ 0x53 ∷ bytes
        letters a b c = cc

    signed : (t : Bool) → (first == 0x46 && second == 0x57 && third == 0x53) ≡ t
        → (if t then None else if (first == 0x43 || first == 0x5A) && second == 0x57 && third == 0x53 then Some reason.Compressed else Some reason.NotFws) ≡ None
        → (first == 0x46 && second == 0x57 && third == 0x53) ≡ true
    signed true f g = f
    signed false f g = neither ((first == 0x43 || first == 0x5A) && second == 0x57 && third == 0x53) g
      where
        neither : (t : Bool) → (if t then Some reason.Compressed else Some reason.NotFws) ≡ None → (first == 0x46 && second == 0x57 && third == 0x53) ≡ true
        neither true g = cc
        neither false g = cc

    by : (o : Option SwfReason) → signature_fault first second third ≡ o → behind_three o bytes ≡ Ok head → SignatureStands head (first ∷ second ∷ third ∷ bytes)
    by (Some why) f g = cc
    by None f g = fits (behind_signature bytes) refl g (signed (first == 0x46 && second == 0x57 && third == 0x53) refl f)

-- what was read of the tags, and that the file has the length that it says
record Whole (head : Head) (bytes : List ℕ) (swf : Swf) : Type 0 where
  size : head.length ≡ length bytes
  tags : read_tags (length head.rest) head.version head.start [] nothing head.rest ≡ Ok swf

whole-gives : (head : Head) (bytes : List ℕ) (swf : Swf) → content (length bytes) (Ok head) ≡ Ok swf → Whole head bytes swf
whole-gives head bytes swf e = by (read_tags (length head.rest) head.version head.start [] nothing head.rest) refl e
  where
    said : (read : Swf) → read_tags (length head.rest) head.version head.start [] nothing head.rest ≡ Ok read → (t : Bool) → (head.length == length bytes) ≡ t → (if t then Ok read else fails 4 reason.Length) ≡ Ok swf
        → Whole head bytes swf
    said read f false s g = cc
    said read f true s g = record { size = eqb-true head.length (length bytes) s; tags = f ∙ g }

    by : (r : Result Swf Fault) → read_tags (length head.rest) head.version head.start [] nothing head.rest ≡ r → of_length (length bytes) head.length r ≡ Ok swf → Whole head bytes swf
    by (Err fault) f g = cc
    by (Ok read) f g = said read f (head.length == length bytes) refl g

-- what is read is a SWF file
pub swf-gives : (bytes : List ℕ) (swf : Swf) → AreBytes bytes → read_swf bytes ≡ Ok swf → IsSwf swf.version swf.tags swf.abc swf.main bytes
unfolding read_swf
swf-gives bytes swf are e = by (read_head bytes) refl e
  where
    by : (r : Result Head Fault) → read_head bytes ≡ r → content (length bytes) r ≡ Ok swf → IsSwf swf.version swf.tags swf.abc swf.main bytes
    by (Err fault) f g = cc
    by (Ok head) f g =
        let signed = head-gives bytes head are f in
        let stands = signed.holds in
        let w = whole-gives head bytes swf g in
        let framed = (stands.rectangle ++ stands.frames) ++ head.rest in
        let are_behind = All-tail (λ byte. byte < 256) 0x53 signed.behind (All-tail (λ byte. byte < 256) 0x57 (0x53 ∷ signed.behind) (All-tail (λ byte. byte < 256) 0x46 (0x57 ∷ 0x53 ∷ signed.behind) (subst AreBytes signed.is are))) in
        let are_fields = All-tail (λ byte. byte < 256) head.version (little_bytes 4 head.length ++ framed) (subst AreBytes stands.is are_behind) in
        let are_frame = (append-bytes (little_bytes 4 head.length) framed (little_bytes 4 head.length ++ framed) refl are_fields).1 in
        let are_tags = (append-bytes (stands.rectangle ++ stands.frames) head.rest framed refl are_frame).1 in
        let say = tags-give (length head.rest) head.version head.start [] nothing head.rest swf are_tags w.tags in
        record {
          rectangle = stands.rectangle;
          frames = stands.frames;
          tag_bytes = say.tag_bytes;
          behind = say.behind;
          parts = say.parts;
          symbols = say.symbols;
          is =
              signed.is
              ∙ ap (λ l. 0x46 ∷ 0x57 ∷ 0x53 ∷ l) stands.is
              ∙ ap (λ v. 0x46 ∷ 0x57 ∷ 0x53 ∷ v ∷ (little_bytes 4 head.length ++ ((stands.rectangle ++ stands.frames) ++ head.rest))) (sym say.said)
              ∙ ap (λ n. 0x46 ∷ 0x57 ∷ 0x53 ∷ swf.version ∷ (little_bytes 4 n ++ ((stands.rectangle ++ stands.frames) ++ head.rest))) w.size
              ∙ ap (λ l. 0x46 ∷ 0x57 ∷ 0x53 ∷ swf.version ∷ (little_bytes 4 (length bytes) ++ ((stands.rectangle ++ stands.frames) ++ l))) say.is
              ∙ ap (λ l. 0x46 ∷ 0x57 ∷ 0x53 ∷ swf.version ∷ (little_bytes 4 (length bytes) ++ l)) (sym (append_assoc (stands.rectangle ++ stands.frames) say.tag_bytes say.behind));
          fits = subst (λ n. n < 2 ^ 32) w.size stands.fits;
          is_rectangle = stands.is_rectangle;
          four = stands.four;
          each = say.each;
          placed = say.placed ∙ ap (λ n. tags_at n say.parts) stands.start;
          ends = say.ends;
          program = say.program;
          named = say.named;
          main_class = say.main_class;
        }
