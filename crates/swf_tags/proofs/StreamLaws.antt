-- What is read at the start of bytes, as more bytes come.
use Rattle.flex_base.proofs.OptionLaws.{some_is}
use Rattle.std.proofs.Common.{◌≡◌, ℕ, suc, ◌+◌, ◌/◌, ◌%◌, ◌<◌, Bool, true, false, List, [], ◌∷◌, ◌++◌, length, Option, Some, None, refl, sym, ap, subst, ◌∙◌, arith, append_assoc, length-append}
use Rattle.std.specs.Prelude.{if◌then◌else◌, ◌==◌, nat_le}
use Rattle.std.proofs.lemmas.Bool.{le-leb}
use Rattle.swf_tags.specs.File.{header_size, rectangle_size}
use Rattle.swf_tags.specs.Fields.{Front, split, number_of, number}
use Rattle.swf_tags.specs.Reading.{Head, long_of, header_of, next_header, before_tags, frame, behind_length, behind_signature}
use Rattle.swf_tags.specs.declared.types.Header.{Header}
use Rattle.swf_tags.proofs.FieldLaws.{split-front, split-gives, taken}

-- what was read, and more bytes behind it
abbrev pub longer : {A : Type 0} → Front A → List ℕ → Front A
longer f more = record { it = f.it; rest = f.rest ++ more }

no_bytes : (bytes : List ℕ) → length bytes ≡ 0 → bytes ≡ []
no_bytes [] e = refl
no_bytes (byte ∷ bytes) e = absurd (omega arith)

pub split-more : (n : ℕ) (bytes more : List ℕ) (f : Front (List ℕ)) → split n bytes ≡ Some f → split n (bytes ++ more) ≡ Some (longer f more)
split-more n bytes more f e =
    let parts = split-gives n bytes f.it f.rest e in
    ap (λ l. split n (l ++ more)) parts.0 ∙ ap (split n) (append_assoc f.it f.rest more) ∙ split-front n f.it (f.rest ++ more) parts.1

pub split-none : (n : ℕ) (bytes : List ℕ) → split n bytes ≡ None → length bytes < n
unfolding split
split-none n bytes e = by (nat_le n (length bytes)) refl e
  where
    by : (t : Bool) → nat_le n (length bytes) ≡ t → taken n bytes t ≡ None → length bytes < n
    by true f g = cc
    by false f g = below n (length bytes) f
      where
        below : (a b : ℕ) → nat_le a b ≡ false → b < a
        below a b h = grind (arith, le-leb)

pub split-last : (n : ℕ) (bytes : List ℕ) (byte : ℕ) (f : Front (List ℕ)) → split n bytes ≡ None → split n (bytes ++ byte ∷ []) ≡ Some f → f.rest ≡ []
split-last n bytes byte f none e =
    let short = split-none n bytes none in
    let parts = split-gives n (bytes ++ byte ∷ []) f.it f.rest e in
    let whole = ap length parts.0 in
    let left = length-append bytes (byte ∷ []) in
    let right = length-append f.it f.rest in
    no_bytes f.rest (omega (arith, whole, left, right, parts.1))

pub split-zero : (bytes : List ℕ) → split 0 bytes ≡ Some (record { it = []; rest = bytes })
split-zero bytes = split-front 0 [] bytes refl

-- one more byte in front
abbrev pub behind_byte : ℕ → Option (Front (List ℕ)) → Option (Front (List ℕ))
behind_byte byte None = None
behind_byte byte (Some f) = Some (record { it = byte ∷ f.it; rest = f.rest })

pub split-cons : (n byte : ℕ) (bytes : List ℕ) → split (suc n) (byte ∷ bytes) ≡ behind_byte byte (split n bytes)
split-cons n byte bytes = by (split n bytes) refl
  where
    by : (o : Option (Front (List ℕ))) → split n bytes ≡ o → split (suc n) (byte ∷ bytes) ≡ behind_byte byte o
    by (Some f) e =
        let parts = split-gives n bytes f.it f.rest e in
        ap (λ l. split (suc n) (byte ∷ l)) parts.0 ∙ split-front (suc n) (byte ∷ f.it) f.rest (omega (arith, parts.1))
    by None e = none (split (suc n) (byte ∷ bytes)) refl
      where
        none : (o : Option (Front (List ℕ))) → split (suc n) (byte ∷ bytes) ≡ o → o ≡ None
        none None f = refl
        none (Some found) f =
            let short = split-none n bytes e in
            let parts = split-gives (suc n) (byte ∷ bytes) found.it found.rest f in
            let whole = ap length parts.0 in
            let right = length-append found.it found.rest in
            absurd (omega (arith, whole, right, parts.1))

number-more : (n : ℕ) (bytes more : List ℕ) (f : Front ℕ) → number n bytes ≡ Some f → number n (bytes ++ more) ≡ Some (longer f more)
number-more n bytes more f e = by (split n bytes) refl e
  where
    by : (o : Option (Front (List ℕ))) → split n bytes ≡ o → number_of n o ≡ Some f → number n (bytes ++ more) ≡ Some (longer f more)
    by None g h = cc
    by (Some field) g h = ap (number_of n) (split-more n bytes more field g) ∙ ap (λ k. Some (longer k more)) (some_is _ _ h)

number-last : (n : ℕ) (bytes : List ℕ) (byte : ℕ) (f : Front ℕ) → number n bytes ≡ None → number n (bytes ++ byte ∷ []) ≡ Some f → f.rest ≡ []
number-last n bytes byte f none e = by (split n bytes) (split n (bytes ++ byte ∷ [])) refl refl none e
  where
    by : (o p : Option (Front (List ℕ))) → split n bytes ≡ o → split n (bytes ++ byte ∷ []) ≡ p → number_of n o ≡ None → number_of n p ≡ Some f → f.rest ≡ []
    by (Some field) p g h i j = cc
    by None None g h i j = cc
    by None (Some field) g h i j = ap (λ k. k.rest) (sym (some_is _ _ j)) ∙ split-last n bytes byte field g h

number-size : (n : ℕ) (bytes : List ℕ) (f : Front ℕ) → number n bytes ≡ Some f → n + length f.rest ≡ length bytes
number-size n bytes f e = by (split n bytes) refl e
  where
    by : (o : Option (Front (List ℕ))) → split n bytes ≡ o → number_of n o ≡ Some f → n + length f.rest ≡ length bytes
    by None g h = cc
    by (Some field) g h =
        let parts = split-gives n bytes field.it field.rest g in
        let whole = ap length parts.0 in
        let right = length-append field.it field.rest in
        let same : length f.rest ≡ length field.rest = ap (λ k. length k.rest) (sym (some_is _ _ h)) in
        omega (arith, whole, right, same, parts.1)

-- no bytes are a number
number-empty : (n : ℕ) (bytes : List ℕ) (f : Front ℕ) → number (suc n) bytes ≡ Some f → bytes ≡ [] → ⊥
number-empty n bytes f e is = let size = number-size (suc n) bytes f e in let none = ap length is in omega (arith, size, none)

-- a header stays what it is
pub header-more : (bytes more : List ℕ) (f : Front Header) → next_header bytes ≡ Some f → next_header (bytes ++ more) ≡ Some (longer f more)
unfolding next_header
header-more bytes more f e = by (number 2 bytes) refl e
  where
    long : (code : ℕ) (rest : List ℕ) (o : Option (Front ℕ)) → number 4 rest ≡ o → long_of code o ≡ Some f → long_of code (number 4 (rest ++ more)) ≡ Some (longer f more)
    long code rest None g h = cc
    long code rest (Some size) g h = ap (long_of code) (number-more 4 rest more size g) ∙ ap (λ k. Some (longer k more)) (some_is _ _ h)

    form : (field : Front ℕ) (t : Bool) → (if t then long_of (field.it / 64) (number 4 field.rest) else Some (record { it = record { code = field.it / 64; long = false; length = field.it % 64 }; rest = field.rest })) ≡ Some f
        → (if t then long_of (field.it / 64) (number 4 (field.rest ++ more)) else Some (record { it = record { code = field.it / 64; long = false; length = field.it % 64 }; rest = field.rest ++ more })) ≡ Some (longer f more)
    form field true h = long (field.it / 64) field.rest (number 4 field.rest) refl h
    form field false h = ap (λ k. Some (longer k more)) (some_is _ _ h)

    by : (o : Option (Front ℕ)) → number 2 bytes ≡ o → header_of o ≡ Some f → next_header (bytes ++ more) ≡ Some (longer f more)
    by None g h = cc
    by (Some field) g h = ap header_of (number-more 2 bytes more field g) ∙ form field (field.it % 64 == 63) h

-- its last byte ends it
pub header-last : (bytes : List ℕ) (byte : ℕ) (f : Front Header) → next_header bytes ≡ None → next_header (bytes ++ byte ∷ []) ≡ Some f → f.rest ≡ []
unfolding next_header
header-last bytes byte f none e = by (number 2 bytes) (number 2 (bytes ++ byte ∷ [])) refl refl none e
  where
    empty : (code : ℕ) (rest : List ℕ) (o : Option (Front ℕ)) → number 4 rest ≡ o → rest ≡ [] → long_of code o ≡ Some f → f.rest ≡ []
    empty code rest None g is h = cc
    empty code rest (Some size) g is h = absurd (number-empty 3 rest size g is)

    now : (field : Front ℕ) (t : Bool) → field.rest ≡ [] → (if t then long_of (field.it / 64) (number 4 field.rest) else Some (record { it = record { code = field.it / 64; long = false; length = field.it % 64 }; rest = field.rest })) ≡ Some f → f.rest ≡ []
    now field true is h = empty (field.it / 64) field.rest (number 4 field.rest) refl is h
    now field false is h = ap (λ k. k.rest) (sym (some_is _ _ h)) ∙ is

    long : (code : ℕ) (rest : List ℕ) (o p : Option (Front ℕ)) → number 4 rest ≡ o → number 4 (rest ++ byte ∷ []) ≡ p → long_of code o ≡ None → long_of code p ≡ Some f → f.rest ≡ []
    long code rest (Some size) p g h i j = cc
    long code rest None None g h i j = cc
    long code rest None (Some size) g h i j = ap (λ k. k.rest) (sym (some_is _ _ j)) ∙ number-last 4 rest byte size g h

    later : (field : Front ℕ) (t : Bool)
        → (if t then long_of (field.it / 64) (number 4 field.rest) else Some (record { it = record { code = field.it / 64; long = false; length = field.it % 64 }; rest = field.rest })) ≡ None
        → (if t then long_of (field.it / 64) (number 4 (field.rest ++ byte ∷ [])) else Some (record { it = record { code = field.it / 64; long = false; length = field.it % 64 }; rest = field.rest ++ byte ∷ [] })) ≡ Some f → f.rest ≡ []
    later field true h i = long (field.it / 64) field.rest (number 4 field.rest) (number 4 (field.rest ++ byte ∷ [])) refl refl h i
    later field false h i = cc

    by : (o p : Option (Front ℕ)) → number 2 bytes ≡ o → number 2 (bytes ++ byte ∷ []) ≡ p → header_of o ≡ None → header_of p ≡ Some f → f.rest ≡ []
    by None None g h i j = cc
    by None (Some field) g h i j = now field (field.it % 64 == 63) (number-last 2 bytes byte field g h) j
    by (Some field) p g h i j =
        let same : p ≡ Some (longer field (byte ∷ [])) = sym h ∙ number-more 2 bytes (byte ∷ []) field g in
        later field (field.it % 64 == 63) i (ap header_of (sym same) ∙ j)

pub header-bytes : (bytes : List ℕ) (f : Front Header) → next_header bytes ≡ Some f → header_size f.it.long + length f.rest ≡ length bytes
unfolding next_header
header-bytes bytes f e = by (number 2 bytes) refl e
  where
    long : (code : ℕ) (rest : List ℕ) (o : Option (Front ℕ)) → number 4 rest ≡ o → 2 + length rest ≡ length bytes → long_of code o ≡ Some f → header_size f.it.long + length f.rest ≡ length bytes
    long code rest None g size h = cc
    long code rest (Some found) g size h =
        let behind = number-size 4 rest found g in
        let whole : 6 + length found.rest ≡ length bytes = omega arith in
        subst (λ (k : Front Header). header_size k.it.long + length k.rest ≡ length bytes) (some_is _ _ h) whole

    form : (field : Front ℕ) (t : Bool) → 2 + length field.rest ≡ length bytes
        → (if t then long_of (field.it / 64) (number 4 field.rest) else Some (record { it = record { code = field.it / 64; long = false; length = field.it % 64 }; rest = field.rest })) ≡ Some f
        → header_size f.it.long + length f.rest ≡ length bytes
    form field true size h = long (field.it / 64) field.rest (number 4 field.rest) refl size h
    form field false size h = subst (λ (k : Front Header). header_size k.it.long + length k.rest ≡ length bytes) (some_is _ _ h) size

    by : (o : Option (Front ℕ)) → number 2 bytes ≡ o → header_of o ≡ Some f → header_size f.it.long + length f.rest ≡ length bytes
    by None g h = cc
    by (Some field) g h = form field (field.it % 64 == 63) (number-size 2 bytes field g) h

-- what stands before the tags, and more bytes behind it
abbrev pub longer_head : Head → List ℕ → Head
longer_head head more = record { version = head.version; length = head.length; start = head.start; rest = head.rest ++ more }

frame-more : (version size : ℕ) (bytes more : List ℕ) (head : Head) → frame version size bytes ≡ Some head → frame version size (bytes ++ more) ≡ Some (longer_head head more)
frame-more version size [] more head e = cc
frame-more version size (first ∷ bytes) more head e = by (split (rectangle_size first + 4) (first ∷ bytes)) refl e
  where
    by : (o : Option (Front (List ℕ))) → split (rectangle_size first + 4) (first ∷ bytes) ≡ o → before_tags version size (rectangle_size first) o ≡ Some head
        → before_tags version size (rectangle_size first) (split (rectangle_size first + 4) (first ∷ (bytes ++ more))) ≡ Some (longer_head head more)
    by None g h = cc
    by (Some found) g h =
        ap (before_tags version size (rectangle_size first)) (split-more (rectangle_size first + 4) (first ∷ bytes) more found g)
        ∙ ap (λ k. Some (longer_head k more)) (some_is _ _ h)

frame-last : (version size : ℕ) (bytes : List ℕ) (byte : ℕ) (head : Head) → frame version size bytes ≡ None → frame version size (bytes ++ byte ∷ []) ≡ Some head → head.rest ≡ []
frame-last version size [] byte head none e = by (split (rectangle_size byte + 4) (byte ∷ [])) refl e
  where
    by : (o : Option (Front (List ℕ))) → split (rectangle_size byte + 4) (byte ∷ []) ≡ o → before_tags version size (rectangle_size byte) o ≡ Some head → head.rest ≡ []
    by None g h = cc
    by (Some found) g h =
        let parts = split-gives (rectangle_size byte + 4) (byte ∷ []) found.it found.rest g in
        let whole = ap length parts.0 in
        let right = length-append found.it found.rest in
        absurd (omega (arith, whole, right, parts.1))
frame-last version size (first ∷ bytes) byte head none e = by (split (rectangle_size first + 4) (first ∷ bytes)) (split (rectangle_size first + 4) (first ∷ (bytes ++ byte ∷ []))) refl refl none e
  where
    by : (o p : Option (Front (List ℕ))) → split (rectangle_size first + 4) (first ∷ bytes) ≡ o → split (rectangle_size first + 4) (first ∷ (bytes ++ byte ∷ [])) ≡ p
        → before_tags version size (rectangle_size first) o ≡ None → before_tags version size (rectangle_size first) p ≡ Some head → head.rest ≡ []
    by (Some found) p g h i j = cc
    by None None g h i j = cc
    by None (Some found) g h i j = ap (λ k. k.rest) (sym (some_is _ _ j)) ∙ split-last (rectangle_size first + 4) (first ∷ bytes) byte found g h

frame-bytes : (version size : ℕ) (bytes : List ℕ) (head : Head) → frame version size bytes ≡ Some head → head.start + length head.rest ≡ 8 + length bytes
frame-bytes version size [] head e = cc
frame-bytes version size (first ∷ bytes) head e = by (split (rectangle_size first + 4) (first ∷ bytes)) refl e
  where
    by : (o : Option (Front (List ℕ))) → split (rectangle_size first + 4) (first ∷ bytes) ≡ o → before_tags version size (rectangle_size first) o ≡ Some head
        → head.start + length head.rest ≡ 8 + length (first ∷ bytes)
    by None g h = cc
    by (Some found) g h =
        let parts = split-gives (rectangle_size first + 4) (first ∷ bytes) found.it found.rest g in
        let whole = ap length parts.0 in
        let right = length-append found.it found.rest in
        let here : 12 + rectangle_size first + length found.rest ≡ 8 + length (first ∷ bytes) = omega (arith, whole, right, parts.1) in
        subst (λ (k : Head). k.start + length k.rest ≡ 8 + length (first ∷ bytes)) (some_is _ _ h) here

pub head-more : (bytes more : List ℕ) (head : Head) → behind_signature bytes ≡ Some head → behind_signature (bytes ++ more) ≡ Some (longer_head head more)
unfolding behind_signature
head-more [] more head e = cc
head-more (version ∷ bytes) more head e = by (number 4 bytes) refl e
  where
    by : (o : Option (Front ℕ)) → number 4 bytes ≡ o → behind_length version o ≡ Some head → behind_length version (number 4 (bytes ++ more)) ≡ Some (longer_head head more)
    by None g h = cc
    by (Some size) g h = ap (behind_length version) (number-more 4 bytes more size g) ∙ frame-more version size.it size.rest more head h

pub head-last : (bytes : List ℕ) (byte : ℕ) (head : Head) → behind_signature bytes ≡ None → behind_signature (bytes ++ byte ∷ []) ≡ Some head → head.rest ≡ []
unfolding behind_signature
head-last [] byte head none e = by (number 4 []) refl e
  where
    by : (o : Option (Front ℕ)) → number 4 [] ≡ o → behind_length byte o ≡ Some head → head.rest ≡ []
    by None g h = cc
    by (Some size) g h = absurd (number-empty 3 [] size g refl)
head-last (version ∷ bytes) byte head none e = by (number 4 bytes) (number 4 (bytes ++ byte ∷ [])) refl refl none e
  where
    empty : (size : ℕ) (rest : List ℕ) → rest ≡ [] → frame version size rest ≡ Some head → head.rest ≡ []
    empty size [] is h = cc
    empty size (first ∷ rest) is h = cc

    by : (o p : Option (Front ℕ)) → number 4 bytes ≡ o → number 4 (bytes ++ byte ∷ []) ≡ p → behind_length version o ≡ None → behind_length version p ≡ Some head → head.rest ≡ []
    by None None g h i j = cc
    by None (Some size) g h i j = empty size.it size.rest (number-last 4 bytes byte size g h) j
    by (Some size) p g h i j =
        let same : p ≡ Some (longer size (byte ∷ [])) = sym h ∙ number-more 4 bytes (byte ∷ []) size g in
        frame-last version size.it size.rest byte head i (ap (behind_length version) (sym same) ∙ j)

pub head-bytes : (bytes : List ℕ) (head : Head) → behind_signature bytes ≡ Some head → head.start + length head.rest ≡ 3 + length bytes
unfolding behind_signature
head-bytes [] head e = cc
head-bytes (version ∷ bytes) head e = by (number 4 bytes) refl e
  where
    by : (o : Option (Front ℕ)) → number 4 bytes ≡ o → behind_length version o ≡ Some head → head.start + length head.rest ≡ 3 + length (version ∷ bytes)
    by None g h = cc
    by (Some size) g h =
        let here = number-size 4 bytes size g in
        let behind = frame-bytes version size.it size.rest head h in
        omega (arith, here, behind)
