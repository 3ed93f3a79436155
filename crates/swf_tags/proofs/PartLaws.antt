-- Tags, programs and pairs are read, and what is read is there.
use Rattle.flex_base.proofs.OptionLaws.{some_is}
use Rattle.flex_base.proofs.ResultLaws.{ok_is}
use Rattle.std.proofs.Common.{◌≡◌, ℕ, zero, suc, ◌+◌, ◌*◌, ◌/◌, ◌%◌, ◌^◌, ◌<◌, Bool, true, false, List, [], ◌∷◌, ◌++◌, length, Option, Some, None, Ok, refl, sym, ap, ap₂, subst, ◌∙◌, arith, append_assoc}
use Rattle.std.specs.Prelude.{if◌then◌else◌, ◌==◌}
use Rattle.std.proofs.lemmas.Bool.{ne_eqb, eqb-true, eqb-false}
use Rattle.byteorder.specs.Endian.{little_bytes}
use Rattle.flex_base.specs.Split.{Split, Each}
use Rattle.swf_tags.specs.Spelling.{zero_ended}
use Rattle.swf_tags.specs.File.{AreBytes, Part, Pair, IsHeader, IsPart, IsName, IsDoAbc, IsPair, IsSymbolClass, first_of, main_of, main_in, header_bytes, size_limit}
use Rattle.swf_tags.specs.Fields.{Front, split, number_of, number, name}
use Rattle.swf_tags.specs.Reading.{long_of, header_of, next_header, part_of, behind_header, next_part, behind_name, behind_flags, read_program, pair_named, pair_of, next_pair, and_then, read_pairs, read_symbols}
use Rattle.swf_tags.specs.declared.types.Header.{Header}
use Rattle.swf_tags.proofs.FieldLaws.{split-front, split-gives, number-front, number-gives, name-front, name-gives, append-bytes}

-- one part and another behind it
pub both : (P Q : List ℕ → Type 0) (front back : List ℕ) → P front → Q back → Split P Q (front ++ back)
both P Q front back first second = record { front = front; back = back; is = refl; first = first; second = second }

short-front : (code size : ℕ) (rest : List ℕ) → code < 1024 → size < 63
    → next_header (header_bytes false code size ++ rest) ≡ Some (record { it = record { code = code; long = false; length = size }; rest = rest })
unfolding next_header
short-front code size rest small short =
    let head : 64 * code + size < 65536 = omega arith in
    let high : (64 * code + size) / 64 ≡ code = omega arith in
    let low : (64 * code + size) % 64 ≡ size = omega arith in
    let otherwise : ℕ → ℕ → Option (Front Header) = λ c n. Some (record { it = record { code = c; long = false; length = n }; rest = rest }) in
    ap header_of (number-front 2 (64 * code + size) rest head)
    ∙ ap (λ c. if ((64 * code + size) % 64) == 63 then long_of c (number 4 rest) else otherwise c ((64 * code + size) % 64)) high
    ∙ ap (λ n. if n == 63 then long_of code (number 4 rest) else otherwise code n) low
    ∙ ap (λ t. if t then long_of code (number 4 rest) else otherwise code size) (ne_eqb size 63 (λ e. absurd (omega arith)))

long-front : (code size : ℕ) (rest : List ℕ) → code < 1024 → size < 2 ^ 32
    → next_header (header_bytes true code size ++ rest) ≡ Some (record { it = record { code = code; long = true; length = size }; rest = rest })
unfolding next_header
long-front code size rest small fits =
    let field = little_bytes 4 size ++ rest in
    let head : 64 * code + 63 < 65536 = omega arith in
    let high : (64 * code + 63) / 64 ≡ code = omega arith in
    let low : (64 * code + 63) % 64 ≡ 63 = omega arith in
    let otherwise : ℕ → ℕ → Option (Front Header) = λ c n. Some (record { it = record { code = c; long = false; length = n }; rest = field }) in
    ap header_of (number-front 2 (64 * code + 63) field head)
    ∙ ap (λ c. if ((64 * code + 63) % 64) == 63 then long_of c (number 4 field) else otherwise c ((64 * code + 63) % 64)) high
    ∙ ap (λ n. if n == 63 then long_of code (number 4 field) else otherwise code n) low
    ∙ ap (long_of code) (number-front 4 size rest fits)

part-behind : (place : ℕ) (long : Bool) (code : ℕ) (body rest : List ℕ) → code < 1024 → length body < size_limit long
    → next_part place (header_bytes long code (length body) ++ (body ++ rest)) ≡ Ok (record { it = record { code = code; long = long; body = body }; rest = rest })
unfolding next_part
part-behind place false code body rest small short =
    ap (behind_header place) (short-front code (length body) (body ++ rest) small short)
    ∙ ap (part_of place (record { code = code; long = false; length = length body })) (split-front (length body) body rest refl)
part-behind place true code body rest small fits =
    ap (behind_header place) (long-front code (length body) (body ++ rest) small fits)
    ∙ ap (part_of place (record { code = code; long = true; length = length body })) (split-front (length body) body rest refl)

-- a tag is read
pub part-front : (place : ℕ) (part : Part) (bytes rest : List ℕ) → IsPart part bytes → next_part place (bytes ++ rest) ≡ Ok (record { it = part; rest = rest })
part-front place part bytes rest w =
    ap (λ l. next_part place (l ++ rest)) w.is
    ∙ ap (next_part place) (append_assoc w.front w.back rest)
    ∙ ap₂ (λ a b. next_part place (a ++ (b ++ rest))) w.first.is w.second
    ∙ part-behind place part.long part.code part.body rest w.first.code_fits w.first.size_fits

-- the header that is read is there
record HeaderStands (h : Header) (rest bytes : List ℕ) : Type 0 where
  code_fits : h.code < 1024
  size_fits : h.length < size_limit h.long
  is : bytes ≡ header_bytes h.long h.code h.length ++ rest

long-gives : (code : ℕ) (bytes rest : List ℕ) (h : Header) → code < 1024 → AreBytes bytes → long_of code (number 4 bytes) ≡ Some (record { it = h; rest = rest })
    → HeaderStands h rest (little_bytes 2 (64 * code + 63) ++ bytes)
long-gives code bytes rest h small are e = by (number 4 bytes) refl e
  where
    by : (o : Option (Front ℕ)) → number 4 bytes ≡ o → long_of code o ≡ Some (record { it = h; rest = rest }) → HeaderStands h rest (little_bytes 2 (64 * code + 63) ++ bytes)
    by None f g = cc
    by (Some size) f g =
        let is = some_is _ _ g in
        let parts = number-gives 4 size.it bytes size.rest are f in
        let whole : little_bytes 2 (64 * code + 63) ++ bytes ≡ header_bytes true code size.it ++ size.rest = ap (λ l. little_bytes 2 (64 * code + 63) ++ l) parts.0 in
        let stands : HeaderStands (record { code = code; long = true; length = size.it }) size.rest (little_bytes 2 (64 * code + 63) ++ bytes) = record { code_fits = small; size_fits = parts.1; is = whole } in
        subst (λ (f : Front Header). HeaderStands f.it f.rest (little_bytes 2 (64 * code + 63) ++ bytes)) is stands

header-gives : (bytes rest : List ℕ) (h : Header) → AreBytes bytes → next_header bytes ≡ Some (record { it = h; rest = rest }) → HeaderStands h rest bytes
unfolding next_header
header-gives bytes rest h are e = by (number 2 bytes) refl e
  where
    form : (field : Front ℕ) → bytes ≡ little_bytes 2 field.it ++ field.rest → field.it < 65536 → AreBytes field.rest → (t : Bool) → (field.it % 64 == 63) ≡ t
        → (if t then long_of (field.it / 64) (number 4 field.rest) else Some (record { it = record { code = field.it / 64; long = false; length = field.it % 64 }; rest = field.rest })) ≡ Some (record { it = h; rest = rest })
        → HeaderStands h rest bytes
    form field is fits are_rest true f g =
        let low = eqb-true (field.it % 64) 63 f in
        let whole : field.it ≡ 64 * (field.it / 64) + 63 = omega (arith, low) in
        let stands = long-gives (field.it / 64) field.rest rest h (omega arith) are_rest g in
        subst (HeaderStands h rest) (sym (is ∙ ap (λ (n : ℕ). little_bytes 2 n ++ field.rest) whole)) stands
    form field is fits are_rest false f g =
        let low = eqb-false (field.it % 64) 63 f in
        let whole : field.it ≡ 64 * (field.it / 64) + field.it % 64 = omega arith in
        let same = some_is _ _ g in
        let stands : HeaderStands (record { code = field.it / 64; long = false; length = field.it % 64 }) field.rest bytes =
        record { code_fits = omega arith; size_fits = omega (arith, low); is = is ∙ ap (λ (n : ℕ). little_bytes 2 n ++ field.rest) whole } in
        subst (λ (k : Front Header). HeaderStands k.it k.rest bytes) same stands

    by : (o : Option (Front ℕ)) → number 2 bytes ≡ o → header_of o ≡ Some (record { it = h; rest = rest }) → HeaderStands h rest bytes
    by None f g = cc
    by (Some field) f g =
        let parts = number-gives 2 field.it bytes field.rest are f in
        form field parts.0 parts.1 (append-bytes (little_bytes 2 field.it) field.rest bytes parts.0 are).1 (field.it % 64 == 63) refl g

-- the tag that is read is there
pub part-gives : (place : ℕ) (bytes : List ℕ) (part : Front Part) → AreBytes bytes → next_part place bytes ≡ Ok part → Split (IsPart part.it) (λ back. back ≡ part.rest) bytes
unfolding next_part
part-gives place [] part are e = cc
part-gives place (byte ∷ bytes) part are e = by (next_header (byte ∷ bytes)) refl e
  where
    body : (h : Front Header) → HeaderStands h.it h.rest (byte ∷ bytes) → (o : Option (Front (List ℕ))) → split h.it.length h.rest ≡ o → part_of place h.it o ≡ Ok part
        → Split (IsPart part.it) (λ back. back ≡ part.rest) (byte ∷ bytes)
    body h stands None f g = cc
    body h stands (Some found) f g =
        let same = ok_is (part_of place h.it (Some found)) _ _ refl g in
        let parts = split-gives h.it.length h.rest found.it found.rest f in
        let head = header_bytes h.it.long h.it.code h.it.length in
        let one : IsPart (record { code = h.it.code; long = h.it.long; body = found.it }) (head ++ found.it) =
        both (IsHeader (record { code = h.it.code; long = h.it.long; body = found.it })) (λ back. back ≡ found.it) head found.it
        (record {
          code_fits = stands.code_fits;
          size_fits = subst (λ (n : ℕ). n < size_limit h.it.long) (sym parts.1) stands.size_fits;
          is = ap (header_bytes h.it.long h.it.code) (sym parts.1);
        }) refl in
        let whole : Split (IsPart (record { code = h.it.code; long = h.it.long; body = found.it })) (λ back. back ≡ found.rest) (byte ∷ bytes) =
        record {
          front = head ++ found.it;
          back = found.rest;
          is = stands.is ∙ ap (λ l. head ++ l) parts.0 ∙ sym (append_assoc head found.it found.rest);
          first = one;
          second = refl;
        } in
        subst (λ (k : Front Part). Split (IsPart k.it) (λ back. back ≡ k.rest) (byte ∷ bytes)) same whole

    by : (o : Option (Front Header)) → next_header (byte ∷ bytes) ≡ o → behind_header place o ≡ Ok part → Split (IsPart part.it) (λ back. back ≡ part.rest) (byte ∷ bytes)
    by None f g = cc
    by (Some h) f g = body h (header-gives (byte ∷ bytes) h.rest h.it are f) (split h.it.length h.rest) refl g

-- the ABC of a DoABC is read
pub program-read : (abc body : List ℕ) → IsDoAbc abc body → read_program body ≡ Some abc
unfolding read_program
program-read abc body w =
    let flagged = w.parts in
    let named = w.parts.second in
    ap (λ l. behind_flags (number 4 l)) flagged.is
    ∙ ap (λ o. behind_flags (number_of 4 o)) (split-front 4 flagged.front flagged.back flagged.first)
    ∙ ap (λ l. behind_name (name l)) (named.is ∙ ap₂ (λ l m. l ++ m) named.first.is named.second)
    ∙ ap behind_name (name-front w.name abc named.first.no_zero named.first.valid)

-- the ABC that is read stands in a DoABC
pub program-gives : (abc body : List ℕ) → read_program body ≡ Some abc → IsDoAbc abc body
unfolding read_program
program-gives abc body e = by (split 4 body) refl e
  where
    behind : (flags : Front (List ℕ)) → (body ≡ flags.it ++ flags.rest) × (length flags.it ≡ 4) → (o : Option (Front (List ℕ))) → name flags.rest ≡ o → behind_name o ≡ Some abc → IsDoAbc abc body
    behind flags parts None f g = cc
    behind flags parts (Some found) f g =
        let named = name-gives flags.rest found.it found.rest f in
        record {
          name = found.it;
          parts = record {
            front = flags.it;
            back = flags.rest;
            is = parts.0;
            first = parts.1;
            second = record { front = zero_ended found.it; back = found.rest; is = named.1; first = named.0; second = some_is _ _ g };
          };
        }

    by : (o : Option (Front (List ℕ))) → split 4 body ≡ o → behind_flags (number_of 4 o) ≡ Some abc → IsDoAbc abc body
    by None f g = cc
    by (Some flags) f g = behind flags (split-gives 4 body flags.it flags.rest f) (name flags.rest) refl g

-- a pair is read
pair-front : (pair : Pair) (bytes rest : List ℕ) → IsPair pair bytes → next_pair (bytes ++ rest) ≡ Some (record { it = pair; rest = rest })
unfolding next_pair
pair-front pair bytes rest w =
    ap (λ l. next_pair (l ++ rest)) (w.parts.is ∙ ap₂ (λ a b. a ++ b) w.parts.first w.parts.second.is)
    ∙ ap next_pair (append_assoc (little_bytes 2 pair.id) (zero_ended pair.name) rest)
    ∙ ap pair_of (number-front 2 pair.id (zero_ended pair.name ++ rest) w.id_fits)
    ∙ ap (pair_named pair.id) (name-front pair.name rest w.parts.second.no_zero w.parts.second.valid)

-- the pair that is read is there
pair-gives : (bytes : List ℕ) (pair : Front Pair) → AreBytes bytes → next_pair bytes ≡ Some pair → Split (IsPair pair.it) (λ back. back ≡ pair.rest) bytes
unfolding next_pair
pair-gives bytes pair are e = by (number 2 bytes) refl e
  where
    behind : (id : Front ℕ) → (bytes ≡ little_bytes 2 id.it ++ id.rest) × (id.it < 65536) → (o : Option (Front (List ℕ))) → name id.rest ≡ o → pair_named id.it o ≡ Some pair
        → Split (IsPair pair.it) (λ back. back ≡ pair.rest) bytes
    behind id parts None f g = cc
    behind id parts (Some found) f g =
        let named = name-gives id.rest found.it found.rest f in
        let same = some_is _ _ g in
        let whole : Split (IsPair (record { id = id.it; name = found.it })) (λ back. back ≡ found.rest) bytes =
        record {
          front = little_bytes 2 id.it ++ zero_ended found.it;
          back = found.rest;
          is = parts.0 ∙ ap (λ l. little_bytes 2 id.it ++ l) named.1 ∙ sym (append_assoc (little_bytes 2 id.it) (zero_ended found.it) found.rest);
          first = record { id_fits = parts.1; parts = both (λ front. front ≡ little_bytes 2 id.it) (IsName found.it) (little_bytes 2 id.it) (zero_ended found.it) refl named.0 };
          second = refl;
        } in
        subst (λ (k : Front Pair). Split (IsPair k.it) (λ back. back ≡ k.rest) bytes) same whole

    by : (o : Option (Front ℕ)) → number 2 bytes ≡ o → pair_of o ≡ Some pair → Split (IsPair pair.it) (λ back. back ≡ pair.rest) bytes
    by None f g = cc
    by (Some id) f g = behind id (number-gives 2 id.it bytes id.rest are f) (name id.rest) refl g

pub first_of-first_of : (a b c : Option (List ℕ)) → first_of (first_of a b) c ≡ first_of a (first_of b c)
first_of-first_of None b c = refl
first_of-first_of (Some a) b c = refl

pub first_of-none : (a : Option (List ℕ)) → first_of a None ≡ a
first_of-none None = refl
first_of-none (Some a) = refl

pairs-read : (pairs : List Pair) (main : Option (List ℕ)) (bytes : List ℕ) → Each IsPair pairs bytes → read_pairs (length pairs) main bytes ≡ Some (first_of main (main_in pairs))
pairs-read [] main bytes each = ap (read_pairs 0 main) each ∙ ap Some (sym (first_of-none main))
pairs-read (pair ∷ pairs) main bytes each =
    ap (λ l. and_then (next_pair l) (λ it rest. read_pairs (length pairs) (first_of main (main_of it)) rest)) each.is
    ∙ ap (λ o. and_then o (λ it rest. read_pairs (length pairs) (first_of main (main_of it)) rest)) (pair-front pair each.front each.back each.first)
    ∙ pairs-read pairs (first_of main (main_of pair)) each.back each.second
    ∙ ap Some (first_of-first_of main (main_of pair) (main_in pairs))

-- the name in a SymbolClass is read
pub symbols-read : (pairs : List Pair) (body : List ℕ) → IsSymbolClass pairs body → read_symbols body ≡ Some (main_in pairs)
unfolding read_symbols
symbols-read pairs body w =
    ap (λ l. and_then (number 2 l) (λ count rest. read_pairs count None rest)) (w.parts.is ∙ ap (λ l. l ++ w.parts.back) w.parts.first)
    ∙ ap (λ o. and_then o (λ count rest. read_pairs count None rest)) (number-front 2 (length pairs) w.parts.back w.count_fits)
    ∙ pairs-read pairs None w.parts.back w.parts.second

-- so many pairs are there
record PairsStand (count : ℕ) (main found : Option (List ℕ)) (bytes : List ℕ) : Type 0 where
  pairs : List Pair
  many : length pairs ≡ count
  each : Each IsPair pairs bytes
  is : found ≡ first_of main (main_in pairs)

empty_is : (bytes : List ℕ) → length bytes ≡ 0 → bytes ≡ []
empty_is [] e = refl
empty_is (byte ∷ bytes) e = absurd (omega arith)

pairs-give : (count : ℕ) (main found : Option (List ℕ)) (bytes : List ℕ) → AreBytes bytes → read_pairs count main bytes ≡ Some found → PairsStand count main found bytes
pairs-give zero main found bytes are e = by (length bytes == 0) refl e
  where
    by : (t : Bool) → (length bytes == 0) ≡ t → (if t then Some main else None) ≡ Some found → PairsStand 0 main found bytes
    by false f g = cc
    by true f g = record { pairs = []; many = refl; each = empty_is bytes (eqb-true (length bytes) 0 f); is = sym (some_is _ _ g) ∙ sym (first_of-none main) }
pairs-give (suc count) main found bytes are e = by (λ (pair : Front Pair) small f. pairs-give count (first_of main (main_of pair.it)) found pair.rest small f) (next_pair bytes) refl e
  where
    by : ((pair : Front Pair) → AreBytes pair.rest → read_pairs count (first_of main (main_of pair.it)) pair.rest ≡ Some found → PairsStand count (first_of main (main_of pair.it)) found pair.rest)
        → (o : Option (Front Pair)) → next_pair bytes ≡ o → and_then o (λ it rest. read_pairs count (first_of main (main_of it)) rest) ≡ Some found → PairsStand (suc count) main found bytes
    by inner None f g = cc
    by inner (Some pair) f g =
        let here = pair-gives bytes pair are f in
        let is : bytes ≡ here.front ++ pair.rest = here.is ∙ ap (λ l. here.front ++ l) here.second in
        let more = inner pair (append-bytes here.front pair.rest bytes is are).1 g in
        record {
          pairs = pair.it ∷ more.pairs;
          many = ap suc more.many;
          each = record { front = here.front; back = pair.rest; is = is; first = here.first; second = more.each };
          is = more.is ∙ first_of-first_of main (main_of pair.it) (main_in more.pairs);
        }

-- what is read in a SymbolClass is there
pub record SymbolsStand (found : Option (List ℕ)) (body : List ℕ) : Type 0 where
  pub pairs : List Pair
  pub holds : IsSymbolClass pairs body
  pub is : found ≡ main_in pairs

pub symbols-give : (found : Option (List ℕ)) (body : List ℕ) → AreBytes body → read_symbols body ≡ Some found → SymbolsStand found body
unfolding read_symbols
symbols-give found body are e = by (number 2 body) refl e
  where
    by : (o : Option (Front ℕ)) → number 2 body ≡ o → and_then o (λ count rest. read_pairs count None rest) ≡ Some found → SymbolsStand found body
    by None f g = cc
    by (Some count) f g =
        let parts = number-gives 2 count.it body count.rest are f in
        let stands = pairs-give count.it None found count.rest (append-bytes (little_bytes 2 count.it) count.rest body parts.0 are).1 g in
        record {
          pairs = stands.pairs;
          holds = record {
            count_fits = subst (λ (n : ℕ). n < 65536) (sym stands.many) parts.1;
            parts = record { front = little_bytes 2 count.it; back = count.rest; is = parts.0; first = ap (little_bytes 2) (sym stands.many); second = stands.each };
          };
          is = stands.is;
        }
