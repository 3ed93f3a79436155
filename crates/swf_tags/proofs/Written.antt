-- The written bytes are a SWF file.
use Rattle.std.proofs.Common.{◌≡◌, ℕ, ◌+◌, ◌*◌, ◌^◌, ◌<◌, ◌≤◌, true, false, List, [], ◌∷◌, ◌++◌, length, refl, sym, ap, ◌∙◌, inl, inr, arith, append_assoc, length-append}
use Rattle.std.specs.Prelude.{◌≢◌, All, codes, nat_le, if◌then◌else◌}
use Rattle.std.specs.Str.{IsUtf8}
use Rattle.std.proofs.lemmas.Bool.{lt-ltb, le-ltb, lt-leb, le-leb, cases_lt}
use Rattle.std.proofs.lemmas.List.{append-nil}
use Rattle.std.proofs.lemmas.List.Elements.{All-from_recursion}
use Rattle.byteorder.specs.Endian.{little_bytes}
use Rattle.byteorder.specs.Numbers.{length-bytes_low_first}
use Rattle.flex_base.specs.Split.{Each}
use Rattle.swf_tags.specs.Spelling.{end_tag, show_frame, set_background_color, file_attributes, symbol_class, do_abc, long_header, header, tag, zero_ended, frame_header, abc_body, symbol_body, do_abc_tag, tags, content, swf_bytes}
use Rattle.swf_tags.specs.File.{IsHeader, IsPart, IsName, IsDoAbc, IsPair, IsSymbolClass, EndsOnce, written_parts}
use Rattle.swf_tags.specs.SwfLaws.{SwfIsWritten}
use Rattle.swf_tags.proofs.PartLaws.{both}

short-is_part : (code : ℕ) (body : List ℕ) → code < 1024 → length body < 63 → IsPart (record { code = code; long = false; body = body }) (tag code body)
short-is_part code body small short =
    both (IsHeader (record { code = code; long = false; body = body })) (λ back. back ≡ body) (header code (length body)) body
    (record { code_fits = small; size_fits = short; is = ap (λ t. if t then little_bytes 2 (64 * code + length body) else long_header code (length body)) (lt-ltb (length body) 63 short) }) refl

long-is_part : (code : ℕ) (body : List ℕ) → code < 1024 → 63 ≤ length body → length body < 2 ^ 32 → IsPart (record { code = code; long = true; body = body }) (tag code body)
long-is_part code body small long fits =
    both (IsHeader (record { code = code; long = true; body = body })) (λ back. back ≡ body) (header code (length body)) body
    (record { code_fits = small; size_fits = fits; is = ap (λ t. if t then little_bytes 2 (64 * code + length body) else long_header code (length body)) (le-ltb (length body) 63 long) }) refl

-- the header is the short one where that is enough
tag-is_part : (code : ℕ) (body : List ℕ) → code < 1024 → length body < 2 ^ 32 → IsPart (record { code = code; long = nat_le 63 (length body); body = body }) (tag code body)
tag-is_part code body small fits =
    elim (cases_lt (length body) 63) [
      | inl short ↦ rw (lt-leb 63 (length body) short) (short-is_part code body small short)
      | inr long ↦ rw (le-leb 63 (length body) long) (long-is_part code body small long fits)
    ]

-- the program's tag, whose header is always the long one
program-is_part : (abc : List ℕ) → length abc ≤ 2000000000 → IsPart (record { code = do_abc; long = true; body = abc_body abc }) (do_abc_tag abc)
program-is_part abc fits =
    let size : length (abc_body abc) ≡ 10 + length abc = omega arith in
    both (IsHeader (record { code = do_abc; long = true; body = abc_body abc })) (λ back. back ≡ abc_body abc) (long_header do_abc (10 + length abc)) (abc_body abc)
    (record { code_fits = omega arith; size_fits = omega (arith, size); is = ap (long_header do_abc) (sym size) }) refl

-- the tags one behind another
abbrev grouped : List ℕ → List ℕ → List ℕ
grouped main abc =
    tag file_attributes (0x08 ∷ 0x00 ∷ 0x00 ∷ 0x00 ∷ []) ++ (tag set_background_color (0xFF ∷ 0xFF ∷ 0xFF ∷ [])
    ++ (do_abc_tag abc ++ (tag symbol_class (symbol_body main) ++ (tag show_frame [] ++ (tag end_tag [] ++ [])))))

regrouped : (a b c d e f : List ℕ) → ((((a ++ b) ++ c) ++ d) ++ e) ++ f ≡ (a ++ (b ++ (c ++ (d ++ (e ++ (f ++ [])))))) ++ []
regrouped a b c d e f = simp (append_assoc, append-nil)

tags-grouped : (main abc : List ℕ) → tags main abc ≡ grouped main abc ++ []
tags-grouped main abc =
    regrouped (tag file_attributes (0x08 ∷ 0x00 ∷ 0x00 ∷ 0x00 ∷ [])) (tag set_background_color (0xFF ∷ 0xFF ∷ 0xFF ∷ [])) (do_abc_tag abc)
    (tag symbol_class (symbol_body main)) (tag show_frame []) (tag end_tag [])

each-part : (main abc : List ℕ) → length main + length abc ≤ 2000000000 → Each IsPart (written_parts main abc) (grouped main abc)
each-part main abc fits =
    let named = length-append main (0 ∷ []) in
    let closing = tag show_frame [] ++ (tag end_tag [] ++ []) in
    let symbols = tag symbol_class (symbol_body main) ++ closing in
    let program_on = do_abc_tag abc ++ symbols in
    let colored = tag set_background_color (0xFF ∷ 0xFF ∷ 0xFF ∷ []) ++ program_on in
    both _ _ (tag file_attributes (0x08 ∷ 0x00 ∷ 0x00 ∷ 0x00 ∷ [])) colored (short-is_part file_attributes (0x08 ∷ 0x00 ∷ 0x00 ∷ 0x00 ∷ []) (omega arith) (omega arith))
    (both _ _ (tag set_background_color (0xFF ∷ 0xFF ∷ 0xFF ∷ [])) program_on (short-is_part set_background_color (0xFF ∷ 0xFF ∷ 0xFF ∷ []) (omega arith) (omega arith))
    (both _ _ (do_abc_tag abc) symbols (program-is_part abc (omega arith))
    (both _ _ (tag symbol_class (symbol_body main)) closing (tag-is_part symbol_class (symbol_body main) (omega arith) (omega arith))
    (both _ _ (tag show_frame []) (tag end_tag [] ++ []) (short-is_part show_frame [] (omega arith) (omega arith))
    (both _ _ (tag end_tag []) [] (short-is_part end_tag [] (omega arith) (omega arith)) refl)))))

name-is_name : IsName (codes "flexc") (zero_ended (codes "flexc"))
unfolding lib.Utf8.encode
name-is_name =
    record {
      no_zero = All-from_recursion (λ byte. byte ≢ 0) (codes "flexc") ((λ e. omega arith), ((λ e. omega arith), ((λ e. omega arith), ((λ e. omega arith), ((λ e. omega arith), tt)))));
      valid = (codes "flexc", (refl, refl));
      is = refl;
    }

body-is_do_abc : (abc : List ℕ) → IsDoAbc abc (abc_body abc)
body-is_do_abc abc =
    record {
      name = codes "flexc";
      parts = both _ _ (little_bytes 4 0) (zero_ended (codes "flexc") ++ abc) (length-bytes_low_first 0 4 0) (both _ _ (zero_ended (codes "flexc")) abc name-is_name refl);
    }

-- the one pair
pair-is_pair : (main : List ℕ) → All (λ byte. byte ≢ 0) main → IsUtf8 main → IsPair (record { id = 0; name = main }) (little_bytes 2 0 ++ zero_ended main)
pair-is_pair main no_zero valid = record {
  id_fits = omega arith;
  parts = both (λ front. front ≡ little_bytes 2 0) (IsName main) (little_bytes 2 0) (zero_ended main) refl (record { no_zero = no_zero; valid = valid; is = refl });
}

body-is_symbol_class : (main : List ℕ) → All (λ byte. byte ≢ 0) main → IsUtf8 main → IsSymbolClass (record { id = 0; name = main } ∷ []) (symbol_body main)
body-is_symbol_class main no_zero valid = record {
  count_fits = omega arith;
  parts = record {
    front = little_bytes 2 1;
    back = little_bytes 2 0 ++ zero_ended main;
    is = refl;
    first = refl;
    second = record { front = little_bytes 2 0 ++ zero_ended main; back = []; is = sym (append-nil (little_bytes 2 0 ++ zero_ended main)); first = pair-is_pair main no_zero valid; second = refl };
  };
}

-- End stands last alone
one-end : (main abc : List ℕ) → EndsOnce (written_parts main abc)
one-end main abc =
    inr ((λ e. omega arith), inr ((λ e. omega arith), inr ((λ e. omega arith), inr ((λ e. omega arith), inr ((λ e. omega arith), inl (refl, refl))))))

header-size : (code n : ℕ) → length (header code n) ≤ 6
header-size code n =
    elim (cases_lt n 63) [
      | inl short ↦ rw (lt-ltb n 63 short) (omega arith)
      | inr long ↦ rw (le-ltb n 63 long) (omega arith)
    ]

content-size : (main abc : List ℕ) → length (content main abc) ≤ 100 + length main + length abc
content-size main abc =
    let size = header-size symbol_class (length (symbol_body main)) in
    let named = length-append main (0 ∷ []) in
    let all = length-append (header symbol_class (length (symbol_body main))) (symbol_body main) in
    let closing = tag show_frame [] ++ (tag end_tag [] ++ []) in
    let whole = length-append (tag symbol_class (symbol_body main)) closing in
    let rest = length-append abc (tag symbol_class (symbol_body main) ++ closing) in
    let none = ap length (append-nil (grouped main abc)) in
    let together = ap length (tags-grouped main abc) in
    omega arith

-- what is written is a SWF file with both in it
pub written-is_swf : SwfIsWritten
written-is_swf main abc no_zero valid fits =
    let size = content-size main abc in
    let said : 8 + length (content main abc) ≡ length (swf_bytes main abc) = omega arith in
    record {
      rectangle = 0x78 ∷ 0x00 ∷ 0x04 ∷ 0xE2 ∷ 0x00 ∷ 0x00 ∷ 0x0E ∷ 0xA6 ∷ 0x00 ∷ [];
      frames = 0x00 ∷ 0x18 ∷ 0x01 ∷ 0x00 ∷ [];
      tag_bytes = grouped main abc;
      behind = [];
      parts = written_parts main abc;
      symbols = (record { id = 0; name = main } ∷ []) ∷ [];
      is =
          ap (λ n. codes "FWS" ++ 10 ∷ [] ++ little_bytes 4 n ++ content main abc) said
          ∙ ap (λ l. codes "FWS" ++ 10 ∷ [] ++ little_bytes 4 (length (swf_bytes main abc)) ++ (frame_header ++ l)) (tags-grouped main abc);
      fits = omega arith;
      is_rectangle = record { first = 0x78; others = 0x00 ∷ 0x04 ∷ 0xE2 ∷ 0x00 ∷ 0x00 ∷ 0x0E ∷ 0xA6 ∷ 0x00 ∷ []; is = refl; size = refl };
      four = refl;
      each = each-part main abc fits;
      placed = refl;
      ends = one-end main abc;
      program = record { body = abc_body abc; one = refl; holds = body-is_do_abc abc };
      named = (body-is_symbol_class main no_zero valid, tt);
      main_class = refl;
    }
