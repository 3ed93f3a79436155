-- What bytes say as a SWF file, or the first place at which they are none and the reason: the header comes first, then the tags in
-- order up to End, and the length of the file last.
use Rattle.std.specs.Prelude.{◌≡◌, ℕ, zero, suc, ◌+◌, ◌/◌, ◌%◌, ◌&&◌, ◌||◌, Bool, true, false, List, [], ◌∷◌, ◌++◌, length, drop, if◌then◌else◌, ◌==◌, nat_le, Option, Some, None, Result, Ok, Err, MatchResult}
use Rattle.std.specs.Option.{is_none}
use Rattle.std.specs.Result.{is_ok}
use Rattle.swf_tags.specs.Spelling.{end_tag, symbol_class, do_abc}
use Rattle.swf_tags.specs.File.{Part, Pair, part_size, tag_at, first_of, main_of, rectangle_size}
use Rattle.swf_tags.specs.Fields.{Front, split, number, name}
use Rattle.swf_tags.specs.declared.types.Fault.{Fault}
use Rattle.swf_tags.specs.declared.types.Header.{Header}
use Rattle.swf_tags.specs.declared.types.Seen.{Seen}
use Rattle.swf_tags.specs.declared.types.Swf.{Swf}
use Rattle.swf_tags.specs.declared.types.SwfReason.{SwfReason}
use Rattle.swf_tags.specs.declared.types.SwfReason.TheVariants as reason
use Rattle.swf_tags.specs.declared.types.SwfRefusal.{SwfRefusal}
use Rattle.swf_tags.specs.declared.types.SwfRefusal.TheVariants as refusal
use Rattle.swf_tags.specs.declared.types.Tag.{Tag}

abbrev pub fails : {A : Type 0} → ℕ → SwfReason → Result A Fault
fails place why = Err (record { place = place; reason = why })

abbrev pub long_of : ℕ → Option (Front ℕ) → Option (Front Header)
long_of code None = None
long_of code (Some size) = Some (record { it = record { code = code; long = true; length = size.it }; rest = size.rest })

-- the code stands in the upper ten bits, and the length in the lower six, where 63 says that it follows
abbrev pub header_of : Option (Front ℕ) → Option (Front Header)
header_of None = None
header_of (Some field) =
    if field.it % 64 == 63
    then long_of (field.it / 64) (number 4 field.rest)
    else Some (record { it = record { code = field.it / 64; long = false; length = field.it % 64 }; rest = field.rest })

unfoldable pub next_header : List ℕ → Option (Front Header)
next_header bytes = header_of (number 2 bytes)

abbrev pub part_of : ℕ → Header → Option (Front (List ℕ)) → Result (Front Part) Fault
part_of place h None = fails place reason.TagBody
part_of place h (Some body) = Ok (record { it = record { code = h.code; long = h.long; body = body.it }; rest = body.rest })

abbrev pub behind_header : ℕ → Option (Front Header) → Result (Front Part) Fault
behind_header place None = fails place reason.TagHeader
behind_header place (Some h) = part_of place h.it (split h.it.length h.rest)

-- the tag at this place, with which the bytes begin
unfoldable pub next_part : ℕ → List ℕ → Result (Front Part) Fault
next_part place [] = fails place reason.NoEnd
next_part place (byte ∷ bytes) = behind_header place (next_header (byte ∷ bytes))

-- the ABC of a DoABC: what follows the flags and the name
abbrev pub behind_name : Option (Front (List ℕ)) → Option (List ℕ)
behind_name None = None
behind_name (Some found) = Some found.rest

abbrev pub behind_flags : Option (Front ℕ) → Option (List ℕ)
behind_flags None = None
behind_flags (Some flags) = behind_name (name flags.rest)

unfoldable pub read_program : List ℕ → Option (List ℕ)
read_program body = behind_flags (number 4 body)

-- a pair of a SymbolClass
abbrev pub pair_named : ℕ → Option (Front (List ℕ)) → Option (Front Pair)
pair_named id None = None
pair_named id (Some found) = Some (record { it = record { id = id; name = found.it }; rest = found.rest })

abbrev pub pair_of : Option (Front ℕ) → Option (Front Pair)
pair_of None = None
pair_of (Some id) = pair_named id.it (name id.rest)

unfoldable pub next_pair : List ℕ → Option (Front Pair)
next_pair bytes = pair_of (number 2 bytes)

abbrev pub and_then : {A B : Type 0} → Option (Front A) → (A → List ℕ → Option B) → Option B
and_then None next = None
and_then (Some found) next = next found.it found.rest

-- so many pairs and nothing behind them: the name of the main class, which may be known before
abbrev pub read_pairs : ℕ → Option (List ℕ) → List ℕ → Option (Option (List ℕ))
read_pairs zero main bytes = if length bytes == 0 then Some main else None
read_pairs (suc k) main bytes = and_then (next_pair bytes) (λ it rest. read_pairs k (first_of main (main_of it)) rest)

-- the name of the main class in a SymbolClass, if it has one
unfoldable pub read_symbols : List ℕ → Option (Option (List ℕ))
read_symbols body = and_then (number 2 body) (λ count rest. read_pairs count None rest)

-- before the first tag
abbrev pub nothing : Seen
nothing = record { abc = None; main = None }

-- after a DoABC, which stands once
abbrev pub with_program : ℕ → Seen → Option (List ℕ) → Result Seen Fault
with_program place s None = fails place reason.TagBody
with_program place s (Some abc) = if is_none s.abc then Ok (record { abc = Some abc; main = s.main }) else fails place reason.TwoAbc

-- after a SymbolClass
abbrev pub with_symbols : ℕ → Seen → Option (Option (List ℕ)) → Result Seen Fault
with_symbols place s None = fails place reason.TagBody
with_symbols place s (Some main) = Ok (record { abc = s.abc; main = first_of s.main main })

-- after one more tag, which begins at this place; tags with other codes are passed over
unfoldable pub with_body : ℕ → Seen → ℕ → List ℕ → Result Seen Fault
with_body place s code body =
    if code == do_abc then with_program place s (read_program body) else if code == symbol_class then with_symbols place s (read_symbols body) else Ok s

-- at the End
abbrev pub ended : ℕ → List Tag → ℕ → Option (List ℕ) → Option (List ℕ) → Result Swf Fault
ended version tags place None main = fails place reason.NoAbc
ended version tags place (Some abc) None = fails place reason.NoMain
ended version tags place (Some abc) (Some main) = Ok (record { version = version; tags = tags; abc = abc; main = main })

abbrev pub go_on : (Seen → Result Swf Fault) → Result Seen Fault → Result Swf Fault
go_on next (Err fault) = Err fault
go_on next (Ok s) = next s

-- after a tag was read: what it gives, and then the tags behind it
abbrev pub after_part : (ℕ → List Tag → Seen → List ℕ → Result Swf Fault) → ℕ → ℕ → List Tag → Seen → Result (Front Part) Fault → Result Swf Fault
after_part next version place tags s (Err fault) = Err fault
after_part next version place tags s (Ok part) =
    if part.it.code == end_tag
    then ended version (tags ++ tag_at place part.it ∷ []) place s.abc s.main
    else go_on (λ t. next (place + part_size part.it) (tags ++ tag_at place part.it ∷ []) t part.rest) (with_body place s part.it.code part.it.body)

-- the tags from this place on up to End, of which there are at most so many, behind those so far and what they gave
abbrev pub read_tags : ℕ → ℕ → ℕ → List Tag → Seen → List ℕ → Result Swf Fault
read_tags zero version place tags s bytes = fails place reason.NoEnd
read_tags (suc k) version place tags s bytes = after_part (λ at more t rest. read_tags k version at more t rest) version place tags s (next_part place bytes)

-- what stands before the tags: the version, the length that the file says it has, the place of the first tag, and the bytes from there on
pub record Head : Type 0 where
  pub version : ℕ
  pub length : ℕ
  pub start : ℕ
  pub rest : List ℕ

abbrev pub before_tags : ℕ → ℕ → ℕ → Option (Front (List ℕ)) → Option Head
before_tags version length size None = None
before_tags version length size (Some frame) = Some (record { version = version; length = length; start = 12 + size; rest = frame.rest })

-- a rectangle, the frame rate and the number of frames
abbrev pub frame : ℕ → ℕ → List ℕ → Option Head
frame version length [] = None
frame version length (first ∷ bytes) = before_tags version length (rectangle_size first) (split (rectangle_size first + 4) (first ∷ bytes))

abbrev pub behind_length : ℕ → Option (Front ℕ) → Option Head
behind_length version None = None
behind_length version (Some field) = frame version field.it field.rest

-- the version, the length and the frame
unfoldable pub behind_signature : List ℕ → Option Head
behind_signature [] = None
behind_signature (version ∷ bytes) = behind_length version (number 4 bytes)

abbrev pub fitting : Option Head → Result Head Fault
fitting None = fails 3 reason.Rect
fitting (Some head) = Ok head

-- `FWS` begins a file, and `CWS` or `ZWS` a compressed one
abbrev pub signature_fault : ℕ → ℕ → ℕ → Option SwfReason
signature_fault first second third =
    if first == 0x46 && second == 0x57 && third == 0x53
    then None
    else if (first == 0x43 || first == 0x5A) && second == 0x57 && third == 0x53
    then Some reason.Compressed
    else Some reason.NotFws

abbrev pub behind_three : Option SwfReason → List ℕ → Result Head Fault
behind_three None bytes = fitting (behind_signature bytes)
behind_three (Some why) bytes = fails 0 why

unfoldable pub read_head : List ℕ → Result Head Fault
read_head (first ∷ second ∷ third ∷ bytes) = behind_three (signature_fault first second third) bytes
read_head _ = fails 0 reason.NotFws

abbrev pub of_length : ℕ → ℕ → Result Swf Fault → Result Swf Fault
of_length size said (Err fault) = Err fault
of_length size said (Ok swf) = if said == size then Ok swf else fails 4 reason.Length

-- what the tags behind a head say
abbrev pub tags_behind : Head → Result Swf Fault
tags_behind head = read_tags (length head.rest) head.version head.start [] nothing head.rest

abbrev pub content : ℕ → Result Head Fault → Result Swf Fault
content size (Err fault) = Err fault
content size (Ok head) = of_length size head.length (tags_behind head)

unfoldable pub read_swf : List ℕ → Result Swf Fault
read_swf bytes = content (length bytes) (read_head bytes)

-- the first fault of the bytes as a SWF file, if they have one
abbrev pub fault_of : Result Swf Fault → Option Fault
fault_of (Ok swf) = None
fault_of (Err fault) = Some fault

abbrev pub swf_fault : List ℕ → Option Fault
swf_fault bytes = fault_of (read_swf bytes)

-- the tag at this place is there as a whole
abbrev pub is_whole : List ℕ → ℕ → Bool
is_whole bytes place = is_ok (next_part place (drop place bytes))

-- whether this first fault of the bytes is in bytes that are there, so that no further byte takes it away; the length of the file isn't
-- looked at before its end
abbrev pub is_early : List ℕ → ℕ → SwfReason → Bool
is_early bytes place reason.Compressed = nat_le 3 (length bytes)
is_early bytes place reason.NotFws = nat_le 3 (length bytes)
is_early bytes place reason.Rect = false
is_early bytes place reason.NoEnd = false
is_early bytes place reason.TagHeader = false
is_early bytes place reason.TagBody = is_whole bytes place
is_early bytes place reason.TwoAbc = true
is_early bytes place reason.NoAbc = true
is_early bytes place reason.NoMain = true
is_early bytes place reason.Length = false

abbrev pub early_of : List ℕ → Option Fault → Option Fault
early_of bytes None = None
early_of bytes (Some fault) = if is_early bytes fault.place fault.reason then Some fault else None

-- the first fault of the bytes, where it is early
abbrev pub early : List ℕ → Option Fault
early bytes = early_of bytes (swf_fault bytes)

-- an answer of the code is what the reading gives, seen so, or its fault
abbrev pub Tells : {A B : Type 0} → Result A Fault → (B → A) → Result B Fault → Type 0
Tells reading view result = MatchResult result (λ x. reading ≡ Ok (view x)) (λ fault. reading ≡ Err fault)

-- the reading may be refused so: for want of memory whatever the bytes are
abbrev pub Refuses : {A : Type 0} → Result A Fault → SwfRefusal → Type 0
Refuses reading (refusal.BadSwf place why) = reading ≡ Err (record { place = place; reason = why })
Refuses reading refusal.NoMemory = Unit {0}

-- an answer is what the reading gives, or its fault, or that memory was refused
abbrev pub Answers : {A : Type 0} → Result A Fault → Result A SwfRefusal → Type 0
Answers reading result = MatchResult result (λ x. reading ≡ Ok x) (λ refusal. Refuses reading refusal)
