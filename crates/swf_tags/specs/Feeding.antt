-- The reading of a SWF file as its bytes come: what of it is being read, and what one more byte does to that. What stands before the
-- tags, and the header of a tag, are read as soon as their bytes so far are one; the body of a tag, once as many bytes came as its
-- header says.
use Rattle.std.specs.Prelude.{◌≡◌, ℕ, ◌+◌, ◌-◌, ◌<◌, ◌≤◌, length, take, MatchResult, ◌||◌, ◌==◌, if◌then◌else◌, Bool, List, [], ◌∷◌, ◌++◌, Option, Some, None, Result, Ok, Err}
use Rattle.std.specs.List.{fold}
use Rattle.swf_tags.specs.Spelling.{end_tag, symbol_class, do_abc}
use Rattle.swf_tags.specs.Fields.{Front}
use Rattle.swf_tags.specs.Reading.{Head, behind_signature, ended, fails, next_header, nothing, of_length, signature_fault, with_body}
use Rattle.swf_tags.specs.declared.stage.Before.{Before}
use Rattle.swf_tags.specs.declared.stage.Stage.{Stage}
use Rattle.swf_tags.specs.declared.stage.Stage.TheVariants as stage
use Rattle.swf_tags.specs.declared.types.Fault.{Fault}
use Rattle.swf_tags.specs.declared.types.Header.{Header}
use Rattle.swf_tags.specs.declared.types.Seen.{Seen}
use Rattle.swf_tags.specs.declared.types.Swf.{Swf}
use Rattle.swf_tags.specs.declared.types.SwfReason.{SwfReason}
use Rattle.swf_tags.specs.declared.types.SwfReason.TheVariants as reason
use Rattle.swf_tags.specs.declared.types.SwfRefusal.{SwfRefusal}
use Rattle.swf_tags.specs.declared.types.SwfRefusal.TheVariants as refusal
use Rattle.swf_tags.specs.declared.types.Tag.{Tag}

-- the tags whose bodies are read; those of others are passed over
abbrev pub is_read : ℕ → Bool
is_read code = code == do_abc || code == symbol_class

-- the bytes of a body that are kept, with some more
abbrev pub kept_with : ℕ → List ℕ → List ℕ → List ℕ
kept_with code kept bytes = if is_read code then kept ++ bytes else kept

abbrev pub tag_of : Before → Header → Tag
tag_of before h = record { place = before.place; code = h.code; length = h.length }

-- behind a tag, at this place: the next one
abbrev pub behind_tag : ℕ → Before → List Tag → Result Seen Fault → Stage
behind_tag place before tags (Err fault) = stage.Failed fault
behind_tag place before tags (Ok seen) = stage.Header (record { version = before.version; said = before.said; place = place; tags = tags; seen = seen }) []

-- behind the End of a file that says it has this length
abbrev pub behind_end : ℕ → Result Swf Fault → Stage
behind_end said (Err fault) = stage.Failed fault
behind_end said (Ok swf) = stage.Ended said swf

-- behind a tag whose body is whole, at this place
unfoldable pub behind_body : ℕ → Before → Header → List ℕ → Stage
behind_body place before h body =
    if h.code == end_tag
    then behind_end before.said (ended before.version (before.tags ++ tag_of before h ∷ []) before.place before.seen.abc before.seen.main)
    else behind_tag place before (before.tags ++ tag_of before h ∷ []) (with_body before.place before.seen h.code body)

-- in the body of a tag, or behind it where no byte of it is still to come
abbrev pub in_body : ℕ → Before → Header → List ℕ → ℕ → Stage
in_body place before h kept left = if left == 0 then behind_body place before h kept else stage.Body before h kept left

-- in the header of a tag, or behind it where these bytes are one
abbrev pub in_header : ℕ → Before → List ℕ → Option (Front Header) → Stage
in_header place before bytes None = stage.Header before bytes
in_header place before bytes (Some h) = in_body place before h.it [] h.it.length

-- in what stands before the tags, or behind it where these bytes are that
abbrev pub in_head : List ℕ → Option Head → Stage
in_head bytes None = stage.Head bytes
in_head bytes (Some head) = stage.Header (record { version = head.version; said = head.length; place = head.start; tags = []; seen = nothing }) []

-- behind three bytes
abbrev pub behind_letters : Option SwfReason → Stage
behind_letters None = stage.Head []
behind_letters (Some why) = stage.Failed (record { place = 0; reason = why })

-- in the signature, or behind it
abbrev pub in_signature : List ℕ → Stage
in_signature (first ∷ second ∷ third ∷ []) = behind_letters (signature_fault first second third)
in_signature bytes = stage.Signature bytes

-- after one more byte, with which so many were taken
abbrev pub step : ℕ → Stage → ℕ → Stage
step taken (stage.Signature bytes) byte = in_signature (bytes ++ byte ∷ [])
step taken (stage.Head bytes) byte = in_head (bytes ++ byte ∷ []) (behind_signature (bytes ++ byte ∷ []))
step taken (stage.Header before bytes) byte = in_header taken before (bytes ++ byte ∷ []) (next_header (bytes ++ byte ∷ []))
step taken (stage.Body before h kept left) byte = in_body taken before h (kept_with h.code kept (byte ∷ [])) (left - 1)
step taken (stage.Ended said swf) byte = stage.Ended said swf
step taken (stage.Failed fault) byte = stage.Failed fault

-- how many bytes of a file were taken, and how far they are read
pub record Progress : Type 0 where
  pub taken : ℕ
  pub stage : Stage

abbrev pub start : Progress
start = record { taken = 0; stage = stage.Signature [] }

abbrev pub one_more : Progress → ℕ → Progress
one_more progress byte = record { taken = progress.taken + 1; stage = step (progress.taken + 1) progress.stage byte }

-- after these bytes, one after another
abbrev pub fed : Progress → List ℕ → Progress
fed progress bytes = fold one_more progress bytes

-- the fault that no further byte takes away: Compressed and NotFws once three bytes are there, TagBody once the body is whole, TwoAbc,
-- NoAbc and NoMain. That something isn't there yet is none, nor is the length of the file
abbrev pub early_fault : Stage → Option Fault
early_fault (stage.Failed fault) = Some fault
early_fault _ = None

-- the end of the bytes where a tag's header has come so far
abbrev pub no_header : {A : Type 0} → ℕ → List ℕ → Result A Fault
no_header place [] = fails place reason.NoEnd
no_header place (byte ∷ bytes) = fails place reason.TagHeader

-- what a file of this size says that ends here
abbrev pub at_end : ℕ → Stage → Result Swf Fault
at_end size (stage.Signature bytes) = fails 0 reason.NotFws
at_end size (stage.Head bytes) = fails 3 reason.Rect
at_end size (stage.Header before bytes) = no_header before.place bytes
at_end size (stage.Body before h kept left) = fails before.place reason.TagBody
at_end size (stage.Ended said swf) = of_length size said (Ok swf)
at_end size (stage.Failed fault) = Err fault

abbrev pub finished : Progress → Result Swf Fault
finished progress = at_end progress.taken progress.stage

-- a body that is being read has a byte to come
abbrev pub AwaitsByte : Stage → Type 0
AwaitsByte (stage.Body before h kept left) = 0 < left
AwaitsByte _ = Unit {0}

-- a refusal is for want of memory, or tells the fault of this stage
abbrev pub Fails : Stage → SwfRefusal → Type 0
Fails s (refusal.BadSwf place why) = s ≡ stage.Failed (record { place = place; reason = why })
Fails s refusal.NoMemory = Unit {0}

-- an answer is this stage, or its fault, or that memory was refused
abbrev pub Reaches : Stage → Result Stage SwfRefusal → Type 0
Reaches s result = MatchResult result (λ reached. (reached ≡ s) × (early_fault reached ≡ None)) (λ refusal. Fails s refusal)

-- some of these bytes, and not more, lead to this stage
pub record IsStep (progress : Progress) (rest : List ℕ) (reached : Stage) (count : ℕ) : Type 0 where
  pub some : 0 < count
  pub within : count ≤ length rest
  pub fine : early_fault reached ≡ None
  pub is : reached ≡ (fed progress (take count rest)).stage

-- an answer is the stage after some of these bytes and their number, or the fault that they lead to, or that memory was refused
abbrev pub Steps : Progress → List ℕ → Result (Stage × ℕ) SwfRefusal → Type 0
Steps progress rest result = MatchResult result (λ reached. IsStep progress rest reached.0 reached.1) (λ refusal. Fails (fed progress rest).stage refusal)
