-- What holds of the reading and the writing of SWF files.
use Rattle.std.specs.Prelude.{◌≡◌, ◌≢◌, ◌⊎◌, ℕ, ◌+◌, ◌≤◌, List, ◌++◌, length, All, Some, None, Ok}
use Rattle.std.specs.Str.{IsUtf8}
use Rattle.swf_tags.specs.Spelling.{swf_bytes}
use Rattle.swf_tags.specs.File.{AreBytes, IsSwf, written_tags}
use Rattle.swf_tags.specs.Reading.{early, read_swf, swf_fault}
use Rattle.swf_tags.specs.Feeding.{Progress, early_fault, fed, finished, start}
use Rattle.swf_tags.specs.declared.types.Fault.{Fault}
use Rattle.swf_tags.specs.declared.types.Swf.{Swf}

-- each SWF file is read as what it says
abbrev pub SwfIsRead : Type 0
SwfIsRead = (bytes : List ℕ) (swf : Swf) → IsSwf swf.version swf.tags swf.abc swf.main bytes → read_swf bytes ≡ Ok swf

-- what bytes are read as, they are a SWF file of
abbrev pub ReadIsSwf : Type 0
ReadIsSwf = (bytes : List ℕ) (swf : Swf) → AreBytes bytes → read_swf bytes ≡ Ok swf → IsSwf swf.version swf.tags swf.abc swf.main bytes

-- the bytes are a SWF file
pub record IsSome (bytes : List ℕ) : Type 0 where
  pub swf : Swf
  pub is : IsSwf swf.version swf.tags swf.abc swf.main bytes

-- all bytes either are a SWF file or have a first fault, and not both
abbrev pub SwfOrFault : Type 0
SwfOrFault =
    (bytes : List ℕ) → AreBytes bytes
    → (IsSome bytes × (swf_fault bytes ≡ None)) ⊎ ((IsSome bytes → ⊥) × ((fault : Fault) × (swf_fault bytes ≡ Some fault)))

-- the file that is written of a name and a program is a SWF file of version 10 with both in it
abbrev pub SwfIsWritten : Type 0
SwfIsWritten =
    (main abc : List ℕ) → All (λ byte. byte ≢ 0) main → IsUtf8 main → length main + length abc ≤ 2000000000
    → IsSwf 10 (written_tags main abc) abc main (swf_bytes main abc)

-- and is read as that
abbrev pub SwfIsReadBack : Type 0
SwfIsReadBack =
    (main abc : List ℕ) → All (λ byte. byte ≢ 0) main → IsUtf8 main → length main + length abc ≤ 2000000000
    → read_swf (swf_bytes main abc) ≡ Ok (record { version = 10; tags = written_tags main abc; abc = abc; main = main })

-- bytes that are fed one after another, and then no more, are read as the whole
abbrev pub FedIsRead : Type 0
FedIsRead = (bytes : List ℕ) → finished (fed start bytes) ≡ read_swf bytes

-- pieces that are fed one behind another are fed as one
abbrev pub FedInPieces : Type 0
FedInPieces = (progress : Progress) (first second : List ℕ) → fed progress (first ++ second) ≡ fed (fed progress first) second

-- the fault that is known when these bytes are fed is their first fault, where that is early
abbrev pub EarlyIsKnown : Type 0
EarlyIsKnown = (bytes : List ℕ) → early_fault (fed start bytes).stage ≡ early bytes

-- an early fault is the first fault of each file that begins so
abbrev pub EarlyFaultStays : Type 0
EarlyFaultStays = (bytes more : List ℕ) (fault : Fault) → early bytes ≡ Some fault → swf_fault (bytes ++ more) ≡ Some fault
