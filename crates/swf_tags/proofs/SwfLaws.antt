-- The laws of reading and writing SWF files.
use Rattle.std.proofs.Common.{◌≡◌, Some, None, Result, Ok, Err, refl, ap, ◌⊎◌, inl, inr}
use Rattle.swf_tags.specs.Spelling.{swf_bytes}
use Rattle.swf_tags.specs.File.{written_tags}
use Rattle.swf_tags.specs.Reading.{read_swf, swf_fault, fault_of}
use Rattle.swf_tags.specs.SwfLaws.{SwfIsRead, ReadIsSwf, SwfOrFault, SwfIsWritten, SwfIsReadBack, IsSome}
use Rattle.swf_tags.specs.declared.types.Fault.{Fault}
use Rattle.swf_tags.specs.declared.types.Swf.{Swf}
use Rattle.swf_tags.proofs.WholeLaws.{swf-read, swf-gives}
use Rattle.swf_tags.proofs.Written.{written-is_swf}

pub swf_is_read : SwfIsRead
swf_is_read bytes swf = swf-read bytes swf.version swf.tags swf.abc swf.main

pub read_is_swf : ReadIsSwf
read_is_swf = swf-gives

pub swf_or_fault : SwfOrFault
swf_or_fault bytes are = by (read_swf bytes) refl
  where
    none : (fault : Fault) → read_swf bytes ≡ Err fault → IsSome bytes → ⊥
    none fault e some = let read = swf-read bytes some.swf.version some.swf.tags some.swf.abc some.swf.main some.is in cc

    by : (r : Result Swf Fault) → read_swf bytes ≡ r → (IsSome bytes × (swf_fault bytes ≡ None)) ⊎ ((IsSome bytes → ⊥) × ((fault : Fault) × (swf_fault bytes ≡ Some fault)))
    by (Ok swf) e = inl (record { swf = swf; is = swf-gives bytes swf are e }, ap fault_of e)
    by (Err fault) e = inr (none fault e, (fault, ap fault_of e))

pub swf_is_written : SwfIsWritten
swf_is_written = written-is_swf

pub swf_is_read_back : SwfIsReadBack
swf_is_read_back main abc no_zero valid fits = swf-read (swf_bytes main abc) 10 (written_tags main abc) abc main (swf_is_written main abc no_zero valid fits)
