-- What a refusal says of records.
use Rattle.abc_format.specs.declared.records.Abc.{Abc}
use Rattle.verified_code.specs.Verified.{IsFirstReason}
use Rattle.avm2_verify.specs.declared.refusal.VerifyRefusal.{VerifyRefusal}
use Rattle.avm2_verify.specs.declared.refusal.VerifyRefusal.TheVariants as refusal

-- the first reason; want of memory says nothing
abbrev pub IsRefusal : Abc → VerifyRefusal → Type 0
IsRefusal a (refusal.Bad body place reason) = IsFirstReason a body place reason
IsRefusal a refusal.NoMemory = Unit {0}
