-- The laws of reading ABCs.
use Rattle.std.proofs.Common.{◌≡◌, Some, None, Result, Ok, Err, refl, ap, ◌⊎◌, inl, inr}
use Rattle.flex_base.proofs.ResultLaws.{ok_is}
use Rattle.abc_format.specs.Fields.{Fault}
use Rattle.abc_format.specs.Reading.{read_abc, abc_fault, fault_of}
use Rattle.abc_format.specs.AbcLaws.{IsSome, AbcIsRead, ReadIsAbc, AbcOrFault, OneAbc}
use Rattle.abc_format.specs.declared.records.Abc.{Abc}
use Rattle.abc_format.proofs.RecordFronts.{abc-front}
use Rattle.abc_format.proofs.RecordsFound.{abc-found}

pub abc_is_read : AbcIsRead
abc_is_read a bytes w = abc-front a bytes w.spelled w.indexes

pub read_is_abc : ReadIsAbc
read_is_abc a bytes are e = let w = abc-found a bytes are e in record { spelled = w.0; indexes = w.1 }

pub abc_or_fault : AbcOrFault
abc_or_fault bytes are = by (read_abc bytes) refl
  where
    none : (fault : Fault) → read_abc bytes ≡ Err fault → IsSome bytes → ⊥
    none fault e some = let read = abc_is_read some.abc bytes some.is in cc

    by : (r : Result Abc Fault) → read_abc bytes ≡ r → (IsSome bytes × (abc_fault bytes ≡ None)) ⊎ ((IsSome bytes → ⊥) × ((fault : Fault) × (abc_fault bytes ≡ Some fault)))
    by (Ok abc) e = inl (record { abc = abc; is = read_is_abc abc bytes are e }, ap fault_of e)
    by (Err fault) e = inr (none fault e, (fault, ap fault_of e))

pub one_abc : OneAbc
one_abc a b bytes w v = ok_is (read_abc bytes) a b (abc_is_read a bytes w) (abc_is_read b bytes v)
