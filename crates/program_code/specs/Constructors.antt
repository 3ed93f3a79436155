-- The code of constructors, as a relation.
use Rattle.std.specs.Prelude.{None, Option, Some, false, not, option_and_then, slice_get, ℕ}
use Rattle.flex_world.specs.declared.kind.Class.{Class}
use Rattle.flex_world.specs.declared.kind.Class.TheVariants as Class
use Rattle.flex_program.specs.Program.{Constructor, Method, Program, SourceClass, Variable}
use Rattle.program_code.specs.Code.{AreStatements, IsExprCode}
use Rattle.program_code.specs.Documents.{AreStatesCode, IsBuildingCall, This}
use Rattle.program_code.specs.Names.{Labels, member_name}
use Rattle.program_code.specs.Shapes.{All, Here, Meant, Nothing, One, Perhaps, Some_mark, Then, When}
use Rattle.avm2_program.specs.declared.operation.Operation.TheVariants as Operation

-- the constructor of a base of the source; that of a native class does nothing then
abbrev pub IsBaseCode : Option Class → Meant
IsBaseCode (Some (Class.File k)) = Then This (One (Operation.ConstructSuper 0))
IsBaseCode _ = Nothing

abbrev pub IsBaseUnlessSuper : Option Constructor → Option Class → Meant
IsBaseUnlessSuper None base = IsBaseCode base
IsBaseUnlessSuper (Some constructor) base = When (not constructor.calls_super) (IsBaseCode base)

module _ (l : Labels) where
  abbrev pub IsVariableCode : Variable → Meant
  IsVariableCode v = Perhaps (λ e. Then This (Then (IsExprCode l false e) (One (Operation.SetProperty (member_name v.name))))) v.start

  -- the written statements stand in the constructor's own method: a return goes to their end
  abbrev pub IsWrittenCode : Method → Meant
  IsWrittenCode m = Some_mark (λ over. Then (AreStatements l m (record { out = over; again = over; over = Some over })) (Here over))

  -- the method of a written constructor
  abbrev pub method_of : Program → SourceClass → Option Method
  method_of p class = option_and_then (λ constructor. slice_get p.methods constructor.method) class.constructor

  -- the constructor of a class, by its number
  abbrev pub IsConstructorCode : Program → ℕ → SourceClass → Meant
  IsConstructorCode p k class =
      Then (Perhaps (λ d. AreStatesCode l k d 0 d.states) class.document)
      (Then (All IsVariableCode class.variables)
      (Then (IsBaseUnlessSuper class.constructor class.base)
      (Then (Perhaps IsWrittenCode (method_of p class))
      (Then (Perhaps (λ d. IsBuildingCall l k d) class.document) (One Operation.ReturnVoid)))))
