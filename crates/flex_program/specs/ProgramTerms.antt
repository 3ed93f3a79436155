-- The terms that declared programs stand for.
use Rattle.std.specs.Prelude.{Option, map, option_map, ◌≡◌}
use Rattle.flex_program.specs.declared.document as declared
use Rattle.flex_program.specs.declared.program as program
use Rattle.flex_program.specs.CodeTerms.{expr_of, method_of}
use Rattle.flex_program.specs.DocumentTerms.{document_of}
use Rattle.flex_program.specs.Program.{Constructor, Member, Program, SourceClass, Variable}

abbrev pub variable_of : program.Variable.Variable → Variable
variable_of v =
    record {
      name = v.name;
      type = v.kind;
      start = option_map expr_of v.start;
      public = v.public;
      bindable = v.bindable;
    }

abbrev pub member_of : program.Member.Member → Member
member_of m = record { name = m.name; method = m.method }

abbrev pub constructor_of : program.Constructor.Constructor → Constructor
constructor_of c = record { method = c.method; calls_super = c.calls_super }

abbrev pub source_class_of : program.SourceClass.SourceClass → SourceClass
source_class_of c =
    record {
      name = c.name;
      base = c.base;
      variables = map variable_of c.variables.items;
      members = map member_of c.members.items;
      constructor = option_map constructor_of c.constructor;
      document = option_map document_of c.document;
    }

-- the class declares this document, or none
abbrev pub HasDocument : program.SourceClass.SourceClass → Option declared.Document.Document → Type 0
HasDocument c d = (source_class_of c).document ≡ option_map document_of d

-- the checked program that is meant
abbrev pub program_of : program.Program.Program → Program
program_of p = record { classes = map source_class_of p.classes.items; methods = map method_of p.methods.items; main = p.main }
