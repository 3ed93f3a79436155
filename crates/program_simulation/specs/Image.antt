-- What holds of a finished file that has the code of a program.
use Rattle.std.specs.List.{list_any}
use Rattle.std.specs.Prelude.{List, None, Option, Some, [], codes, slice_get, true, ℕ, ◌≡◌}
use Rattle.flex_base.specs.declared.value.ObjId.{ObjId}
use Rattle.component_catalog.specs.declared.class.NativeClass.{NativeClass}
use Rattle.component_catalog.specs.declared.method.NativeMethod.{NativeMethod}
use Rattle.flex_world.specs.Classes.{is_event}
use Rattle.flex_world.specs.declared.kind.Class.{Class}
use Rattle.flex_world.specs.Classes.{lineage_in}
use Rattle.flex_world.specs.declared.kind.StaticType.{StaticType}
use Rattle.flex_world.specs.Making.{computes}
use Rattle.flex_world.specs.Objects.{Field, Instance_of, Kind, Object, field_named}
use Rattle.flex_program.specs.Classes.{Callee, bases, callee, class_name, document_of, fields_of, has_property}
use Rattle.flex_program.specs.Instances.{parts_of}
use Rattle.flex_program.specs.Program.{Binding, Chain, Document, Part, SourceClass, Text}
use Rattle.program_code.specs.Names.{hidden_name, member_name}
use Rattle.program_code.specs.Program.{IsProgramCode}
use Rattle.program_simulation.specs.Stands.{Beside, Image, behind_root, hidden_slots, instance_slot, nothing_beside}
use Rattle.avm2_program.specs.Names.{public_name}
use Rattle.avm2_program.specs.Naming.{Naming}
use Rattle.avm2_program.specs.declared.file.Script as FileScript
use Rattle.avm2_program.specs.declared.member.Member.TheVariants as Member
use Rattle.flex_objects.specs.Entities as entities
use Rattle.flex_objects.specs.Entities.{Shape}
use Rattle.avm2_meaning.specs.Act.{property_at}
use Rattle.avm2_meaning.specs.Classes as machine
use Rattle.avm2_meaning.specs.declared.work.Work.{Work}
use Rattle.avm2_meaning.specs.declared.heap.Heap.{Heap}
use Rattle.avm2_meaning.specs.declared.heap.MadeClass.{MadeClass}
use Rattle.avm2_meaning.specs.Members.{kind_member, look_up, member_among}
use Rattle.avm2_meaning.specs.Natives.{has_method}
use Rattle.avm2_meaning.specs.declared.operand.Operand.{Operand}
use Rattle.avm2_meaning.specs.declared.operand.Operand.TheVariants.{ClassValue}
use Rattle.avm2_meaning.specs.Results as results

-- the hidden slots of a new object, whose document this is
abbrev pub first_slots : Image → Option Document → List Field
first_slots q None = []
first_slots q (Some d) = hidden_slots q.labels nothing_beside (record { 0 = 0 }) d

-- the bases of the classes of the source
abbrev pub source_bases : Image → List (Option Class)
source_bases q = bases q.source

-- the objects of a class of the source are those of the class in the file
pub record IsShape (q : Image) (class : Class) (shape : Shape) : Type 0 where
  pub there : machine.shape_of q.program class ≡ Some shape
  pub class_is : shape.class ≡ class
  pub native_is : shape.native ≡ machine.native_of q.program class
  pub fields : shape.fields ≡ fields_of q.source class
  pub hidden : shape.hidden ≡ first_slots q (document_of q.source class)

-- a class is looked up, and read where it is found
pub record IsClassAt (q : Image) (class : Class) (holder : Operand) : Type 0 where
  pub looked_up :
      (work : Work) (h : Heap) → work.scopes ≡ [] → h.classes ≡ q.classes → h.scripts ≡ q.scripts
      → look_up q.program work (q.labels.class_name class) h ≡ results.Goes holder h
  pub read :
      (h : Heap) → h.classes ≡ q.classes → h.scripts ≡ q.scripts
      → property_at q.program (q.labels.class_name class) holder h ≡ results.Goes (ClassValue (StaticType.Object class)) h

-- a document keeps an instance in a hidden slot, which no field hides, and where code finds it
pub record IsKept (q : Image) (k : ℕ) (d : Document) (part : Part) : Type 0 where
  pub found : kind_member q.program (Instance_of (Class.File k)) (hidden_name (q.labels.instance_key part.number)) ≡ Some (Member.HiddenSlot (q.labels.instance_key part.number))
  pub no_field : field_named (q.labels.instance_key part.number) (fields_of q.source (Class.File k)) ≡ None
  pub slot : (b : Beside) (o : ObjId) → field_named (q.labels.instance_key part.number) (hidden_slots q.labels b o d) ≡ Some (instance_slot q.labels b o part)

pub record IsImage (g : Naming) (q : Image) : Type 0 where
  pub code : IsProgramCode g q.labels q.source q.program
  -- a class has its number in the file, and its bases and its name
  pub bases_are : q.program.bases ≡ bases q.source
  pub names : (class : Class) (name : Text) → class_name q.source class ≡ Some name → machine.class_name q.program class ≡ name
  pub shapes : (class : Class) (name : Text) → class_name q.source class ≡ Some name → (shape : Shape) × IsShape q class shape
  -- events are of classes that there are
  pub events : (class : Class) → is_event (source_bases q) class ≡ true → (name : Text) × (class_name q.source class ≡ Some name)
  -- code finds a property by its text
  pub property : (k : Kind) (text : Text) → has_property q.source k text ≡ true → kind_member q.program k (member_name text) ≡ Some (Member.Slot text)
  -- which no hidden slot has
  pub unhidden :
      (k : ℕ) (text : Text) (d : Document) → has_property q.source (Instance_of (Class.File k)) text ≡ true → document_of q.source (Class.File k) ≡ Some d
      → (b : Beside) (o : ObjId) → field_named text (hidden_slots q.labels b o d) ≡ None
  pub kept :
      (k : ℕ) (d : Document) (place : ℕ) (part : Part) → document_of q.source (Class.File k) ≡ Some d → slice_get (behind_root (parts_of d.root)) place ≡ Some part
      → IsKept q k d part
  -- nor has one a name of a chain that is watched
  pub unwatched :
      (k : ℕ) (d : Document) (n : ℕ) (b : Binding) (m : ℕ) (chain : Chain) (i : ℕ) (text : Text) → document_of q.source (Class.File k) ≡ Some d → slice_get d.bindings n ≡ Some b
      → slice_get b.chains m ≡ Some chain → slice_get chain.names i ≡ Some text
      → (other : ℕ) (e : Document) → document_of q.source (Class.File other) ≡ Some e → (beside : Beside) (o : ObjId) → field_named text (hidden_slots q.labels beside o e) ≡ None
  pub computed :
      (class : Class) (text : Text) → list_any (computes text) (lineage_in (bases q.source) class) ≡ true
      → entities.computes (machine.native_of q.program class) text ≡ true
  -- and a method by its name, in the same class
  pub method :
      (class : Class) (text : Text) (number : ℕ) → callee q.source class text ≡ Some (Callee.Written number)
      → kind_member q.program (Instance_of class) (member_name text) ≡ Some (Member.Written number)
  pub catalog :
      (class : Class) (text : Text) (m : NativeMethod) → callee q.source class text ≡ Some (Callee.Catalog m)
      → kind_member q.program (Instance_of class) (member_name text) ≡ Some (Member.Catalog m)
  -- whose objects can do it
  pub able :
      (class : Class) (text : Text) (m : NativeMethod) → callee q.source class text ≡ Some (Callee.Catalog m) → (c : Object) → c.kind ≡ Instance_of class
      → has_method q.program m c ≡ true
  -- each class of the program is looked up by its name
  pub class_at : (k : ℕ) (class : SourceClass) → slice_get q.source.classes k ≡ Some class → (holder : Operand) × IsClassAt q (Class.File k) holder
  -- and so is each class of the catalog
  pub native_at : (class : NativeClass) → (holder : Operand) × IsClassAt q (Class.Native class) holder
  -- no class was made with scopes, so names are looked up in the scripts, where `trace` is that of the player
  pub unscoped : (k : ℕ) (made : MadeClass) → slice_get q.classes k ≡ Some (Some made) → made.scopes ≡ []
  pub untraced : (k : ℕ) (script : FileScript.Script) → slice_get q.program.scripts k ≡ Some script → member_among (public_name (codes "trace")) script.members ≡ None
