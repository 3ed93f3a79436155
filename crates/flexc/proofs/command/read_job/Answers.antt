use Rattle.std.proofs.Common.{rules, ◌≡◌, ◌≤◌, length, Ok, Err, refl, subst}
use Rattle.flex_front.specs.Source.{IsNotBuilt}
use Rattle.flex_edge.specs.Whole.{ReadsFile}
use Rattle.flexc.specs.Work.{read_failure}
use Rattle.mxml_tree.specs.Faults.{fault}
use Rattle.mxml_tree.specs.IsTree.{IsFirstFault}
use Rattle.mxml_tree.proofs.TreeOrFault.{fault_within}
use Rattle.flexc.proofs.Works.{script_unread, is_refused}
use Rattle.flexc.proofs.command.read_job.Goals as goal

pub returns-in-Err-read_file-clause-read : goal.returns-in-Err-read_file-clause-read
returns-in-Err-read_file-clause-read g c =
    let first : ReadsFile 1048576 (g.F.Files.state c.args.files.now) c.args.run.main.now (Ok c.in-Ok.source) (g.F.Files.state c.read_file.new.files) = search rules in
    let second : ReadsFile 1048576 (g.F.Files.state c.read_file.new.files) c.args.run.script.now (Err c.in-Err-read_file.refusal) (g.F.Files.state c.read_file-2.new.files) = search rules in
    let is : c.read_failure-in-Err-read_file.result ≡ read_failure c.in-Err-read_file.refusal c.args.run.script = search rules in
    rw is (script_unread c.args.run.script _ c.in-Ok.source _ _ _ c.in-Err-read_file.refusal first second)

pub returns-in-Err-NotYetBuilt-clause-read : goal.returns-in-Err-NotYetBuilt-clause-read
returns-in-Err-NotYetBuilt-clause-read g c =
    let first : ReadsFile 1048576 (g.F.Files.state c.args.files.now) c.args.run.main.now (Ok c.in-Ok.source) (g.F.Files.state c.read_file.new.files) = search rules in
    let second : ReadsFile 1048576 (g.F.Files.state c.read_file.new.files) c.args.run.script.now (Ok c.in-Ok-read_file.commands) (g.F.Files.state c.read_file-2.new.files) = search rules in
    let refused : IsNotBuilt c.args.run.main.now c.in-Ok.source = subst (IsNotBuilt c.args.run.main.now) c.as_slice.ensures (rw c.in-Err-NotYetBuilt.field-0-is at c.in-Err-NotYetBuilt.ensures.refused) in
    (refl, is_refused _ _ c.in-Ok.source c.in-Ok-read_file.commands _ _ _ first second refused)

pub source_fault-requires-clause-within : goal.source_fault-requires-clause-within
source_fault-requires-clause-within g c =
    let first : IsFirstFault (fault c.in-Err-Fault.at c.in-Err-Fault.code) c.as_slice.result.now = rw c.in-Err-Fault.field-0-is at c.in-Err-Fault.ensures.refused in
    let within : c.in-Err-Fault.at ≤ length c.in-Ok.source = subst (λ text. c.in-Err-Fault.at ≤ length text) c.as_slice.ensures (fault_within c.as_slice.result.now (fault c.in-Err-Fault.at c.in-Err-Fault.code) first) in
    rw c.in-Err-Fault.at-is (rw c.as_slice-in-Err-Fault.ensures within)
