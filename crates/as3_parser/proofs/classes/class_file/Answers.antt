use Rattle.as3_parser.proofs.ClassSteps as steps
use Rattle.as3_parser.proofs.classes.class_file.Goals as goal

pub package-requires : goal.package-requires
package-requires c = steps.file_package c.requires c.skip.ensures

pub imports-requires : goal.imports-requires
imports-requires c = steps.file_imports c.requires c.skip.ensures c.in_ok-package_name.ensures

pub class-requires : goal.class-requires
class-requires c = steps.file_class c.requires c.skip.ensures c.in_ok-package_name.ensures c.in_ok-imports.ensures

pub returns : goal.returns
returns c = steps.file_whole c.in_ok-imports.imports c.skip.ensures c.in_ok-package_name.ensures c.in_ok-imports.ensures c.in_ok-class.ensures c.skip-2.ensures
