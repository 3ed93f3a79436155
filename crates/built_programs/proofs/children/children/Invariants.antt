use Rattle.built_programs.proofs.Making.{AreMade}
use Rattle.built_programs.proofs.children.children.Given as goal

abbrev pub invariant-loop-element : goal.invariant-loop-element
invariant-loop-element l = AreMade l.elements l.element-index l.number l.handler l.contents.items
