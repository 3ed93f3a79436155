use Rattle.std.proofs.Common.{◌+◌, ◌-◌, ◌*◌, length, [], ◌∷◌}
use Rattle.as3_parser.specs.Grammar.{Part}
use Rattle.as3_parser.specs.Grammar as grammar
use Rattle.as3_parser.specs.Kinds.{mark_number}
use Rattle.as3_parser.specs.Productions as production
use Rattle.as3_parser.specs.Ahead.{Reads}
use Rattle.as3_parser.specs.Expressions.{IsExpression, AreListed}
use Rattle.as3_parser.specs.Forms.{part, part_of_strength, operators_of_strength, arguments_before}
use Rattle.as3_parser.proofs.expressions.+expressions.Given as goal

abbrev pub decreases-expression : goal.decreases-expression
decreases-expression l = 16 * l.levels

abbrev pub decreases-arguments : goal.decreases-arguments
decreases-arguments l = 16 * l.levels + 1

abbrev pub decreases-bracketed : goal.decreases-bracketed
decreases-bracketed l = 16 * l.levels + 2

abbrev pub decreases-word : goal.decreases-word
decreases-word l = 16 * l.levels + 2

abbrev pub decreases-primary : goal.decreases-primary
decreases-primary l = 16 * l.levels + 3

abbrev pub decreases-postfix : goal.decreases-postfix
decreases-postfix l = 16 * l.levels + 4

abbrev pub decreases-unary : goal.decreases-unary
decreases-unary l = 16 * l.levels + 5

abbrev pub decreases-operation : goal.decreases-operation
decreases-operation l = 16 * l.levels + 6 + (7 - l.strength)

abbrev pub invariant-operation-loop-operator : goal.invariant-operation-loop-operator
invariant-operation-loop-operator l = Reads l.tokens l.start l.at (part (part_of_strength l.fn.strength)) (part (operators_of_strength l.fn.strength)) (IsExpression l.text l.fn.strength l.left)

abbrev pub decreases-operation-loop-operator : goal.decreases-operation-loop-operator
decreases-operation-loop-operator l = length l.tokens - l.at

abbrev pub invariant-postfix-loop-at : goal.invariant-postfix-loop-at
invariant-postfix-loop-at l = Reads l.tokens l.start l.at (part production.postfix) (part production.postfix_parts) (IsExpression l.text 8 l.object)

abbrev pub decreases-postfix-loop-at : goal.decreases-postfix-loop-at
decreases-postfix-loop-at l = length l.tokens - l.at

abbrev pub invariant-arguments-loop-alloc : goal.invariant-arguments-loop-alloc
invariant-arguments-loop-alloc l = Reads l.tokens l.fn.at l.at (arguments_before l.fn.close) (Part production.more_arguments ∷ grammar.Token (mark_number l.fn.close) ∷ []) (AreListed l.text l.items.items)

abbrev pub decreases-arguments-loop-alloc : goal.decreases-arguments-loop-alloc
decreases-arguments-loop-alloc l = length l.tokens - l.at
