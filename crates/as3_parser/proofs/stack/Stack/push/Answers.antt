use Rattle.std.proofs.Common.{◌≡◌, ap, ◌∙◌, ◌≤◌, ◌+◌, ◌++◌, [], ◌∷◌, reverse, length, arith, Fits, w64, rules}
use Rattle.std.specs.Vec.{vec_len}
use Rattle.std.proofs.lemmas.List.{length_push, length-reverse}
use Rattle.as3_parser.specs.Marks.{marks}
use Rattle.as3_parser.proofs.Marks.{marks_few}
use Rattle.as3_parser.proofs.stack.Stack.push.Goals as goal

pub overflow_add-self : goal.overflow_add-self
overflow_add-self c =
    let few : marks (reverse c.self.inside.bytes.items) ≤ length (reverse c.self.inside.bytes.items) = marks_few (reverse c.self.inside.bytes.items) in
    let same = length-reverse c.self.inside.bytes.items in
    let more = length_push c.self.inside.bytes.items c.args.b in
    let len : vec_len c.push.new.self ≡ length (c.self.inside.bytes.items ++ c.args.b ∷ []) = c.push.new.self.ok.0 ∙ ap (λ y. length y) c.in_ok-push.ensures.items in
    let count = c.self.invariant in
    let le : c.self.inside.count + 1 ≤ vec_len c.push.new.self = omega (arith, count, few, same, more, len) in
    let fits : Fits w64 (vec_len c.push.new.self) = search rules in
    search (rules, le, fits)
