-- The characters come one after another, and take no more units than bytes.
use Rattle.std.proofs.Common.{◌≡◌, ℕ, ◌+◌, ◌<◌, ◌≤◌, length, ap, sym, ◌∙◌, arith, pos, map-id, w32}
use Rattle.std.specs.Char.Escape.{encode_utf16}
use Rattle.std.specs.List.{flat_map}
use Rattle.std.specs.Str.{chars}
use Rattle.std.proofs.lemmas.Int.{to_z_pos}
use Rattle.std.proofs.lemmas.Iterator.{YieldsList-from_chars}
use Rattle.std.proofs.lemmas.Iterator.Consumers.{YieldsList-so_far, YieldsList-turn, YieldsList-end}
use Rattle.flex_base.proofs.Units.{units_are, next_bound, all_bound, units_more}
use Rattle.flex_base.proofs.conversion.length_of.Goals as goal

pub overflow_add-units : goal.overflow_add-units
overflow_add-units c =
    let road = YieldsList-from_chars c.as_str.result.now c.as_str.utf8 cc in
    let begun = YieldsList-so_far road c.loop-character.yielded _ c.loop-character.yielded_by in
    let next = YieldsList-turn road c.loop-character.yielded _ c.loop-character.yielded_by _ _ c.in-Some.character c.in-Some.is c.next.ensures.steps in
    let bound = next_bound c.as_str.result.now c.loop-character.yielded c.in-Some.character c.as_str.utf8 begun next.0 next.1 in
    let units = units_are c.in-Some.character c.len_utf16-units.result c.len_utf16-units.ensures.bmp c.len_utf16-units.ensures.surrogate_pair in
    omega (arith, bound, units, c.loop-character.invariant, c.requires, ap length c.as_str.ensures)

pub loop-character-preserved : goal.loop-character-preserved
loop-character-preserved c =
    let units = units_are c.in-Some.character c.len_utf16-units.result c.len_utf16-units.ensures.bmp c.len_utf16-units.ensures.surrogate_pair in
    let more = units_more c.loop-character.yielded c.in-Some.character in
    omega (arith, units, more, c.loop-character.invariant)

pub overflow_cast-result : goal.overflow_cast-result
overflow_cast-result c =
    let road = YieldsList-from_chars c.as_str.result.now c.as_str.utf8 cc in
    let end = YieldsList-end road c.loop-character.yielded _ c.loop-character.yielded_by _ _ c.in-None.is c.next.ensures.steps in
    let bound = all_bound c.as_str.result.now c.loop-character.yielded c.as_str.utf8 end.0 in
    omega (arith, bound, c.loop-character.invariant, c.requires, ap length c.as_str.ensures)

pub returns : goal.returns
returns c =
    let road = YieldsList-from_chars c.as_str.result.now c.as_str.utf8 cc in
    let end = YieldsList-end road c.loop-character.yielded _ c.loop-character.yielded_by _ _ c.in-None.is c.next.ensures.steps in
    let bound = all_bound c.as_str.result.now c.loop-character.yielded c.as_str.utf8 end.0 in
    let small : c.loop-character.units < 2147483648 = omega (arith, bound, c.loop-character.invariant, c.requires, ap length c.as_str.ensures) in
    to_z_pos w32 c.loop-character.units small
    ∙ ap pos (c.loop-character.invariant ∙ ap (λ l. length (flat_map encode_utf16 l)) (sym (map-id c.loop-character.yielded) ∙ end.0 ∙ ap chars c.as_str.ensures))
