use Rattle.std.proofs.Common.{sym, ◌∙◌, map, refl, subst, arith}
use Rattle.mxml_items.specs.Reading.{written}
use Rattle.mxml_tree.specs.Building.{RefusesTag}
use Rattle.mxml_tree.proofs.KnownPrefixes.{own_prefixes_are}
use Rattle.mxml_tree.proofs.TagFaults.{known_tag, unknown_attribute, unknown_element}
use Rattle.mxml_tree.proofs.building.Building.begin.Goals as goal

pub returns-in_default-clause-err : goal.returns-in_default-clause-err
returns-in_default-clause-err c =
    let opened = c.args.self.now.opened.items in
    let own = c.in_ok-declarations.declarations in
    let attributes = map written c.args.attributes.now in
    let once = sym c.in_ok-is_repeated.ensures ∙ c.if-branch.false in
    let none = rw c.as_slice-own.ensures at rw c.as_slice-opened.ensures.value at rw c.prefix_of.ensures at (sym c.in_ok-space.ensures ∙ c.in_default.is) in
    subst (RefusesTag opened c.args.name.now attributes c.args.placed.now.at) (sym c.fault-in_default.ensures)
    (refl, unknown_element opened own c.args.name.now attributes (omega (arith, c.if-len-ge-MOST_LEVELS.false, c.len.ensures)) once c.in_ok-declarations.ensures none)

pub returns-in_default-2-clause-err : goal.returns-in_default-2-clause-err
returns-in_default-2-clause-err c =
    let opened = c.args.self.now.opened.items in
    let own = c.in_ok-declarations.declarations in
    let attributes = map written c.args.attributes.now in
    let once = sym c.in_ok-is_repeated.ensures ∙ c.if-branch.false in
    let unknown = rw c.as_slice-own.ensures at rw c.as_slice-opened.ensures.value at rw c.in_default-2.is at c.in_ok-attributes.ensures in
    subst (RefusesTag opened c.args.name.now attributes c.args.placed.now.at) (sym c.fault-in_default-2.ensures)
    (refl, unknown_attribute opened own c.args.name.now attributes (omega (arith, c.if-len-ge-MOST_LEVELS.false, c.len.ensures)) once c.in_ok-declarations.ensures unknown)

pub returns-clause-ok : goal.returns-clause-ok
returns-clause-ok c =
    let opened = c.args.self.now.opened.items in
    let own = c.in_ok-declarations.declarations in
    let attributes = map written c.args.attributes.now in
    let once = sym c.in_ok-is_repeated.ensures ∙ c.if-branch.false in
    let space = rw c.as_slice-own.ensures at rw c.as_slice-opened.ensures.value at rw c.prefix_of.ensures at (sym c.in_ok-space.ensures ∙ c.in-Some.is) in
    let listed = rw c.as_slice-own.ensures at rw c.as_slice-opened.ensures.value at rw c.in-Some-2.is at c.in_ok-attributes.ensures in
    record {
      is_tag =
          record {
            are_declared = c.in_ok-declarations.ensures;
            no_attribute_twice = once;
            is_named = record { space = space; local = c.in_ok-local.ensures ∙ c.local_of.ensures };
            are_attributes = listed;
          };
      no_fault = known_tag opened own c.args.name.now attributes c.in-Some.space c.in-Some-2.attributes (omega (arith, c.if-len-ge-MOST_LEVELS.false, c.len.ensures)) once c.in_ok-declarations.ensures space listed;
      prefixes = own_prefixes_are attributes own c.in_ok-declarations.ensures;
      ends = refl;
    }
