use Rattle.std.proofs.Common.{rules, true, ◌≡◌, ◌∙◌, ◌++◌, ◌∷◌, [], ap, map, slice_get, sym, subst, Some}
use Rattle.std.specs.Prelude.{if◌then◌else◌}
use Rattle.std.specs.Str.{bytes_eq}
use Rattle.std.specs.String.{string_bytes}
use Rattle.event_flow.proofs.Numbers.{any_text, kind_inserted, place_found, text_at, the_same}
use Rattle.event_flow.specs.Registered.{with_kind}
use Rattle.event_flow.proofs.kinds.Kinds.number.Goals as goal

pub returns-in-Some-clause-after : goal.returns-in-Some-clause-after
returns-in-Some-clause-after c =
    let kinds = c.args.self.now in
    let there = any_text c.args.kind.now kinds c.in-Some.number ((c.number_of.ensures c.in-Some.number).0 c.in-Some.is) in
    ap (λ b. if b then kinds else kinds ++ c.args.kind.now ∷ []) (sym there)

pub returns-in-Some-clause-number : goal.returns-in-Some-clause-number
returns-in-Some-clause-number c = λ m. (
  λ is. (c.number_of.ensures m).0 (c.in-Some.is ∙ ap (λ n. Some n) is),
  λ is. the_same (sym c.in-Some.is ∙ (c.number_of.ensures m).1 is),
)

pub returns-clause-number : goal.returns-clause-number
returns-clause-number c = λ m.
    let stored = c.in_ok-number.ensures.stored in
    let keys = c.insert_full.new.self.keys in
    let kind = c.args.kind.now in
    let named : string_bytes c.in_ok-name.name ≡ kind = search rules in
    let there = text_at string_bytes kind keys c.in_ok-number.number stored.0 stored.1 (subst (λ k. bytes_eq k (string_bytes stored.0) ≡ true) named stored.2) in (
      λ is. subst (λ n. slice_get (map string_bytes keys) n ≡ Some kind) is there,
      λ is. the_same (sym (place_found string_bytes kind keys c.in_ok-number.number c.in_ok-number.ensures.unique there) ∙ place_found string_bytes kind keys m c.in_ok-number.ensures.unique is),
    )

pub returns-clause-after : goal.returns-clause-after
returns-clause-after c =
    let named : string_bytes c.in_ok-name.name ≡ c.args.kind.now = search rules in
    ap (map string_bytes) c.in_ok-number.ensures.keys ∙ kind_inserted string_bytes c.in_ok-name.name c.self.inside.names.keys
    ∙ ap (λ k. with_kind k (map string_bytes c.self.inside.names.keys)) named ∙ ap (with_kind c.args.kind.now) c.self.view_is
