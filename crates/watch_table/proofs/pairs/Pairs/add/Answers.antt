use Rattle.std.proofs.Common.{◌∙◌, ◌≡◌, true, false, ap, sym, arith, slice_get}
use Rattle.std.specs.List.{insert}
use Rattle.std.specs.Prelude.{if◌then◌else◌}
use Rattle.watch_table.specs.Affected.{is_not_behind, with_pair}
use Rattle.watch_table.proofs.Places.{place_of, place_within, put, put_is_with}
use Rattle.watch_table.proofs.pairs.Pairs.add.Goals as goal

pub insert-requires : goal.insert-requires
insert-requires c = let within = place_within c.args.pair c.as_slice.result.now in omega (arith, within, c.first_from-place.ensures, c.as_slice.ensures.len)

pub returns-then-is_at : goal.returns-then-is_at
returns-then-is_at c =
    let qs = c.self.inside.list.items in
    let p = c.args.pair in
    let n = c.first_from-place.result in
    let place : n ≡ place_of p qs = c.first_from-place.ensures ∙ ap (place_of p) c.as_slice.ensures.value in
    let at : is_not_behind p (slice_get qs n) ≡ true = ap (λ l. is_not_behind p (slice_get l n)) (sym c.as_slice-2.ensures.value) ∙ sym c.is_at.ensures ∙ c.if-is_at.true in
    let same : qs ≡ with_pair qs p = ap (λ b. if b then qs else insert qs n p) (sym at) ∙ ap (λ m. put p m qs) place ∙ put_is_with p qs in
    sym c.self.view_is ∙ same ∙ ap (λ l. with_pair l p) c.self.view_is

pub returns : goal.returns
returns c =
    let qs = c.self.inside.list.items in
    let p = c.args.pair in
    let n = c.first_from-place.result in
    let place : n ≡ place_of p qs = c.first_from-place.ensures ∙ ap (place_of p) c.as_slice.ensures.value in
    let at : is_not_behind p (slice_get qs n) ≡ false = ap (λ l. is_not_behind p (slice_get l n)) (sym c.as_slice-2.ensures.value) ∙ sym c.is_at.ensures ∙ c.if-is_at.false in
    c.in_ok-insert.ensures.items ∙ ap (λ b. if b then qs else insert qs n p) (sym at) ∙ ap (λ m. put p m qs) place ∙ put_is_with p qs ∙ ap (λ l. with_pair l p) c.self.view_is
