use Rattle.std.proofs.Common.{◌≡◌, ◌∙◌, ℕ, ℤ, OnOk, ap, length, map, of_z, subst, to_z, w32}
use Rattle.std.proofs.Math.Facts.{to_z-of_z}
use Rattle.event_flow.proofs.Ranks.{hearer, inserted, still_counted, with_last}
use Rattle.event_flow.specs.Hearers.{with_hearer}
use Rattle.event_flow.proofs.hearers.Hearers.add.Goals as goal

pub invariant_of-self-inside : goal.invariant_of-self-inside
invariant_of-self-inside c =
    let es = c.self.inside.by_rank.entries in
    let after = c.insert.new.self.entries in
    let l = c.args.listener in
    let p = c.args.priority in
    let put : OnOk c.insert.result (after ≡ with_last (record { 0 = p }) (length es) l es) =
    subst (λ (q : ℤ). OnOk c.insert.result (after ≡ with_last (record { 0 = q }) (length es) l es)) (to_z-of_z c.ranges.priority)
    (subst (λ (n : ℕ). OnOk c.insert.result (after ≡ with_last (record { 0 = to_z w32 (of_z w32 p) }) n l es)) c.len-number.ensures.len c.insert.ensures.entries) in
    (still_counted (record { 0 = p }) l es after c.insert.result c.self.inside.counted put c.insert.ensures.err, tt)

pub returns : goal.returns
returns c =
    let es = c.self.inside.by_rank.entries in
    let l = c.args.listener in
    let p = c.args.priority in
    ap (map hearer) c.in_ok-insert.ensures.entries
    ∙ ap (λ (q : ℤ). map hearer (with_last (record { 0 = q }) c.len-number.result l es)) (to_z-of_z c.ranges.priority)
    ∙ ap (λ (n : ℕ). map hearer (with_last (record { 0 = p }) n l es)) c.len-number.ensures.len
    ∙ inserted (record { 0 = p }) (length es) l es c.self.inside.counted ∙ ap (with_hearer p l) c.self.view_is
