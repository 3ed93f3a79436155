use Rattle.std.proofs.Common.{◌≡◌, ◌∙◌, ◌≤◌, ◌-◌, ap, arith, length}
use Rattle.std.proofs.Math.Facts.{to_z-of_z}
use Rattle.lru.specs.LruCache.{LruCache, demoted, put_entries}
use Rattle.event_flow.proofs.Pairs.{pushed, same_itself}
use Rattle.event_flow.specs.Registered.{same_key}
use Rattle.event_flow.proofs.registrations.push_pair.Goals as goal

pub returns-clause-after : goal.returns-clause-after
returns-clause-after c =
    let k = c.args.key in
    let before = c.args.pairs.now in
    let put : c.put.new.self.entries ≡ put_entries same_key before k c.args.priority =
    ap (λ (m : LruCache _ _). m.entries) c.in_ok-put.ensures.entries ∙ ap (put_entries same_key before k) (to_z-of_z c.ranges.priority) in
    let fits : length before.entries ≤ before.cap - 1 = omega (arith, c.len.ensures.valid.1, c.len.ensures.len, c.get.ensures.value, c.cap.ensures, c.if-len-get.false) in
    ap (λ (m : LruCache _ _). m.entries) c.demote.ensures.entries ∙ ap (demoted (same_key k)) put
    ∙ pushed same_key before k c.args.priority (same_itself k) c.requires fits
