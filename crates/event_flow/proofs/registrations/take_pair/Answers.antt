use Rattle.std.proofs.Common.{◌∙◌, ap, length}
use Rattle.std.specs.Prelude.{nat_lt}
use Rattle.lru.specs.LruCache.{LruCache}
use Rattle.event_flow.proofs.Pairs.{fewer, keys_same, left_out}
use Rattle.event_flow.specs.Registered.{same_key}
use Rattle.event_flow.proofs.registrations.take_pair.Goals as goal

pub returns-clause-answer : goal.returns-clause-answer
returns-clause-answer c =
    let es = c.args.pairs.now.entries in
    ap (λ n. nat_lt n c.len-count.result) (c.len.ensures.len ∙ ap (λ (m : LruCache _ _). length m.entries) c.pop.ensures.entries) ∙ ap (nat_lt _) c.len-count.ensures.len ∙ fewer (same_key c.args.key) es

pub returns-clause-after : goal.returns-clause-after
returns-clause-after c = ap (λ (m : LruCache _ _). m.entries) c.pop.ensures.entries ∙ left_out same_key keys_same c.args.key c.args.pairs.now.entries c.len-count.ensures.valid.0
