-- The tables, one after another.
use Rattle.std.proofs.Common.{◌≡◌, map, ap, ap₂, ◌∙◌}
use Rattle.std.specs.String.{string_bytes}
use Rattle.abc_writer.specs.Interning.{Entries, with_name, name_number}
use Rattle.abc_writer.proofs.Interned.{name_interned}
use Rattle.abc_writer.proofs.pool.Pool.name.Goals as goal

pub returns-clause-number : goal.returns-clause-number
returns-clause-number c =
    let w = name_interned c.args.self.now (string_bytes c.in_ok-space.space) (string_bytes c.in_ok-local.local) _ _ _ _ _ _ _ _ _ _ _ _ (ap (λ (e : Entries). e.integers) c.self.view_is)
    (ap (map string_bytes) c.reserve.ensures.keys ∙ ap (λ (e : Entries). e.strings) c.self.view_is) (c.reserve-2.ensures.keys ∙ ap (λ (e : Entries). e.spaces) c.self.view_is)
    (c.reserve-3.ensures.keys ∙ ap (λ (e : Entries). e.names) c.self.view_is)
    c.intern_text-space.ensures.texts c.intern_text-space.ensures.number c.intern-namespace.ensures.keys c.intern-namespace.ensures.number
    c.intern_text-local.ensures.texts c.intern_text-local.ensures.number c.intern_pair.ensures.pairs c.intern_pair.ensures.number in
    let space : string_bytes c.in_ok-space.space ≡ c.args.space.now = c.in_ok-space.ensures.ok ∙ c.as_str.ensures in
    let local : string_bytes c.in_ok-local.local ≡ c.args.local.now = c.in_ok-local.ensures.ok ∙ c.as_str-2.ensures in
    c.new.ensures ∙ w.1 ∙ ap₂ (name_number c.args.self.now) space local

pub returns-clause-entries : goal.returns-clause-entries
returns-clause-entries c =
    let w = name_interned c.args.self.now (string_bytes c.in_ok-space.space) (string_bytes c.in_ok-local.local) _ _ _ _ _ _ _ _ _ _ _ _ (ap (λ (e : Entries). e.integers) c.self.view_is)
    (ap (map string_bytes) c.reserve.ensures.keys ∙ ap (λ (e : Entries). e.strings) c.self.view_is) (c.reserve-2.ensures.keys ∙ ap (λ (e : Entries). e.spaces) c.self.view_is)
    (c.reserve-3.ensures.keys ∙ ap (λ (e : Entries). e.names) c.self.view_is)
    c.intern_text-space.ensures.texts c.intern_text-space.ensures.number c.intern-namespace.ensures.keys c.intern-namespace.ensures.number
    c.intern_text-local.ensures.texts c.intern_text-local.ensures.number c.intern_pair.ensures.pairs c.intern_pair.ensures.number in
    let space : string_bytes c.in_ok-space.space ≡ c.args.space.now = c.in_ok-space.ensures.ok ∙ c.as_str.ensures in
    let local : string_bytes c.in_ok-local.local ≡ c.args.local.now = c.in_ok-local.ensures.ok ∙ c.as_str-2.ensures in
    w.0 ∙ ap₂ (with_name c.args.self.now) space local
