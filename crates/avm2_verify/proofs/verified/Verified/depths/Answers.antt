use Rattle.std.proofs.Common.{rules, ◌≡◌, ◌∙◌, List, Option, sym, ap, subst}
use Rattle.std.specs.Prelude.{IfSome, slice_get}
use Rattle.abc_format.specs.declared.records.Abc.{Abc}
use Rattle.verified_code.specs.declared.Depths.{Depths}
use Rattle.avm2_verify.specs.Known.{joined}
use Rattle.avm2_verify.specs.Tables.{HasDepthsIn}
use Rattle.avm2_verify.proofs.BodiesLaws.{found_in, all_in, none_in}
use Rattle.avm2_verify.proofs.verified.Verified.depths.Goals as goal

pub returns-in-Some-clause-found : goal.returns-in-Some-clause-found
returns-in-Some-clause-found c =
    let same : c.args.self.now ≡ c.self.inside.abc = search rules in
    subst (λ (a : Abc). IfSome c.depths_in.result (HasDepthsIn a c.args.body c.args.place)) (sym same)
    (found_in c.self.inside.abc c.self.inside.tables c.self.invariant c.args.body c.args.place c.in-Some.table.now (sym c.in-Some.ensures.value) c.depths_in.result
    (c.depths_in.ensures ∙ ap (λ (t : List (Option Depths)). joined (slice_get t c.args.place)) c.as_slice.ensures))

pub returns-in-Some-clause-all : goal.returns-in-Some-clause-all
returns-in-Some-clause-all c = λ d h.
    let same : c.args.self.now ≡ c.self.inside.abc = search rules in
    all_in c.self.inside.abc c.self.inside.tables c.self.invariant c.args.body c.args.place c.in-Some.table.now (sym c.in-Some.ensures.value) c.depths_in.result
    (c.depths_in.ensures ∙ ap (λ (t : List (Option Depths)). joined (slice_get t c.args.place)) c.as_slice.ensures) d (subst (λ (a : Abc). HasDepthsIn a c.args.body c.args.place d) same h)

pub returns-in-None-clause-all : goal.returns-in-None-clause-all
returns-in-None-clause-all c = λ d h.
    let same : c.args.self.now ≡ c.self.inside.abc = search rules in
    absurd (none_in c.self.inside.abc c.self.inside.tables c.self.invariant c.args.body c.args.place (sym c.in-None.ensures.value) d (subst (λ (a : Abc). HasDepthsIn a c.args.body c.args.place d) same h))
