-- The file is that of the document, which isn't too long and is played.
use Rattle.std.proofs.Common.{ℕ, List, subst, sym, ◌∙◌}
use Rattle.flexc.specs.PlaysAs.{PlaysAs}
use Rattle.flexc.proofs.Built.{built_from, built_fits}
use Rattle.flexc.proofs.PlaysAs.{built_plays_as}
use Rattle.flexc.proofs.command.build.Goals as goal

pub write_swf-requires-clause-fits : goal.write_swf-requires-clause-fits
write_swf-requires-clause-fits c =
    built_fits c.args.document.now.elements c.in_ok-abc.abc c.in_ok-main.main c.as_slice.result.now c.requires.small.few c.requires.small.short c.in_ok-main.ensures
    (c.as_slice.ensures ∙ c.in_ok-code.ensures.value) c.in_ok-abc.ensures

pub returns-clause-is : goal.returns-clause-is
returns-clause-is c =
    built_from c.args.document.now.elements c.in_ok-abc.abc c.in_ok-main.main c.as_slice.result.now c.in_ok-swf.swf c.in_ok-swf.ensures.spelled c.in_ok-main.ensures
    (c.as_slice.ensures ∙ c.in_ok-code.ensures.value) c.in_ok-abc.ensures

pub returns-clause-plays : goal.returns-clause-plays
returns-clause-plays c =
    let is = built_from c.args.document.now.elements c.in_ok-abc.abc c.in_ok-main.main c.as_slice.result.now c.in_ok-swf.swf c.in_ok-swf.ensures.spelled c.in_ok-main.ensures (c.as_slice.ensures ∙ c.in_ok-code.ensures.value) c.in_ok-abc.ensures in
    subst (λ (bytes : List ℕ). PlaysAs bytes c.args.document.now) (sym is) (built_plays_as c.args.document.now c.requires.small.few c.requires.small.short c.requires.distinct)
