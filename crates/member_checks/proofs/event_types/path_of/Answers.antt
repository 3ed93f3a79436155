-- Name by name.
use Rattle.std.proofs.Common.{◌∙◌, ◌++◌, ap, sym}
use Rattle.std.specs.Prelude.{option_map}
use Rattle.as3_parser.specs.declared.tree.Lexeme.{Lexeme}
use Rattle.source_sites.specs.Names.{path_names}
use Rattle.member_checks.proofs.Events.{next_name, no_identifier, one_identifier}
use Rattle.member_checks.proofs.event_types.path_of.Goals as goal

pub returns-in_default-2 : goal.returns-in_default-2
returns-in_default-2 c =
    no_identifier c.args.names.now c.loop-name.rest.now c.in-Some.others.now c.in-Some.name.now c.loop-name.invariant.1 c.in-Some.ensures.cases.0
    (ap (option_map (λ (l : Lexeme). l.text)) (sym c.in_default-2.is) ∙ c.in_ok-word.ensures)

pub loop-name-preserved : goal.loop-name-preserved
loop-name-preserved c =
    let word = c.in-Some-2.word in
    let one =
    one_identifier c.args.names.now c.loop-name.rest.now c.in-Some.others.now c.in-Some.name.now c.loop-name.invariant.1 c.in-Some.ensures.cases.0 word.text
    (ap (option_map (λ (l : Lexeme). l.text)) (sym c.in-Some-2.is) ∙ c.in_ok-word.ensures) in (
      ap (λ ls. path_names ls ++ c.in-Some.others.now) c.in_ok-push.ensures.items
          ∙ next_name c.loop-name.path.items word c.in-Some.others.now c.args.names.now c.loop-name.rest.now c.in-Some.name.now c.loop-name.invariant.0 c.in-Some.ensures.cases.0 one.0,
      one.1,
    )
