use Rattle.std.proofs.Common.{None, Some, inl, inr, sym, ◌∙◌, true≢false, lit<}
use Rattle.std.proofs.lemmas.Str.Pattern.{split_parts}
use Rattle.mxml_items.proofs.NameLaws.{name_is_part, name_is_parts, lacks_colon}
use Rattle.mxml_items.proofs.names.is_name.Goals as goal

pub returns-then-is_part : goal.returns-then-is_part
returns-then-is_part c =
    let word = c.args.word.now in
    let prefix = c.in-Some.prefix.now in
    let local = c.in-Some.local.now in
    let parts = split_parts 58 word (Some (c.in-Some.prefix, c.in-Some.local)) c.in-Some.ensures.cases (lit< tt) in (
      λ e. inr (record { prefix = prefix; local = local; is = parts.0; is_prefix = c.is_part.ensures.0 c.if-is_part.true; is_local = c.is_part-then-is_part.ensures.0 e }),
      λ n. c.is_part-then-is_part.ensures.1 (name_is_parts word prefix local parts.0 (lacks_colon prefix parts.1) n).1,
    )

pub returns-else-is_part : goal.returns-else-is_part
returns-else-is_part c =
    let word = c.args.word.now in
    let prefix = c.in-Some.prefix.now in
    let local = c.in-Some.local.now in
    let parts = split_parts 58 word (Some (c.in-Some.prefix, c.in-Some.local)) c.in-Some.ensures.cases (lit< tt) in (
      λ e. absurd (true≢false (sym e ∙ c.if-is_part.false)),
      λ n. c.is_part.ensures.1 (name_is_parts word prefix local parts.0 (lacks_colon prefix parts.1) n).0,
    )

pub returns-in-None : goal.returns-in-None
returns-in-None c =
    let none = split_parts 58 c.args.word.now None c.in-None.ensures.cases (lit< tt) in
    (λ e. inl (c.is_part-in-None.ensures.0 e), λ n. c.is_part-in-None.ensures.1 (name_is_part c.args.word.now (lacks_colon c.args.word.now none) n))
