-- Where the tokens between two places stand.
use Rattle.std.specs.Prelude.{ℕ, ◌-◌, List, slice_get}
use Rattle.std.specs.Option.{option_map_or}
use Rattle.as3_lexer.specs.declared.token.Token.{Token}
use Rattle.as3_parser.specs.declared.tree.Span.{Span}

abbrev pub span_between : List Token → ℕ → ℕ → Span
span_between ts i j = record { start = option_map_or (λ t. t.start) (slice_get ts i) 0; end = option_map_or (λ t. t.end) (slice_get ts (j - 1)) 0 }
