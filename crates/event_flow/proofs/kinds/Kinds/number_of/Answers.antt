use Rattle.std.proofs.Common.{◌≡◌, ◌∙◌, ap, sym, slice_get}
use Rattle.std.specs.List.{position}
use Rattle.std.specs.Str.{bytes_eq}
use Rattle.std.specs.String.{string_bytes}
use Rattle.event_flow.proofs.Numbers.{number_found, place_found, stands}
use Rattle.event_flow.proofs.kinds.Kinds.number_of.Goals as goal

pub returns : goal.returns
returns c = λ n.
    let names = c.self.inside.names.keys in
    let kind = c.args.kind.now in
    let place : c.get_index_of.result ≡ position (stands string_bytes kind) names =
    c.get_index_of.ensures.index ∙ ap (λ k. position (λ x. bytes_eq k (string_bytes x)) names) c.as_str.ensures in (
      λ is. ap (λ ks. slice_get ks n) (sym c.self.view_is) ∙ number_found string_bytes kind names n (sym place ∙ is),
      λ is. place ∙ place_found string_bytes kind names n c.self.inside.distinct (ap (λ ks. slice_get ks n) c.self.view_is ∙ is),
    )
