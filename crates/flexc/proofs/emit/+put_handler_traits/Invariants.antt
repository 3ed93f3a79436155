use Rattle.std.proofs.Common.{length}
use Rattle.flexc.proofs.emit.+put_handler_traits.Given as goal

abbrev pub decreases-put_handler_traits : goal.decreases-put_handler_traits
decreases-put_handler_traits l = length l.elements.now
