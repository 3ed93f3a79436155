use Rattle.std.proofs.Common.{length}
use Rattle.flexc.proofs.emit.+put_handler_methods.Given as goal

abbrev pub decreases-put_handler_methods : goal.decreases-put_handler_methods
decreases-put_handler_methods l = length l.elements.now
