use Rattle.std.proofs.Common.{length}
use Rattle.flexc.proofs.emit.+put_handler_bodies.Given as goal

abbrev pub decreases-put_handler_bodies : goal.decreases-put_handler_bodies
decreases-put_handler_bodies l = length l.elements.now
