-- The laws are lemmas.
use Rattle.swf_tags.proofs.EarlyLaws.{early-is, early-stays}
use Rattle.swf_tags.proofs.FeedLaws.{fed-append, fed-whole}
use Rattle.swf_tags.proofs.laws.laws_of_feeding.Goals as goal

pub returns-clause-fed_is_read : goal.returns-clause-fed_is_read
returns-clause-fed_is_read c = fed-whole

pub returns-clause-in_pieces : goal.returns-clause-in_pieces
returns-clause-in_pieces c = fed-append

pub returns-clause-early_is_known : goal.returns-clause-early_is_known
returns-clause-early_is_known c = early-is

pub returns-clause-early_stays : goal.returns-clause-early_stays
returns-clause-early_stays c = early-stays
