use Rattle.std.proofs.Common.{rules}
use Rattle.std.proofs.lemmas.Iterator.{YieldsList-from_slice}
use Rattle.std.proofs.lemmas.Iterator.Search.{all_from_yields_List}
use borrow.Author.Tests.{tests}
use Rattle.mxml_items.specs.Pieces.{is_white}
use Rattle.mxml_tree.proofs.texts.is_white_text.Goals as goal

pub returns-in-Words : goal.returns-in-Words
returns-in-Words c =
    rw c.in-Words.is (all_from_yields_List is_white _ _ _ c.all.ensures.ran (YieldsList-from_slice c.in-Words.content.now cc) (λ x b q k. search (rules, tests)))
