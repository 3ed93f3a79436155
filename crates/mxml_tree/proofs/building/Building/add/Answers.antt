use Rattle.mxml_items.specs.Texts.{placed_of}
use Rattle.mxml_tree.specs.Building.{around}
use Rattle.mxml_tree.proofs.StandsLaws.{says_nothing, stands_past}
use Rattle.mxml_tree.proofs.building.Building.add.Goals as goal

pub returns-in_default : goal.returns-in_default
returns-in_default c =
    record {
      ok = λ all left. let (over, none, same) = says_nothing c.args.placed.now.item (around c.args.self.now) c.in_default.not-Tag c.in_default.not-EndTag c.requires.no_text in stands_past all left (placed_of c.args.placed.now) c.args.self.now over none same;
      err = tt;
    }
