use Rattle.as3_parser.proofs.Rows.{row_is, row_past, row_wide}
use Rattle.as3_parser.proofs.table.row_at.Goals as goal

pub returns-then-part-ge-PARTS : goal.returns-then-part-ge-PARTS
returns-then-part-ge-PARTS c = row_past _ _ _ c.from-part.ensures c.if-part-ge-PARTS.true

pub returns-then-next-ge-WIDTH : goal.returns-then-next-ge-WIDTH
returns-then-next-ge-WIDTH c = row_wide _ _ c.if-next-ge-WIDTH.true

pub returns : goal.returns
returns c = row_is _ _ _ _ c.cell.ensures c.from-part.ensures c.if-part-ge-PARTS.false c.if-next-ge-WIDTH.false
