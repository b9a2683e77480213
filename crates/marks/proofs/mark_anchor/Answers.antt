-- `marks::mark_anchor` meets its contract: its three places are marked one after the other. Assumes nothing.
use Rattle.marks.proofs.MarksLaws.{marks}
use Rattle.marks.proofs.mark_anchor.Goals as goal

pub returns : goal.returns
returns c = marks c.requires.1.0 c.requires.1.1 c.mark_of-mine.ensures.0 c.mark-one.result c.mark-two.result c.mark-three.result c.mark-one.ensures c.mark-two.ensures c.mark-three.ensures
