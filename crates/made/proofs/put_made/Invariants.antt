-- `put_made` meets its contract. The invariant: the first i members are made, and the others stand as they did. Assumes nothing.
use Rattle.index.specs.FileSets.{files_of}
use Rattle.made.proofs.MakingLaws.{Making}
use Rattle.made.proofs.put_made.Given as goal

abbrev pub invariant-loop-i : goal.invariant-loop-i
invariant-loop-i l = Making l.allowance l.limit l.files.index.now l.files.contents.now (files_of l.files) l.initial.work l.initial.members l.work l.members l.i l.used
