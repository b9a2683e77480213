-- The proof of the cycle of calls {embed, fill_regions}. With f files of the set not on the chain the measures are 2f and 2f + 1: `fill_regions` calls `embed` at the
-- same chain, and `embed` calls `fill_regions` with one mark more. Assumes nothing.
use Rattle.std.proofs.Common.{◌+◌, ◌-◌, length, take}
use Rattle.chains.specs.Chains.{free}
use Rattle.index.specs.FileSets.{files_of}
use Rattle.fragment.proofs.LoopLaws.{Loop}
use Rattle.fragment.proofs.+embed_fill_regions.Given as goal

abbrev pub decreases-embed : goal.decreases-embed
decreases-embed l = free (take (length (files_of l.chain.files)) l.chain.marks) + free (take (length (files_of l.chain.files)) l.chain.marks)

abbrev pub decreases-fill_regions : goal.decreases-fill_regions
decreases-fill_regions l = free (take (length (files_of l.chain.files)) l.chain.marks) + free (take (length (files_of l.chain.files)) l.chain.marks) + 1

abbrev pub invariant-fill_regions-loop-region : goal.invariant-fill_regions-loop-region
invariant-fill_regions-loop-region l = Loop (files_of l.chain.files) l.chain.top.now l.chain.marks l.name l.s l.at (length l.initial.work) l.work l.cursor l.text

abbrev pub decreases-fill_regions-loop-region : goal.decreases-fill_regions-loop-region
decreases-fill_regions-loop-region l = length l.s - l.cursor.at
