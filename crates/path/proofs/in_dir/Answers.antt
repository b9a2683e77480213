-- `path::in_dir` meets its contract. Assumes nothing.
use Rattle.path.proofs.in_dir.Goals as goal

pub returns-in-Kept : goal.returns-in-Kept
returns-in-Kept c = rw c.in-Kept.is
