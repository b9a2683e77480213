-- `pointer::put_outside` meets its contract. Assumes nothing.
use mathlib.Core.List.{append_assoc}
use Rattle.put.proofs.RunningLaws.{grown_then}
use Rattle.pointer.proofs.PutLaws.{source_put}
use Rattle.pointer.proofs.put_outside.Goals as goal

pub returns-clause-ran : goal.returns-clause-ran
returns-clause-ran c =
    let g = grown_then c.in_ok-put_root.ensures.ran c.in_ok-put_bytes.ensures.ran in
    simp append_assoc (simp append_assoc at (source_put c.requires g _ c.put_part.result c.put_part.ensures.ran))
