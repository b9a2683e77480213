-- `pointer::put_far` meets its contract. Assumes nothing.
use mathlib.Core.List.{append_assoc}
use Rattle.std.specs.Prelude.{None}
use Rattle.path.specs.Path.{resolve}
use Rattle.put.specs.Running.{text_of}
use Rattle.put.proofs.RunningLaws.{grown_then, ran_then, over_then, read_same}
use Rattle.pointer.proofs.PutLaws.{source_put}
use Rattle.pointer.proofs.put_far.Goals as goal

pub returns-in_err-put_path-clause-ran : goal.returns-in_err-put_path-clause-ran
returns-in_err-put_path-clause-ran c =
    let a = c.args in
    let p = c.in_ok-put_root.ensures.ran in
    let q = ran_then (resolve a.dir.now (text_of a.running.now a.path)) c.put_path.new.running None p (rw (read_same c.requires.path p) at c.in_err-put_path.ensures.ran) in
    rw c.from_residual-in_err-put_path.ensures (simp append_assoc (simp append_assoc at (over_then (text_of a.running.now a.rest) q)))

pub returns-clause-ran : goal.returns-clause-ran
returns-clause-ran c =
    let p = c.in_ok-put_root.ensures.ran in
    let g = grown_then p (rw (read_same c.requires.path p) at c.in_ok-put_path.ensures.ran) in
    simp append_assoc (simp append_assoc at (source_put c.requires.rest g _ c.put_part.result c.put_part.ensures.ran))
