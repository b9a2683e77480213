-- `emit` meets its contract. Assumes nothing.
use mathlib.Core.Path.{refl}
use mir.Syntax.{w32}
use Rattle.std.proofs.Common.{rules}
use Rattle.std.proofs.lemmas.Int.{to_z-of_z}
use Rattle.put.proofs.RunningLaws.{ran_kept}
use Rattle.joining.proofs.StandLaws.{shift_ready}
use Rattle.joining.proofs.EmitLaws.{behind-past, behind-lines}
use Rattle.joining.proofs.emit.Goals as goal

pub shift_below-requires : goal.shift_below-requires
shift_below-requires c = rw (c.bytes-text.ensures.text, c.text.ensures) (shift_ready c.requires.can c.requires.among.0)

pub returns-in-Ok-clause-added : goal.returns-in-Ok-clause-added
returns-in-Ok-clause-added c =
    let h = rw (c.bytes-text.ensures.text, c.text.ensures) at c.in-Ok.ensures in
    rw c.answer_of.ensures
    (behind-lines c.args.running.now c.args.assembly c.requires.can c.requires.among.0 c.args.i _ c.requires.among.1 c.in-Ok.shift (h.0, h.1.1) c.put_behind-put.result (rw (to_z-of_z w32 c.in-Ok.shift (search rules)) at c.put_behind-put.ensures.ran))

pub returns-in-Ok-clause-kept : goal.returns-in-Ok-clause-kept
returns-in-Ok-clause-kept c = ran_kept _ c.put_behind-put.result c.put_behind-put.ensures.ran

pub returns-in-Err-clause-kept : goal.returns-in-Err-clause-kept
returns-in-Err-clause-kept c = record { contents = refl; limit = refl; long = refl }

pub returns-in-Err-clause-added : goal.returns-in-Err-clause-added
returns-in-Err-clause-added c =
    behind-past c.args.running.now c.args.assembly c.requires.can c.requires.among.0 c.args.i c.args.running.now c.in-Err.line (rw (c.bytes-text.ensures.text, c.text.ensures) at c.in-Err.ensures)
