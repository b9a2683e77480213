-- `copy_out` meets its contract: the text lies within both buffers. Assumes nothing.
use Rattle.std.specs.Prelude.{◌≡◌, Ok}
use native.Mathlib.Omega.{arith}
use mathlib.Core.Path.{◌∙◌}
use Rattle.answer.specs.declared.Answer.TheVariants.{Accepted}
use Rattle.give.proofs.GivenLaws.{copied-front}
use Rattle.give.proofs.copy_out.Goals as goal

pub returns-in-Ok-Accepted : goal.returns-in-Ok-Accepted
returns-in-Ok-Accepted c =
    let t = c.in-Ok-Accepted in
    let e : c.args.a ≡ Ok (Accepted t.length t.field-0-1) = grind arith in
    let h = rw e at c.requires in
    rw e (c.copy.ensures.0 ∙ copied-front t.length c.args.work.now c.args.out.now h.1 h.0)
