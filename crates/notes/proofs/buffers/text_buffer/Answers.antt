-- The length of an array of zeros by a law: to count them would take too long.
use Rattle.std.proofs.Common.{ℕ, sym}
use Rattle.std.proofs.lemmas.List.{length-replicate}
use Rattle.notes.proofs.buffers.text_buffer.Goals as goal

pub returns : goal.returns
returns c = sym (length-replicate {A = ℕ} 1048576 0)
