-- The measure is what is left of the text.
use Rattle.std.proofs.Common.{◌-◌, length}
use Rattle.anchor.specs.Anchor.{CursorWithin}
use Rattle.replay.proofs.outline.print_anchor.Given as goal

abbrev pub invariant-loop-byte : goal.invariant-loop-byte
invariant-loop-byte g l = CursorWithin l.cursor l.text

abbrev pub decreases-loop-byte : goal.decreases-loop-byte
decreases-loop-byte g l = length l.text - l.cursor.at
