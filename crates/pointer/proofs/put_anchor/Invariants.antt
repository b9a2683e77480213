-- `pointer::put_anchor` meets its contract. The invariant: the anchor is put up to the cursor. Assumes nothing.
use Rattle.std.proofs.Common.{◌≡◌, ◌-◌}
use Rattle.anchor.specs.Anchor.{slug, anchor_from, CursorWithin}
use Rattle.put.specs.Running.{text_of}
use Rattle.put.proofs.RunningLaws.{Left}
use Rattle.pointer.proofs.put_anchor.Given as goal

abbrev pub invariant-loop-byte : goal.invariant-loop-byte
invariant-loop-byte l =
    record {
      within : CursorWithin l.cursor (text_of l.initial.running l.title);
      left : Left (slug (text_of l.initial.running l.title)) l.initial.running l.running (anchor_from l.cursor (text_of l.initial.running l.title));
      same_reference : l.running.work.ghost_name ≡ l.initial.running.work.ghost_name;
    }

abbrev pub decreases-loop-byte : goal.decreases-loop-byte
decreases-loop-byte l = l.title.end - l.title.start - l.cursor.at
