-- One member that stands in the contents, filled in its slot. Assumes nothing.
use Prim.Native.Nat.{ℕ, suc, ◌-◌, ◌*◌, ◌≤◌}
use native.Mathlib.Omega.{arith}
use mathlib.Core.Path.{◌≡◌}
use mathlib.Core.Bool.{false}
use mathlib.Core.List.{List}
use lib.ListN.{length, take, drop}
use Rattle.index.specs.FileSets.{files_of}
use Rattle.index.specs.declared.file_set.FileSet.{FileSet}
use Rattle.index.proofs.RowsLaws.{few_files}
use Rattle.chains.specs.Chains.{free, no_marks}
use Rattle.filling.proofs.RoomLaws.{free-none, lent_length}
use Rattle.put.specs.Put.{Inside}
use Rattle.put.specs.declared.Source.{Source}
use Rattle.members.specs.declared.Member.{Member}
use Rattle.made.specs.Made.{CanFill}

pub source_in : (s : Source) (L c stop : ℕ) → Inside s L c stop → s.work ≡ false → s.end ≤ c
source_in s L c stop h e = rw e at h.1

module _ {files : FileSet} {L at : ℕ} {m : Member} (w : List ℕ) (c : CanFill files m L at (length w)) where
  pub slot_in : at ≤ length w
  slot_in = omega (arith, c.room)

  pub slot-room : suc (free (take (length (files_of files)) no_marks)) * L ≤ length (take (length w - at) (drop at w))
  slot-room = rw (free-none (length (files_of files)) 64 (few_files files), lent_length w at slot_in) (omega (arith, c.room))

pub ruleset slots = (source_in, slot-room)
