-- Room for a file that is taken in and for each other file not on the chain. Assumes nothing.
use Prim.Native.Nat.{ℕ, suc, ◌+◌, ◌*◌, ◌≤◌}
use native.Mathlib.Omega.{arith}
use mathlib.Core.Path.{◌≡◌}
use mathlib.Core.Bool.{Bool, true}
use mathlib.Core.List.{List}
use lib.ListN.{length, take, set}
use Rattle.index.specs.FileSets.{files_of}
use Rattle.index.specs.declared.file_set.FileSet.{FileSet}
use Rattle.index.proofs.RowsLaws.{few_files}
use Rattle.chains.specs.Chains.{free}
use Rattle.filling.specs.Filling.{CanEmbed}
use Rattle.filling.proofs.RoomLaws.{free-next, room_next, room-two}

module _ (files : FileSet) {m : List Bool} {d target len L W : ℕ} (whole : length m ≡ 64) (c : CanEmbed m (length (files_of files)) d target len L W) where
  marks_whole : length (files_of files) ≤ length m
  marks_whole = omega (arith, few_files files)

  pub one_less : free (take (length (files_of files)) m) ≡ suc (free (take (length (files_of files)) (set m d true)))
  one_less = free-next m (length (files_of files)) d c.one marks_whole c.off

  pub two_fit : L + L ≤ W
  two_fit = room-two m (length (files_of files)) d c.one marks_whole c.off L W c.room

  pub lent_fits : suc (free (take (length (files_of files)) (set m d true))) * L + L ≤ W
  lent_fits = room_next m (length (files_of files)) d c.one marks_whole c.off L W c.room
