-- The members that stand for the lines of a list can be made, and the book of them is that of the files that the lines name. Assumes nothing.
use Prim.Native.Nat.{ℕ, ◌+◌, ◌*◌, ◌≤◌}
use mathlib.Core.Path.{◌≡◌, ◌∙◌, ap}
use mathlib.Core.List.{List}
use lib.ListN.{length}
use Rattle.std.proofs.lemmas.List.{length-map}
use Rattle.index.specs.Index.{File}
use Rattle.index.specs.Rows.{AreShort}
use Rattle.index.specs.FileSets.{files_of}
use Rattle.index.specs.declared.file_set.FileSet.{FileSet}
use Rattle.members.specs.Members.{all_files}
use Rattle.listed.specs.Files.{line_member, line_members, AreListed}
use Rattle.listed.proofs.FilesLaws.{lines-stand, all_lie, files-same}
use Rattle.book.specs.BookWalk.{book}
use Rattle.made.specs.Made.{CanMake, book_of}
use Rattle.made.proofs.BookLaws.{book-listed}

module _ (files : FileSet) {lines : List ℕ} (l : AreListed (length (files_of files)) lines) where
  pub can_make : AreShort files.rows.now → {limit work : ℕ} → (length (files_of files) + length lines + 2) * limit ≤ work → CanMake files (line_members files.rows.now lines) limit work
  can_make short {limit} r = record { lie = all_lie files l short limit limit; stand = lines-stand files l; room = rw (length-map lines (line_member files.rows.now)) r }

  pub book-same : (url w : List ℕ) → book_of (files_of files) (all_files files.index.now files.contents.now w (line_members files.rows.now lines)) url ≡ book (files_of files) lines url
  book-same url w =
      ap (λ (hs : List File). book_of (files_of files) hs url) (files-same files l w)
      ∙ book-listed (files_of files) lines url
