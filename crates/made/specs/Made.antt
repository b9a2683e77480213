-- The members of a book, each filled in its slot of the work buffer or kept as it stands in the contents. Nothing here is document 01's: functions promise it, and the laws of
-- `proofs/` tie it to the walk of the book.
use Rattle.std.specs.Prelude.{ℕ, suc, ◌+◌, ◌*◌, ◌≤◌, ◌≡◌, false, List, map, length, All, Result, Ok, Err}
use Rattle.answer.specs.declared.Refusal.{Refusal}
use Rattle.index.specs.Index.{File}
use Rattle.index.specs.FileSets.{files_of}
use Rattle.index.specs.declared.file_set.FileSet.{FileSet}
use Rattle.walk.specs.Steps.{Steps, go, Judged, given, refused, judge}
use Rattle.chains.specs.Chains.{start_at}
use Rattle.assembled.specs.Assemble.{assemble}
use Rattle.put.specs.declared.Source.{Source}
use Rattle.members.specs.Members.{Lies, AllLie}
use Rattle.members.specs.declared.Member.{Member}
use Rattle.listed.specs.Files.{no_outline}
use Rattle.book.specs.Book.{with_texts}
use Rattle.book.specs.BookWalk.{walk_all}

-- where the slot of list line i begins, counted from 0; the first slot is the assembled text's
abbrev pub slot : ℕ → ℕ → ℕ
slot L i = (i + 1) * L

-- a member whose text lies at another place
abbrev pub placed_at : Member → Source → Member
placed_at m s = record { name = m.name; file = m.file; source = s; outline = no_outline }

-- a member that stands in the contents can be filled from a place of a work buffer of so many bytes on, which has room for it and each file
pub record CanFill (files : FileSet) (m : Member) (L at work : ℕ) : Type 0 where
  pub lies : Lies (length files.index.now) (length files.contents.now) L L m
  pub stands : m.source.work ≡ false
  pub room : at + suc (length (files_of files)) * L ≤ work

-- members stand in the contents, and the work buffer has a slot for each file, each of them and two more
pub record CanMake (files : FileSet) (ms : List Member) (L work : ℕ) : Type 0 where
  pub lie : AllLie files.index.now (length files.contents.now) L L ms
  pub stand : All (λ m. m.source.work ≡ false) ms
  pub room : (length (files_of files) + length ms + 2) * L ≤ work

-- the walk of the book whose members are hs
abbrev pub book_of : List File → List File → List ℕ → Steps (List ℕ)
book_of S hs url = go (walk_all (map (start_at S) hs)) (λ ts. assemble url (with_texts hs ts))

-- the members hs, judged with B and L, one after the other
abbrev pub judged_all : ℕ → ℕ → List File → List File → Judged (List (List ℕ))
judged_all B L S hs = judge B L 0 (walk_all (map (start_at S) hs))

abbrev pub texts_of : List File → List (List ℕ)
texts_of fs = map (λ f. f.text) fs

-- the members hs are fs now: their walk gives the texts of these, with so many files taken in, and nothing else differs; or it is refused
pub record AreMade (B L : ℕ) (S hs fs : List File) (n : ℕ) : Type 0 where
  pub judged : judged_all B L S hs ≡ given (texts_of fs) n
  pub same : fs ≡ with_texts hs (texts_of fs)

abbrev pub MadeOf : ℕ → ℕ → List File → List File → List File → Result ℕ Refusal → Type 0
MadeOf B L S hs fs (Ok n) = AreMade B L S hs fs n
MadeOf B L S hs fs (Err x) = judged_all B L S hs ≡ refused x
