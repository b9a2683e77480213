-- Laws of the walk of a book: its outcome by the members that were made, and by what was assembled of them. Assumes nothing.
use Rattle.std.specs.Prelude.{Result, Ok, Err}
use Prim.Native.Nat.{ℕ}
use mathlib.Core.Path.{◌≡◌, refl, ◌∙◌, sym, ap}
use mathlib.Core.List.{List}
use Rattle.index.specs.Index.{File}
use Rattle.answer.specs.declared.Answer.{Answer}
use Rattle.answer.specs.declared.Answer.TheVariants.{Accepted}
use Rattle.answer.specs.declared.Refusal.{Refusal}
use Rattle.walk.specs.Steps.{judge}
use Rattle.walk.specs.Outcome.{outcome}
use Rattle.assembled.specs.Assemble.{assemble}
use Rattle.assembly.specs.Parts.{read_assembled}
use Rattle.made.specs.Made.{book_of, AreMade}
use Rattle.made.proofs.BookLaws.{book-made}
use Rattle.filling.specs.Filling.{read_filled}

-- the answer that an assembly's own answer becomes, with the files taken in before; it is read alike
abbrev assembled : ℕ → Result ℕ Refusal → Result Answer Refusal
assembled files (Ok n) = Ok (Accepted n files)
assembled files (Err x) = Err x

assembled_read : (files : ℕ) (r : Result ℕ Refusal) (w : List ℕ) → read_assembled files r w ≡ read_filled (assembled files r) w
assembled_read files (Ok n) w = refl
assembled_read files (Err x) w = refl

-- members that were made, assembled
pub made_read : (B L : ℕ) (S hs : List File) (url : List ℕ) {fs : List File} {files : ℕ} (r : Result ℕ Refusal) (w : List ℕ) → AreMade B L S hs fs files
    → ((C n : ℕ) → read_assembled n r w ≡ outcome (judge C L n (assemble url fs))) → read_filled (assembled files r) w ≡ outcome (judge B L 0 (book_of S hs url))
made_read B L S hs url {fs} {files} r w a h = sym (assembled_read files r w) ∙ h B files ∙ ap outcome (sym (book-made B L S hs url a))
