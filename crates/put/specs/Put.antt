-- A text that is read while the work buffer is written. Nothing here is document 01's: inner functions promise it.
use Rattle.std.specs.Prelude.{ℕ, ◌+◌, ◌≤◌, Bool, true, false, cond, List}
use Rattle.text.specs.Bytes.{part}
use Rattle.put.specs.declared.Source.{Source}

-- the bytes of a source
abbrev pub source_text : Source → List ℕ → List ℕ → List ℕ
source_text s contents work = part s.start s.end (cond s.work work contents)

-- a source lies in its buffer, and one in the work buffer stands from the limit on; by the buffers' lengths
abbrev pub Held : Bool → ℕ → ℕ → ℕ → ℕ → ℕ → Type 0
Held true a e limit contents work = (limit ≤ a) × (e ≤ work)
Held false a e limit contents work = e ≤ contents

abbrev pub Inside : Source → ℕ → ℕ → ℕ → Type 0
Inside s limit contents work = (s.start ≤ s.end) × Held s.work s.start s.end limit contents work

-- a part of a source, by places in its text
abbrev pub part_of : Source → ℕ → ℕ → Source
part_of s a e = record { work = s.work; start = s.start + a; end = s.start + e }
