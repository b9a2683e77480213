-- Where the place of a refusal is among the program's arguments.
use Rattle.std.specs.Prelude.{ℕ, ◌+◌, cond, List, [], ◌∷◌, ltb, leb, decimal}
use Rattle.answer.specs.declared.Place.{Place}

-- "A note's name is its path as given", and index line n is note n: the URL is an argument, the list the next, and the notes follow. 1 to 4 stand at index lines; a file is a record's number; else it is the list
unfoldable pub argument_of : ℕ → ℕ → Place → ℕ
argument_of url number p = cond (ltb 0 p.file) (url + 1 + p.file) (cond (leb number 4) (url + 1 + p.line) (url + 1))

-- a colon and the line's number, where there is one
abbrev pub line_text : ℕ → List ℕ
line_text line = cond (ltb 0 line) (0x3A ∷ decimal line) []
