-- Lines of a text, as `lines()` and as `split('\n')` give them.
use Rattle.std.specs.Prelude.{ℕ, suc, ◌+◌, ◌-◌, Bool, true, false, cond, List, [], ◌∷◌, ◌++◌, length, take, drop, eqb, leb}
use Rattle.text.specs.Pattern.{starts_with}
use Rattle.text.specs.Split.{split}

-- line feed and carriage return
abbrev pub LF : ℕ
LF = 0x0A

abbrev pub CR : ℕ
CR = 0x0D

-- whether s begins with a CR that stands before an LF
unfoldable pub breaks : List ℕ → Bool
breaks s = starts_with (CR ∷ LF ∷ []) s

-- a line of a text: where it starts, and its bytes
pub record Line : Type 0 where
  pub start : ℕ
  pub bytes : List ℕ

-- the lines of what follows, with the bytes b at place o before the first
abbrev pub front : ℕ → List ℕ → List Line → List Line
front o b [] = record { start = o; bytes = b } ∷ []
front o b (l ∷ ls) = record { start = o; bytes = b ++ l.bytes } ∷ ls

-- "Lines as `lines()` gives them (a CR before the LF is no part of the line; no line follows a last LF)": the lines of a text that starts at place o
unfoldable pub lines_from : ℕ → List ℕ → List Line
lines_from o [] = []
lines_from o (x ∷ s) =
    cond (eqb x LF) (record { start = o; bytes = [] } ∷ lines_from (suc o) s)
    (front o (cond (breaks (x ∷ s)) [] (x ∷ [])) (lines_from (suc o) s))

abbrev pub lines : List ℕ → List Line
lines s = lines_from 0 s

-- where the line that starts a text ends, and where the next one starts
unfoldable pub line_end : List ℕ → ℕ
line_end [] = 0
line_end (x ∷ s) = cond (eqb x LF) 0 (cond (breaks (x ∷ s)) 0 (suc (line_end s)))

unfoldable pub line_next : List ℕ → ℕ
line_next [] = 0
line_next (x ∷ s) = cond (eqb x LF) 1 (suc (line_next s))

-- "A line stands between LFs": the pieces of a text as `split('\n')` gives them
abbrev pub pieces : List ℕ → List (List ℕ)
pieces s = split LF s

-- the pieces that follow one which ends at place e, where the text has n bytes: none after the last
abbrev pub pieces_after : Bool → ℕ → List ℕ → List (List ℕ)
pieces_after true e s = []
pieces_after false e s = pieces (drop (e + 1) s)

-- the pieces from a place on, and none behind the last
unfoldable pub pieces_from : List ℕ → ℕ → List (List ℕ)
pieces_from s a = cond (leb a (length s)) (pieces (drop a s)) []

-- the pieces that an LF ends: all but the last
abbrev pub ended : List ℕ → List (List ℕ)
ended s = take (length (pieces s) - 1) (pieces s)

-- lines behind a text of lines: an LF before each
unfoldable pub led : List (List ℕ) → List ℕ
led [] = []
led (l ∷ ls) = LF ∷ (l ++ led ls)
