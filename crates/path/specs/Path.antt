-- Document 01, "Fill": "`resolve`: one leading `/` means root, else the directory is put before; empty and `.` parts go; `..` drops a part, or nothing at root."
use Rattle.std.specs.Prelude.{ℕ, ◌-◌, Bool, cond, ◌||◌, List, [], ◌∷◌, ◌++◌, length, take, eqb}
use Rattle.text.specs.Bytes.{is, after_last}
use Rattle.text.specs.Pattern.{bytes, starts_with, equals}
use Rattle.text.specs.Split.{split, join}

abbrev pub SLASH : ℕ
SLASH = 0x2F

-- the directory of a file: its name up to the last `/`, or nothing
abbrev pub parent_dir : List ℕ → List ℕ
parent_dir name = take (after_last (is SLASH) name - 1) name

-- "one leading `/` means root, else the directory is put before": the parts that stand before the path's own
abbrev pub base : List ℕ → List ℕ → List (List ℕ)
base dir path = cond (starts_with (bytes "/") path) [] (split SLASH dir)

-- "empty and `.` parts"
abbrev pub goes : List ℕ → Bool
goes p = eqb (length p) 0 || equals (bytes ".") p

abbrev pub is_up : List ℕ → Bool
is_up p = equals (bytes "..") p

-- "empty and `.` parts go; `..` drops a part, or nothing at root": the parts kept up to p, from those kept before it
unfoldable pub step : List (List ℕ) → List ℕ → List (List ℕ)
step kept p = cond (goes p) kept (cond (is_up p) (take (length kept - 1) kept) (kept ++ (p ∷ [])))

unfoldable pub walked : List (List ℕ) → List (List ℕ) → List (List ℕ)
walked kept [] = kept
walked kept (p ∷ ps) = walked (step kept p) ps

unfoldable pub resolve : List ℕ → List ℕ → List ℕ
resolve dir path = join SLASH (walked [] (base dir path ++ split SLASH path))
