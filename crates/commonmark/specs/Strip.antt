-- CommonMark 0.31.2, 2.1: lines, and "spaces or tabs". A line is a list of bytes, without its end.
use Rattle.std.specs.Prelude.{ℕ, Bool, cond, not, ◌||◌, List, [], ◌∷◌, take, drop, eqb}
use Rattle.text.specs.Bytes.{first, after_last}

-- "A line ending is a line feed, a carriage return not followed by a line feed, or a carriage return and a following line feed": CommonMark's line, of ours, which stands between LFs, where no CR stands inside it
unfoldable pub ended : List ℕ → List ℕ
ended [] = []
ended (x ∷ []) = cond (eqb x 0x0D) [] (x ∷ [])
ended (x ∷ y ∷ s) = x ∷ ended (y ∷ s)

abbrev pub is_blank_byte : ℕ → Bool
is_blank_byte x = eqb x 0x20 || eqb x 0x09

abbrev pub is_shown : ℕ → Bool
is_shown x = not (is_blank_byte x)

-- "stripped of leading and trailing space or tabs"
unfoldable pub strip_start : List ℕ → List ℕ
strip_start s = drop (first is_shown s) s

unfoldable pub strip_end : List ℕ → List ℕ
strip_end s = take (after_last is_shown s) s

unfoldable pub strip : List ℕ → List ℕ
strip s = strip_end (strip_start s)

-- "spaces of indentation": how many spaces a line begins with
unfoldable pub indent : List ℕ → ℕ
indent l = first (λ x. not (eqb x 0x20)) l
