-- Bytes 80 hex and above, which a text may not hold; digits, and letters in lower case.
use Rattle.std.specs.Prelude.{ℕ, suc, ◌+◌, Bool, cond, ◌&&◌, List, [], ◌∷◌, eqb, leb, Option, Some, None}
use Rattle.text.specs.Lines.{LF}

-- "byte 80 hex or above"
abbrev pub is_wide : ℕ → Bool
is_wide x = leb 0x80 x

-- the line of the first such byte of s, the first byte of s being on line n
unfoldable pub wide_line : ℕ → List ℕ → Option ℕ
wide_line n [] = None
wide_line n (x ∷ s) = cond (is_wide x) (Some n) (wide_line (cond (eqb x LF) (suc n) n) s)

-- "0" to "9"
abbrev pub is_digit : ℕ → Bool
is_digit x = leb 0x30 x && leb x 0x39

-- "lowercased": A to Z as a to z, any other byte as it is
unfoldable pub lower : ℕ → ℕ
lower x = cond (leb 0x41 x && leb x 0x5A) (x + 32) x
