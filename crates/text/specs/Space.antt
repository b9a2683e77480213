-- Document 01, "Records": "Space bytes are 09 to 0D and 20 hex; blank means only these; trimming removes them."
use Rattle.std.specs.Prelude.{ℕ, Bool, not, ◌&&◌, ◌||◌, List, length, take, drop, eqb, leb}
use Rattle.text.specs.Bytes.{first, after_last}

-- space bytes are 09 to 0D and 20 hex
unfoldable pub is_space : ℕ → Bool
is_space b = (leb 0x09 b && leb b 0x0D) || eqb b 0x20

abbrev pub is_other : ℕ → Bool
is_other b = not (is_space b)

-- where a text starts once the space bytes before it are trimmed
unfoldable pub lead : List ℕ → ℕ
lead s = first is_other s

-- where a text ends once the space bytes after it are trimmed
unfoldable pub kept : List ℕ → ℕ
kept s = after_last is_other s

-- trimming removes them
unfoldable pub trim_start : List ℕ → List ℕ
trim_start s = drop (lead s) s

unfoldable pub trim_end : List ℕ → List ℕ
trim_end s = take (kept s) s

unfoldable pub trim : List ℕ → List ℕ
trim s = trim_end (trim_start s)

-- blank means only these
unfoldable pub is_blank : List ℕ → Bool
is_blank s = eqb (lead s) (length s)
