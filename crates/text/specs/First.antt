-- The bytes that begin the lines which a walk over lines has to look at: a heading, a fence, a comment's start, a marker alone.
use Rattle.std.specs.Prelude.{ℕ, Bool, false, ◌||◌, List, [], ◌∷◌, eqb}
use Rattle.text.specs.Space.{is_space}

-- `#`, a space byte, a backtick, a tilde, `<`
unfoldable pub is_first : ℕ → Bool
is_first b = eqb b 0x23 || (is_space b || (eqb b 0x60 || (eqb b 0x7E || eqb b 0x3C)))

-- whether a line begins with such a byte
unfoldable pub begins : List ℕ → Bool
begins [] = false
begins (x ∷ l) = is_first x
