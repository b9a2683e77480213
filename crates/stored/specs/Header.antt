-- A header of a stored case, 14 bytes: two numbers of six digits, with a space between and LF behind.
use Rattle.std.specs.Prelude.{ℕ, cond, ◌&&◌, List, take, drop, get_or, eqb, Option, Some, None}
use Rattle.buffer.specs.Decimal.{number_of}

abbrev pub numbers_of : Option ℕ → Option ℕ → Option (ℕ × ℕ)
numbers_of (Some a) (Some b) = Some (a, b)
numbers_of (Some a) None = None
numbers_of None b = None

-- byte 6 is the space, byte 13 the LF, and six digits stand before each
unfoldable pub header_of : List ℕ → Option (ℕ × ℕ)
header_of s =
    cond (eqb (get_or s 6 0) 0x20 && eqb (get_or s 13 0) 0x0a)
    (numbers_of (number_of (take 6 s)) (number_of (take 6 (drop 7 s))))
    None
