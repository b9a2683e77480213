-- "Each heading becomes its new hashes, one space, its text, even at shift 0", on a line. Assumes nothing.
use mathlib.Core.Path.{◌≡◌, refl}
use lib.IntN.{pos}
use Rattle.text.specs.Bytes.{first, after_last}
use Rattle.text.specs.Pattern.{bytes, starts_with}
use Rattle.text.specs.Space.{is_space, lead, kept}
use Rattle.heading.specs.Walk.{hashes, text_start, text_end, heading_of}
use Rattle.shift.specs.Shift.{moved_line}

pub even_at_zero : moved_line (pos 0) (record { kind = heading_of (bytes "#  B "); bytes = bytes "#  B " }) ≡ bytes "# B"
unfolding first after_last starts_with is_space lead kept hashes text_start text_end heading_of
even_at_zero = refl
