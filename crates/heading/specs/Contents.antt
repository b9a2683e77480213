-- Document 01, "Assembly and book": "Drop hand-written contents (heading trimmed, lowercased: `contents` or `table of contents`; fences and
-- comments are not looked at) through the line before the next starting with `#` that is not such a heading".
use Rattle.std.specs.Prelude.{ℕ, Bool, false, not, ◌&&◌, ◌||◌, List, map}
use Rattle.text.specs.Ascii.{lower}
use Rattle.text.specs.Bytes.{part}
use Rattle.text.specs.Pattern.{bytes, starts_with, equals}
use Rattle.heading.specs.Walk.{heading_of}
use Rattle.heading.specs.declared.walk.LineKind.{LineKind}
use Rattle.heading.specs.declared.walk.LineKind.TheVariants.{Quoted, Heading, Other}

-- whether s, lowercased, is p
unfoldable pub is_lowered : List ℕ → List ℕ → Bool
is_lowered p s = equals p (map lower s)

-- "heading trimmed, lowercased: `contents` or `table of contents`"
abbrev pub titles_contents : List ℕ → LineKind → Bool
titles_contents l Quoted = false
titles_contents l (Heading n a e) = is_lowered (bytes "contents") (part a e l) || is_lowered (bytes "table of contents") (part a e l)
titles_contents l Other = false

unfoldable pub is_contents : List ℕ → Bool
is_contents l = titles_contents l (heading_of l)

-- whether a line is dropped, where the line before it was dropped or not; at first none was
unfoldable pub drops : Bool → List ℕ → Bool
drops within l = is_contents l || (within && not (starts_with (bytes "#") l))
