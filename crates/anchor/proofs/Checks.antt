-- Document 01, "Gauging checks", on the definitions: K3, and K4 as document 02, Req 01, has it. Assumes nothing.
use mathlib.Core.Path.{◌≡◌, refl}
use Rattle.text.specs.Ascii.{lower}
use Rattle.text.specs.Bytes.{first, after_last}
use Rattle.text.specs.Pattern.{bytes}
use Rattle.text.specs.Space.{is_space, lead, kept, trim_start, trim_end, trim}
use Rattle.anchor.specs.Anchor.{markup_after, stands, is_linked, cut_from, word_follows, plain_from, anchor_of, slug}

-- K3 `Rating & Datum` gives `rating--datum`. K4 `[Rod](a.md) *q_1*`: `rod-q_1`
abbrev pub Checks : Type 0
Checks = (slug (bytes "Rating & Datum") ≡ bytes "rating--datum") × (slug (bytes "[Rod](a.md) *q_1*") ≡ bytes "rod-q_1")

pub checks : Checks
unfolding first after_last is_space lead kept trim_start trim_end trim lower markup_after stands is_linked cut_from word_follows plain_from anchor_of slug
checks = (refl, refl)
