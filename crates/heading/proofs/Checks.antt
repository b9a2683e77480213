-- Document 01, "Gauging checks", on the definitions: K2. Assumes nothing.
use mathlib.Core.Path.{◌≡◌, refl}
use Rattle.text.specs.Bytes.{first}
use Rattle.text.specs.Pattern.{bytes, starts_with}
use Rattle.heading.specs.Walk.{hashes, heading_of}
use Rattle.heading.specs.declared.walk.LineKind.TheVariants.{Other}

-- K2 `#include` and seven hashes: no heading
abbrev pub Checks : Type 0
Checks = (heading_of (bytes "#include") ≡ Other) × (heading_of (bytes "####### a") ≡ Other)

pub checks : Checks
unfolding first starts_with hashes heading_of
checks = (refl, refl)
