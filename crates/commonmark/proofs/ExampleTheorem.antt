-- CommonMark's own examples hold on the definitions of its rules. Assumes nothing.
use mathlib.Core.Path.{refl}
use Rattle.text.specs.Bytes.{any, first, after_last}
use Rattle.heading.specs.Walk.{hashes}
use Rattle.commonmark.specs.Strip.{strip, strip_start, strip_end, indent}
use Rattle.commonmark.specs.Atx.{atx, unclosed, is_closed, run_start}
use Rattle.commonmark.specs.Fenced.{run, opens_with, code_opener, closes_code}
use Rattle.commonmark.specs.Examples.{Atx-4-2, Fences-4-5}

pub headings : Atx-4-2
unfolding atx unclosed is_closed run_start strip strip_start strip_end indent hashes first after_last
headings = (refl, (refl, (refl, (refl, (refl, (refl, (refl, (refl, (refl, (refl, (refl, (refl, (refl, (refl, (refl, (refl, (refl, refl)))))))))))))))))

pub fences : Fences-4-5
unfolding run opens_with code_opener closes_code indent first any
fences = (refl, (refl, (refl, (refl, (refl, (refl, (refl, (refl, (refl, (refl, (refl, (refl, (refl, (refl, (refl, (refl, (refl, refl)))))))))))))))))
