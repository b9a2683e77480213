-- The scan call: what it answers, and the output after it.
use Rattle.std.specs.Prelude.{ℕ, cond, List, ◌++◌, length, drop, leb, Option, Some, None, Result, Ok, Err}
use Rattle.text.specs.Ascii.{wide_line}
use Rattle.answer.specs.Answer.{place}
use Rattle.answer.specs.declared.Refusal.TheVariants.{WideByte, TextLimit}
use Rattle.answer.specs.declared.Answer.{Answer}
use Rattle.answer.specs.declared.Refusal.{Refusal}
use Rattle.answer.specs.declared.Answer.TheVariants.{Accepted, NoRegion}
use Rattle.listing.specs.Listing.{listing}

-- "Scan refuses by 5, or by 17 at line 0 if the output is shorter than the listing": the answer for a text s and an output of so many bytes
abbrev pub unless_wide : Option ℕ → Result Answer Refusal → Result Answer Refusal
unless_wide (Some line) a = Err (WideByte (place 0 line))
unless_wide None a = a

unfoldable pub answer_of : ℕ → List ℕ → Result Answer Refusal
answer_of room s =
    unless_wide (wide_line 1 s)
    (cond (leb (length (listing s)) room) (Ok (Accepted (length (listing s)) 0))
    (Err (TextLimit (place 0 0))))

-- "the output begins with the text or listing and its other bytes are unchanged"; a refusal leaves "the output unchanged"
unfoldable pub output_of : Result Answer Refusal → List ℕ → List ℕ → List ℕ
output_of (Ok (Accepted n f)) s out = listing s ++ drop n out
output_of (Ok NoRegion) s out = out
output_of (Err r) s out = out
