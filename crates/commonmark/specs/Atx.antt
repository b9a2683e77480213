-- CommonMark 0.31.2, 4.2: ATX headings, of a single line.
use Rattle.std.specs.Prelude.{ℕ, zero, suc, Bool, true, cond, not, ◌&&◌, List, [], ◌∷◌, length, take, drop, get_or, leb, ltb, Option, Some, None}
use Rattle.text.specs.Bytes.{is, after_last, part}
use Rattle.heading.specs.Walk.{hashes}
use Rattle.heading.specs.declared.walk.LineKind.{LineKind}
use Rattle.heading.specs.declared.walk.LineKind.TheVariants.{Quoted, Heading, Other}
use Rattle.commonmark.specs.Strip.{is_blank_byte, strip, strip_end, indent}

pub record Atx : Type 0 where
  pub level : ℕ
  pub text : List ℕ

abbrev pub heading : ℕ → List ℕ → Option Atx
heading n text = Some (record { level = n; text = text })

-- "must be followed by spaces or tabs, or by the end of line"
abbrev pub is_followed : List ℕ → Bool
is_followed [] = true
is_followed (x ∷ s) = is_blank_byte x

-- where the run of `#` at a text's end begins
unfoldable pub run_start : List ℕ → ℕ
run_start s = after_last (λ x. not (is 0x23 x)) s

-- "The optional closing sequence of #s must be preceded by spaces or tabs": whether a stripped text ends in one; all of it may be one, which the spaces behind the opening sequence precede
abbrev pub closes_at : ℕ → List ℕ → Bool
closes_at zero s = true
closes_at (suc k) s = is_blank_byte (get_or s k 0)

unfoldable pub is_closed : List ℕ → Bool
is_closed s = ltb (run_start s) (length s) && closes_at (run_start s) s

-- the text without it, stripped again
unfoldable pub unclosed : List ℕ → List ℕ
unclosed s = cond (is_closed s) (strip_end (take (run_start s) s)) s

-- "up to three spaces of indentation", "an opening sequence of 1-6 unescaped #"; "The raw contents of the heading are stripped of leading and trailing space or tabs"; "The heading level is equal to the number of # characters in the opening sequence"
abbrev pub atx_from : List ℕ → Option Atx
atx_from t =
    cond ((leb 1 (hashes t) && leb (hashes t) 6) && is_followed (drop (hashes t) t))
    (heading (hashes t) (unclosed (strip (drop (hashes t) t))))
    None

unfoldable pub atx : List ℕ → Option Atx
atx l = cond (leb (indent l) 3) (atx_from (drop (indent l) l)) None

-- ours: what `heading_of` says of a line
abbrev pub as_atx : List ℕ → LineKind → Option Atx
as_atx l Quoted = None
as_atx l (Heading n a e) = heading n (part a e l)
as_atx l Other = None
