-- Document 01, "Headings and levels": headings, and the walk over lines that finds them. A line is a list of bytes, as `split('\n')` gives it.
use Rattle.std.specs.Prelude.{ℕ, ◌+◌, Bool, true, false, cond, not, ◌&&◌, List, [], ◌∷◌, drop, leb, Option, Some, None}
use Rattle.text.specs.Bytes.{is, first}
use Rattle.text.specs.Pattern.{bytes, starts_with, contains}
use Rattle.text.specs.Space.{lead, kept, trim_start}
use Rattle.fence.specs.Fences.{opener}
use Rattle.fence.specs.declared.Fence.{Fence}
use Rattle.fence.specs.declared.Fence.TheVariants.{Ticks, Tildes}
use Rattle.heading.specs.declared.walk.LineKind.{LineKind}
use Rattle.heading.specs.declared.walk.LineKind.TheVariants.{Quoted, Heading, Other}
use Rattle.heading.specs.declared.walk.WalkState.{WalkState}

-- how many `#` a line begins with
unfoldable pub hashes : List ℕ → ℕ
hashes l = first (λ x. not (is 0x23 x)) l

-- "text trimmed": where the text behind n hashes starts and ends
unfoldable pub text_start : ℕ → List ℕ → ℕ
text_start n l = n + lead (drop n l)

unfoldable pub text_end : ℕ → List ℕ → ℕ
text_end n l = text_start n l + kept (drop (text_start n l) l)

-- "Heading: 1 to 6 `#` at column 0, then a space; text trimmed."
unfoldable pub heading_of : List ℕ → LineKind
heading_of l =
    cond ((leb 1 (hashes l) && leb (hashes l) 6) && starts_with (bytes " ") (drop (hashes l) l))
    (Heading (hashes l) (text_start (hashes l) l) (text_end (hashes l) l))
    Other

-- "until a line whose trimmed start has the same three bytes": the open fence, and what the line opens
abbrev pub same_fence : Fence → Option Fence → Bool
same_fence f None = false
same_fence Ticks (Some Ticks) = true
same_fence Ticks (Some Tildes) = false
same_fence Tildes (Some Ticks) = false
same_fence Tildes (Some Tildes) = true

unfoldable pub closes : Fence → List ℕ → Bool
closes f l = same_fence f (opener l)

-- "A trimmed start `<!--` without later `-->` opens a comment"
unfoldable pub opens_comment : List ℕ → Bool
opens_comment l = starts_with (bytes "<!--") (trim_start l) && not (contains (bytes "-->") (drop 4 (trim_start l)))

-- what a line outside fences is: in a comment nothing; "the first later line outside a fence that holds `-->` ends it and is itself skipped"
unfoldable pub written_kind : Bool → List ℕ → LineKind
written_kind comment l = cond comment Other (cond (opens_comment l) Other (heading_of l))

unfoldable pub comment_after : Bool → List ℕ → Bool
comment_after comment l = cond comment (not (contains (bytes "-->") l)) (opens_comment l)

-- "Outside, a fence opener is looked for before comment state." The line of an opener is quoted; any other line is read
unfoldable pub outside_kind : Bool → List ℕ → Option Fence → LineKind
outside_kind comment l None = written_kind comment l
outside_kind comment l (Some f) = Quoted

unfoldable pub outside_after : Bool → List ℕ → Option Fence → WalkState
outside_after comment l None = record { fence = None; comment = comment_after comment l }
outside_after comment l (Some f) = record { fence = Some f; comment = comment }

-- "In a fence lines are quoted until a line whose trimmed start has the same three bytes; opener and closer are quoted too."
unfoldable pub step_kind : Option Fence → Bool → List ℕ → LineKind
step_kind None comment l = outside_kind comment l (opener l)
step_kind (Some f) comment l = Quoted

unfoldable pub step_after : Option Fence → Bool → List ℕ → WalkState
step_after None comment l = outside_after comment l (opener l)
step_after (Some f) comment l = record { fence = cond (closes f l) None (Some f); comment = comment }

abbrev pub walk_begin : WalkState
walk_begin = record { fence = None; comment = false }

-- the kinds of lines, one after the other
unfoldable pub kinds_from : WalkState → List (List ℕ) → List LineKind
kinds_from st [] = []
kinds_from st (l ∷ ls) = step_kind st.fence st.comment l ∷ kinds_from (step_after st.fence st.comment l) ls

-- the state behind lines
unfoldable pub states_after : WalkState → List (List ℕ) → WalkState
states_after st [] = st
states_after st (l ∷ ls) = states_after (step_after st.fence st.comment l) ls

-- what a line is that leaves the state as it is, and is no heading
abbrev pub still_kind : Option Fence → LineKind
still_kind None = Other
still_kind (Some f) = Quoted
