-- Where our headings and CommonMark's part: the named departures of docs/DIFFERENCES.md, each a test of the line, and the theorems that there are no others and that each is one.
use Rattle.std.specs.Prelude.{ℕ, Bool, true, false, ◌&&◌, ◌||◌, List, [], ◌∷◌, ◌++◌, ◌≡◌, length, drop, get_or, eqb, leb, Option, None, is_some}
use Rattle.text.specs.Pattern.{bytes, starts_with}
use Rattle.text.specs.Space.{is_space}
use Rattle.heading.specs.Walk.{hashes, heading_of}
use Rattle.commonmark.specs.Strip.{ended, strip, indent}
use Rattle.commonmark.specs.Atx.{Atx, heading, atx, as_atx, is_closed}

-- 1 to 6 hashes at column 0
abbrev pub is_opened : List ℕ → Bool
is_opened l = leb 1 (hashes l) && leb (hashes l) 6

-- what stands behind them
abbrev pub behind : List ℕ → List ℕ
behind l = drop (hashes l) l

-- our heading: a space behind them
abbrev pub is_ours : List ℕ → Bool
is_ours l = is_opened l && starts_with (bytes " ") (behind l)

-- one to three spaces before what is a heading of CommonMark's: none of ours
abbrev pub indented : List ℕ → Bool
indented l = leb 1 (indent l) && is_some (atx l)

-- a tab after the hashes: a heading of CommonMark's, none of ours
abbrev pub tab_after_hashes : List ℕ → Bool
tab_after_hashes l = is_opened l && starts_with (0x09 ∷ []) (behind l)

-- hashes alone: a heading of CommonMark's, none of ours
abbrev pub bare_hashes : List ℕ → Bool
bare_hashes l = is_opened l && eqb (length (behind l)) 0

-- a closing run: CommonMark drops it, we keep it
abbrev pub closing_run : List ℕ → Bool
closing_run l = is_ours l && is_closed (strip (behind l))

-- a space byte at an end of a text
abbrev pub is_spaced : List ℕ → Bool
is_spaced [] = false
is_spaced (x ∷ s) = is_space x || is_space (get_or (x ∷ s) (length s) 0)

-- another space byte at an end of the text, 0B or 0C hex (0A and 0D end a line of CommonMark's): we trim it, CommonMark keeps it
abbrev pub other_space_bytes : List ℕ → Bool
other_space_bytes l = is_ours l && is_spaced (strip (behind l))

-- the list
unfoldable pub departs : List ℕ → Bool
departs l =
    indented l
    || tab_after_hashes l
    || bare_hashes l
    || closing_run l
    || other_space_bytes l

-- for every line of ours: where none of them holds of CommonMark's line, our heading is CommonMark's
abbrev pub SameHeading : Type 0
SameHeading = (l : List ℕ) → departs (ended l) ≡ false → as_atx l (heading_of l) ≡ atx (ended l)

-- and where one of them holds, it is not
abbrev pub OtherHeading : Type 0
OtherHeading = (l : List ℕ) → departs (ended l) ≡ true → as_atx l (heading_of l) ≡ atx (ended l) → ⊥

-- a line on which a departure holds, and what we and CommonMark say of it
abbrev pub Parts : (List ℕ → Bool) → List ℕ → Option Atx → Option Atx → Type 0
Parts test l ours theirs = (test (ended l) ≡ true) × ((as_atx l (heading_of l) ≡ ours) × (atx (ended l) ≡ theirs))

-- each of them parts the two
abbrev pub EachParts : Type 0
EachParts =
    Parts indented (bytes " # a") None (heading 1 (bytes "a"))
    × (Parts tab_after_hashes (0x23 ∷ 0x09 ∷ bytes "a") None (heading 1 (bytes "a"))
    × (Parts bare_hashes (bytes "##") None (heading 2 [])
    × (Parts bare_hashes (bytes "#" ++ (0x0D ∷ [])) None (heading 1 [])
    × (Parts closing_run (bytes "# a #") (heading 1 (bytes "a #")) (heading 1 (bytes "a"))
    × (Parts closing_run (bytes "# a" ++ (0x09 ∷ bytes "#")) (heading 1 (0x61 ∷ 0x09 ∷ bytes "#")) (heading 1 (bytes "a"))
    × (Parts other_space_bytes (bytes "# " ++ (0x0B ∷ bytes "a")) (heading 1 (bytes "a")) (heading 1 (0x0B ∷ bytes "a"))
    × Parts other_space_bytes (bytes "# a" ++ (0x0B ∷ [])) (heading 1 (bytes "a")) (heading 1 (0x61 ∷ 0x0B ∷ []))))))))

-- lines on which none of them holds
abbrev pub NoneHolds : Type 0
NoneHolds =
    (departs (bytes "# a") ≡ false)
    × ((departs (bytes "###### a#") ≡ false)
    × ((departs (bytes "see issue #") ≡ false)
    × ((departs (bytes "#a #") ≡ false)
    × ((departs (bytes "####### a #") ≡ false)
    × ((departs (bytes "    # a") ≡ false)
    × ((departs (bytes " #a") ≡ false)
    × ((departs (bytes "# a" ++ (0x09 ∷ [])) ≡ false)
    × ((departs (bytes "# ") ≡ false)
    × ((departs (ended (bytes "# a" ++ (0x0D ∷ []))) ≡ false)
    × (departs [] ≡ false))))))))))
