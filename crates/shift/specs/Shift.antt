-- Lines with what they are, and headings moved: shared by a file that is taken in and a member that is assembled.
use Rattle.std.specs.Prelude.{ℕ, zero, suc, ◌+◌, cond, List, [], ◌∷◌, ◌++◌, map, take, drop, ℤ, pos, ◌+ℤ◌, Option, Some, None}
use Rattle.answer.specs.declared.Refusal.{Refusal}
use Rattle.text.specs.Bytes.{part}
use Rattle.text.specs.Space.{is_blank}
use Rattle.heading.specs.Level.{shallowest_of, shift_of, moved_to, heading_line}
use Rattle.heading.specs.Walk.{step_kind, step_after, walk_begin}
use Rattle.heading.specs.declared.walk.LineKind.{LineKind}
use Rattle.heading.specs.declared.walk.LineKind.TheVariants.{Quoted, Heading, Other}
use Rattle.heading.specs.declared.walk.WalkState.{WalkState}

-- a line, and what it is
pub record Told : Type 0 where
  pub kind : LineKind
  pub bytes : List ℕ

unfoldable pub told_from : WalkState → List (List ℕ) → List Told
told_from st [] = []
told_from st (l ∷ ls) = record { kind = step_kind st.fence st.comment l; bytes = l } ∷ told_from (step_after st.fence st.comment l) ls

abbrev pub kinds_of : List Told → List LineKind
kinds_of ts = map (λ t. t.kind) ts

-- "The shift is a signed number: target less shallowest level, 0 without headings."
abbrev pub shift_for : ℕ → List LineKind → ℤ
shift_for target ks = shift_of target (shallowest_of None ks)

-- "Each heading becomes its new hashes, one space, its text, even at shift 0."
abbrev pub at_level : Option ℕ → List ℕ → List ℕ → List ℕ
at_level (Some n) text l = heading_line n text
at_level None text l = l

abbrev pub moved_line : ℤ → Told → List ℕ
moved_line z t = elim t.kind [ Quoted ↦ t.bytes | Heading n a e ↦ at_level (moved_to (pos n +ℤ z)) (part a e t.bytes) t.bytes | Other ↦ t.bytes ]

-- 16 "heading past level 6", for each such line; the lines count from n
abbrev pub past : Option ℕ → Refusal → List Refusal
past (Some n) x = []
past None x = x ∷ []

abbrev pub past_line : ℤ → LineKind → Refusal → List Refusal
past_line z Quoted x = []
past_line z (Heading n a e) x = past (moved_to (pos n +ℤ z)) x
past_line z Other x = []

unfoldable pub past_from : (ℕ → Refusal) → ℕ → ℤ → List LineKind → List Refusal
past_from f n z [] = []
past_from f n z (k ∷ ks) = past_line z k (f n) ++ past_from f (n + 1) z ks

-- how many lines stand up to the last that is not blank, and how many blank lines stand first
unfoldable pub up_to : List (List ℕ) → ℕ
up_to [] = 0
up_to (l ∷ ls) = elim (up_to ls) [ zero ↦ cond (is_blank l) 0 1 | suc n ↦ suc (suc n) ]

unfoldable pub blanks : List (List ℕ) → ℕ
blanks [] = 0
blanks (l ∷ ls) = cond (is_blank l) (suc (blanks ls)) 0

-- lines without blank lines at the end, and at the start
abbrev pub drop_end : List (List ℕ) → List (List ℕ)
drop_end ls = take (up_to ls) ls

abbrev pub drop_start : List (List ℕ) → List (List ℕ)
drop_start ls = drop (blanks ls) ls

-- the lines that are left, with what each is
abbrev pub told_lines : List (List ℕ) → List Told
told_lines ls = told_from walk_begin (drop_end (drop_start ls))
