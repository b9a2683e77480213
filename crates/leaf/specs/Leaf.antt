-- The answers of the leaf calls as six numbers, by the definitions of `heading`. Assumes nothing: these are definitions.
use Rattle.std.specs.Prelude.{ℕ, ◌+◌, Bool, cond, not, ◌&&◌, List, [], ◌∷◌, length, eqb, leb, pos, ◌+ℤ◌, Option, Some, None}
use Rattle.std.proofs.lemmas.List.Edits.{sets}
use Rattle.text.specs.Bytes.{bit}
use Rattle.heading.specs.Walk.{step_kind, step_after}
use Rattle.heading.specs.Level.{shift_of, moved_to, heading_line}
use Rattle.fence.specs.declared.Fence.{Fence}
use Rattle.fence.specs.declared.Fence.TheVariants.{Ticks, Tildes}
use Rattle.heading.specs.declared.walk.LineKind.{LineKind}
use Rattle.heading.specs.declared.walk.LineKind.TheVariants.{Quoted, Heading, Other}
use Rattle.heading.specs.declared.walk.WalkState.{WalkState}

-- 0, or any other number
abbrev pub is_on : ℕ → Bool
is_on n = not (eqb n 0)

-- a number and five zeros
abbrev pub one : ℕ → List ℕ
one n = n ∷ 0 ∷ 0 ∷ 0 ∷ 0 ∷ 0 ∷ []

-- fences: 1 ticks, 2 tildes, any other number outside
abbrev pub fence_of : ℕ → Option Fence
fence_of n = cond (eqb n 1) (Some Ticks) (cond (eqb n 2) (Some Tildes) None)

abbrev pub fence_number : Option Fence → ℕ
fence_number None = 0
fence_number (Some Ticks) = 1
fence_number (Some Tildes) = 2

abbrev pub state_of : ℕ → ℕ → WalkState
state_of n comment = record { fence = fence_of n; comment = is_on comment }

-- a step: kind (0 other, 1 heading, 2 quoted), level, start, end, fence and comment after
abbrev pub step_numbers : LineKind → WalkState → List ℕ
step_numbers Quoted st = 2 ∷ 0 ∷ 0 ∷ 0 ∷ fence_number st.fence ∷ bit st.comment ∷ []
step_numbers (Heading n a e) st = 1 ∷ n ∷ a ∷ e ∷ fence_number st.fence ∷ bit st.comment ∷ []
step_numbers Other st = 0 ∷ 0 ∷ 0 ∷ 0 ∷ fence_number st.fence ∷ bit st.comment ∷ []

abbrev pub step_of : ℕ → ℕ → List ℕ → List ℕ
step_of n comment l = step_numbers (step_kind (fence_of n) (is_on comment) l) (step_after (fence_of n) (is_on comment) l)

-- the shallowest level, 0 for none
abbrev pub top_number : Option ℕ → ℕ
top_number (Some n) = n
top_number None = 0

abbrev pub top_of : ℕ → Option ℕ
top_of n = cond (eqb n 0) None (Some n)

-- a moved level: 1 and the level, or 0
abbrev pub moved_numbers : Option ℕ → List ℕ
moved_numbers (Some n) = 1 ∷ n ∷ 0 ∷ 0 ∷ 0 ∷ 0 ∷ []
moved_numbers None = one 0

-- target and level are 1 to 7 and the shallowest level is at most 6; with any other numbers the answer is 2
abbrev pub are_levels : ℕ → ℕ → ℕ → Bool
are_levels target shallowest level = (leb 1 target && leb target 7) && ((leb 1 level && leb level 7) && leb shallowest 6)

abbrev pub moved_of : ℕ → ℕ → ℕ → List ℕ
moved_of target shallowest level =
    cond (are_levels target shallowest level) (moved_numbers (moved_to (pos level +ℤ shift_of target (top_of shallowest)))) (one 2)

-- a heading line at a place of an output: 1 and the place after it; 0 where the level is above 6 or the line has no room there
abbrev pub has_room : ℕ → ℕ → ℕ → ℕ → Bool
has_room at level text out = leb level 6 && leb (at + (level + 1 + text)) out

abbrev pub put_numbers : ℕ → ℕ → ℕ → ℕ → List ℕ
put_numbers at level text out = cond (has_room at level text out) (1 ∷ (at + (level + 1 + text)) ∷ 0 ∷ 0 ∷ 0 ∷ 0 ∷ []) (one 0)

abbrev pub put_line : ℕ → ℕ → List ℕ → List ℕ → List ℕ
put_line at level text out = cond (has_room at level (length text) (length out)) (sets out at (heading_line level text)) out
