-- The walk over own lines: the last level of lines, and lines after them; blanked lines do not change it; levels are 1 to 6. Assumes nothing.
use Rattle.std.specs.Prelude.{Option, Some, None}
use Prim.Native.Nat.{ℕ}
use native.Mathlib.Omega.{arith}
use mathlib.Core.Path.{◌≡◌, refl, sym, ◌∙◌}
use mathlib.Core.List.{List, [], ◌∷◌, ◌++◌}
use lib.ListN.{replicate}
use Rattle.fence.specs.declared.Fence.{Fence}
use Rattle.heading.specs.Walk.{step_kind, step_after, kinds_from, states_after, still_kind}
use Rattle.heading.specs.Level.{shallower, shallowest_of, IsLevel}
use Rattle.heading.specs.declared.walk.LineKind.{LineKind}
use Rattle.heading.specs.declared.walk.LineKind.TheVariants.{Quoted, Heading, Other}
use Rattle.heading.specs.declared.walk.WalkState.{WalkState}
use Rattle.heading.proofs.LevelLaws.{level-step}
use Rattle.heading.proofs.StillLaws.{still-shallower, gather_blanks, states_append, blanks-state}
use Rattle.regions.specs.Regions.{newer, last_level}
use Rattle.regions.specs.Own.{own_step, own_after}
use Rattle.regions.specs.declared.own.Own.{Own}

pub last-append : (b : Option ℕ) (ks js : List LineKind) → last_level b (ks ++ js) ≡ last_level (last_level b ks) js
unfolding last_level
last-append b [] js = refl
last-append b (k ∷ ks) js = last-append (newer b k) ks js

still-newer : (f : Option Fence) (b : Option ℕ) → newer b (still_kind f) ≡ b
still-newer None b = refl
still-newer (Some f) b = refl

-- n lines blanked, as a region is: the level above stays
pub last-blanks : (n : ℕ) (b : Option ℕ) (st : WalkState) (ls : List (List ℕ)) → last_level b (kinds_from st (replicate n [] ++ ls)) ≡ last_level b (kinds_from st ls)
unfolding last_level
last-blanks n b st ls = gather_blanks newer last_level (λ c k ks. refl) still-newer n b st ls

-- and so does the shallowest level
pub shallowest_blanks : (n : ℕ) (b : Option ℕ) (st : WalkState) (ls : List (List ℕ)) → shallowest_of b (kinds_from st (replicate n [] ++ ls)) ≡ shallowest_of b (kinds_from st ls)
unfolding shallowest_of
shallowest_blanks n b st ls = gather_blanks shallower shallowest_of (λ c k ks. refl) still-shallower n b st ls

-- the walk by its parts
pub own_is : (w : Own) (ls : List (List ℕ))
    → own_after w ls ≡ record { state = states_after w.state ls; above = last_level w.above (kinds_from w.state ls); top = shallowest_of w.top (kinds_from w.state ls) }
unfolding own_after own_step states_after last_level kinds_from shallowest_of
own_is w [] = refl
own_is w (l ∷ ls) = own_is (own_step w l) ls

-- over lines and lines after them
pub own-append : (w : Own) (ls us : List (List ℕ)) → own_after w (ls ++ us) ≡ own_after (own_after w ls) us
unfolding own_after
own-append w [] us = refl
own-append w (l ∷ ls) us = own-append (own_step w l) ls us

-- over n lines blanked
pub own-blanks : (n : ℕ) (w : Own) (ls : List (List ℕ)) → own_after w (replicate n [] ++ ls) ≡ own_after w ls
own-blanks n w ls =
    own_is w (replicate n [] ++ ls)
    ∙ rw (states_append w.state (replicate n []) ls, blanks-state n w.state, last-blanks n w.above w.state ls, shallowest_blanks n w.top w.state ls) (sym (own_is w ls))

-- behind no line
pub own-none : (w : Own) → own_after w [] ≡ w
unfolding own_after
own-none w = refl

-- the last level is one of 1 to 6
level-newer : (b : Option ℕ) (k : LineKind) → IsLevel b → IsLevel (shallower None k) → IsLevel (newer b k)
level-newer b Quoted h q = h
level-newer b (Heading n a e) h q = q
level-newer b Other h q = h

pub level-last : (b : Option ℕ) (st : WalkState) (ls : List (List ℕ)) → IsLevel b → IsLevel (last_level b (kinds_from st ls))
unfolding last_level kinds_from
level-last b st [] h = h
level-last b st (l ∷ ls) h =
    level-last (newer b (step_kind st.fence st.comment l)) (step_after st.fence st.comment l) ls
    (level-newer b (step_kind st.fence st.comment l) h (level-step None st.fence st.comment l tt))

-- where no heading stands, none is the last and none the shallowest
pub last_nothing : (b : Option ℕ) (ks : List LineKind) → last_level b ks ≡ None → (b ≡ None) × (shallowest_of None ks ≡ None)
unfolding last_level shallowest_of
last_nothing b [] h = (h, refl)
last_nothing b (Quoted ∷ ks) h = last_nothing b ks h
last_nothing b (Other ∷ ks) h = last_nothing b ks h
last_nothing b (Heading n a e ∷ ks) h =
    let q : Some n ≡ None = (last_nothing (Some n) ks h).0 in
    let z : ◌≡◌ {A = ℕ} 0 1 = cc in
    absurd (omega arith)
