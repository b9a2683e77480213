-- Laws of levels: what a heading moves to; the bytes of a heading line, written one after the other; and levels found along the walk, which are
-- 1 to 6. Assumes nothing.
use Rattle.std.specs.Prelude.{Option, Some, None}
use Prim.Native.Nat.{ℕ, ◌+◌, ◌≤◌}
use native.Mathlib.Numerals.{add-one}
use native.Mathlib.Omega.{arith}
use mathlib.Core.Path.{◌≡◌, refl, ap, ◌∙◌}
use mathlib.Core.Bool.{Bool, true, false, cond, ◌&&◌}
use mathlib.Core.List.{List, [], ◌∷◌, ◌++◌}
use borrow.Author.Tests.{leb-true}
use lib.Dec.{leb}
use lib.IntN.{ℤ, pos, negsuc}
use lib.ListN.{length, set, replicate, length-replicate}
use borrow.Rule.Slice.PartMut.{put_mid}
use lib.Seq.{sets}
use Rattle.buffer.proofs.BufferLaws.{sets_append, part_written}
use Rattle.fence.specs.declared.Fence.{Fence}
use Rattle.heading.specs.Walk.{step_kind, step_after, kinds_from}
use Rattle.heading.specs.Level.{shallower, shallowest_of, moved_to, heading_line, IsLevel}
use Rattle.heading.specs.declared.walk.LineKind.{LineKind}
use Rattle.heading.specs.declared.walk.LineKind.TheVariants.{Quoted, Heading, Other}
use Rattle.heading.specs.declared.walk.WalkState.{WalkState}
use Rattle.heading.proofs.WalkLaws.{kind-within}

-- a heading moves to a level of 1 to 6
pub moved_level : (z : ℤ) (n : ℕ) → moved_to z ≡ Some n → (1 ≤ n) × (n ≤ 6)
moved_level (negsuc m) n e = let y : ◌≡◌ {A = ℕ} 0 1 = cc in absurd (omega arith)
moved_level (pos m) n e = go (leb 1 m) (leb m 6) refl refl e
  where
    go : (a b : Bool) → leb 1 m ≡ a → leb m 6 ≡ b → cond (a && b) (Some m) None ≡ Some n → (1 ≤ n) × (n ≤ 6)
    go true true p q h = let y : m ≡ n = cc in (omega (arith, leb-true 1 m p), omega (arith, leb-true m 6 q))
    go true false p q h = let y : ◌≡◌ {A = ℕ} 0 1 = cc in absurd (omega arith)
    go false b p q h = let y : ◌≡◌ {A = ℕ} 0 1 = cc in absurd (omega arith)

-- a write behind n equal bytes
behind : (l b : List ℕ) (at i n x : ℕ) → i ≡ at + n → sets (sets l at (replicate n x)) i b ≡ sets l at (replicate n x ++ b)
behind l b at i n x h =
    let e : i ≡ at + length (replicate n x) = rw (length-replicate n x) h in
    ap (λ (k : ℕ). sets (sets l at (replicate n x)) k b) e ∙ sets_append l (replicate n x) b at

-- a part of n bytes, once they are all one byte
pub hashes_written : (l : List ℕ) (at n x : ℕ) → at + n ≤ length l → put_mid at n l (replicate n x) ≡ sets l at (replicate n x)
hashes_written l at n x h = rw length-replicate at (part_written l (replicate n x) at (omega (arith, length-replicate n x)))

-- the hashes, a space and the text
pub heading-written : (l text : List ℕ) (at n : ℕ) {m o : List ℕ} → m ≡ sets l at (replicate n 0x23) → o ≡ sets (set m (at + n) 0x20) (at + n + 1) text
    → o ≡ sets l at (heading_line n text)
heading-written l text at n {m} {o} e f =
    (rw add-one at f) ∙ ap (λ (r : List ℕ). sets r (at + n) (0x20 ∷ text)) e ∙ behind l (0x20 ∷ text) at (at + n) n 0x23 refl

-- a line of the walk leaves a level of 1 to 6
abbrev HasLevel : LineKind → Type 0
HasLevel Quoted = Unit {0}
HasLevel (Heading n a e) = (1 ≤ n) × (n ≤ 6)
HasLevel Other = Unit {0}

level-shallower : (b : Option ℕ) (k : LineKind) → HasLevel k → IsLevel b → IsLevel (shallower b k)
level-shallower b Quoted h q = q
level-shallower b Other h q = q
level-shallower None (Heading n a e) h q = h
level-shallower (Some m) (Heading n a e) h q = (omega arith, omega arith)

pub level-step : (b : Option ℕ) (f : Option Fence) (c : Bool) (l : List ℕ) → IsLevel b → IsLevel (shallower b (step_kind f c l))
level-step b f c l q = level-shallower b (step_kind f c l) (go (step_kind f c l) (kind-within f c l)) q
  where
    go : (k : LineKind) → ((n a e : ℕ) → k ≡ Heading n a e → ((1 ≤ n) × (n ≤ 6)) × ((a ≤ e) × (e ≤ length l))) → HasLevel k
    go Quoted w = tt
    go (Heading n a e) w = (w n a e refl).0
    go Other w = tt

-- so do lines
pub level-lines : (b : Option ℕ) (st : WalkState) (ls : List (List ℕ)) → IsLevel b → IsLevel (shallowest_of b (kinds_from st ls))
unfolding shallowest_of kinds_from
level-lines b st [] q = q
level-lines b st (l ∷ ls) q =
    level-lines (shallower b (step_kind st.fence st.comment l)) (step_after st.fence st.comment l) ls (level-step b st.fence st.comment l q)
