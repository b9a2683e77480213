-- Laws of `specs/Levels.antt`: levels found line by line, the first line that goes past, and the shift. Assumes nothing.
use Rattle.std.specs.Prelude.{Option, Some, None, Ok, Err}
use Prim.Native.Nat.{ℕ, zero, suc, ◌+◌, ◌-◌, ◌≤◌}
use native.Mathlib.Omega.{arith}
use mathlib.Core.Path.{◌≡◌, refl, sym, subst, ap, ◌∙◌}
use mathlib.Core.Bool.{Bool, true, false, cond, ◌&&◌, false≢true}
use mathlib.Core.List.{List, [], ◌∷◌}
use lib.ListN.{length}
use lib.Dec.{ltb, leb}
use lib.IntN.{ℤ, pos, negsuc, ◌+ℤ◌}
use lib.Signed.{mag}
use borrow.Author.Tests.{leb-true, ltb-false}
use Rattle.std.specs.List.{All}
use Rattle.std.proofs.lemmas.List.Elements.{All-nil, All-cons}
use Rattle.text.specs.Lines.{pieces}
use Rattle.fence.specs.declared.Fence.{Fence}
use Rattle.heading.specs.Walk.{walk_begin, step_kind, step_after, kinds_from}
use Rattle.heading.specs.Level.{shallower, shallowest_of, deeper, deepest_of, shift_of, moved_to, is_past, goes_past, any_past, first_past, IsLevel}
use Rattle.heading.specs.declared.walk.LineKind.{LineKind}
use Rattle.heading.specs.declared.walk.LineKind.TheVariants.{Quoted, Heading, Other}
use Rattle.heading.specs.declared.walk.WalkState.{WalkState}
use Rattle.heading.proofs.WalkLaws.{kind-within}
use Rattle.heading.proofs.LevelLaws.{level-lines}
use Rattle.heading.proofs.PastLaws.{deepest-past, none-past, shift_level}
use Rattle.shift.specs.Shift.{shift_for}
use Rattle.shift.specs.declared.level.Levels.{Levels}
use Rattle.shift.specs.Levels.{HasLevel, kinds_in, top_in, deepest_in, AreLevels, ShiftOf}

-- a line's heading has a level of 1 to 6
pub step-level : (f : Option Fence) (c : Bool) (l : List ℕ) → HasLevel (step_kind f c l)
step-level f c l = go (step_kind f c l) (kind-within f c l)
  where
    go : (k : LineKind) → ((n a e : ℕ) → k ≡ Heading n a e → ((1 ≤ n) × (n ≤ 6)) × ((a ≤ e) × (e ≤ length l))) → HasLevel k
    go Quoted w = tt
    go (Heading n a e) w = (w n a e refl).0
    go Other w = tt

deeper-small : (b : ℕ) (k : LineKind) → HasLevel k → b ≤ 6 → deeper b k ≤ 6
deeper-small b Quoted h q = q
deeper-small b (Heading n a e) h q = omega arith
deeper-small b Other h q = q

deepest-small : (b : ℕ) (st : WalkState) (ls : List (List ℕ)) → b ≤ 6 → deepest_of b (kinds_from st ls) ≤ 6
unfolding deepest_of kinds_from
deepest-small b st [] q = q
deepest-small b st (l ∷ ls) q =
    let k : LineKind = step_kind st.fence st.comment l in
    deepest-small (deeper b k) (step_after st.fence st.comment l) ls (deeper-small b k (step-level st.fence st.comment l) q)

-- so does each line of a text
pub kinds-level : (st : WalkState) (ls : List (List ℕ)) → All HasLevel (kinds_from st ls)
unfolding kinds_from
kinds-level st [] = All-nil HasLevel
kinds-level st (l ∷ ls) =
    All-cons HasLevel _ _ (step-level st.fence st.comment l) (kinds-level (step_after st.fence st.comment l) ls)

-- the levels found, with those of the lines that are left, are the levels of all
pub record Found (ks rest : List LineKind) (top : Option ℕ) (deepest : ℕ) : Type 0 where
  pub shallow : shallowest_of top rest ≡ shallowest_of None ks
  pub deep : deepest_of deepest rest ≡ deepest_of 0 ks

pub found_turn : {ks rest more : List LineKind} {k : LineKind} {t u : Option ℕ} {d e : ℕ} → Found ks rest t d → rest ≡ k ∷ more → u ≡ shallower t k
    → e ≡ deeper d k → Found ks more u e
unfolding shallowest_of deepest_of
found_turn f p q r = record { shallow = rw q (rw p at f.shallow); deep = rw r (rw p at f.deep) }

pub found_all : (s : List ℕ) {rest : List LineKind} {f : Option Levels} → Found (kinds_in s) rest (top_in f) (deepest_in f) → rest ≡ [] → AreLevels (kinds_in s) f
unfolding shallowest_of deepest_of
found_all s h e =
    let top = rw e at h.shallow in
    let deepest = rw e at h.deep in
    record {
      shallow = top;
      deep = deepest;
      level = subst IsLevel (sym top) (level-lines None walk_begin (pieces s) tt);
      small = omega (arith, deepest, deepest-small 0 walk_begin (pieces s) (omega arith));
    }

-- one of the lines that are left goes past, and line n, counted from 1, is the first of them
pub record Ahead (z : ℤ) (ks rest : List LineKind) (n : ℕ) : Type 0 where
  pub some : any_past z rest ≡ true
  pub count : n + first_past z rest ≡ 1 + first_past z ks

module _ {z : ℤ} {ks rest more : List LineKind} {k : LineKind} {n : ℕ} (h : Ahead z ks rest n) (p : rest ≡ k ∷ more) where
  -- it is the first of them
  pub ahead_here : true ≡ goes_past z k → n ≡ 1 + first_past z ks
  unfolding first_past
  ahead_here q = let e : n + first_past z (k ∷ more) ≡ 1 + first_past z ks = rw p at h.count in omega (arith, rw (← q) at e)

  -- it comes later
  pub ahead_turn : false ≡ goes_past z k → Ahead z ks more (n + 1)
  unfolding any_past first_past
  ahead_turn q =
      let e : n + suc (first_past z more) ≡ 1 + first_past z ks = rw (p, ← q) at h.count in
      record { some = rw (p, ← q) at h.some; count = omega arith }

-- none is left that goes past
pub ahead_end : {z : ℤ} {ks rest : List LineKind} {n : ℕ} {p : Type 0} → Ahead z ks rest n → rest ≡ [] → p
unfolding any_past
ahead_end h e = absurd (false≢true (rw e at h.some))

-- a shift that takes a level of at most 6 to a level is small
level-small : (d : ℕ) (z : ℤ) → d ≤ 6 → is_past (moved_to (pos d +ℤ z)) ≡ false → mag z ≤ 7
level-small d (pos k) h p = go (leb 1 (d + k)) (leb (d + k) 6) refl p
  where
    go : (a b : Bool) → leb (d + k) 6 ≡ b → is_past (cond (a && b) (Some (d + k)) None) ≡ false → k ≤ 7
    go true true q e = omega (arith, leb-true (d + k) 6 q)
    go true false q e = absurd (false≢true (sym e))
    go false b q e = absurd (false≢true (sym e))
level-small d (negsuc k) h p = go (ltb d (suc k)) refl p
  where
    go : (b : Bool) → ltb d (suc k) ≡ b → is_past (moved_to (cond b (negsuc (suc k - suc d)) (pos (d - suc k)))) ≡ false → k ≤ 7
    go true q e = absurd (false≢true (sym e))
    go false q e = omega (arith, ltb-false d (suc k) q)

-- so is one that takes such a level to 0
from-zero : (n : ℕ) → n ≤ 6 → mag (shift_of 0 (Some n)) ≤ 7
from-zero zero h = let e : mag (shift_of 0 (Some 0)) ≡ 0 = refl in omega arith
from-zero (suc n) h = go (ltb 0 (suc n))
  where
    go : (b : Bool) → mag (cond b (negsuc (suc n - 1)) (pos (0 - suc n))) ≤ 7
    go true = omega arith
    go false = omega arith

-- so is the shift of lines to any target, where no heading goes past; and that of a text
pub shift_small : (target : ℕ) (ks : List LineKind) → IsLevel (shallowest_of None ks) → deepest_of 0 ks ≤ 6 → any_past (shift_for target ks) ks ≡ false → mag (shift_for target ks) ≤ 7
shift_small target ks l d p = go target (shallowest_of None ks) refl l p
  where
    go : (t : ℕ) (top : Option ℕ) → shallowest_of None ks ≡ top → IsLevel top → any_past (shift_of t top) ks ≡ false → mag (shift_of t top) ≤ 7
    go t None e l p = omega arith
    go zero (Some n) e l p = from-zero n l.1
    go (suc m) (Some n) e l p = level-small (deepest_of 0 ks) (shift_of (suc m) (Some n)) d (sym (deepest-past n m (shift_of (suc m) (Some n)) (shift_level (suc m) n) ks e) ∙ p)

pub text_small : (target : ℕ) (s : List ℕ) → any_past (shift_for target (kinds_in s)) (kinds_in s) ≡ false → mag (shift_for target (kinds_in s)) ≤ 7
text_small target s p = shift_small target (kinds_in s) (level-lines None walk_begin (pieces s) tt) (deepest-small 0 walk_begin (pieces s) (omega arith)) p

module _ (target : ℕ) {ks : List LineKind} where
  -- with no heading none goes past
  pub shift_none : AreLevels ks None → ShiftOf target ks (Ok (pos 0))
  shift_none a =
      let z : shift_for target ks ≡ pos 0 = ap (shift_of target) (sym a.shallow) in
      (sym z, (omega arith, rw z (none-past (pos 0) ks (sym a.shallow))))

  -- x is the shift to the target
  module _ {l : Levels} (a : AreLevels ks (Some l)) (x : ℤ) (r : x ≡ shift_of target (Some l.shallowest)) where
    shift_is : x ≡ shift_for target ks
    shift_is = r ∙ ap (shift_of target) a.shallow

    -- a heading goes past where the deepest does
    pub shift_past : {b : Bool} → 1 ≤ target → b ≡ is_past (moved_to (pos l.deepest +ℤ x)) → any_past x ks ≡ b
    shift_past h p = go target h r ∙ sym p
      where
        go : (t : ℕ) → 1 ≤ t → x ≡ shift_of t (Some l.shallowest) → any_past x ks ≡ is_past (moved_to (pos l.deepest +ℤ x))
        go zero k e = absurd (omega arith)
        go (suc m) k e =
            let d : l.deepest ≡ deepest_of 0 ks = a.deep in
            rw (d, e) (deepest-past l.shallowest m (shift_of (suc m) (Some l.shallowest)) (shift_level (suc m) l.shallowest) ks (sym a.shallow))

    -- the answers
    pub shift_by : any_past x ks ≡ false → ShiftOf target ks (Ok x)
    shift_by p =
        let q = ap (λ (z : ℤ). any_past z ks) (sym shift_is) ∙ p in
        let m = shift_small target ks (subst IsLevel a.shallow a.level) (omega (arith, a.deep, a.small)) q in
        (shift_is, (subst (λ (z : ℤ). mag z ≤ 7) (sym shift_is) m, q))

    pub shift_past_at : {n : ℕ} → any_past x ks ≡ true → n ≡ 1 + first_past x ks → ShiftOf target ks (Err n)
    shift_past_at p q = (ap (λ (z : ℤ). any_past z ks) (sym shift_is) ∙ p, q ∙ ap (λ (z : ℤ). 1 + first_past z ks) shift_is)
