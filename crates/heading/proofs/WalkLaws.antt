-- Laws of `specs/Walk.antt`: a heading has a level of 1 to 6, and its text lies within the line; what closes a fence; a line that opens one, and one that
-- does not. Assumes nothing.
use Rattle.std.specs.Prelude.{Option, Some, None}
use Rattle.std.specs.List.{prefix_len}
use Rattle.text.proofs.BytesLaws.{rest}
use Rattle.text.proofs.PatternLaws.{starts-long}
use Prim.Native.Nat.{ℕ, suc, ◌+◌, ◌≤◌}
use native.Mathlib.Omega.{arith}
use mathlib.Core.Path.{◌≡◌, refl, subst, ap}
use mathlib.Core.Bool.{Bool, true, false, cond, not, ◌&&◌}
use mathlib.Core.List.{List, [], ◌∷◌}
use lib.ListN.{length, drop, length-drop}
use lib.Dec.{eqb, leb}
use borrow.Author.Tests.{leb-true}
use Rattle.text.specs.Bytes.{is, first}
use Rattle.text.proofs.BytesLaws.{first_le, after_le}
use Rattle.text.specs.Pattern.{bytes, starts_with}
use Rattle.text.specs.Space.{is_other, lead, kept, trim_start}
use Rattle.fence.specs.Fences.{opener}
use Rattle.fence.proofs.FenceLaws.{ticks-start, tildes_start}
use Rattle.heading.specs.Walk.{hashes, text_start, text_end, heading_of, same_fence, closes, opens_comment, written_kind, outside_kind, step_kind, step_after, kinds_from}
use Rattle.fence.specs.declared.Fence.{Fence}
use Rattle.fence.specs.declared.Fence.TheVariants.{Ticks, Tildes}
use Rattle.heading.specs.declared.walk.LineKind.{LineKind}
use Rattle.heading.specs.declared.walk.LineKind.TheVariants.{Quoted, Heading, Other}
use Rattle.heading.specs.declared.walk.WalkState.{WalkState}

-- the test that ends a line's hashes
abbrev pub is_no_hash : ℕ → Bool
is_no_hash x = not (is 0x23 x)

pub hashes-prefix : (l : List ℕ) → hashes l ≡ prefix_len (is 0x23) l
unfolding hashes first
hashes-prefix [] = refl
hashes-prefix (x ∷ l) = go (eqb x 0x23) (hashes-prefix l)
  where
    go : (b : Bool) → hashes l ≡ prefix_len (is 0x23) l → cond (not b) 0 (suc (first is_no_hash l)) ≡ cond b (1 + prefix_len (is 0x23) l) 0
    go true h = omega (arith, h)
    go false h = refl

-- hashes and spaces lie within
pub hashes_le : (l : List ℕ) → hashes l ≤ length l
unfolding hashes
hashes_le l = first_le is_no_hash l

pub lead_le : (s : List ℕ) → lead s ≤ length s
unfolding lead
lead_le s = first_le is_other s

pub kept_le : (s : List ℕ) → kept s ≤ length s
unfolding kept
kept_le s = after_le is_other s

-- where the text of a heading starts and ends
pub start_le : (n : ℕ) (l : List ℕ) → n ≤ length l → text_start n l ≤ length l
unfolding text_start
start_le n l h = omega (arith, lead_le (drop n l), length-drop n l)

pub start-end : (n : ℕ) (l : List ℕ) → text_start n l ≤ text_end n l
unfolding text_end
start-end n l = omega arith

pub end_le : (n : ℕ) (l : List ℕ) → n ≤ length l → text_end n l ≤ length l
unfolding text_end
end_le n l h = omega (arith, start_le n l h, kept_le (drop (text_start n l) l), length-drop (text_start n l) l)

abbrev Within : List ℕ → LineKind → Type 0
Within l Quoted = Unit {0}
Within l (Heading n a e) = ((1 ≤ n) × (n ≤ 6)) × ((a ≤ e) × (e ≤ length l))
Within l Other = Unit {0}

heading-fits : (l : List ℕ) → Within l (heading_of l)
unfolding heading_of
heading-fits l = go (leb 1 (hashes l)) (leb (hashes l) 6) (starts_with (bytes " ") (drop (hashes l) l)) refl refl
  where
    go : (x y z : Bool) → leb 1 (hashes l) ≡ x → leb (hashes l) 6 ≡ y
        → Within l (cond ((x && y) && z) (Heading (hashes l) (text_start (hashes l) l) (text_end (hashes l) l)) Other)
    go true true true p q = ((leb-true _ _ p, leb-true _ _ q), (start-end (hashes l) l, end_le (hashes l) l (hashes_le l)))
    go true true false p q = tt
    go true false z p q = tt
    go false y z p q = tt

kind_fits : (f : Option Fence) (comment : Bool) (l : List ℕ) → Within l (step_kind f comment l)
unfolding step_kind outside_kind written_kind
kind_fits None comment l = outer (opener l)
  where
    by : (x y : Bool) → Within l (cond x Other (cond y Other (heading_of l)))
    by true y = tt
    by false true = tt
    by false false = heading-fits l

    outer : (g : Option Fence) → Within l (outside_kind comment l g)
    outer None = by comment (opens_comment l)
    outer (Some f) = tt
kind_fits (Some f) comment l = tt

pub heading-within : (l : List ℕ) (n a e : ℕ) → heading_of l ≡ Heading n a e → ((1 ≤ n) × (n ≤ 6)) × ((a ≤ e) × (e ≤ length l))
heading-within l n a e q = subst (Within l) q (heading-fits l)

pub kind-within : (f : Option Fence) (comment : Bool) (l : List ℕ) (n a e : ℕ) → step_kind f comment l ≡ Heading n a e
    → ((1 ≤ n) × (n ≤ 6)) × ((a ≤ e) × (e ≤ length l))
kind-within f comment l n a e q = subst (Within l) q (kind_fits f comment l)

-- a fence is closed by its own three bytes
pub closes-ticks : (l : List ℕ) → closes Ticks l ≡ starts_with (bytes "```") (trim_start l)
unfolding closes
closes-ticks l = ticks-start (same_fence Ticks) l refl refl refl

pub closes_tildes : (l : List ℕ) → closes Tildes l ≡ starts_with (bytes "~~~") (trim_start l)
unfolding closes
closes_tildes l = tildes_start (same_fence Tildes) l refl refl refl

-- lines have as many kinds
pub kinds_length : (st : WalkState) (ls : List (List ℕ)) → length (kinds_from st ls) ≡ length ls
unfolding kinds_from
kinds_length st [] = refl
kinds_length st (l ∷ ls) = ap suc (kinds_length (step_after st.fence st.comment l) ls)

-- what a text begins with lies within it
pub ruleset starts = (rest, starts-long)
