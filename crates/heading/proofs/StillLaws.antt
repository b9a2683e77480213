-- Lines that leave the heading walk as it is: blank lines, and lines that do not begin with a byte of `is_first`; and the walk over lines and lines after
-- them. Assumes nothing.
use Rattle.std.specs.Prelude.{Option, Some, None}
use Prim.Native.Nat.{ℕ, zero, suc, ◌≤◌}
use native.Mathlib.Omega.{arith}
use mathlib.Core.Path.{◌≡◌, refl, ap, ◌∙◌}
use mathlib.Core.Bool.{Bool, true, false, ◌&&◌, ◌||◌}
use mathlib.Core.List.{List, [], ◌∷◌, ◌++◌}
use lib.ListN.{length, get_or, replicate}
use lib.Dec.{eqb, leb, ltb}
use borrow.Author.Tests.{ltb-false, lt-leb, ne_eqb}
use Rattle.text.specs.Bytes.{first}
use Rattle.text.specs.Pattern.{bytes, starts_with}
use Rattle.text.specs.Space.{is_space, lead, trim_start, is_blank}
use Rattle.text.specs.First.{is_first, begins}
use Rattle.text.proofs.BytesLaws.{or_left, or_right}
use Rattle.text.proofs.FirstLaws.{blank_trimmed, blank_find, blank_begins, begins_trimmed, begins-starts}
use Rattle.fence.specs.Fences.{opener}
use Rattle.heading.specs.Walk.{hashes, heading_of, closes, opens_comment, written_kind, comment_after, outside_kind, outside_after, step_kind, step_after, kinds_from, states_after, still_kind}
use Rattle.heading.specs.Level.{shallower, shallowest_of, deeper}
use Rattle.fence.specs.declared.Fence.{Fence}
use Rattle.fence.specs.declared.Fence.TheVariants.{Ticks, Tildes}
use Rattle.heading.specs.declared.walk.LineKind.{LineKind}
use Rattle.heading.specs.declared.walk.LineKind.TheVariants.{Other}
use Rattle.heading.specs.declared.walk.WalkState.{WalkState}

-- a line that begins with no `#` is no heading
pub no_hash_lem : (l : List ℕ) → starts_with (0x23 ∷ []) l ≡ false → heading_of l ≡ Other
unfolding heading_of hashes first starts_with
no_hash_lem [] e = refl
no_hash_lem (x ∷ l) e = rw (and_true (eqb x 0x23) e)
  where
    and_true : (b : Bool) → (b && true) ≡ false → b ≡ false
    and_true true q = q
    and_true false q = refl

-- a byte that is none of `is_first`, and a line that begins with one
pub no_first : (b : ℕ) → (ltb b 0x24 || (eqb b 0x3C || (eqb b 0x60 || eqb b 0x7E))) ≡ false → is_first b ≡ false
unfolding is_first is_space
no_first b e =
    let h : 0x24 ≤ b = ltb-false b 0x24 (or_left (ltb b 0x24) _ e) in
    let r = or_right (ltb b 0x24) _ e in
    let s = or_right (eqb b 0x3C) _ r in
    rw (ne_eqb b 0x23 (λ q. omega arith), lt-leb b 0x0D (omega arith), ne_eqb b 0x20 (λ q. omega arith), or_left (eqb b 0x3C) _ r, or_left (eqb b 0x60) _ s, or_right (eqb b 0x60) _ s) (and_false (leb 0x09 b))
  where
    and_false : (c : Bool) → (((c && false) || false) || (false || false)) ≡ false
    and_false true = refl
    and_false false = refl

pub begins-none : (l : List ℕ) → is_first (get_or l 0 0) ≡ false → begins l ≡ false
unfolding begins
begins-none [] e = refl
begins-none (x ∷ l) e = e

pub none_blank : (l : List ℕ) → length l ≡ 0 → is_blank l ≡ true
unfolding is_blank lead first
none_blank [] e = refl
none_blank (x ∷ l) e = absurd (omega arith)

-- no fence, no comment's start and no hash stands at the start of a line
pub record Bare (l : List ℕ) : Type 0 where
  pub no_ticks : starts_with (bytes "```") (trim_start l) ≡ false
  pub no_tildes : starts_with (bytes "~~~") (trim_start l) ≡ false
  pub no_comment : starts_with (bytes "<!--") (trim_start l) ≡ false
  pub no_hash : starts_with (0x23 ∷ []) l ≡ false

-- a blank line is such
pub blank_bare : (l : List ℕ) → is_blank l ≡ true → Bare l
unfolding starts_with is_space
blank_bare l e =
    let t = blank_trimmed l e in
    record { no_ticks = rw t; no_tildes = rw t; no_comment = rw t; no_hash = blank_begins 0x23 [] l refl e }

-- so is a line that begins with no byte of `is_first`
pub other_bare : (l : List ℕ) → begins l ≡ false → Bare l
unfolding is_first is_space
other_bare l e =
    let t = begins_trimmed l e in
    record {
      no_ticks = rw t (begins-starts 0x60 (0x60 ∷ 0x60 ∷ []) l refl e);
      no_tildes = rw t (begins-starts 0x7E (0x7E ∷ 0x7E ∷ []) l refl e);
      no_comment = rw t (begins-starts 0x3C (0x21 ∷ 0x2D ∷ 0x2D ∷ []) l refl e);
      no_hash = begins-starts 0x23 [] l refl e;
    }

module _ (l : List ℕ) (h : Bare l) where
  bare-opener : opener l ≡ None
  unfolding opener
  bare-opener = rw (h.no_ticks, h.no_tildes)

  bare-closes : (f : Fence) → closes f l ≡ false
  unfolding closes
  bare-closes Ticks = rw bare-opener
  bare-closes Tildes = rw bare-opener

  bare-comment : opens_comment l ≡ false
  unfolding opens_comment
  bare-comment = rw h.no_comment

  -- such a line is no heading
  pub bare-kind : (f : Option Fence) (c : Bool) → step_kind f c l ≡ still_kind f
  unfolding step_kind outside_kind written_kind
  bare-kind None true = rw bare-opener
  bare-kind None false = rw (bare-opener, bare-comment) (no_hash_lem l h.no_hash)
  bare-kind (Some f) c = refl

  -- where no fence and no comment is open it leaves the state
  pub bare-begin : step_after None false l ≡ record { fence = None; comment = false }
  unfolding step_after outside_after comment_after
  bare-begin = rw (bare-opener, bare-comment)

  -- so it does in an open fence
  pub bare_fence : (f : Option Fence) (c : Bool) → (f ≡ None → c ≡ false) → step_after f c l ≡ record { fence = f; comment = c }
  unfolding step_after
  bare_fence None c g = rw (g refl) bare-begin
  bare_fence (Some f) c g = rw (bare-closes f)

-- a blank line is no heading
pub blank_kind : (f : Option Fence) (c : Bool) (l : List ℕ) → is_blank l ≡ true → step_kind f c l ≡ still_kind f
blank_kind f c l e = bare-kind l (blank_bare l e) f c

-- and leaves the state, in a comment too
pub blank_after : (f : Option Fence) (c : Bool) (l : List ℕ) → is_blank l ≡ true → step_after f c l ≡ record { fence = f; comment = c }
unfolding step_after outside_after comment_after is_space
blank_after None true l e = rw (bare-opener l (blank_bare l e), blank_find 0x2D (0x2D ∷ 0x3E ∷ []) l refl e)
blank_after None false l e = bare-begin l (blank_bare l e)
blank_after (Some f) c l e = rw (bare-closes l (blank_bare l e) f)

-- a line that begins with no byte of `is_first` is no heading
pub other_kind : (f : Option Fence) (c : Bool) (l : List ℕ) → begins l ≡ false → step_kind f c l ≡ still_kind f
other_kind f c l e = bare-kind l (other_bare l e) f c

-- and leaves the state unless a comment is open
pub other_after : (f : Option Fence) (c : Bool) (l : List ℕ) → begins l ≡ false → (f ≡ None → c ≡ false) → step_after f c l ≡ record { fence = f; comment = c }
other_after f c l e = bare_fence l (other_bare l e) f c

-- the kinds of lines and lines after them
pub kinds_append : (st : WalkState) (ls us : List (List ℕ)) → kinds_from st (ls ++ us) ≡ kinds_from st ls ++ kinds_from (states_after st ls) us
unfolding kinds_from states_after
kinds_append st [] us = refl
kinds_append st (l ∷ ls) us = ap (λ (ks : List LineKind). step_kind st.fence st.comment l ∷ ks) (kinds_append (step_after st.fence st.comment l) ls us)

-- the state behind both
pub states_append : (st : WalkState) (ls us : List (List ℕ)) → states_after st (ls ++ us) ≡ states_after (states_after st ls) us
unfolding states_after
states_append st [] us = refl
states_append st (l ∷ ls) us = states_append (step_after st.fence st.comment l) ls us

-- the shallowest level of both
pub shallowest_append : (b : Option ℕ) (ks js : List LineKind) → shallowest_of b (ks ++ js) ≡ shallowest_of (shallowest_of b ks) js
unfolding shallowest_of
shallowest_append b [] js = refl
shallowest_append b (k ∷ ks) js = shallowest_append (shallower b k) ks js

-- a blank line before lines
pub blank_kinds : (st : WalkState) (l : List ℕ) (ls : List (List ℕ)) → is_blank l ≡ true → kinds_from st (l ∷ ls) ≡ still_kind st.fence ∷ kinds_from st ls
unfolding kinds_from
blank_kinds st l ls e = rw (blank_kind st.fence st.comment l e, blank_after st.fence st.comment l e)

empty_blank : is_blank [] ≡ true
unfolding is_blank lead first
empty_blank = refl

-- n empty lines before lines
pub blanks_kinds : (n : ℕ) (st : WalkState) (ls : List (List ℕ)) → kinds_from st (replicate n [] ++ ls) ≡ replicate n (still_kind st.fence) ++ kinds_from st ls
blanks_kinds zero st ls = refl
blanks_kinds (suc n) st ls =
    blank_kinds st [] (replicate n [] ++ ls) empty_blank ∙ ap (λ (ks : List LineKind). still_kind st.fence ∷ ks) (blanks_kinds n st ls)

-- n empty lines leave the state
pub blanks-state : (n : ℕ) (st : WalkState) → states_after st (replicate n []) ≡ st
unfolding states_after
blanks-state zero st = refl
blanks-state (suc n) st = ap (λ (s : WalkState). states_after s (replicate n [])) (blank_after st.fence st.comment [] empty_blank) ∙ blanks-state n st

-- the shallowest level does not see such a line
pub still-shallower : (f : Option Fence) (b : Option ℕ) → shallower b (still_kind f) ≡ b
still-shallower None b = refl
still-shallower (Some f) b = refl

-- nor does the deepest
pub still-deeper : (f : Option Fence) (b : ℕ) → deeper b (still_kind f) ≡ b
still-deeper None b = refl
still-deeper (Some f) b = refl

-- what is gathered from kinds line by line, where such a line changes nothing
module _ {C : Type 0} (step : C → LineKind → C) (F : C → List LineKind → C) (on : (b : C) (k : LineKind) (ks : List LineKind) → F b (k ∷ ks) ≡ F (step b k) ks)
    (stay : (f : Option Fence) (b : C) → step b (still_kind f) ≡ b) where
  -- a blank line before lines
  pub gather_blank : (b : C) (st : WalkState) (l : List ℕ) (ls : List (List ℕ)) → is_blank l ≡ true → F b (kinds_from st (l ∷ ls)) ≡ F b (kinds_from st ls)
  gather_blank b st l ls e =
      ap (F b) (blank_kinds st l ls e) ∙ on b (still_kind st.fence) (kinds_from st ls) ∙ ap (λ (c : C). F c (kinds_from st ls)) (stay st.fence b)

  -- n lines blanked
  gather-still : (n : ℕ) (f : Option Fence) (b : C) (ks : List LineKind) → F b (replicate n (still_kind f) ++ ks) ≡ F b ks
  gather-still zero f b ks = refl
  gather-still (suc n) f b ks =
      on b (still_kind f) (replicate n (still_kind f) ++ ks) ∙ ap (λ (c : C). F c (replicate n (still_kind f) ++ ks)) (stay f b) ∙ gather-still n f b ks

  pub gather_blanks : (n : ℕ) (b : C) (st : WalkState) (ls : List (List ℕ)) → F b (kinds_from st (replicate n [] ++ ls)) ≡ F b (kinds_from st ls)
  gather_blanks n b st ls = rw (blanks_kinds n st ls) (gather-still n st.fence b (kinds_from st ls))

-- an empty line
pub empty_kind : (f : Option Fence) (c : Bool) (l : List ℕ) → length l ≡ 0 → step_kind f c l ≡ still_kind f
empty_kind f c l h = blank_kind f c l (none_blank l h)

pub empty_after : (f : Option Fence) (c : Bool) (l : List ℕ) → length l ≡ 0 → step_after f c l ≡ record { fence = f; comment = c }
empty_after f c l h = blank_after f c l (none_blank l h)

pub ruleset still_lines = (begins-none, other_kind, other_after)
