-- Laws of `specs/ScanCall.antt`: the answer and the output of the scan call, by its tests. Assumes nothing.
use Rattle.std.specs.Prelude.{Option, Some, None, Result, Ok, Err}
use Prim.Native.Nat.{ℕ, ◌≤◌, ◌<◌}
use native.Mathlib.Omega.{arith}
use mathlib.Core.Path.{◌≡◌, refl, subst}
use mathlib.Core.Bool.{Bool, true, false, cond}
use mathlib.Core.List.{List, ◌++◌}
use lib.ListN.{length, drop}
use lib.Dec.{leb}
use borrow.Author.Tests.{le-leb, lt-leb, leb-true}
use Rattle.text.specs.Ascii.{wide_line}
use Rattle.answer.specs.Answer.{place}
use Rattle.answer.specs.declared.Answer.{Answer}
use Rattle.answer.specs.declared.Refusal.{Refusal}
use Rattle.answer.specs.declared.Answer.TheVariants.{Accepted, NoRegion}
use Rattle.answer.specs.declared.Refusal.TheVariants.{TextLimit}
use Rattle.listing.specs.Listing.{listing}
use Rattle.listing.specs.ScanCall.{unless_wide, answer_of, output_of}

-- n is the listing's length, as it was counted, of a text without wide bytes
module _ (s out : List ℕ) (n : ℕ) (wide : wide_line 1 s ≡ None) where
  pub fits-answer : n ≤ length out → n ≡ length (listing s) → Ok (Accepted n 0) ≡ answer_of (length out) s
  unfolding answer_of
  fits-answer h e = rw (wide, le-leb (length (listing s)) (length out) (omega arith), e)

  pub fits-output : n ≡ length (listing s) → {bytes : List ℕ} → bytes ≡ listing s ++ drop (length (listing s)) out → bytes ≡ output_of (Ok (Accepted n 0)) s out
  unfolding output_of
  fits-output e h = rw e h

  pub short-answer : length out < length (listing s) → Err (TextLimit (place 0 0)) ≡ answer_of (length out) s
  unfolding answer_of
  short-answer h = rw (wide, lt-leb (length (listing s)) (length out) h)

-- an accepted listing lies within the room
abbrev Within : ℕ → Result Answer Refusal → Type 0
Within room (Ok (Accepted n f)) = n ≤ room
Within room (Ok NoRegion) = Unit {0}
Within room (Err r) = Unit {0}

within : (room : ℕ) (s : List ℕ) → Within room (answer_of room s)
unfolding answer_of
within room s = go (wide_line 1 s) (leb (length (listing s)) room) refl
  where
    go : (o : Option ℕ) (b : Bool) → leb (length (listing s)) room ≡ b
        → Within room (unless_wide o (cond b (Ok (Accepted (length (listing s)) 0)) (Err (TextLimit (place 0 0)))))
    go None true e = leb-true (length (listing s)) room e
    go None false e = tt
    go (Some line) b e = tt

pub accepted_within : (room : ℕ) (s : List ℕ) (n f : ℕ) → answer_of room s ≡ Ok (Accepted n f) → n ≤ room
accepted_within room s n f e = subst (Within room) e (within room s)
