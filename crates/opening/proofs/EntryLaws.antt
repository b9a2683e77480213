-- What a region comes to before its file, test by test, and what stands behind an entry. Assumes nothing.
use Rattle.std.specs.Prelude.{Result, Ok, Err}
use Prim.Native.Nat.{ℕ, ◌<◌}
use native.Mathlib.Omega.{arith}
use mathlib.Core.Path.{◌≡◌, refl}
use mathlib.Core.Bool.{Bool, true, false, cond}
use mathlib.Core.List.{List}
use lib.Dec.{leb, ltb}
use lib.ListN.{length}
use borrow.Author.Tests.{ltb-true}
use Rattle.answer.specs.declared.Place.{Place}
use Rattle.answer.specs.declared.Refusal.{Refusal}
use Rattle.answer.specs.declared.Refusal.TheVariants.{PeerWithoutHeading, Allowance, TextLimit}
use Rattle.insertion.specs.Insertion.{joined, stopped, tested}
use Rattle.chains.specs.Chains.{Next, stop, on}
use Rattle.opening.specs.Opening.{named_of, enters, barred, entered, joined_entry, entry_of}

-- an entry, test by test
module _ (L : ℕ) (p : Place) (headless : Bool) (t : List ℕ) (r : Result ℕ Refusal) where
  pub entry_over : {x : Refusal} → stopped x ≡ tested L p t → barred x ≡ entry_of L p headless t r
  unfolding entry_of
  entry_over e = rw (← e)

  module _ {u : List ℕ} (e : joined u ≡ tested L p t) where
    pub entry_headless : headless ≡ true → barred (PeerWithoutHeading p) ≡ entry_of L p headless t r
    unfolding entry_of
    entry_headless h = rw (← e, h)

    pub entry_named : headless ≡ false → entered u r ≡ entry_of L p headless t r
    unfolding entry_of
    entry_named h = rw (← e, h)

-- what stands behind an entry: the text, where the region leads, and room in the allowance
pub record Enters (B n : ℕ) (t u : List ℕ) (y : Next) (d : ℕ) : Type 0 where
  pub same : u ≡ t
  pub leads : y ≡ on d
  pub allowed : n < B

pub entry_enters : (B L n : ℕ) (p : Place) (headless : Bool) (t u : List ℕ) (y : Next) (d : ℕ) → entry_of L p headless t (named_of B n p y) ≡ enters u d → Enters B n t u y d
unfolding entry_of
entry_enters B L n p headless t u y d e = at_size (leb (length t) L) headless y e
  where
    at_next : (y : Next) → entered t (named_of B n p y) ≡ enters u d → Enters B n t u y d
    at_next (stop x) e = let z : ◌≡◌ {A = ℕ} 0 1 = cc in absurd (omega arith)
    at_next (on k) e = at_test (ltb n B) refl e
      where
        at_test : (b : Bool) → ltb n B ≡ b → entered t (cond b (Ok k) (Err (Allowance p))) ≡ enters u d → Enters B n t u (on k) d
        at_test true q h = let i : k ≡ d = cc in record { same = cc; leads = rw i; allowed = ltb-true n B q }
        at_test false q h = let z : ◌≡◌ {A = ℕ} 0 1 = cc in absurd (omega arith)

    at_size : (a b : Bool) (y : Next) → joined_entry (cond a (joined t) (stopped (TextLimit p))) (λ v. cond b (barred (PeerWithoutHeading p)) (entered v (named_of B n p y))) ≡ enters u d → Enters B n t u y d
    at_size true true y h = let z : ◌≡◌ {A = ℕ} 0 1 = cc in absurd (omega arith)
    at_size true false y h = at_next y h
    at_size false b y h = let z : ◌≡◌ {A = ℕ} 0 1 = cc in absurd (omega arith)
