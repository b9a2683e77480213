-- Lines joined by LF, and lines each led by one. Assumes nothing.
use Prim.Native.Nat.{ℕ, suc, ◌<◌}
use native.Mathlib.Omega.{arith}
use mathlib.Core.Path.{◌≡◌, refl, sym, ◌∙◌, ap}
use mathlib.Core.Bool.{Bool, true, false, cond}
use mathlib.Core.List.{List, [], ◌∷◌, ◌++◌, append_assoc, append-nil}
use lib.ListN.{length, drop}
use lib.Dec.{eqb}
use borrow.Author.Tests.{eqb-true}
use Rattle.text.specs.Bytes.{is, first}
use Rattle.text.specs.Lines.{LF, pieces, led}
use Rattle.text.specs.Split.{onto, split, join}
use Rattle.text.proofs.SplitLaws.{split-some}

pub join-led : (l : List ℕ) (ls : List (List ℕ)) → join LF (l ∷ ls) ≡ l ++ led ls
unfolding join led
join-led l [] = sym (append-nil l)
join-led l (m ∷ ls) = ap (λ (k : List ℕ). l ++ (LF ∷ k)) (join-led m ls)

pub led-append : (ls us : List (List ℕ)) → led (ls ++ us) ≡ led ls ++ led us
unfolding led
led-append [] us = refl
led-append (l ∷ ls) us = ap (λ (k : List ℕ). LF ∷ (l ++ k)) (led-append ls us) ∙ ap (λ (k : List ℕ). LF ∷ k) (sym (append_assoc l (led ls) (led us)))

-- lines behind lines of which there is one
pub text_more : (ls us : List (List ℕ)) → 0 < length ls → join LF (ls ++ us) ≡ join LF ls ++ led us
text_more [] us h = absurd (omega arith)
text_more (l ∷ ls) us h =
    join-led l (ls ++ us) ∙ ap (λ (k : List ℕ). l ++ k) (led-append ls us) ∙ sym (append_assoc l (led ls) (led us)) ∙ ap (λ (k : List ℕ). k ++ led us) (sym (join-led l ls))

-- pieces joined are the text
pub join-split : (b : ℕ) (s : List ℕ) → join b (split b s) ≡ s
unfolding join split
join-split b [] = refl
join-split b (x ∷ s) = go (eqb x b) refl (split b s) (split-some b s) (join-split b s)
  where
    go : (a : Bool) → eqb x b ≡ a → (l : List (List ℕ)) → 0 < length l → join b l ≡ s → join b (cond a ([] ∷ l) (onto x l)) ≡ x ∷ s
    go a e [] h q = absurd (omega arith)
    go true e (l ∷ ls) h q = ap (λ (k : List ℕ). b ∷ k) q ∙ ap (λ (y : ℕ). y ∷ s) (sym (eqb-true x b e))
    go false e (l ∷ []) h q = ap (λ (k : List ℕ). x ∷ k) q
    go false e (l ∷ m ∷ ls) h q = ap (λ (k : List ℕ). x ∷ k) q

-- all lines, each led by an LF
pub led-pieces : (s : List ℕ) → led (pieces s) ≡ LF ∷ s
unfolding led
led-pieces s = go (pieces s) (split-some LF s) (join-split LF s)
  where
    go : (l : List (List ℕ)) → 0 < length l → join LF l ≡ s → led l ≡ LF ∷ s
    go [] h q = absurd (omega arith)
    go (l ∷ ls) h q = ap (λ (k : List ℕ). LF ∷ k) (sym (join-led l ls) ∙ q)

-- what follows the first line
pub led-rest : (s : List ℕ) → led (drop 1 (pieces s)) ≡ drop (first (is LF) s) s
unfolding led split first
led-rest [] = refl
led-rest (x ∷ s) = go (eqb x LF) refl (pieces s) (split-some LF s) (led-pieces s) (led-rest s)
  where
    go : (a : Bool) → eqb x LF ≡ a → (l : List (List ℕ)) → 0 < length l → led l ≡ LF ∷ s → led (drop 1 l) ≡ drop (first (is LF) s) s
        → led (drop 1 (cond a ([] ∷ l) (onto x l))) ≡ drop (cond a 0 (suc (first (is LF) s))) (x ∷ s)
    go a e [] h p q = absurd (omega arith)
    go true e (l ∷ ls) h p q = p ∙ ap (λ (y : ℕ). y ∷ s) (sym (eqb-true x LF e))
    go false e (l ∷ ls) h p q = q
