-- A CR at the end of a line changes neither our heading nor our fence. Assumes nothing.
use Prim.Native.Nat.{ℕ, suc}
use mathlib.Core.Path.{◌≡◌, refl}
use mathlib.Core.Bool.{Bool, true, false, cond, not}
use mathlib.Core.List.{List, [], ◌∷◌, ◌++◌}
use borrow.Author.Tests.{eqb-true}
use lib.ListN.{drop}
use lib.Seq.{take-append-le, drop-append-le}
use lib.Dec.{eqb}
use Rattle.text.specs.Bytes.{is, any, first, after_last}
use Rattle.text.specs.Pattern.{bytes, starts_with}
use Rattle.text.specs.Space.{is_space, is_other, lead, kept, trim, trim_start, trim_end}
use Rattle.text.proofs.BytesLaws.{or_left, or_right, first_le, after_le}
use Rattle.heading.specs.Walk.{hashes}
use Rattle.commonmark.specs.Strip.{ended}
use Rattle.commonmark.specs.Fenced.{Mark, backtick, tilde}
use Rattle.commonmark.specs.Fences.{three_of}

-- a line is its `ended`, or that and a CR
pub by_ended : (P : List ℕ → List ℕ → Type 0) → ((l : List ℕ) → P l l) → ((l : List ℕ) → P (l ++ (0x0D ∷ [])) l) → (l : List ℕ) → P l (ended l)
unfolding ended
by_ended P same cut [] = same []
by_ended P same cut (x ∷ []) = go (eqb x 0x0D) refl
  where
    go : (b : Bool) → eqb x 0x0D ≡ b → P (x ∷ []) (cond b [] (x ∷ []))
    go true e = rw (eqb-true x 0x0D e) (cut [])
    go false e = same (x ∷ [])
by_ended P same cut (x ∷ y ∷ s) = by_ended (λ l m. P (x ∷ l) (x ∷ m)) (λ l. same (x ∷ l)) (λ l. cut (x ∷ l)) (y ∷ s)

first_cr : (f : ℕ → Bool) (l : List ℕ) → f 0x0D ≡ true → first f (l ++ (0x0D ∷ [])) ≡ first f l
unfolding first
first_cr f [] h = rw h
first_cr f (x ∷ l) h = rw (first_cr f l h)

pub hashes_cr : (l : List ℕ) → hashes (l ++ (0x0D ∷ [])) ≡ hashes l
unfolding hashes
hashes_cr l = first_cr (λ x. not (is 0x23 x)) l refl

pub behind_cr : (l : List ℕ) → drop (hashes l) (l ++ (0x0D ∷ [])) ≡ drop (hashes l) l ++ (0x0D ∷ [])
unfolding hashes
behind_cr l = let h = first_le (λ x. not (is 0x23 x)) l in rw drop-append-le

pub starts_cr : (p l : List ℕ) → any (λ b. eqb 0x0D b) p ≡ false → starts_with p (l ++ (0x0D ∷ [])) ≡ starts_with p l
unfolding starts_with any
starts_cr [] l h = refl
starts_cr (b ∷ p) [] h = rw (or_left (eqb 0x0D b) _ h)
starts_cr (b ∷ p) (x ∷ l) h = rw (starts_cr p l (or_right (eqb 0x0D b) _ h))

after_cr : (l : List ℕ) → after_last is_other (l ++ (0x0D ∷ [])) ≡ after_last is_other l
unfolding after_last is_space
after_cr [] = refl
after_cr (x ∷ l) = rw (after_cr l)

end_cr : (l : List ℕ) → trim_end (l ++ (0x0D ∷ [])) ≡ trim_end l
unfolding trim_end kept
end_cr l = let h = after_le is_other l in rw (after_cr l, take-append-le)

-- what is trimmed at the start keeps the CR, or is empty with it
start_cr : (P : List ℕ → List ℕ → Type 0) → P [] [] → ((l : List ℕ) → P (l ++ (0x0D ∷ [])) l) → (l : List ℕ) → P (trim_start (l ++ (0x0D ∷ []))) (trim_start l)
unfolding trim_start lead first is_space
start_cr P none cut [] = none
start_cr P none cut (x ∷ l) = go (is_other x) (start_cr P none cut l)
  where
    go : (b : Bool) → P (trim_start (l ++ (0x0D ∷ []))) (trim_start l)
        → P (drop (cond b 0 (suc (lead (l ++ (0x0D ∷ []))))) (x ∷ (l ++ (0x0D ∷ [])))) (drop (cond b 0 (suc (lead l))) (x ∷ l))
    go true ih = cut (x ∷ l)
    go false ih = ih

pub trim_cr : (l : List ℕ) → trim (l ++ (0x0D ∷ [])) ≡ trim l
unfolding trim
trim_cr = start_cr (λ l m. trim_end l ≡ trim_end m) refl end_cr

pub three_cr : (m : Mark) (l : List ℕ) → three_of m (l ++ (0x0D ∷ [])) ≡ three_of m l
unfolding any
three_cr backtick = start_cr (λ l m. starts_with (bytes "```") l ≡ starts_with (bytes "```") m) refl (λ l. starts_cr (bytes "```") l refl)
three_cr tilde = start_cr (λ l m. starts_with (bytes "~~~") l ≡ starts_with (bytes "~~~") m) refl (λ l. starts_cr (bytes "~~~") l refl)
