-- Laws of `specs/Links.antt`: what a line's links become, by its first link, which the search for `](` and then for `)` finds. Assumes nothing.
use Rattle.std.specs.Prelude.{Option, Some, None}
use Prim.Native.Nat.{ℕ, suc, ◌+◌, ◌-◌, ◌≤◌, ◌<◌}
use native.Mathlib.Nat.{le_of_suc-le-suc, not-suc-le-zero}
use native.Mathlib.Omega.{arith}
use mathlib.Core.Path.{◌≡◌, refl, sym, ap, ◌∙◌, subst}
use mathlib.Core.Bool.{Bool, true, false, cond}
use mathlib.Core.List.{List, [], ◌∷◌, ◌++◌, append-nil}
use lib.ListN.{length, take, drop, length-drop, length-append, take-append-drop}
use lib.Seq.{append_snoc, drop-drop}
use lib.Dec.{eqb, ltb}
use borrow.Author.Tests.{eqb-true, ltb-true, ltb-false}
use Rattle.std.specs.Bool.{then_some}
use Rattle.text.specs.Bytes.{part, is, first}
use Rattle.text.specs.Pattern.{bytes, starts_with, find, later}
use Rattle.text.proofs.BytesLaws.{rest, rest-length}
use Rattle.text.proofs.PatternLaws.{starts-long, find-within}
use Rattle.link.specs.Links.{relink, relink_open, relink_target, FoundLink}

relink_on : (f : List ℕ → List ℕ) (x : ℕ) (s : List ℕ) → starts_with (bytes "](") (x ∷ s) ≡ false → relink f (x ∷ s) ≡ x ∷ relink f s
unfolding relink
relink_on f x s e = rw e

-- a `)` starts no link, so the walk that has passed a target goes on from it
relink_close : (f : List ℕ → List ℕ) (x : ℕ) (s : List ℕ) → eqb x 0x29 ≡ true → relink f (x ∷ s) ≡ x ∷ relink f s
unfolding starts_with
relink_close f x s e = relink_on f x s (rw (eqb-true x 0x29 e))

-- a target that has begun with b, by the first `)`
target-closed : (f : List ℕ → List ℕ) (b s : List ℕ) → first (is 0x29) s < length s
    → relink_target f b s ≡ f (b ++ take (first (is 0x29) s) s) ++ relink f (drop (first (is 0x29) s) s)
unfolding relink_target first
target-closed f b [] h = absurd (not-suc-le-zero h)
target-closed f b (x ∷ s) h = go (eqb x 0x29) refl (target-closed f (b ++ (x ∷ [])) s) h
  where
    go : (t : Bool) → eqb x 0x29 ≡ t
        → (first (is 0x29) s < length s → relink_target f (b ++ (x ∷ [])) s ≡ f (b ++ (x ∷ []) ++ take (first (is 0x29) s) s) ++ relink f (drop (first (is 0x29) s) s))
        → cond t 0 (suc (first (is 0x29) s)) < suc (length s)
        → cond t (f b ++ (x ∷ relink f s)) (relink_target f (b ++ (x ∷ [])) s)
        ≡ f (b ++ take (cond t 0 (suc (first (is 0x29) s))) (x ∷ s)) ++ relink f (drop (cond t 0 (suc (first (is 0x29) s))) (x ∷ s))
    go true e ih k = rw (append-nil b, relink_close f x s e)
    go false e ih k = ih (le_of_suc-le-suc k) ∙ rw append_snoc

target_open : (f : List ℕ → List ℕ) (b s : List ℕ) → length s ≤ first (is 0x29) s → relink_target f b s ≡ b ++ s
unfolding relink_target first
target_open f b [] h = sym (append-nil b)
target_open f b (x ∷ s) h = go (eqb x 0x29) (target_open f (b ++ (x ∷ [])) s) h
  where
    go : (t : Bool) → (length s ≤ first (is 0x29) s → relink_target f (b ++ (x ∷ [])) s ≡ b ++ (x ∷ []) ++ s)
        → suc (length s) ≤ cond t 0 (suc (first (is 0x29) s))
        → cond t (f b ++ (x ∷ relink f s)) (relink_target f (b ++ (x ∷ [])) s) ≡ b ++ (x ∷ s)
    go true ih k = absurd (not-suc-le-zero k)
    go false ih k = ih (le_of_suc-le-suc k) ∙ append_snoc b x s

-- a line by the first `](`
relink-here : (f : List ℕ → List ℕ) (x : ℕ) (s : List ℕ) → starts_with (bytes "](") (x ∷ s) ≡ true
    → relink f (x ∷ s) ≡ take 2 (x ∷ s) ++ relink_target f [] (drop 2 (x ∷ s))
unfolding relink relink_open
relink-here f x [] e = absurd (omega (arith, starts-long (bytes "](") (x ∷ []) e))
relink-here f x (y ∷ s) e = rw e

abbrev Opened : (List ℕ → List ℕ) → List ℕ → Option ℕ → Type 0
Opened f s (Some i) = relink f s ≡ take (i + 2) s ++ relink_target f [] (drop (i + 2) s)
Opened f s None = relink f s ≡ s

opened : (f : List ℕ → List ℕ) (s : List ℕ) → Opened f s (find (bytes "](") s)
unfolding find relink starts_with
opened f [] = refl
opened f (x ∷ s) = go (starts_with (bytes "](") (x ∷ s)) (find (bytes "](") s) refl (opened f s)
  where
    go : (b : Bool) (r : Option ℕ) → starts_with (bytes "](") (x ∷ s) ≡ b → Opened f s r → Opened f (x ∷ s) (cond b (Some 0) (later 1 r))
    go true r e h = relink-here f x s e
    go false (Some i) e h =
        let k : 1 + i + 2 ≡ suc (i + 2) = omega arith in
        relink_on f x s e ∙ rw (k, h)
    go false None e h = relink_on f x s e ∙ rw h

-- a line from place n on: with no `](`; and with the first one i bytes further and the first `)` after that at place e
pub none_found : (l : List ℕ) (n : ℕ) → find (bytes "](") (part n (length l) l) ≡ None → (f : List ℕ → List ℕ) → relink f (drop n l) ≡ drop n l
none_found l n e f = subst (Opened f (drop n l)) (rw rest at e) (opened f (drop n l))

module _ (l : List ℕ) (n i : ℕ) (found : find (bytes "](") (part n (length l) l) ≡ Some i) where
  pub target-within : n ≤ length l → n + i + 2 ≤ length l
  target-within h = omega (arith, find-within (bytes "](") (part n (length l) l) i found, rest-length l n)

  target_at : drop (i + 2) (drop n l) ≡ drop (n + i + 2) l
  target_at =
      let k : n + (i + 2) ≡ n + i + 2 = omega arith in
      drop-drop (i + 2) n l ∙ rw k

  target-from : (f : List ℕ → List ℕ) → relink f (drop n l) ≡ take (i + 2) (drop n l) ++ relink_target f [] (drop (n + i + 2) l)
  target-from f = subst (Opened f (drop n l)) (rw rest at found) (opened f (drop n l)) ∙ rw target_at

  module _ (e : ℕ) (stop : e ≡ n + i + 2 + first (is 0x29) (drop (n + i + 2) l)) where
    link_found : e < length l → (f : List ℕ → List ℕ)
        → relink f (drop n l) ≡ part n (n + i + 2) l ++ (f (part (n + i + 2) e l) ++ relink f (drop e l))
    link_found h f =
        let a : ℕ = n + i + 2 in
        let c : ℕ = first (is 0x29) (drop a l) in
        let j : a - n ≡ i + 2 = omega arith in
        let k : e - a ≡ c = omega arith in
        target-from f ∙ rw (target-closed f [] (drop a l) (omega (arith, length-drop a l)), drop-drop c a l, j, k, ← stop)

    none-closed : length l ≤ e → (f : List ℕ → List ℕ) → relink f (drop n l) ≡ drop n l
    none-closed h f =
        let a : ℕ = n + i + 2 in
        target-from f ∙ rw (target_open f [] (drop a l) (omega (arith, length-drop a l)), ← target_at) (take-append-drop (i + 2) (drop n l))

    -- the first link from place n on, or none where no `)` follows
    pub link_or_none : n ≤ length l → FoundLink l n (then_some (ltb e (length l)) (record { start = n + i + 2; end = e }))
    link_or_none h = go (ltb e (length l)) refl
      where
        go : (b : Bool) → ltb e (length l) ≡ b → FoundLink l n (then_some b (record { start = n + i + 2; end = e }))
        go true q = let k : e < length l = ltb-true e (length l) q in ((omega arith, (omega arith, k)), link_found k)
        go false q = none-closed (ltb-false e (length l) q)

-- a link takes bytes, since it can become any text
pub link_long : (l : List ℕ) (i a e : ℕ) → FoundLink l i (Some (record { start = a; end = e })) → i < e
link_long l i a e h =
    let f : List ℕ → List ℕ = λ t. 0 ∷ [] in
    let d : e ≡ i → ⊥ =
    λ q. omega (arith, ap length (h.1 f), length-append (part i a l) (0 ∷ relink f (drop e l)), ap (λ (k : ℕ). length (relink f (drop k l))) q) in
    omega (arith, h.0)
