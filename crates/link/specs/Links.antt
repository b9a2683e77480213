-- The links of a line, left to right, as the Rust's `rewrite_links` and `anchor_self_links` find them: a target stands between `](` and the next `)`.
use Rattle.std.specs.Prelude.{ℕ, ◌≤◌, ◌<◌, cond, List, [], ◌∷◌, ◌++◌, ◌≡◌, length, drop, eqb, Option, Some, None}
use Rattle.text.specs.declared.part.Part.{Part}
use Rattle.text.specs.Bytes.{part}
use Rattle.text.specs.Pattern.{bytes, starts_with}

-- a line once each target t is f t: outside a target; at the `(` of a link; and in a target that has begun with b, which stays as it is where no `)` follows
unfoldable mutual
  pub relink : (List ℕ → List ℕ) → List ℕ → List ℕ
  relink f [] = []
  relink f (x ∷ s) = x ∷ cond (starts_with (bytes "](") (x ∷ s)) (relink_open f s) (relink f s)

  pub relink_open : (List ℕ → List ℕ) → List ℕ → List ℕ
  relink_open f [] = []
  relink_open f (x ∷ s) = x ∷ relink_target f [] s

  pub relink_target : (List ℕ → List ℕ) → List ℕ → List ℕ → List ℕ
  relink_target f b [] = b
  relink_target f b (x ∷ s) = cond (eqb x 0x29) (f b ++ (x ∷ relink f s)) (relink_target f (b ++ (x ∷ [])) s)

-- For the cursor: the next link of a line from a place on, by its target's place; what stands before the target stays, and the rest goes on from the `)`
abbrev pub FoundLink : List ℕ → ℕ → Option Part → Type 0
FoundLink l i (Some p) =
    ((i ≤ p.start) × ((p.start ≤ p.end) × (p.end < length l))) × ((f : List ℕ → List ℕ) → relink f (drop i l) ≡ part i p.start l ++ (f (part p.start p.end l) ++ relink f (drop p.end l)))
FoundLink l i None = (f : List ℕ → List ℕ) → relink f (drop i l) ≡ drop i l
