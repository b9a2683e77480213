-- A name among the files of a set; and how far a chain may go on never bounds it: the count of files not on the chain does not run out. Assumes nothing.
use Rattle.std.specs.Prelude.{Option, Some, None}
use Prim.Native.Nat.{ℕ, zero, suc, ◌+◌, ◌≤◌, ◌<◌}
use native.Mathlib.Nat.{le_of_suc-le-suc, not-suc-le-zero}
use native.Mathlib.Omega.{arith}
use mathlib.Core.Path.{◌≡◌, refl, sym, ◌∙◌, ap}
use mathlib.Core.Bool.{Bool, true, false, cond}
use mathlib.Core.List.{List, [], ◌∷◌}
use lib.ListN.{length, get_or, set, length-set}
use Rattle.text.specs.Pattern.{equals, later}
use Rattle.text.proofs.PatternLaws.{equals-same}
use Rattle.answer.specs.declared.Refusal.TheVariants.{OnChain}
use Rattle.index.specs.Index.{File, first_named, find_file}
use Rattle.regions.specs.Regions.{HostRegion, Regions, behind, region, Scanned, problem, noRegion, regions, scanned}
use Rattle.chains.specs.Chains.{Chain, wrong, host, file_at, Next, stop, on, next, next_found, branch, through, found, grow, free, chain}

clash : true ≡ false → ⊥
clash e = let z : ◌≡◌ {A = ℕ} 0 1 = cc in omega arith

pub free_set : (m : List Bool) (d : ℕ) → d < length m → get_or m d false ≡ false → free m ≡ suc (free (set m d true))
unfolding free
free_set [] d l h = absurd (not-suc-le-zero l)
free_set (true ∷ m) zero l h = absurd (clash h)
free_set (false ∷ m) zero l h = refl
free_set (true ∷ m) (suc d) l h = free_set m d (le_of_suc-le-suc l) h
free_set (false ∷ m) (suc d) l h = ap suc (free_set m d (le_of_suc-le-suc l) h)

-- a name is found within the set
pub find-within : (name : List ℕ) (S : List File) (d : ℕ) → find_file name S ≡ Some d → d < length S
unfolding first_named
find-within name [] d e = let z : ◌≡◌ {A = ℕ} 0 1 = cc in absurd (omega arith)
find-within name (f ∷ S) d e = go (equals name f.name) (find_file name S) refl e (λ k q. find-within name S k q)
  where
    go : (b : Bool) (o : Option ℕ) → find_file name S ≡ o → cond b (Some 0) (later 1 o) ≡ Some d → ((k : ℕ) → find_file name S ≡ Some k → k < length S) → d < suc (length S)
    go true o q h ih = let z : 0 ≡ d = cc in omega arith
    go false (Some k) q h ih = let z : 1 + k ≡ d = cc in omega (arith, ih k q)
    go false None q h ih = let z : ◌≡◌ {A = ℕ} 0 1 = cc in absurd (omega arith)

-- the file that is found has the name
pub find-name : (name : List ℕ) (S : List File) (d : ℕ) → find_file name S ≡ Some d → (file_at S d).name ≡ name
unfolding first_named
find-name name [] d e = let z : ◌≡◌ {A = ℕ} 0 1 = cc in absurd (omega arith)
find-name name (f ∷ S) d e = go (equals name f.name) refl (find_file name S) refl e (find-name name S)
  where
    go : (b : Bool) → equals name f.name ≡ b → (o : Option ℕ) → find_file name S ≡ o → cond b (Some 0) (later 1 o) ≡ Some d → ((k : ℕ) → find_file name S ≡ Some k → (file_at S k).name ≡ name)
        → (file_at (f ∷ S) d).name ≡ name
    go true q o p h ih = let z : 0 ≡ d = cc in rw (← z) (sym (equals-same name f.name q))
    go false q (Some k) p h ih = let z : 1 + k ≡ d = cc in let y : suc k ≡ d = omega arith in rw (← y) (ih k p)
    go false q None p h ih = let z : ◌≡◌ {A = ℕ} 0 1 = cc in absurd (omega arith)

-- a region leads on only to a file of S that is not on the chain
pub next-free : (S : List File) (top : List ℕ) (m : List Bool) (g : HostRegion) (d : ℕ) → next S top m g ≡ on d → (d < length S) × (get_or m d false ≡ false)
unfolding next
next-free S top m g d e = at_name (equals top g.name) (find_file g.name S) refl e
  where
    at_mark : (k : ℕ) (b : Bool) → get_or m k false ≡ b → find_file g.name S ≡ Some k → cond b (stop (OnChain g.opener)) (on k) ≡ on d → (d < length S) × (get_or m d false ≡ false)
    at_mark k true p q h = let z : ◌≡◌ {A = ℕ} 0 1 = cc in absurd (omega arith)
    at_mark k false p q h = let e : k ≡ d = cc in rw (← e) (find-within g.name S k q, p)

    at_name : (b : Bool) (o : Option ℕ) → find_file g.name S ≡ o → cond b (stop (OnChain g.opener)) (next_found m g.opener o) ≡ on d → (d < length S) × (get_or m d false ≡ false)
    at_name true o q h = let z : ◌≡◌ {A = ℕ} 0 1 = cc in absurd (omega arith)
    at_name false (Some k) q h = at_mark k (get_or m k false) refl q h
    at_name false None q h = let z : ◌≡◌ {A = ℕ} 0 1 = cc in absurd (omega arith)

module _ (S : List File) (top : List ℕ) (m : List Bool) (k : ℕ) (a b : ℕ → Chain) (h : (d : ℕ) → d < length S → get_or m d false ≡ false → a d ≡ b d) where
  through_same : (r : Regions) → through S top m k a r ≡ through S top m k b r
  unfolding through
  through_same (behind t) = refl
  through_same (region g r) = at_next (next S top m g) refl (through_same r)
    where
      at_next : (x : Next) → next S top m g ≡ x → through S top m k a r ≡ through S top m k b r
          → branch S g x a (through S top m k a r) ≡ branch S g x b (through S top m k b r)
      at_next (stop n) q e = rw e
      at_next (on d) q e = let f = next-free S top m g d q in rw (e, h d f.0 f.1)

  found-same : (s : Scanned) → found S top m k a s ≡ found S top m k b s
  found-same (problem x xs r) = ap (wrong x xs) (through_same r)
  found-same (noRegion t) = refl
  found-same (regions r) = ap host (through_same r)

-- every bound from the files not on the chain on gives the same
grow-same : (f g : ℕ) (S : List File) (top : List ℕ) (m : List Bool) (h : File) → length S ≤ length m → free m ≤ f → free m ≤ g → grow f S top m h ≡ grow g S top m h
unfolding grow
grow-same zero zero S top m h e p q = refl
grow-same zero (suc g) S top m h e p q = found-same S top m h.number _ _ (λ d l k. absurd (omega (arith, free_set m d (omega arith) k))) (scanned h)
grow-same (suc f) zero S top m h e p q = found-same S top m h.number _ _ (λ d l k. absurd (omega (arith, free_set m d (omega arith) k))) (scanned h)
grow-same (suc f) (suc g) S top m h e p q =
    found-same S top m h.number _ _ (λ d l k. let s = free_set m d (omega arith) k in
    grow-same f g S top (set m d true) (file_at S d) (rw (length-set m d true) e) (omega arith) (omega arith)) (scanned h)

-- a chain goes on through each region of its last file, to a file not yet on it: no bound is left
pub chain_on : (S : List File) (top : List ℕ) (m : List Bool) (h : File) → length S ≤ length m
    → chain S top m h ≡ found S top m h.number (λ d. chain S top (set m d true) (file_at S d)) (scanned h)
unfolding grow
chain_on S top m h e =
    grow-same (free m) (suc (free m)) S top m h e (omega arith) (omega arith)
    ∙ found-same S top m h.number _ _ (λ d l k. let s = free_set m d (omega arith) k in
    grow-same (free m) (free (set m d true)) S top (set m d true) (file_at S d) (rw (length-set m d true) e) (omega arith) (omega arith)) (scanned h)
