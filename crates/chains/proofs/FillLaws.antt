-- Laws of `specs/Fill.antt` for the code: what a fill comes to with the files taken in before, and the judged walk at one region, test by test. Assumes nothing.
use Prim.Native.Nat.{ℕ, zero, suc}
use native.Mathlib.Omega.{arith}
use mathlib.Core.Path.{◌≡◌, refl}
use mathlib.Core.Bool.{Bool, true, cond}
use mathlib.Core.List.{List, [], ◌∷◌, ◌++◌}
use lib.Dec.{leb, ltb}
use lib.ListN.{length, set}
use Rattle.answer.specs.declared.Place.{Place}
use Rattle.answer.specs.declared.Refusal.{Refusal}
use Rattle.answer.specs.declared.Refusal.TheVariants.{Allowance, TextLimit}
use Rattle.scan.specs.Scan.{scan, regions_of}
use Rattle.index.specs.Index.{File}
use Rattle.walk.specs.Parts.{Part, good, flawed}
use Rattle.walk.specs.Steps.{Steps, go, part, Judged, given, refused, judge}
use Rattle.walk.proofs.StepsLaws.{judge_then, judge-go}
use Rattle.embedding.specs.Embed.{embed}
use Rattle.regions.specs.Regions.{HostRegion, Regions, behind, region, Scanned, problem, noRegion as unmarked, regions, problems_of, scanned_by, host_regions, scanned}
use Rattle.chains.specs.Chains.{Chain, wrong, plain, host, Rest, last, shut, into, file_at, Next, stop, on, next, branch, through, found, grow, free, chain, headed, text_of}
use Rattle.walk.specs.Outcome.{noRegion, outcome}
use Rattle.chains.specs.Fill.{walk, walk_rest, filled}

-- a judged walk has a text or a refusal
pub judged-some : (j : Judged (List ℕ)) → outcome j ≡ noRegion → ⊥
judged-some (given t n) e = let z : ◌≡◌ {A = ℕ} 0 1 = cc in omega arith
judged-some (refused x) e = let z : ◌≡◌ {A = ℕ} 0 1 = cc in omega arith

-- a fill that finds a region or a problem is its walk, judged
pub filled-judged : (B L n : ℕ) (c : Chain) → (filled B L n c ≡ noRegion → ⊥) → filled B L n c ≡ outcome (judge B L n (walk c))
filled-judged B L n (wrong x xs r) h = refl
filled-judged B L n (plain s) h = absurd (h refl)
filled-judged B L n (host r) h = refl

-- the file in which a scan finds nothing is kept as it stands
by_plain : (xs : List Refusal) (s t : List ℕ) (rs : Regions) → scanned_by xs s rs ≡ unmarked t → t ≡ s
by_plain (x ∷ xs) s t rs e = let z : ◌≡◌ {A = ℕ} 0 1 = cc in absurd (omega arith)
by_plain [] s t (behind ls) e = cc
by_plain [] s t (region g rs) e = let z : ◌≡◌ {A = ℕ} 0 1 = cc in absurd (omega arith)

scanned-plain : (h : File) (t : List ℕ) → scanned h ≡ unmarked t → t ≡ h.text
unfolding scanned
scanned-plain h t e = by_plain (problems_of h.number (scan h.text)) h.text t (host_regions h (regions_of (scan h.text))) e

module _ (B L n : ℕ) (S : List File) (top : List ℕ) (m : List Bool) where
  found_plain : (k : ℕ) (more : ℕ → Chain) (s : List ℕ) (y : Scanned) → ((t : List ℕ) → y ≡ unmarked t → t ≡ s)
      → filled B L n (found S top m k more y) ≡ noRegion → judge B L n (walk (found S top m k more y)) ≡ given s n
  unfolding walk judge
  found_plain k more s (problem x xs rs) h e = absurd (judged-some (refused x) e)
  found_plain k more s (unmarked t) h e = rw (h t refl)
  found_plain k more s (regions rs) h e = absurd (judged-some (judge B L n (walk (host (through S top m k more rs)))) e)

  grown-plain : (f : ℕ) (h : File) → filled B L n (grow f S top m h) ≡ noRegion → judge B L n (walk (grow f S top m h)) ≡ given h.text n
  unfolding grow
  grown-plain zero h e = found_plain h.number (λ d. plain []) h.text (scanned h) (scanned-plain h) e
  grown-plain (suc f) h e = found_plain h.number (λ d. grow f S top (set m d true) (file_at S d)) h.text (scanned h) (scanned-plain h) e

  -- no region: the walk makes the text as it stands, and the count stays
  pub filled-plain : (h : File) → filled B L n (chain S top m h) ≡ noRegion → judge B L n (walk (chain S top m h)) ≡ given h.text n
  filled-plain h e = grown-plain (free m) h e

-- what is made is gone on with, or the first fault
abbrev pub or_fault : {A C : Type 0} → Part A → (A → Judged C) → Judged C
or_fault (good a) k = k a
or_fault (flawed x xs) k = refused x

judge-part : {A C : Type 0} (B L n : ℕ) (y : Part A) (g : A → Steps C) → judge B L n (go (part y) g) ≡ or_fault y (λ a. judge B L n (g a))
unfolding judge go
judge-part B L n (good a) g = refl
judge-part B L n (flawed x xs) g = refl

-- 17, else k
abbrev pub fitting : ℕ → List (List ℕ) → HostRegion → Judged (List ℕ) → Judged (List ℕ)
fitting L ls g k = cond (leb (length (text_of ls)) L) k (refused (TextLimit g.opener))

-- behind the named file: 16, the text after the region with 17, the rest; v is what was embedded, with n files taken in
abbrev pub judge_after : ℕ → ℕ → HostRegion → ℕ → Rest → List (List ℕ) → List ℕ → ℕ → Judged (List ℕ)
judge_after B L g d r ls v n = or_fault (embed g d v) (λ es. fitting L (ls ++ es) g (judge B L n (walk_rest r (ls ++ es))))

module _ (B L n : ℕ) (g : HostRegion) (r : Rest) (ls : List (List ℕ)) where
  -- a region that leads nowhere: 17, 12, then 13 or 14
  pub judge_shut : (x : Refusal) → judge B L n (walk_rest (shut g x r) ls) ≡ fitting L (ls ++ g.before) g (or_fault (headed g) (λ u. refused x))
  unfolding walk_rest judge
  judge_shut x = rw (judge-part B L n (headed g) (λ u. Steps.failed x))

  -- a region that leads on: 17, 12, 15, the named file with one more taken in, 16, 17, the rest
  pub judge_into : (d : ℕ) (c : Chain)
      → judge B L n (walk_rest (into g d c r) ls)
      ≡ fitting L (ls ++ g.before) g (or_fault (headed g) (λ u.
      cond (ltb n B) (judge_then (judge B L (suc n) (walk c)) (judge_after B L g d r (ls ++ g.before))) (refused (Allowance g.opener))))
  unfolding walk_rest judge
  judge_into d c = simp (judge-part, judge-go)

-- where a region leads: 13 or 14; or 15, the named file with one more taken in, and what comes behind it
abbrev pub judge_next : ℕ → ℕ → ℕ → List File → HostRegion → (ℕ → Chain) → Rest → List (List ℕ) → Next → Judged (List ℕ)
judge_next B L n S g more r ls (stop x) = refused x
judge_next B L n S g more r ls (on d) =
    cond (ltb n B) (judge_then (judge B L (suc n) (walk (more d))) (judge_after B L g (file_at S d).number r ls)) (refused (Allowance g.opener))

-- one region of a host: 17, 12, 13 or 14, 15, the named file, 16, 17, the rest
pub judge_region : (B L n : ℕ) (S : List File) (top : List ℕ) (m : List Bool) (k : ℕ) (more : ℕ → Chain) (g : HostRegion) (rs : Regions) (ls : List (List ℕ))
    → judge B L n (walk_rest (through S top m k more (region g rs)) ls)
    ≡ fitting L (ls ++ g.before) g (or_fault (headed g) (λ u. judge_next B L n S g more (through S top m k more rs) (ls ++ g.before) (next S top m g)))
unfolding through
judge_region B L n S top m k more g rs ls = go (next S top m g)
  where
    r : Rest
    r = through S top m k more rs

    go : (y : Next) → judge B L n (walk_rest (branch S g y more r) ls) ≡ fitting L (ls ++ g.before) g (or_fault (headed g) (λ u. judge_next B L n S g more r (ls ++ g.before) y))
    go (stop x) = judge_shut B L n g r ls x
    go (on d) = judge_into B L n g r ls (file_at S d).number (more d)

-- the last append: 17 at line 0
pub judge-last : (B L n : ℕ) (us ls : List (List ℕ)) (p : Place)
    → judge B L n (walk_rest (last us p) ls) ≡ cond (leb (length (text_of (ls ++ us))) L) (given (text_of (ls ++ us)) n) (refused (TextLimit p))
unfolding walk_rest judge
judge-last B L n us ls p = refl
