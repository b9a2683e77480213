-- The numbers of faults: what lies on a chain is 9 to 14 or 16, and no other refusal. Assumes nothing.
use Rattle.std.specs.Prelude.{Option, Some, None}
use Prim.Native.Nat.{ℕ, zero, suc, ◌+◌, ◌-◌}
use native.Mathlib.Omega.{arith}
use mathlib.Core.Path.{◌≡◌, refl}
use mathlib.Core.Bool.{Bool, true, false, cond}
use mathlib.Core.List.{List, [], ◌∷◌, ◌++◌}
use lib.ListN.{length, get_or, set}
use lib.Dec.{ltb}
use lib.IntN.{ℤ, pos, ◌+ℤ◌}
use Rattle.answer.specs.Answer.{place}
use Rattle.answer.specs.declared.Place.{Place}
use Rattle.answer.specs.declared.Refusal.{Refusal}
use Rattle.answer.specs.declared.Refusal.TheVariants.{OnChain, HeadingLevel}
use Rattle.text.specs.Pattern.{equals}
use Rattle.marker.specs.declared.problem.Problem.{Problem}
use Rattle.marker.specs.declared.problem.Problem.TheVariants as problems
use Rattle.scan.specs.Scan.{scan, regions_of}
use Rattle.scan.specs.declared.event.Event.{Event}
use Rattle.scan.specs.declared.event.Event.TheVariants.{OfSpan, OfRegion, OfProblem}
use Rattle.scan.specs.declared.event.Region.{Region}
use Rattle.heading.specs.Level.{moved_to}
use Rattle.heading.specs.declared.walk.LineKind.{LineKind}
use Rattle.heading.specs.declared.walk.LineKind.TheVariants.{Quoted, Heading, Other}
use Rattle.index.specs.Index.{File, find_file}
use Rattle.walk.specs.Parts.{part_faults, unless, if_made}
use Rattle.walk.proofs.PartLaws.{made_by}
use Rattle.walk.proofs.FaultLaws.{is_fault, all_faults, all_append}
use Rattle.regions.specs.Regions.{HostRegion, Regions, refusal_of, problems_of, peer_faults, above, regions_from, host_regions, scanned_by, scanned, behind, region}
use Rattle.shift.specs.Shift.{past, past_line, past_from}
use Rattle.embedding.specs.Embed.{embed_told, embed}
use Rattle.chains.specs.Chains.{Chain, plain, Rest, Next, stop, on, file_at, next_found, next, branch, through, found, grow, free, chain, no_marks, made, faults_rest, faults, region_of, onward, leads, when, chain_at}

-- 9 to 11
refusal_fault : (k : Problem) (p : Place) → all_faults (refusal_of k p) ≡ true
unfolding all_faults
refusal_fault problems.NestedRegion p = refl
refusal_fault k p = refl

problems_fault : (f : ℕ) (es : List Event) → all_faults (problems_of f es) ≡ true
unfolding problems_of all_faults
problems_fault f [] = refl
problems_fault f (OfSpan x ∷ es) = problems_fault f es
problems_fault f (OfRegion g ∷ es) = problems_fault f es
problems_fault f (OfProblem n k ∷ es) = all_append (refusal_of k (place f n)) (problems_of f es) (refusal_fault k (place f n)) (problems_fault f es)

-- 12
peer_fault : (peer : Bool) (b : Option ℕ) (p : Place) → all_faults (peer_faults peer b p) ≡ true
unfolding all_faults
peer_fault peer (Some n) p = refl
peer_fault true None p = refl
peer_fault false None p = refl

-- 13 and 14
abbrev NextFault : Next → Type 0
NextFault (stop x) = is_fault x ≡ true
NextFault (on d) = Unit {0}

next_fault : (S : List File) (top : List ℕ) (m : List Bool) (g : HostRegion) → NextFault (next S top m g)
unfolding next
next_fault S top m g = go (equals top g.name) (find_file g.name S)
  where
    named : (d : ℕ) (b : Bool) → NextFault (cond b (stop (OnChain g.opener)) (on d))
    named d true = refl
    named d false = tt

    go : (b : Bool) (o : Option ℕ) → NextFault (cond b (stop (OnChain g.opener)) (next_found m g.opener o))
    go true o = refl
    go false (Some d) = named d (get_or m d false)
    go false None = refl

-- 16, as any refusal that a line's number makes
module _ (f : ℕ → Refusal) (h : (n : ℕ) → is_fault (f n) ≡ true) (z : ℤ) where
  line_fault : (n : ℕ) (k : LineKind) → all_faults (past_line z k (f n)) ≡ true
  unfolding all_faults
  line_fault n Quoted = refl
  line_fault n (Heading l a e) = go (moved_to (pos l +ℤ z))
    where
      go : (y : Option ℕ) → all_faults (past y (f n)) ≡ true
      go (Some m) = refl
      go None = rw (h n)
  line_fault n Other = refl

  pub past_fault : (n : ℕ) (ks : List LineKind) → all_faults (past_from f n z ks) ≡ true
  unfolding past_from all_faults
  past_fault n [] = refl
  past_fault n (k ∷ ks) = all_append (past_line z k (f n)) (past_from f (n + 1) z ks) (line_fault n k) (past_fault (n + 1) ks)

pub unless_fault : {A : Type 0} (xs : List Refusal) (a : A) → all_faults xs ≡ true → all_faults (part_faults (unless xs a)) ≡ true
unfolding all_faults
unless_fault [] a h = refl
unless_fault (x ∷ xs) a h = h

embed_fault : (g : HostRegion) (d : ℕ) (v : List ℕ) → all_faults (part_faults (embed g d v)) ≡ true
unfolding embed embed_told
embed_fault g d v = unless_fault _ _ (past_fault (λ n. HeadingLevel (place d n)) (λ n. refl) _ 1 _)

made_fault : (o : Option (List ℕ)) (g : HostRegion) (d : ℕ) → all_faults (if_made o (λ v. part_faults (embed g d v))) ≡ true
unfolding all_faults
made_fault None g d = refl
made_fault (Some v) g d = embed_fault g d v

-- at each region of a host
module _ (S : List File) (top : List ℕ) (m : List Bool) (k : ℕ) (more : ℕ → Chain) where
  region-fault : (g : HostRegion) (y : Next) (r : Rest) → all_faults g.faults ≡ true → NextFault y → all_faults (faults_rest r) ≡ true → all_faults (faults_rest (branch S g y more r)) ≡ true
  unfolding faults_rest all_faults
  region-fault g (stop x) r p q h = all_append g.faults (x ∷ faults_rest r) p (rw (q, h))
  region-fault g (on d) r p q h =
      all_append g.faults (if_made (made (more d)) (λ v. part_faults (embed g (file_at S d).number v)) ++ faults_rest r) p
      (all_append (if_made (made (more d)) (λ v. part_faults (embed g (file_at S d).number v))) (faults_rest r) (made_fault (made (more d)) g (file_at S d).number) h)

  rest-fault : (h : File) (ls : List (List ℕ)) (own : List LineKind) (n : ℕ) (gs : List Region) → all_faults (faults_rest (through S top m k more (regions_from h ls own n gs))) ≡ true
  unfolding regions_from through faults_rest all_faults
  rest-fault h ls own n [] = refl
  rest-fault h ls own n (g ∷ gs) =
      region-fault _ (next S top m _) (through S top m k more (regions_from h ls own (g.closer.line - 1) gs))
      (peer_fault g.peer (above g.opener.line own) (place h.number g.opener.line)) (next_fault S top m _) (rest-fault h ls own (g.closer.line - 1) gs)

  found-fault : (h : File) → all_faults (faults (found S top m k more (scanned h))) ≡ true
  unfolding scanned all_faults
  found-fault h = go (problems_of h.number (scan h.text)) (host_regions h (regions_of (scan h.text))) (problems_fault h.number (scan h.text)) (rest-fault h _ _ 0 (regions_of (scan h.text)))
    where
      go : (xs : List Refusal) (rs : Regions) → all_faults xs ≡ true → all_faults (faults_rest (through S top m k more rs)) ≡ true
          → all_faults (faults (found S top m k more (scanned_by xs h.text rs))) ≡ true
      go (x ∷ xs) rs p q = all_append (x ∷ xs) (faults_rest (through S top m k more rs)) p q
      go [] (behind ls) p q = refl
      go [] (region g rs) p q = q

-- on every chain
pub chain_fault : (f : ℕ) (S : List File) (top : List ℕ) (m : List Bool) (h : File) → all_faults (faults (grow f S top m h)) ≡ true
unfolding grow
chain_fault zero S top m h = found-fault S top m h.number (λ d. plain []) h
chain_fault (suc f) S top m h = found-fault S top m h.number (λ d. grow f S top (set m d true) (file_at S d)) h

-- on every chain by list line and regions
leads_fault : (S : List File) (top : List ℕ) (m : List Bool) (h : File) (p : List ℕ) (c : Chain) → leads S top m h p ≡ Some c → all_faults (faults c) ≡ true
unfolding leads
leads_fault S top m h [] c e = let q : chain S top m h ≡ c = cc in rw (← q) (chain_fault (free m) S top m h)
leads_fault S top m h (i ∷ p) c e = made_by (region_of (scanned h) i) _ c e (λ g a b. go (next S top m g) b (λ d. leads_fault S top (set m d true) (file_at S d) p c))
  where
    go : (y : Next) → onward y (λ d. leads S top (set m d true) (file_at S d) p) ≡ Some c
        → ((d : ℕ) → leads S top (set m d true) (file_at S d) p ≡ Some c → all_faults (faults c) ≡ true) → all_faults (faults c) ≡ true
    go (stop x) q ih = let z : ◌≡◌ {A = ℕ} 0 1 = cc in absurd (omega arith)
    go (on d) q ih = ih d q

pub chain-at_fault : (S : List File) (M p : List ℕ) (c : Chain) → chain_at S M p ≡ Some c → all_faults (faults c) ≡ true
chain-at_fault S M [] c e = let z : ◌≡◌ {A = ℕ} 0 1 = cc in absurd (omega arith)
chain-at_fault S M (l ∷ p) c e = go (ltb l (length M)) e
  where
    go : (b : Bool) → when b (leads S (file_at S (get_or M l 0)).name no_marks (file_at S (get_or M l 0)) p) ≡ Some c → all_faults (faults c) ≡ true
    go true q = leads_fault S (file_at S (get_or M l 0)).name no_marks (file_at S (get_or M l 0)) p c q
    go false q = let z : ◌≡◌ {A = ℕ} 0 1 = cc in absurd (omega arith)
