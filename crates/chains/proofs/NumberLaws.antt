-- What a chain makes does not depend on the number of its first file, which only places have: a member of a book makes the text that the same file makes as a host
-- handed in. Assumes nothing.
use Rattle.std.specs.Prelude.{Option, Some, None}
use Prim.Native.Nat.{ℕ, zero, suc, ◌-◌}
use mathlib.Core.Path.{◌≡◌, refl}
use mathlib.Core.Bool.{Bool, true, false, cond}
use mathlib.Core.List.{List, [], ◌∷◌, ◌++◌}
use lib.ListN.{get_or, set, take, drop}
use Rattle.answer.specs.Answer.{place}
use Rattle.answer.specs.declared.Place.{Place}
use Rattle.answer.specs.declared.Refusal.{Refusal}
use Rattle.answer.specs.declared.Refusal.TheVariants.{OnChain}
use Rattle.text.specs.Bytes.{part}
use Rattle.text.specs.Lines.{pieces}
use Rattle.text.specs.Pattern.{equals}
use Rattle.marker.specs.declared.problem.Problem.{Problem}
use Rattle.marker.specs.declared.problem.Problem.TheVariants as problems
use Rattle.scan.specs.Scan.{scan, regions_of}
use Rattle.scan.specs.declared.event.Event.{Event}
use Rattle.scan.specs.declared.event.Event.TheVariants.{OfSpan, OfRegion, OfProblem}
use Rattle.scan.specs.declared.event.Region.{Region}
use Rattle.heading.specs.Level.{shallowest_of}
use Rattle.heading.specs.declared.walk.LineKind.{LineKind}
use Rattle.index.specs.Index.{File, file_of, find_file}
use Rattle.walk.specs.Parts.{part_made, unless, and_then}
use Rattle.regions.specs.Regions.{HostRegion, refusal_of, problems_of, peer_faults, above, target_level, own_kinds, regions_from, host_regions, scanned_by, scanned}
use Rattle.embedding.specs.Embed.{embed}
use Rattle.chains.specs.Chains.{Chain, plain, Rest, into, stop, on, file_at, next_found, next, branch, through, found, grow, headed, embedded, made, made_rest}

-- one of two lists is empty where the other is
abbrev Alike : List Refusal → List Refusal → Type 0
Alike [] [] = Unit {0}
Alike [] (y ∷ ys) = ⊥
Alike (x ∷ xs) [] = ⊥
Alike (x ∷ xs) (y ∷ ys) = Unit {0}

alike-append : (a b xs ys : List Refusal) → Alike a b → Alike xs ys → Alike (a ++ xs) (b ++ ys)
alike-append [] [] xs ys p q = q
alike-append [] (y ∷ b) xs ys p q = absurd p
alike-append (x ∷ a) [] xs ys p q = absurd p
alike-append (x ∷ a) (y ∷ b) xs ys p q = tt

refusal_alike : (k : Problem) (p q : Place) → Alike (refusal_of k p) (refusal_of k q)
refusal_alike problems.NestedRegion p q = tt
refusal_alike k p q = tt

problems_alike : (j k : ℕ) (es : List Event) → Alike (problems_of j es) (problems_of k es)
unfolding problems_of
problems_alike j k [] = tt
problems_alike j k (OfSpan x ∷ es) = problems_alike j k es
problems_alike j k (OfRegion g ∷ es) = problems_alike j k es
problems_alike j k (OfProblem n m ∷ es) =
    alike-append (refusal_of m (place j n)) (refusal_of m (place k n)) (problems_of j es) (problems_of k es) (refusal_alike m (place j n) (place k n)) (problems_alike j k es)

peer_made : {A : Type 0} (peer : Bool) (b : Option ℕ) (p q : Place) (a : A) → part_made (unless (peer_faults peer b p) a) ≡ part_made (unless (peer_faults peer b q) a)
peer_made peer (Some n) p q a = refl
peer_made true None p q a = refl
peer_made false None p q a = refl

then_same : {A C : Type 0} (o : Option A) (f g : A → Option C) → ((a : A) → f a ≡ g a) → and_then o f ≡ and_then o g
then_same None f g h = refl
then_same (Some a) f g h = h a

module _ (S : List File) (top : List ℕ) (m : List Bool) (more : ℕ → Chain) (name t : List ℕ) (ls : List (List ℕ)) (own : List LineKind) where
  -- a region of the file with the number k, n lines standing before the last closer
  abbrev region_of : ℕ → ℕ → Region → HostRegion
  region_of k n g = record {
    host = name;
    before = take (g.opener.line - n) (drop n ls);
    opener = place k g.opener.line;
    faults = peer_faults g.peer (above g.opener.line own) (place k g.opener.line);
    name = part g.path.start g.path.end t;
    target = target_level g.peer (above g.opener.line own) (shallowest_of None own);
  }

  abbrev Same : Rest → Rest → Type 0
  Same r q = (us : List (List ℕ)) → made_rest r us ≡ made_rest q us

  into-same : (j k n : ℕ) (g : Region) (d : ℕ) (c : Chain) (r q : Rest) → Same r q → Same (into (region_of j n g) d c r) (into (region_of k n g) d c q)
  unfolding made_rest embed
  into-same j k n g d c r q h us =
      let None : List (List ℕ) = [] in
      rw (peer_made g.peer (above g.opener.line own) (place j g.opener.line) (place k g.opener.line) None)
      (then_same (part_made (headed (region_of k n g))) _ _ (λ u. then_same (embedded (region_of k n g) d (made c)) _ _ (λ e. h ((us ++ (region_of k n g).before) ++ e))))

  branch_same : (j k n : ℕ) (g : Region) (r q : Rest) → Same r q
      → Same (branch S (region_of j n g) (next S top m (region_of j n g)) more r) (branch S (region_of k n g) (next S top m (region_of k n g)) more q)
  unfolding next made_rest
  branch_same j k n g r q h us = go (equals top (region_of k n g).name) (find_file (region_of k n g).name S)
    where
      named : (d : ℕ) (b : Bool) → made_rest (branch S (region_of j n g) (cond b (stop (OnChain (region_of j n g).opener)) (on d)) more r) us
          ≡ made_rest (branch S (region_of k n g) (cond b (stop (OnChain (region_of k n g).opener)) (on d)) more q) us
      named d true = refl
      named d false = into-same j k n g (file_at S d).number (more d) r q h us

      go : (b : Bool) (o : Option ℕ) → made_rest (branch S (region_of j n g) (cond b (stop (OnChain (region_of j n g).opener)) (next_found m (region_of j n g).opener o)) more r) us
          ≡ made_rest (branch S (region_of k n g) (cond b (stop (OnChain (region_of k n g).opener)) (next_found m (region_of k n g).opener o)) more q) us
      go true o = refl
      go false (Some d) = named d (get_or m d false)
      go false None = refl

  rest-same : (j k n : ℕ) (gs : List Region)
      → Same (through S top m j more (regions_from (file_of j name t) ls own n gs)) (through S top m k more (regions_from (file_of k name t) ls own n gs))
  unfolding regions_from through made_rest
  rest-same j k n [] us = refl
  rest-same j k n (g ∷ gs) us = branch_same j k n g _ _ (rest-same j k (g.closer.line - 1) gs) us

module _ (S : List File) (top : List ℕ) (m : List Bool) (more : ℕ → Chain) (name t : List ℕ) (j k : ℕ) where
  found-same : made (found S top m j more (scanned (file_of j name t))) ≡ made (found S top m k more (scanned (file_of k name t)))
  unfolding scanned made regions_from
  found-same = go (problems_of j (scan t)) (problems_of k (scan t)) (regions_of (scan t)) (problems_alike j k (scan t))
    where
      rest : (gs : List Region) → made_rest (through S top m j more (host_regions (file_of j name t) gs)) [] ≡ made_rest (through S top m k more (host_regions (file_of k name t) gs)) []
      rest gs = rest-same S top m more name t (pieces t) (own_kinds gs (pieces t)) j k 0 gs []

      go : (xs ys : List Refusal) (gs : List Region) → Alike xs ys
          → made (found S top m j more (scanned_by xs t (host_regions (file_of j name t) gs))) ≡ made (found S top m k more (scanned_by ys t (host_regions (file_of k name t) gs)))
      go [] [] [] h = refl
      go [] [] (g ∷ gs) h = rest (g ∷ gs)
      go [] (y ∷ ys) gs h = absurd h
      go (x ∷ xs) [] gs h = absurd h
      go (x ∷ xs) (y ∷ ys) gs h = refl

pub number_same : (f : ℕ) (S : List File) (top : List ℕ) (m : List Bool) (name t : List ℕ) (j k : ℕ) → made (grow f S top m (file_of j name t)) ≡ made (grow f S top m (file_of k name t))
unfolding grow
number_same zero S top m name t j k = found-same S top m (λ d. plain []) name t j k
number_same (suc f) S top m name t j k = found-same S top m (λ d. grow f S top (set m d true) (file_at S d)) name t j k
