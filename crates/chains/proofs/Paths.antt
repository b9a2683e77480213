-- The chains by list line and regions, and those of the tree: the same, each once. Assumes nothing.
use Rattle.std.specs.Prelude.{Option, Some, None}
use Prim.Native.Nat.{ℕ, zero, suc, ◌+◌, ◌≤◌, ◌<◌}
use native.Mathlib.Omega.{arith}
use mathlib.Core.Path.{◌≡◌, refl, sym, ◌∙◌}
use mathlib.Core.Bool.{Bool, true, false, cond, ◌&&◌}
use mathlib.Core.List.{List, [], ◌∷◌, ◌++◌, map}
use borrow.Author.Tests.{eq-eqb, eqb-true}
use lib.Dec.{eqb, leb-suc-zero, leb-suc-suc, leb-zero, eqb-suc-zero, eqb-zero-suc, eqb-suc-suc}
use lib.ListN.{length, set, length-map, length-set, length-replicate}
use Rattle.index.specs.Index.{File}
use Rattle.walk.specs.Parts.{and_then}
use Rattle.walk.proofs.Sums.{total, total_append, total_map, total_same, zero_total, total_le, le_total, total_some, total_one}
use Rattle.regions.specs.Regions.{HostRegion, Regions, behind, region, Scanned, problem, noRegion, regions, scanned}
use Rattle.chains.specs.Chains.{Chain, wrong, plain, host, Rest, last, shut, into, file_at, Next, stop, on, next, branch, onward, through, found, chain, start, no_marks, region_of, region_in, leads, starts, chain_at, longer_at, same, times_in, once_if, CountsChains}
use Rattle.chains.proofs.ChainLaws.{longer, longer_rest, extended}
use Rattle.chains.proofs.GrowLaws.{chain_on}
use Rattle.chains.proofs.ChainLaws.{reached}

pub same_self : (p : List ℕ) → same p p ≡ true
same_self [] = refl
same_self (a ∷ p) = rw (eq-eqb a a refl) (same_self p)

pub same_equal : (p q : List ℕ) → same p q ≡ true → p ≡ q
same_equal [] [] e = refl
same_equal [] (b ∷ q) e = let z : ◌≡◌ {A = ℕ} 0 1 = cc in absurd (omega arith)
same_equal (a ∷ p) [] e = let z : ◌≡◌ {A = ℕ} 0 1 = cc in absurd (omega arith)
same_equal (a ∷ p) (b ∷ q) e = at_head (eqb a b) refl e (same_equal p q)
  where
    at_head : (x : Bool) → eqb a b ≡ x → (x && same p q) ≡ true → (same p q ≡ true → p ≡ q) → a ∷ p ≡ b ∷ q
    at_head true h e ih = rw (eqb-true a b h, ih e)
    at_head false h e ih = let z : ◌≡◌ {A = ℕ} 0 1 = cc in absurd (omega arith)

-- a chain, with the regions that lead to it
abbrev pub Trip : Type 0
Trip = List ℕ × Chain

abbrev pub pick_n : Bool → ℕ → ℕ
pick_n b n = cond b n 0

-- the paths in k through the first of several, and those in l through the others
abbrev pub later : List ℕ → List ℕ
later [] = []
later (i ∷ p) = suc i ∷ p

abbrev pub via0 : Trip → Trip
via0 x = (0 ∷ x.0, x.1)

abbrev pub via_next : Trip → Trip
via_next x = (later x.0, x.1)

abbrev pub fork : List Trip → List Trip → List Trip
fork k l = map via0 k ++ map via_next l

unfoldable mutual
  pub trips : Chain → List Trip
  trips (wrong x xs r) = trips_rest r
  trips (plain s) = []
  trips (host r) = trips_rest r

  pub trips_rest : Rest → List Trip
  trips_rest (last us p) = []
  trips_rest (shut g x r) = fork [] (trips_rest r)
  trips_rest (into g d c r) = fork (([], c) ∷ trips c) (trips_rest r)

unfoldable pub book_trips : List Chain → List Trip
book_trips [] = []
book_trips (c ∷ cs) = fork (([], c) ∷ trips c) (book_trips cs)

unfoldable pub long_trips : List Chain → List Trip
long_trips [] = []
long_trips (c ∷ cs) = fork (trips c) (long_trips cs)

marks_length : length no_marks ≡ 64
marks_length = length-replicate 64 false

part_le : (b : Bool) (n : ℕ) → pick_n b n ≤ n
part_le true n = omega arith
part_le false n = omega arith

module _ (f : Chain → ℕ) where
  -- ---- f summed over the chains of a list

  abbrev value : Trip → ℕ
  value x = f x.1

  fork-all : (k l : List Trip) → total value (fork k l) ≡ total value k + total value l
  fork-all k l =
      let h = total_append value (map via0 k) (map via_next l) in
      let i = total_map value via0 k in
      let j = total_map value via_next l in
      omega arith

  mutual
    unfolding trips longer total

    trips-all : (c : Chain) → total value (trips c) ≡ total f (longer c)
    trips-all (wrong x xs r) = tripsRest-all r
    trips-all (plain s) = refl
    trips-all (host r) = tripsRest-all r

    tripsRest-all : (r : Rest) → total value (trips_rest r) ≡ total f (longer_rest r)
    tripsRest-all (last us p) = refl
    tripsRest-all (shut g x r) = let h = tripsRest-all r in fork-all [] (trips_rest r) ∙ omega arith
    tripsRest-all (into g d c r) = let h = tripsRest-all r in let i = trips-all c in fork-all (([], c) ∷ trips c) (trips_rest r) ∙ rw total_append (omega arith)

  bookTrips-all : (cs : List Chain) → total value (book_trips cs) ≡ total f (reached cs)
  unfolding book_trips reached total
  bookTrips-all [] = refl
  bookTrips-all (c ∷ cs) = let h = bookTrips-all cs in let i = trips-all c in fork-all (([], c) ∷ trips c) (book_trips cs) ∙ rw total_append (omega arith)

  pub long_trips_all : (cs : List Chain) → total value (long_trips cs) ≡ total f (extended cs)
  unfolding long_trips extended total
  long_trips_all [] = refl
  long_trips_all (c ∷ cs) = let h = long_trips_all cs in let i = trips-all c in fork-all (trips c) (long_trips cs) ∙ rw total_append (omega arith)

  -- ---- f summed over those to which p leads

  abbrev pub hit : List ℕ → Trip → ℕ
  hit p x = pick_n (same p x.0) (f x.1)

  abbrev pub worth : Option Chain → ℕ
  worth None = 0
  worth (Some c) = f c

  module _ (k l : List Trip) where
    fork-sum : (p : List ℕ) (a b : Trip → ℕ) → ((x : Trip) → hit p (via0 x) ≡ a x) → ((x : Trip) → hit p (via_next x) ≡ b x)
        → total (hit p) (fork k l) ≡ total a k + total b l
    fork-sum p a b g h =
        let e = total_append (hit p) (map via0 k) (map via_next l) in
        let i = total_map (hit p) via0 k ∙ total_same _ a k g in
        let j = total_map (hit p) via_next l ∙ total_same _ b l h in
        omega arith

    fork-empty : total (hit []) (fork k l) ≡ total (hit []) l
    fork-empty = let z = zero_total (λ x. 0) k (λ x m. refl) in fork-sum [] (λ x. 0) (hit []) (λ x. refl) (λ x. at_next x.0 x.1) ∙ rw z (omega arith)
      where
        at_next : (q : List ℕ) (c : Chain) → hit [] (later q, c) ≡ hit [] (q, c)
        at_next [] c = refl
        at_next (y ∷ q) c = refl

    fork-first : (p : List ℕ) → total (hit (0 ∷ p)) (fork k l) ≡ total (hit p) k
    fork-first p = let z = zero_total (λ x. 0) l (λ x m. refl) in fork-sum (0 ∷ p) (hit p) (λ x. 0) (λ x. refl) (λ x. at_next x.0 x.1) ∙ rw z (omega arith)
      where
        at_next : (q : List ℕ) (c : Chain) → hit (0 ∷ p) (later q, c) ≡ 0
        at_next [] c = refl
        at_next (y ∷ q) c = rw eqb-zero-suc

    fork-next : (j : ℕ) (p : List ℕ) → total (hit (suc j ∷ p)) (fork k l) ≡ total (hit (j ∷ p)) l
    fork-next j p = let z = zero_total (λ x. 0) k (λ x m. refl) in fork-sum (suc j ∷ p) (λ x. 0) (hit (j ∷ p)) (λ x. rw eqb-suc-zero) (λ x. at_next x.0 x.1) ∙ rw z (omega arith)
      where
        at_next : (q : List ℕ) (c : Chain) → hit (suc j ∷ p) (later q, c) ≡ hit (j ∷ p) (q, c)
        at_next [] c = refl
        at_next (y ∷ q) c = rw eqb-suc-suc

  mutual
    unfolding trips total

    trips-empty : (c : Chain) → total (hit []) (trips c) ≡ 0
    trips-empty (wrong x xs r) = tripsRest-empty r
    trips-empty (plain s) = refl
    trips-empty (host r) = tripsRest-empty r

    tripsRest-empty : (r : Rest) → total (hit []) (trips_rest r) ≡ 0
    tripsRest-empty (last us p) = refl
    tripsRest-empty (shut g x r) = fork-empty [] (trips_rest r) ∙ tripsRest-empty r
    tripsRest-empty (into g d c r) = fork-empty (([], c) ∷ trips c) (trips_rest r) ∙ tripsRest-empty r

  module _ (S : List File) (top : List ℕ) (m : List Bool) (k : ℕ) (more : ℕ → Chain) (q : List ℕ) (g : ℕ → Option Chain) (h : (d : ℕ) → total (hit q) (([], more d) ∷ trips (more d)) ≡ worth (g d)) where
    first : (x : Next) (a : HostRegion) (r : Rest) → total (hit (0 ∷ q)) (trips_rest (branch S a x more r)) ≡ worth (onward x g)
    unfolding trips total
    first (stop n) a r = fork-first [] (trips_rest r) q
    first (on d) a r = fork-first (([], more d) ∷ trips (more d)) (trips_rest r) q ∙ h d

    others : (x : Next) (a : HostRegion) (i : ℕ) (r : Rest) → total (hit (suc i ∷ q)) (trips_rest (branch S a x more r)) ≡ total (hit (i ∷ q)) (trips_rest r)
    unfolding trips
    others (stop n) a i r = fork-next [] (trips_rest r) i q
    others (on d) a i r = fork-next (([], more d) ∷ trips (more d)) (trips_rest r) i q

    through-trips : (r : Regions) (i : ℕ) → total (hit (i ∷ q)) (trips_rest (through S top m k more r)) ≡ worth (and_then (region_in r i) (λ a. onward (next S top m a) g))
    unfolding through region_in trips total
    through-trips (behind t) i = refl
    through-trips (region a r) zero = first (next S top m a) a (through S top m k more r)
    through-trips (region a r) (suc i) = others (next S top m a) a i (through S top m k more r) ∙ through-trips r i

  -- regions lead on from a chain just where it has a trip, and it has one
  once : (p : List ℕ) (S : List File) (top : List ℕ) (m : List Bool) (h : File) → length S ≤ length m → total (hit p) (([], chain S top m h) ∷ trips (chain S top m h)) ≡ worth (leads S top m h p)
  unfolding total leads trips
  once [] S top m h e = let z = trips-empty (chain S top m h) in omega arith
  once (i ∷ q) S top m h e = rw (chain_on S top m h e) (at-scan (scanned h) (λ d. once q S top (set m d true) (file_at S d) (rw (length-set m d true) e)))
    where
      more : ℕ → Chain
      more d = chain S top (set m d true) (file_at S d)

      onto : ℕ → Option Chain
      onto d = leads S top (set m d true) (file_at S d) q

      at-scan : (s : Scanned) → ((d : ℕ) → total (hit q) (([], more d) ∷ trips (more d)) ≡ worth (onto d))
          → total (hit (i ∷ q)) (([], found S top m h.number more s) ∷ trips (found S top m h.number more s)) ≡ worth (and_then (region_of s i) (λ a. onward (next S top m a) onto))
      at-scan (problem x xs r) k = let z = through-trips S top m h.number more q onto k r i in omega arith
      at-scan (noRegion t) k = refl
      at-scan (regions r) k = let z = through-trips S top m h.number more q onto k r i in omega arith

  start-once : (S : List File) (few : length S ≤ 64) (k : ℕ) (p : List ℕ) → total (hit p) (([], start S k) ∷ trips (start S k)) ≡ worth (leads S (file_at S k).name no_marks (file_at S k) p)
  start-once S few k p = once p S (file_at S k).name no_marks (file_at S k) (rw marks_length few)

  bookTrips-once : (S : List File) (few : length S ≤ 64) (M p : List ℕ) → total (hit p) (book_trips (starts S M)) ≡ worth (chain_at S M p)
  unfolding book_trips total
  bookTrips-once S few [] [] = refl
  bookTrips-once S few [] (l ∷ p) = rw leb-suc-zero
  bookTrips-once S few (k ∷ M) [] = fork-empty (([], start S k) ∷ trips (start S k)) (book_trips (starts S M)) ∙ bookTrips-once S few M []
  bookTrips-once S few (k ∷ M) (zero ∷ p) =
      fork-first (([], start S k) ∷ trips (start S k)) (book_trips (starts S M)) p
      ∙ rw (leb-suc-suc 0 (length M), leb-zero (length M)) (start-once S few k p)
  bookTrips-once S few (k ∷ M) (suc l ∷ p) =
      fork-next (([], start S k) ∷ trips (start S k)) (book_trips (starts S M)) l p
      ∙ rw (leb-suc-suc (suc l) (length M)) (bookTrips-once S few M (l ∷ p))

  pub long_trips_once : (S : List File) (few : length S ≤ 64) (M p : List ℕ) → total (hit p) (long_trips (starts S M)) ≡ worth (longer_at S M p)
  unfolding long_trips total
  long_trips_once S few [] [] = refl
  long_trips_once S few [] (l ∷ []) = refl
  long_trips_once S few [] (l ∷ i ∷ p) = rw leb-suc-zero
  long_trips_once S few (k ∷ M) [] = fork-empty (trips (start S k)) (long_trips (starts S M)) ∙ long_trips_once S few M []
  long_trips_once S few (k ∷ M) (zero ∷ []) = fork-first (trips (start S k)) (long_trips (starts S M)) [] ∙ trips-empty (start S k)
  long_trips_once S few (k ∷ M) (zero ∷ i ∷ p) =
      let z = start-once S few k (i ∷ p) in
      fork-first (trips (start S k)) (long_trips (starts S M)) (i ∷ p) ∙ rw (leb-suc-suc 0 (length M), leb-zero (length M)) (omega arith)
  long_trips_once S few (k ∷ M) (suc l ∷ []) = fork-next (trips (start S k)) (long_trips (starts S M)) l [] ∙ long_trips_once S few M (l ∷ [])
  long_trips_once S few (k ∷ M) (suc l ∷ i ∷ p) =
      fork-next (trips (start S k)) (long_trips (starts S M)) l (i ∷ p) ∙ long_trips_once S few M (l ∷ i ∷ p) ∙ rw (leb-suc-suc (suc l) (length M))

  -- ---- f is 0 at every chain just where its sum over the tree's is

  pub everywhere : (S : List File) (few : length S ≤ 64) (M : List ℕ) → total f (reached (starts S M)) ≡ 0 → (p : List ℕ) (c : Chain) → chain_at S M p ≡ Some c → f c ≡ 0
  everywhere S few M h p c e =
      let t = bookTrips-all (starts S M) in
      let b = total_le (hit p) value (book_trips (starts S M)) (λ x. part_le (same p x.0) (f x.1)) in
      let z : worth (chain_at S M p) ≡ f c = rw e in
      omega (arith, bookTrips-once S few M p)

  pub nowhere : (S : List File) (few : length S ≤ 64) (M : List ℕ) → ((p : List ℕ) (c : Chain) → chain_at S M p ≡ Some c → f c ≡ 0) → total f (reached (starts S M)) ≡ 0
  nowhere S few M h = sym (bookTrips-all (starts S M)) ∙ zero_total value (book_trips (starts S M)) (λ x m.
      let t = le_total (hit x.0) (book_trips (starts S M)) x m in
      let b : hit x.0 x ≡ f x.1 = rw (same_self x.0) in
      omega (arith, bookTrips-once S few M x.0, at-end (chain_at S M x.0) (h x.0)))
    where
      at-end : (o : Option Chain) → ((c : Chain) → o ≡ Some c → f c ≡ 0) → worth o ≡ 0
      at-end None g = refl
      at-end (Some c) g = g c refl

  pub somewhere : (S : List File) (few : length S ≤ 64) (M : List ℕ) → 0 < total f (reached (starts S M)) → (p : List ℕ) × (c : Chain) × (chain_at S M p ≡ Some c) × (0 < f c)
  somewhere S few M h =
      let r = total_some value (book_trips (starts S M)) (omega (arith, bookTrips-all (starts S M))) in
      let t = le_total (hit r.0.0) (book_trips (starts S M)) r.0 r.1 in
      let b : hit r.0.0 r.0 ≡ f r.0.1 = rw (same_self r.0.0) in
      at-end r.0.0 (chain_at S M r.0.0) refl (omega (arith, bookTrips-once S few M r.0.0, r.2))
    where
      at-end : (p : List ℕ) (o : Option Chain) → chain_at S M p ≡ o → 0 < worth o → (p : List ℕ) × (c : Chain) × (chain_at S M p ≡ Some c) × (0 < f c)
      at-end p None e k = absurd (omega arith)
      at-end p (Some c) e k = (p, c, e, k)

-- ---- the chains of two or more files, counted

times_hit : (p : List ℕ) (l : List Trip) → times_in p (map (λ x. x.0) l) ≡ total (hit (λ c. 1) p) l
unfolding times_in total
times_hit p [] = refl
times_hit p (x ∷ l) = go (same p x.0) (times_hit p l)
  where
    go : (b : Bool) → times_in p (map (λ x. x.0) l) ≡ total (hit (λ c. 1) p) l
        → cond b (suc (times_in p (map (λ x. x.0) l))) (times_in p (map (λ x. x.0) l)) ≡ pick_n b 1 + total (hit (λ c. 1) p) l
    go true h = omega arith
    go false h = omega arith

worth_once : (o : Option Chain) → worth (λ c. 1) o ≡ once_if o
worth_once None = refl
worth_once (Some c) = refl

pub counts_chains : (S : List File) (few : length S ≤ 64) (M : List ℕ) → CountsChains S M (length (extended (starts S M)))
counts_chains S few M =
    let l : List Trip = long_trips (starts S M) in
    record {
      paths = map (λ x. x.0) l;
      many = omega (arith, length-map l (λ (x : Trip). x.0), total_one l, total_one (extended (starts S M)), long_trips_all (λ c. 1) (starts S M));
      once = λ p. times_hit p l ∙ long_trips_once (λ c. 1) S few M p ∙ worth_once (longer_at S M p);
    }
