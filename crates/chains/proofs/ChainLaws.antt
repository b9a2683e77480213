-- Laws of chains: what the walk makes, where it fails, and what it tests and takes in, are what lies on the chains. Assumes nothing.
use Rattle.std.specs.Prelude.{Option, Some, None}
use Prim.Native.Nat.{ℕ, ◌+◌, ◌≤◌}
use native.Mathlib.Omega.{arith}
use mathlib.Core.Path.{◌≡◌, refl, sym, ◌∙◌}
use mathlib.Core.List.{List, [], ◌∷◌, ◌++◌}
use lib.ListN.{length, length-append}
use Rattle.answer.specs.declared.Refusal.{Refusal}
use Rattle.walk.specs.Parts.{part_made, part_faults, and_then, if_made}
use Rattle.walk.specs.Steps.{Steps, failed, sized, taken, go, part, ends}
use Rattle.walk.proofs.Sums.{total, total_append}
use Rattle.walk.proofs.PartLaws.{and_then_assoc, made_by, Agrees, agrees_then, agrees_part, agrees_made, unless-faults}
use Rattle.walk.proofs.StepsLaws.{ends-go, ends-part, weigh, weigh_go, weigh_go_le, weigh_part, flaw, flaw_go, flaw_part}
use Rattle.regions.specs.Regions.{HostRegion}
use Rattle.embedding.specs.Embed.{embed}
use Rattle.chains.specs.Chains.{Chain, wrong, plain, host, Rest, last, shut, into, headed, text_of, embedded, made, made_rest, faults, faults_rest, running, running_rest}
use Rattle.chains.specs.Fill.{walk, walk_rest}

none_then : {A B : Type 0} (o : Option A) → and_then {B = B} o (λ a. None) ≡ None
none_then None = refl
none_then (Some a) = refl

headed-faults : (g : HostRegion) → part_faults (headed g) ≡ g.faults
headed-faults g = unless-faults g.faults []

headed_flaw : (f : Refusal → ℕ) (g : HostRegion) → flaw f (part (headed g)) ≤ total f g.faults
headed_flaw f g = rw (headed-faults g) at (flaw_part f (headed g))

-- ---- chains that go on from chains

-- the chains that go on from one: through each of its regions, and from there
unfoldable mutual
  pub longer : Chain → List Chain
  longer (wrong x xs r) = longer_rest r
  longer (plain s) = []
  longer (host r) = longer_rest r

  pub longer_rest : Rest → List Chain
  longer_rest (last ls p) = []
  longer_rest (shut g x r) = longer_rest r
  longer_rest (into g d c r) = (c ∷ longer c) ++ longer_rest r

-- those that go on from these: the chains of two or more files
unfoldable pub extended : List Chain → List Chain
extended [] = []
extended (c ∷ cs) = longer c ++ extended cs

-- what the walk does with a file once it is filled
abbrev embed_then : HostRegion → ℕ → Rest → List (List ℕ) → List ℕ → Steps (List ℕ)
embed_then g d r ls v = go (part (embed g d v)) (λ es. sized (text_of ((ls ++ g.before) ++ es)) g.opener (walk_rest r ((ls ++ g.before) ++ es)))

-- what the walk makes is what the chain makes
mutual
  unfolding walk made ends

  pub walk-made : (c : Chain) → ends (walk c) ≡ made c
  walk-made (wrong x xs r) = refl
  walk-made (plain s) = refl
  walk-made (host r) = walk_rest-made r []

  pub walk_rest-made : (r : Rest) (ls : List (List ℕ)) → ends (walk_rest r ls) ≡ made_rest r ls
  walk_rest-made (last us p) ls = refl
  walk_rest-made (shut g x r) ls = ends-go (part (headed g)) _ ∙ rw ends-part (none_then (part_made (headed g)))
  walk_rest-made (into g d c r) ls = simp (ends-go, ends-part, walk-made c, walk_rest-made r, and_then_assoc)

-- ---- a fault reached, or a text

abbrev pub flaws : Chain → ℕ
flaws d = length (faults d)

mutual
  unfolding longer made faults_rest total

  pub made_flaws : (c : Chain) → Agrees (made c) (flaws c + total flaws (longer c))
  made_flaws (wrong x xs r) = omega arith
  made_flaws (plain s) = omega arith
  made_flaws (host r) = made_rest_flaws r []

  pub made_rest_flaws : (r : Rest) (ls : List (List ℕ)) → Agrees (made_rest r ls) (length (faults_rest r) + total flaws (longer_rest r))
  made_rest_flaws (last us p) ls = omega arith
  made_rest_flaws (shut g x r) ls = simp length-append (omega arith)
  made_rest_flaws (into g d c r) ls =
      let own : ℕ = length (if_made (made c) (λ v. part_faults (embed g d v))) in
      let e : length (faults_rest (into g d c r)) + total flaws (longer_rest (into g d c r))
      ≡ length g.faults + (flaws c + total flaws (longer c) + own + (length (faults_rest r) + total flaws (longer_rest r)))
      = simp (length-append, total_append) (omega arith) in
      rw e (agrees_then (part_made (headed g)) _ _ _ (rw (headed-faults g) at (agrees_part (headed g))) (λ u.
      agrees_then (embedded g d (made c)) _ _ _ (agrees_made (made c) (embed g d) _ (made_flaws c)) (λ y. made_rest_flaws r ((ls ++ g.before) ++ y))))

-- the fault that the walk ends in is one of those: f is any weight
abbrev pub faults_of : (Refusal → ℕ) → Chain → ℕ
faults_of f d = total f (faults d)

module _ (f : Refusal → ℕ) where
  mutual
    unfolding walk longer faults_rest total flaw

    pub walk_flaw : (c : Chain) → flaw f (walk c) ≤ faults_of f c + total (faults_of f) (longer c)
    walk_flaw (wrong x xs r) = omega arith
    walk_flaw (plain s) = omega arith
    walk_flaw (host r) = walkRest-flaw r []

    walkRest-flaw : (r : Rest) (ls : List (List ℕ)) → flaw f (walk_rest r ls) ≤ total f (faults_rest r) + total (faults_of f) (longer_rest r)
    walkRest-flaw (last us p) ls = omega arith
    walkRest-flaw (shut g x r) ls =
        let h = flaw_go {B = List ℕ} f (part (headed g)) (λ u. failed x) (total f g.faults) (f x) (headed_flaw f g) (λ u e. omega arith) in
        simp total_append (omega arith)
    walkRest-flaw (into g d c r) ls =
        let own : ℕ = total f (if_made (made c) (λ v. part_faults (embed g d v))) in
        let h = flaw_go {B = List ℕ} f (part (headed g)) (λ u. taken g.opener (go (walk c) (embed_then g d r ls))) (total f g.faults) (faults_of f c + total (faults_of f) (longer c) + (own + (total f (faults_rest r) + total (faults_of f) (longer_rest r)))) (headed_flaw f g) (λ u e.
        flaw_go f (walk c) (embed_then g d r ls) _ _ (walk_flaw c) (λ v i.
        flaw_go f (part (embed g d v)) (λ es. sized (text_of ((ls ++ g.before) ++ es)) g.opener (walk_rest r ((ls ++ g.before) ++ es))) own _ (rw (sym (walk-made c) ∙ i) (flaw_part f (embed g d v))) (λ es j. walkRest-flaw r ((ls ++ g.before) ++ es)))) in
        simp total_append (omega arith)

-- ---- what the walk tests and takes in

-- every chain that starts with one of these
unfoldable pub reached : List Chain → List Chain
reached [] = []
reached (c ∷ cs) = (c ∷ longer c) ++ reached cs

-- f summed over the running texts of chains, and n for each chain
abbrev pub sums : (List ℕ → ℕ) → ℕ → List Chain → ℕ
sums f n cs = total (λ d. total f (running d)) cs + total (λ d. n) cs

module _ (f : List ℕ → ℕ) (n : ℕ) where
  mutual
    unfolding walk made longer running_rest total weigh go

    pub walk_weigh : (c : Chain) (v : List ℕ) → made c ≡ Some v → weigh f n (walk c) ≡ total f (running c) + sums f n (longer c)
    walk_weigh (wrong x xs r) v e = let z : ◌≡◌ {A = ℕ} 0 1 = cc in absurd (omega arith)
    walk_weigh (plain s) v e = omega arith
    walk_weigh (host r) v e = walk_rest_weigh r [] v e

    pub walk_rest_weigh : (r : Rest) (ls : List (List ℕ)) (v : List ℕ) → made_rest r ls ≡ Some v → weigh f n (walk_rest r ls) ≡ total f (running_rest r ls) + sums f n (longer_rest r)
    walk_rest_weigh (last us p) ls v e = omega arith
    walk_rest_weigh (shut g x r) ls v e = let z : ◌≡◌ {A = ℕ} 0 1 = cc in absurd (omega arith)
    walk_rest_weigh (into g d c r) ls v e =
        made_by (part_made (headed g)) (λ u. and_then (embedded g d (made c)) (λ y. made_rest r ((ls ++ g.before) ++ y))) v e (λ u m j.
        made_by (embedded g d (made c)) (λ y. made_rest r ((ls ++ g.before) ++ y)) v j (λ x i k.
        made_by (made c) (λ y. part_made (embed g d y)) x i (λ y a b.
        let h = walk_weigh c y a in
        let l = walk_rest_weigh r ((ls ++ g.before) ++ x) v k in
        rw (weigh_go f n (part (headed g)) _ u (ends-part (headed g) ∙ m), weigh_go f n (walk c) _ y (walk-made c ∙ a), weigh_go f n (part (embed g d y)) _ x (ends-part (embed g d y) ∙ b), weigh_part f n (headed g), weigh_part f n (embed g d y), m, a, b) (simp total_append (omega arith)))))

  embed-weigh-le : (g : HostRegion) (d : ℕ) (r : Rest) (ls : List (List ℕ)) (v : List ℕ) (k : ℕ)
      → ((us : List (List ℕ)) → weigh f n (walk_rest r us) ≤ total f (running_rest r us) + k)
      → weigh f n (embed_then g d r ls v) ≤ total f (if_made (part_made (embed g d v)) (λ es. text_of ((ls ++ g.before) ++ es) ∷ running_rest r ((ls ++ g.before) ++ es))) + k
  unfolding total weigh
  embed-weigh-le g d r ls v k h =
      let m : ℕ = total f (if_made (part_made (embed g d v)) (λ es. text_of ((ls ++ g.before) ++ es) ∷ running_rest r ((ls ++ g.before) ++ es))) + k in
      let z = weigh_go_le f n (part (embed g d v)) (λ es. sized (text_of ((ls ++ g.before) ++ es)) g.opener (walk_rest r ((ls ++ g.before) ++ es))) 0 m (omega (arith, weigh_part f n (embed g d v))) (λ es j.
      rw (sym (ends-part (embed g d v)) ∙ j) (omega (arith, h ((ls ++ g.before) ++ es)))) in
      omega arith

  -- and where nothing is made, no more than these
  mutual
    unfolding walk longer running_rest total weigh

    pub walk_weigh_le : (c : Chain) → weigh f n (walk c) ≤ total f (running c) + sums f n (longer c)
    walk_weigh_le (wrong x xs r) = omega arith
    walk_weigh_le (plain s) = omega arith
    walk_weigh_le (host r) = walkRest-weigh-le r []

    walkRest-weigh-le : (r : Rest) (ls : List (List ℕ)) → weigh f n (walk_rest r ls) ≤ total f (running_rest r ls) + sums f n (longer_rest r)
    walkRest-weigh-le (last us p) ls = omega arith
    walkRest-weigh-le (shut g x r) ls =
        let h = weigh_go_le {B = List ℕ} f n (part (headed g)) (λ u. failed x) 0 0 (omega (arith, weigh_part f n (headed g))) (λ u e. omega arith) in
        omega arith
    walkRest-weigh-le (into g d c r) ls =
        let embeds : List (List ℕ) = if_made (embedded g d (made c)) (λ es. text_of ((ls ++ g.before) ++ es) ∷ running_rest r ((ls ++ g.before) ++ es)) in
        let h = weigh_go_le f n (part (headed g)) (λ u. taken g.opener (go (walk c) (embed_then g d r ls))) 0 (total f (if_made (part_made (headed g)) (λ u. embeds)) + (n + (total f (running c) + sums f n (longer c)) + sums f n (longer_rest r)))
        (omega (arith, weigh_part f n (headed g))) (λ u i.
        rw (sym (ends-part (headed g)) ∙ i) (omega (
          arith,
          weigh_go_le f n (walk c) (embed_then g d r ls) (total f (running c) + sums f n (longer c)) (total f embeds + sums f n (longer_rest r)) (walk_weigh_le c) (λ v j.
              rw (sym (walk-made c) ∙ j) (embed-weigh-le g d r ls v (sums f n (longer_rest r)) (λ us. walkRest-weigh-le r us))),
        ))) in
        simp total_append (omega arith)
