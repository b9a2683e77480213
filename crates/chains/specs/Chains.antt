-- Document 01, "Records": chains, and what lies on them. No allowance, no limit and no walk.
-- "a chain starts at a list line and goes on through each region that a scan of its last file finds, to a file of S not yet on it; what lies on a chain is reached."
use Rattle.std.specs.Prelude.{ℕ, zero, suc, Bool, true, false, cond, ◌&&◌, List, [], ◌∷◌, ◌++◌, map, ◌≡◌, length, get_or, set, replicate, eqb, ltb, Option, Some, None}
use Rattle.answer.specs.declared.Place.{Place}
use Rattle.answer.specs.Answer.{place}
use Rattle.answer.specs.declared.Refusal.{Refusal}
use Rattle.answer.specs.declared.Refusal.TheVariants.{OnChain, Absent}
use Rattle.text.specs.Lines.{LF}
use Rattle.text.specs.Pattern.{equals}
use Rattle.text.specs.Split.{join}
use Rattle.index.specs.Index.{File, find_file}
pub use Rattle.index.specs.Index.{file_at}
use Rattle.walk.specs.Parts.{Part, part_made, part_faults, unless, and_then, if_made}
use Rattle.regions.specs.Regions.{HostRegion, Regions, behind, region, Scanned, problem, noRegion, regions, scanned}
use Rattle.embedding.specs.Embed.{embed}

-- A chain, by what a scan of its last file finds: problems, and regions all the same; a text with no region; or regions. A region leads on to the file of a
-- number, with the longer chain, or nowhere, with 13 or 14.
mutual
  pub data Chain : Type 0 where
    wrong : Refusal → List Refusal → Rest → Chain
    plain : List ℕ → Chain
    host : Rest → Chain

  pub data Rest : Type 0 where
    last : List (List ℕ) → Place → Rest
    shut : HostRegion → Refusal → Rest → Rest
    into : HostRegion → ℕ → Chain → Rest → Rest

-- where a region leads
pub data Next : Type 0 where
  stop : Refusal → Next
  on : ℕ → Next

-- 13 "names a file on the chain": "the chain starts with the host's name, and names compare as bytes"; 14 "file not in the index". The chain started with
-- the file named top, and the files m were taken in since
abbrev pub next_found : List Bool → Place → Option ℕ → Next
next_found m p (Some d) = cond (get_or m d false) (stop (OnChain p)) (on d)
next_found m p None = stop (Absent p)

abbrev pub next_named : List File → List ℕ → List Bool → Place → List ℕ → Next
next_named S top m p name = cond (equals top name) (stop (OnChain p)) (next_found m p (find_file name S))

unfoldable pub next : List File → List ℕ → List Bool → HostRegion → Next
next S top m g = next_named S top m g.opener g.name

abbrev pub branch : List File → HostRegion → Next → (ℕ → Chain) → Rest → Rest
branch S g (stop x) more r = shut g x r
branch S g (on d) more r = into g (file_at S d).number (more d) r

-- the regions of the file k, counted for places
unfoldable pub through : List File → List ℕ → List Bool → ℕ → (ℕ → Chain) → Regions → Rest
through S top m k more (behind ls) = last ls (place k 0)
through S top m k more (region g rs) = branch S g (next S top m g) more (through S top m k more rs)

abbrev pub found : List File → List ℕ → List Bool → ℕ → (ℕ → Chain) → Scanned → Chain
found S top m k more (problem x xs rs) = wrong x xs (through S top m k more rs)
found S top m k more (noRegion s) = plain s
found S top m k more (regions rs) = host (through S top m k more rs)

-- the chain whose last file is h; the first number bounds how far it goes on
unfoldable pub grow : ℕ → List File → List ℕ → List Bool → File → Chain
grow zero S top m h = found S top m h.number (λ d. plain []) (scanned h)
grow (suc f) S top m h = found S top m h.number (λ d. grow f S top (set m d true) (file_at S d)) (scanned h)

-- the files not on the chain
unfoldable pub free : List Bool → ℕ
free [] = 0
free (true ∷ m) = free m
free (false ∷ m) = suc (free m)

abbrev pub chain : List File → List ℕ → List Bool → File → Chain
chain S top m h = grow (free m) S top m h

-- a mark for each of 64 files, none taken in
abbrev pub no_marks : List Bool
no_marks = replicate 64 false

-- the chain of one file: a host handed in, or the file of a list line
abbrev pub start_at : List File → File → Chain
start_at S h = chain S h.name no_marks h

abbrev pub start : List File → ℕ → Chain
start S k = start_at S (file_at S k)

-- ---- what lies on a chain

-- what a region's own place allows, 12 standing before all else
abbrev pub headed : HostRegion → Part (List (List ℕ))
headed g = unless g.faults []

-- a text embedded, where it is made
abbrev pub embedded : HostRegion → ℕ → Option (List ℕ) → Option (List (List ℕ))
embedded g d o = and_then o (λ v. part_made (embed g d v))

-- "The running text is its lines joined by LF"
abbrev pub text_of : List (List ℕ) → List ℕ
text_of ls = join LF ls

-- the text that a chain's last file makes; ls are the lines made before
unfoldable mutual
  pub made : Chain → Option (List ℕ)
  made (wrong x xs r) = None
  made (plain s) = Some s
  made (host r) = made_rest r []

  pub made_rest : Rest → List (List ℕ) → Option (List ℕ)
  made_rest (last us p) ls = Some (text_of (ls ++ us))
  made_rest (shut g x r) ls = None
  made_rest (into g d c r) ls = and_then (part_made (headed g)) (λ u. and_then (embedded g d (made c)) (λ e. made_rest r ((ls ++ g.before) ++ e)))

-- the faults at a chain's last file: 9 to 11; at each region 12, and 13, 14, or 16 where a text is made and cannot be embedded
unfoldable pub faults_rest : Rest → List Refusal
faults_rest (last us p) = []
faults_rest (shut g x r) = g.faults ++ (x ∷ faults_rest r)
faults_rest (into g d c r) = g.faults ++ (if_made (made c) (λ v. part_faults (embed g d v)) ++ faults_rest r)

abbrev pub faults : Chain → List Refusal
faults (wrong x xs r) = (x ∷ xs) ++ faults_rest r
faults (plain s) = []
faults (host r) = faults_rest r

-- the running texts of a chain's last file: before each region, after it, and the last; "a text that a fault leaves unmade has no further ones"
unfoldable pub running_rest : Rest → List (List ℕ) → List (List ℕ)
running_rest (last us p) ls = text_of (ls ++ us) ∷ []
running_rest (shut g x r) ls = text_of (ls ++ g.before) ∷ []
running_rest (into g d c r) ls =
    text_of (ls ++ g.before) ∷ if_made (part_made (headed g)) (λ u. if_made (embedded g d (made c)) (λ e.
    text_of ((ls ++ g.before) ++ e) ∷ running_rest r ((ls ++ g.before) ++ e)))

abbrev pub running : Chain → List (List ℕ)
running (wrong x xs r) = []
running (plain s) = []
running (host r) = running_rest r []

-- ---- the chains of a list

-- M has the file of each list line, counted from 0: the chains of one file
abbrev pub starts : List File → List ℕ → List Chain
starts S M = map (start S) M

-- ---- chains by list line and regions

unfoldable pub region_in : Regions → ℕ → Option HostRegion
region_in (behind ls) i = None
region_in (region g rs) zero = Some g
region_in (region g rs) (suc i) = region_in rs i

-- region i of those that a scan finds
abbrev pub region_of : Scanned → ℕ → Option HostRegion
region_of (problem x xs rs) i = region_in rs i
region_of (noRegion s) i = None
region_of (regions rs) i = region_in rs i

abbrev pub onward : {A : Type 0} → Next → (ℕ → Option A) → Option A
onward (stop x) more = None
onward (on d) more = more d

-- where the regions p lead to from the file h: each is one that a scan of the last file finds, and leads on to a file that is not yet on the chain
unfoldable pub leads : List File → List ℕ → List Bool → File → List ℕ → Option Chain
leads S top m h [] = Some (chain S top m h)
leads S top m h (i ∷ p) = and_then (region_of (scanned h) i) (λ g. onward (next S top m g) (λ d. leads S top (set m d true) (file_at S d) p))

abbrev pub when : Bool → Option Chain → Option Chain
when b o = cond b o None

-- the chain of a list line of M, from 0, and then regions, from 0; one of two or more files
abbrev pub chain_at : List File → List ℕ → List ℕ → Option Chain
chain_at S M [] = None
chain_at S M (l ∷ p) = when (ltb l (length M)) (leads S (file_at S (get_or M l 0)).name no_marks (file_at S (get_or M l 0)) p)

abbrev pub longer_at : List File → List ℕ → List ℕ → Option Chain
longer_at S M [] = None
longer_at S M (l ∷ []) = None
longer_at S M (l ∷ i ∷ p) = chain_at S M (l ∷ i ∷ p)

-- ---- how many chains

abbrev pub same : List ℕ → List ℕ → Bool
same [] [] = true
same [] (b ∷ q) = false
same (a ∷ p) [] = false
same (a ∷ p) (b ∷ q) = eqb a b && same p q

-- how often a list of numbers stands among others
unfoldable pub times_in : List ℕ → List (List ℕ) → ℕ
times_in p [] = 0
times_in p (q ∷ qs) = cond (same p q) (suc (times_in p qs)) (times_in p qs)

abbrev pub once_if : Option Chain → ℕ
once_if None = 0
once_if (Some c) = 1

-- "as many as the chains of two or more files, chains being told apart by list line and regions, not by names": n lists of list line and regions, among which each that leads to such
-- a chain stands once, and no other
pub record CountsChains (S : List File) (M : List ℕ) (n : ℕ) : Type 0 where
  pub paths : List (List ℕ)
  pub many : length paths ≡ n
  pub once : (p : List ℕ) → times_in p paths ≡ once_if (longer_at S M p)
