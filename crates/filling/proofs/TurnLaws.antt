-- One region of a host in the loop of a fill: what is put before it, where it leads, what its file becomes behind it; and the lines behind the last region. Assumes nothing.
use Rattle.std.specs.Prelude.{Option, Some, None, Ok, Err}
use Prim.Native.Nat.{ℕ, suc, ◌<◌}
use native.Mathlib.Omega.{arith}
use mathlib.Core.Path.{◌≡◌, refl, sym, ◌∙◌, ap}
use mathlib.Core.Bool.{Bool, true, false, cond}
use mathlib.Core.List.{List, [], ◌∷◌, ◌++◌}
use lib.Dec.{leb, ltb}
use lib.ListN.{length, get_or, length-append}
use Rattle.answer.specs.declared.Place.{Place}
use Rattle.answer.specs.declared.Refusal.{Refusal}
use Rattle.answer.specs.declared.Refusal.TheVariants.{PeerWithoutHeading, OnChain, Allowance, TextLimit}
use Rattle.answer.specs.Answer.{place}
use Rattle.text.specs.Bytes.{part}
use Rattle.text.specs.Lines.{led}
use Rattle.text.specs.Split.{join}
use Rattle.text.specs.Pattern.{equals}
use Rattle.text.proofs.LedLaws.{text_more}
use Rattle.index.specs.Index.{File, find_file}
use Rattle.walk.specs.Parts.{Part, good, flawed, unless}
use Rattle.walk.specs.Steps.{Judged, given, refused, judge}
use Rattle.walk.proofs.StepsLaws.{judge_then}
use Rattle.regions.specs.Regions.{HostRegion, Regions, behind, region}
use Rattle.embedding.specs.Embed.{embed, embed_told, embedded_lines}
use Rattle.insertion.specs.Insertion.{joined, stopped, inserted_of, tested}
use Rattle.chains.specs.Chains.{Chain, Rest, file_at, Next, stop, on, next, next_found, through, text_of, next_named}
use Rattle.walk.specs.Outcome.{Outcome, text, noRegion, refusal, outcome}
use Rattle.chains.specs.Fill.{walk, walk_rest}
use Rattle.opening.specs.Opening.{named_of, Entry, enters, barred, entered, joined_entry, entry_of}
use Rattle.filling.specs.Filling.{with_files, embedded_by, Running, Turned}
use Rattle.chains.proofs.FillLaws.{or_fault, fitting, judge_after, judge_next, judge_region, judge-last}
use Rattle.chains.proofs.GrowLaws.{find-name}
use Rattle.opening.proofs.EntryLaws.{entry_enters}

clash : true ≡ false → ⊥
clash e = let z : ◌≡◌ {A = ℕ} 0 1 = cc in omega arith

-- ---- where a region leads

-- a region leads on to a file of its name
pub next-name : (S : List File) (top : List ℕ) (m : List Bool) (p : Place) (name : List ℕ) (d : ℕ) → next_named S top m p name ≡ on d → (file_at S d).name ≡ name
next-name S top m p name d e = at_name (equals top name) (find_file name S) refl e
  where
    at_mark : (k : ℕ) (b : Bool) → find_file name S ≡ Some k → cond b (stop (OnChain p)) (on k) ≡ on d → (file_at S d).name ≡ name
    at_mark k true q h = let z : ◌≡◌ {A = ℕ} 0 1 = cc in absurd (omega arith)
    at_mark k false q h = let e : k ≡ d = cc in rw (← e) (find-name name S k q)

    at_name : (b : Bool) (o : Option ℕ) → find_file name S ≡ o → cond b (stop (OnChain p)) (next_found m p o) ≡ on d → (file_at S d).name ≡ name
    at_name true o q h = let z : ◌≡◌ {A = ℕ} 0 1 = cc in absurd (omega arith)
    at_name false (Some k) q h = at_mark k (get_or m k false) q h
    at_name false None q h = let z : ◌≡◌ {A = ℕ} 0 1 = cc in absurd (omega arith)

-- `headed`, by a region's faults
abbrev allows : List Refusal → Part (List (List ℕ))
allows xs = unless xs []

-- what is entered is gone on with, or the refusal
abbrev pub or_barred : Entry → (ℕ → Judged (List ℕ)) → Judged (List ℕ)
or_barred (enters t d) k = k d
or_barred (barred x) k = refused x

module _ (B L n : ℕ) (S : List File) (top : List ℕ) (m : List Bool) (k : ℕ) (more : ℕ → Chain) (g : HostRegion) (rs : Regions) (ls : List (List ℕ)) where
  -- the named file with one more taken in, and what comes behind it
  abbrev pub going_on : ℕ → Judged (List ℕ)
  going_on d = judge_then (judge B L (suc n) (walk (more d))) (judge_after B L g (file_at S d).number (through S top m k more rs) (ls ++ g.before))

  -- a region by its entry
  pub judge-entry : (headless : Bool) → g.faults ≡ cond headless (PeerWithoutHeading g.opener ∷ []) []
      → judge B L n (walk_rest (through S top m k more (region g rs)) ls)
      ≡ or_barred (entry_of L g.opener headless (text_of (ls ++ g.before)) (named_of B n g.opener (next S top m g))) going_on
  unfolding entry_of
  judge-entry headless e =
      judge_region B L n S top m k more g rs ls ∙ ap (λ (xs : List Refusal). fitting L (ls ++ g.before) g (or_fault (allows xs) (λ u. after (next S top m g)))) e
      ∙ at_size (leb (length (text_of (ls ++ g.before))) L) headless (next S top m g)
    where
      after : Next → Judged (List ℕ)
      after y = judge_next B L n S g more (through S top m k more rs) (ls ++ g.before) y

      at_test : (b : Bool) (d : ℕ) → cond b (going_on d) (refused (Allowance g.opener)) ≡ or_barred (entered (text_of (ls ++ g.before)) (cond b (Ok d) (Err (Allowance g.opener)))) going_on
      at_test true d = refl
      at_test false d = refl

      at_next : (y : Next) → after y ≡ or_barred (entered (text_of (ls ++ g.before)) (named_of B n g.opener y)) going_on
      at_next (stop x) = refl
      at_next (on d) = at_test (ltb n B) d

      at_size : (a b : Bool) (y : Next)
          → cond a (or_fault (allows (cond b (PeerWithoutHeading g.opener ∷ []) [])) (λ u. after y)) (refused (TextLimit g.opener))
          ≡ or_barred (joined_entry (cond a (joined (text_of (ls ++ g.before))) (stopped (TextLimit g.opener))) (λ v. cond b (barred (PeerWithoutHeading g.opener)) (entered v (named_of B n g.opener y)))) going_on
      at_size true true y = refl
      at_size true false y = at_next y
      at_size false b y = refl

-- ---- what a file becomes behind the text

-- the text of an outcome is one of lines behind ls, from which the walk goes on; or the walk is refused
abbrev pub GoesOn : ℕ → ℕ → Rest → List (List ℕ) → Outcome → Judged (List ℕ) → Type 0
GoesOn B L r ls (text u n) j = (es : List (List ℕ)) × ((text_of (ls ++ es) ≡ u) × (j ≡ judge B L n (walk_rest r (ls ++ es))))
GoesOn B L r ls noRegion j = ⊥
GoesOn B L r ls (refusal x) j = j ≡ refused x

module _ (B L : ℕ) (g : HostRegion) (k : ℕ) (r : Rest) (ls : List (List ℕ)) (h : 0 < length ls) where
  pub goes_on : (j : Judged (List ℕ)) → GoesOn B L r ls (embedded_by L g.opener (text_of ls) (embed_told g.host g.name g.target k) j) (judge_then j (judge_after B L g k r ls))
  unfolding embed
  goes_on (refused x) = refl
  goes_on (given v n) = at_part (embed_told g.host g.name g.target k (embedded_lines v))
    where
      at_size : (es : List (List ℕ)) (b : Bool)
          → GoesOn B L r ls (with_files n (cond b (joined (text_of ls ++ led es)) (stopped (TextLimit g.opener)))) (cond b (judge B L n (walk_rest r (ls ++ es))) (refused (TextLimit g.opener)))
      at_size es true = (es, (text_more ls es h, refl))
      at_size es false = refl

      at_part : (y : Part (List (List ℕ)))
          → GoesOn B L r ls (with_files n (inserted_of L (text_of ls) g.opener y)) (or_fault y (λ es. fitting L (ls ++ es) g (judge B L n (walk_rest r (ls ++ es)))))
      at_part (flawed x xs) = refl
      at_part (good es) = rw (text_more ls es h) (at_size es (leb (length (text_of ls ++ led es)) L))

-- ---- the loop

-- before the first region
pub running-start : (B L n : ℕ) (r : Rest) → Running B L (judge B L n (walk_rest r [])) r 0 n []
unfolding join
running-start B L n r = record { lines = []; made = refl; none = λ e. refl; some = λ h. absurd (omega arith); left = refl }

-- lines b behind any lines are bytes of s behind the text
abbrev pub Appends : List ℕ → ℕ → ℕ → List (List ℕ) → Type 0
Appends s from e b = (ls : List (List ℕ)) → (from ≡ 0 → ls ≡ []) → (0 < from → 0 < length ls) → text_of (ls ++ b) ≡ text_of ls ++ part from e s

module _ {B L : ℕ} {whole : Judged (List ℕ)} (S : List File) (top : List ℕ) (m : List Bool) (k : ℕ) (more : ℕ → Chain) (q : Regions) {from used : ℕ} {t : List ℕ}
    (a : Running B L whole (through S top m k more q) from used t) (s : List ℕ) (e : ℕ) where
  block : (b : List (List ℕ)) → Appends s from e b → text_of (a.lines ++ b) ≡ t ++ part from e s
  block b h = h a.lines a.none a.some ∙ ap (λ (u : List ℕ). u ++ part from e s) a.made

  -- behind the last region: 17 at line 0
  pub turn_last : (b : List (List ℕ)) → q ≡ behind b → Appends s from e b → with_files used (tested L (place k 0) (t ++ part from e s)) ≡ outcome whole
  unfolding through
  turn_last b i h =
      at_size (leb (length (t ++ part from e s)) L)
      ∙ sym (ap outcome (sym a.left ∙ ap (λ (r : Regions). judge B L used (walk_rest (through S top m k more r) a.lines)) i
      ∙ judge-last B L used b a.lines (place k 0)
      ∙ ap (λ (u : List ℕ). cond (leb (length u) L) (given u used) (refused (TextLimit (place k 0)))) (block b h)))
    where
      at_size : (c : Bool) → with_files used (cond c (joined (t ++ part from e s)) (stopped (TextLimit (place k 0)))) ≡ outcome (cond c (given (t ++ part from e s) used) (refused (TextLimit (place k 0))))
      at_size true = refl
      at_size false = refl

  module _ (g : HostRegion) (rs : Regions) (i : q ≡ region g rs) (headless : Bool) (f : g.faults ≡ cond headless (PeerWithoutHeading g.opener ∷ []) []) (h : Appends s from e g.before) where
    abbrev entry : Entry
    entry = entry_of L g.opener headless (t ++ part from e s) (named_of B used g.opener (next_named S top m g.opener g.name))

    by-entry : (o : Entry) → entry ≡ o → or_barred o (going_on B L used S top m k more g rs a.lines) ≡ whole
    unfolding next
    by-entry o j =
        ap (λ (y : Entry). or_barred y (going_on B L used S top m k more g rs a.lines))
        (sym j ∙ ap (λ (u : List ℕ). entry_of L g.opener headless u (named_of B used g.opener (next_named S top m g.opener g.name))) (sym (block g.before h)))
        ∙ sym (judge-entry B L used S top m k more g rs a.lines headless f)
        ∙ ap (λ (r : Regions). judge B L used (walk_rest (through S top m k more r) a.lines)) (sym i) ∙ a.left

    -- 17, 12, 13, 14 or 15
    pub turn_barred : (x : Refusal) → entry ≡ barred x → whole ≡ refused x
    turn_barred x j = sym (by-entry (barred x) j)

    -- the file's lines stand behind the text, or the file or its embedding is refused
    module _ (some : 0 < length g.before) (u : List ℕ) (d : ℕ) (j : entry ≡ enters u d) (next : ℕ) (begun : 0 < next) where
      lines-some : (es : List (List ℕ)) → 0 < length ((a.lines ++ g.before) ++ es)
      lines-some es = omega (arith, length-append (a.lines ++ g.before) es, length-append a.lines g.before)

      turned : (o : Outcome) (y : Judged (List ℕ)) → y ≡ whole → GoesOn B L (through S top m k more rs) (a.lines ++ g.before) o y → Turned B L whole (through S top m k more rs) next o
      turned (text v n) y w (es, (p, z)) = record { lines = (a.lines ++ g.before) ++ es; made = p; none = λ e. absurd (omega arith); some = λ e. lines-some es; left = sym z ∙ w }
      turned noRegion y w z = z
      turned (refusal x) y w z = sym w ∙ z

      pub turn_on : Turned B L whole (through S top m k more rs) next (embedded_by L g.opener u (embed_told g.host (file_at S d).name g.target (file_at S d).number) (judge B L (suc used) (walk (more d))))
      turn_on =
          let n = entry_enters B L used g.opener headless (t ++ part from e s) u (next_named S top m g.opener g.name) d j in
          rw (n.same, ← block g.before h, next-name S top m g.opener g.name d n.leads)
          (turned (embedded_by L g.opener (text_of (a.lines ++ g.before)) (embed_told g.host g.name g.target (file_at S d).number) (judge B L (suc used) (walk (more d)))) _
          (by-entry (enters u d) j) (goes_on B L g (file_at S d).number (through S top m k more rs) (a.lines ++ g.before)
          (omega (arith, length-append a.lines g.before)) (judge B L (suc used) (walk (more d)))))
