-- What a fill comes to by what a scan of its file finds; a file with no region is embedded as it stands. Assumes nothing.
use Rattle.std.specs.Prelude.{Result, Ok, Err}
use Prim.Native.Nat.{ℕ, suc, ◌+◌, ◌-◌, ◌≤◌}
use native.Mathlib.Omega.{arith}
use mathlib.Core.Path.{◌≡◌, refl, sym, ◌∙◌, ap}
use mathlib.Core.Bool.{Bool, true}
use mathlib.Core.List.{List, [], ◌∷◌, ◌++◌}
use lib.ListN.{length, take, drop, set, length-set}
use Rattle.answer.specs.declared.Place.{Place}
use Rattle.answer.specs.declared.Refusal.{Refusal}
use Rattle.text.specs.Bytes.{part}
use Rattle.text.specs.Lines.{pieces}
use Rattle.scan.specs.Scan.{scan, regions_of}
use Rattle.scan.specs.declared.event.Region.{Region}
use Rattle.index.specs.Index.{File}
use Rattle.heading.specs.declared.walk.LineKind.{LineKind}
use Rattle.walk.specs.Parts.{Part}
use Rattle.walk.specs.Steps.{Judged, given, refused, judge}
use Rattle.shift.specs.Shift.{Told, told_lines}
use Rattle.regions.specs.Regions.{Regions, regions_from, own_kinds, Scanned, problem, noRegion as unmarked, regions, problems_of, scanned_by, scanned}
use Rattle.survey.specs.Surveys.{survey_of}
use Rattle.survey.specs.declared.Surveyed.TheVariants.{NoRegion as Bare}
use Rattle.survey.proofs.SurveyLaws.{survey_problem, survey_none}
use Rattle.embedding.specs.Embed.{embedded_lines, embed_told}
use Rattle.embedding.specs.Unmarked.{Unmarked}
use Rattle.insertion.specs.Insertion.{inserted_of}
use Rattle.embedding.proofs.UnmarkedLaws.{unmarked_end}
use Rattle.answer.specs.declared.Answer.{Answer}
use Rattle.chains.specs.Chains.{file_at, through, found, chain}
use Rattle.walk.specs.Outcome.{Outcome, text, noRegion, refusal, outcome}
use Rattle.chains.specs.Fill.{walk, walk_rest, filled}
use Rattle.filling.specs.Filling.{read_filled, taken_in, embedded_by, chain_to}
use Rattle.chains.proofs.GrowLaws.{chain_on}
use Rattle.filling.proofs.RoomLaws.{back_take, back_drop, back_part, lent_all}
use Rattle.chains.proofs.FillLaws.{judged-some, filled-judged, filled-plain}

-- ---- by what a survey finds

module _ (B L n : ℕ) (S : List File) (top : List ℕ) (m : List Bool) (h : File) (room : length S ≤ length m) where
  by-scan : (y : Scanned) → scanned h ≡ y → filled B L n (chain S top m h) ≡ filled B L n (found S top m h.number (chain_to S top m) y)
  by-scan y e = ap (filled B L n) (chain_on S top m h room ∙ ap (found S top m h.number (chain_to S top m)) e)

  -- 9, 10 or 11
  pub fill_wrong : (x : Refusal) → Err x ≡ survey_of (scanned h) → refusal x ≡ filled B L n (chain S top m h)
  unfolding walk judge
  fill_wrong x e = let p = survey_problem h (sym e) in sym (by-scan (problem x p.others p.behind) p.is)

  pub fill_none : (Ok Bare) ≡ survey_of (scanned h) → noRegion ≡ filled B L n (chain S top m h)
  fill_none e = sym (by-scan (unmarked h.text) (survey_none h (sym e)))

  -- regions: the walk over them
  pub fill-walk : (rs : Regions) → scanned h ≡ regions rs → outcome (judge B L n (walk_rest (through S top m h.number (chain_to S top m) rs) [])) ≡ filled B L n (chain S top m h)
  unfolding walk
  fill-walk rs e = sym (by-scan (regions rs) e)

-- ---- a file with no region

no_regions : (h : File) (ls : List (List ℕ)) (own : List LineKind) (xs : List Refusal) (s t : List ℕ) (gs : List Region) → scanned_by xs s (regions_from h ls own 0 gs) ≡ unmarked t → gs ≡ []
unfolding regions_from
no_regions h ls own (x ∷ xs) s t gs e = let z : ◌≡◌ {A = ℕ} 0 1 = cc in absurd (omega arith)
no_regions h ls own [] s t [] e = refl
no_regions h ls own [] s t (g ∷ gs) e = let z : ◌≡◌ {A = ℕ} 0 1 = cc in absurd (omega arith)

plain_lines : (h : File) (t : List ℕ) → scanned h ≡ unmarked t → embedded_lines h.text ≡ told_lines (pieces h.text)
unfolding scanned embedded_lines
plain_lines h t e =
    let q = no_regions h (pieces h.text) (own_kinds (regions_of (scan h.text)) (pieces h.text)) (problems_of h.number (scan h.text)) h.text t (regions_of (scan h.text)) e in
    rw (q, unmarked_end)

module _ (B L n : ℕ) (S : List File) (top : List ℕ) (m : List Bool) (h : File) (room : length S ≤ length m) where
  filled-lines : filled B L n (chain S top m h) ≡ noRegion → embedded_lines h.text ≡ told_lines (pieces h.text)
  filled-lines e = at-scan (scanned h) refl
    where
      at-scan : (y : Scanned) → scanned h ≡ y → embedded_lines h.text ≡ told_lines (pieces h.text)
      at-scan (problem x xs rs) q = absurd (judged-some (judge B L n (walk (found S top m h.number (chain_to S top m) (problem x xs rs)))) (sym (by-scan B L n S top m h room (problem x xs rs) q) ∙ e))
      at-scan (unmarked t) q = plain_lines h t q
      at-scan (regions rs) q = absurd (judged-some (judge B L n (walk (found S top m h.number (chain_to S top m) (regions rs)))) (sym (by-scan B L n S top m h room (regions rs) q) ∙ e))

  -- what a fill came to, embedded, is its judged walk, embedded
  pub taken_judged : (p : Place) (t : List ℕ) (g : List Told → Part (List (List ℕ)))
      → taken_in L p t g h.text n (filled B L n (chain S top m h)) ≡ embedded_by L p t g (judge B L n (walk (chain S top m h)))
  taken_judged p t g = at-outcome (filled B L n (chain S top m h)) refl
    where
      by-judged : (j : Judged (List ℕ)) → taken_in L p t g h.text n (outcome j) ≡ embedded_by L p t g j
      by-judged (given v k) = refl
      by-judged (refused x) = refl

      judged : (filled B L n (chain S top m h) ≡ noRegion → ⊥) → taken_in L p t g h.text n (filled B L n (chain S top m h)) ≡ embedded_by L p t g (judge B L n (walk (chain S top m h)))
      judged k = ap (taken_in L p t g h.text n) (filled-judged B L n (chain S top m h) k) ∙ by-judged (judge B L n (walk (chain S top m h)))

      at-outcome : (o : Outcome) → filled B L n (chain S top m h) ≡ o → taken_in L p t g h.text n (filled B L n (chain S top m h)) ≡ embedded_by L p t g (judge B L n (walk (chain S top m h)))
      at-outcome (text v k) q = judged (λ e. let z : ◌≡◌ {A = ℕ} 0 1 = cc in omega arith)
      at-outcome (refusal x) q = judged (λ e. let z : ◌≡◌ {A = ℕ} 0 1 = cc in omega arith)
      at-outcome noRegion q = rw (filled-plain B L n S top m h q, q, filled-lines q)

-- a filled text past the limit: its lines without markers, told, are those that an embedding takes
pub taken_text : (L : ℕ) (p : Place) (w y : List ℕ) (n k len : ℕ) (g : List Told → Part (List (List ℕ))) → L ≤ length w → length y ≡ length w - L → len ≤ L
    → Unmarked (take n (take (length w - L) (drop L w))) (take k y)
    → inserted_of L (take len (take L w ++ (y ++ drop (length w - L) (drop L w)))) p (g (told_lines (pieces (part L (L + k) (take L w ++ (y ++ drop (length w - L) (drop L w)))))))
    ≡ inserted_of L (take len w) p (g (embedded_lines (take n (drop L w))))
unfolding embedded_lines
taken_text L p w y n k len g h i j u = rw (back_take w y L h i len j, back_part w y L h i k, u, lent_all w L)

-- the same in the buffer that has come back
pub taken_back : (L : ℕ) (p : Place) (w y : List ℕ) (len : ℕ) (g : List Told → Part (List (List ℕ))) (s : List ℕ) (n : ℕ) (got : Result Answer Refusal) (o : Outcome)
    → L ≤ length w → length y ≡ length w - L → len ≤ L → read_filled got y ≡ o
    → taken_in L p (take len (take L w ++ (y ++ drop (length w - L) (drop L w)))) g s n (read_filled got (drop L (take L w ++ (y ++ drop (length w - L) (drop L w))))) ≡ taken_in L p (take len w) g s n o
taken_back L p w y len g s n got o h i j e = rw (back_take w y L h i len j, back_drop w y L h i, e)

-- the file d, filled with its mark set, and embedded
pub taken_file : (B L used n : ℕ) (S : List File) (top : List ℕ) (m : List Bool) (d : ℕ) (f : File) (host : List ℕ) (target : ℕ) (p : Place) (t : List ℕ)
    → length S ≤ length m → file_at S d ≡ f → n ≡ suc used
    → taken_in L p t (embed_told host f.name target f.number) f.text n (filled B L n (chain S top (set m d true) f))
    ≡ embedded_by L p t (embed_told host (file_at S d).name target (file_at S d).number) (judge B L (suc used) (walk (chain_to S top m d)))
taken_file B L used n S top m d f host target p t room e q =
    rw (q, e) (taken_judged B L (suc used) S top (set m d true) f (rw (length-set m d true) room) p t (embed_told host f.name target f.number))
