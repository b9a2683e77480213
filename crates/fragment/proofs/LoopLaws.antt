-- The loop of a fill over the regions of its host, with the cursor and the buffer. Assumes nothing.
use Rattle.std.specs.Prelude.{Ok}
use Prim.Native.Nat.{ℕ, ◌≤◌}
use native.Mathlib.Omega.{arith}
use mathlib.Core.Path.{◌≡◌, refl, sym, ◌∙◌, ap}
use mathlib.Core.Bool.{Bool}
use mathlib.Core.List.{List, []}
use lib.ListN.{length, take}
use Rattle.answer.specs.declared.Refusal.{Refusal}
use Rattle.index.specs.Index.{File, file_of}
use Rattle.walk.specs.Steps.{Judged, judge}
use Rattle.regions.specs.Regions.{scanned}
use Rattle.survey.specs.declared.Surveyed.TheVariants.{Regions}
use Rattle.survey.specs.Surveys.{survey_of}
use Rattle.regions.specs.Hosts.{start_cursor, host_rest, HostAt}
use Rattle.regions.specs.declared.host.HostCursor.{HostCursor}
use Rattle.opening.specs.declared.Filling.{Filling}
use Rattle.filling.specs.declared.Filled.{Filled}
use Rattle.chains.specs.Chains.{chain}
use Rattle.walk.specs.Outcome.{Outcome, refusal, outcome}
use Rattle.chains.specs.Fill.{walk_rest, filled}
use Rattle.filling.specs.Filling.{read_text, rest_at, Running, Turned}
use Rattle.regions.proofs.HostLaws.{host-start}
use Rattle.survey.proofs.SurveyLaws.{survey_regions}
use Rattle.filling.proofs.TakenLaws.{fill-walk}
use Rattle.filling.proofs.TurnLaws.{running-start}

-- what the walk over all regions of a host comes to
abbrev pub whole_of : List File → List ℕ → List Bool → List ℕ → List ℕ → Filling → Judged (List ℕ)
whole_of S top m name s at = judge at.allowance at.limit at.used (walk_rest (rest_at S top m name s at.number start_cursor) [])

-- what the fill comes to
abbrev pub fill_of : List File → List ℕ → List Bool → List ℕ → List ℕ → Filling → Outcome
fill_of S top m name s at = filled at.allowance at.limit at.used (chain S top m (file_of at.number name s))

-- at a turn: the text x stands at the front of the buffer
pub record Loop (S : List File) (top : List ℕ) (m : List Bool) (name s : List ℕ) (at : Filling) (room : ℕ) (work : List ℕ) (c : HostCursor) (x : Filled) : Type 0 where
  pub cursor : HostAt s c
  pub fits : x.length ≤ at.limit
  pub kept : length work ≡ room
  pub running : Running at.allowance at.limit (whole_of S top m name s at) (rest_at S top m name s at.number c) c.from x.files (take x.length work)
  pub comes : outcome (whole_of S top m name s at) ≡ fill_of S top m name s at

module _ (S : List File) (top : List ℕ) (m : List Bool) (name s : List ℕ) (at : Filling) where
  pub loop_start : (work : List ℕ) → length S ≤ length m → Ok Regions ≡ survey_of (scanned (file_of at.number name s))
      → Loop S top m name s at (length work) work start_cursor (record { length = 0; files = at.used })
  loop_start work h q = record {
    cursor = host-start s;
    fits = omega arith;
    kept = refl;
    running = running-start at.allowance at.limit at.used (rest_at S top m name s at.number start_cursor);
    comes = fill-walk at.allowance at.limit at.used S top m (file_of at.number name s) h (host_rest (file_of at.number name s) start_cursor)
        (survey_regions (file_of at.number name s) (sym q));
  }

  -- behind a region, by what its file came to
  module _ (d : HostCursor) (o : Outcome) (comes : outcome (whole_of S top m name s at) ≡ fill_of S top m name s at)
      (t : Turned at.allowance at.limit (whole_of S top m name s at) (rest_at S top m name s at.number d) d.from o) where
    turned : {v : Outcome} → v ≡ o → Turned at.allowance at.limit (whole_of S top m name s at) (rest_at S top m name s at.number d) d.from v
    turned q = rw q t

    pub loop_on : {room : ℕ} {work : List ℕ} {x : Filled} → length work ≡ room → HostAt s d → x.length ≤ at.limit → read_text (Ok x) work ≡ o → Loop S top m name s at room work d x
    loop_on kept cursor fits q = record { cursor = cursor; fits = fits; kept = kept; running = turned q; comes = comes }

    pub loop_over : {x : Refusal} → refusal x ≡ o → refusal x ≡ fill_of S top m name s at
    loop_over q = sym (ap outcome (turned q)) ∙ comes
