-- What a survey gathers, event by event. Nothing here is document 01's: inner functions promise it, and the laws of `proofs/SurveyLaws.antt` tie it to
-- `Regions.antt` of `regions`.
use Rattle.std.specs.Prelude.{ℕ, Bool, true, false, cond, List, [], ◌∷◌, Option, Some, None, Result, Ok, Err}
use Rattle.answer.specs.Answer.{place}
use Rattle.answer.specs.declared.Place.{Place}
use Rattle.answer.specs.declared.Refusal.{Refusal}
use Rattle.answer.specs.declared.Refusal.TheVariants.{NestedRegion, FragmentMarker, UnclosedRegion}
use Rattle.marker.specs.declared.problem.Problem.TheVariants as problems
use Rattle.marker.specs.declared.line.Kind.{Kind}
use Rattle.marker.specs.declared.line.Kind.TheVariants.{Plain, Fence, Fault, Closes, Opens, Spans}
use Rattle.scan.specs.declared.event.Event.{Event}
use Rattle.scan.specs.declared.event.Event.TheVariants.{OfSpan, OfRegion, OfProblem}
use Rattle.scan.specs.declared.state.Opener.{Opener}
use Rattle.regions.specs.Regions.{Scanned, problem, noRegion, regions, refusal_of}
use Rattle.survey.specs.declared.Surveyed.{Surveyed}
use Rattle.survey.specs.declared.Surveyed.TheVariants.{NoRegion, Regions}

-- what a survey answers
abbrev pub survey_of : Scanned → Result Surveyed Refusal
survey_of (problem x xs rs) = Err x
survey_of (noRegion s) = (Ok NoRegion)
survey_of (regions rs) = (Ok Regions)

-- the first refusal, or what follows
abbrev pub wrong_or : List Refusal → Result Surveyed Refusal → Result Surveyed Refusal
wrong_or [] r = r
wrong_or (x ∷ xs) r = Err x

-- the answer for what a scan of file f finds, where a region was found before or not
unfoldable pub survey_from : Bool → ℕ → List Event → Result Surveyed Refusal
survey_from any f [] = cond any (Ok Regions) (Ok NoRegion)
survey_from any f (OfSpan x ∷ es) = survey_from any f es
survey_from any f (OfRegion g ∷ es) = survey_from true f es
survey_from any f (OfProblem n k ∷ es) = wrong_or (refusal_of k (place f n)) (survey_from any f es)

-- the refusal that a line of a kind is, at its place
abbrev pub refusal_at : Place → Kind → Option Refusal
refusal_at p Plain = None
refusal_at p Fence = None
refusal_at p (Fault problems.NestedRegion) = Some (NestedRegion p)
refusal_at p (Fault problems.FragmentMarker) = Some (FragmentMarker p)
refusal_at p (Fault k) = None
refusal_at p Closes = None
refusal_at p (Opens g) = None
refusal_at p (Spans i) = None

-- whether a line of a kind closes a region
abbrev pub closes : Kind → Bool
closes Plain = false
closes Fence = false
closes (Fault k) = false
closes Closes = true
closes (Opens g) = false
closes (Spans i) = false

-- the answer at the text's end
abbrev pub survey_end : Bool → ℕ → Option Opener → Result Surveyed Refusal
survey_end any f None = cond any (Ok Regions) (Ok NoRegion)
survey_end any f (Some g) = Err (UnclosedRegion (place f g.marker.line))
