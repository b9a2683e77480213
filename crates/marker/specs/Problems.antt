-- Document 01, "Marker scan": the numbers of its problems.
use Rattle.std.specs.Prelude.{ℕ, cond, eqb}
use Rattle.marker.specs.declared.problem.Problem.{Problem}
use Rattle.marker.specs.declared.problem.Problem.TheVariants.{MarkerInFence, NestedRegion, FragmentMarker, UnclosedRegion, UnclosedFence, StrayCloser, UnclosedSpec, UnclosedSpan, NestedMarker, EmptySpec}

abbrev pub number_of : Problem → ℕ
-- "if it holds `<!--[`: in a fence, problem 1"
number_of MarkerInFence = 1
-- "a region opens (problem 2 if one is open)"
number_of NestedRegion = 2
-- "any other `<!--[fragment:` is 3"
number_of FragmentMarker = 3
-- "Problems at the end: 4 (unclosed region), then 5 (unclosed fence, at the last line)."
number_of UnclosedRegion = 4
number_of UnclosedFence = 5
-- "6 a `/` directly after it"
number_of StrayCloser = 6
-- "7 no later `]-->`"
number_of UnclosedSpec = 7
-- "8 no later `<!--[/]-->` on the line"
number_of UnclosedSpan = 8
-- "9 the text between holds `<!--[`"
number_of NestedMarker = 9
-- "10 empty spec"
number_of EmptySpec = 10

-- the problem of a number; EmptySpec stands for every number but 1 to 9
unfoldable pub of_number : ℕ → Problem
of_number k =
    cond (eqb k 1) MarkerInFence
    (cond (eqb k 2) NestedRegion
    (cond (eqb k 3) FragmentMarker
    (cond (eqb k 4) UnclosedRegion
    (cond (eqb k 5) UnclosedFence
    (cond (eqb k 6) StrayCloser
    (cond (eqb k 7) UnclosedSpec
    (cond (eqb k 8) UnclosedSpan
    (cond (eqb k 9) NestedMarker EmptySpec))))))))
