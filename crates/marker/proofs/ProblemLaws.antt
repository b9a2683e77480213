-- Each problem is the one of its number. Assumes nothing.
use mathlib.Core.Path.{◌≡◌, refl}
use Rattle.marker.specs.Problems.{number_of, of_number}
use Rattle.marker.specs.declared.problem.Problem.{Problem}
use Rattle.marker.specs.declared.problem.Problem.TheVariants.{MarkerInFence}

pub numbered : (p : Problem) → of_number (number_of p) ≡ p
unfolding of_number
numbered MarkerInFence = refl
numbered p = refl
