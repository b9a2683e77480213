-- A member's lines, one after the other, with a title among those before or not. Nothing here is document 01's: inner functions promise it.
use Rattle.std.specs.Prelude.{ℕ, ◌+◌, ◌^◌, ◌≤◌, ◌<◌, ◌≡◌, Bool, cond, ◌||◌, eqb, Option, Some, None, is_some}
use Rattle.heading.specs.Level.{shallower, deeper}
use Rattle.heading.specs.declared.walk.LineKind.{LineKind}
use Rattle.heading.specs.declared.walk.LineKind.TheVariants.{Quoted, Heading, Other}
use Rattle.shift.specs.Levels.{top_in, deepest_in}
use Rattle.text.specs.declared.part.Part.{Part}
use Rattle.outline.specs.declared.Seen.{Seen}

-- whether there is a title among the lines up to one of this kind: the first H1
abbrev pub titled_by : Bool → LineKind → Bool
titled_by t Quoted = t
titled_by t (Heading n x y) = t || eqb n 1
titled_by t Other = t

-- what a line is where the title is no heading to be moved
abbrev pub moved_kind : Bool → LineKind → LineKind
moved_kind t Quoted = Quoted
moved_kind t (Heading n x y) = cond t (Heading n x y) (cond (eqb n 1) Other (Heading n x y))
moved_kind t Other = Other

-- where the title's text stands, with a line more of this kind that starts at place a
abbrev pub title_at : Option Part → ℕ → LineKind → Option Part
title_at o a Quoted = o
title_at (Some p) a (Heading n x y) = Some p
title_at None a (Heading n x y) = cond (eqb n 1) (Some (record { start = a + x; end = a + y })) None
title_at o a Other = o

-- a heading's text stands where a machine's number can say
abbrev pub Placed : LineKind → ℕ → Type 0
Placed Quoted a = Unit {0}
Placed (Heading n x y) a = (x ≤ y) × (a + y < 2 ^ 64)
Placed Other a = Unit {0}

-- what is seen with one line more
pub record SeenWith (z : Seen) (a : ℕ) (k : LineKind) (r : Seen) : Type 0 where
  pub title : r.title ≡ title_at z.title a k
  pub top : top_in r.levels ≡ shallower (top_in z.levels) (moved_kind (is_some z.title) k)
  pub deepest : deepest_in r.levels ≡ deeper (deepest_in z.levels) (moved_kind (is_some z.title) k)
