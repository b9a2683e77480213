-- Document 01, "Assembly and book": a line of a member emitted.
use Rattle.std.specs.Prelude.{ℕ, List}
use Rattle.heading.specs.declared.walk.LineKind.{LineKind}
use Rattle.heading.specs.declared.walk.LineKind.TheVariants.{Quoted, Heading, Other}
use Rattle.link.specs.Links.{relink}

-- "links outside fences rewritten as `rewrite_links`"
abbrev pub rewrite_line : (List ℕ → List ℕ) → LineKind → List ℕ → List ℕ
rewrite_line f Quoted l = l
rewrite_line f (Heading n a e) l = relink f l
rewrite_line f Other l = relink f l
