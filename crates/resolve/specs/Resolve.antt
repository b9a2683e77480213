-- What resolving into a buffer comes to.
use Rattle.std.specs.Prelude.{ℕ, ◌≤◌, ◌<◌, List, ◌≡◌, length, drop, Option, Some, None}
use Rattle.path.specs.Path.{resolve}

-- a path in a directory stands resolved in a buffer from a place to the end, or is longer than the buffer
abbrev pub Resolves : List ℕ → List ℕ → List ℕ → Option ℕ → Type 0
Resolves dir path out (Some a) = (a ≤ length out) × (drop a out ≡ resolve dir path)
Resolves dir path out None = length out < length (resolve dir path)
