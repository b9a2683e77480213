-- Document 01, "Gauging checks", on the definitions: K5 and K12. Assumes nothing.
use Rattle.std.specs.Prelude.{Some, None}
use Prim.Native.Nat.{ℕ}
use mathlib.Core.Path.{◌≡◌, refl}
use mathlib.Core.Bool.{cond}
use mathlib.Core.List.{List}
use Rattle.text.specs.Bytes.{first, after_last}
use Rattle.text.specs.Pattern.{bytes, starts_with, equals, find}
use Rattle.text.specs.Split.{split, join}
use Rattle.path.specs.Path.{parent_dir, step, walked, resolve}
use Rattle.link.specs.Target.{target_of, rewrite_target}

-- K5 `../../a.md` in `docs`: `a.md`. K12 URL `https://h/`, member `docs/a.md`, `../c.md#k`: `https://h/blob/main/c.md#k`
abbrev pub Checks : Type 0
Checks =
    (resolve (bytes "docs") (bytes "../../a.md") ≡ bytes "a.md")
    × ((title : List ℕ)
    → rewrite_target (λ name. cond (equals (bytes "docs/a.md") name) (Some title) None) (bytes "https://h/") (parent_dir (bytes "docs/a.md")) (bytes "../c.md#k")
    ≡ bytes "https://h/blob/main/c.md#k")

pub checks : Checks
unfolding first after_last starts_with equals find split join step walked resolve target_of rewrite_target
checks = (refl, λ title. refl)
