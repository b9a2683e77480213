-- Link targets: document 01's `anchor_self_links` and `rewrite_links`, as the Rust's `anchor_self` and `rewrite_target` make them.
use Rattle.std.specs.Prelude.{ℕ, Bool, cond, not, ◌&&◌, ◌||◌, List, ◌∷◌, ◌++◌, length, take, drop, eqb, Option, Some, None}
use Rattle.text.specs.Bytes.{is, first, after_last}
use Rattle.text.specs.Pattern.{bytes, starts_with, equals, contains}
use Rattle.anchor.specs.Anchor.{slug}
use Rattle.path.specs.Path.{SLASH, resolve}

-- a URL, a mail address and an anchor are already right
abbrev pub is_right : List ℕ → Bool
is_right t = starts_with (bytes "#") t || (contains (bytes "://") t || starts_with (bytes "mailto:") t)

-- an empty target names no file; any other that is not right is a path up to its first `#`, and from there on the fragment, which may be empty
unfoldable pub target_of : List ℕ → Option ℕ
target_of t = cond (is_right t || eqb (length t) 0) None (Some (first (is 0x23) t))

abbrev pub not_slash : ℕ → Bool
not_slash x = not (is SLASH x)

-- the repository's URL without trailing `/`
abbrev pub trim_slashes : List ℕ → List ℕ
trim_slashes url = take (after_last not_slash url) url

-- a path out of the set, at the repository
abbrev pub outside : List ℕ → List ℕ → List ℕ
outside url resolved = trim_slashes url ++ (bytes "/blob/main/" ++ resolved)

-- a link to a member goes to the fragment, or where there is none to the anchor of its title; any other path goes to the repository and
-- keeps its fragment
abbrev pub placed : List ℕ → List ℕ → List ℕ → Option (List ℕ) → List ℕ
placed url resolved fragment None = outside url resolved ++ fragment
placed url resolved fragment (Some title) = cond (eqb (length fragment) 0) (0x23 ∷ slug title) fragment

-- `rewrite_target`: titles gives the title of the member that has a name
abbrev pub rewritten : (List ℕ → Option (List ℕ)) → List ℕ → List ℕ → List ℕ → Option ℕ → List ℕ
rewritten titles url dir t None = t
rewritten titles url dir t (Some e) = placed url (resolve dir (take e t)) (drop e t) (titles (resolve dir (take e t)))

unfoldable pub rewrite_target : (List ℕ → Option (List ℕ)) → List ℕ → List ℕ → List ℕ → List ℕ
rewrite_target titles url dir t = rewritten titles url dir t (target_of t)

-- `anchor_self`: a path to the host with a fragment becomes the fragment
abbrev pub anchored : List ℕ → List ℕ → List ℕ → Option ℕ → List ℕ
anchored host dir t None = t
anchored host dir t (Some e) = cond (equals host (resolve dir (take e t)) && not (eqb (length (drop e t)) 0)) (drop e t) t

unfoldable pub anchor_self : List ℕ → List ℕ → List ℕ → List ℕ
anchor_self host dir t = anchored host dir t (target_of t)
