-- The parts of a path from the last one to the first. Nothing here is document 01's: inner functions promise it, and the laws of `proofs/` tie it to `resolve`.
use Rattle.std.specs.Prelude.{ℕ, zero, suc, ◌+◌, ◌-◌, ◌≤◌, ◌<◌, Bool, true, false, cond, List, [], ◌∷◌, ◌++◌, ◌≡◌, length, take, drop, Option, Some, None}
use Rattle.path.specs.declared.PathPart.{PathPart}
use Rattle.text.specs.Bytes.{part}
use Rattle.text.specs.Pattern.{ends_with}
use Rattle.text.specs.Split.{split}
use Rattle.path.specs.Path.{SLASH, base, goes, is_up}
use Rattle.path.specs.declared.BackPart.{BackPart}
use Rattle.path.specs.declared.BackPart.TheVariants.{Kept, Above}
use Rattle.path.specs.declared.PathCursor.{PathCursor}

-- a part before the text of the parts behind it
abbrev pub put : List ℕ → List ℕ → List ℕ
put p [] = p
put p (x ∷ t) = p ++ (SLASH ∷ x ∷ t)

-- how many `..` still have to drop a part, and the text of the parts kept
pub record Tail : Type 0 where
  pub up : ℕ
  pub text : List ℕ

abbrev pub tail : ℕ → List ℕ → Tail
tail n t = record { up = n; text = t }

abbrev pub dropped : List ℕ → ℕ → List ℕ → Tail
dropped p zero t = tail zero (put p t)
dropped p (suc n) t = tail n t

unfoldable pub before : List ℕ → Tail → Tail
before p t = cond (goes p) t (cond (is_up p) (tail (suc t.up) t.text) (dropped p t.up t.text))

unfoldable pub tail_of : List (List ℕ) → Tail → Tail
tail_of [] t = t
tail_of (p ∷ ps) t = before p (tail_of ps t)

-- the parts of a text's first n - 1 bytes; none where n is 0
abbrev pub parts_left : ℕ → List ℕ → List (List ℕ)
parts_left zero s = []
parts_left (suc n) s = split SLASH (take n s)

-- the last part kept of what is left, and what is left before it; or none, and how many parts are still to be dropped
abbrev pub Back : List ℕ → ℕ → ℕ → BackPart → Type 0
Back s left up (Kept a e) =
    ((a < e) × (e < left)) × ((t : List ℕ) → tail_of (parts_left left s) (tail up t) ≡ tail_of (parts_left a s) (tail 0 (put (part a e s) t)))
Back s left up (Above n) = (n ≤ up + left) × ((t : List ℕ) → tail_of (parts_left left s) (tail up t) ≡ tail n t)

abbrev pub cursor : Bool → ℕ → PathCursor
cursor i n = record { inside = i; left = n }

-- a cursor at the end of a path
abbrev pub from_end : List ℕ → PathCursor
from_end path = cursor false (length path + 1)

-- the parts that a cursor in a path, or in the directory before it, has left
abbrev pub rest : List ℕ → List ℕ → PathCursor → List (List ℕ)
rest dir path c = cond c.inside (parts_left c.left dir) (base dir path ++ parts_left c.left path)

-- at least as many bytes as these parts have, each with a `/`
abbrev pub weight : List ℕ → PathCursor → ℕ
weight dir c = cond c.inside c.left (c.left + suc (length dir))

-- the text that holds a part, and the part
abbrev pub holder : List ℕ → List ℕ → Bool → List ℕ
holder dir path true = dir
holder dir path false = path

abbrev pub piece : List ℕ → List ℕ → PathCursor → ℕ → List ℕ
piece dir path b e = part b.left e (holder dir path b.inside)

-- a part lies within its text
abbrev pub Bounded : List ℕ → List ℕ → PathCursor → ℕ → Type 0
Bounded dir path b e = (b.left < e) × (e ≤ length (holder dir path b.inside))

-- the cursor lies within its text
abbrev pub Within : List ℕ → List ℕ → PathCursor → Type 0
Within dir path c = c.left ≤ suc (length (holder dir path c.inside))

-- a part of the directory, or none
abbrev pub in_dir : BackPart → Option PathPart
in_dir (Kept a e) = Some (record { before = cursor true a; end = e })
in_dir (Above n) = None

-- the last part kept of what cursor c has left ends at e, and cursor b has left what stands before it
pub record LastKept (dir path : List ℕ) (c b : PathCursor) (e : ℕ) : Type 0 where
  pub bounded : Bounded dir path b e
  pub less : weight dir b + suc (e - b.left) ≤ weight dir c
  pub same : (t : List ℕ) → (tail_of (rest dir path c) (tail 0 t)).text ≡ (tail_of (rest dir path b) (tail 0 (put (piece dir path b e) t))).text

-- the same of an answer, which may be that no part is left
abbrev pub LastPart : List ℕ → List ℕ → PathCursor → Option PathPart → Type 0
LastPart dir path c (Some p) = LastKept dir path c p.before p.end
LastPart dir path c None = (t : List ℕ) → (tail_of (rest dir path c) (tail 0 t)).text ≡ t

-- where a name goes on from, once a part is put before its bytes from a place on; or that it does not end so
abbrev pub FoundPart : List ℕ → List ℕ → ℕ → Option ℕ → Type 0
FoundPart p name at (Some a) = (a ≤ at) × (drop a name ≡ put p (drop at name))
FoundPart p name at None = ends_with (put p (drop at name)) name ≡ false
