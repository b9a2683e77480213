-- Laws of the first line of a member whose heading goes past, line by line. Assumes nothing.
use Prim.Native.Nat.{ℕ, ◌+◌}
use native.Mathlib.Omega.{arith}
use mathlib.Core.Path.{◌≡◌, sym, ap, ◌∙◌, subst}
use mathlib.Core.Bool.{Bool, true, false, false≢true}
use mathlib.Core.List.{List, [], ◌∷◌}
use lib.IntN.{ℤ}
use Rattle.text.specs.Bytes.{part}
use Rattle.heading.specs.Level.{goes_past, any_past, first_past}
use Rattle.heading.specs.declared.walk.LineKind.{LineKind}
use Rattle.shift.specs.Levels.{HasLevel}
use Rattle.shift.specs.Shift.{Told, kinds_of}
use Rattle.shift.proofs.LevelsLaws.{step-level, Ahead, ahead_here, ahead_turn}
use Rattle.member.specs.Member.{movable}
use Rattle.member.specs.Lines.{left_of, at_first, CursorIn, IsLine}
use Rattle.outline.specs.Outline.{moved_kinds}
use Rattle.outline.specs.Seen.{titled_by, moved_kind}
use Rattle.member.specs.declared.lines.LineCursor.{LineCursor}
use Rattle.member.proofs.HeadingLaws.{line-next}
use Rattle.outline.proofs.TitleLaws.{moved_from, moved_turn, moved_level}
use Rattle.outline.proofs.OutlineLaws.{kept-first}

-- a line that goes past is left, with a title before or not
pub record Below (z : ℤ) (s : List ℕ) (t : Bool) (c : LineCursor) : Type 0 where
  pub cursor : CursorIn c s
  pub ahead : Ahead z (moved_kinds s) (kinds_of (moved_from t (left_of c s))) (c.line + 1)

pub below-first : (z : ℤ) (s : List ℕ) (c : LineCursor) → c ≡ at_first → any_past z (moved_kinds s) ≡ true → Below z s false c
below-first z s c e p =
    let q : kinds_of (movable (left_of at_first s)) ≡ moved_kinds s = ap (λ (ts : List Told). kinds_of (movable ts)) (sym (kept-first s)) in
    rw e (record { cursor = omega arith; ahead = rw q (record { some = p; count = omega arith }) })

-- one is left
pub below-some : {z : ℤ} {s : List ℕ} {c : LineCursor} (t : Bool) → Below z s t c → left_of c s ≡ [] → ⊥
unfolding any_past movable
below-some true b e = false≢true (rw e at b.ahead.some)
below-some false b e = false≢true (rw e at b.ahead.some)

module _ {z : ℤ} {s : List ℕ} {c d : LineCursor} {a e : ℕ} {k : LineKind} (t : Bool) (b : Below z s t c) (l : IsLine s c a e k d) where
  line : kinds_of (moved_from t (left_of c s)) ≡ moved_kind t k ∷ kinds_of (moved_from (titled_by t k) (left_of d s))
  line = ap (λ (ts : List Told). kinds_of (moved_from t ts)) l.left ∙ moved_turn t (record { kind = k; bytes = part a e s }) (left_of d s)

  counted : d.line ≡ c.line + 1
  counted = ap (λ (x : LineCursor). x.line) l.after

  pub below-level : HasLevel (moved_kind t k)
  below-level = moved_level t k (subst HasLevel (sym l.kind) (step-level c.state.fence c.state.comment (part a e s)))

  -- it is the next line
  pub below-here : true ≡ goes_past z (moved_kind t k) → d.line ≡ 1 + first_past z (moved_kinds s)
  below-here q = counted ∙ ahead_here b.ahead line q

  -- it comes later
  pub below-line : {u : Bool} → false ≡ goes_past z (moved_kind t k) → u ≡ titled_by t k → Below z s u d
  below-line q r = record { cursor = (line-next b.cursor l).0; ahead = rw (r, counted) (ahead_turn b.ahead line q) }
