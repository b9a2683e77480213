-- Laws of `specs/Emission.antt`: a member's lines one after the other, and those that are left. Assumes nothing.
use Prim.Native.Nat.{ℕ, zero, suc, ◌+◌}
use native.Mathlib.Numerals.{add-one}
use mathlib.Core.Path.{◌≡◌, refl, ap, ◌∙◌}
use mathlib.Core.Bool.{Bool, true, false, cond}
use mathlib.Core.List.{List, [], ◌∷◌, ◌++◌, map}
use lib.Dec.{eqb}
use lib.IntN.{ℤ}
use Rattle.text.specs.Lines.{LF, led}
use Rattle.text.specs.Split.{join}
use Rattle.text.proofs.LedLaws.{join-led}
use Rattle.heading.specs.declared.walk.LineKind.{LineKind}
use Rattle.heading.specs.declared.walk.LineKind.TheVariants.{Quoted, Heading, Other}
use Rattle.shift.specs.Shift.{Told}
use Rattle.put.specs.NewText.{KindIn}
use Rattle.member.specs.Member.{movable}
use Rattle.outline.specs.Seen.{titled_by, moved_kind}
use Rattle.emitted.specs.Emitted.{emitted_line, break_before}

-- what a line is has its places in the line
pub kind-kept : (n : ℕ) (titled : Bool) (k : LineKind) → KindIn n k → KindIn n (moved_kind titled k)
kind-kept n titled Quoted w = tt
kind-kept n true (Heading m a e) w = w
kind-kept n false (Heading m a e) w = go (eqb m 1)
  where
    go : (b : Bool) → KindIn n (cond b Other (Heading m a e))
    go true = tt
    go false = w
kind-kept n titled Other w = tt

-- lines that are left, where the title stands before them or not, and n lines stand before them
module _ (f : List ℕ → List ℕ) (z : ℤ) where
  abbrev leftLines : Bool → List Told → List (List ℕ)
  leftLines titled ts = map (emitted_line f z) (cond titled ts (movable ts))

  abbrev pub left_text : ℕ → Bool → List Told → List ℕ
  left_text zero titled ts = join LF (leftLines titled ts)
  left_text (suc n) titled ts = led (leftLines titled ts)

  abbrev pub new_line : Bool → Told → List ℕ
  new_line titled t = emitted_line f z (record { kind = moved_kind titled t.kind; bytes = t.bytes })

  lines_next : (titled : Bool) (t : Told) (ts : List Told) → leftLines titled (t ∷ ts) ≡ new_line titled t ∷ leftLines (titled_by titled t.kind) ts
  unfolding movable
  lines_next titled t ts = by titled t.kind refl
    where
      by : (b : Bool) (k : LineKind) → t.kind ≡ k → leftLines b (t ∷ ts) ≡ emitted_line f z (record { kind = moved_kind b k; bytes = t.bytes }) ∷ leftLines (titled_by b k) ts
      by true Quoted e = rw e
      by true (Heading n x y) e = rw e
      by true Other e = rw e
      by false Quoted e = rw e
      by false (Heading n x y) e = title (eqb n 1) refl
        where
          title : (b : Bool) → eqb n 1 ≡ b → leftLines false (t ∷ ts) ≡ emitted_line f z (record { kind = cond b Other (Heading n x y); bytes = t.bytes }) ∷ leftLines b ts
          title true q = rw (e, q)
          title false q = rw (e, q)
      by false Other e = rw e

  pub text-next : (n : ℕ) (titled : Bool) (t : Told) (ts : List Told)
      → left_text n titled (t ∷ ts) ≡ break_before n ++ (new_line titled t ++ left_text (n + 1) (titled_by titled t.kind) ts)
  unfolding led
  text-next zero titled t ts = ap (join LF) (lines_next titled t ts) ∙ join-led (new_line titled t) (leftLines (titled_by titled t.kind) ts)
  text-next (suc n) titled t ts = ap led (lines_next titled t ts) ∙ rw (add-one (suc n))

  pub text-none : (n : ℕ) (titled : Bool) → left_text n titled [] ≡ []
  unfolding led join movable
  text-none zero true = refl
  text-none zero false = refl
  text-none (suc n) true = refl
  text-none (suc n) false = refl
