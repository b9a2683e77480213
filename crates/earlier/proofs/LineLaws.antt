-- Laws of `specs/Earlier.antt` on the lines of one member: lines that are no headings, and the next heading. Assumes nothing.
use Rattle.std.specs.Prelude.{Some, None}
use Prim.Native.Nat.{ℕ, suc, ◌+◌, ◌≤◌, zero-le}
use native.Mathlib.Nat.{add-zero}
use native.Mathlib.Omega.{arith}
use mathlib.Core.Path.{◌≡◌, refl, ap, ◌∙◌}
use mathlib.Core.Bool.{true, false, cond}
use mathlib.Core.List.{List, [], ◌∷◌, ◌++◌, append-nil}
use lib.ListN.{length}
use Rattle.text.specs.Bytes.{part}
use Rattle.text.specs.Pattern.{equals}
use Rattle.text.proofs.BytesLaws.{part_length}
use Rattle.anchor.specs.Anchor.{slug}
use Rattle.heading.specs.declared.walk.LineKind.{LineKind}
use Rattle.heading.specs.declared.walk.LineKind.TheVariants.{Quoted, Heading, Other}
use Rattle.heading.specs.Walk.{walk_begin}
use Rattle.shift.specs.Shift.{Told, told_from}
use Rattle.put.specs.Put.{source_text, part_of}
use Rattle.put.specs.declared.Source.{Source}
use Rattle.put.proofs.PutLaws.{source-part}
use Rattle.member.specs.Member.{without_contents}
use Rattle.member.specs.Lines.{kept_lines, left_of, at_first, CursorIn, IsPlain, Plain, IsHeading}
use Rattle.member.specs.declared.lines.LineCursor.{LineCursor}
use Rattle.member.proofs.LinesLaws.{lines_on_lem}
use Rattle.earlier.specs.Earlier.{bears, line_of}

-- a cursor before the first line has all lines kept left
pub first_in : (s : List ℕ) → CursorIn at_first s
first_in s = (omega arith, omega arith)

pub first-left : (s : List ℕ) → left_of at_first s ≡ kept_lines s
first-left s = ap (λ (ls : List (List ℕ)). told_from walk_begin (without_contents false ls)) (lines_on_lem s 0 zero-le)

-- a line that is no heading
plain-bears : (a : List ℕ) (k : LineKind) (l : List ℕ) → IsPlain k → bears a (record { kind = k; bytes = l }) ≡ false
plain-bears a Quoted l p = refl
plain-bears a (Heading n b e) l p = absurd p
plain-bears a Other l p = refl

-- lines that are none, before others
line_plain : (a : List ℕ) (n : ℕ) (ps ts : List Told) → Plain ps → line_of a n (ps ++ ts) ≡ line_of a (n + length ps) ts
unfolding line_of Plain
line_plain a n [] ts p = rw (add-zero n)
line_plain a n (t ∷ ps) ts p =
    let e : n + 1 + length ps ≡ n + suc (length ps) = omega arith in
    rw (plain-bears a t.kind t.bytes p.0) (rw e at (line_plain a (n + 1) ps ts p.1))

-- and nothing but those
pub line-none : (a : List ℕ) (n : ℕ) (ts : List Told) → Plain ts → line_of a n ts ≡ None
unfolding line_of
line-none a n ts p = rw (append-nil ts) at (line_plain a n ts [] p)

-- the next heading
module _ {s : List ℕ} {c : LineCursor} {n p q : ℕ} {d : LineCursor} (h : IsHeading s c n p q d) where
  pub number : c.line + 1 + length h.passed ≡ d.line
  number = omega (arith, h.count)

  line-next : (a : List ℕ) → line_of a (c.line + 1) (left_of c s) ≡ cond (equals a (slug (part p q s))) (Some d.line) (line_of a (d.line + 1) (left_of d s))
  unfolding line_of
  line-next a =
      ap (line_of a (c.line + 1)) h.left
      ∙ line_plain a (c.line + 1) h.passed (record { kind = Heading n h.start h.end; bytes = h.line } ∷ left_of d s) h.plain
      ∙ rw (number, h.text)

  pub line_hit : (a : List ℕ) → equals a (slug (part p q s)) ≡ true → line_of a (c.line + 1) (left_of c s) ≡ Some d.line
  line_hit a e = line-next a ∙ rw e

  pub line_miss : (a : List ℕ) → equals a (slug (part p q s)) ≡ false → line_of a (c.line + 1) (left_of c s) ≡ line_of a (d.line + 1) (left_of d s)
  line_miss a e = line-next a ∙ rw e

-- a heading's text, as a part of a source
module _ (source : Source) (contents work : List ℕ) (p q : ℕ) (forward : source.start ≤ source.end) (within : q ≤ length (source_text source contents work)) where
  pub part-fits : source.start + q ≤ source.end
  part-fits = omega (arith, part_length (cond source.work work contents) source.start source.end)

  pub part-text : (x : Source) → x ≡ part_of source p q → source_text x contents work ≡ part p q (source_text source contents work)
  part-text x e = rw e (source-part source contents work p q part-fits)

pub ruleset lines = (first_in, first-left, line-none, line_hit, line_miss)
