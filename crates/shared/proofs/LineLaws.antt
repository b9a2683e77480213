-- Laws of `specs/Shared.antt` and `specs/Tells.antt` on the lines of one member: lines that are no headings, and the next heading. Assumes nothing.
use Rattle.std.specs.Prelude.{None}
use Prim.Native.Nat.{ℕ, suc, ◌+◌}
use native.Mathlib.Nat.{add-zero}
use native.Mathlib.Omega.{arith}
use mathlib.Core.Path.{◌≡◌, refl, sym, ap, ◌∙◌}
use mathlib.Core.Bool.{Bool, true, false}
use mathlib.Core.List.{List, [], ◌∷◌, ◌++◌, append-nil, append_assoc}
use lib.ListN.{length}
use Rattle.answer.specs.Answer.{place}
use Rattle.text.specs.Bytes.{part}
use Rattle.text.specs.Pattern.{equals}
use Rattle.text.proofs.PatternLaws.{equals-same}
use Rattle.anchor.specs.Anchor.{slug, anchor_number}
use Rattle.heading.specs.declared.walk.LineKind.{LineKind}
use Rattle.heading.specs.declared.walk.LineKind.TheVariants.{Quoted, Heading, Other}
use Rattle.shift.specs.Shift.{Told}
use Rattle.member.specs.Member.{Prepared}
use Rattle.member.specs.Lines.{left_of, IsPlain, Plain, IsHeading}
use Rattle.member.specs.declared.lines.LineCursor.{LineCursor}
use Rattle.earlier.specs.Earlier.{bears, line_of, earlier}
use Rattle.shared.specs.Shared.{shared_at, shared_line, shared_in}
use Rattle.marks.specs.Marks.{Marked}
use Rattle.shared.specs.Tells.{TellsKind, TellsLines}
use Rattle.earlier.proofs.LineLaws.{number}

-- a line that is no heading
plain_shared : (qs : List Prepared) (m : Prepared) (n : ℕ) (k : LineKind) (l : List ℕ) → IsPlain k → shared_line qs m n (record { kind = k; bytes = l }) ≡ []
plain_shared qs m n Quoted l p = refl
plain_shared qs m n (Heading i b e) l p = absurd p
plain_shared qs m n Other l p = refl

plain-told : (t : List ℕ) (file : ℕ) (k : LineKind) (l : List ℕ) → IsPlain k → TellsKind t file k l
plain-told t file Quoted l p = tt
plain-told t file (Heading n b e) l p = absurd p
plain-told t file Other l p = tt

-- lines that are none, before others
shared_plain : (qs : List Prepared) (m : Prepared) (n : ℕ) (ps ts : List Told) → Plain ps → shared_in qs m n (ps ++ ts) ≡ shared_in qs m (n + length ps) ts
unfolding shared_in Plain
shared_plain qs m n [] ts p = rw (add-zero n)
shared_plain qs m n (t ∷ ps) ts p =
    let e : n + 1 + length ps ≡ n + suc (length ps) = omega arith in
    rw (plain_shared qs m n t.kind t.bytes p.0) (rw e at (shared_plain qs m (n + 1) ps ts p.1))

pub tells_plain : (t : List ℕ) (file : ℕ) (ps : List Told) → Plain ps → TellsLines t file ps
unfolding TellsLines Plain
tells_plain t file [] p = tt
tells_plain t file (x ∷ ps) p = (plain-told t file x.kind x.bytes p.0, tells_plain t file ps p.1)

pub tells_append : (t : List ℕ) (file : ℕ) (xs ys : List Told) → TellsLines t file xs → TellsLines t file ys → TellsLines t file (xs ++ ys)
unfolding TellsLines
tells_append t file [] ys p q = q
tells_append t file (x ∷ xs) ys p q = (p.0, tells_append t file xs ys p.1 q)

-- and nothing but those
pub shared_none : (qs : List Prepared) (m : Prepared) (n : ℕ) (ts : List Told) → Plain ts → shared_in qs m n ts ≡ []
unfolding shared_in
shared_none qs m n ts p = rw (append-nil ts) at (shared_plain qs m n ts [] p)

-- the next heading
module _ {s : List ℕ} {c : LineCursor} {n p q : ℕ} {d : LineCursor} (h : IsHeading s c n p q d) where
  pub shared_next : (qs : List Prepared) (m : Prepared)
      → shared_in qs m (c.line + 1) (left_of c s) ≡ shared_at (place m.file d.line) (earlier m.name (slug (part p q s)) qs) ++ shared_in qs m (d.line + 1) (left_of d s)
  unfolding shared_in
  shared_next qs m =
      ap (shared_in qs m (c.line + 1)) h.left
      ∙ shared_plain qs m (c.line + 1) h.passed (record { kind = Heading n h.start h.end; bytes = h.line } ∷ left_of d s) h.plain
      ∙ rw (number h, h.text)

  -- the lines passed, with it
  abbrev pub up_to : List Told
  up_to = h.passed ++ (record { kind = Heading n h.start h.end; bytes = h.line } ∷ [])

  pub left_up : left_of c s ≡ up_to ++ left_of d s
  left_up = h.left ∙ sym (append_assoc h.passed (record { kind = Heading n h.start h.end; bytes = h.line } ∷ []) (left_of d s))

  pub tells_up : (t : List ℕ) (file : ℕ) → Marked t (anchor_number (slug (part p q s))) file → TellsLines t file up_to
  unfolding TellsLines
  tells_up t file m = tells_append t file h.passed (record { kind = Heading n h.start h.end; bytes = h.line } ∷ []) (tells_plain t file h.passed h.plain) (rw h.text m, tt)

-- lines of which the table tells, where it tells of no heading with an anchor
kind-none : (t a : List ℕ) (file : ℕ) (k : LineKind) (l : List ℕ) → (Marked t (anchor_number a) file → ⊥) → TellsKind t file k l → bears a (record { kind = k; bytes = l }) ≡ false
kind-none t a file Quoted l h m = refl
kind-none t a file (Heading n b e) l h m = go (equals a (slug (part b e l))) refl
  where
    go : (x : Bool) → equals a (slug (part b e l)) ≡ x → x ≡ false
    go true q = absurd (h (rw (← equals-same a (slug (part b e l)) q) at m))
    go false q = refl
kind-none t a file Other l h m = refl

pub lines_none : (t a : List ℕ) (file n : ℕ) (ts : List Told) → (Marked t (anchor_number a) file → ⊥) → TellsLines t file ts → line_of a n ts ≡ None
unfolding TellsLines line_of
lines_none t a file n [] h m = refl
lines_none t a file n (x ∷ ts) h m = rw (kind-none t a file x.kind x.bytes h m.0) (lines_none t a file (n + 1) ts h m.1)
