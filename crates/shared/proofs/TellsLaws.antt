-- Laws of what the table of marks tells of earlier members. Assumes nothing.
use Rattle.std.specs.Prelude.{None, All}
use Rattle.std.proofs.lemmas.List.Elements.{All-head, All-tail}
use Prim.Native.Nat.{ℕ, ◌≤◌}
use native.Mathlib.Omega.{arith}
use mathlib.Core.Path.{◌≡◌, refl, ◌∙◌}
use mathlib.Core.Bool.{Bool, true, false}
use mathlib.Core.List.{List, [], ◌∷◌, ◌++◌}
use Rattle.text.specs.Bytes.{part}
use Rattle.text.specs.Pattern.{equals}
use Rattle.text.proofs.PatternLaws.{equals-drop}
use Rattle.anchor.specs.Anchor.{slug, anchor_number}
use Rattle.heading.specs.declared.walk.LineKind.{LineKind}
use Rattle.heading.specs.declared.walk.LineKind.TheVariants.{Quoted, Heading, Other}
use Rattle.shift.specs.Shift.{Told}
use Rattle.member.specs.Member.{Prepared}
use Rattle.earlier.specs.Earlier.{earlier}
use Rattle.marks.specs.Marks.{Marked, Marks}
use Rattle.shared.specs.Tells.{TellsKind, TellsLines, Tells}
use Rattle.shared.proofs.LineLaws.{lines_none}
use Rattle.earlier.proofs.EarlierLaws.{earlier-own, earlier_without}

pub equals_self : (s : List ℕ) → equals s s ≡ true
equals_self s = equals-drop s 0 (omega arith)

-- what the table told it tells still
module _ {t u : List ℕ} {number file : ℕ} {maybe : Bool} (m : Marks t u number file maybe) (f : ℕ) (one : 1 ≤ f) where
  kind-still : (k : LineKind) (l : List ℕ) → TellsKind t f k l → TellsKind u f k l
  kind-still Quoted l h = tt
  kind-still (Heading n b e) l h = m.still (anchor_number (slug (part b e l))) f one h
  kind-still Other l h = tt

  pub lines-still : (ts : List Told) → TellsLines t f ts → TellsLines u f ts
  unfolding TellsLines
  lines-still [] h = tt
  lines-still (x ∷ ts) h = (kind-still x.kind x.bytes h.0, lines-still ts h.1)

pub tells_more : (t : List ℕ) (qs : List Prepared) (m : Prepared) → Tells t qs → TellsLines t m.file m.lines → Tells t (qs ++ (m ∷ []))
unfolding Tells
tells_more t [] m h l = (l, tt)
tells_more t (q ∷ qs) m h l = (h.0, tells_more t qs m h.1 l)

pub tells_still : {t u : List ℕ} {number file : ℕ} {maybe : Bool} → Marks t u number file maybe → (qs : List Prepared) → All (λ q. 1 ≤ q.file) qs → Tells t qs → Tells u qs
unfolding Tells
tells_still m [] a h = tt
tells_still m (q ∷ qs) a h = (
  lines-still m q.file (All-head (λ p. 1 ≤ p.file) q qs a) q.lines h.0,
  tells_still m qs (All-tail (λ p. 1 ≤ p.file) q qs a) h.1,
)

-- a member with a number for which there is room in the table, and with one name where it has the number of another
pub record Numbered (file : ℕ) (name : List ℕ) (q : Prepared) : Type 0 where
  pub first : 1 ≤ q.file
  pub last : q.file ≤ 64
  pub same : q.file ≡ file → q.name ≡ name

-- where the table tells of one file only, no earlier member of another name has the anchor
module _ {t name : List ℕ} {file : ℕ} (a : List ℕ) (alone : (f : ℕ) → 1 ≤ f → f ≤ 64 → Marked t (anchor_number a) f → f ≡ file) where
  other : (q : Prepared) → Numbered file name q → equals name q.name ≡ false → Marked t (anchor_number a) q.file → ⊥
  other q n e m =
      let x : q.name ≡ name = n.same (alone q.file n.first n.last m) in
      let y : equals name q.name ≡ true = rw x (equals_self name) in
      let z : ◌≡◌ {A = ℕ} 0 1 = cc in
      omega arith

  pub earlier-none : (qs : List Prepared) → All (Numbered file name) qs → Tells t qs → earlier name a qs ≡ None
  unfolding Tells earlier
  earlier-none [] n h = refl
  earlier-none (q ∷ qs) n h = go (earlier-none qs (All-tail (Numbered file name) q qs n) h.1) (equals name q.name) refl
    where
      go : earlier name a qs ≡ None → (b : Bool) → equals name q.name ≡ b → earlier name a (q ∷ qs) ≡ None
      go r true x = earlier-own name a q qs x ∙ r
      go r false x = earlier_without name a q qs x (lines_none t a q.file 1 q.lines (other q (All-head (Numbered file name) q qs n) x) h.0) ∙ r
