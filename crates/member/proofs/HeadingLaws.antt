-- Laws of headings among the lines kept: lines that are none, passed one after the other. Assumes nothing.
use Rattle.std.specs.Prelude.{Option, Some, None}
use Prim.Native.Nat.{ℕ, zero, suc, ◌+◌, ◌≤◌, ◌<◌}
use native.Mathlib.Omega.{arith}
use mathlib.Core.Path.{◌≡◌, refl, sym, ap, ◌∙◌, subst}
use mathlib.Core.Bool.{Bool}
use mathlib.Core.List.{List, [], ◌∷◌, ◌++◌, append_assoc}
use lib.ListN.{length, length-append}
use Rattle.text.specs.Bytes.{part}
use Rattle.text.proofs.BytesLaws.{part_full}
use Rattle.fence.specs.declared.Fence.{Fence}
use Rattle.heading.specs.Walk.{still_kind}
use Rattle.heading.specs.declared.walk.LineKind.{LineKind}
use Rattle.heading.specs.declared.walk.LineKind.TheVariants.{Quoted, Heading, Other}
use Rattle.heading.proofs.WalkLaws.{kind-within}
use Rattle.shift.specs.Shift.{Told}
use Rattle.text.proofs.PartLaws.{part-part}
use Rattle.member.specs.Lines.{left_of, CursorIn, IsLine, IsPlain, Plain, IsHeading}
use Rattle.member.specs.Passed.{PassedLines, PassedTo}
use Rattle.member.specs.declared.lines.LineCursor.{LineCursor}

-- the cursor behind a line stands in the text, and further on
pub line-next : {s : List ℕ} {c d : LineCursor} {a e : ℕ} {k : LineKind} → CursorIn c s → IsLine s c a e k d → CursorIn d s × (c.at < d.at)
line-next h l = rw l.after (omega (arith, l.order, l.forward, l.within))

-- one line more
plain_more : (ts : List Told) (t : Told) → Plain ts → IsPlain t.kind → Plain (ts ++ (t ∷ []))
unfolding Plain
plain_more [] t p q = (q, tt)
plain_more (u ∷ ts) t p q = (p.0, plain_more ts t p.1 q)

plain-append : (ts us : List Told) → Plain ts → Plain us → Plain (ts ++ us)
unfolding Plain
plain-append [] us p q = q
plain-append (t ∷ ts) us p q = (p.0, plain-append ts us p.1 q)

-- the lines between two cursors are no headings
pub record NoHeadings (s : List ℕ) (from c : LineCursor) : Type 0 where
  pub cursor : CursorIn c s
  pub order : from.at ≤ c.at
  pub passed : List Told
  pub plain : Plain passed
  pub left : left_of from s ≡ passed ++ left_of c s
  pub count : c.line ≡ from.line + length passed

pub passed_none : {s : List ℕ} {c : LineCursor} → CursorIn c s → NoHeadings s c c
unfolding Plain
passed_none h = record { cursor = h; order = omega arith; passed = []; plain = tt; left = refl; count = omega arith }

-- no line is left
pub passed-end : {s : List ℕ} {from c : LineCursor} → NoHeadings s from c → left_of c s ≡ [] → Plain (left_of from s)
unfolding Plain
passed-end p e = subst Plain (sym (p.left ∙ ap (λ (ts : List Told). p.passed ++ ts) e)) (plain-append p.passed [] p.plain tt)

-- a line that is no heading
pub passed-plain : {s : List ℕ} {from c d : LineCursor} {a e : ℕ} {k : LineKind} → NoHeadings s from c → IsLine s c a e k d → IsPlain k → NoHeadings s from d
passed-plain {s} {from} {c} {d} {a} {e} {k} p l q =
    let t : Told = record { kind = k; bytes = part a e s } in
    let n = line-next p.cursor l in
    record {
      cursor = n.0;
      order = omega (arith, p.order);
      passed = p.passed ++ (t ∷ []);
      plain = plain_more p.passed t p.plain q;
      left = p.left ∙ ap (λ (ts : List Told). p.passed ++ ts) l.left ∙ sym (append_assoc p.passed (t ∷ []) (left_of d s));
      count = rw l.after (omega (arith, p.count, length-append p.passed (t ∷ [])));
    }

-- lines passed over by their first bytes
pub still-plain : (f : Option Fence) → IsPlain (still_kind f)
still-plain None = tt
still-plain (Some f) = tt

pub passed-still : {s : List ℕ} {u : Bool} {from c d : LineCursor} {m n : ℕ} → NoHeadings s from c → PassedTo s u c m d n → NoHeadings s from d
unfolding PassedLines
passed-still {s} {u} {from} {c} {d} {m} {n} p h = go h.count d n h.lines
  where
    go : (i : ℕ) (d : LineCursor) (n : ℕ) → PassedLines i s u c m d n → NoHeadings s from d
    go zero d n k = subst (NoHeadings s from) (sym k.0) p
    go (suc i) d n (x, e, k, l) = passed-plain (go i x e k) l.line (still-plain x.state.fence)

pub not_heading : (k : LineKind) → ((n a e : ℕ) → k ≡ Heading n a e → ⊥) → IsPlain k
not_heading Quoted h = tt
not_heading (Heading n a e) h = h n a e refl
not_heading Other h = tt

-- a heading stands in the text
pub heading_in : {s : List ℕ} {c d : LineCursor} {a e n x y : ℕ} → IsLine s c a e (Heading n x y) d → (a + x ≤ a + y) × (a + y ≤ length s)
heading_in {s} {c} {d} {a} {e} {n} {x} {y} l =
    let w = kind-within c.state.fence c.state.comment (part a e s) n x y (sym l.kind) in
    omega (arith, part_full s a e l.within, l.within, l.forward)

pub passed-heading : {s : List ℕ} {from c d : LineCursor} {a e n x y : ℕ} → NoHeadings s from c → IsLine s c a e (Heading n x y) d → IsHeading s from n (a + x) (a + y) d
passed-heading {s} {from} {c} {d} {a} {e} {n} {x} {y} p l =
    let w = kind-within c.state.fence c.state.comment (part a e s) n x y (sym l.kind) in
    let f = part_full s a e l.within in
    let m = line-next p.cursor l in
    record {
      passed = p.passed;
      line = part a e s;
      start = x;
      end = y;
      plain = p.plain;
      left = p.left ∙ ap (λ (ts : List Told). p.passed ++ ts) l.left;
      text = sym (part-part s a e x y (omega (arith, l.forward)));
      count = rw l.after (omega (arith, p.count));
      level = w.0;
      forward = (heading_in l).0;
      within = (heading_in l).1;
      next = m.0;
      later = omega (arith, p.order);
    }
