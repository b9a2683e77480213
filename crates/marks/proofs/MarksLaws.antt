-- Laws of the table of marks: a place that is marked, and the three places of a number. Assumes nothing.
use Prim.Native.Nat.{ℕ, ◌%◌, ◌≤◌, ◌<◌}
use native.Mathlib.Omega.{arith}
use mathlib.Core.Path.{◌≡◌, refl, sym, ◌∙◌}
use mathlib.Core.Bool.{Bool, true, false, ◌&&◌, false≢true}
use Rattle.text.proofs.PatternLaws.{and_left, and_right}
use mathlib.Core.Logic.{◌⊎◌, inl, inr}
use mathlib.Core.List.{List}
use lib.Dec.{eqb}
use lib.ListN.{length, get_or, set, length-set}
use lib.Seq.{get_or-set_same, get_or-set_other}
use borrow.Author.Tests.{eqb-true, eqb-false}
use Rattle.marks.specs.Marks.{MANY, mark_of, print_of, Holds, HasOther, place_one, place_two, place_three, Mark, Marks}

module _ (t : List ℕ) (at mine : ℕ) (h : at < length t) where
  -- a place once x stands there, which is the mark or MANY, and so for those of which the place told
  made : (x : ℕ) (r : Bool) → (x ≡ MANY) ⊎ (x ≡ mine) → ((m : ℕ) → 1 ≤ m → Holds t at m → (x ≡ MANY) ⊎ (x ≡ m))
      → (r ≡ false → (m : ℕ) → 1 ≤ m → print_of m ≡ print_of mine → Holds t at m → m ≡ mine)
      → (r ≡ true → HasOther t at mine) → ((x ≡ mine → ⊥) → HasOther t at mine) → Mark t (set t at x) at mine r
  made x r own still alone spared apart = record {
    long = length-set t at x;
    still = λ p m l k. go p m l k (eqb p at) refl;
    own = rw (get_or-set_same t at x 0 h) own;
    alone = alone;
    spared = spared;
    apart = λ p o. before p (eqb p at) refl o;
  }
    where
      before : (p : ℕ) (b : Bool) → eqb p at ≡ b → HasOther (set t at x) p mine → HasOther t p mine
      before p true e o = let q = eqb-true p at e in rw q (apart (λ z. o.1 (rw (q, get_or-set_same t at x 0 h) z)))
      before p false e o = rw (get_or-set_other t at p x 0 (eqb-false p at e)) at o

      go : (p m : ℕ) → 1 ≤ m → Holds t p m → (b : Bool) → eqb p at ≡ b → Holds (set t at x) p m
      go p m l k true e = let q = eqb-true p at e in rw (q, get_or-set_same t at x 0 h) (still m l (rw q at k))
      go p m l k false e = rw (get_or-set_other t at p x 0 (eqb-false p at e)) k

  -- a place that is free or has one mark has no other
  alone_at : (get_or t at 0 ≡ 0) ⊎ (get_or t at 0 ≡ mine) → mine ≤ 192 → (m : ℕ) → 1 ≤ m → Holds t at m → m ≡ mine
  alone_at (inl z) k m l (inl e) = omega arith
  alone_at (inl z) k m l (inr e) = omega arith
  alone_at (inr z) k m l (inl e) = omega arith
  alone_at (inr z) k m l (inr e) = omega arith

  -- the ways of marking
  pub mark-left : mine ≤ 192 → get_or t at 0 ≡ mine → Mark t t at mine false
  mark-left k e = record { long = refl; still = λ p m l w. w; own = inr e; alone = λ q m l s. alone_at (inr e) k m l; spared = λ q. absurd (false≢true q); apart = λ p o. o }

  pub mark-free : mine ≤ 192 → get_or t at 0 ≡ 0 → Mark t (set t at mine) at mine false
  mark-free k e =
      made mine false (inr refl) (λ m l w. inr (sym (alone_at (inl e) k m l w))) (λ q m l s. alone_at (inl e) k m l) (λ q. absurd (false≢true q)) (λ z. absurd (z refl))

  pub mark-many : (r : Bool) → (get_or t at 0 ≡ 0 → ⊥) → (get_or t at 0 ≡ mine → ⊥) → (r ≡ false → (get_or t at 0 ≡ MANY → ⊥) × (print_of (get_or t at 0) ≡ print_of mine → ⊥))
      → Mark t (set t at MANY) at mine r
  mark-many r y z p = made MANY r (inl refl) (λ m l w. inl refl) alone (λ q. (y, z)) (λ q. (y, z))
    where
      alone : r ≡ false → (m : ℕ) → 1 ≤ m → print_of m ≡ print_of mine → Holds t at m → m ≡ mine
      alone q m l s (inl e) = absurd ((p q).0 e)
      alone q m l s (inr e) = absurd ((p q).1 (rw e s))

-- marks of one number have one print, and tell files apart
one_print : (number file : ℕ) → 1 ≤ file → file ≤ 64 → print_of (mark_of number file) ≡ number % 3
one_print number file h k = omega arith

-- the places of a number, marked one after the other
module _ {t t₁ t₂ t₃ : List ℕ} {number file mine : ℕ} (one : 1 ≤ file) (most : file ≤ 64) (is : mine ≡ mark_of number file) where
  pub marks : (a b c : Bool) → Mark t t₁ (place_one number (length t)) mine a → Mark t₁ t₂ (place_two number (length t)) mine b → Mark t₂ t₃ (place_three number (length t)) mine c
      → Marks t t₃ number file (a && b && c)
  marks a b c m n o = record {
    long = long;
    still = λ k f l w. record {
      one = rw long (on (place_one k (length t)) k f l w.one);
      two = rw long (on (place_two k (length t)) k f l w.two);
      three = rw long (on (place_three k (length t)) k f l w.three);
    };
    own = record {
      one = rw (long, ← is) (o.still _ mine first (n.still _ mine first m.own));
      two = rw (long, ← is) (o.still _ mine first n.own);
      three = rw (long, ← is) o.own;
    };
    alone = λ q f l s w.
        let v : ℕ = mark_of number f in
        let g : 1 ≤ v = omega arith in
        let p : print_of v ≡ print_of mine = one_print number f l s ∙ rw is (sym (one_print number file one most)) in
        let e : v ≡ mine = alone a b c (λ e. m.alone e v g p w.one) (λ e. n.alone e v g p (m.still _ v g w.two))
        (λ e. o.alone e v g p (n.still _ v g (m.still _ v g w.three))) q in
        omega arith;
    spared = λ q.
        let r = and_left (a && b) c q in
        rw (← is) (m.spared (and_left a b r), (m.apart _ (n.spared (and_right a b r)), m.apart _ (n.apart _ (o.spared (and_right (a && b) c q)))));
  }
    where
      long : length t₃ ≡ length t
      long = o.long ∙ n.long ∙ m.long

      first : 1 ≤ mine
      first = omega arith

      on : (p k f : ℕ) → 1 ≤ f → Holds t p (mark_of k f) → Holds t₃ p (mark_of k f)
      on p k f l w = let g : 1 ≤ mark_of k f = omega arith in o.still p _ g (n.still p _ g (m.still p _ g w))

      alone : {v : ℕ} (a b c : Bool) → (a ≡ false → v ≡ mine) → (b ≡ false → v ≡ mine) → (c ≡ false → v ≡ mine) → (a && b && c) ≡ false → v ≡ mine
      alone false b c x y z q = x refl
      alone true false c x y z q = y refl
      alone true true c x y z q = z q
