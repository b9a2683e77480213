-- Laws of a loop over a path's parts from the last to the first: what it has measured or written. Assumes nothing.
use Rattle.std.specs.Prelude.{Option, None}
use Prim.Native.Nat.{ℕ, zero, suc, ◌+◌, ◌-◌, ◌≤◌, ◌<◌}
use native.Mathlib.Omega.{arith}
use mathlib.Core.Path.{◌≡◌, refl, sym, ap, subst, ◌∙◌}
use mathlib.Core.Bool.{Bool, true, false, cond}
use mathlib.Core.List.{List, [], ◌∷◌, ◌++◌, append_assoc, append-nil}
use lib.ListN.{length, take, drop, length-append, length-take}
use lib.Seq.{sets, length-sets, take-take, drop-length}
use lib.Dec.{eqb}
use borrow.Author.Tests.{eq-eqb, ne_eqb}
use Rattle.path.specs.declared.PathPart.{PathPart}
use Rattle.text.specs.Bytes.{part}
use Rattle.text.proofs.BytesLaws.{drop_take, part_full}
use Rattle.buffer.proofs.BufferLaws.{sets_before, drop_sets, drop_past}
use Rattle.path.specs.Path.{SLASH, resolve}
use Rattle.path.specs.Backward.{put, weight, holder, piece, from_end, LastKept, LastPart, Bounded}
use Rattle.path.specs.declared.PathCursor.{PathCursor}
use Rattle.path.proofs.PathLaws.{Reached, reached_start, reached_on, reached_root, reached_fits}
use Rattle.resolve.specs.Joined.{lengthened, closed, Closed}

-- how long a text is with a part before it
lengthened-put : (p t : List ℕ) → lengthened (length t) (length p) ≡ length (put p t)
lengthened-put p [] = refl
lengthened-put p (x ∷ t) = omega (arith, length-append p (SLASH ∷ x ∷ t))

lengthened_le : (n k : ℕ) → lengthened n k ≤ n + suc k
lengthened_le zero k = omega arith
lengthened_le (suc n) k = omega arith

-- and how long it may get, with w bytes left before it and v before the part
lengthened_on : (n k v w : ℕ) → v + suc k ≤ w → lengthened (lengthened n k) v ≤ lengthened n w
lengthened_on zero k v w h = omega (arith, lengthened_le k v)
lengthened_on (suc n) k v w h = omega (arith, lengthened_le (suc n + suc k) v)

-- a cursor has passed the parts that make up a text of n bytes
pub record Measured (dir path : List ℕ) (n : ℕ) (c : PathCursor) : Type 0 where
  pub made : List ℕ
  pub size : n ≡ length made
  pub reached : Reached dir path c made
  pub bound : lengthened n (weight dir c) ≤ (length path + length dir) + 2

pub measured_start : (dir path : List ℕ) → Measured dir path 0 (from_end path)
measured_start dir path = record { made = []; size = refl; reached = reached_start dir path; bound = omega arith }

module _ {dir path : List ℕ} {n : ℕ} {c : PathCursor} {b : PathCursor} {e : ℕ} (m : Measured dir path n c) (h : LastKept dir path c b e) where
  pub measured_on : Measured dir path (lengthened n (e - b.left)) b
  measured_on =
      let k : e - b.left ≡ length (piece dir path b e) = sym (part_full (holder dir path b.inside) b.left e h.bounded.1) in
      record {
        made = put (piece dir path b e) m.made;
        size = rw m.size (ap (lengthened (length m.made)) k ∙ lengthened-put (piece dir path b e) m.made);
        reached = reached_on m.reached h;
        bound = omega (arith, lengthened_on n (e - b.left) (weight dir b) (weight dir c) h.less, m.bound);
      }

-- a part of a part
part-take : (l : List ℕ) (n a e : ℕ) → e ≤ n → part a e (take n l) ≡ part a e l
part-take l n a e h = sym (drop_take (take n l) a e) ∙ ap (drop a) (take-take e n l h) ∙ drop_take l a e

-- a part behind what was written
part-past : (l b : List ℕ) (i from to : ℕ) → i + length b ≤ from → part from to (sets l i b) ≡ part from to l
part-past l b i from to h = ap (take (to - from)) (drop_past l b i from h)

-- a part with a `/` behind it
closed-append : (p : List ℕ) (at end : ℕ) → closed at end p ≡ p ++ closed at end []
closed-append p at end = go (eqb at end)
  where
    go : (b : Bool) → cond b p (p ++ (SLASH ∷ [])) ≡ p ++ cond b [] (SLASH ∷ [])
    go true = sym (append-nil p)
    go false = refl

pub closed-length : (p : List ℕ) (at end : ℕ) → length (closed at end p) ≡ length p + length (closed at end [])
closed-length p at end = ap length (closed-append p at end) ∙ length-append p (closed at end [])

-- a part written before the `/`
pub closed_on : (p out₀ out₁ : List ℕ) (at end e a : ℕ) → Closed [] at end out₀ e out₁ → a + length p ≡ e → Closed p at end out₀ a (sets out₁ a p)
closed_on p out₀ out₁ at end e a k q = (
  omega (arith, k.0, closed-length p at end),
  ap (λ (l : List ℕ). sets l a p) k.1 ∙ sets_before out₀ p (closed at end []) a e q ∙ ap (sets out₀ a) (sym (closed-append p at end)),
)

-- and one copied there from behind it
pub closed_down : (out₀ out₁ out₂ : List ℕ) (at end e a from to : ℕ) → Closed [] at end out₀ e out₁ → at ≤ from
    → a + length (part from to out₀) ≡ e → out₂ ≡ sets out₁ a (part from to out₁) → Closed (part from to out₀) at end out₀ a out₂
closed_down out₀ out₁ out₂ at end e a from to k f q g =
    let p = ap (λ (l : List ℕ). part from to l) k.1 ∙ part-past out₀ (closed at end []) e from to (omega (arith, k.0)) in
    let r = closed_on (part from to out₀) out₀ out₁ at end e a k q in
    (r.0, g ∙ ap (sets out₁ a) p ∙ r.1)

pub closed_same : {p q : List ℕ} (at end a : ℕ) (out₀ out₁ : List ℕ) → p ≡ q → Closed p at end out₀ a out₁ → Closed q at end out₀ a out₁
closed_same at end a out₀ out₁ e k = subst (λ (l : List ℕ). Closed l at end out₀ a out₁) e k

pub closed-fits : {p q : List ℕ} (at end : ℕ) → p ≡ q → length (closed at end p) ≤ at → length (closed at end q) ≤ at
closed-fits at end e h = subst (λ (l : List ℕ). length (closed at end l) ≤ at) e h

closed-put : (p t : List ℕ) (at end : ℕ) → at + length t ≡ end → closed at end p ++ t ≡ put p t
closed-put p [] at end e = rw (eq-eqb at end (omega arith)) (append-nil p)
closed-put p (x ∷ t) at end e = rw (ne_eqb at end (λ q. omega arith)) (append_assoc p (SLASH ∷ []) (x ∷ t))

-- a cursor has passed the parts that are written from place `at` to place `end`
pub record Written (dir path : List ℕ) (end : ℕ) (out₀ out : List ℕ) (at : ℕ) (c : PathCursor) : Type 0 where
  pub made : List ℕ
  pub place : at + length made ≡ end
  pub wrote : out ≡ sets out₀ at made
  pub reached : Reached dir path c made

module _ {dir path : List ℕ} {end : ℕ} {out₀ out : List ℕ} {at : ℕ} {c : PathCursor} (w : Written dir path end out₀ out at c) where
  pub written-length : length out ≡ length out₀
  written-length = ap length w.wrote ∙ length-sets out₀ at w.made

  pub written_all : LastPart dir path c None → out ≡ sets out₀ (end - length (resolve dir path)) (resolve dir path)
  written_all h =
      let q : w.made ≡ resolve dir path = reached_root w.reached h in
      let k : at ≡ end - length (resolve dir path) = omega (arith, w.place, ap length q) in
      w.wrote ∙ ap (sets out₀ at) q ∙ ap (λ (n : ℕ). sets out₀ n (resolve dir path)) k

  pub written-end : end ≡ length out₀ → LastPart dir path c None → (at ≤ length out) × (drop at out ≡ resolve dir path)
  written-end e h =
      let t : List ℕ = w.made in (
        omega (arith, w.place, written-length),
        ap (drop at) w.wrote ∙ drop_sets out₀ t at end w.place (omega arith)
            ∙ rw (e, drop-length out₀, append-nil t) (reached_root w.reached h),
      )

  module _ {b : PathCursor} {e : ℕ} (h : LastKept dir path c b e) where
    now-put : closed at end (piece dir path b e) ++ w.made ≡ put (piece dir path b e) w.made
    now-put = closed-put (piece dir path b e) w.made at end w.place

    now-length : length (closed at end (piece dir path b e)) + length w.made ≡ length (put (piece dir path b e) w.made)
    now-length = sym (length-append (closed at end (piece dir path b e)) w.made) ∙ ap length now-put

    pub written-fits : length (resolve dir path) ≤ end → length (closed at end (piece dir path b e)) ≤ at
    written-fits f = omega (arith, w.place, now-length, reached_fits w.reached h)

    now-long : lengthened (end - at) (e - b.left) ≡ length (put (piece dir path b e) w.made)
    now-long =
        let k : e - b.left ≡ length (piece dir path b e) = sym (part_full (holder dir path b.inside) b.left e h.bounded.1) in
        let n : end - at ≡ length w.made = omega (arith, w.place) in
        ap (lengthened (end - at)) k
        ∙ ap (λ (m : ℕ). lengthened m (length (piece dir path b e))) n
        ∙ lengthened-put (piece dir path b e) w.made

    pub written-long : end < lengthened (end - at) (e - b.left) → end < length (resolve dir path)
    written-long f = omega (arith, now-long, reached_fits w.reached h)

    pub written_on : (out₁ : List ℕ) (a : ℕ) → Closed (piece dir path b e) at end out a out₁ → Written dir path end out₀ out₁ a b
    written_on out₁ a k =
        let d : List ℕ = closed at end (piece dir path b e) in
        record {
          made = put (piece dir path b e) w.made;
          place = omega (arith, w.place, now-length, k.0);
          wrote =
              k.1 ∙ ap (λ (l : List ℕ). sets l a d) w.wrote ∙ sets_before out₀ d w.made a at k.0 ∙ ap (sets out₀ a) now-put;
          reached = reached_on w.reached h;
        }

-- a part of what holds a path, where that is longer than the path
held : (dir s : List ℕ) (n a e : ℕ) (i : Bool) → e ≤ length (holder dir (take n s) i)
    → (e ≤ length (holder dir s i)) × (part a e (holder dir s i) ≡ part a e (holder dir (take n s) i))
held dir s n a e true h = (h, refl)
held dir s n a e false h = let l = length-take n s in (omega arith, sym (part-take s n a e (omega arith)))

-- the same where the path stands in the buffer itself, from a place up to another, behind what is written
module _ {dir out₀ out : List ℕ} {from end at : ℕ} {c : PathCursor} (to : ℕ) (f : end ≤ from) (w : Written dir (part from to out₀) end out₀ out at c) where
  down-same : drop from out ≡ drop from out₀
  down-same = ap (drop from) w.wrote ∙ drop_past out₀ w.made at from (omega (arith, w.place))

  down-path : part from to out ≡ part from to out₀
  down-path = ap (take (to - from)) down-same

  pub down_last : (r : Option PathPart) → LastPart dir (part from to out) c r → LastPart dir (part from to out₀) c r
  down_last r h = subst (λ (p : List ℕ). LastPart dir p c r) down-path h

  module _ {b : PathCursor} {e : ℕ} (h : LastKept dir (part from to out₀) c b e) where
    pub down_bounded : Bounded dir (drop from out) b e
    down_bounded = (h.bounded.0, rw down-same (held dir (drop from out₀) (to - from) b.left e b.inside h.bounded.1).0)

    down-piece : piece dir (drop from out) b e ≡ piece dir (part from to out₀) b e
    down-piece = rw down-same (held dir (drop from out₀) (to - from) b.left e b.inside h.bounded.1).1

    pub down_fits : length (resolve dir (part from to out₀)) ≤ end → length (closed at end (piece dir (drop from out) b e)) ≤ at
    down_fits g = closed-fits at end (sym down-piece) (written-fits w h g)

    pub down_on : (out₁ : List ℕ) (a : ℕ) → Closed (piece dir (drop from out) b e) at end out a out₁
        → Written dir (part from to out₀) end out₀ out₁ a b
    down_on out₁ a k = written_on w h out₁ a (closed_same at end a out out₁ down-piece k)
