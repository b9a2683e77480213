-- Laws of `sets`, by which contracts say what was written to a buffer: writes one after the other, writes to places apart, what then stands
-- up to a place and from a place on, and a turn of a copy. Assumes nothing.
use Prim.Native.Nat.{ℕ, suc, ◌+◌, ◌-◌, ◌≤◌, ◌<◌}
use native.Mathlib.Nat.{add-zero}
use native.Mathlib.Numerals.{add-one}
use native.Mathlib.Omega.{arith}
use mathlib.Core.Path.{◌≡◌, refl, sym, ap, ◌∙◌}
use mathlib.Core.List.{List, [], ◌∷◌, ◌++◌, append_assoc}
use lib.ListN.{length, take, drop, get_or, set, length-append}
use borrow.Rule.Slice.PartMut.{put_mid}
use lib.Seq.{sets, sets-eq, set_comm, take-suc, drop-drop, length-take-le, take_at, drop_at, drop-set-lt, get_or-set_other, get_or-take, get_or-drop}
use Rattle.text.specs.Bytes.{part}
use Rattle.text.proofs.BytesLaws.{part_full}

-- a write behind a write is one write
pub sets_append : (l a b : List ℕ) (i : ℕ) → sets (sets l i a) (i + length a) b ≡ sets l i (a ++ b)
sets_append l [] b i = rw add-zero
sets_append l (x ∷ a) b i =
    let n : i + suc (length a) ≡ suc i + length a = omega arith in
    rw n (sets_append (set l i x) a b (suc i))

-- writes to places apart commute
set_sets : (l b : List ℕ) (i j x : ℕ) → i < j → sets (set l i x) j b ≡ set (sets l j b) i x
set_sets l [] i j x h = refl
set_sets l (y ∷ b) i j x h =
    ap (λ (m : List ℕ). sets m (suc j) b) (set_comm l i j x y (λ e. omega arith)) ∙ set_sets (set l j y) b i (suc j) x (omega arith)

pub sets_comm : (l a b : List ℕ) (i j : ℕ) → i + length a ≤ j → sets (sets l i a) j b ≡ sets (sets l j b) i a
sets_comm l [] b i j h = refl
sets_comm l (x ∷ a) b i j h =
    sets_comm (set l i x) a b (suc i) j (omega arith) ∙ ap (λ (m : List ℕ). sets m (suc i) a) (set_sets l b i j x (omega arith))

-- a write before a write is one write
pub sets_before : (l a b : List ℕ) (i j : ℕ) → i + length a ≡ j → sets (sets l j b) i a ≡ sets l i (a ++ b)
sets_before l a b i j e = sym (sets_comm l a b i j (omega arith)) ∙ ap (λ (k : ℕ). sets (sets l i a) k b) (sym e) ∙ sets_append l a b i

-- what was written stands in front of what stands behind it
pub drop_sets : (l b : List ℕ) (i e : ℕ) → i + length b ≡ e → e ≤ length l → drop i (sets l i b) ≡ b ++ drop e l
drop_sets l b i e q h =
    ap (drop i) (sets-eq b l i (omega arith) ∙ append_assoc (take i l) b (drop (i + length b) l))
    ∙ drop_at (take i l) (b ++ drop (i + length b) l) i (length-take-le i l (omega arith))
    ∙ ap (λ (k : ℕ). b ++ drop k l) q

-- behind what was written nothing has changed
pub drop_past : (l b : List ℕ) (i k : ℕ) → i + length b ≤ k → drop k (sets l i b) ≡ drop k l
drop_past l [] i k h = refl
drop_past l (x ∷ b) i k h = drop_past (set l i x) b (suc i) k (omega arith) ∙ drop-set-lt k l i x (omega arith)

pub get_d_past : (l b : List ℕ) (i k : ℕ) → i + length b ≤ k → get_or (sets l i b) k 0 ≡ get_or l k 0
get_d_past l [] i k h = refl
get_d_past l (x ∷ b) i k h = get_d_past (set l i x) b (suc i) k (omega arith) ∙ get_or-set_other l i k x 0 (λ e. omega arith)

-- what was written stands behind what stood before it
pub take_sets : (l b : List ℕ) (i e : ℕ) → i + length b ≡ e → e ≤ length l → take e (sets l i b) ≡ take i l ++ b
take_sets l b i e q h =
    let n : length (take i l) ≡ i = length-take-le i l (omega arith) in
    ap (take e) (sets-eq b l i (omega arith)) ∙ take_at (take i l ++ b) (drop (i + length b) l) e (length-append (take i l) b ∙ omega arith)

pub set_before : (l : List ℕ) (i x : ℕ) → 0 < i → i ≤ length l → drop (i - 1) (set l (i - 1) x) ≡ x ∷ drop i l
set_before l i x h k = drop_sets l (x ∷ []) (i - 1) i (omega arith) k

-- a part of as many bytes as are written there, once it holds them
pub part_written : (l b : List ℕ) (i : ℕ) → i + length b ≤ length l → put_mid i (length b) l b ≡ sets l i b
part_written l b i h =
    rw (drop-drop (length b) i l) (sym (sets-eq b l i h ∙ append_assoc (take i l) b (drop (i + length b) l)))

-- a turn of a loop that copies
pub sets_more : (l s : List ℕ) (i j : ℕ) → j < length s → set (sets l i (take j s)) (i + j) (get_or s j 0) ≡ sets l i (take (j + 1) s)
sets_more l s i j h =
    let y : List ℕ = get_or s j 0 ∷ [] in
    ap (λ (k : ℕ). sets (sets l i (take j s)) (i + k) y) (sym (length-take-le j s (omega arith)))
    ∙ sets_append l (take j s) y i
    ∙ rw (add-one, take-suc s j 0 h)

-- a turn of a loop that copies within one buffer, down to an earlier place
pub down_more : (l m : List ℕ) (from to at j : ℕ) → at ≤ from → to ≤ length l → j < to - from
    → m ≡ sets l at (take j (part from to l)) → set m (at + j) (get_or m (from + j) 0) ≡ sets l at (take (j + 1) (part from to l))
down_more l m from to at j a h k e =
    let p : List ℕ = part from to l in
    let n : length p ≡ to - from = part_full l from to h in
    let q : length (take j p) ≡ j = length-take-le j p (omega arith) in
    rw e
    (ap (λ (x : ℕ). set (sets l at (take j p)) (at + j) x)
    (get_d_past l (take j p) at (from + j) (omega arith) ∙ sym (get_or-take (to - from) (drop from l) j 0 k ∙ get_or-drop from l j 0))
    ∙ sets_more l p at j (omega arith))
