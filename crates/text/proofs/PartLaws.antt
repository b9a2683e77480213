-- Laws of parts of a text. Assumes nothing.
use Prim.Native.Nat.{ℕ, ◌+◌, ◌-◌, ◌≤◌}
use native.Mathlib.Omega.{arith}
use mathlib.Core.Path.{◌≡◌, sym, ap, ◌∙◌}
use mathlib.Core.List.{List, ◌++◌}
use lib.ListN.{drop, take-append-drop}
use lib.Seq.{take-add, drop-drop, take-take}
use Rattle.text.specs.Bytes.{part}
use Rattle.text.proofs.BytesLaws.{drop_take}

-- parts side by side
pub part_join : (s : List ℕ) (i a e : ℕ) → i ≤ a → a ≤ e → part i a s ++ part a e s ≡ part i e s
part_join s i a e h k =
    let n : i + (a - i) ≡ a = omega arith in
    let m : e - i ≡ (a - i) + (e - a) = omega arith in
    rw m (sym (take-add (a - i) (e - a) (drop i s) ∙ rw (drop-drop (a - i) i s, n)))

pub part-rest : (s : List ℕ) (i a : ℕ) → i ≤ a → part i a s ++ drop a s ≡ drop i s
part-rest s i a h =
    let n : i + (a - i) ≡ a = omega arith in
    let d : drop a s ≡ drop (a - i) (drop i s) = sym (drop-drop (a - i) i s ∙ ap (λ (k : ℕ). drop k s) n) in
    rw d (take-append-drop (a - i) (drop i s))

pub part-drop : (s : List ℕ) (a e n : ℕ) → drop n (part a e s) ≡ part (a + n) e s
part-drop s a e n =
    let k : e - a - n ≡ e - (a + n) = omega arith in
    drop_take (drop a s) n (e - a) ∙ rw (drop-drop n a s, k)

-- a part of a part
pub part-part : (l : List ℕ) (s t a e : ℕ) → s + e ≤ t → part (s + a) (s + e) l ≡ part a e (part s t l)
part-part l s t a e h =
    let k : s + e - (s + a) ≡ e - a = omega arith in
    rw (drop_take (drop s l) a (t - s), take-take (e - a) (t - s - a) (drop a (drop s l)) (omega arith), drop-drop a s l, k)
