-- Laws of a source that is read while the work buffer is written. Assumes nothing.
use Prim.Native.Nat.{ℕ, suc, ◌+◌, ◌-◌, ◌≤◌}
use native.Mathlib.Omega.{arith}
use mathlib.Core.Path.{◌≡◌, refl, ◌∙◌}
use mathlib.Core.Bool.{Bool, true, false, cond}
use mathlib.Core.List.{List, [], ◌∷◌}
use lib.ListN.{length, drop, set, replicate, length-append, length-replicate}
use lib.Seq.{sets, drop-set-lt, drop-drop}
use Rattle.text.specs.Bytes.{part}
use Rattle.text.proofs.BytesLaws.{part_full}
use Rattle.text.proofs.PartLaws.{part-part}
use Rattle.heading.specs.Level.{heading_line}
use Rattle.put.specs.Put.{source_text, Held, Inside, part_of}
use Rattle.put.specs.declared.Source.{Source}

-- what stands behind the bytes put stays
pub drop_behind : (x w : List ℕ) (at n : ℕ) → at + length x ≤ n → drop n (sets w at x) ≡ drop n w
drop_behind [] w at n h = refl
drop_behind (a ∷ x) w at n h = drop_behind x (set w at a) (suc at) n (omega arith) ∙ drop-set-lt n w at a (omega arith)

-- how long a heading's hashes and space are
pub hashes-length : (n : ℕ) → length (heading_line n []) ≡ n + 1
hashes-length n = length-append {A = ℕ} (replicate n 0x23) (0x20 ∷ []) ∙ rw (length-replicate n)

-- a source by the buffer that holds it
held_length : (b : Bool) (a e limit : ℕ) (c w : List ℕ) → Held b a e limit (length c) (length w) → length (part a e (cond b w c)) ≡ e - a
held_length true a e limit c w h = part_full w a e h.1
held_length false a e limit c w h = part_full c a e h

held_part : (b : Bool) (s t a e limit c w : ℕ) → a ≤ e → s + e ≤ t → Held b s t limit c w → Held b (s + a) (s + e) limit c w
held_part true s t a e limit c w h k q = (omega arith, omega arith)
held_part false s t a e limit c w h k q = omega arith

held_any : (b : Bool) (a e limit c w : ℕ) → Held b a e limit c w → Held b a e 0 c w
held_any true a e limit c w h = (omega arith, omega arith)
held_any false a e limit c w h = h

held_same : (b : Bool) (a e limit : ℕ) (c w v : List ℕ) → Held b a e limit (length c) (length w) → drop limit v ≡ drop limit w → part a e (cond b v c) ≡ part a e (cond b w c)
held_same true a e limit c w v h q =
    let k : limit + (a - limit) ≡ a = omega arith in
    rw (← k, ← drop-drop (a - limit) limit v, ← drop-drop (a - limit) limit w, q)
held_same false a e limit c w v h q = refl

pub source-part : (source : Source) (c w : List ℕ) (a e : ℕ) → source.start + e ≤ source.end → source_text (part_of source a e) c w ≡ part a e (source_text source c w)
source-part source c w a e h = part-part (cond source.work w c) source.start source.end a e h

module _ (source : Source) (limit c w : ℕ) (inside : Inside source limit c w) where
  pub inside-any : Inside source 0 c w
  inside-any = (inside.0, held_any source.work source.start source.end limit c w inside.1)

  pub inside-part : (a e : ℕ) → a ≤ e → source.start + e ≤ source.end → Inside (part_of source a e) limit c w
  inside-part a e h k = (omega arith, held_part source.work source.start source.end a e limit c w h k inside.1)

module _ (source : Source) (limit : ℕ) (c w : List ℕ) (inside : Inside source limit (length c) (length w)) where
  pub length_inside : length (source_text source c w) ≡ source.end - source.start
  length_inside = held_length source.work source.start source.end limit c w inside.1

  -- a source stays what it was where nothing changes from the limit on
  pub source-same : (v : List ℕ) → drop limit v ≡ drop limit w → source_text source c v ≡ source_text source c w
  source-same v q = held_same source.work source.start source.end limit c w v inside.1 q
