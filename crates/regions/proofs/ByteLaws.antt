-- The lines of a text as its bytes: what stands before, between and after two of its lines. Assumes nothing.
use Prim.Native.Nat.{ℕ, zero, suc, ◌+◌, ◌-◌, ◌≤◌, ◌<◌}
use native.Mathlib.Nat.{sub-zero}
use native.Mathlib.Omega.{arith}
use mathlib.Core.Path.{◌≡◌, sym, ◌∙◌, ap}
use mathlib.Core.List.{List, [], ◌∷◌, ◌++◌}
use lib.ListN.{length, take, drop, length-append, length-drop, take-append-drop}
use lib.Seq.{drop-drop, take_at, drop_at}
use Rattle.text.specs.Bytes.{part, is, first}
use Rattle.text.specs.Lines.{LF, pieces, led}
use Rattle.text.specs.Split.{join}
use Rattle.text.proofs.BytesLaws.{first_le}
use Rattle.text.proofs.SplitLaws.{split-some}
use Rattle.text.proofs.LedLaws.{led-append, text_more, join-split, led-pieces, led-rest}
use Rattle.regions.proofs.PlaceLaws.{Starts}

-- a text in two
text-two : (k : ℕ) (s : List ℕ) → 0 < k → s ≡ join LF (take k (pieces s)) ++ led (drop k (pieces s))
text-two k s h = sym (join-split LF s) ∙ go k (pieces s) h (split-some LF s)
  where
    go : (k : ℕ) (l : List (List ℕ)) → 0 < k → 0 < length l → join LF l ≡ join LF (take k l) ++ led (drop k l)
    go zero l h i = absurd (omega arith)
    go (suc k) [] h i = absurd (omega arith)
    go (suc k) (l ∷ ls) h i = ap (λ (t : List (List ℕ)). join LF (l ∷ t)) (sym (take-append-drop k ls)) ∙ text_more (l ∷ take k ls) (drop k ls) (omega arith)

-- what stands before place e
cut : (s a : List ℕ) (e : ℕ) → s ≡ a ++ drop e s → e ≤ length s → a ≡ take e s
cut s a e q h =
    let k : length a ≡ e = omega (arith, ap length q, length-append a (drop e s), length-drop e s) in
    sym (ap (take e) q ∙ take_at a (drop e s) e k)

-- line n of s starts at place o
module _ {s : List ℕ} {n o : ℕ} (a : Starts s n o) where
  -- an LF stands before a line that is not the first
  pub start_feed : 1 < n → (0 < o) × (drop (o - 1) s ≡ LF ∷ drop o s)
  start_feed h =
      let t : List ℕ = join LF (take (n - 1) (pieces s)) in
      let q : s ≡ t ++ (LF ∷ drop o s) = text-two (n - 1) s (omega arith) ∙ ap (λ (k : List ℕ). t ++ k) (ap led a.lines ∙ led-pieces (drop o s)) in
      let k : length s ≡ length t + suc (length s - o) = omega (arith, ap length q, length-append t (LF ∷ drop o s), length-drop o s) in
      let z : length t ≡ o - 1 = omega (arith, a.within) in
      (omega (arith, a.within), ap (drop (o - 1)) q ∙ drop_at t (LF ∷ drop o s) (o - 1) z)

  -- the lines from it on: what stands behind the last closer
  pub led-start : 1 < n → led (drop (n - 1) (pieces s)) ≡ drop (o - 1) s
  led-start h = ap led a.lines ∙ led-pieces (drop o s) ∙ sym (start_feed h).1

-- line n starts at place o and ends at place e
module _ {s : List ℕ} {n o : ℕ} (a : Starts s n o) (e : ℕ) (q : e ≡ o + first (is LF) (drop o s)) where
  end-within : e ≤ length s
  end-within = omega (arith, first_le (is LF) (drop o s), length-drop o s, a.within)

  -- the lines after it, which ends at place e
  pub led-end : led (drop n (pieces s)) ≡ drop e s
  led-end =
      let k : n ≡ (n - 1) + 1 = omega (arith, a.counted) in
      ap (λ (i : ℕ). led (drop i (pieces s))) k
      ∙ ap led (sym (drop-drop 1 (n - 1) (pieces s)) ∙ ap (drop 1) a.lines)
      ∙ led-rest (drop o s)
      ∙ drop-drop (first (is LF) (drop o s)) o s
      ∙ ap (λ (i : ℕ). drop i s) (sym q)

  -- the lines through it
  pub text-through : join LF (take n (pieces s)) ≡ take e s
  text-through = cut s (join LF (take n (pieces s))) e (text-two n s a.counted ∙ ap (λ (k : List ℕ). join LF (take n (pieces s)) ++ k) led-end) end-within

  -- the same as the first `before`
  pub text-first : join LF (take (n - 0) (drop 0 (pieces s))) ≡ take e s
  text-first = rw sub-zero text-through

  -- the lines from line m, which starts at place c, through it: a later `before`
  pub led-through : {m c : ℕ} → Starts s m c → 1 < m → m ≤ n → led (take (n - (m - 1)) (drop (m - 1) (pieces s))) ≡ part (c - 1) e s
  led-through {m} {c} b h i =
      let ls : List (List ℕ) = drop (m - 1) (pieces s) in
      let t : List ℕ = led (take (n - (m - 1)) ls) in
      let k : (m - 1) + (n - (m - 1)) ≡ n = omega arith in
      let d : drop (n - (m - 1)) ls ≡ drop n (pieces s) = drop-drop (n - (m - 1)) (m - 1) (pieces s) ∙ ap (λ (j : ℕ). drop j (pieces s)) k in
      let w : drop (c - 1) s ≡ t ++ drop e s =
      sym (led-start b h)
      ∙ ap led (sym (take-append-drop (n - (m - 1)) ls))
      ∙ led-append (take (n - (m - 1)) ls) (drop (n - (m - 1)) ls)
      ∙ ap (λ (r : List ℕ). t ++ r) (ap led d ∙ led-end) in
      let v : c - 1 ≤ e =
      omega (arith, ap length w, length-append t (drop e s), length-drop (c - 1) s, length-drop e s, end-within, b.within) in
      let y : (c - 1) + (e - (c - 1)) ≡ e = omega arith in
      let z : drop (e - (c - 1)) (drop (c - 1) s) ≡ drop e s = drop-drop (e - (c - 1)) (c - 1) s ∙ ap (λ (j : ℕ). drop j s) y in
      cut (drop (c - 1) s) t (e - (c - 1)) (w ∙ ap (λ (r : List ℕ). t ++ r) (sym z)) (omega (arith, length-drop (c - 1) s, end-within))
