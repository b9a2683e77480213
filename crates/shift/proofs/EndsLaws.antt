-- Laws of `specs/Ends.antt`: blank lines at a text's ends, byte by byte. Assumes nothing.
use Prim.Native.Nat.{ℕ, zero, suc, ◌+◌, ◌-◌, ◌≤◌, ◌<◌}
use native.Mathlib.Omega.{arith}
use mathlib.Core.Path.{◌≡◌, refl, sym, ap, ◌∙◌}
use mathlib.Core.Bool.{Bool, true, false, cond, not, false≢true}
use mathlib.Core.List.{List, [], ◌∷◌, ◌++◌}
use lib.ListN.{length, take, drop, length-take}
use lib.Seq.{drop-drop, take-append-le}
use lib.Dec.{eqb, ltb}
use borrow.Author.Tests.{eq-eqb, ne_eqb, lt-ltb, eqb-true, eqb-false}
use Rattle.text.specs.Bytes.{part, is, first, after_last}
use Rattle.text.specs.Space.{is_space, is_other, lead, kept, is_blank}
use Rattle.text.specs.Lines.{LF, pieces}
use Rattle.text.specs.Split.{onto, split}
use Rattle.text.proofs.BytesLaws.{after_le, part_full}
use Rattle.text.proofs.FirstLaws.{apart}
use Rattle.text.proofs.SplitLaws.{split-some}
use Rattle.shift.specs.Shift.{up_to, blanks, drop_end, drop_start}
use Rattle.shift.specs.Ends.{lines_in, AreEnds}

-- a line with a byte before it
blank_other : (x : ℕ) (l : List ℕ) → is_space x ≡ false → is_blank (x ∷ l) ≡ false
unfolding is_blank lead first
blank_other x l e = rw e (ne_eqb 0 (suc (length l)) (λ q. omega arith))

blank_space : (x : ℕ) (l : List ℕ) → is_space x ≡ true → is_blank (x ∷ l) ≡ is_blank l
unfolding is_blank lead first
blank_space x l e = rw e (go (eqb (first is_other l) (length l)) refl)
  where
    go : (b : Bool) → eqb (first is_other l) (length l) ≡ b → eqb (suc (first is_other l)) (suc (length l)) ≡ b
    go true p = eq-eqb (suc (first is_other l)) (suc (length l)) (ap suc (eqb-true (first is_other l) (length l) p))
    go false p = let n : first is_other l ≡ length l → ⊥ = eqb-false (first is_other l) (length l) p in ne_eqb (suc (first is_other l)) (suc (length l)) (λ q. n (omega arith))

blank_more : (x : ℕ) (l : List ℕ) → is_blank l ≡ false → is_blank (x ∷ l) ≡ false
blank_more x l e = go (is_space x) refl
  where
    go : (b : Bool) → is_space x ≡ b → is_blank (x ∷ l) ≡ false
    go true p = blank_space x l p ∙ e
    go false p = blank_other x l p

-- an LF is a space byte, so no other byte is one
other_feed : (x : ℕ) → is_space x ≡ false → eqb x LF ≡ false
unfolding is_space
other_feed x e = apart is_space x LF false true e refl false≢true

-- the first line of a text, and that it is the only one without what follows it
first_piece : (s : List ℕ) → pieces s ≡ take (first (is LF) s) s ∷ drop 1 (pieces s)
unfolding split first
first_piece [] = refl
first_piece (x ∷ s) = go (eqb x LF) (pieces s) (first_piece s)
  where
    go : (a : Bool) (l : List (List ℕ)) → l ≡ take (first (is LF) s) s ∷ drop 1 l
        → cond a ([] ∷ l) (onto x l) ≡ take (cond a 0 (suc (first (is LF) s))) (x ∷ s) ∷ drop 1 (cond a ([] ∷ l) (onto x l))
    go true l h = refl
    go false l h = rw h

lone_piece : (s : List ℕ) → pieces (take (first (is LF) s) s) ≡ take (first (is LF) s) s ∷ []
unfolding split first
lone_piece [] = refl
lone_piece (x ∷ s) = go (eqb x LF) refl (lone_piece s)
  where
    go : (a : Bool) → eqb x LF ≡ a → pieces (take (first (is LF) s) s) ≡ take (first (is LF) s) s ∷ []
        → pieces (take (cond a 0 (suc (first (is LF) s))) (x ∷ s)) ≡ take (cond a 0 (suc (first (is LF) s))) (x ∷ s) ∷ []
    go true e h = refl
    go false e h = rw (e, h)

-- lines at the start
start_blank : (l : List ℕ) (ls : List (List ℕ)) → is_blank l ≡ true → drop_start (l ∷ ls) ≡ drop_start ls
unfolding blanks
start_blank l ls e = rw e

start_other : (l : List ℕ) (ls : List (List ℕ)) → is_blank l ≡ false → drop_start (l ∷ ls) ≡ l ∷ ls
unfolding blanks
start_other l ls e = rw e

empty_blank : is_blank [] ≡ true
unfolding is_blank lead first
empty_blank = refl

abbrev head_blank : List (List ℕ) → Bool
head_blank [] = true
head_blank (l ∷ ls) = is_blank l

-- where the first line that is not blank starts: behind the last LF before the first other byte
abbrev pub start_of : List ℕ → ℕ
start_of s = after_last (is LF) (take (lead s) s)

start-lines : (s : List ℕ) → is_blank s ≡ false → (drop_start (pieces s) ≡ pieces (drop (start_of s) s)) × (head_blank (pieces s) ≡ ltb 0 (start_of s))
unfolding split lead first after_last
start-lines [] e = absurd (false≢true (sym e ∙ empty_blank))
start-lines (x ∷ s) e = go (is_space x) refl (λ q. start-lines s q)
  where
    space : (a : Bool) → eqb x LF ≡ a → is_space x ≡ true → (l : List (List ℕ)) → 0 < length l → pieces s ≡ l → (m : ℕ)
        → (drop_start l ≡ pieces (drop m s)) × (head_blank l ≡ ltb 0 m)
        → (drop_start (cond a ([] ∷ l) (onto x l)) ≡ pieces (drop (elim m [ zero ↦ cond a 1 0 | suc k ↦ suc (suc k) ]) (x ∷ s)))
        × (head_blank (cond a ([] ∷ l) (onto x l)) ≡ ltb 0 (elim m [ zero ↦ cond a 1 0 | suc k ↦ suc (suc k) ]))
    space a p q [] h w m i = absurd (omega arith)
    space true p q (l ∷ ls) h w zero i = (start_blank [] (l ∷ ls) empty_blank ∙ i.0, empty_blank)
    space true p q (l ∷ ls) h w (suc k) i = (start_blank [] (l ∷ ls) empty_blank ∙ i.0, empty_blank ∙ sym (lt-ltb 0 (suc (suc k)) (omega arith)))
    space false p q (l ∷ ls) h w zero i =
        let b : is_blank (x ∷ l) ≡ false = blank_more x l i.1 in
        (start_other (x ∷ l) ls b ∙ rw (p, w), b)
    space false p q (l ∷ ls) h w (suc k) i =
        let b : is_blank l ≡ true = i.1 ∙ lt-ltb 0 (suc k) (omega arith) in
        let c : is_blank (x ∷ l) ≡ true = blank_space x l q ∙ b in
        (start_blank (x ∷ l) ls c ∙ sym (start_blank l ls b) ∙ i.0, c ∙ sym (lt-ltb 0 (suc (suc k)) (omega arith)))

    other : (l : List (List ℕ)) → 0 < length l → is_space x ≡ false → (drop_start (onto x l) ≡ onto x l) × (head_blank (onto x l) ≡ ltb 0 0)
    other [] h q = absurd (omega arith)
    other (l ∷ ls) h q = let b : is_blank (x ∷ l) ≡ false = blank_other x l q in (start_other (x ∷ l) ls b, b)

    go : (b : Bool) → is_space x ≡ b → (is_blank s ≡ false → (drop_start (pieces s) ≡ pieces (drop (start_of s) s)) × (head_blank (pieces s) ≡ ltb 0 (start_of s)))
        → (drop_start (pieces (x ∷ s)) ≡ pieces (drop (after_last (is LF) (take (cond (not b) 0 (suc (lead s))) (x ∷ s))) (x ∷ s)))
        × (head_blank (pieces (x ∷ s)) ≡ ltb 0 (after_last (is LF) (take (cond (not b) 0 (suc (lead s))) (x ∷ s))))
    go true q ih = space (eqb x LF) refl q (pieces s) (split-some LF s) refl (start_of s) (ih (sym (blank_space x s q) ∙ e))
    go false q ih = rw (other_feed x q) (other (pieces s) (split-some LF s) q)

-- lines at the end: where the last that is not blank ends, the first LF behind the last other byte
abbrev pub end_of : List ℕ → ℕ
end_of s = kept s + first (is LF) (drop (kept s) s)

-- blank lines only
up_to-none : up_to [] ≡ 0
unfolding up_to
up_to-none = refl

up_to_blank : (l : List ℕ) (ls : List (List ℕ)) → is_blank l ≡ true → up_to ls ≡ 0 → up_to (l ∷ ls) ≡ 0
unfolding up_to
up_to_blank l ls e q = rw (q, e)

blank_up_to : (l : List ℕ) (ls : List (List ℕ)) → up_to (l ∷ ls) ≡ 0 → (is_blank l ≡ true) × (up_to ls ≡ 0)
unfolding up_to
blank_up_to l ls e = go (is_blank l) (up_to ls) e
  where
    go : (b : Bool) (m : ℕ) → ◌≡◌ {A = ℕ} (elim m [ zero ↦ cond b 0 1 | suc n ↦ suc (suc n) ]) 0 → (b ≡ true) × (m ≡ 0)
    go true zero z = (refl, refl)
    go false zero z = absurd (omega arith)
    go b (suc n) z = absurd (omega arith)

all_blank : (s : List ℕ) → kept s ≡ 0 → up_to (pieces s) ≡ 0
unfolding kept after_last split
all_blank [] e = up_to_blank [] [] empty_blank up_to-none
all_blank (x ∷ s) e = go (is_space x) refl (kept s) (λ q. all_blank s q) refl e
  where
    line : (a : Bool) → is_space x ≡ true → (l : List (List ℕ)) → 0 < length l → up_to l ≡ 0 → up_to (cond a ([] ∷ l) (onto x l)) ≡ 0
    line true q l h i = up_to_blank [] l empty_blank i
    line false q [] h i = absurd (omega arith)
    line false q (l ∷ ls) h i = let w = blank_up_to l ls i in up_to_blank (x ∷ l) ls (blank_space x l q ∙ w.0) w.1

    go : (b : Bool) → is_space x ≡ b → (m : ℕ) → (kept s ≡ 0 → up_to (pieces s) ≡ 0) → kept s ≡ m
        → ◌≡◌ {A = ℕ} (elim m [ zero ↦ cond (not b) 1 0 | suc k ↦ suc (suc k) ]) 0 → up_to (cond (eqb x LF) ([] ∷ pieces s) (onto x (pieces s))) ≡ 0
    go true q zero ih p z = line (eqb x LF) q (pieces s) (split-some LF s) (ih p)
    go false q zero ih p z = absurd (omega arith)
    go b q (suc k) ih p z = absurd (omega arith)

none_kept : (ls : List (List ℕ)) → up_to ls ≡ 0 → drop_start ls ≡ []
unfolding blanks
none_kept [] e = refl
none_kept (l ∷ ls) e = let w = blank_up_to l ls e in start_blank l ls w.0 ∙ none_kept ls w.1

-- a byte, or an empty line, before lines of which one is not blank
end-onto : (x : ℕ) (l : List ℕ) (ls : List (List ℕ)) → 0 < up_to (l ∷ ls) → drop_end ((x ∷ l) ∷ ls) ≡ onto x (drop_end (l ∷ ls))
unfolding up_to
end-onto x l ls h = go (up_to ls) (is_blank l) refl h
  where
    go : (m : ℕ) (b : Bool) → is_blank l ≡ b → 0 < elim m [ zero ↦ cond b 0 1 | suc n ↦ suc (suc n) ]
        → take (elim m [ zero ↦ cond (is_blank (x ∷ l)) 0 1 | suc n ↦ suc (suc n) ]) ((x ∷ l) ∷ ls)
        ≡ onto x (take (elim m [ zero ↦ cond b 0 1 | suc n ↦ suc (suc n) ]) (l ∷ ls))
    go zero true p z = absurd (omega arith)
    go zero false p z = rw (blank_more x l p)
    go (suc n) b p z = refl

end-cons : (l : List ℕ) (ls : List (List ℕ)) → 0 < up_to ls → drop_end (l ∷ ls) ≡ l ∷ drop_end ls
unfolding up_to
end-cons l ls h = go (up_to ls) h
  where
    go : (m : ℕ) → 0 < m → take (elim m [ zero ↦ cond (is_blank l) 0 1 | suc n ↦ suc (suc n) ]) (l ∷ ls) ≡ l ∷ take m ls
    go zero z = absurd (omega arith)
    go (suc n) z = refl

-- a line that is not blank before blank ones
end-one : (l : List ℕ) (ls : List (List ℕ)) → is_blank l ≡ false → up_to ls ≡ 0 → drop_end (l ∷ ls) ≡ l ∷ []
unfolding up_to
end-one l ls e q = rw (q, e)

end-lines : (s : List ℕ) → 0 < kept s → drop_end (pieces s) ≡ pieces (take (end_of s) s)
unfolding kept after_last split
end-lines [] h = absurd (omega arith)
end-lines (x ∷ s) h = go (is_space x) refl (kept s) refl (λ q. end-lines s q) h
  where
    turn : (a : Bool) (l u : List (List ℕ)) → 0 < length l → 0 < length u → drop_end l ≡ u
        → drop_end (cond a ([] ∷ l) (onto x l)) ≡ cond a ([] ∷ u) (onto x u)
    turn a l u p q e = more a l p (some (up_to l) e) e
      where
        some : (m : ℕ) → take m l ≡ u → 0 < m
        some zero w = let z : ◌≡◌ {A = ℕ} 0 (length u) = ap length w in absurd (omega arith)
        some (suc m) w = omega arith

        more : (a : Bool) (l : List (List ℕ)) → 0 < length l → 0 < up_to l → drop_end l ≡ u → drop_end (cond a ([] ∷ l) (onto x l)) ≡ cond a ([] ∷ u) (onto x u)
        more true l p z w = end-cons [] l z ∙ ap (λ (k : List (List ℕ)). [] ∷ k) w
        more false [] p z w = absurd (omega arith)
        more false (l ∷ ls) p z w = end-onto x l ls z ∙ ap (onto x) w

    after : (l : List (List ℕ)) → l ≡ take (first (is LF) s) s ∷ drop 1 l → up_to l ≡ 0 → is_space x ≡ false → drop_end (onto x l) ≡ (x ∷ take (first (is LF) s) s) ∷ []
    after l e z q =
        let f : List ℕ = take (first (is LF) s) s in
        let w = blank_up_to f (drop 1 l) (rw e at z) in
        ap (λ (k : List (List ℕ)). drop_end (onto x k)) e ∙ end-one (x ∷ f) (drop 1 l) (blank_other x f q) w.1

    go : (b : Bool) → is_space x ≡ b → (m : ℕ) → kept s ≡ m → (0 < kept s → drop_end (pieces s) ≡ pieces (take (end_of s) s))
        → 0 < elim m [ zero ↦ cond (not b) 1 0 | suc k ↦ suc (suc k) ]
        → drop_end (pieces (x ∷ s))
        ≡ pieces
        (take (elim m [ zero ↦ cond (not b) 1 0 | suc k ↦ suc (suc k) ] + first (is LF) (drop (elim m [ zero ↦ cond (not b) 1 0 | suc k ↦ suc (suc k) ]) (x ∷ s))) (x ∷ s))
    go true q zero p ih z = absurd (omega arith)
    go false q zero p ih z =
        let n : 1 + first (is LF) s ≡ suc (first (is LF) s) = omega arith in
        rw (n, other_feed x q, lone_piece s) (after (pieces s) (first_piece s) (all_blank s p) q)
    go b q (suc k) p ih z =
        let n : suc (suc k) + first (is LF) (drop (suc k) s) ≡ suc (suc k + first (is LF) (drop (suc k) s)) = omega arith in
        rw n (turn (eqb x LF) (pieces s) (pieces (take (suc k + first (is LF) (drop (suc k) s)) s)) (split-some LF s) (split-some LF (take (suc k + first (is LF) (drop (suc k) s)) s)) (rw p at (ih (omega arith))))

-- the first byte that passes a test stands before the place after the last; from a place before that on, the last is the same
first-before : (f : ℕ → Bool) (s : List ℕ) → 0 < after_last f s → first f s < after_last f s
unfolding first after_last
first-before f [] h = absurd (omega arith)
first-before f (x ∷ s) h = go (f x) (after_last f s) (λ q. first-before f s q) h
  where
    go : (b : Bool) (m : ℕ) → (0 < m → first f s < m) → 0 < elim m [ zero ↦ cond b 1 0 | suc k ↦ suc (suc k) ]
        → cond b 0 (suc (first f s)) < elim m [ zero ↦ cond b 1 0 | suc k ↦ suc (suc k) ]
    go true zero ih z = omega arith
    go false zero ih z = absurd (omega arith)
    go true (suc k) ih z = omega arith
    go false (suc k) ih z = omega (arith, ih (omega arith))

after-drop : (f : ℕ → Bool) (s : List ℕ) (a : ℕ) → a < after_last f s → a + after_last f (drop a s) ≡ after_last f s
unfolding after_last
after-drop f s zero h = omega arith
after-drop f [] (suc a) h = absurd (omega arith)
after-drop f (x ∷ s) (suc a) h = go (f x) (after_last f s) (λ q. after-drop f s a q) h
  where
    go : (b : Bool) (m : ℕ) → (a < m → a + after_last f (drop a s) ≡ m) → suc a < elim m [ zero ↦ cond b 1 0 | suc k ↦ suc (suc k) ]
        → suc a + after_last f (drop a s) ≡ elim m [ zero ↦ cond b 1 0 | suc k ↦ suc (suc k) ]
    go true zero ih z = absurd (omega arith)
    go false zero ih z = absurd (omega arith)
    go b (suc k) ih z = let e : a + after_last f (drop a s) ≡ suc k = ih (omega arith) in omega arith

-- what is left has lines
pub lines-some : (s : List ℕ) → 0 < length s → lines_in s ≡ pieces s
lines-some [] h = absurd (omega arith)
lines-some (x ∷ s) h = refl

-- nothing is kept: no line is left
pub ends-none : (s : List ℕ) → kept s ≡ 0 → AreEnds s 0 0
unfolding up_to
ends-none s e =
    record {
      order = omega arith;
      within = omega arith;
      lines = ap drop_end (none_kept (pieces s) (all_blank s e));
    }

-- the part from the start of the first line that is not blank to the end of the last
pub ends-part : (s : List ℕ) (k a e : ℕ) → k ≡ kept s → 0 < k → a ≡ start_of s → e ≡ k + first (is LF) (drop k s) → e ≤ length s → AreEnds s a e
unfolding kept lead is_blank
ends-part s k a e p h q r w =
    let i : lead s < k = omega (arith, first-before is_other s (omega arith)) in
    let j : a ≤ lead s = omega (arith, after_le (is LF) (take (lead s) s), length-take (lead s) s) in
    let n : is_blank s ≡ false = ne_eqb (lead s) (length s) (λ z. omega arith) in
    let t : List ℕ = drop a s in
    let y : a + kept t ≡ k = after-drop is_other s a (omega arith) ∙ sym p in
    let g : kept t + first (is LF) (drop (kept t) t) ≡ e - a = omega (arith, ap (first (is LF)) (drop-drop (kept t) a s ∙ ap (λ (m : ℕ). drop m s) y)) in
    record {
      order = omega arith;
      within = w;
      lines = ap drop_end ((start-lines s n).0 ∙ ap (λ (m : ℕ). pieces (drop m s)) (sym q))
          ∙ end-lines t (omega arith)
          ∙ ap (λ (m : ℕ). pieces (take m t)) g
          ∙ sym (lines-some (part a e s) (omega (arith, part_full s a e w)));
    }

-- an empty line more at the end
up_to_more : (ls : List (List ℕ)) → (up_to (ls ++ ([] ∷ [])) ≡ up_to ls) × (up_to ls ≤ length ls)
unfolding up_to
up_to_more [] = (up_to_blank [] [] empty_blank up_to-none, omega arith)
up_to_more (l ∷ ls) = (ap (λ (m : ℕ). elim m [ zero ↦ cond (is_blank l) 0 1 | suc n ↦ suc (suc n) ]) (up_to_more ls).0, go (is_blank l) (up_to ls) (up_to_more ls).1)
  where
    go : (b : Bool) (m : ℕ) → m ≤ length ls → elim m [ zero ↦ cond b 0 1 | suc n ↦ suc (suc n) ] ≤ suc (length ls)
    go true zero h = omega arith
    go false zero h = omega arith
    go b (suc n) h = omega arith

pub ends_more : (ls : List (List ℕ)) → drop_end (drop_start (ls ++ ([] ∷ []))) ≡ drop_end (drop_start ls)
ends_more [] = ap drop_end (start_blank [] [] empty_blank)
ends_more (l ∷ ls) = go (is_blank l) refl (ends_more ls)
  where
    go : (b : Bool) → is_blank l ≡ b → drop_end (drop_start (ls ++ ([] ∷ []))) ≡ drop_end (drop_start ls) → drop_end (drop_start (l ∷ (ls ++ ([] ∷ [])))) ≡ drop_end (drop_start (l ∷ ls))
    go true e ih = ap drop_end (start_blank l (ls ++ ([] ∷ [])) e) ∙ ih ∙ ap drop_end (sym (start_blank l ls e))
    go false e ih =
        let u = up_to_more (l ∷ ls) in
        ap drop_end (start_other l (ls ++ ([] ∷ [])) e)
        ∙ ap (λ (m : ℕ). take m (l ∷ (ls ++ ([] ∷ [])))) u.0
        ∙ take-append-le (up_to (l ∷ ls)) (l ∷ ls) ([] ∷ []) u.1
        ∙ ap drop_end (sym (start_other l ls e))
