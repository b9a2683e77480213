-- An emitted member has a line, and its last line is not empty: so `join_lines`, which asks whether lines stand before, joins as the Rust does, which asks whether a member does. Assumes nothing.
use Rattle.std.specs.Prelude.{Option, Some, None}
use Prim.Native.Nat.{ℕ, zero, suc, ◌<◌}
use native.Mathlib.Omega.{arith}
use mathlib.Core.Path.{◌≡◌, refl}
use mathlib.Core.Bool.{Bool, true, false, cond}
use mathlib.Core.List.{List, [], ◌∷◌, map}
use lib.IntN.{ℤ, pos, ◌+ℤ◌}
use lib.ListN.{length, take, replicate, length-append}
use lib.Dec.{eqb}
use Rattle.answer.specs.Answer.{place}
use Rattle.answer.specs.declared.Refusal.{Refusal}
use Rattle.answer.specs.declared.Refusal.TheVariants.{HeadingLevel}
use Rattle.text.specs.Bytes.{part, first}
use Rattle.text.specs.Lines.{pieces}
use Rattle.text.specs.Space.{lead, is_blank}
use Rattle.heading.specs.Level.{moved_to}
use Rattle.heading.specs.Walk.{walk_begin, step_after}
use Rattle.heading.specs.declared.walk.LineKind.{LineKind}
use Rattle.heading.specs.declared.walk.LineKind.TheVariants.{Quoted, Heading, Other}
use Rattle.heading.specs.declared.walk.WalkState.{WalkState}
use Rattle.path.specs.Path.{parent_dir}
use Rattle.link.specs.Links.{relink}
use Rattle.link.specs.Target.{rewrite_target}
use Rattle.index.specs.Index.{File}
use Rattle.walk.specs.Parts.{good, unless}
use Rattle.shift.specs.Shift.{Told, told_from, kinds_of, shift_for, at_level, moved_line, past_from, up_to, drop_end}
use Rattle.member.specs.Member.{without_contents, prepared_lines, Prepared, title_of, titled, prepare, still, movable}
use Rattle.emitted.specs.Line.{rewrite_line}
use Rattle.emitted.specs.Emit.{emit}

-- a list has a last element, and its bytes are some
unfoldable pub Ends : {A : Type 0} → (A → List ℕ) → List A → Type 0
Ends f [] = ⊥
Ends f (a ∷ []) = 0 < length (f a)
Ends f (a ∷ b ∷ l) = Ends f (b ∷ l)

abbrev pub line : List ℕ → List ℕ
line l = l

abbrev told : Told → List ℕ
told t = t.bytes

-- a line before such lines
ends-before : {A : Type 0} (f : A → List ℕ) (a : A) (l : List A) → Ends f l → Ends f (a ∷ l)
unfolding Ends
ends-before f a [] h = absurd h
ends-before f a (b ∷ l) h = h

filled-some : (l : List ℕ) → is_blank l ≡ false → 0 < length l
unfolding is_blank lead first
filled-some [] e = let z : ◌≡◌ {A = ℕ} 0 1 = cc in absurd (omega arith)
filled-some (x ∷ l) e = omega arith

-- without blank lines at the end
drop_ends : (ls : List (List ℕ)) → 0 < up_to ls → Ends line (drop_end ls)
unfolding up_to Ends
drop_ends [] h = absurd (omega arith)
drop_ends (l ∷ ls) h = go (up_to ls) (is_blank l) refl refl h (drop_ends ls)
  where
    go : (n : ℕ) (b : Bool) → up_to ls ≡ n → is_blank l ≡ b → 0 < elim n [ zero ↦ cond b 0 1 | suc m ↦ suc (suc m) ] → (0 < up_to ls → Ends line (take (up_to ls) ls))
        → Ends line (take (elim n [ zero ↦ cond b 0 1 | suc m ↦ suc (suc m) ]) (l ∷ ls))
    go zero true p q k ih = absurd (omega arith)
    go zero false p q k ih = filled-some l q
    go (suc n) b p q k ih = ends-before line l (take (suc n) ls) (rw p at (ih (omega arith)))

told-ends : (st : WalkState) (ls : List (List ℕ)) → Ends line ls → Ends told (told_from st ls)
unfolding told_from Ends
told-ends st [] h = h
told-ends st (l ∷ []) h = h
told-ends st (l ∷ m ∷ ls) h = told-ends (step_after st.fence st.comment l) (m ∷ ls) h

-- the title excepted
still_one : (k : LineKind) (l : List ℕ) → 0 < length l → Ends told (still k l [] [])
unfolding Ends
still_one Quoted l h = h
still_one (Heading n a e) l h = go (eqb n 1)
  where
    go : (b : Bool) → Ends told (cond b (record { kind = Other; bytes = l } ∷ []) (record { kind = Heading n a e; bytes = l } ∷ []))
    go true = h
    go false = h
still_one Other l h = h

still_more : (k : LineKind) (l : List ℕ) (ts us : List Told) → Ends told ts → Ends told us → Ends told (still k l ts us)
still_more Quoted l ts us h i = ends-before told _ us i
still_more (Heading n a e) l ts us h i = go (eqb n 1)
  where
    go : (b : Bool) → Ends told (cond b (record { kind = Other; bytes = l } ∷ ts) (record { kind = Heading n a e; bytes = l } ∷ us))
    go true = ends-before told _ ts h
    go false = ends-before told _ us i
still_more Other l ts us h i = ends-before told _ us i

movable-ends : (ts : List Told) → Ends told ts → Ends told (movable ts)
unfolding movable Ends
movable-ends [] h = h
movable-ends (t ∷ []) h = still_one t.kind t.bytes h
movable-ends (t ∷ u ∷ ts) h = still_more t.kind t.bytes (u ∷ ts) (movable (u ∷ ts)) h (movable-ends (u ∷ ts) h)

-- a line that has bytes becomes one that has some
relink-some : (f : List ℕ → List ℕ) (l : List ℕ) → 0 < length l → 0 < length (relink f l)
unfolding relink
relink-some f [] h = h
relink-some f (x ∷ l) h = omega arith

level-some : (y : Option ℕ) (s l : List ℕ) → 0 < length l → 0 < length (at_level y s l)
level-some (Some n) s l h = omega (arith, length-append (replicate n 0x23) (0x20 ∷ s))
level-some None s l h = h

line-some : (f : List ℕ → List ℕ) (z : ℤ) (k : LineKind) (l : List ℕ) → 0 < length l → 0 < length (rewrite_line f k (moved_line z (record { kind = k; bytes = l })))
line-some f z Quoted l h = h
line-some f z (Heading n a e) l h = relink-some f _ (level-some (moved_to (pos n +ℤ z)) (part a e l) l h)
line-some f z Other l h = relink-some f l h

map_ends : (F : Told → List ℕ) → ((t : Told) → 0 < length t.bytes → 0 < length (F t)) → (ts : List Told) → Ends told ts → Ends line (map F ts)
unfolding Ends
map_ends F g [] h = h
map_ends F g (t ∷ []) h = g t h
map_ends F g (t ∷ u ∷ ts) h = map_ends F g (u ∷ ts) h

-- a member that is prepared has such lines, since it has a title
title-some : (st : WalkState) (ls : List (List ℕ)) (t : List ℕ) → title_of (told_from st (drop_end ls)) ≡ Some t → 0 < up_to ls
unfolding title_of told_from
title-some st ls t e = go (up_to ls) e
  where
    go : (n : ℕ) → title_of (told_from st (take n ls)) ≡ Some t → 0 < n
    go zero q = let z : ◌≡◌ {A = ℕ} 0 1 = cc in absurd (omega arith)
    go (suc n) q = omega arith

prepared_ends : (h : File) (m : Prepared) → prepare h ≡ good m → Ends told m.lines
unfolding prepare prepared_lines
prepared_ends h m e = go (title_of (prepared_lines h.text)) refl e
  where
    go : (o : Option (List ℕ)) → title_of (prepared_lines h.text) ≡ o → titled h (prepared_lines h.text) o ≡ good m → Ends told m.lines
    go None q p = let z : ◌≡◌ {A = ℕ} 0 1 = cc in absurd (omega arith)
    go (Some t) q p =
        let ls : List (List ℕ) = without_contents false (pieces h.text) in
        let w : prepared_lines h.text ≡ m.lines = cc in
        rw (← w) (told-ends walk_begin (drop_end ls) (drop_ends ls (title-some walk_begin ls t q)))

pub emitted_ends : (titles : List ℕ → Option (List ℕ)) (url : List ℕ) (h : File) (m : Prepared) (es : List (List ℕ)) → prepare h ≡ good m → emit titles url m ≡ good es → Ends line es
unfolding emit
emitted_ends titles url h m es p e =
    let ts : List Told = movable m.lines in
    let z : ℤ = shift_for 2 (kinds_of ts) in
    let f : List ℕ → List ℕ = rewrite_target titles url (parent_dir m.name) in
    go (past_from (λ n. HeadingLevel (place m.file n)) 1 z (kinds_of ts)) (map (λ t. rewrite_line f t.kind (moved_line z t)) ts) e
    (map_ends (λ t. rewrite_line f t.kind (moved_line z t)) (λ t q. line-some f z t.kind t.bytes q) ts (movable-ends m.lines (prepared_ends h m p)))
  where
    go : (xs : List Refusal) (us : List (List ℕ)) → unless xs us ≡ good es → Ends line us → Ends line es
    go [] us q k = let w : us ≡ es = cc in rw (← w) k
    go (x ∷ xs) us q k = let z : ◌≡◌ {A = ℕ} 0 1 = cc in absurd (omega arith)
