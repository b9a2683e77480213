-- Laws of blank lines at the end of told lines: a line more, and what is prepared of the lines kept. Assumes nothing.
use Rattle.std.specs.Prelude.{Option, None}
use Prim.Native.Nat.{ℕ, zero, suc, ◌≤◌}
use native.Mathlib.Omega.{arith}
use mathlib.Core.Path.{◌≡◌, refl, sym, ap, ◌∙◌, subst}
use mathlib.Core.Bool.{Bool, true, false, cond}
use mathlib.Core.List.{List, [], ◌∷◌, ◌++◌, map, map-append}
use lib.ListN.{length, take, drop, length-append, length-map, take-append-drop}
use lib.Seq.{take_all, take-append-le}
use Rattle.text.specs.Space.{is_blank}
use Rattle.text.specs.Lines.{pieces}
use Rattle.fence.specs.declared.Fence.{Fence}
use Rattle.heading.specs.Level.{shallowest_of, deepest_of}
use Rattle.heading.specs.Walk.{step_kind, step_after, walk_begin}
use Rattle.heading.specs.declared.walk.LineKind.TheVariants.{Heading}
use Rattle.heading.specs.declared.walk.WalkState.{WalkState}
use Rattle.heading.proofs.StillLaws.{blank_kind}
use Rattle.shift.specs.Shift.{Told, told_from, kinds_of, up_to}
use Rattle.shift.proofs.ShiftLaws.{told-take}
use Rattle.member.specs.Member.{without_contents, prepared_lines, title_of, movable}
use Rattle.member.specs.Lines.{kept_lines, IsPlain, Plain}
use Rattle.member.proofs.HeadingLaws.{still-plain}
use Rattle.outline.proofs.TitleLaws.{title-plain, shallowest_plain, deepest-plain}

-- a line more: where it is blank, and where it is not
up_to_le : (ls : List (List ℕ)) → up_to ls ≤ length ls
unfolding up_to
up_to_le [] = omega arith
up_to_le (l ∷ ls) = go (is_blank l) (up_to ls) (up_to_le ls)
  where
    go : (b : Bool) (m : ℕ) → m ≤ length ls → elim m [ zero ↦ cond b 0 1 | suc n ↦ suc (suc n) ] ≤ suc (length ls)
    go true zero h = omega arith
    go false zero h = omega arith
    go b (suc n) h = omega arith

up_to_blank : (ls : List (List ℕ)) (l : List ℕ) → is_blank l ≡ true → up_to (ls ++ (l ∷ [])) ≡ up_to ls
unfolding up_to
up_to_blank [] l e = rw e
up_to_blank (k ∷ ls) l e = ap (λ (m : ℕ). elim m [ zero ↦ cond (is_blank k) 0 1 | suc n ↦ suc (suc n) ]) (up_to_blank ls l e)

up_to-last : (ls : List (List ℕ)) (l : List ℕ) → is_blank l ≡ false → up_to (ls ++ (l ∷ [])) ≡ suc (length ls)
unfolding up_to
up_to-last [] l e = rw e
up_to-last (k ∷ ls) l e = rw (up_to-last ls l e)

-- told lines without blank ones at the end
abbrev bytes_of : List Told → List (List ℕ)
bytes_of ts = map (λ t. t.bytes) ts

abbrev pub trimmed : List Told → List Told
trimmed ts = take (up_to (bytes_of ts)) ts

module _ (ts : List Told) (t : Told) where
  more : bytes_of (ts ++ (t ∷ [])) ≡ bytes_of ts ++ (t.bytes ∷ [])
  more = map-append (λ (u : Told). u.bytes) ts (t ∷ [])

  pub trimmed_blank : is_blank t.bytes ≡ true → trimmed (ts ++ (t ∷ [])) ≡ trimmed ts
  trimmed_blank e =
      ap (λ (n : ℕ). take n (ts ++ (t ∷ []))) (ap up_to more ∙ up_to_blank (bytes_of ts) t.bytes e)
      ∙ take-append-le (up_to (bytes_of ts)) ts (t ∷ []) (omega (arith, up_to_le (bytes_of ts), length-map ts (λ (u : Told). u.bytes)))

  pub trimmed_last : is_blank t.bytes ≡ false → trimmed (ts ++ (t ∷ [])) ≡ ts ++ (t ∷ [])
  trimmed_last e =
      let n : up_to (bytes_of (ts ++ (t ∷ []))) ≡ suc (length (bytes_of ts)) = ap up_to more ∙ up_to-last (bytes_of ts) t.bytes e in
      take_all (up_to (bytes_of (ts ++ (t ∷ [])))) (ts ++ (t ∷ [])) (omega (arith, length-append ts (t ∷ []), length-map ts (λ (u : Told). u.bytes)))

-- a blank line is no heading
blank_plain : (f : Option Fence) (c : Bool) (l : List ℕ) → is_blank l ≡ true → IsPlain (step_kind f c l)
blank_plain f c l e = subst IsPlain (sym (blank_kind f c l e)) (still-plain f)

pub heading-shown : (f : Option Fence) (c : Bool) (l : List ℕ) {n x y : ℕ} → Heading n x y ≡ step_kind f c l → is_blank l ≡ false
heading-shown f c l {n} {x} {y} q = go (is_blank l) refl
  where
    go : (b : Bool) → is_blank l ≡ b → b ≡ false
    go true e = absurd (subst IsPlain (sym q) (blank_plain f c l e))
    go false e = refl

-- so none is among the blank lines at the end
rest_plain : (st : WalkState) (ls : List (List ℕ)) → Plain (drop (up_to ls) (told_from st ls))
unfolding Plain up_to told_from
rest_plain st [] = tt
rest_plain st (l ∷ ls) = go (is_blank l) (up_to ls) refl (rest_plain after ls)
  where
    after : WalkState
    after = step_after st.fence st.comment l

    first : Told
    first = record { kind = step_kind st.fence st.comment l; bytes = l }

    go : (b : Bool) (m : ℕ) → is_blank l ≡ b → Plain (drop m (told_from after ls))
        → Plain (drop (elim m [ zero ↦ cond b 0 1 | suc n ↦ suc (suc n) ]) (first ∷ told_from after ls))
    go true zero e ih = (blank_plain st.fence st.comment l e, ih)
    go false zero e ih = ih
    go b (suc n) e ih = ih

bytes-told : (st : WalkState) (ls : List (List ℕ)) → bytes_of (told_from st ls) ≡ ls
unfolding told_from
bytes-told st [] = refl
bytes-told st (l ∷ ls) = ap (λ (k : List (List ℕ)). l ∷ k) (bytes-told (step_after st.fence st.comment l) ls)

-- what is prepared of the lines kept
module _ (s : List ℕ) where
  abbrev kept : List (List ℕ)
  kept = without_contents false (pieces s)

  first-lines : prepared_lines s ≡ take (up_to kept) (kept_lines s)
  unfolding prepared_lines
  first-lines = told-take (up_to kept) walk_begin kept

  pub prepared_trimmed : prepared_lines s ≡ trimmed (kept_lines s)
  prepared_trimmed = first-lines ∙ ap (λ (ls : List (List ℕ)). take (up_to ls) (kept_lines s)) (sym (bytes-told walk_begin kept))

  -- the lines behind are no headings
  abbrev rest : List Told
  rest = drop (up_to kept) (kept_lines s)

  both : prepared_lines s ++ rest ≡ kept_lines s
  both = ap (λ (ts : List Told). ts ++ rest) first-lines ∙ take-append-drop (up_to kept) (kept_lines s)

  pub prepared_title : title_of (prepared_lines s) ≡ title_of (kept_lines s)
  prepared_title = sym (title-plain (prepared_lines s) rest (rest_plain walk_begin kept)) ∙ ap title_of both

  pub prepared_shallowest : shallowest_of None (kinds_of (movable (prepared_lines s))) ≡ shallowest_of None (kinds_of (movable (kept_lines s)))
  prepared_shallowest =
      sym (shallowest_plain (prepared_lines s) rest (rest_plain walk_begin kept)) ∙ ap (λ (ts : List Told). shallowest_of None (kinds_of (movable ts))) both

  pub prepared_deepest : deepest_of 0 (kinds_of (movable (prepared_lines s))) ≡ deepest_of 0 (kinds_of (movable (kept_lines s)))
  prepared_deepest = sym (deepest-plain (prepared_lines s) rest (rest_plain walk_begin kept)) ∙ ap (λ (ts : List Told). deepest_of 0 (kinds_of (movable ts))) both
