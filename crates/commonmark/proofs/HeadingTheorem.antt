-- Our heading is CommonMark's where no named departure holds, and only there. Assumes nothing.
use Rattle.std.specs.Prelude.{Option, Some, None, is_some}
use Prim.Native.Nat.{ℕ, suc, ◌+◌, ◌-◌}
use mathlib.Core.Path.{◌≡◌, refl, sym, ◌∙◌, ap}
use mathlib.Core.Bool.{Bool, true, false, cond, not, false≢true}
use mathlib.Core.List.{List, [], ◌∷◌, ◌++◌}
use native.Mathlib.Omega.{arith}
use borrow.Author.Tests.{eqb-true, leb-false}
use lib.ListN.{length, drop}
use lib.Seq.{drop-drop}
use lib.Dec.{eqb, leb}
use Rattle.text.specs.Bytes.{any, first, after_last, part}
use Rattle.text.specs.Pattern.{bytes, starts_with}
use Rattle.text.specs.Space.{is_space, lead, kept, trim, trim_start, trim_end}
use Rattle.text.proofs.PatternLaws.{and_left, and_right}
use Rattle.heading.specs.Walk.{hashes, heading_of, text_start, text_end}
use Rattle.heading.specs.declared.walk.LineKind.TheVariants.{Heading, Other}
use Rattle.commonmark.specs.Strip.{ended, strip, strip_start, strip_end, indent}
use Rattle.commonmark.specs.Atx.{Atx, heading, unclosed, is_closed, run_start, atx, atx_from, as_atx}
use Rattle.commonmark.specs.Headings.{is_opened, is_ours, behind, is_spaced, indented, tab_after_hashes, bare_hashes, closing_run, other_space_bytes, departs, SameHeading, OtherHeading, EachParts, NoneHolds}
use Rattle.commonmark.proofs.BoolLaws.{of-list, second, ◌or◌}
use Rattle.commonmark.proofs.LineLaws.{by_ended, hashes_cr, behind_cr, starts_cr, trim_cr}
use Rattle.commonmark.proofs.StripLaws.{trim-strip, spaced_differs, closed_differs}

-- the text of a heading of ours is what stands behind the hashes, trimmed
text_trimmed : (n : ℕ) (l : List ℕ) → part (text_start n l) (text_end n l) l ≡ trim (drop n l)
unfolding text_start text_end trim trim_start trim_end
text_trimmed n l =
    let d : drop (n + lead (drop n l)) l ≡ drop (lead (drop n l)) (drop n l) = sym (drop-drop (lead (drop n l)) n l) in
    let k : text_end n l - text_start n l ≡ kept (drop (text_start n l) l) = omega arith in
    rw (k, d)

abbrev text_of : Option Atx → List ℕ
text_of None = []
text_of (Some h) = h.text

-- ours, by the test of a line
ours : (l : List ℕ) → as_atx l (heading_of l) ≡ cond (is_ours l) (heading (hashes l) (trim (behind l))) None
unfolding heading_of
ours l = go (is_ours l)
  where
    go : (b : Bool) → as_atx l (cond b (Heading (hashes l) (text_start (hashes l) l) (text_end (hashes l) l)) Other) ≡ cond b (heading (hashes l) (trim (behind l))) None
    go true = ap (heading (hashes l)) (text_trimmed (hashes l) l)
    go false = refl

-- theirs: behind a space no hashes are at column 0, and elsewhere the line has no indentation
spaced_hashes : (l : List ℕ) → leb 1 (indent l) ≡ true → hashes l ≡ 0
unfolding indent hashes first
spaced_hashes [] h = refl
spaced_hashes (x ∷ l) h = go (eqb x 0x20) refl h
  where
    go : (b : Bool) → eqb x 0x20 ≡ b → leb 1 (cond {A = ℕ} (not b) 0 (suc (indent l))) ≡ true → cond {A = ℕ} (not (eqb x 0x23)) 0 (suc (hashes l)) ≡ 0
    go true e h = rw (eqb-true x 0x20 e)
    go false e h = absurd (false≢true h)

theirs : (l : List ℕ) → leb 1 (indent l) ≡ false → atx l ≡ atx_from l
unfolding atx
theirs l h = let n : indent l ≡ 0 = omega (arith, leb-false 1 (indent l) h) in rw n

unspaced : (l : List ℕ) → is_opened l ≡ true → leb 1 (indent l) ≡ false
unspaced l o = go (leb 1 (indent l)) refl
  where
    go : (b : Bool) → leb 1 (indent l) ≡ b → b ≡ false
    go true e = absurd (false≢true (rw (spaced_hashes l e) at o))
    go false e = refl

-- a heading of ours is one of CommonMark's, of the same level
module _ (l : List ℕ) (k : is_ours l ≡ true) where
  our-text : as_atx l (heading_of l) ≡ heading (hashes l) (trim (behind l))
  our-text = ours l ∙ rw k

  their-text : atx l ≡ heading (hashes l) (unclosed (strip (behind l)))
  unfolding starts_with
  their-text = theirs l (unspaced l (and_left (is_opened l) _ k)) ∙ go (behind l) refl (and_right (is_opened l) _ k)
    where
      go : (r : List ℕ) → behind l ≡ r → starts_with (bytes " ") r ≡ true → atx_from l ≡ heading (hashes l) (unclosed (strip (behind l)))
      go [] e h = absurd (false≢true h)
      go (x ∷ r) e h = rw (and_left (is_opened l) _ k, e, and_left (eqb x 0x20) true h)

  same_text : as_atx l (heading_of l) ≡ atx l → trim (behind l) ≡ unclosed (strip (behind l))
  same_text e = ap text_of (sym our-text ∙ (e ∙ their-text))

  text_same : trim (behind l) ≡ unclosed (strip (behind l)) → as_atx l (heading_of l) ≡ atx l
  text_same e = our-text ∙ (ap (heading (hashes l)) e ∙ sym their-text)

-- one is a heading, the other none
none_is : (o : Option Atx) → is_some o ≡ false → o ≡ None
none_is None h = refl
none_is (Some a) h = absurd (false≢true (sym h))

unlike : (a b : Option Atx) → a ≡ None → is_some b ≡ true → a ≡ b → ⊥
unlike a b p q e = false≢true (ap is_some (sym p ∙ e) ∙ q)

-- each departure parts the two
indented_parts : (l : List ℕ) → as_atx l (heading_of l) ≡ atx l → indented l ≡ true → ⊥
indented_parts l e h = unlike _ _ (ours l ∙ rw (spaced_hashes l (and_left _ _ h))) (and_right (leb 1 (indent l)) _ h) e

tab_parts : (l : List ℕ) → as_atx l (heading_of l) ≡ atx l → tab_after_hashes l ≡ true → ⊥
unfolding starts_with
tab_parts l q h = go (behind l) refl (and_right (is_opened l) _ h) q
  where
    go : (r : List ℕ) → behind l ≡ r → starts_with (0x09 ∷ []) r ≡ true → as_atx l (heading_of l) ≡ atx l → ⊥
    go [] e k = absurd (false≢true k)
    go (x ∷ r) e k =
        let o = and_left _ _ h in
        let t = eqb-true x 0x09 (and_left _ _ k) in
        unlike _ _ (ours l ∙ rw (o, e, t)) (rw (theirs l (unspaced l o), o, e, t))

bare_parts : (l : List ℕ) → as_atx l (heading_of l) ≡ atx l → bare_hashes l ≡ true → ⊥
unfolding starts_with
bare_parts l q h = go (behind l) refl (and_right (is_opened l) _ h) q
  where
    go : (r : List ℕ) → behind l ≡ r → eqb (length r) 0 ≡ true → as_atx l (heading_of l) ≡ atx l → ⊥
    go [] e k = let o = and_left _ _ h in unlike _ _ (ours l ∙ rw (o, e)) (rw (theirs l (unspaced l o), o, e))
    go (x ∷ r) e k = absurd (omega (arith, eqb-true (suc (length r)) 0 k))

closing_parts : (l : List ℕ) → as_atx l (heading_of l) ≡ atx l → closing_run l ≡ true → ⊥
closing_parts l e h = closed_differs (behind l) (and_right (is_ours l) _ h) (same_text l (and_left (is_ours l) _ h) e)

space_parts : (l : List ℕ) → as_atx l (heading_of l) ≡ atx l → other_space_bytes l ≡ true → ⊥
space_parts l e h = spaced_differs (behind l) (and_right (is_ours l) _ h) (same_text l (and_left (is_ours l) _ h) e)

-- and where none of them holds there is no other
module _ (l : List ℕ) (d : departs l ≡ false) where
  no-indented : leb 1 (indent l) ≡ true → atx l ≡ None
  unfolding departs
  no-indented s = let n : indented l ≡ false = search of-list in none_is (atx l) (second _ _ s n)

  no-tab : is_opened l ≡ true → starts_with (0x09 ∷ []) (behind l) ≡ false
  unfolding departs
  no-tab o = let n : tab_after_hashes l ≡ false = search of-list in second _ _ o n

  no_bare : is_opened l ≡ true → eqb (length (behind l)) 0 ≡ false
  unfolding departs
  no_bare o = let n : bare_hashes l ≡ false = search of-list in second _ _ o n

  no-closing : is_ours l ≡ true → unclosed (strip (behind l)) ≡ strip (behind l)
  unfolding departs unclosed
  no-closing k = let n : closing_run l ≡ false = search of-list in rw (second _ _ k n)

  no-space : is_ours l ≡ true → is_spaced (strip (behind l)) ≡ false
  unfolding departs
  no-space k = let n : other_space_bytes l ≡ false = search of-list in second _ _ k n

  our-heading : is_ours l ≡ true → as_atx l (heading_of l) ≡ atx l
  our-heading k = text_same l k (trim-strip (behind l) (no-space k) ∙ sym (no-closing k))

  -- behind the hashes: the end, a space, a tab, or another byte
  opened : is_opened l ≡ true → as_atx l (heading_of l) ≡ atx l
  unfolding starts_with
  opened o = go (behind l) refl
    where
      go : (r : List ℕ) → behind l ≡ r → as_atx l (heading_of l) ≡ atx l
      go [] e = absurd (false≢true (sym (rw e at (no_bare o))))
      go (x ∷ r) e = at (eqb x 0x20) (eqb x 0x09) refl refl
        where
          at : (y z : Bool) → eqb x 0x20 ≡ y → eqb x 0x09 ≡ z → as_atx l (heading_of l) ≡ atx l
          at true z p q = our-heading (rw (o, e, p))
          at false true p q = absurd (false≢true (sym (rw (e, q) at (no-tab o))))
          at false false p q = ours l ∙ sym (theirs l (unspaced l o) ∙ rw (o, e, p, q))

  unopened : is_opened l ≡ false → as_atx l (heading_of l) ≡ atx l
  unopened o = (ours l ∙ rw o) ∙ sym (go (leb 1 (indent l)) refl)
    where
      go : (b : Bool) → leb 1 (indent l) ≡ b → atx l ≡ None
      go true s = no-indented s
      go false s = theirs l s ∙ rw o

  same : (b : Bool) → is_opened l ≡ b → as_atx l (heading_of l) ≡ atx l
  same true o = opened o
  same false o = unopened o

parts : (l : List ℕ) → as_atx l (heading_of l) ≡ atx l → departs l ≡ true → ⊥
unfolding departs
parts l e =
    indented_parts l e
    or tab_parts l e
    or bare_parts l e
    or closing_parts l e
    or space_parts l e

-- a CR at the end of our line is no part of CommonMark's
heading_cr : (l : List ℕ) → as_atx (l ++ (0x0D ∷ [])) (heading_of (l ++ (0x0D ∷ []))) ≡ as_atx l (heading_of l)
unfolding any
heading_cr l = ours (l ++ (0x0D ∷ [])) ∙ (rw (hashes_cr l, behind_cr l, starts_cr (bytes " ") (behind l) refl, trim_cr (behind l)) (sym (ours l)))

heading-ended : (l : List ℕ) → as_atx l (heading_of l) ≡ as_atx (ended l) (heading_of (ended l))
heading-ended = by_ended (λ l m. as_atx l (heading_of l) ≡ as_atx m (heading_of m)) (λ l. refl) heading_cr

pub same-heading : SameHeading
same-heading l d = heading-ended l ∙ same (ended l) d (is_opened (ended l)) refl

pub other_heading : OtherHeading
other_heading l d e = parts (ended l) (sym (heading-ended l) ∙ e) d

pub each_parts : EachParts
unfolding ended is_closed run_start unclosed atx strip strip_start strip_end indent heading_of text_start text_end hashes lead kept is_space first after_last starts_with
each_parts = ((refl, (refl, refl)), ((refl, (refl, refl)), ((refl, (refl, refl)), ((refl, (refl, refl)), ((refl, (refl, refl)), ((refl, (refl, refl)), ((refl, (refl, refl)), (refl, (refl, refl)))))))))

pub none_holds : NoneHolds
unfolding ended departs is_closed run_start unclosed atx strip strip_start strip_end indent hashes is_space first after_last starts_with
none_holds = (refl, (refl, (refl, (refl, (refl, (refl, (refl, (refl, (refl, (refl, refl))))))))))
