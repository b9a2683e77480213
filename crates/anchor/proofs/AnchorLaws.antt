-- Laws of `specs/Anchor.antt`: the text without its markup byte by byte, runs of underscores, where the trimmed text starts and ends, and anchors byte by byte.
-- Assumes nothing.
use Rattle.std.specs.Prelude.{Option, Some, None}
use Rattle.std.specs.Option.{MatchOption, IfSome}
use Rattle.std.specs.List.{AllZip}
use Rattle.std.specs.Iterator.{Yields, YieldsFirst, ComparesItemsByEq}
use Prim.Native.Nat.{ℕ, zero, suc, ◌+◌, ◌-◌, ◌≤◌, ◌<◌}
use native.Mathlib.Nat.{not-suc-le-zero}
use native.Mathlib.Numerals.{add-one}
use native.Mathlib.Omega.{arith}
use mathlib.Core.Path.{◌≡◌, refl, sym, ap, ◌∙◌}
use mathlib.Core.Bool.{Bool, true, false, cond, not, ◌&&◌, ◌||◌, false≢true, and-false}
use mathlib.Core.List.{List, [], ◌∷◌}
use lib.ListN.{length, take, drop, get_or, drop_of_length-le}
use lib.Seq.{drop-cons}
use lib.Dec.{eqb, leb, eqb-suc-suc, eqb-zero-suc, eqb-suc-zero}
use borrow.Author.Tests.{not-true, not-false, eq-eqb, ne_eqb, eqb-true, eqb-false, leb-true, lt-leb}
use Rattle.std.proofs.lemmas.List.{get_or-take, get_or-drop}
use Rattle.text.specs.Bytes.{part, is, any, first, after_last}
use Rattle.text.specs.Space.{is_space, is_other, lead, kept, trim_start, trim_end, trim}
use Rattle.text.specs.Pattern.{starts_with, equals}
use Rattle.text.proofs.BytesLaws.{or_left, or_right, after_none}
use Rattle.text.proofs.PatternLaws.{and_right}
use Rattle.text.specs.Ascii.{lower}
use Rattle.anchor.specs.Anchor.{markup_after, stands, is_linked, Cut, cut_byte, cut_from, is_mark, is_word, word_follows, word_before, stays, shows, plain_from, is_kept, anchor_of, is_text, is_shown, word_after, is_seen, plain_end_from}
use Rattle.anchor.specs.declared.Markup.{Markup}

-- trimming, by the first byte
after-some : (f : ℕ → Bool) (s : List ℕ) → any f s ≡ true → 0 < after_last f s
unfolding any after_last
after-some f [] e = absurd (false≢true e)
after-some f (x ∷ s) e = go (after_last f s) (f x) (any f s) e (after-some f s)
  where
    go : (k : ℕ) (a b : Bool) → (a || b) ≡ true → (b ≡ true → 0 < k) → 0 < elim k [ zero ↦ cond a 1 0 | suc j ↦ suc (suc j) ]
    go (suc k) a b e h = omega arith
    go zero true b e h = omega arith
    go zero false b e h = absurd (not-suc-le-zero (h e))

after-cons : (f : ℕ → Bool) (x : ℕ) (s : List ℕ) → after_last f (x ∷ s) ≡ cond (any f s) (suc (after_last f s)) (cond (f x) 1 0)
unfolding after_last
after-cons f x s = go (any f s) (after_last f s) (after-some f s) (after_none f s)
  where
    go : (b : Bool) (k : ℕ) → (b ≡ true → 0 < k) → (b ≡ false → k ≡ 0)
        → elim k [ zero ↦ cond (f x) 1 0 | suc j ↦ suc (suc j) ] ≡ cond b (suc k) (cond (f x) 1 0)
    go true zero h n = absurd (not-suc-le-zero (h refl))
    go true (suc k) h n = refl
    go false zero h n = refl
    go false (suc k) h n = absurd (omega (arith, n refl))

trim_end-cons : (x : ℕ) (p : List ℕ) → trim_end (x ∷ p) ≡ cond (any is_other p) (x ∷ trim_end p) (cond (not (is_space x)) (x ∷ []) [])
unfolding trim_end kept
trim_end-cons x p = ap (λ (n : ℕ). take n (x ∷ p)) (after-cons is_other x p) ∙ go (any is_other p) (not (is_space x))
  where
    go : (c v : Bool) → take (cond c (suc (after_last is_other p)) (cond v 1 0)) (x ∷ p) ≡ cond c (x ∷ take (after_last is_other p) p) (cond v (x ∷ []) [])
    go true v = refl
    go false true = refl
    go false false = refl

trim_end_blank : (p : List ℕ) → any is_other p ≡ false → trim_end p ≡ []
unfolding trim_end kept
trim_end_blank p e = rw (after_none is_other p e)

trim_other : (x : ℕ) (p : List ℕ) → is_space x ≡ false → trim (x ∷ p) ≡ trim_end (x ∷ p)
unfolding trim trim_start lead first
trim_other x p e = rw e

trim_space : (x : ℕ) (p : List ℕ) → is_space x ≡ true → trim (x ∷ p) ≡ trim p
unfolding trim trim_start lead first
trim_space x p e = rw e

trim-nil : trim [] ≡ []
unfolding trim trim_start lead first trim_end kept after_last
trim-nil = refl

trim_blank : (p : List ℕ) → any is_other p ≡ false → trim p ≡ []
unfolding any
trim_blank [] e = trim-nil
trim_blank (x ∷ p) e = trim_space x p (not-false (is_space x) (or_left (is_other x) (any is_other p) e)) ∙ trim_blank p (or_right (is_other x) (any is_other p) e)

-- the text without its markup from a byte on, behind a letter or digit or not
abbrev pub plain_in : Bool → Markup → List ℕ → List ℕ
plain_in w m s = plain_from w (cut_from m s)

abbrev pub follows : Markup → List ℕ → Bool
follows m s = word_follows (cut_from m s)

-- by the first byte
pub plain-cons : (w : Bool) (m : Markup) (x : ℕ) (s : List ℕ)
    → let rest = plain_in (word_after w m x) (markup_after m x) s in plain_in w m (x ∷ s) ≡ cond (is_shown w m x s) (x ∷ rest) rest
unfolding cut_from plain_from
plain-cons w m x s = go (stands m x)
  where
    go : (b : Bool) → plain_from w (cond b (cut_byte m x ∷ cut_from (markup_after m x) s) (cut_from (markup_after m x) s))
        ≡ cond (b && (shows (cut_byte m x) || stays w x (cut_from (markup_after m x) s)))
        (x ∷ plain_in (cond b (word_before w x) w) (markup_after m x) s)
        (plain_in (cond b (word_before w x) w) (markup_after m x) s)
    go true = refl
    go false = refl

follows_cons : (m : Markup) (x : ℕ) (s : List ℕ)
    → follows m (x ∷ s) ≡ cond (stands m x) (cond (eqb x 0x5F) (follows (markup_after m x) s) (is_word x)) (follows (markup_after m x) s)
unfolding cut_from word_follows
follows_cons m x s = go (stands m x)
  where
    go : (b : Bool) → word_follows (cond b (cut_byte m x ∷ cut_from (markup_after m x) s) (cut_from (markup_after m x) s))
        ≡ cond b (cond (eqb x 0x5F) (follows (markup_after m x) s) (is_word x)) (follows (markup_after m x) s)
    go true = refl
    go false = refl

plain-nil : (w : Bool) (m : Markup) → plain_in w m [] ≡ []
unfolding cut_from plain_from
plain-nil w m = refl

follows_nil : (m : Markup) → follows m [] ≡ false
unfolding cut_from word_follows
follows_nil m = refl

-- a run that no letter or digit follows goes, whatever stands before it
goes : (s : List Cut) → word_follows s ≡ false → plain_from false s ≡ plain_from true s
unfolding word_follows plain_from
goes [] h = refl
goes (c ∷ s) h = go (eqb c.byte 0x5F) h (goes s)
  where
    go : (b : Bool) → cond b (word_follows s) (is_word c.byte) ≡ false → (word_follows s ≡ false → plain_from false s ≡ plain_from true s)
        → cond (shows c || (b && (false && word_follows s))) (c.byte ∷ plain_from (cond b false (is_word c.byte)) s) (plain_from (cond b false (is_word c.byte)) s)
        ≡ cond (shows c || (b && (true && word_follows s))) (c.byte ∷ plain_from (cond b true (is_word c.byte)) s) (plain_from (cond b true (is_word c.byte)) s)
    go true e ih = rw (e, ih e)
    go false e ih = refl

judged : (w : Bool) (s : List Cut) → plain_from (w && word_follows s) s ≡ plain_from w s
judged false s = refl
judged true s = go (word_follows s) refl
  where
    go : (b : Bool) → word_follows s ≡ b → plain_from b s ≡ plain_from true s
    go true e = refl
    go false e = goes s e

-- a letter or digit is text, and no space byte
word-mark : (x : ℕ) → is_mark x ≡ true → is_word x ≡ false
unfolding lower
word-mark x h = go (eqb x 0x60) (eqb x 0x2A) refl refl h
  where
    go : (y z : Bool) → eqb x 0x60 ≡ y → eqb x 0x2A ≡ z → (y || (z || eqb x 0x5F)) ≡ true → is_word x ≡ false
    go true z p q k = rw (eqb-true x 0x60 p)
    go false true p q k = rw (eqb-true x 0x2A q)
    go false false p q k = rw (eqb-true x 0x5F k)

word_space : (x : ℕ) → is_space x ≡ true → is_word x ≡ false
unfolding lower is_space
word_space x h = go (eqb x 0x20) refl h
  where
    go : (y : Bool) → eqb x 0x20 ≡ y → ((leb 0x09 x && leb x 0x0D) || y) ≡ true → is_word x ≡ false
    go true p k = rw (eqb-true x 0x20 p)
    go false p k = small (leb-true x 0x0D (low (leb 0x09 x) (leb x 0x0D) k))
      where
        low : (a b : Bool) → ((a && b) || false) ≡ true → b ≡ true
        low true true e = refl
        low true false e = e
        low false b e = absurd (false≢true e)

        small : x ≤ 0x0D → is_word x ≡ false
        small l = rw (lt-leb 0x41 x (omega arith), lt-leb 0x61 x (omega arith), lt-leb 0x30 x (omega arith))

unseen_word : (m : Markup) (x : ℕ) → is_seen m x ≡ false → stands m x ≡ true → is_word x ≡ false
unseen_word m x h k = go (is_mark x) (is_space x) refl refl (rw k at h)
  where
    go : (y z : Bool) → is_mark x ≡ y → is_space x ≡ z → ((is_linked m || not y) && not z) ≡ false → is_word x ≡ false
    go true z p q e = word-mark x p
    go false true p q e = word_space x q
    go false false p q e = absurd (false≢true (sym e ∙ yes (is_linked m)))
      where
        yes : (l : Bool) → ((l || true) && true) ≡ true
        yes true = refl
        yes false = refl

-- whether a byte that is text and no space byte is left
unfoldable any_seen : Markup → List ℕ → Bool
any_seen m [] = false
any_seen m (x ∷ s) = is_seen m x || any_seen (markup_after m x) s

or_false : (a : Bool) → (a || false) ≡ a
or_false true = refl
or_false false = refl

follows_none : (m : Markup) (s : List ℕ) → any_seen m s ≡ false → follows m s ≡ false
unfolding any_seen
follows_none m [] h = follows_nil m
follows_none m (x ∷ s) h =
    follows_cons m x s ∙ go (stands m x) (eqb x 0x5F) refl (follows_none (markup_after m x) s (or_right (is_seen m x) _ h))
  where
    go : (a b : Bool) → stands m x ≡ a → follows (markup_after m x) s ≡ false
        → cond a (cond b (follows (markup_after m x) s) (is_word x)) (follows (markup_after m x) s) ≡ false
    go true true p ih = ih
    go true false p ih = unseen_word m x (or_left (is_seen m x) _ h) p
    go false b p ih = ih

stays_seen : (w : Bool) (m : Markup) (x : ℕ) (s : List ℕ) → any_seen m s ≡ false → stays w x (cut_from m s) ≡ false
stays_seen w m x s h = rw (follows_none m s h) (go (eqb x 0x5F) w)
  where
    go : (a b : Bool) → (a && (b && false)) ≡ false
    go true true = refl
    go true false = refl
    go false b = refl

-- the text without its markup has a byte that is no space byte where one is seen: an underscore that stays has one behind it
any-plain : (w : Bool) (m : Markup) (s : List ℕ) → any is_other (plain_in w m s) ≡ any_seen m s
unfolding any any_seen
any-plain w m [] = rw (plain-nil w m)
any-plain w m (x ∷ s) =
    ap (any is_other) (plain-cons w m x s)
    ∙ go (stands m x) (shows (cut_byte m x)) (any_seen (markup_after m x) s) refl (any-plain (word_after w m x) (markup_after m x) s)
  where
    rest : List ℕ
    rest = plain_in (word_after w m x) (markup_after m x) s

    kept-or : (b : Bool) → any is_other rest ≡ true → any is_other (cond b (x ∷ rest) rest) ≡ true
    kept-or true e = rw e (yes (is_space x))
      where
        yes : (z : Bool) → (not z || true) ≡ true
        yes true = refl
        yes false = refl
    kept-or false e = e

    go : (a b c : Bool) → any_seen (markup_after m x) s ≡ c → any is_other rest ≡ c
        → any is_other (cond (a && (b || stays w x (cut_from (markup_after m x) s))) (x ∷ rest) rest) ≡ (((a && b) && not (is_space x)) || c)
    go true true c e ih = rw ih
    go true false true e ih = kept-or (stays w x (cut_from (markup_after m x) s)) ih
    go true false false e ih = rw (stays_seen w (markup_after m x) x s e) ih
    go false b c e ih = ih

-- where the text ends once the space bytes after it are trimmed
unfoldable end_of : Markup → List ℕ → ℕ
end_of m [] = 0
end_of m (x ∷ s) = cond (any_seen (markup_after m x) s) (suc (end_of (markup_after m x) s)) (cond (is_seen m x) 1 0)

end-some : (m : Markup) (s : List ℕ) → any_seen m s ≡ true → 0 < end_of m s
unfolding end_of any_seen
end-some m [] e = absurd (false≢true e)
end-some m (x ∷ s) e = go (is_seen m x) (any_seen (markup_after m x) s) e
  where
    go : (v c : Bool) → (v || c) ≡ true → 0 < cond c (suc (end_of (markup_after m x) s)) (cond v 1 0)
    go v true h = omega arith
    go true false h = omega arith
    go false false h = absurd (false≢true h)

plain_end : (m : Markup) (e n : ℕ) (s : List ℕ) → plain_end_from m e n s ≡ cond (any_seen m s) (n + end_of m s) e
unfolding plain_end_from end_of any_seen
plain_end m e n [] = refl
plain_end m e n (x ∷ s) =
    plain_end (markup_after m x) (cond (is_seen m x) (suc n) e) (suc n) s ∙ go (is_seen m x) (any_seen (markup_after m x) s)
  where
    go : (v c : Bool) → cond c (suc n + end_of (markup_after m x) s) (cond v (suc n) e)
        ≡ cond (v || c) (n + cond c (suc (end_of (markup_after m x) s)) (cond v 1 0)) e
    go true true = omega arith
    go true false = omega arith
    go false true = omega arith
    go false false = refl

-- what follows a run is the same in the text up to there
follows_take : (m : Markup) (s : List ℕ) → follows m (take (end_of m s) s) ≡ follows m s
unfolding end_of
follows_take m [] = refl
follows_take m (x ∷ s) =
    go (any_seen (markup_after m x) s) (is_seen m x) refl refl (follows_take (markup_after m x) s) ∙ sym (follows_cons m x s)
  where
    none : (a b : Bool) → stands m x ≡ a → is_seen m x ≡ false → cond a (cond b false (is_word x)) false ≡ false
    none true true p q = refl
    none true false p q = unseen_word m x q p
    none false b p q = refl

    go : (c v : Bool) → any_seen (markup_after m x) s ≡ c → is_seen m x ≡ v
        → follows (markup_after m x) (take (end_of (markup_after m x) s) s) ≡ follows (markup_after m x) s
        → follows m (take (cond c (suc (end_of (markup_after m x) s)) (cond v 1 0)) (x ∷ s))
        ≡ cond (stands m x) (cond (eqb x 0x5F) (follows (markup_after m x) s) (is_word x)) (follows (markup_after m x) s)
    go true v p q ih = rw (follows_cons m x (take (end_of (markup_after m x) s) s), ih)
    go false true p q ih = rw (follows_cons m x [], follows_nil (markup_after m x), follows_none (markup_after m x) s p)
    go false false p q ih = rw (follows_nil m, follows_none (markup_after m x) s p) (sym (none (stands m x) (eqb x 0x5F) refl q))

-- where no underscore is, nothing depends on what stands before
pub no_underscore : (w v : Bool) (m : Markup) (s : List ℕ) → any (is 0x5F) s ≡ false → plain_in w m s ≡ plain_in v m s
unfolding any
no_underscore w v m [] h = plain-nil w m ∙ sym (plain-nil v m)
no_underscore w v m (x ∷ s) h =
    plain-cons w m x s ∙ (go (stands m x) (eqb x 0x5F) (or_left (eqb x 0x5F) _ h) (no_underscore w v (markup_after m x) s (or_right (eqb x 0x5F) _ h)) ∙ sym (plain-cons v m x s))
  where
    left : Bool → Bool → Bool → List ℕ
    left u a b =
        let rest = plain_in (cond a (cond b u (is_word x)) u) (markup_after m x) s in
        cond (a && (shows (cut_byte m x) || (b && (u && follows (markup_after m x) s)))) (x ∷ rest) rest

    go : (a b : Bool) → b ≡ false → plain_in w (markup_after m x) s ≡ plain_in v (markup_after m x) s → left w a b ≡ left v a b
    go a true e ih = absurd (false≢true (sym e))
    go true false e ih = refl
    go false false e ih = ih

text-shown : (w : Bool) (m : Markup) (x : ℕ) (s : List ℕ) → eqb x 0x5F ≡ false → is_shown w m x s ≡ is_text m x
text-shown w m x s h = go (stands m x) (shows (cut_byte m x)) (eqb x 0x5F) h
  where
    go : (a b c : Bool) → c ≡ false → (a && (b || (c && (w && follows (markup_after m x) s)))) ≡ (a && b)
    go a b true e = absurd (false≢true (sym e))
    go a true false e = refl
    go a false false e = refl

-- a byte that is shown, hidden or seen
pub plain-shown : (w : Bool) (m : Markup) (x : ℕ) (s : List ℕ) → is_shown w m x s ≡ true
    → plain_in w m (x ∷ s) ≡ x ∷ plain_in (word_after w m x) (markup_after m x) s
plain-shown w m x s e = plain-cons w m x s ∙ ap (λ (b : Bool). cond b (x ∷ plain_in (word_after w m x) (markup_after m x) s) (plain_in (word_after w m x) (markup_after m x) s)) e

pub plain_hidden : (w : Bool) (m : Markup) (x : ℕ) (s : List ℕ) → is_shown w m x s ≡ false
    → plain_in w m (x ∷ s) ≡ plain_in (word_after w m x) (markup_after m x) s
plain_hidden w m x s e = plain-cons w m x s ∙ ap (λ (b : Bool). cond b (x ∷ plain_in (word_after w m x) (markup_after m x) s) (plain_in (word_after w m x) (markup_after m x) s)) e

seen_shown : (w : Bool) (m : Markup) (x : ℕ) (s : List ℕ) → is_seen m x ≡ true → is_shown w m x s ≡ true
seen_shown w m x s h = go (stands m x) (shows (cut_byte m x)) h
  where
    go : (a b : Bool) → ((a && b) && not (is_space x)) ≡ true → (a && (b || stays w x (cut_from (markup_after m x) s))) ≡ true
    go true true e = refl
    go true false e = absurd (false≢true e)
    go false b e = absurd (false≢true e)

-- what is shown and not seen is a space byte, where nothing is seen behind it or no letter or digit stands before it
shown_space : (w : Bool) (m : Markup) (x : ℕ) (s : List ℕ) → is_seen m x ≡ false → stays w x (cut_from (markup_after m x) s) ≡ false → is_shown w m x s ≡ true → is_space x ≡ true
shown_space w m x s h k e = go (stands m x) (shows (cut_byte m x)) h (rw k at e)
  where
    go : (a b : Bool) → ((a && b) && not (is_space x)) ≡ false → (a && (b || false)) ≡ true → is_space x ≡ true
    go true true p q = not-false (is_space x) p
    go true false p q = absurd (false≢true q)
    go false b p q = absurd (false≢true q)

plain-take : (w : Bool) (m : Markup) (s : List ℕ) → plain_in w m (take (end_of m s) s) ≡ trim_end (plain_in w m s)
unfolding end_of any_seen
plain-take w m [] = plain-nil w m ∙ sym (trim_end_blank (plain_in w m []) (any-plain w m []))
plain-take w m (x ∷ s) =
    go (any_seen (markup_after m x) s) (is_seen m x) (is_shown w m x s) refl refl refl (plain-take (word_after w m x) (markup_after m x) s)
  where
    rest : List ℕ
    rest = plain_in (word_after w m x) (markup_after m x) s

    on : (b : Bool) → any is_other rest ≡ true → cond b (x ∷ trim_end rest) (trim_end rest) ≡ trim_end (cond b (x ∷ rest) rest)
    on true h = sym (trim_end-cons x rest ∙ rw h)
    on false h = refl

    go : (c v b : Bool) → any_seen (markup_after m x) s ≡ c → is_seen m x ≡ v → is_shown w m x s ≡ b
        → plain_in (word_after w m x) (markup_after m x) (take (end_of (markup_after m x) s) s) ≡ trim_end rest
        → plain_in w m (take (cond c (suc (end_of (markup_after m x) s)) (cond v 1 0)) (x ∷ s)) ≡ trim_end (plain_in w m (x ∷ s))
    go true v b p q r ih =
        plain-cons w m x (take (end_of (markup_after m x) s) s)
        ∙ (rw (follows_take (markup_after m x) s, ih) (on (is_shown w m x s) (any-plain (word_after w m x) (markup_after m x) s ∙ p)) ∙ ap trim_end (sym (plain-cons w m x s)))
    go false true b p q r ih =
        plain-shown w m x [] (seen_shown w m x [] q)
        ∙ (ap (λ (t : List ℕ). x ∷ t) (plain-nil (word_after w m x) (markup_after m x))
        ∙ sym (ap trim_end (plain-shown w m x s (seen_shown w m x s q)) ∙ (trim_end-cons x rest ∙ rw (any-plain (word_after w m x) (markup_after m x) s ∙ p, and_right (stands m x && shows (cut_byte m x)) _ q))))
    go false false true p q r ih =
        plain-nil w m
        ∙ sym (ap trim_end (plain-shown w m x s r) ∙ (trim_end-cons x rest ∙ rw (any-plain (word_after w m x) (markup_after m x) s ∙ p, shown_space w m x s q (stays_seen w (markup_after m x) x s p) r)))
    go false false false p q r ih =
        plain-nil w m ∙ sym (ap trim_end (plain_hidden w m x s r) ∙ trim_end_blank rest (any-plain (word_after w m x) (markup_after m x) s ∙ p))

-- a seen byte: what stands from it up to the place after the last seen byte is the trimmed text
seen_first : (w : Bool) (m : Markup) (x : ℕ) (s : List ℕ) (n e : ℕ) → is_seen m x ≡ true → plain_end_from m 0 n (x ∷ s) ≡ e
    → plain_in w m (take (e - n) (x ∷ s)) ≡ trim (plain_in w m (x ∷ s))
unfolding any_seen
seen_first w m x s n e q h =
    let a : any_seen m (x ∷ s) ≡ true = rw q in
    let k : e ≡ n + end_of m (x ∷ s) = sym h ∙ (plain_end m 0 n (x ∷ s) ∙ ap (λ (b : Bool). cond b (n + end_of m (x ∷ s)) 0) a) in
    let j : e - n ≡ end_of m (x ∷ s) = omega arith in
    let p = plain-shown w m x s (seen_shown w m x s q) in
    let o = trim_other x (plain_in (word_after w m x) (markup_after m x) s) (not-true (is_space x) (and_right (stands m x && shows (cut_byte m x)) _ q)) in
    ap (λ (d : ℕ). plain_in w m (take d (x ∷ s))) j ∙ (plain-take w m (x ∷ s) ∙ (ap trim_end p ∙ sym (ap trim p ∙ o)))

-- no seen byte is left
seen_none : (w : Bool) (m : Markup) (s : List ℕ) (n e : ℕ) → e ≤ n → plain_end_from m 0 n s ≡ e → plain_in w m (take (e - n) s) ≡ trim (plain_in w m s)
seen_none w m s n e l h = go (any_seen m s) refl (sym h ∙ plain_end m 0 n s)
  where
    go : (b : Bool) → any_seen m s ≡ b → e ≡ cond b (n + end_of m s) 0 → plain_in w m (take (e - n) s) ≡ trim (plain_in w m s)
    go true a k = absurd (omega (arith, end-some m s a))
    go false a k =
        let j : e - n ≡ 0 = omega arith in
        ap (λ (d : ℕ). plain_in w m (take d s)) j ∙ (plain-nil w m ∙ sym (trim_blank (plain_in w m s) (any-plain w m s ∙ a)))

-- a byte that is not seen has no letter or digit behind it, and trimming drops it
word_unseen : (m : Markup) (x : ℕ) → is_seen m x ≡ false → word_after false m x ≡ false
word_unseen m x h = go (stands m x) (eqb x 0x5F) refl
  where
    go : (a b : Bool) → stands m x ≡ a → cond a (cond b false (is_word x)) false ≡ false
    go true true p = refl
    go true false p = unseen_word m x h p
    go false b p = refl

trim_unseen : (m : Markup) (x : ℕ) (s : List ℕ) → is_seen m x ≡ false → trim (plain_in false (markup_after m x) s) ≡ trim (plain_in false m (x ∷ s))
trim_unseen m x s h = ap (λ (w : Bool). trim (plain_in w (markup_after m x) s)) (sym (word_unseen m x h)) ∙ go (is_shown false m x s) refl
  where
    none : (b : Bool) → (b && (false && word_follows (cut_from (markup_after m x) s))) ≡ false
    none true = refl
    none false = refl

    go : (b : Bool) → is_shown false m x s ≡ b → trim (plain_in (word_after false m x) (markup_after m x) s) ≡ trim (plain_in false m (x ∷ s))
    go true e = sym (ap trim (plain-shown false m x s e) ∙ trim_space x _ (shown_space false m x s h (none (eqb x 0x5F)) e))
    go false e = ap trim (sym (plain_hidden false m x s e))

-- walks by the byte at place i
module _ (m : Markup) (t : List ℕ) (i : ℕ) where
  pub end_on : (e : ℕ) (v : Bool) → i < length t → is_seen m (get_or t i 0) ≡ v
      → plain_end_from (markup_after m (get_or t i 0)) (cond v (i + 1) e) (i + 1) (drop (i + 1) t) ≡ plain_end_from m e i (drop i t)
  unfolding plain_end_from
  end_on e v h q = rw (← q, add-one i, drop-cons t i 0)

  pub end_done : (e : ℕ) → length t ≤ i → plain_end_from m e i (drop i t) ≡ e
  unfolding plain_end_from
  end_done e h = rw (drop_of_length-le t h)

  pub start_on : i < length t → is_seen m (get_or t i 0) ≡ false
      → trim (plain_in false (markup_after m (get_or t i 0)) (drop (i + 1) t)) ≡ trim (plain_in false m (drop i t))
  start_on h q = rw (add-one i, drop-cons t i 0) (trim_unseen m (get_or t i 0) (drop (suc i) t) q)

  pub start-here : (e : ℕ) → i < length t → is_seen m (get_or t i 0) ≡ true → plain_end_from m 0 i (drop i t) ≡ e
      → plain_in false m (part i e t) ≡ trim (plain_in false m (drop i t))
  start-here e h q k = rw (drop-cons t i 0) (seen_first false m (get_or t i 0) (drop (suc i) t) i e q (rw (drop-cons t i 0) at k))

  pub start_nowhere : (e : ℕ) → e ≤ i → plain_end_from m 0 i (drop i t) ≡ e → plain_in false m (part i e t) ≡ trim (plain_in false m (drop i t))
  start_nowhere e l k = seen_none false m (drop i t) i e l k

pub part-cons : (t : List ℕ) (i e : ℕ) → i < e → e ≤ length t → part i e t ≡ get_or t i 0 ∷ part (i + 1) e t
part-cons t i e h k =
    let j : e - i ≡ suc (e - (i + 1)) = omega arith in
    let l : i < length t = omega arith in
    rw (j, drop-cons t i 0, add-one i)

-- its byte at place i
pub part_byte : (t : List ℕ) (a e i : ℕ) → i < e - a → get_or (part a e t) i 0 ≡ get_or t (a + i) 0
part_byte t a e i h = get_or-take (e - a) (drop a t) i 0 h ∙ get_or-drop a t i 0

pub part_none : (t : List ℕ) (i e : ℕ) → e ≤ i → part i e t ≡ []
part_none t i e h =
    let j : e - i ≡ 0 = omega arith in
    rw j

-- what follows a run, and the text without its markup, of a part from place i up to e, by its first byte
module _ (m : Markup) (t : List ℕ) (i e : ℕ) (h : i < e) (k : e ≤ length t) where
  follows-part : follows m (part i e t) ≡ follows m (get_or t i 0 ∷ part (i + 1) e t)
  follows-part = ap (follows m) (part-cons t i e h k)

  pub follows_past : (stands m (get_or t i 0) && not (eqb (get_or t i 0) 0x5F)) ≡ false → follows m (part i e t) ≡ follows (markup_after m (get_or t i 0)) (part (i + 1) e t)
  follows_past p = follows-part ∙ (follows_cons m (get_or t i 0) (part (i + 1) e t) ∙ go (stands m (get_or t i 0)) (eqb (get_or t i 0) 0x5F) p)
    where
      go : (a b : Bool) → (a && not b) ≡ false
          → cond a (cond b (follows (markup_after m (get_or t i 0)) (part (i + 1) e t)) (is_word (get_or t i 0))) (follows (markup_after m (get_or t i 0)) (part (i + 1) e t))
          ≡ follows (markup_after m (get_or t i 0)) (part (i + 1) e t)
      go true true h = refl
      go true false h = absurd (false≢true (sym h))
      go false b h = refl

  pub follows_cut : stands m (get_or t i 0) ≡ false → follows m (part i e t) ≡ follows (markup_after m (get_or t i 0)) (part (i + 1) e t)
  follows_cut p = follows_past (rw p)

  pub follows_run : get_or t i 0 ≡ 0x5F → follows m (part i e t) ≡ follows (markup_after m (get_or t i 0)) (part (i + 1) e t)
  follows_run q = follows_past (rw (eq-eqb (get_or t i 0) 0x5F q) (and-false (stands m (get_or t i 0))))

  pub follows_here : stands m (get_or t i 0) ≡ true → (get_or t i 0 ≡ 0x5F → ⊥) → follows m (part i e t) ≡ is_word (get_or t i 0)
  follows_here p q = follows-part ∙ (follows_cons m (get_or t i 0) (part (i + 1) e t) ∙ rw (p, ne_eqb (get_or t i 0) 0x5F q))

  plain-part : (w : Bool) → plain_in w m (part i e t) ≡ plain_in w m (get_or t i 0 ∷ part (i + 1) e t)
  plain-part w = ap (plain_in w m) (part-cons t i e h k)

  pub plain-cut : (w : Bool) → stands m (get_or t i 0) ≡ false → plain_in w m (part i e t) ≡ plain_in w (markup_after m (get_or t i 0)) (part (i + 1) e t)
  plain-cut w p = plain-part w ∙ (plain-cons w m (get_or t i 0) (part (i + 1) e t) ∙ rw p)

  pub plain-run : (w r : Bool) → stands m (get_or t i 0) ≡ true → get_or t i 0 ≡ 0x5F → r ≡ (w && follows (markup_after m (get_or t i 0)) (part (i + 1) e t))
      → let rest = plain_in (word_before r (get_or t i 0)) (markup_after m (get_or t i 0)) (part (i + 1) e t) in
      plain_in w m (part i e t) ≡ cond (is_text m (get_or t i 0) || r) (get_or t i 0 ∷ rest) rest
  plain-run w r p q h =
      plain-part w
      ∙ (plain-cons w m (get_or t i 0) (part (i + 1) e t)
      ∙ rw (p, eq-eqb (get_or t i 0) 0x5F q, h, judged w (cut_from (markup_after m (get_or t i 0)) (part (i + 1) e t))))

  pub plain_other : (w v : Bool) → stands m (get_or t i 0) ≡ true → (get_or t i 0 ≡ 0x5F → ⊥)
      → let rest = plain_in (word_before v (get_or t i 0)) (markup_after m (get_or t i 0)) (part (i + 1) e t) in
      plain_in w m (part i e t) ≡ cond (is_text m (get_or t i 0)) (get_or t i 0 ∷ rest) rest
  plain_other w v p q =
      plain-part w
      ∙ (plain-cons w m (get_or t i 0) (part (i + 1) e t)
      ∙ rw (p, ne_eqb (get_or t i 0) 0x5F q, or_false (is_linked m || not (eqb (get_or t i 0) 0x60 || (eqb (get_or t i 0) 0x2A || false)))))

  -- without underscores
  pub none_left : any (is 0x5F) (part i e t) ≡ false → any (is 0x5F) (part (i + 1) e t) ≡ false
  unfolding any
  none_left n = or_right (eqb (get_or t i 0) 0x5F) _ (rw (part-cons t i e h k) at n)

  none_here : any (is 0x5F) (part i e t) ≡ false → eqb (get_or t i 0) 0x5F ≡ false
  unfolding any
  none_here n = or_left (eqb (get_or t i 0) 0x5F) _ (rw (part-cons t i e h k) at n)

  pub plain-text : any (is 0x5F) (part i e t) ≡ false
      → let rest = plain_in false (markup_after m (get_or t i 0)) (part (i + 1) e t) in
      plain_in false m (part i e t) ≡ cond (is_text m (get_or t i 0)) (get_or t i 0 ∷ rest) rest
  plain-text n =
      let x = get_or t i 0 in
      let rest = plain_in false (markup_after m x) (part (i + 1) e t) in
      let q = no_underscore (word_after false m x) false (markup_after m x) (part (i + 1) e t) (none_left n) in
      plain-part false
      ∙ (plain-cons false m x (part (i + 1) e t)
      ∙ (ap (λ (r : List ℕ). cond (is_shown false m x (part (i + 1) e t)) (x ∷ r) r) q
      ∙ ap (λ (b : Bool). cond b (x ∷ rest) rest) (text-shown false m x (part (i + 1) e t) (none_here n))))

pub follows_end : (m : Markup) (t : List ℕ) (i e : ℕ) → e ≤ i → follows m (part i e t) ≡ false
follows_end m t i e h = ap (follows m) (part_none t i e h) ∙ follows_nil m

pub plain-none : (w : Bool) (m : Markup) (t : List ℕ) (i e : ℕ) → e ≤ i → plain_in w m (part i e t) ≡ []
plain-none w m t i e h = ap (plain_in w m) (part_none t i e h) ∙ plain-nil w m

-- what a byte that is shown or not adds to an anchor
module _ (x : ℕ) (s : List ℕ) where
  pub anchor_kept : is_kept x ≡ true → anchor_of (x ∷ s) ≡ lower x ∷ anchor_of s
  unfolding anchor_of
  anchor_kept e = ap (λ (b : Bool). cond b (lower x ∷ anchor_of s) (cond (eqb x 0x20) (0x2D ∷ anchor_of s) (anchor_of s))) e

  anchor-else : is_kept x ≡ false → anchor_of (x ∷ s) ≡ cond (eqb x 0x20) (0x2D ∷ anchor_of s) (anchor_of s)
  unfolding anchor_of
  anchor-else e = ap (λ (b : Bool). cond b (lower x ∷ anchor_of s) (cond (eqb x 0x20) (0x2D ∷ anchor_of s) (anchor_of s))) e

  pub anchor_space : is_kept x ≡ false → x ≡ 0x20 → anchor_of (x ∷ s) ≡ 0x2D ∷ anchor_of s
  anchor_space e r = anchor-else e ∙ rw (eq-eqb x 0x20 r)

  pub anchor_other : is_kept x ≡ false → (x ≡ 0x20 → ⊥) → anchor_of (x ∷ s) ≡ anchor_of s
  anchor_other e r = anchor-else e ∙ rw (ne_eqb x 0x20 r)

pub anchor_nil : anchor_of [] ≡ []
unfolding anchor_of
anchor_nil = refl

equals_on : (x y : ℕ) (a b : List ℕ) → x ≡ y → equals (x ∷ a) (y ∷ b) ≡ equals a b
unfolding equals starts_with
equals_on x y a b e = rw (eqb-suc-suc (length b) (length a), eq-eqb y x (sym e))

equals_differ : (x y : ℕ) (a b : List ℕ) → (x ≡ y → ⊥) → equals (x ∷ a) (y ∷ b) ≡ false
unfolding equals starts_with
equals_differ x y a b e = rw (ne_eqb y x (λ p. e (sym p))) (and-false (eqb (suc (length b)) (suc (length a))))

equals_longer : (x : ℕ) (a : List ℕ) → equals (x ∷ a) [] ≡ false
unfolding equals
equals_longer x a = rw (eqb-zero-suc (length a))

equals_shorter : (y : ℕ) (b : List ℕ) → equals [] (y ∷ b) ≡ false
unfolding equals
equals_shorter y b = rw (eqb-suc-zero (length b))

equals-nil : equals [] [] ≡ true
unfolding equals starts_with
equals-nil = refl

-- two lists whose items are compared one after the other
abbrev Next : List ℕ → Option ℕ → List ℕ → Type 0
Next = YieldsFirst (λ (l : List ℕ). l)

abbrev same_byte : ℕ → ℕ → Type 0
same_byte x y = eqb x y ≡ true

equals_behind : (xs ys s t u v : List ℕ) → AllZip same_byte xs ys → Yields Next s xs u → Yields Next t ys v → equals s t ≡ equals u v
equals_behind [] [] s t u v z p q = rw (p, q) refl
equals_behind [] (y ∷ ys) s t u v z p q = absurd z
equals_behind (x ∷ xs) [] s t u v z p q = absurd z
equals_behind (x ∷ xs) (y ∷ ys) s t u v z (j, p, h) (k, q, i) =
    rw (p, q) (equals_on x y j k (eqb-true x y z.0) ∙ equals_behind xs ys j k u v z.1 h i)

equals_last : (o p : Option ℕ) (s t u v : List ℕ) (r : Bool) → Next s o u → Next t p v
    → MatchOption o (MatchOption p (r ≡ true) (λ _. r ≡ false)) (λ x. (r ≡ false) × IfSome p (λ y. eqb x y ≡ false)) → r ≡ equals s t
equals_last None None s t u v r a b l = rw (a.0, b.0) (l ∙ sym equals-nil)
equals_last None (Some y) s t u v r a b l = rw (a.0, b) (l ∙ sym (equals_shorter y v))
equals_last (Some x) None s t u v r a b l = rw (a, b.0) (l.0 ∙ sym (equals_longer x u))
equals_last (Some x) (Some y) s t u v r a b l = rw (a, b) (l.0 ∙ sym (equals_differ x y u v (eqb-false x y l.1)))

pub equals_by : (s t : List ℕ) (r : Bool) → ComparesItemsByEq Next (λ x it. it ≡ x) Next s t eqb r → r ≡ equals s t
equals_by s t r (it, xs, ys, o, p, u, v, b, (j, y, h), (k, z, i), a, l) = equals_last o p j k u v r h i l ∙ sym (equals_behind xs ys s t j k a y (rw b at z))

pub ruleset ends = (end_on, end_done)

pub ruleset following = (follows_end)

pub ruleset nexts = (plain-none, anchor_kept, anchor_space, anchor_other, anchor_nil)

pub ruleset plains = (plain-none, anchor_nil)
