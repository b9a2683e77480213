-- Where no named departure holds our anchor is the manual's identifier, and each departure parts the two. Assumes nothing.
use Prim.Native.Nat.{ℕ, zero, suc, ◌+◌, ◌-◌, ◌≤◌, ◌<◌}
use mathlib.Core.Path.{◌≡◌, refl, sym, ◌∙◌, ap}
use mathlib.Core.Bool.{Bool, true, false, cond, not, ◌&&◌, ◌||◌, false≢true}
use mathlib.Core.List.{List, [], ◌∷◌}
use native.Mathlib.Omega.{arith}
use borrow.Author.Tests.{eqb-true, ne_eqb, leb-true, lt-leb, not-true, not-false}
use lib.ListN.{length, take, drop, get_or, length-take}
use lib.Seq.{take-length, take-nil}
use lib.Dec.{eqb, leb}
use Rattle.text.specs.Bytes.{bit, any, first, after_last}
use Rattle.text.specs.Ascii.{lower}
use Rattle.text.specs.Space.{is_space, is_other, lead, kept, trim, trim_start, trim_end}
use Rattle.text.proofs.BytesLaws.{or_left, or_right, after_hit, after_miss, after_le}
use Rattle.anchor.specs.Anchor.{markup_after, stands, is_linked, cut_byte, cut_from, is_mark, word_follows, stays, shows, plain_from, plain, is_kept, anchor_of, slug, is_shown, word_after}
use Rattle.anchor.proofs.AnchorLaws.{plain_in, plain-cons, plain-shown, plain_hidden}
use Rattle.anchor.specs.declared.Markup.{Markup}
use Rattle.anchor.specs.declared.Markup.TheVariants.{Written, Bracket, Behind, Target}
use Rattle.commonmark.specs.Headings.{is_spaced}
use Rattle.text.proofs.PatternLaws.{and_left, and_right}
use Rattle.commonmark.proofs.BoolLaws.{of-list, second, and_true, or_first, ◌or◌}
use Rattle.identifiers.specs.Identifiers.{is_left, identifier, any_from, somewhere, underscore, target, mark_at_end, other_space, departs_at, departs, SameIdentifier, OtherIdentifier, EachParts, NoneHolds}

-- a text with no space byte at its ends is trimmed already
last_other : (x : ℕ) (s : List ℕ) → is_spaced (x ∷ s) ≡ false → kept (x ∷ s) ≡ length (x ∷ s)
unfolding kept
last_other x s h =
    let n : suc (length s) - 1 ≡ length s = omega arith in
    let k : is_other (get_or (x ∷ s) (suc (length s) - 1) 0) ≡ true = rw (n, or_right (is_space x) (is_space (get_or (x ∷ s) (length s) 0)) h) in
    ap (after_last is_other) (sym (take-length (x ∷ s))) ∙ after_hit is_other (x ∷ s) (suc (length s)) (omega arith) (omega arith) k

trim-none : (s : List ℕ) → is_spaced s ≡ false → trim s ≡ s
unfolding trim trim_start trim_end lead first
trim-none [] h = take-nil (kept [])
trim-none (x ∷ s) h = rw (or_left (is_space x) _ h, last_other x s h) (take-length (x ∷ s))

-- what does not hold of a byte that does not depart, one law for each departure
module _ (w : Bool) (m : Markup) (x : ℕ) (t : List ℕ) (d : departs_at w m x t ≡ false) where
  no_underscore : is_shown w m x t ≡ false → eqb x 0x5F ≡ false
  no_underscore h = let u : underscore w m x t ≡ false = search of-list in and_true (eqb x 0x5F) (rw h at u)

  no_target : target w m x t ≡ false
  no_target = search of-list

  no-other-space : is_space x ≡ eqb x 0x20
  unfolding is_space
  no-other-space = let o : other_space w m x t ≡ false = search of-list in go (eqb x 0x20) refl o
    where
      go : (y : Bool) → eqb x 0x20 ≡ y → (is_space x && not y) ≡ false → is_space x ≡ y
      go true e h = rw (eqb-true x 0x20 e)
      go false e h = and_true (is_space x) h

-- a byte that we drop and that does not depart is one that the manual removes
sign_removed : (x b : ℕ) → (is_left b || is_space b) ≡ false → eqb x b ≡ true → (is_left x || is_space x) ≡ false
sign_removed x b h e = rw (eqb-true x b e) h

mark_removed : (x : ℕ) → eqb x 0x5F ≡ false → is_mark x ≡ true → (is_left x || is_space x) ≡ false
unfolding is_space lower
mark_removed x u h = go (eqb x 0x60) (eqb x 0x2A) refl refl
  where
    go : (y z : Bool) → eqb x 0x60 ≡ y → eqb x 0x2A ≡ z → (is_left x || is_space x) ≡ false
    go true z p q = sign_removed x 0x60 refl p
    go false true p q = sign_removed x 0x2A refl q
    go false false p q = absurd (false≢true (sym u ∙ (rw (p, q) at h)))

cut_removed : (w : Bool) (m : Markup) (x : ℕ) (t : List ℕ) → stands m x ≡ false → target w m x t ≡ false → (is_left x || is_space x) ≡ false
unfolding stands is_space lower
cut_removed w Written x t h d = sign_removed x 0x5B refl (not-false _ h)
cut_removed w Bracket x t h d = sign_removed x 0x5D refl (not-false _ h)
cut_removed w Behind x t h d = go (eqb x 0x28) refl (not-false _ h)
  where
    go : (p : Bool) → eqb x 0x28 ≡ p → (p || eqb x 0x5B) ≡ true → (is_left x || is_space x) ≡ false
    go true p k = sign_removed x 0x28 refl p
    go false p k = sign_removed x 0x5B refl k
cut_removed w Target x t h d = d

removed : (w : Bool) (m : Markup) (x : ℕ) (t : List ℕ) → is_shown w m x t ≡ false → departs_at w m x t ≡ false → (is_left x || is_space x) ≡ false
removed w m x t h d = go (stands m x) refl h
  where
    go : (a : Bool) → stands m x ≡ a → (a && (shows (cut_byte m x) || stays w x (cut_from (markup_after m x) t))) ≡ false → (is_left x || is_space x) ≡ false
    go true p k = mark_removed x (no_underscore w m x t d h) (not-false (is_mark x) (or_right (is_linked m) _ (or_left (shows (cut_byte m x)) _ k)))
    go false p k = cut_removed w m x t p (no_target w m x t d)

-- byte by byte
same_bytes : (t : List ℕ) (w : Bool) (m : Markup) → any_from departs_at w m t ≡ false → anchor_of (plain_in w m t) ≡ identifier t
unfolding any_from cut_from plain_from anchor_of identifier
same_bytes [] w m d = refl
same_bytes (x ∷ t) w m d = go (is_shown w m x t) refl (same_bytes t (word_after w m x) (markup_after m x) (or_right (departs_at w m x t) _ d))
  where
    n : departs_at w m x t ≡ false
    n = or_left (departs_at w m x t) _ d

    go : (s : Bool) → is_shown w m x t ≡ s → anchor_of (plain_in (word_after w m x) (markup_after m x) t) ≡ identifier t → anchor_of (plain_in w m (x ∷ t)) ≡ identifier (x ∷ t)
    go true e ih = ap anchor_of (plain-shown w m x t e) ∙ rw (no-other-space w m x t n, ih)
    go false e ih = let r = removed w m x t e n in ap anchor_of (plain_hidden w m x t e) ∙ rw (or_left (is_left x) _ r, or_right (is_left x) _ r) ih

pub same-identifier : SameIdentifier
unfolding departs slug
same-identifier t d = ap anchor_of (trim-none (plain t) (or_left (mark_at_end t) _ d)) ∙ same_bytes t false Written (or_right (mark_at_end t) _ d)

-- each departure: a byte of which the manual makes one, and we none
abbrev ours : Bool → Markup → ℕ → List ℕ → ℕ
ours w m x t = bit (is_shown w m x t && (is_kept x || eqb x 0x20))

abbrev theirs : ℕ → ℕ
theirs x = bit (is_left x || is_space x)

underscore-less : (w : Bool) (m : Markup) (x : ℕ) (t : List ℕ) → underscore w m x t ≡ true → ours w m x t < theirs x
unfolding lower is_space
underscore-less w m x t h =
    let n = not-true (is_shown w m x t) (and_right (eqb x 0x5F) _ h) in
    let z : ours w m x t ≡ 0 = ap (λ (b : Bool). bit (b && (is_kept x || eqb x 0x20))) n in
    let o : theirs x ≡ 1 = rw (eqb-true x 0x5F (and_left _ _ h)) in
    omega (arith, z, o)

target-less : (w : Bool) (m : Markup) (x : ℕ) (t : List ℕ) → target w m x t ≡ true → ours w m x t < theirs x
unfolding stands
target-less w Written x t h = absurd (false≢true h)
target-less w Bracket x t h = absurd (false≢true h)
target-less w Behind x t h = absurd (false≢true h)
target-less w Target x t h = rw h (omega arith)

space_small : (x : ℕ) → is_space x ≡ true → eqb x 0x20 ≡ false → x ≤ 0x0D
unfolding is_space
space_small x h e = leb-true x 0x0D (and_right (leb 0x09 x) _ (or_first (leb 0x09 x && leb x 0x0D) (eqb x 0x20) e h))

small_removed : (x : ℕ) → x ≤ 0x0D → is_kept x ≡ false
unfolding lower
small_removed x h = rw (lt-leb 0x41 x (omega arith), lt-leb 0x61 x (omega arith), lt-leb 0x30 x (omega arith), ne_eqb x 0x2D (λ e. omega arith), ne_eqb x 0x5F (λ e. omega arith))

space_less : (w : Bool) (m : Markup) (x : ℕ) (t : List ℕ) → other_space w m x t ≡ true → ours w m x t < theirs x
space_less w m x t h =
    let s = and_left (is_space x) _ h in
    let n = not-true (eqb x 0x20) (and_right (is_space x) _ h) in
    rw (s, n, small_removed x (space_small x s n)) (go (is_shown w m x t))
  where
    go : (b : Bool) → bit (b && false) < 1
    go true = omega arith
    go false = omega arith

less : (w : Bool) (m : Markup) (x : ℕ) (t : List ℕ) → departs_at w m x t ≡ true → ours w m x t < theirs x
less w m x t =
    target-less w m x t
    or underscore-less w m x t
    or space_less w m x t

equal : (w : Bool) (m : Markup) (x : ℕ) (t : List ℕ) → departs_at w m x t ≡ false → ours w m x t ≡ theirs x
equal w m x t d = go (is_shown w m x t) refl
  where
    go : (b : Bool) → is_shown w m x t ≡ b → bit (b && (is_kept x || eqb x 0x20)) ≡ theirs x
    go true e = rw (no-other-space w m x t d)
    go false e = rw (removed w m x t e d)

-- how long an anchor and an identifier are, by their bytes
cons_length : (a b : Bool) (x y : ℕ) (s : List ℕ) → length (cond a (x ∷ s) (cond b (y ∷ s) s)) ≡ bit (a || b) + length s
cons_length true b x y s = omega arith
cons_length false true x y s = omega arith
cons_length false false x y s = omega arith

anchor_length : (x : ℕ) (s : List ℕ) → length (anchor_of (x ∷ s)) ≡ bit (is_kept x || eqb x 0x20) + length (anchor_of s)
unfolding anchor_of
anchor_length x s = cons_length (is_kept x) (eqb x 0x20) (lower x) 0x2D (anchor_of s)

identifier-length : (x : ℕ) (s : List ℕ) → length (identifier (x ∷ s)) ≡ theirs x + length (identifier s)
unfolding identifier
identifier-length x s = cons_length (is_left x) (is_space x) (lower x) 0x2D (identifier s)

plain-length : (w : Bool) (m : Markup) (x : ℕ) (s : List ℕ) → length (anchor_of (plain_in w m (x ∷ s))) ≡ ours w m x s + length (anchor_of (plain_in (word_after w m x) (markup_after m x) s))
plain-length w m x s = ap (λ (p : List ℕ). length (anchor_of p)) (plain-cons w m x s) ∙ go (is_shown w m x s) (plain_in (word_after w m x) (markup_after m x) s)
  where
    go : (b : Bool) (p : List ℕ) → length (anchor_of (cond b (x ∷ p) p)) ≡ bit (b && (is_kept x || eqb x 0x20)) + length (anchor_of p)
    go true p = anchor_length x p
    go false p = omega arith

-- so ours is shorter where a byte departs
shorter : (t : List ℕ) (w : Bool) (m : Markup) → any_from departs_at w m t ≡ true → length (anchor_of (plain_in w m t)) < length (identifier t)
unfolding any_from
shorter [] w m d = absurd (false≢true d)
shorter (x ∷ t) w m d = go (departs_at w m x t) (any_from departs_at (word_after w m x) (markup_after m x) t) refl refl (shorter t (word_after w m x) (markup_after m x)) d
  where
    go : (p q : Bool) → departs_at w m x t ≡ p → any_from departs_at (word_after w m x) (markup_after m x) t ≡ q
        → (q ≡ true → length (anchor_of (plain_in (word_after w m x) (markup_after m x) t)) < length (identifier t)) → (p || q) ≡ true → length (anchor_of (plain_in w m (x ∷ t))) < length (identifier (x ∷ t))
    go true true e h ih k = omega (arith, plain-length w m x t, identifier-length x t, less w m x t e, ih refl)
    go true false e h ih k = omega (arith, plain-length w m x t, identifier-length x t, less w m x t e, ap length (same_bytes t (word_after w m x) (markup_after m x) h))
    go false true e h ih k = omega (arith, plain-length w m x t, identifier-length x t, equal w m x t e, ih refl)
    go false false e h ih k = absurd (false≢true k)

-- trimming makes no anchor longer, and drops the dash of a space at an end
anchor_drop : (n : ℕ) (s : List ℕ) → length (anchor_of (drop n s)) ≤ length (anchor_of s)
anchor_drop zero s = omega arith
anchor_drop (suc n) [] = omega arith
anchor_drop (suc n) (x ∷ s) = omega (arith, anchor_length x s, anchor_drop n s)

anchor_take : (n : ℕ) (s : List ℕ) → length (anchor_of (take n s)) ≤ length (anchor_of s)
unfolding anchor_of
anchor_take zero s = omega arith
anchor_take (suc n) [] = omega arith
anchor_take (suc n) (x ∷ s) = omega (arith, anchor_length x s, anchor_length x (take n s), anchor_take n s)

anchor_trim : (s : List ℕ) → length (anchor_of (trim s)) ≤ length (anchor_of s)
unfolding trim trim_start trim_end
anchor_trim s = omega (arith, anchor_take (kept (drop (lead s) s)) (drop (lead s) s), anchor_drop (lead s) s)

dash_length : (x : ℕ) (s : List ℕ) → eqb x 0x20 ≡ true → length (anchor_of (x ∷ s)) ≡ suc (length (anchor_of s))
unfolding lower
dash_length x s e = rw (eqb-true x 0x20 e) (omega (arith, anchor_length 0x20 s))

last_less : (n : ℕ) (x : ℕ) (s : List ℕ) → n ≤ length s → eqb (get_or (x ∷ s) (length s) 0) 0x20 ≡ true → length (anchor_of (take n (x ∷ s))) < length (anchor_of (x ∷ s))
unfolding anchor_of
last_less zero x [] h e = omega (arith, dash_length x [] e)
last_less (suc n) x [] h e = absurd (omega arith)
last_less zero x (y ∷ s) h e = omega (arith, anchor_length x (y ∷ s), last_less zero y s (omega arith) e)
last_less (suc n) x (y ∷ s) h e = omega (arith, anchor_length x (take n (y ∷ s)), anchor_length x (y ∷ s), last_less n y s (omega arith) e)

kept_less : (x : ℕ) (s : List ℕ) → is_space (get_or (x ∷ s) (length s) 0) ≡ true → kept (x ∷ s) ≤ length s
unfolding kept
kept_less x s h =
    let n : suc (length s) - 1 ≡ length s = omega arith in
    let o : is_other (get_or (x ∷ s) (suc (length s) - 1) 0) ≡ false = rw (n, h) in
    let m = after_miss is_other (x ∷ s) (suc (length s)) (omega arith) (omega arith) o in
    omega (arith, rw (n, take-length (x ∷ s)) at m, after_le is_other (take (length s) (x ∷ s)), length-take (length s) (x ∷ s))

abbrev is_stray : ℕ → Bool
is_stray x = is_space x && not (eqb x 0x20)

dash : (x : ℕ) → is_stray x ≡ false → is_space x ≡ true → eqb x 0x20 ≡ true
dash x o s = not-false (eqb x 0x20) (second (is_space x) _ s o)

-- a byte at a place
stray_at : (s : List ℕ) (n : ℕ) → any is_stray s ≡ false → n < length s → is_stray (get_or s n 0) ≡ false
unfolding any
stray_at [] n o h = absurd (omega arith)
stray_at (x ∷ s) zero o h = or_left (is_stray x) _ o
stray_at (x ∷ s) (suc n) o h = stray_at s n (or_right (is_stray x) _ o) (omega arith)

trim-less : (s : List ℕ) → any is_stray s ≡ false → is_spaced s ≡ true → length (anchor_of (trim s)) < length (anchor_of s)
unfolding trim trim_start trim_end lead first
trim-less [] o h = absurd (false≢true h)
trim-less (x ∷ s) o h = go (is_space x) refl h
  where
    go : (b : Bool) → is_space x ≡ b → (b || is_space (get_or (x ∷ s) (length s) 0)) ≡ true → length (anchor_of (trim (x ∷ s))) < length (anchor_of (x ∷ s))
    go true e k = rw e (omega (arith, anchor_trim s, dash_length x s (dash x (stray_at (x ∷ s) 0 o (omega arith)) e)))
    go false e k = rw e (last_less (kept (x ∷ s)) x s (kept_less x s k) (dash (get_or (x ∷ s) (length s) 0) (stray_at (x ∷ s) (length s) o (omega arith)) k))

plain_stray : (t : List ℕ) (w : Bool) (m : Markup) → any_from departs_at w m t ≡ false → any is_stray (plain_in w m t) ≡ false
unfolding any_from cut_from plain_from any
plain_stray [] w m d = refl
plain_stray (x ∷ t) w m d = ap (any is_stray) (plain-cons w m x t) ∙ go (is_shown w m x t) (plain_in (word_after w m x) (markup_after m x) t) (plain_stray t (word_after w m x) (markup_after m x) (or_right (departs_at w m x t) _ d))
  where
    n : departs_at w m x t ≡ false
    n = or_left (departs_at w m x t) _ d

    o : is_stray x ≡ false
    o = search of-list

    go : (b : Bool) (p : List ℕ) → any is_stray p ≡ false → any is_stray (cond b (x ∷ p) p) ≡ false
    go true p ih = rw (o, ih)
    go false p ih = ih

pub other_identifier : OtherIdentifier
unfolding departs slug
other_identifier t d e = go (somewhere departs_at t) refl
  where
    go : (b : Bool) → somewhere departs_at t ≡ b → ⊥
    go true h = omega (arith, ap length e, anchor_trim (plain t), shorter t false Written h)
    go false h = omega (arith, ap length e, trim-less (plain t) (plain_stray t false Written h) (or_first (mark_at_end t) _ h d), ap length (same_bytes t false Written h))

pub each_parts : EachParts
unfolding any_from slug stands is_linked cut_from word_follows plain_from markup_after anchor_of identifier trim trim_start trim_end lead kept first after_last is_space lower
each_parts = ((refl, (refl, refl)), ((refl, (refl, refl)), ((refl, (refl, refl)), ((refl, (refl, refl)), (refl, (refl, refl))))))

pub none_holds : NoneHolds
unfolding departs any_from stands is_linked cut_from word_follows plain_from markup_after is_space lower
none_holds = (refl, (refl, (refl, (refl, (refl, refl)))))
