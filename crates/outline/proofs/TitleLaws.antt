-- Laws of the title and of the headings that move, line by line, with a title before or not; and that lines which are no headings do not change
-- them. Assumes nothing.
use Rattle.std.specs.Prelude.{Option, Some, None}
use Prim.Native.Nat.{ℕ, ◌≤◌}
use native.Mathlib.Omega.{arith}
use mathlib.Core.Path.{◌≡◌, refl, sym, ap, ◌∙◌}
use mathlib.Core.Bool.{Bool, true, false, cond}
use mathlib.Core.List.{List, [], ◌∷◌, ◌++◌}
use lib.Dec.{eqb}
use Rattle.heading.specs.Level.{shallower, shallowest_of, deeper, deepest_of, IsLevel}
use Rattle.heading.specs.declared.walk.LineKind.{LineKind}
use Rattle.heading.specs.declared.walk.LineKind.TheVariants.{Quoted, Heading, Other}
use Rattle.shift.specs.Shift.{Told, kinds_of}
use Rattle.shift.specs.Levels.{HasLevel}
use Rattle.member.specs.Member.{title_in, title_of, movable}
use Rattle.member.specs.Lines.{IsPlain, Plain}
use Rattle.outline.specs.Seen.{titled_by, moved_kind}

-- what moves of lines, with a title before them or not
abbrev pub moved_from : Bool → List Told → List Told
moved_from true ts = ts
moved_from false ts = movable ts

pub moved_turn : (t : Bool) (u : Told) (ts : List Told) → kinds_of (moved_from t (u ∷ ts)) ≡ moved_kind t u.kind ∷ kinds_of (moved_from (titled_by t u.kind) ts)
unfolding movable
moved_turn t u ts = by t u.kind refl
  where
    by : (t : Bool) (k : LineKind) → u.kind ≡ k → kinds_of (moved_from t (u ∷ ts)) ≡ moved_kind t k ∷ kinds_of (moved_from (titled_by t k) ts)
    by true Quoted e = rw e
    by true (Heading n x y) e = rw e
    by true Other e = rw e
    by false Quoted e = rw e
    by false (Heading n x y) e = rw e (go (eqb n 1))
      where
        go : (b : Bool)
            → kinds_of (cond b (record { kind = Other; bytes = u.bytes } ∷ ts) (record { kind = Heading n x y; bytes = u.bytes } ∷ movable ts))
            ≡ cond b Other (Heading n x y) ∷ kinds_of (moved_from b ts)
        go true = refl
        go false = refl
    by false Other e = rw e

-- the level of what moves
pub moved_level : (t : Bool) (k : LineKind) → HasLevel k → HasLevel (moved_kind t k)
moved_level t Quoted h = tt
moved_level true (Heading n x y) h = h
moved_level false (Heading n x y) h = go (eqb n 1)
  where
    go : (b : Bool) → HasLevel (cond b Other (Heading n x y))
    go true = tt
    go false = h
moved_level t Other h = tt

pub level-shallower : (b : Option ℕ) (k : LineKind) → HasLevel k → IsLevel b → IsLevel (shallower b k)
level-shallower b Quoted h q = q
level-shallower None (Heading n x y) h q = h
level-shallower (Some m) (Heading n x y) h q = (omega arith, omega arith)
level-shallower b Other h q = q

pub level-deeper : (b : ℕ) (k : LineKind) → HasLevel k → b ≤ 6 → deeper b k ≤ 6
level-deeper b Quoted h q = q
level-deeper b (Heading n x y) h q = omega arith
level-deeper b Other h q = q

-- the title, by the first line
pub title_turn : {ts us : List Told} {u : Told} → ts ≡ u ∷ us → title_of ts ≡ title_in u.kind u.bytes (title_of us)
unfolding title_of
title_turn p = rw p

-- lines that are no headings have no title
title-none : (ts : List Told) → Plain ts → title_of ts ≡ None
unfolding title_of Plain
title-none [] p = refl
title-none (t ∷ ts) p = by t.kind p.0 (title-none ts p.1)
  where
    by : (k : LineKind) → IsPlain k → title_of ts ≡ None → title_in k t.bytes (title_of ts) ≡ None
    by Quoted q e = e
    by (Heading n x y) q e = absurd q
    by Other q e = e

-- and change none before them
pub title-plain : (ts us : List Told) → Plain us → title_of (ts ++ us) ≡ title_of ts
unfolding title_of
title-plain [] us p = title-none us p
title-plain (t ∷ ts) us p = ap (title_in t.kind t.bytes) (title-plain ts us p)

-- what is gathered from kinds line by line, where a line that is no heading changes nothing
module _ {C : Type 0} (step : C → LineKind → C) (F : C → List LineKind → C) (end : (b : C) → F b [] ≡ b)
    (on : (b : C) (k : LineKind) (ks : List LineKind) → F b (k ∷ ks) ≡ F (step b k) ks) (stay : (b : C) (k : LineKind) → IsPlain k → step b k ≡ b) where
  moved_none : (t : Bool) (b : C) (ts : List Told) → Plain ts → F b (kinds_of (moved_from t ts)) ≡ b
  unfolding Plain movable
  moved_none true b [] p = end b
  moved_none false b [] p = end b
  moved_none t b (u ∷ ts) p =
      ap (F b) (moved_turn t u ts) ∙ on b (moved_kind t u.kind) (kinds_of (moved_from (titled_by t u.kind) ts)) ∙ by u.kind p.0 (moved_none t b ts p.1)
    where
      by : (k : LineKind) → IsPlain k → F b (kinds_of (moved_from t ts)) ≡ b → F (step b (moved_kind t k)) (kinds_of (moved_from (titled_by t k) ts)) ≡ b
      by Quoted q ih = ap (λ (d : C). F d (kinds_of (moved_from t ts))) (stay b Quoted tt) ∙ ih
      by (Heading n x y) q ih = absurd q
      by Other q ih = ap (λ (d : C). F d (kinds_of (moved_from t ts))) (stay b Other tt) ∙ ih

  moved_plain : (t : Bool) (b : C) (ts us : List Told) → Plain us → F b (kinds_of (moved_from t (ts ++ us))) ≡ F b (kinds_of (moved_from t ts))
  unfolding movable
  moved_plain true b [] us p = moved_none true b us p ∙ sym (end b)
  moved_plain false b [] us p = moved_none false b us p ∙ sym (end b)
  moved_plain t b (u ∷ ts) us p =
      let k : LineKind = moved_kind t u.kind in
      let v : Bool = titled_by t u.kind in
      ap (F b) (moved_turn t u (ts ++ us))
      ∙ on b k (kinds_of (moved_from v (ts ++ us)))
      ∙ moved_plain v (step b k) ts us p
      ∙ sym (ap (F b) (moved_turn t u ts) ∙ on b k (kinds_of (moved_from v ts)))

plain-shallower : (b : Option ℕ) (k : LineKind) → IsPlain k → shallower b k ≡ b
plain-shallower b Quoted q = refl
plain-shallower b (Heading n x y) q = absurd q
plain-shallower b Other q = refl

plain-deeper : (b : ℕ) (k : LineKind) → IsPlain k → deeper b k ≡ b
plain-deeper b Quoted q = refl
plain-deeper b (Heading n x y) q = absurd q
plain-deeper b Other q = refl

pub shallowest_plain : (ts us : List Told) → Plain us → shallowest_of None (kinds_of (movable (ts ++ us))) ≡ shallowest_of None (kinds_of (movable ts))
unfolding shallowest_of
shallowest_plain ts us p = moved_plain shallower shallowest_of (λ b. refl) (λ b k ks. refl) plain-shallower false None ts us p

pub deepest-plain : (ts us : List Told) → Plain us → deepest_of 0 (kinds_of (movable (ts ++ us))) ≡ deepest_of 0 (kinds_of (movable ts))
unfolding deepest_of
deepest-plain ts us p = moved_plain deeper deepest_of (λ b. refl) (λ b k ks. refl) plain-deeper false 0 ts us p
