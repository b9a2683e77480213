-- Laws of `specs/Path.antt`: the parts of a text from the last one back, a resolved path from its last part to its first, and a part that stands in a
-- name. Assumes nothing.
use Rattle.std.specs.Prelude.{Option, Some, None}
use Prim.Native.Nat.{ℕ, zero, suc, ◌+◌, ◌-◌, ◌≤◌, ◌<◌}
use native.Mathlib.Nat.{not-suc-le-zero}
use native.Mathlib.Numerals.{add-one, sub-one}
use native.Mathlib.Omega.{arith}
use mathlib.Core.Path.{◌≡◌, refl, sym, ap, ◌∙◌}
use mathlib.Core.Bool.{Bool, true, false, cond, false≢true}
use mathlib.Core.List.{List, [], ◌∷◌, ◌++◌, append_assoc, append-nil, append_cancel_right, cons≢nil}
use lib.ListN.{length, take, drop, get_or, length-append, length-take, length-drop}
use lib.Seq.{take_all, take-length, take-nil, take-take, take-append-le, drop-append-le, length-take-le, drop-length, split_at, get_or_at}
use lib.Dec.{eqb}
use borrow.Author.Tests.{eqb-false}
use Rattle.text.specs.Bytes.{part, is, after_last}
use Rattle.text.specs.Pattern.{bytes, starts_with, equals, ends_with}
use Rattle.text.specs.Split.{split, join}
use Rattle.text.proofs.PatternLaws.{ends-append, ends-not, equals-not}
use Rattle.text.proofs.BytesLaws.{drop_take, part_length, or_left}
use Rattle.text.proofs.SplitLaws.{split_back, split-whole}
use Rattle.path.specs.Path.{SLASH, base, goes, is_up, step, walked, resolve}
use Rattle.path.specs.Backward.{put, Tail, tail, dropped, before, tail_of, parts_left, Back, rest, weight, piece, cursor, from_end, Within, in_dir, LastKept, LastPart, FoundPart}
use Rattle.path.specs.declared.BackPart.{BackPart}
use Rattle.path.specs.declared.BackPart.TheVariants.{Kept, Above}
use Rattle.path.specs.declared.PathCursor.{PathCursor}

-- parts before parts
tail-append : (a b : List (List ℕ)) (t : Tail) → tail_of (a ++ b) t ≡ tail_of a (tail_of b t)
unfolding tail_of
tail-append [] b t = refl
tail-append (p ∷ a) b t = ap (before p) (tail-append a b t)

-- the parts of a text from the last one back
parts_back : (s : List ℕ) (e a : ℕ) → a ≡ after_last (is SLASH) (take e s) → a ≤ e → parts_left (suc e) s ≡ parts_left a s ++ (part a e s ∷ [])
parts_back s e zero q h = split-whole SLASH (take e s) (sym q) ∙ ap (λ (x : List ℕ). x ∷ []) (drop_take s 0 e)
parts_back s e (suc a) q h =
    split_back SLASH (take e s) (omega arith)
    ∙ rw (← q, sub-one, take-take a e s (omega arith), drop_take s (suc a) e)

-- a part that does not go has a byte
goes_none : (p : List ℕ) → goes p ≡ false → 0 < length p
goes_none p e = omega (arith, eqb-false (length p) 0 (or_left (eqb (length p) 0) (equals (bytes ".") p) e))

pub goes_some : (s : List ℕ) (a e : ℕ) → goes (part a e s) ≡ false → a < e
goes_some s a e h = omega (arith, goes_none (part a e s) h, part_length s a e)

-- one part back
module _ (s : List ℕ) {n e a : ℕ} (h : n ≡ suc e) (k : a ≤ e) (q : a ≡ after_last (is SLASH) (take e s)) where
  back_on : (t : Tail) → tail_of (parts_left n s) t ≡ tail_of (parts_left a s) (before (part a e s) t)
  unfolding tail_of
  back_on t = rw h (ap (λ (l : List (List ℕ)). tail_of l t) (parts_back s e a q k) ∙ tail-append (parts_left a s) (part a e s ∷ []) t)

  pub back_goes : (t : Tail) → goes (part a e s) ≡ true → tail_of (parts_left n s) t ≡ tail_of (parts_left a s) t
  unfolding before
  back_goes t g = back_on t ∙ rw g

  module _ (u : ℕ) (t : List ℕ) (g : goes (part a e s) ≡ false) where
    pub back_up : is_up (part a e s) ≡ true → tail_of (parts_left n s) (tail u t) ≡ tail_of (parts_left a s) (tail (u + 1) t)
    unfolding before
    back_up f = back_on (tail u t) ∙ rw (g, f, add-one u)

    module _ (f : is_up (part a e s) ≡ false) where
      pub back_drop : {v : ℕ} → u ≡ suc v → tail_of (parts_left n s) (tail u t) ≡ tail_of (parts_left a s) (tail v t)
      unfolding before
      back_drop z = back_on (tail u t) ∙ rw (g, f, z)

      pub back_keep : u ≡ 0 → tail_of (parts_left n s) (tail u t) ≡ tail_of (parts_left a s) (tail 0 (put (part a e s) t))
      unfolding before
      back_keep z = back_on (tail u t) ∙ rw (g, f, z)

-- the last part of what a cursor has left
module _ (dir path : List ℕ) (c : PathCursor) where
  pub last-inside : (n u : ℕ) (f : BackPart) → n ≤ suc (length dir) → n ≤ weight dir c
      → ((t : List ℕ) → tail_of (rest dir path c) (tail 0 t) ≡ tail_of (parts_left n dir) (tail u t))
      → Back dir n u f → LastPart dir path c (in_dir f)
  last-inside n u (Kept a e) h k r b = record {
    bounded = (b.0.0, omega arith);
    less = omega arith;
    same = λ t. ap (λ (x : Tail). x.text) (r t ∙ b.1 t);
  }
  last-inside n u (Above m) h k r b = λ t. ap (λ (x : Tail). x.text) (r t ∙ b.1 t)

  module _ (i : c.inside ≡ false) where
    pub last-path : (a e : ℕ) → Within dir path c → Back path c.left 0 (Kept a e) → LastKept dir path c (cursor false a) e
    last-path a e w b =
        let v : c.left ≤ suc (length path) = rw i at w in
        let r = base dir path in
        record {
          bounded = (b.0.0, omega arith);
          less = rw i (omega arith);
          same =
              λ t. rw i
              (ap (λ (x : Tail). x.text)
              (tail-append r (parts_left c.left path) (tail 0 t)
              ∙ (ap (tail_of r) (b.1 t) ∙ sym (tail-append r (parts_left a path) (tail 0 (put (part a e path) t))))));
        }

    module _ (u : ℕ) (b : Back path c.left 0 (Above u)) where
      above : (t : List ℕ) → tail_of (rest dir path c) (tail 0 t) ≡ tail_of (base dir path) (tail u t)
      above t = rw i (tail-append (base dir path) (parts_left c.left path) (tail 0 t) ∙ ap (tail_of (base dir path)) (b.1 t))

      pub above_root : starts_with (bytes "/") path ≡ true → LastPart dir path c None
      unfolding tail_of
      above_root e t =
          let q : tail_of (rest dir path c) (tail 0 t) ≡ tail u t = above t ∙ rw e in
          ap (λ (x : Tail). x.text) q

      pub above-inside : starts_with (bytes "/") path ≡ false → (t : List ℕ)
          → tail_of (rest dir path c) (tail 0 t) ≡ tail_of (parts_left (length dir + 1) dir) (tail u t)
      above-inside e t = above t ∙ rw (e, add-one (length dir), take-length dir)

-- all parts kept have bytes
abbrev Solid : List (List ℕ) → Type 0
Solid [] = Unit {0}
Solid (p ∷ ps) = (0 < length p) × Solid ps

solid_take : (n : ℕ) (ps : List (List ℕ)) → Solid ps → Solid (take n ps)
solid_take zero ps h = tt
solid_take (suc n) [] h = tt
solid_take (suc n) (p ∷ ps) h = (h.0, solid_take n ps h.1)

solid_append : (ps : List (List ℕ)) (p : List ℕ) → Solid ps → 0 < length p → Solid (ps ++ (p ∷ []))
solid_append [] p h k = (k, tt)
solid_append (q ∷ ps) p h k = (h.0, solid_append ps p h.1 k)

-- parts before a text
unfoldable glue : List (List ℕ) → List ℕ → List ℕ
glue [] t = t
glue (p ∷ ps) t = put p (glue ps t)

put_some : (p t : List ℕ) → 0 < length t → put p t ≡ p ++ (SLASH ∷ t)
put_some p [] h = absurd (not-suc-le-zero h)
put_some p (x ∷ t) h = refl

put-long : (p t : List ℕ) → 0 < length p → 0 < length (put p t)
put-long p [] h = h
put-long p (x ∷ t) h = omega (arith, length-append p (SLASH ∷ x ∷ t))

glue_join : (ps : List (List ℕ)) → Solid ps → join SLASH ps ≡ glue ps []
unfolding join glue
glue_join [] h = refl
glue_join (p ∷ []) h = refl
glue_join (p ∷ q ∷ ps) h =
    ap (λ (t : List ℕ). p ++ (SLASH ∷ t)) (glue_join (q ∷ ps) h.1) ∙ sym (put_some p (put q (glue ps [])) (put-long q (glue ps []) h.1.0))

glue_last : (ps : List (List ℕ)) (p t : List ℕ) → glue (ps ++ (p ∷ [])) t ≡ glue ps (put p t)
unfolding glue
glue_last [] p t = refl
glue_last (q ∷ ps) p t = ap (put q) (glue_last ps p t)

-- parts kept, once a tail has dropped the last of them
abbrev onto : List (List ℕ) → Tail → List ℕ
onto ps t = glue (take (length ps - t.up) ps) t.text

onto-up : (ps : List (List ℕ)) (n : ℕ) (t : List ℕ) → onto (take (length ps - 1) ps) (tail n t) ≡ onto ps (tail (suc n) t)
onto-up ps n t =
    let k : length (take (length ps - 1) ps) - n ≡ length ps - suc n = omega (arith, length-take (length ps - 1) ps) in
    rw (k, take-take (length ps - suc n) (length ps - 1) ps (omega arith))

onto-dropped : (ps : List (List ℕ)) (p : List ℕ) (n : ℕ) (t : List ℕ) → onto (ps ++ (p ∷ [])) (tail n t) ≡ onto ps (dropped p n t)
onto-dropped ps p zero t =
    let l = length-append ps (p ∷ []) in
    rw (take_all (length (ps ++ (p ∷ [])) - 0) (ps ++ (p ∷ [])) (omega arith), take_all (length ps - 0) ps (omega arith)) (glue_last ps p t)
onto-dropped ps p (suc n) t =
    let k : length (ps ++ (p ∷ [])) - suc n ≡ length ps - n = omega (arith, length-append ps (p ∷ [])) in
    rw (k, take-append-le (length ps - n) ps (p ∷ []) (omega arith))

walked-tail : (kept ps : List (List ℕ)) → Solid kept → join SLASH (walked kept ps) ≡ onto kept (tail_of ps (tail 0 []))
unfolding walked tail_of step before
walked-tail kept [] h = glue_join kept h ∙ ap (λ (l : List (List ℕ)). glue l []) (sym (take_all (length kept - 0) kept (omega arith)))
walked-tail kept (p ∷ ps) h = go (goes p) (is_up p) refl refl (λ k s. walked-tail k ps s)
  where
    t : Tail
    t = tail_of ps (tail 0 [])

    go : (a b : Bool) → goes p ≡ a → is_up p ≡ b → ((k : List (List ℕ)) → Solid k → join SLASH (walked k ps) ≡ onto k t)
        → join SLASH (walked (step kept p) ps) ≡ onto kept (before p t)
    go true b e f ih = rw e (ih kept h)
    go false true e f ih = rw (e, f) (ih (take (length kept - 1) kept) (solid_take (length kept - 1) kept h) ∙ onto-up kept t.up t.text)
    go false false e f ih = rw (e, f) (ih (kept ++ (p ∷ [])) (solid_append kept p h (goes_none p e)) ∙ onto-dropped kept p t.up t.text)

resolve-tail : (dir path : List ℕ) → (tail_of (base dir path ++ split SLASH path) (tail 0 [])).text ≡ resolve dir path
unfolding resolve glue
resolve-tail dir path =
    let ps : List (List ℕ) = base dir path ++ split SLASH path in
    sym (walked-tail [] ps tt ∙ ap (λ (l : List (List ℕ)). glue l (tail_of ps (tail 0 [])).text) (take-nil (0 - (tail_of ps (tail 0 [])).up)))

-- a text is the end of what the parts before it make of it
abbrev EndOf : List ℕ → List ℕ → Type 0
EndOf t s = (x : List ℕ) × (x ++ t ≡ s)

nil_end : (x t : List ℕ) → x ++ t ≡ [] → t ≡ []
nil_end [] t e = e
nil_end (b ∷ x) t e = absurd (cons≢nil e)

put-end : (p t s : List ℕ) → EndOf t s → EndOf t (put p s)
put-end p t [] h = (p, ap (λ (l : List ℕ). p ++ l) (nil_end h.0 t h.1) ∙ append-nil p)
put-end p t (b ∷ s) h = (p ++ (SLASH ∷ h.0), append_assoc p (SLASH ∷ h.0) t ∙ ap (λ (l : List ℕ). p ++ (SLASH ∷ l)) h.1)

tail-end : (ps : List (List ℕ)) (u : ℕ) (t : List ℕ) → EndOf t (tail_of ps (tail u t)).text
unfolding tail_of before
tail-end [] u t = ([], refl)
tail-end (p ∷ ps) u t = go (goes p) (is_up p) (tail_of ps (tail u t)).up (tail_of ps (tail u t)).text (tail-end ps u t)
  where
    go : (a b : Bool) (n : ℕ) (s : List ℕ) → EndOf t s → EndOf t (cond a (tail n s) (cond b (tail (suc n) s) (dropped p n s))).text
    go true b n s h = h
    go false true n s h = h
    go false false zero s h = put-end p t s h
    go false false (suc n) s h = h

-- a cursor has passed the parts that make up a text
pub record Reached (dir path : List ℕ) (c : PathCursor) (t : List ℕ) : Type 0 where
  pub within : Within dir path c
  pub same : (tail_of (rest dir path c) (tail 0 t)).text ≡ resolve dir path

pub reached_start : (dir path : List ℕ) → Reached dir path (from_end path) []
reached_start dir path = record { within = omega arith; same = rw (add-one (length path), take-length path) (resolve-tail dir path) }

reached_end : {dir path : List ℕ} {c : PathCursor} {t : List ℕ} → Reached dir path c t → EndOf t (resolve dir path)
reached_end {dir} {path} {c} {t} r = let h = tail-end (rest dir path c) 0 t in (h.0, h.1 ∙ r.same)

module _ {dir path : List ℕ} {c : PathCursor} {t : List ℕ} (r : Reached dir path c t) where
  pub reached_root : LastPart dir path c None → t ≡ resolve dir path
  reached_root h = sym (h t) ∙ r.same

  module _ {b : PathCursor} {e : ℕ} (h : LastKept dir path c b e) where
    pub reached_on : Reached dir path b (put (piece dir path b e) t)
    reached_on = record { within = omega (arith, h.bounded.0, h.bounded.1); same = sym (h.same t) ∙ r.same }

    pub reached_fits : length (put (piece dir path b e) t) ≤ length (resolve dir path)
    reached_fits = let x = reached_end reached_on in omega (arith, length-append x.0 (put (piece dir path b e) t), ap length x.1)

    pub reached_not : (name : List ℕ) → ends_with (put (piece dir path b e) t) name ≡ false → equals name (resolve dir path) ≡ false
    reached_not name f = let x = reached_end reached_on in ap (equals name) (sym x.1) ∙ equals-not x.0 (put (piece dir path b e) t) name f

-- a part directly before place `at` of a name
module _ (p name : List ℕ) (at : ℕ) where
  pub found_none : at ≡ 0 → (at ≡ length name → ⊥) → ends_with (put p (drop at name)) name ≡ false
  found_none e h =
      ap (λ (n : ℕ). ends_with (put p (drop n name)) name) e
      ∙ rw (put_some p name (omega arith)) (ends-not (p ++ (SLASH ∷ name)) name (λ x q. omega (arith, simp length-append at (ap length q))))

  module _ (e : ℕ) (h : suc e ≡ at) (k : at < length name) where
    put-here : put p (drop at name) ≡ p ++ (SLASH ∷ drop at name)
    put-here = put_some p (drop at name) (omega (arith, length-drop at name))

    name-here : name ≡ take e name ++ (get_or name e 0 ∷ drop at name)
    name-here = split_at name e 0 (omega arith) ∙ ap (λ (n : ℕ). take e name ++ (get_or name e 0 ∷ drop n name)) h

    pub found_other : (get_or name e 0 ≡ SLASH → ⊥) → ends_with (put p (drop at name)) name ≡ false
    found_other g = rw put-here (ends-not (p ++ (SLASH ∷ drop at name)) name differ)
      where
        differ : (x : List ℕ) → x ++ (p ++ (SLASH ∷ drop at name)) ≡ name → ⊥
        differ x q =
            let n : length (x ++ p) ≡ e = omega (arith, simp length-append at (ap length q), length-append x p, length-drop at name) in
            g (ap (λ (l : List ℕ). get_or l e 0) (sym q ∙ sym (append_assoc x p (SLASH ∷ drop at name))) ∙ get_or_at (x ++ p) SLASH (drop at name) 0 e n)

    pub found_before : (r : Option ℕ) → get_or name e 0 ≡ SLASH → FoundPart p (take e name) (length (take e name)) r → FoundPart p name at r
    found_before (Some a) g f =
        let n : length (take e name) ≡ e = length-take-le e name (omega arith) in
        let d : drop a (take e name) ≡ p = f.1 ∙ rw (drop-length (take e name)) in (
          omega arith,
          ap (drop a) name-here ∙ rw (drop-append-le a (take e name) (get_or name e 0 ∷ drop at name) (omega arith), d, g, put-here),
        )
    found_before None g f = rw put-here (ends-not (p ++ (SLASH ∷ drop at name)) name none)
      where
        none : (x : List ℕ) → x ++ (p ++ (SLASH ∷ drop at name)) ≡ name → ⊥
        none x q =
            let l : List ℕ = SLASH ∷ drop at name in
            let t : name ≡ take e name ++ l = name-here ∙ ap (λ (b : ℕ). take e name ++ (b ∷ drop at name)) g in
            let u : x ++ p ≡ take e name = append_cancel_right (x ++ p) (take e name) l (append_assoc x p l ∙ q ∙ t) in
            let d : ends_with p (take e name) ≡ false = rw (drop-length (take e name)) at f in
            false≢true (sym d ∙ ap (ends_with p) (sym u) ∙ ends-append x p)
