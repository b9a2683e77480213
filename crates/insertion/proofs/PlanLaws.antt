-- Laws of what comes of a text before its lines are put, and of the running text behind which they are. Assumes nothing.
use Rattle.std.specs.Prelude.{Some, None, Ok, Err}
use Prim.Native.Nat.{ℕ, ◌+◌, ◌-◌, ◌≤◌, ◌<◌}
use native.Mathlib.Omega.{arith}
use mathlib.Core.Path.{◌≡◌, sym, ap, subst, ◌∙◌}
use mathlib.Core.Bool.{true, false}
use mathlib.Core.List.{List, [], ◌++◌, map, append-nil}
use borrow.Author.Tests.{le-leb, lt-leb}
use lib.ListN.{length, take, drop, length-append}
use lib.Seq.{sets, sets-eq, take_at, length-take-le}
use lib.IntN.{ℤ}
use lib.Signed.{mag}
use Rattle.answer.specs.Answer.{place}
use Rattle.answer.specs.declared.Place.{Place}
use Rattle.answer.specs.declared.Refusal.{Refusal}
use Rattle.answer.specs.declared.Refusal.TheVariants.{HeadingLevel, TextLimit}
use Rattle.text.specs.Bytes.{part}
use Rattle.text.specs.Lines.{pieces, led}
use Rattle.text.proofs.BytesLaws.{part_full}
use Rattle.heading.specs.Walk.{walk_begin, kinds_from}
use Rattle.heading.specs.Level.{any_past, first_past}
use Rattle.heading.specs.declared.walk.LineKind.{LineKind}
use Rattle.path.specs.Path.{parent_dir}
use Rattle.walk.specs.Parts.{Part, good, flawed}
use Rattle.shift.specs.Shift.{told_from, drop_start, drop_end, shift_for, past_from}
use Rattle.shift.specs.Ends.{lines_in, AreEnds}
use Rattle.shift.specs.Levels.{kinds_in, ShiftTo}
use Rattle.shift.proofs.EndsLaws.{lines-some}
use Rattle.shift.proofs.LevelsLaws.{text_small}
use Rattle.shift.proofs.ShiftLaws.{kinds_told, past-none, past-some}
use Rattle.embedding.specs.Embed.{embed_told}
use Rattle.put.specs.Put.{source_text, part_of}
use Rattle.insertion.specs.Insertion.{joined, stopped, inserted_of}
use Rattle.putting.specs.Lines.{linked_line, linked_lines}
use Rattle.insertion.specs.Plans.{embed_text, PlanOf}
use Rattle.put.specs.declared.Source.{Source}
use Rattle.put.proofs.PutLaws.{source-part}

-- lines embedded, by whether a heading goes past level 6
module _ (host name : List ℕ) (target d : ℕ) (ls : List (List ℕ)) where
  abbrev z : ℤ
  z = shift_for target (kinds_from walk_begin ls)

  pub embed_good : any_past z (kinds_from walk_begin ls) ≡ false
      → embed_told host name target d (told_from walk_begin ls) ≡ good (map (linked_line host (parent_dir name) z) (told_from walk_begin ls))
  unfolding embed_told
  embed_good h = rw (kinds_told walk_begin ls, past-none (λ n. HeadingLevel (place d n)) z 1 (kinds_from walk_begin ls) h)

  pub embed-past : any_past z (kinds_from walk_begin ls) ≡ true
      → (xs : List Refusal) × (embed_told host name target d (told_from walk_begin ls) ≡ flawed (HeadingLevel (place d (1 + first_past z (kinds_from walk_begin ls)))) xs)
  unfolding embed_told
  embed-past h = let p = past-some (λ n. HeadingLevel (place d n)) z 1 (kinds_from walk_begin ls) h in (p.0, rw (kinds_told walk_begin ls, p.1))

module _ {s : List ℕ} {a e : ℕ} (ends : AreEnds s a e) (target : ℕ) where
  pub plan_nothing : a ≡ e → PlanOf s target (Ok None)
  unfolding embed_told told_from past_from
  plan_nothing q host name d =
      let n : e - a ≡ 0 = omega arith in
      let l : drop_end (drop_start (pieces s)) ≡ [] = ends.lines ∙ ap (λ (k : ℕ). lines_in (take k (drop a s))) n in
      ap (λ (ls : List (List ℕ)). embed_told host name target d (told_from walk_begin ls)) l

  module _ (some : a ≡ e → ⊥) where
    lines_are : drop_end (drop_start (pieces s)) ≡ pieces (part a e s)
    lines_are = ends.lines ∙ lines-some (part a e s) (omega (arith, part_full s a e ends.within, ends.order))

    text-is : (host name : List ℕ) (d : ℕ) → embed_text host name target d s ≡ embed_told host name target d (told_from walk_begin (pieces (part a e s)))
    text-is host name d = ap (λ (ls : List (List ℕ)). embed_told host name target d (told_from walk_begin ls)) lines_are

    pub plan_past : (n : ℕ) → ShiftTo (part a e s) target (Err n) → PlanOf s target (Err n)
    plan_past n h host name d =
        let p = embed-past host name target d (pieces (part a e s)) h.0 in
        (p.0, text-is host name d ∙ p.1 ∙ ap (λ (k : ℕ). flawed (HeadingLevel (place d k)) p.0) (sym h.1))

    abbrev ks : List LineKind
    ks = kinds_in (part a e s)

    pub plan_lines : (z : ℤ) → (z ≡ shift_for target ks) × (any_past (shift_for target ks) ks ≡ false) → PlanOf s target (Ok (Some (record { start = a; end = e; shift = z })))
    plan_lines z h = (
      (ends.order, (ends.within, subst (λ (y : ℤ). mag y ≤ 7) (sym h.0) (text_small target (part a e s) h.1))),
      λ host name d.
          text-is host name d
          ∙ embed_good host name target d (pieces (part a e s)) h.1
          ∙ ap (λ (y : ℤ). good (map (linked_line host (parent_dir name) y) (told_from walk_begin (pieces (part a e s))))) (sym h.0),
    )

-- the running text behind which lines are put: nothing is, a refusal, all of them are, or they go over the limit
module _ (p : Place) (w : List ℕ) where
  pub joined_nothing : (L n : ℕ) (x : Part (List (List ℕ))) → x ≡ good [] → n ≤ L → n ≤ length w → joined (take n w) ≡ inserted_of L (take n w) p x
  unfolding led
  joined_nothing L n x e h k = rw (e, append-nil (take n w), le-leb (length (take n w)) L (omega (arith, length-take-le n w k)))

  pub joined_stopped : (L : ℕ) (t : List ℕ) (x : Part (List (List ℕ))) (y : Refusal) (xs : List Refusal) → x ≡ flawed y xs → stopped y ≡ inserted_of L t p x
  joined_stopped L t x y xs e = rw e

  module _ (at limit : ℕ) (x : Part (List (List ℕ))) (es : List (List ℕ)) (e : x ≡ good es) (t : List ℕ) (text-is : t ≡ led es) (below : at ≤ limit) (fits : limit ≤ length w) where
    long : length (take at w ++ led es) ≡ at + length t
    long = length-append (take at w) (led es) ∙ rw (← text-is) (ap (λ (k : ℕ). k + length t) (length-take-le at w (omega arith)))

    pub joined_over : limit < at + length t → stopped (TextLimit p) ≡ inserted_of limit (take at w) p x
    joined_over k = rw (e, lt-leb (length (take at w ++ led es)) limit (omega (arith, long)))

    pub joined_put : (v : List ℕ) (n : ℕ) → n ≡ at + length t → n ≤ limit → v ≡ sets w at t → joined (take n v) ≡ inserted_of limit (take at w) p x
    joined_put v n k h wrote =
        let a : List ℕ = take at w ++ led es in
        let l : length a ≡ n = long ∙ sym k in
        let r : List ℕ = drop (at + length t) w in
        let q : take n v ≡ a =
        ap (take n) (wrote ∙ sets-eq t w at (omega arith) ∙ ap (λ (y : List ℕ). (take at w ++ y) ++ r) text-is) ∙ take_at a r n l in
        rw (e, le-leb (length a) limit (omega arith), q)

-- the lines that are put, by the place where they stand in the source
pub lines-put : (host name dir c w : List ℕ) (y z : ℤ) (l source : Source) (a e : ℕ) → dir ≡ parent_dir name → y ≡ z → l ≡ part_of source a e → source.start + e ≤ source.end
    → linked_lines host dir y (source_text l c w) ≡ led (map (linked_line host (parent_dir name) z) (told_from walk_begin (pieces (part a e (source_text source c w)))))
lines-put host name dir c w y z l source a e p q r h =
    ap (λ (x : List ℕ). linked_lines host x y (source_text l c w)) p
    ∙ ap (λ (x : ℤ). linked_lines host (parent_dir name) x (source_text l c w)) q
    ∙ ap (λ (x : List ℕ). linked_lines host (parent_dir name) z x) (ap (λ (x : Source). source_text x c w) r ∙ source-part source c w a e h)
