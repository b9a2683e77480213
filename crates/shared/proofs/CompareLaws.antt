-- Laws of a member that is compared: the table of marks that is lent and comes back, and the walk of its headings. Assumes nothing.
use Rattle.std.specs.Prelude.{Option, Some, None, All}
use Rattle.std.proofs.lemmas.List.{get_or_append_left, map_push}
use Rattle.std.proofs.lemmas.List.Elements.{All-map, All-contains, Contains-push}
use Prim.Native.Nat.{ℕ, ◌+◌, ◌-◌, ◌≤◌, ◌<◌}
use native.Mathlib.Omega.{arith}
use mathlib.Core.Path.{◌≡◌, refl, sym, ap, ◌∙◌}
use mathlib.Core.Bool.{Bool, false}
use mathlib.Core.List.{List, [], ◌∷◌, ◌++◌, append_assoc}
use lib.ListN.{length, take, drop, get_or, length-append, length-drop}
use lib.Seq.{take_at, drop_at, length-take-le}
use Rattle.member.specs.declared.lines.KeptHeading.{KeptHeading}
use Rattle.answer.specs.Answer.{place}
use Rattle.answer.specs.declared.Place.{Place}
use Rattle.text.specs.Bytes.{part}
use Rattle.text.proofs.BytesLaws.{part_full}
use Rattle.anchor.specs.Anchor.{slug, anchor_number}
use Rattle.shift.specs.Shift.{Told}
use Rattle.put.specs.Put.{source_text, Inside, part_of}
use Rattle.put.specs.declared.Source.{Source}
use Rattle.member.specs.Lines.{kept_lines, left_of, at_first, CursorIn, Plain, IsHeading, FoundHeading}
use Rattle.member.specs.declared.lines.LineCursor.{LineCursor}
use Rattle.member.specs.Member.{Prepared}
use Rattle.members.specs.Members.{name_of, text_source, prepared_in, all_prepared, Stands, Agree, AllStand}
use Rattle.members.specs.declared.Member.{Member}
use Rattle.members.proofs.MembersLaws.{prepared_up, source_up, inside_more, text-inside, stand_take}
use Rattle.put.proofs.PutLaws.{inside-part}
use Rattle.earlier.specs.Earlier.{earlier}
use Rattle.shared.specs.Shared.{shared_in}
use Rattle.marks.specs.Marks.{Marks}
use Rattle.shared.specs.Tells.{TellsLines, Tells, SharedOf}
use Rattle.earlier.proofs.LineLaws.{first_in, first-left, part-fits, part-text}
use Rattle.shared.proofs.LineLaws.{shared_none, shared_next, tells_plain, tells_append, up_to, left_up, tells_up}
use Rattle.shared.proofs.TellsLaws.{lines-still, tells_still, tells_more, Numbered, earlier-none}

-- a part that was lent and has come back
abbrev pub backed : List ℕ → List ℕ → ℕ → ℕ → List ℕ
backed w y a e = take a w ++ (y ++ drop (e - a) (drop a w))

module _ (w y : List ℕ) (a e : ℕ) (order : a ≤ e) (fits : e ≤ length w) (long : length y ≡ e - a) where
  pub back_take : take a (backed w y a e) ≡ take a w
  back_take = take_at (take a w) (y ++ drop (e - a) (drop a w)) a (length-take-le a w (omega arith))

  pub back_part : part a e (backed w y a e) ≡ y
  back_part =
      ap (take (e - a)) (drop_at (take a w) (y ++ drop (e - a) (drop a w)) a (length-take-le a w (omega arith)))
      ∙ take_at y (drop (e - a) (drop a w)) (e - a) long

  pub back_long : length (backed w y a e) ≡ length w
  back_long = simp (length-append, length-take-le a w (omega arith), length-drop) (omega arith)

-- members that stand, and one more behind them
module _ {index : List ℕ} {n limit stop : ℕ} (before : List Member) (member : Member) (all : AllStand index n limit stop (before ++ (member ∷ []))) where
  pub member-stands : Stands (length index) n limit stop member
  member-stands = All-contains (Stands (length index) n limit stop) (before ++ (member ∷ [])) member all.stand (Contains-push before member)

  pub before-stand : AllStand index n limit stop before
  before-stand = rw (take_at before (member ∷ []) (length before) refl) at (stand_take (length before) all)

  firsts : (contents work : List ℕ) → All (λ q. 1 ≤ q.file) (all_prepared index contents work before)
  firsts contents work = All-map (λ q. 1 ≤ q.file) (prepared_in index contents work) before (λ k d h. (before-stand.stand k d h).lies.first)

  numbered : (contents work : List ℕ) → All (Numbered member.file (name_of index member)) (all_prepared index contents work before)
  numbered contents work = All-map (Numbered member.file (name_of index member)) (prepared_in index contents work) before (λ k d h.
      let l = (before-stand.stand k d h).lies in
      record { first = l.first; last = l.last; same = agrees k d h })
    where
      agrees : (k : ℕ) (d : Member) → k < length before → Agree index (get_or before k d) member
      agrees k d h =
          rw (get_or_append_left before (member ∷ []) d k h) at (All-contains (Agree index (get_or (before ++ (member ∷ [])) k d)) (before ++ (member ∷ [])) member
          (all.same k d (omega (arith, length-append before (member ∷ [])))) (Contains-push before member))

-- the walk of a member's headings has come to a cursor, and the work buffer was w₀ and is w
pub record Walked (index contents : List ℕ) (before : List Member) (member : Member) (table stop : ℕ) (w₀ : List ℕ) (text : Source) (w : List ℕ) (c : LineCursor) : Type 0 where
  pub text-is : text ≡ text_source member
  pub long : length w ≡ length w₀
  pub same : take table w ≡ take table w₀
  pub inside : CursorIn c (source_text text contents w₀)
  pub tells : Tells (part table stop w) (all_prepared index contents w₀ before)
  pub done : List Told
  pub whole : kept_lines (source_text text contents w₀) ≡ done ++ left_of c (source_text text contents w₀)
  pub told : TellsLines (part table stop w) member.file done
  pub left : shared_in (all_prepared index contents w₀ before) (prepared_in index contents w₀ member) 1 (prepared_in index contents w₀ member).lines
      ≡ shared_in (all_prepared index contents w₀ before) (prepared_in index contents w₀ member) (c.line + 1) (left_of c (source_text text contents w₀))

pub walk_start : (index contents : List ℕ) (before : List Member) (member : Member) (table stop : ℕ) (w : List ℕ) → Tells (part table stop w) (all_prepared index contents w before)
    → Walked index contents before member table stop w (text_source member) w at_first
unfolding TellsLines
walk_start index contents before member table stop w t = let s : List ℕ = source_text (text_source member) contents w in
    record {
      text-is = refl;
      long = refl;
      same = refl;
      inside = first_in s;
      tells = t;
      done = [];
      whole = sym (first-left s);
      told = tt;
      left = ap (shared_in (all_prepared index contents w before) (prepared_in index contents w member) 1) (sym (first-left s));
    }

module _ {index contents : List ℕ} {before : List Member} {member : Member} {table stop : ℕ} {w₀ : List ℕ} {text : Source} {w : List ℕ} {c : LineCursor}
    (all : AllStand index (length contents) 0 table (before ++ (member ∷ []))) (order : table < stop) (fits : stop ≤ length w₀)
    (x : Walked index contents before member table stop w₀ text w c) where
  abbrev qs : List Prepared
  qs = all_prepared index contents w₀ before

  abbrev mine : Prepared
  mine = prepared_in index contents w₀ member

  text-lies : Inside text 0 (length contents) table
  text-lies = rw x.text-is (text-inside (member-stands before member all))

  pub text_read : (v : List ℕ) → length v ≡ length w₀ → Inside text 0 (length contents) (length v)
  text_read v l = inside_more text 0 (length contents) table text-lies (length v) (omega arith)

  text_same : (v : List ℕ) → take table v ≡ take table w₀ → source_text text contents v ≡ source_text text contents w₀
  text_same v e = source_up text 0 (length contents) table contents v w₀ text-lies e

  pub walk-found : (r : Option KeptHeading) → FoundHeading (source_text text contents w) c r → FoundHeading (source_text text contents w₀) c r
  walk-found r h = rw (text_same w x.same) at h

  -- no heading is left
  module _ (p : Plain (left_of c (source_text text contents w₀))) where
    pub walk_none : shared_in qs mine 1 mine.lines ≡ []
    walk_none = x.left ∙ shared_none qs mine (c.line + 1) (left_of c (source_text text contents w₀)) p

    all_told : TellsLines (part table stop w) member.file mine.lines
    all_told =
        let t : TellsLines (part table stop w) member.file (kept_lines (source_text text contents w₀)) =
        rw x.whole
        (tells_append (part table stop w) member.file x.done (left_of c (source_text text contents w₀)) x.told (tells_plain (part table stop w) member.file (left_of c (source_text text contents w₀)) p)) in
        rw x.text-is at t

    pub walk_tells : Tells (part table stop w) (all_prepared index contents w₀ (before ++ (member ∷ [])))
    walk_tells = rw (map_push (prepared_in index contents w₀) before member) (tells_more (part table stop w) qs mine x.tells all_told)

  -- a heading
  module _ {n p q : ℕ} {d : LineCursor} (h : IsHeading (source_text text contents w₀) c n p q d) where
    pub head_fits : text.start + q ≤ text.end
    head_fits = part-fits text contents w₀ p q text-lies.0 h.within

    module _ {head : Source} (is-head : head ≡ part_of text p q) where
      pub head_read : (v : List ℕ) → length v ≡ length w₀ → Inside head 0 (length contents) (length v)
      head_read v l = rw is-head (inside-part text 0 (length contents) (length v) (text_read v l) p q h.forward head_fits)

      head-text : (v : List ℕ) → take table v ≡ take table w₀ → source_text head contents v ≡ part p q (source_text text contents w₀)
      head-text v e = source_up head 0 (length contents) table contents v w₀ (rw is-head (inside-part text 0 (length contents) table text-lies p q h.forward head_fits)) e
          ∙ part-text text contents w₀ p q text-lies.0 h.within head is-head

      -- where it has its anchor before
      abbrev pub second : Option Place
      second = earlier (name_of index member) (slug (part p q (source_text text contents w₀))) qs

      module _ {number : ℕ} (is_number : number ≡ anchor_number (slug (source_text head contents w))) {y : List ℕ} {maybe : Bool} (m : Marks (part table stop w) y number member.file maybe) where
        lent : length y ≡ stop - table
        lent = m.long ∙ part_full w table stop (omega (arith, x.long))

        number_of : number ≡ anchor_number (slug (part p q (source_text text contents w₀)))
        number_of = is_number ∙ ap (λ (t : List ℕ). anchor_number (slug t)) (head-text w x.same)

        pub next-same : take table (backed w y table stop) ≡ take table w₀
        next-same = back_take w y table stop (omega arith) (omega (arith, x.long)) lent ∙ x.same

        pub next-long : length (backed w y table stop) ≡ length w₀
        next-long = back_long w y table stop (omega arith) (omega (arith, x.long)) lent ∙ x.long

        next-table : part table stop (backed w y table stop) ≡ y
        next-table = back_part w y table stop (omega arith) (omega (arith, x.long)) lent

        -- the table spares the search, or it finds a place
        pub second-alone : maybe ≡ false → second ≡ None
        second-alone e = earlier-none _ (λ f a b k. m.alone e f a b (rw number_of k)) qs (numbered before member all contents w₀) x.tells

        pub second-found : (r : Option Place)
            → r ≡ earlier (name_of index member) (slug (source_text head contents (backed w y table stop))) (all_prepared index contents (backed w y table stop) before)
            → r ≡ second
        second-found r e = e ∙ rw (head-text (backed w y table stop) next-same, prepared_up contents (backed w y table stop) w₀ (before-stand before member all) next-same)

        pub walk-next : second ≡ None → Walked index contents before member table stop w₀ text (backed w y table stop) d
        walk-next e = record {
          text-is = x.text-is;
          long = next-long;
          same = next-same;
          inside = h.next;
          tells = rw next-table (tells_still m qs (firsts before member all contents w₀) x.tells);
          done = x.done ++ up_to h;
          whole = x.whole ∙ ap (λ (ts : List Told). x.done ++ ts) (left_up h) ∙ sym (append_assoc x.done (up_to h) (left_of d (source_text text contents w₀)));
          told =
              rw next-table
              (tells_append y member.file x.done (up_to h) (lines-still m member.file (member-stands before member all).lies.first x.done x.told) (tells_up h y member.file (rw number_of at m.own)));
          left = x.left ∙ shared_next h qs mine ∙ rw e;
        }

        pub walk_hit : (r : Place) → Some r ≡ second → SharedOf (shared_in qs mine 1 mine.lines) (Some ((place member.file d.line), r))
        walk_hit r e = (shared_in qs mine (d.line + 1) (left_of d (source_text text contents w₀)), x.left ∙ shared_next h qs mine ∙ rw (← e))
