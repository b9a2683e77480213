-- Laws of members that are prepared one after the other. Assumes nothing.
use Rattle.std.specs.Prelude.{None, Some, All}
use Rattle.std.specs.List.{AllZip}
use Rattle.std.proofs.lemmas.List.{take_more, take_more_set, take_all, get_or-drop, drop_more, drop-set-lt, drop-drop, take-append-drop}
use Rattle.std.proofs.lemmas.List.Elements.{All-head, All-tail, All-push, AllZip-push, AllZip-get_or, length_all_zip}
use Prim.Native.Nat.{ℕ, ◌+◌, ◌≤◌, ◌<◌}
use native.Mathlib.Nat.{add-zero}
use native.Mathlib.Omega.{arith}
use mathlib.Core.Path.{◌≡◌, refl, sym, ap, ◌∙◌}
use mathlib.Core.List.{List, [], ◌∷◌, ◌++◌}
use lib.ListN.{length, take, drop, get_or, set}
use Rattle.answer.specs.declared.Refusal.{Refusal}
use Rattle.answer.specs.declared.Refusal.TheVariants.{NoTitle}
use Rattle.index.specs.Index.{File}
use Rattle.walk.specs.Parts.{good, flawed}
use Rattle.walk.specs.Steps.{done, failed, go}
use Rattle.put.specs.Put.{source_text, Inside}
use Rattle.member.specs.Member.{Prepared, prepared_lines, title_of, titled, prepare}
use Rattle.outline.specs.Outline.{IsOutline}
use Rattle.outline.specs.declared.Outline.{Outline}
use Rattle.members.specs.Members.{file_in, all_files, all_prepared, Lies, name_of, AllLie, AllStand, IsKnown, AllKnown}
use Rattle.members.specs.declared.Member.{Member}
use Rattle.members.proofs.MembersLaws.{prepares, all_stand}
use Rattle.assembled.specs.Assemble.{prepare_all}
use Rattle.preparation.specs.Preparation.{CanPrepare, SameFile, ArePrepared}

-- a file with a title is prepared
prepare_good : (h : File) (t : List ℕ) → title_of (prepared_lines h.text) ≡ Some t → (m : Prepared) × (prepare h ≡ good m)
unfolding prepare
prepare_good h t e = (record { file = h.number; name = h.name; lines = prepared_lines h.text; title = t }, ap (titled h (prepared_lines h.text)) e)

-- a member with another outline
module _ {old new : Member} (s : SameFile old new) where
  file-same : (index contents work : List ℕ) → file_in index contents work old ≡ file_in index contents work new
  file-same index contents work = rw (s.name, s.file, s.source)

  lies_same : {index contents limit stop : ℕ} → Lies index contents limit stop old → Lies index contents limit stop new
  lies_same l = record {
    forward = rw s.name l.forward;
    named = rw s.name l.named;
    short = rw s.name l.short;
    first = rw s.file l.first;
    last = rw s.file l.last;
    inside = rw s.source l.inside;
  }

  name-same : (index : List ℕ) → name_of index new ≡ name_of index old
  name-same index = rw s.name

lie_same : {index : List ℕ} {contents limit stop : ℕ} {old new : List Member} → AllLie index contents limit stop old → AllZip SameFile old new → AllLie index contents limit stop new
lie_same {index} {old = old} {new = new} a z =
    let n : length old ≡ length new = length_all_zip SameFile old new z in
    let s : (k : ℕ) (d : Member) → k < length new → SameFile (get_or old k d) (get_or new k d) = λ k d h. AllZip-get_or SameFile old new k d d z (omega arith) in
    record {
      few = omega (arith, a.few);
      lie = λ k d h. lies_same (s k d h) (a.lie k d (omega arith));
      same = λ i d h j e k q.
          name-same (s i d h) index
          ∙ a.same i d (omega arith) j e (omega arith) (sym (s i d h).file ∙ q ∙ (s j e k).file)
          ∙ sym (name-same (s j e k) index);
    }

-- all members are prepared
prepared-each : {size contents limit stop : ℕ} (index c w : List ℕ) (old new : List Member) → AllZip SameFile old new → All (Lies size contents limit stop) old
    → AllKnown c w new → prepare_all (all_files index c w old) ≡ done (all_prepared index c w new)
unfolding prepare_all go
prepared-each index c w [] [] z l k = refl
prepared-each index c w [] (q ∷ qs) z l k = absurd z
prepared-each index c w (m ∷ ms) [] z l k = absurd z
prepared-each {size} {contents} {limit} {stop} index c w (m ∷ ms) (q ∷ qs) z l k =
    rw (
      file-same z.0 index c w,
      prepares (lies_same z.0 (All-head (Lies size contents limit stop) m ms l)) c w index (All-head (IsKnown c w) q qs k),
      prepared-each index c w ms qs z.1 (All-tail (Lies size contents limit stop) m ms l) (All-tail (IsKnown c w) q qs k),
    )

module _ {index : List ℕ} {n limit stop : ℕ} {contents work : List ℕ} {old new : List Member} (a : AllLie index n limit stop old) (p : ArePrepared contents work old new) where
  pub prepared_all : prepare_all (all_files index contents work old) ≡ done (all_prepared index contents work new)
  prepared_all = prepared-each index contents work old new p.same a.lie p.known

  pub prepared_stand : AllStand index n limit stop new
  prepared_stand = all_stand contents work (lie_same a p.same) p.known

-- the first member that is not prepared
stops : (index c w : List ℕ) (old new : List Member) → AllZip SameFile old new → AllKnown c w new → (m : Member) (ms : List Member) (x : Refusal) (xs : List Refusal)
    → prepare (file_in index c w m) ≡ flawed x xs → prepare_all (all_files index c w (old ++ (m ∷ ms))) ≡ failed x
unfolding prepare_all go
stops index c w [] [] z k m ms x xs e = rw e
stops index c w [] (q ∷ qs) z k m ms x xs e = absurd z
stops index c w (p ∷ ps) [] z k m ms x xs e = absurd z
stops index c w (p ∷ ps) (q ∷ qs) z k m ms x xs e =
    let g = prepare_good (file_in index c w q) _ (All-head (IsKnown c w) q qs k).title in
    rw (file-same z.0 index c w, g.1, stops index c w ps qs z.1 (All-tail (IsKnown c w) q qs k) m ms x xs e)

-- the first i members are prepared, and the others are as they were
pub record SoFar (contents work : List ℕ) (old new : List Member) (i : ℕ) : Type 0 where
  pub same : AllZip SameFile (take i old) (take i new)
  pub known : AllKnown contents work (take i new)
  pub rest : drop i new ≡ drop i old

pub far_start : (contents work : List ℕ) (old : List Member) → SoFar contents work old old 0
far_start contents work old = record { same = tt; known = λ k d h. absurd (omega arith); rest = refl }

module _ {contents work : List ℕ} {old new : List Member} {i : ℕ} (f : SoFar contents work old new i) (long : length new ≡ length old) where
  pub far_end : length new ≤ i → ArePrepared contents work old new
  far_end h = record { same = rw (take_all i old (omega arith), take_all i new h) at f.same; known = rw (take_all i new h) at f.known }

  module _ (h : i < length old) (d : Member) where
    here : get_or new i d ≡ get_or old i d
    here = sym (rw add-zero at (get_or-drop i new 0 d)) ∙ ap (λ (l : List Member). get_or l 0 d) f.rest ∙ rw add-zero at (get_or-drop i old 0 d)

    pub far_inside : (c w : ℕ) → CanPrepare c w old → Inside (get_or new i d).source 0 c w
    far_inside c w a = rw here (a i d h)

    pub far_stops : title_of (prepared_lines (source_text (get_or new i d).source contents work)) ≡ None → (index : List ℕ)
        → prepare_all (all_files index contents work old) ≡ failed (NoTitle (get_or new i d).file)
    unfolding prepare
    far_stops e index =
        let m : Member = get_or new i d in
        let left : drop i old ≡ m ∷ drop (i + 1) old = drop_more old i d h ∙ ap (λ (x : Member). x ∷ drop (i + 1) old) (sym here) in
        let whole : old ≡ take i old ++ (m ∷ drop (i + 1) old) = sym (take-append-drop i old) ∙ ap (λ (l : List Member). take i old ++ l) left in
        ap (λ (l : List Member). prepare_all (all_files index contents work l)) whole
        ∙ stops index contents work (take i old) (take i new) f.same f.known m (drop (i + 1) old) (NoTitle m.file) [] (rw e)

    module _ (o : Outline) (q : IsOutline (source_text (get_or new i d).source contents work) o) where
      abbrev prepared : Member
      prepared = let m : Member = get_or new i d in record { name = m.name; file = m.file; source = m.source; outline = o }

      pub far_next : SoFar contents work old (set new i prepared) (i + 1)
      far_next =
          let s : SameFile (get_or old i d) prepared = record { name = ap (λ (x : Member). x.name) here; file = ap (λ (x : Member). x.file) here; source = ap (λ (x : Member). x.source) here } in
          record {
            same = rw (take_more old i d h, take_more_set new i prepared (omega arith)) (AllZip-push SameFile (take i old) (take i new) (get_or old i d) prepared f.same s);
            known = rw (take_more_set new i prepared (omega arith)) (All-push (IsKnown contents work) (take i new) prepared f.known q);
            rest = drop-set-lt (i + 1) new i prepared (omega arith) ∙ sym (drop-drop 1 i new) ∙ ap (drop 1) f.rest ∙ drop-drop 1 i old;
          }
