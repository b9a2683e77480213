-- Laws of a source whose links are rewritten, put piece after piece. Assumes nothing.
use Rattle.std.specs.Prelude.{Option, Some, None}
use Prim.Native.Nat.{ℕ, ◌+◌, ◌-◌, ◌≤◌, ◌<◌}
use native.Mathlib.Omega.{arith}
use mathlib.Core.Path.{◌≡◌, refl, sym, ap, subst, ◌∙◌}
use mathlib.Core.List.{List, ◌++◌}
use lib.ListN.{length, drop}
use Rattle.text.specs.declared.part.Part.{Part}
use Rattle.text.specs.Bytes.{part}
use Rattle.text.proofs.BytesLaws.{rest}
use Rattle.link.specs.Links.{relink, FoundLink}
use Rattle.link.specs.Target.{rewrite_target}
use Rattle.link.proofs.LinkLaws.{link_long}
use Rattle.put.specs.Put.{part_of}
use Rattle.put.specs.Running.{Reads, text_of, Grown, Over, Ran}
use Rattle.put.specs.declared.Source.{Source}
use Rattle.put.specs.declared.running.RunningText.{RunningText}
use Rattle.put.proofs.RunningLaws.{source-length, reads_part, part_same, Left, left_start, left_next, left_over, left_last, left_reads, left_same, left-inside}
use Rattle.members.specs.Members.{AllStand}
use Rattle.members.specs.declared.Member.{Member}
use Rattle.target.specs.Titles.{titles_in}
use Rattle.target.proofs.TitleLaws.{titles_same}

-- titles stay what they were while a text grows
pub rewriting_same : {index : List ℕ} {ms : List Member} {old : RunningText} → AllStand index (length old.contents.now) old.limit (length old.work.now) ms
    → {x : List ℕ} {new : RunningText} → Grown x old new → (url dir : List ℕ)
    → rewrite_target (titles_in index new.contents.now new.work.now ms) url dir ≡ rewrite_target (titles_in index old.contents.now old.work.now ms) url dir
rewriting_same stand p url dir = ap (λ (t : List ℕ → Option (List ℕ)). rewrite_target t url dir) (titles_same stand p)

-- a source, each link's target t being f t, is put up to place i
pub record Linking (f : List ℕ → List ℕ) (source : Source) (old now : RunningText) (i : ℕ) : Type 0 where
  pub within : i ≤ source.end - source.start
  pub left : Left (relink f (text_of old source)) old now (relink f (drop i (text_of old source)))

module _ {source : Source} {old : RunningText} (reads : Reads old source) where
  pub linking_start : (f : List ℕ → List ℕ) → Linking f source old old 0
  linking_start f = record { within = omega arith; left = left_start _ old reads.below }

  module _ {f : List ℕ → List ℕ} {now : RunningText} {i : ℕ} (p : Linking f source old now i) where
    same : text_of now source ≡ text_of old source
    same = left_same p.left reads

    -- no more links: the rest is put as it is
    pub linking_end : FoundLink (text_of now source) i None → (new : RunningText) (r : Option (Unit {0}))
        → Ran (part i (source.end - source.start) (text_of now source)) now new r → Ran (relink f (text_of old source)) old new r
    linking_end h new r q =
        let t : part i (source.end - source.start) (text_of old source) ≡ relink f (drop i (text_of old source)) =
        ap (λ (n : ℕ). part i n (text_of old source)) (sym (source-length reads)) ∙ rest (text_of old source) i ∙ sym (subst (λ (x : List ℕ). FoundLink x i None) same h f) in
        left_last p.left new r (subst (λ (x : List ℕ). Ran x now new r) t (rw same at q))

    -- a link: what stands before its target is put, and then what the target becomes
    module _ {link : Part} (h : FoundLink (text_of now source) i (Some link)) where
      found : FoundLink (text_of old source) i (Some link)
      found = rw same at h

      pub link_bounds : ((i ≤ link.start) × (link.start ≤ link.end)) × ((link.end ≤ source.end - source.start) × (i < link.end))
      link_bounds = ((found.0.0, found.0.1.0), (omega (arith, source-length reads, found.0.1.1), link_long (text_of old source) i link.start link.end found))

      pub link_over : {new : RunningText} → Over (part i link.start (text_of now source)) now new → Over (relink f (text_of old source)) old new
      link_over k = left_over p.left (part i link.start (text_of old source)) _ (found.1 f) (rw same at k)

      module _ {mid : RunningText} (q : Grown (part i link.start (text_of now source)) now mid) where
        pub link_before : Left (relink f (text_of old source)) old mid (f (part link.start link.end (text_of old source)) ++ relink f (drop link.end (text_of old source)))
        link_before = left_next p.left (part i link.start (text_of old source)) _ (found.1 f) (rw same at q)

        within : source.start + link.end ≤ source.end
        within = omega (arith, link_bounds, reads.inside.0)

        pub target_reads : Reads mid (part_of source link.start link.end)
        target_reads = reads_part (left_reads link_before reads) link.start link.end link_bounds.0.1 within

        module _ {g : List ℕ → List ℕ} (is : g ≡ f) where
          becomes : g (text_of mid (part_of source link.start link.end)) ≡ f (part link.start link.end (text_of old source))
          becomes = ap (λ (k : List ℕ → List ℕ). k (text_of mid (part_of source link.start link.end))) is
              ∙ ap f (part_same reads link_before.put link.start link.end within)

          pub target_over : {new : RunningText} → Over (g (text_of mid (part_of source link.start link.end))) mid new → Over (relink f (text_of old source)) old new
          target_over {new} k = left_over link_before (f (part link.start link.end (text_of old source))) _ refl (subst (λ (x : List ℕ). Over x mid new) becomes k)

          pub linking_on : {new : RunningText} → Grown (g (text_of mid (part_of source link.start link.end))) mid new → Linking f source old new link.end
          linking_on {new} k = record {
            within = link_bounds.1.0;
            left = left_next link_before (f (part link.start link.end (text_of old source))) _ refl (subst (λ (x : List ℕ). Grown x mid new) becomes k);
          }

pub ruleset linking = (left-inside, left_reads, linking_start, link_bounds, link_before, target_reads)
