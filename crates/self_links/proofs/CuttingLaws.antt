-- Laws of a source that is put without the bytes that go, piece after piece. Assumes nothing.
use Rattle.std.specs.Prelude.{Option, Some, None}
use Prim.Native.Nat.{ℕ, ◌-◌, ◌≤◌, ◌<◌}
use native.Mathlib.Omega.{arith}
use mathlib.Core.Path.{◌≡◌, refl, sym, ap, subst, ◌∙◌}
use mathlib.Core.List.{List, ◌++◌}
use lib.ListN.{drop}
use Rattle.text.specs.Bytes.{part}
use Rattle.text.proofs.BytesLaws.{rest}
use Rattle.put.specs.Running.{Reads, text_of, Grown, Over, Ran}
use Rattle.self_links.specs.Cuts.{linked_text, FoundCut}
use Rattle.self_links.specs.declared.cut.Cut.{Cut}
use Rattle.put.specs.declared.Source.{Source}
use Rattle.put.specs.declared.running.RunningText.{RunningText}
use Rattle.put.proofs.RunningLaws.{source-length, Left, left_start, left_next, left_over, left_last, left_reads, left_same, left-inside}

-- a source without the bytes that go is put up to place i
pub record Cutting (host dir : List ℕ) (source : Source) (old now : RunningText) (i : ℕ) : Type 0 where
  pub within : i ≤ source.end - source.start
  pub left : Left (linked_text host dir (text_of old source)) old now (linked_text host dir (drop i (text_of old source)))

module _ {source : Source} {old : RunningText} (reads : Reads old source) where
  pub cutting_start : (host dir : List ℕ) → Cutting host dir source old old 0
  cutting_start host dir = record { within = omega arith; left = left_start _ old reads.below }

  module _ {host dir : List ℕ} {now : RunningText} {i : ℕ} (p : Cutting host dir source old now i) where
    -- no more bytes go: the rest is put as it is
    pub cutting_end : FoundCut host dir (text_of now source) i None → (new : RunningText) (r : Option (Unit {0}))
        → Ran (part i (source.end - source.start) (text_of now source)) now new r → Ran (linked_text host dir (text_of old source)) old new r
    cutting_end f new r h =
        let same = left_same p.left reads in
        let t : part i (source.end - source.start) (text_of old source) ≡ linked_text host dir (drop i (text_of old source)) =
        ap (λ (n : ℕ). part i n (text_of old source)) (sym (source-length reads)) ∙ rest (text_of old source) i ∙ sym (rw same at f) in
        left_last p.left new r (subst (λ (x : List ℕ). Ran x now new r) t (rw same at h))

    -- bytes go: what stands before them is put, and then what follows them up to the place from which the rest goes on
    module _ {cut : Cut} (f : FoundCut host dir (text_of now source) i (Some cut)) where
      found : FoundCut host dir (text_of old source) i (Some cut)
      found = rw (left_same p.left reads) at f

      pub cut_bounds : (i ≤ cut.start) × ((cut.start < cut.end) × ((cut.end ≤ cut.next) × (cut.next ≤ source.end - source.start)))
      cut_bounds = (found.0.0, (found.0.1.0, (found.0.1.1.0, omega (arith, source-length reads, found.0.1.1.1))))

      pub cut_over : {new : RunningText} → Over (part i cut.start (text_of now source)) now new → Over (linked_text host dir (text_of old source)) old new
      cut_over h = left_over p.left _ _ found.1 (rw (left_same p.left reads) at h)

      module _ {mid : RunningText} (h : Grown (part i cut.start (text_of now source)) now mid) where
        before : Left (linked_text host dir (text_of old source)) old mid (part cut.end cut.next (text_of old source) ++ linked_text host dir (drop cut.next (text_of old source)))
        before = left_next p.left (part i cut.start (text_of old source)) _ found.1 (rw (left_same p.left reads) at h)

        pub cut_reads : Reads mid source
        cut_reads = left_reads before reads

        pub cut-after_over : {new : RunningText} → Over (part cut.end cut.next (text_of mid source)) mid new → Over (linked_text host dir (text_of old source)) old new
        cut-after_over k = left_over before _ _ refl (rw (left_same before reads) at k)

        pub cutting_on : {new : RunningText} → Grown (part cut.end cut.next (text_of mid source)) mid new → Cutting host dir source old new cut.next
        cutting_on q = record {
          within = cut_bounds.1.1.1;
          left = left_next before (part cut.end cut.next (text_of old source)) _ refl (rw (left_same before reads) at q);
        }

pub ruleset cutting = (left-inside, left_reads, cut_bounds, cut_reads)
