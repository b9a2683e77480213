-- Laws of the bytes that a line loses. Assumes nothing.
use Rattle.std.specs.Prelude.{Some, None}
use Prim.Native.Nat.{ℕ, ◌+◌, ◌≤◌, ◌<◌}
use native.Mathlib.Nat.{sub_self}
use native.Mathlib.Omega.{arith}
use mathlib.Core.Path.{◌≡◌, ap, ◌∙◌}
use mathlib.Core.List.{List, ◌++◌, append_assoc}
use lib.ListN.{length, drop}
use Rattle.text.specs.declared.part.Part.{Part}
use Rattle.text.specs.Bytes.{part}
use Rattle.text.proofs.BytesLaws.{part_full}
use Rattle.text.proofs.PartLaws.{part_join, part-rest, part-drop}
use Rattle.link.specs.Links.{FoundLink}
use Rattle.link.specs.Target.{anchor_self}
use Rattle.self_links.specs.Cuts.{linked_text, FoundCut}

-- the bytes passed stay as they are
pub record Passed (host dir l : List ℕ) (from i : ℕ) : Type 0 where
  pub order : from ≤ i
  pub within : i ≤ length l
  pub same : linked_text host dir (drop from l) ≡ part from i l ++ linked_text host dir (drop i l)

pub passed_start : (host dir l : List ℕ) (i : ℕ) → i ≤ length l → Passed host dir l i i
passed_start host dir l i h = record { order = omega arith; within = h; same = rw sub_self }

module _ {host dir l : List ℕ} {from i : ℕ} (p : Passed host dir l from i) where
  pub passed_none : FoundLink l i None → FoundCut host dir l from None
  passed_none h = p.same ∙ rw (h (anchor_self host dir)) (part-rest l from i p.order)

  module _ {link : Part} (n : ℕ) (h : FoundLink l i (Some link)) (t : drop n (part link.start link.end l) ≡ anchor_self host dir (part link.start link.end l)) where
    found : linked_text host dir (drop from l) ≡ part from link.start l ++ (drop n (part link.start link.end l) ++ linked_text host dir (drop link.end l))
    found =
        p.same
        ∙ rw (h.1 (anchor_self host dir), ← t, ← append_assoc (part from i l) (part i link.start l) (drop n (part link.start link.end l) ++ linked_text host dir (drop link.end l)))
        (ap (λ (x : List ℕ). x ++ (drop n (part link.start link.end l) ++ linked_text host dir (drop link.end l))) (part_join l from i link.start p.order h.0.0))

    pub passed_on : n ≡ 0 → Passed host dir l from link.end
    passed_on z = record { order = omega (arith, p.order, h.0.0, h.0.1.0); within = omega (arith, h.0.1.1); same = same }
      where
        same : linked_text host dir (drop from l) ≡ part from link.end l ++ linked_text host dir (drop link.end l)
        same = found ∙ rw (z, ← append_assoc (part from link.start l) (part link.start link.end l) (linked_text host dir (drop link.end l)), part_join l from link.start link.end (omega (arith, p.order, h.0.0)) h.0.1.0)

    pub passed-cut : 0 < n → n ≤ length (part link.start link.end l) → FoundCut host dir l from (Some (record { start = link.start; end = link.start + n; next = link.end }))
    passed-cut z k =
        ((omega (arith, p.order, h.0.0), (omega arith, (omega (arith, part_full l link.start link.end (omega (arith, h.0.1.1)), h.0.1.0), omega (arith, h.0.1.1)))), found ∙ rw (part-drop l link.start link.end n))
