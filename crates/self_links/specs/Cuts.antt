-- A text that loses the bytes of links that name its host. Nothing here is document 01's: inner functions promise it, and the laws of `proofs/` tie it to the embedding.
use Rattle.std.specs.Prelude.{ℕ, ◌≤◌, ◌<◌, ◌≡◌, List, ◌++◌, length, drop, Option, Some, None}
use Rattle.self_links.specs.declared.cut.Cut.{Cut}
use Rattle.text.specs.Bytes.{part}
use Rattle.link.specs.Links.{relink}
use Rattle.link.specs.Target.{anchor_self}

-- what a text becomes in a host, its file being in a directory
abbrev pub linked_text : List ℕ → List ℕ → List ℕ → List ℕ
linked_text host dir l = relink (anchor_self host dir) l

-- the first bytes that go from a text, from a place on: what stands before them stays, and so does what follows them up to the place from which the rest goes on
abbrev pub FoundCut : List ℕ → List ℕ → List ℕ → ℕ → Option Cut → Type 0
FoundCut host dir l i (Some p) =
    ((i ≤ p.start) × ((p.start < p.end) × ((p.end ≤ p.next) × (p.next ≤ length l)))) × (linked_text host dir (drop i l) ≡ part i p.start l ++ (part p.end p.next l ++ linked_text host dir (drop p.next l)))
FoundCut host dir l i None = linked_text host dir (drop i l) ≡ drop i l
