-- Document 02, Req 01, beside the Rust: where no run of underscores stays, the anchor is the one that the Rust's `slug` makes.
use Rattle.std.specs.Prelude.{ℕ, Bool, true, false, cond, ◌||◌, List, [], ◌∷◌, ◌≡◌}
use Rattle.text.specs.Pattern.{bytes}
use Rattle.text.specs.Space.{trim}
use Rattle.anchor.specs.Anchor.{Cut, cut, word_before, stays, shows, anchor_of, slug}

-- the Rust's: all marks go outside a link's text
unfoldable pub bare : List Cut → List ℕ
bare [] = []
bare (c ∷ s) = cond (shows c) (c.byte ∷ bare s) (bare s)

unfoldable pub rust_slug : List ℕ → List ℕ
rust_slug t = anchor_of (trim (bare (cut t)))

-- whether a run has a letter or digit directly before and after it
unfoldable pub run_from : Bool → List Cut → Bool
run_from before [] = false
run_from before (c ∷ s) = stays before c.byte s || run_from (word_before before c.byte) s

abbrev pub has_run : List ℕ → Bool
has_run t = run_from false (cut t)

abbrev pub RustAnchor : Type 0
RustAnchor = (t : List ℕ) → has_run t ≡ false → slug t ≡ rust_slug t

-- a text that has such a run, one that has none, and an anchor whose underscores go
abbrev pub Examples : Type 0
Examples = (has_run (bytes "weir_3") ≡ true) × ((has_run (bytes "_u_ a_ [b_] *q*_1") ≡ false) × (slug (bytes "_u_") ≡ bytes "u"))
