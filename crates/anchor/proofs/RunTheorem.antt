-- Where no run of underscores stays, the anchor is the Rust's. Assumes nothing.
use mathlib.Core.Bool.{Bool, true, false, cond, ◌||◌}
use mathlib.Core.List.{List, [], ◌∷◌}
use mathlib.Core.Path.{◌≡◌, refl, ap}
use Rattle.text.specs.Ascii.{lower}
use Rattle.text.specs.Bytes.{first, after_last}
use Rattle.text.specs.Space.{is_space, lead, kept, trim_start, trim_end, trim}
use Rattle.text.proofs.BytesLaws.{or_left, or_right}
use Rattle.anchor.specs.Anchor.{markup_after, stands, is_linked, Cut, cut_from, cut, word_follows, word_before, stays, shows, plain_from, anchor_of, slug}
use Rattle.anchor.specs.Runs.{bare, rust_slug, run_from, RustAnchor, Examples}

no_run : (w : Bool) (s : List Cut) → run_from w s ≡ false → plain_from w s ≡ bare s
unfolding run_from plain_from bare
no_run w [] h = refl
no_run w (c ∷ s) h = rw (or_left (stays w c.byte s) _ h, no_run (word_before w c.byte) s (or_right (stays w c.byte s) _ h)) (go (shows c))
  where
    go : (b : Bool) → cond (b || false) (c.byte ∷ bare s) (bare s) ≡ cond b (c.byte ∷ bare s) (bare s)
    go true = refl
    go false = refl

pub rust_anchor : RustAnchor
unfolding slug rust_slug
rust_anchor t h = ap (λ (s : List _). anchor_of (trim s)) (no_run false (cut t) h)

pub examples : Examples
unfolding first after_last is_space lead kept trim_start trim_end trim lower markup_after stands is_linked cut_from word_follows plain_from run_from anchor_of slug
examples = (refl, (refl, refl))
