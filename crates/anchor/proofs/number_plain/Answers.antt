-- `number_plain` meets its contract: a byte is text or none, and no underscore is left. Assumes nothing.
use Rattle.std.proofs.Common.{◌≡◌, ℕ, ◌+◌, ◌-◌, List, drop, sym, ap, ◌∙◌, arith, false}
use Rattle.std.proofs.lemmas.List.{length-take, length-drop}
use Rattle.text.specs.Bytes.{part}
use Rattle.anchor.specs.Anchor.{anchor_of, is_word_last, number_from}
use Rattle.anchor.proofs.AnchorLaws.{part_byte, no_underscore, none_left, plain-text, plain-none, anchor_nil}
use Rattle.anchor.proofs.number_plain.Goals as goal

pub loop-b-preserved : goal.loop-b-preserved
loop-b-preserved c =
    let l = c.loop-b in
    let f = c.args.from in
    let t = c.args.text.now in
    let i : ℕ = f.at + l.b-index in
    let k = length-take (f.end - f.at) (drop f.at t) in
    let x = part_byte t f.at f.end l.b-index (omega arith) in
    let j : f.at + (l.b-index + 1) ≡ i + 1 = omega arith in
    let n = l.invariant.1.0 in
    let p = plain-text l.markup t i f.end (omega arith) (omega arith) n in
    let s = rw x at (rw c.is_text.ensures at c.stir_in-n.ensures.by_index) in
    rw j (
      c.stir_in-n.ensures.upper_bound,
      (
        none_left l.markup t i f.end (omega arith) (omega arith) n,
        rw (rw x at c.markup_after-markup.ensures) (sym (s _) ∙ (ap (λ (q : List ℕ). number_from l.n (anchor_of q)) (sym p) ∙ l.invariant.1.1)),
      ),
    )

pub returns : goal.returns
unfolding number_from
returns c =
    let l = c.loop-b in
    let f = c.args.from in
    let t = c.args.text.now in
    let k = length-take (f.end - f.at) (drop f.at t) in (
      ap (number_from l.n) (sym (ap anchor_of (plain-none false l.markup t (f.at + l.b-index) f.end (omega (arith, length-drop f.at t))) ∙ anchor_nil))
          ∙ (l.invariant.1.1 ∙ ap (λ (q : List ℕ). number_from 0 (anchor_of q)) (no_underscore false (is_word_last f) f.markup (part f.at f.end t) c.requires.1)),
      l.invariant.0,
    )
