-- `word_follows` meets its contract: a byte that stands and is no underscore, one that does not stand, and an underscore. Assumes nothing.
use Rattle.std.proofs.Common.{◌≡◌, ℕ, ◌+◌, ◌-◌, drop, get_or, sym, ◌∙◌, arith}
use Rattle.std.proofs.lemmas.List.{length-take, length-drop}
use Rattle.text.specs.Bytes.{part}
use Rattle.anchor.proofs.AnchorLaws.{part_byte, follows, follows_here, follows_cut, follows_run}
use Rattle.anchor.specs.Anchor.{markup_after}
use Rattle.anchor.proofs.word_follows.Goals as goal
use Rattle.anchor.proofs.word_follows.Goals.{else-b-ne95-via-then-b-ne95+else-stands, else-b-ne95-via-else-b-ne95}

pub returns-then-stands : goal.returns-then-stands
returns-then-stands c =
    let l = c.loop-b in
    let f = c.args.from in
    let t = c.args.text.now in
    let k = length-take (f.end - f.at) (drop f.at t) in
    let x = part_byte t f.at f.end l.b-index (omega arith) in
    let p = sym (rw x at c.stands.ensures) ∙ c.if-stands.true in
    rw x at c.is_word.ensures ∙ (sym (follows_here l.markup t (f.at + l.b-index) f.end (omega (arith, length-drop f.at t)) (omega arith) p (λ e. c.if-b-ne95.true (x ∙ e))) ∙ l.invariant)

pub loop-b-preserved : goal.loop-b-preserved
loop-b-preserved c =
    let l = c.loop-b in
    let f = c.args.from in
    let t = c.args.text.now in
    let i : ℕ = f.at + l.b-index in
    let k = length-take (f.end - f.at) (drop f.at t) in
    let x = part_byte t f.at f.end l.b-index (omega arith) in
    let j : f.at + (l.b-index + 1) ≡ i + 1 = omega arith in
    let on : follows l.markup (part i f.end t) ≡ follows (markup_after l.markup (get_or t i 0)) (part (i + 1) f.end t) =
    elim c.else-b-ne95.branch [
      | else-b-ne95-via-then-b-ne95+else-stands w ↦ follows_cut l.markup t i f.end (omega arith) (omega arith) (sym (rw x at w.stands.ensures) ∙ w.if-stands.false)
      | else-b-ne95-via-else-b-ne95 w ↦ follows_run l.markup t i f.end (omega arith) (omega arith) (sym x ∙ w.if-b-ne95.false)
    ] in
    rw (j, rw x at c.markup_after-markup.ensures) (sym on ∙ l.invariant)
