-- `pattern::starts_with` meets its contract: all bytes of p are those of s, which is long enough. Assumes nothing.
use mathlib.Core.Path.{◌∙◌, sym, ap}
use lib.Dec.{eqb}
use lib.ListN.{length, take}
use lib.Seq.{length-take-le}
use native.Mathlib.Omega.{arith}
use borrow.Author.Tests.{lt-leb}
use Rattle.std.proofs.Common.{rules, tests}
use Rattle.std.proofs.lemmas.Iterator.{YieldsList-from_slice, YieldsList-from_zip}
use Rattle.std.proofs.lemmas.Iterator.Search.{all_from_yields_List}
use Rattle.text.proofs.PatternLaws.{starts-zip, starts-front, starts-short}
use Rattle.text.proofs.pattern.starts_with.Goals as goal

pub returns-then-p-s : goal.returns-then-p-s
returns-then-p-s c =
    let s = c.args.s.now in
    let t = take (length c.args.p.now) s in
    let p = c.args.p.now in
    all_from_yields_List (λ x. eqb x.0 x.1) c.all.new.self _ _ c.all.ensures.ran (YieldsList-from_zip {s = c.zip.result} (YieldsList-from_slice t (ap (λ i. i.rest.now) c.zip.ensures.first ∙ c.iter.ensures.rest)) (YieldsList-from_slice p cc)) (λ x b q k. search (rules, tests))
    ∙ starts-zip p t (omega (arith, length-take-le (length p) s c.if-p-s.true)) ∙ starts-front p s

pub returns-else-p-s : goal.returns-else-p-s
returns-else-p-s c = lt-leb _ _ c.if-p-s.false ∙ sym (starts-short _ _ c.if-p-s.false)
