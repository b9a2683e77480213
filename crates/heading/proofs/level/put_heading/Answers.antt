-- `heading::level::put_heading` meets its contract: the hashes, the space, the text. Assumes nothing.
use Prim.Native.Nat.{◌+◌, ◌-◌}
use mathlib.Core.Path.{◌≡◌}
use native.Mathlib.Omega.{arith}
use lib.ListN.{replicate}
use Rattle.std.proofs.Common.{rules}
use Rattle.heading.proofs.LevelLaws.{hashes_written, heading-written}
use Rattle.heading.proofs.level.put_heading.Goals as goal

pub returns : goal.returns
returns c = let a = c.args in
    let n : a.at + a.level - a.at ≡ a.level = omega arith in
    let f : c.fill.new.self ≡ replicate a.level 0x23 = search rules in
    (heading-written a.out.now a.text.now a.at a.level (hashes_written a.out.now a.at a.level 0x23 (omega arith)) (rw (n, f) at c.copy.ensures.0), omega arith)
