-- `listing::listing::list_with` meets its contract: the first scan tells the length and what the log has, and the rows come from the log or from a second scan. Assumes nothing.
use Rattle.listing.proofs.ListingLaws.{within, exact, short, written-log, written_again}
use Rattle.listing.proofs.CallLaws.{fits-answer, fits-output, short-answer}
use Rattle.listing.specs.ScanCall.{output_of}
use native.Mathlib.Omega.{arith}
use lib.ListN.{length}
use lib.Seq.{length-take-le}
use mathlib.Core.Path.{refl, sym}
use Prim.Native.Nat.{◌<◌, ◌^◌}
use Rattle.listing.proofs.listing.list_with.Goals as goal

pub returns-then-out-length : goal.returns-then-out-length
unfolding output_of
returns-then-out-length c =
    let a = c.args in
    let n = c.add-length in
    let p = c.put_scan in
    let e = rw c.behind-places.ensures at n.ensures in
    let h : length a.out.now < 2 ^ 63 = omega (arith, c.well_formed.1.1.0) in
    record { value = short-answer a.s.now a.out.now n.result c.requires (short a.s.now a.log.now p.new.sink p.ensures.held a.out.now n.result e h c.if-out-length.true); out_after = refl }

pub slice_bounds-put_logged-end : goal.slice_bounds-put_logged-end
slice_bounds-put_logged-end c = let p = c.put_scan in grind (arith, within c.args.s.now c.args.log.now p.new.sink p.ensures.held, p.ensures.log_reference)

pub slice_bounds-put_logged-end-then-found : goal.slice_bounds-put_logged-end-then-found
slice_bounds-put_logged-end-then-found c =
    let p = c.put_scan in
    grind (arith, sym (length-take-le _ _ (within c.args.s.now c.args.log.now p.new.sink p.ensures.held)), p.ensures.log_reference)

pub returns-then-found : goal.returns-then-found
returns-then-found c =
    let a = c.args in
    let n = c.add-length in
    let p = c.put_scan in
    let b = c.behind-places.ensures in
    let e = rw b at n.ensures in
    let h : length a.out.now < 2 ^ 63 = omega (arith, c.well_formed.1.1.0) in
    let x = exact a.s.now a.log.now p.new.sink p.ensures.held a.out.now n.result e h c.if-out-length.false in
    let w = written-log a.s.now a.log.now p.new.sink p.ensures.held a.out.now n.result e h c.if-out-length.false c.if-found.true in
    record {
      value = fits-answer a.s.now a.out.now n.result c.requires c.if-out-length.false x;
      out_after = fits-output a.s.now a.out.now n.result c.requires x (grind (arith, rw b at c.put_logged.ensures, w, p.ensures.log_reference));
    }

pub returns : goal.returns
returns c =
    let a = c.args in
    let n = c.add-length in
    let p = c.put_scan in
    let q = c.put_scan-2 in
    let b = c.behind-places.ensures in
    let e = rw b at n.ensures in
    let h : length a.out.now < 2 ^ 63 = omega (arith, c.well_formed.1.1.0) in
    let x = exact a.s.now a.log.now p.new.sink p.ensures.held a.out.now n.result e h c.if-out-length.false in
    let w = written_again a.s.now a.log.now p.new.sink p.ensures.held a.out.now n.result e h _ q.new.sink c.if-out-length.false (rw b at q.ensures.held) in
    record { value = fits-answer a.s.now a.out.now n.result c.requires c.if-out-length.false x; out_after = fits-output a.s.now a.out.now n.result c.requires x (grind (arith, w, q.ensures.out_reference)) }
