-- Laws for `listing::listing`: what a scan that was measured and logged tells of the listing, and the rows written by it. Assumes nothing.
use Prim.Native.Nat.{ℕ, ◌+◌, ◌≤◌, ◌<◌, ◌^◌, zero-le}
use native.Mathlib.Nat.{zero-add}
use native.Mathlib.Numerals.{add-one}
use native.Mathlib.Omega.{arith}
use mathlib.Core.Path.{◌≡◌, sym, ap, ◌∙◌}
use mathlib.Core.Bool.{true}
use mathlib.Core.List.{List, [], ◌++◌, map}
use lib.ListN.{length, take, drop, get_or, length-append, drop_of_length-le}
use lib.Seq.{sets, sets-eq, drop-cons}
use Rattle.buffer.proofs.BufferLaws.{sets_append}
use Rattle.scan.specs.Scan.{scan}
use Rattle.rows.specs.Row.{span_rows, region_rows, problem_rows}
use Rattle.rows.specs.Sheet.{TOP, add, Sheet, sheet, write, written, behind}
use Rattle.event_log.specs.Log.{Log, unpacked}
use Rattle.event_log.specs.Sink.{Held, held, put_all}
use Rattle.rows.specs.declared.Places.{Places}
use Rattle.event_log.specs.declared.sink.Sink.{Sink}
use Rattle.rows.proofs.SheetLaws.{places, moved, rows}
use Rattle.event_log.proofs.SinkLaws.{all_sheet, all_rows, all_within}
use Rattle.listing.specs.Listing.{listing}

pub listing-length : (s : List ℕ)
    → length (listing s) ≡ length (span_rows (scan s)) + (length (region_rows (scan s)) + length (problem_rows (scan s)))
unfolding listing
listing-length s = simp length-append

-- the whole listing written at the front
pub front : (s out : List ℕ) → length (listing s) ≤ length out → sets out 0 (listing s) ≡ listing s ++ drop (length (listing s)) out
front s out h = sets-eq (listing s) out 0 (omega arith) ∙ ap (λ (a : ℕ). listing s ++ drop a out) (zero-add (length (listing s)))

-- a listing that fits is what a text's events leave, where its rows are placed one kind directly behind the other
pub listed : (s out : List ℕ) (q r : ℕ) → length (listing s) ≤ length out → length out < TOP
    → q ≡ length (span_rows (scan s)) → r ≡ q + length (region_rows (scan s))
    → (written (scan s) (sheet (places 0 q r) out)).bytes ≡ listing s ++ drop (length (listing s)) out
unfolding listing
listed s out q r h k i j =
    let x : List ℕ = span_rows (scan s) in
    let y : List ℕ = region_rows (scan s) in
    let z : List ℕ = problem_rows (scan s) in
    let n = listing-length s in
    rows (scan s) 0 q r out (omega arith) (omega arith) (omega arith) k
    ∙ ap (λ (a : ℕ). sets (sets (sets out 0 x) a y) r z) i
    ∙ ap (λ (a : ℕ). sets (sets (sets out 0 x) (length x) y) a z) (j ∙ ap (λ (a : ℕ). a + length y) i)
    ∙ sets_append (sets out 0 x) y z (length x)
    ∙ ap (λ (a : ℕ). sets (sets out 0 x) a (y ++ z)) (sym (zero-add (length x)))
    ∙ sets_append out x (y ++ z) 0
    ∙ front s out h

-- the words of a log from place i on
module _ (words : List ℕ) (i : ℕ) (t : Sheet) where
  pub logged_more : i < length words → written (map unpacked (drop (i + 1) words)) (write (unpacked (get_or words i 0)) t) ≡ written (map unpacked (drop i words)) t
  unfolding written
  logged_more k = rw (drop-cons words i 0 k, add-one)

  pub logged_end : length words ≤ i → written (map unpacked (drop i words)) t ≡ t
  unfolding written
  logged_end k = rw (drop_of_length-le words k)

-- sums that stop at TOP, and those that did not
sum_le : (a b c n x y z : ℕ) → n ≡ add (add a b) c → a ≡ add 0 x → b ≡ add 0 y → c ≡ add 0 z → n ≤ x + (y + z)
sum_le a b c n x y z e p q r = omega arith

sum_small : (a b c n x y z : ℕ) → n ≡ add (add a b) c → a ≡ add 0 x → b ≡ add 0 y → c ≡ add 0 z → n < 2 ^ 63
    → (a ≡ x) × ((b ≡ y) × ((c ≡ z) × (n ≡ x + (y + z))))
sum_small a b c n x y z e p q r h = (omega arith, (omega arith, (omega arith, omega arith)))

abbrev pub zero_places : Places
zero_places = places 0 0 0

abbrev pub from : List ℕ → Held
from log = record { sheet = sheet zero_places []; log = record { buffer = log; words = 0; whole = true } }

-- a scan that was put into a log and an empty buffer, to end
module _ (s log : List ℕ) (end : Sink) (e : held end ≡ put_all (scan s) (from log)) where
  counted : end.at ≡ places (add 0 (length (span_rows (scan s)))) (add 0 (length (region_rows (scan s)))) (add 0 (length (problem_rows (scan s))))
  counted =
      ap (λ (t : Held). t.sheet.at) e
      ∙ ap (λ (t : Sheet). t.at) (all_sheet (scan s) (from log))
      ∙ moved (scan s) 0 0 0 [] zero-le zero-le zero-le

  pub logged : end.kept.whole ≡ true → (t : Sheet) → written (map unpacked (take end.kept.words end.log.now)) t ≡ written (scan s) t
  unfolding written
  logged h t =
      ap (λ (u : Held). written (map unpacked (take u.log.words u.log.buffer)) t) e
      ∙ all_rows (scan s) (from log) t (ap (λ (u : Held). u.log.whole) (sym e) ∙ h)

  pub within : end.kept.words ≤ length end.log.now
  within = rw (← ap (λ (u : Held). u.log.words) e, ← ap (λ (u : Held). u.log.buffer) e) at (all_within (scan s) (from log) zero-le)

  -- n is the count of the listing's bytes
  module _ (out : List ℕ) (n : ℕ) (en : n ≡ add (behind end.at).problems end.at.problems) (fo : length out < 2 ^ 63) where
    spans : end.at.spans ≡ add 0 (length (span_rows (scan s)))
    spans = ap (λ (p : Places). p.spans) counted

    regions : end.at.regions ≡ add 0 (length (region_rows (scan s)))
    regions = ap (λ (p : Places). p.regions) counted

    problems : end.at.problems ≡ add 0 (length (problem_rows (scan s)))
    problems = ap (λ (p : Places). p.problems) counted

    small : n ≤ length out → (end.at.spans ≡ length (span_rows (scan s))) × ((end.at.regions ≡ length (region_rows (scan s))) × ((end.at.problems ≡ length (problem_rows (scan s))) × (n ≡ length (span_rows (scan s)) + (length (region_rows (scan s)) + length (problem_rows (scan s))))))
    small h = sum_small end.at.spans end.at.regions end.at.problems n _ _ _ en spans regions problems (omega arith)

    pub exact : n ≤ length out → n ≡ length (listing s)
    exact h = (small h).1.1.1 ∙ sym (listing-length s)

    pub short : length out < n → length out < length (listing s)
    short h = omega (arith, sum_le end.at.spans end.at.regions end.at.problems n _ _ _ en spans regions problems, listing-length s)

    -- the rows at the places behind each other
    pub written_out : n ≤ length out → (written (scan s) (sheet (behind end.at) out)).bytes ≡ listing s ++ drop (length (listing s)) out
    written_out h =
        let k = small h in
        listed s out end.at.spans (add end.at.spans end.at.regions) (omega (arith, exact h)) (omega arith) k.0 (omega (arith, k))

    pub written-log : n ≤ length out → end.kept.whole ≡ true
        → (written (map unpacked (take end.kept.words end.log.now)) (sheet (behind end.at) out)).bytes ≡ listing s ++ drop (length (listing s)) out
    written-log h w = ap (λ (t : Sheet). t.bytes) (logged w (sheet (behind end.at) out)) ∙ written_out h

    pub written_again : (l : Log) (more : Sink) → n ≤ length out
        → held more ≡ put_all (scan s) (record { sheet = sheet (behind end.at) out; log = l }) → more.out.now ≡ listing s ++ drop (length (listing s)) out
    written_again l more h q =
        ap (λ (t : Held). t.sheet.bytes) q
        ∙ ap (λ (t : Sheet). t.bytes) (all_sheet (scan s) (record { sheet = sheet (behind end.at) out; log = l }))
        ∙ written_out h

-- what the proof of `put_logged` applies
pub ruleset logging = (logged_more, logged_end)
