-- Laws of `specs/Row.antt` and `specs/Sheet.antt`: a row from its last byte to its first, events written one after the other, the places that they move on to,
-- and the listing that they leave. Assumes nothing.
use Prim.Native.Nat.{ℕ, ◌+◌, ◌-◌, ◌≤◌, ◌<◌}
use native.Mathlib.Numerals.{add-one}
use native.Mathlib.Omega.{arith}
use borrow.Author.Tests.{le-leb}
use mathlib.Core.Path.{◌≡◌, refl, sym, ap, ◌∙◌}
use mathlib.Core.List.{List, [], ◌∷◌, ◌++◌, append_assoc, reverse}
use Rattle.std.proofs.lemmas.List.{get_or-reverse, get_or_default}
use lib.ListN.{length, drop, get_or, set, length-append, drop_of_length-le}
use lib.Seq.{sets, length-sets, drop-cons}
use Rattle.text.specs.Lines.{LF}
use Rattle.buffer.specs.Decimal.{decimal}
use Rattle.buffer.proofs.BufferLaws.{set_before, sets_append, sets_comm}
use Rattle.rows.specs.Row.{cells, row, span_rows, region_rows, problem_rows}
use Rattle.rows.specs.Sheet.{TOP, add, put_at, Sheet, sheet, write, written}
use Rattle.scan.specs.declared.event.Event.{Event}
use Rattle.scan.specs.declared.event.Event.TheVariants.{OfSpan, OfRegion, OfProblem}
use Rattle.rows.specs.declared.Places.{Places}

-- the fields from field i on
cells_more : (fields : List ℕ) (i : ℕ) → i < length fields → cells (drop i fields) ≡ 0x09 ∷ (decimal (get_or fields i 0) ++ cells (drop (i + 1) fields))
unfolding cells
cells_more fields i h = rw (drop-cons fields i 0 h, add-one)

-- behind the fields stands LF
pub row-end : (l fields : List ℕ) → 0 < length l → drop (length l - 1) (set l (length l - 1) LF) ≡ cells (drop (length fields - 0) fields) ++ (LF ∷ [])
unfolding cells
row-end l fields n =
    let m : length l ≤ length l = omega arith in
    let z : length fields ≤ length fields - 0 = omega arith in
    rw (drop_of_length-le fields z) (set_before l (length l) LF n m ∙ ap (λ (x : List ℕ). LF ∷ x) (drop_of_length-le l m))

-- the field before the last n fields stands before place i, where those and LF stand, and then a tab before it
pub row-field : (l m fields : List ℕ) (n i r x : ℕ) → n < length fields → x ≡ get_or (reverse fields) n x → 0 < r → r ≤ length m
    → drop r m ≡ decimal x ++ drop i l → drop i l ≡ cells (drop (length fields - n) fields) ++ (LF ∷ [])
    → drop (r - 1) (set m (r - 1) 0x09) ≡ cells (drop (length fields - (n + 1)) fields) ++ (LF ∷ [])
row-field l m fields n i r x h f o p d e =
    let j : ℕ = length fields - (n + 1) in
    let k : length fields - 1 - n ≡ j = omega arith in
    let q : length fields - n ≡ j + 1 = omega arith in
    let y : x ≡ get_or fields j 0 = f ∙ get_or-reverse fields n x h ∙ ap (λ (z : ℕ). get_or fields z x) k ∙ get_or_default fields j x 0 (omega arith) in
    set_before m r 0x09 o p
    ∙ ap (λ (z : List ℕ). 0x09 ∷ z) (d ∙ ap (λ (z : List ℕ). decimal x ++ z) (e ∙ ap (λ (z : ℕ). cells (drop z fields) ++ (LF ∷ [])) q) ∙ sym (append_assoc (decimal x) (cells (drop (j + 1) fields)) (LF ∷ [])))
    ∙ ap (λ (z : ℕ). 0x09 ∷ (decimal z ++ cells (drop (j + 1) fields) ++ (LF ∷ []))) y
    ∙ ap (λ (z : List ℕ). z ++ (LF ∷ [])) (sym (cells_more fields j (omega arith)))

-- bytes go where they fit
pub put_fitting : (a : ℕ) (b out : List ℕ) → a + length b ≤ length out → put_at a b out ≡ sets out a b
put_fitting a b out h = rw (le-leb (a + length b) (length out) h)

pub written-append : (a b : List Event) (t : Sheet) → written (a ++ b) t ≡ written b (written a t)
unfolding written
written-append [] b t = refl
written-append (e ∷ a) b t = written-append a b (write e t)

abbrev pub places : ℕ → ℕ → ℕ → Places
places p q r = record { spans = p; regions = q; problems = r }

-- each place moves on by the rows of its kind
pub moved : (es : List Event) (p q r : ℕ) (b : List ℕ) → p ≤ TOP → q ≤ TOP → r ≤ TOP
    → (written es (sheet (places p q r) b)).at
    ≡ places (add p (length (span_rows es))) (add q (length (region_rows es))) (add r (length (problem_rows es)))
unfolding written write span_rows region_rows problem_rows
moved [] p q r b h i j =
    ap (λ (n : ℕ). places n q r) (omega arith)
    ∙ ap (λ (n : ℕ). places (add p 0) n r) (omega arith)
    ∙ ap (λ (n : ℕ). places (add p 0) (add q 0) n) (omega arith)
moved (OfSpan x ∷ es) p q r b h i j =
    moved es (add p (length (row (OfSpan x)))) q r (put_at p (row (OfSpan x)) b) (omega arith) i j
    ∙ ap (λ (n : ℕ). places n (add q (length (region_rows es))) (add r (length (problem_rows es)))) (omega (arith, length-append (row (OfSpan x)) (span_rows es)))
moved (OfRegion g ∷ es) p q r b h i j =
    moved es p (add q (length (row (OfRegion g)))) r (put_at q (row (OfRegion g)) b) h (omega arith) j
    ∙ ap (λ (n : ℕ). places (add p (length (span_rows es))) n (add r (length (problem_rows es)))) (omega (arith, length-append (row (OfRegion g)) (region_rows es)))
moved (OfProblem l k ∷ es) p q r b h i j =
    moved es p q (add r (length (row (OfProblem l k)))) (put_at r (row (OfProblem l k)) b) h i (omega arith)
    ∙ ap (λ (n : ℕ). places (add p (length (span_rows es))) (add q (length (region_rows es))) n) (omega (arith, length-append (row (OfProblem l k)) (problem_rows es)))

-- where the rows of each kind end before those of the next begin, they stand at the three places
pub rows : (es : List Event) (p q r : ℕ) (b : List ℕ) → p + length (span_rows es) ≤ q → q + length (region_rows es) ≤ r
    → r + length (problem_rows es) ≤ length b → length b < TOP
    → (written es (sheet (places p q r) b)).bytes ≡ sets (sets (sets b p (span_rows es)) q (region_rows es)) r (problem_rows es)
unfolding written write span_rows region_rows problem_rows
rows [] p q r b h i j k = refl
rows (OfSpan x ∷ es) p q r b h i j k =
    let w : List ℕ = row (OfSpan x) in
    let n = length-append w (span_rows es) in
    let m = length-sets b p w in
    ap (λ (a : ℕ). (written es (sheet (places a q r) (put_at p w b))).bytes) (omega arith)
    ∙ ap (λ (l : List ℕ). (written es (sheet (places (p + length w) q r) l)).bytes) (put_fitting p w b (omega arith))
    ∙ rows es (p + length w) q r (sets b p w) (omega arith) i (omega arith) (omega arith)
    ∙ ap (λ (l : List ℕ). sets (sets l q (region_rows es)) r (problem_rows es)) (sets_append b w (span_rows es) p)
rows (OfRegion g ∷ es) p q r b h i j k =
    let w : List ℕ = row (OfRegion g) in
    let n = length-append w (region_rows es) in
    let m = length-sets b q w in
    let d : List ℕ = sets b p (span_rows es) in
    ap (λ (a : ℕ). (written es (sheet (places p a r) (put_at q w b))).bytes) (omega arith)
    ∙ ap (λ (l : List ℕ). (written es (sheet (places p (q + length w) r) l)).bytes) (put_fitting q w b (omega arith))
    ∙ rows es p (q + length w) r (sets b q w) (omega arith) (omega arith) (omega arith) (omega arith)
    ∙ ap (λ (l : List ℕ). sets (sets l (q + length w) (region_rows es)) r (problem_rows es)) (sym (sets_comm b (span_rows es) w p q h))
    ∙ ap (λ (l : List ℕ). sets l r (problem_rows es)) (sets_append d w (region_rows es) q)
rows (OfProblem l y ∷ es) p q r b h i j k =
    let w : List ℕ = row (OfProblem l y) in
    let n = length-append w (problem_rows es) in
    let m = length-sets b r w in
    let d : List ℕ = sets b p (span_rows es) in
    ap (λ (a : ℕ). (written es (sheet (places p q a) (put_at r w b))).bytes) (omega arith)
    ∙ ap (λ (l : List ℕ). (written es (sheet (places p q (r + length w)) l)).bytes) (put_fitting r w b (omega arith))
    ∙ rows es p q (r + length w) (sets b r w) h (omega arith) (omega arith) (omega arith)
    ∙ ap (λ (l : List ℕ). sets (sets l q (region_rows es)) (r + length w) (problem_rows es)) (sym (sets_comm b (span_rows es) w p r (omega arith)))
    ∙ ap (λ (l : List ℕ). sets l (r + length w) (problem_rows es)) (sym (sets_comm d (region_rows es) w q r i))
    ∙ sets_append (sets d q (region_rows es)) w (problem_rows es) r
