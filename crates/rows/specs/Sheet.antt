-- Rows written into one buffer at three places, one a kind. Nothing here is document 01's: inner functions promise it, and the laws of `proofs/` tie it to the listing.
use Rattle.std.specs.Prelude.{ℕ, ◌+◌, min, cond, List, [], ◌∷◌, length, leb}
use Rattle.std.proofs.lemmas.List.Edits.{sets}
use Rattle.rows.specs.Row.{row}
use Rattle.scan.specs.declared.event.Event.{Event}
use Rattle.scan.specs.declared.event.Event.TheVariants.{OfSpan, OfRegion, OfProblem}
use Rattle.rows.specs.declared.Places.{Places}

-- the largest place, at which places stop counting
abbrev pub TOP : ℕ
TOP = 0xFFFF_FFFF_FFFF_FFFF

abbrev pub add : ℕ → ℕ → ℕ
add a n = min (a + n) TOP

-- a buffer after the bytes b were written at place a, if they fit there
abbrev pub put_at : ℕ → List ℕ → List ℕ → List ℕ
put_at a b out = cond (leb (a + length b) (length out)) (sets out a b) out

pub record Sheet : Type 0 where
  pub at : Places
  pub bytes : List ℕ

abbrev pub sheet : Places → List ℕ → Sheet
sheet p b = record { at = p; bytes = b }

-- the row of an event goes to its kind's place, which moves on
unfoldable pub write : Event → Sheet → Sheet
write (OfSpan x) t =
    sheet (record { spans = add t.at.spans (length (row (OfSpan x))); regions = t.at.regions; problems = t.at.problems })
    (put_at t.at.spans (row (OfSpan x)) t.bytes)
write (OfRegion g) t =
    sheet (record { spans = t.at.spans; regions = add t.at.regions (length (row (OfRegion g))); problems = t.at.problems })
    (put_at t.at.regions (row (OfRegion g)) t.bytes)
write (OfProblem n k) t =
    sheet (record { spans = t.at.spans; regions = t.at.regions; problems = add t.at.problems (length (row (OfProblem n k))) })
    (put_at t.at.problems (row (OfProblem n k)) t.bytes)

unfoldable pub written : List Event → Sheet → Sheet
written [] t = t
written (e ∷ es) t = written es (write e t)

-- the places of rows of these lengths, one kind directly behind the other
abbrev pub behind : Places → Places
behind n = record { spans = 0; regions = n.spans; problems = add n.spans n.regions }
