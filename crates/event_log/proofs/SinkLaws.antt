-- Laws of `specs/Sink.antt`: what goes into a sink one after the other, its sheet and its log by themselves. Assumes nothing.
use Prim.Native.Nat.{◌≤◌}
use mathlib.Core.Path.{◌≡◌, refl, ap, ◌∙◌}
use mathlib.Core.Bool.{true}
use mathlib.Core.List.{List, [], ◌∷◌, ◌++◌}
use lib.ListN.{length}
use Rattle.rows.specs.Sheet.{Sheet, written}
use Rattle.event_log.specs.Log.{events}
use Rattle.event_log.specs.Sink.{Held, put, put_all}
use Rattle.scan.specs.declared.event.Event.{Event}
use Rattle.event_log.proofs.LogLaws.{note-whole, note-row, note-within}

pub all_append : (a b : List Event) (t : Held) → put_all (a ++ b) t ≡ put_all b (put_all a t)
unfolding put_all
all_append [] b t = refl
all_append (e ∷ a) b t = all_append a b (put e t)

pub all_sheet : (es : List Event) (t : Held) → (put_all es t).sheet ≡ written es t.sheet
unfolding put_all written
all_sheet [] t = refl
all_sheet (e ∷ es) t = all_sheet es (put e t)

-- where the log is whole at the end, its words give the rows of all that was put
all_whole : (es : List Event) (t : Held) → (put_all es t).log.whole ≡ true → t.log.whole ≡ true
unfolding put_all
all_whole [] t h = h
all_whole (e ∷ es) t h = note-whole e t.log (all_whole es (put e t) h)

pub all_rows : (es : List Event) (t : Held) (u : Sheet) → (put_all es t).log.whole ≡ true
    → written (events (put_all es t).log) u ≡ written es (written (events t.log) u)
unfolding put_all written
all_rows [] t u h = refl
all_rows (e ∷ es) t u h = all_rows es (put e t) u h ∙ ap (written es) (note-row e t.log u (all_whole es (put e t) h))

pub all_within : (es : List Event) (t : Held) → t.log.words ≤ length t.log.buffer → (put_all es t).log.words ≤ length (put_all es t).log.buffer
unfolding put_all
all_within [] t h = h
all_within (e ∷ es) t h = all_within es (put e t) (note-within e t.log h)
