-- Events as words in a log. Nothing here is document 01's: inner functions promise it, and the laws of `proofs/` say that a whole log has what the rows show.
use Rattle.std.specs.Prelude.{ℕ, ◌+◌, ◌*◌, ◌-◌, ◌/◌, ◌%◌, Bool, true, false, cond, not, ◌&&◌, List, map, length, take, set, eqb, ltb, Option, Some, None}
use Rattle.event_log.specs.declared.word.Kept.{Kept}
use Rattle.marker.specs.Problems.{number_of, of_number}
use Rattle.text.specs.declared.part.Part.{Part}
use Rattle.scan.specs.declared.event.LineStart.{LineStart}
use Rattle.scan.specs.declared.event.Span.{Span}
use Rattle.scan.specs.declared.event.Region.{Region}
use Rattle.scan.specs.declared.event.Event.{Event}
use Rattle.scan.specs.declared.event.Event.TheVariants.{OfSpan, OfRegion, OfProblem}

-- a word of a kind (2 bits), a line (18), a place (22) and two short numbers (11 each), and what it is read back as
unfoldable pub word : ℕ → ℕ → ℕ → ℕ → ℕ → ℕ
word kind line place a b = (((line % 262144 * 4194304 + place % 4194304) * 2048 + a % 2048) * 2048 + b % 2048) * 4 + kind % 4

unfoldable pub span_at : ℕ → Span
span_at w = record {
  line = w / 70368744177664;
  spec = record { start = w / 16777216 % 4194304; end = w / 16777216 % 4194304 + w / 8192 % 2048 };
  text = record { start = w / 16777216 % 4194304 + w / 8192 % 2048 + 4; end = w / 16777216 % 4194304 + w / 8192 % 2048 + 4 + w / 4 % 2048 };
}

unfoldable pub region_at : ℕ → Region
region_at w = record {
  opener = record { line = w / 70368744177664; at = 0 };
  closer = record { line = w / 70368744177664 + w / 4 % 2048; at = 0 };
  path = record { start = w / 16777216 % 4194304; end = w / 16777216 % 4194304 + w / 8192 % 2048 };
  peer = eqb (w % 4) 2;
}

unfoldable pub unpacked : ℕ → Event
unpacked w =
    cond (eqb (w % 4) 0) (OfSpan (span_at w))
    (cond (eqb (w % 4) 3) (OfProblem (w / 70368744177664) (of_number (w / 4 % 2048)))
    (OfRegion (region_at w)))

abbrev pub region_kind : Bool → ℕ
region_kind true = 2
region_kind false = 1

-- the word of an event, where it gives back all that the event's row shows
unfoldable pub gap : ℕ → ℕ → ℕ
gap a b = b % 2048 + 2048 - a % 2048

unfoldable pub span_word : Span → ℕ
span_word x = word 0 x.line x.spec.start (gap x.spec.start x.spec.end) (gap x.text.start x.text.end)

unfoldable pub region_word : Region → ℕ
region_word g = word (region_kind g.peer) g.opener.line g.path.start (gap g.path.start g.path.end) (gap g.opener.line g.closer.line)

abbrev pub event_word : Event → ℕ
event_word (OfSpan x) = span_word x
event_word (OfRegion g) = region_word g
event_word (OfProblem n k) = word 3 n 0 0 (number_of k)

-- an event as its row shows it: the lines of a region's markers, and not where they start
abbrev pub shown : Event → Event
shown (OfRegion g) = OfRegion (record { opener = record { line = g.opener.line; at = 0 }; closer = record { line = g.closer.line; at = 0 }; path = g.path; peer = g.peer })
shown e = e

abbrev pub same_part : Part → Part → Bool
same_part p q = eqb p.start q.start && eqb p.end q.end

abbrev pub same_start : LineStart → LineStart → Bool
same_start p q = eqb p.line q.line && eqb p.at q.at

abbrev pub same_event : Event → Event → Bool
same_event (OfSpan x) (OfSpan y) = eqb x.line y.line && (same_part x.spec y.spec && same_part x.text y.text)
same_event (OfRegion g) (OfRegion h) = same_start g.opener h.opener && (same_start g.closer h.closer && (same_part g.path h.path && cond g.peer h.peer (not h.peer)))
same_event (OfProblem n k) (OfProblem m j) = eqb n m && eqb (number_of k) (number_of j)
same_event e f = false

unfoldable pub packed : Event → Option ℕ
packed e = cond (same_event (unpacked (event_word e)) (shown e)) (Some (event_word e)) None

-- a log: its buffer, how many words it has, and whether every event so far is among them
pub record Log : Type 0 where
  pub buffer : List ℕ
  pub words : ℕ
  pub whole : Bool

abbrev pub log_of : Kept → List ℕ → Log
log_of k b = record { buffer = b; words = k.words; whole = k.whole }

abbrev pub events : Log → List Event
events l = map unpacked (take l.words l.buffer)

abbrev pub added : Option ℕ → ℕ → List ℕ → Log
added (Some w) n b = record { buffer = set b n w; words = n + 1; whole = true }
added None n b = record { buffer = b; words = n; whole = false }

unfoldable pub note : Event → Log → Log
note e l =
    cond (l.whole && ltb l.words (length l.buffer)) (added (packed e) l.words l.buffer)
    (record { buffer = l.buffer; words = l.words; whole = false })
