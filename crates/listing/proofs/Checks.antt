-- Document 01, "Gauging checks", on the definitions: K1 and K6. Assumes nothing.
use mathlib.Core.Path.{◌≡◌, refl}
use Prim.Native.String.{String}
use Rattle.text.specs.Bytes.{first, after_last}
use Rattle.text.specs.Pattern.{bytes, starts_with, ends_with, equals, find}
use Rattle.text.specs.Space.{is_space, lead, kept, trim_start, trim_end, trim}
use Rattle.text.specs.Lines.{breaks, lines_from}
use Rattle.buffer.specs.Decimal.{digits, decimal}
use Rattle.fence.specs.Fences.{is_fence}
use Rattle.marker.specs.Marker.{path_of, named_of, rest_of, alone_of, fragment_of, text_of, spec_of, mark_of, first_of, next_mark, fragment_kind, marked_kind, kind_of}
use Rattle.scan.specs.Scan.{read_by, read_from, read_line, span_events, events_of, after, kind_at, last_of, scan_from, scan}
use Rattle.rows.specs.Row.{cells, row, span_rows, region_rows, problem_rows}
use Rattle.listing.specs.Listing.{listing}

-- the document's example of a listing's input and output
abbrev pub stage : String
stage = "# Stage\nLimit <!--[const:MAX]-->6 m<!--[/]-->.\n<!--[fragment:a.md:peer]-->\nold\n<!--[/]-->\n<!--[/]-->\n"

abbrev pub rows : String
rows = "span\t2\t19\t28\t32\t35\nregion\t3\t5\t61\t65\t1\nproblem\t6\t6\n"

-- K1 this listing; K6 `<!--[fragment:a:b]-->`: problem 3
abbrev pub Checks : Type 0
Checks =
    (listing (bytes stage) ≡ bytes rows) × (listing (bytes "<!--[fragment:a:b]-->") ≡ bytes "problem\t1\t3\n")

pub checks : Checks
unfolding first after_last starts_with ends_with equals find is_space lead kept trim_start trim_end trim breaks lines_from digits decimal is_fence path_of named_of rest_of alone_of fragment_of text_of spec_of mark_of first_of next_mark fragment_kind marked_kind kind_of read_by read_from read_line span_events events_of after kind_at last_of scan_from scan cells row span_rows region_rows problem_rows listing
checks = (refl, refl)
