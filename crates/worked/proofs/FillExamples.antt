-- Fills on bytes: each of refusals 9 to 17 beside a fill that is given, and where levels come from. Assumes nothing.
use Prim.Native.Nat.{ℕ, ◌*◌, ◌+◌}
use Prim.Native.String.{String}
use mathlib.Core.Path.{◌≡◌, refl}
use lib.ListN.{length}
use Rattle.answer.specs.Answer.{place}
use Rattle.answer.specs.declared.Refusal.TheVariants.{NestedRegion, FragmentMarker, UnclosedRegion, PeerWithoutHeading, OnChain, Absent, Allowance, HeadingLevel, TextLimit}
use Rattle.text.specs.Ascii.{wide_line}
use Rattle.text.specs.Bytes.{any, first, after_last}
use Rattle.text.specs.Lines.{breaks, lines_from}
use Rattle.text.specs.Pattern.{bytes, starts_with, ends_with, equals, find}
use Rattle.text.specs.Space.{is_space, lead, kept, trim_start, trim_end, trim, is_blank}
use Rattle.text.specs.Split.{split, join}
use Rattle.buffer.specs.Decimal.{number_from}
use Rattle.fence.specs.Fences.{opener, is_fence}
use Rattle.marker.specs.Marker.{path_of, named_of, rest_of, alone_of, fragment_of, text_of, spec_of, mark_of, first_of, next_mark, fragment_kind, marked_kind, kind_of}
use Rattle.scan.specs.Scan.{read_by, read_from, read_line, span_events, events_of, after, kind_at, last_of, scan_from, scan, regions_of}
use Rattle.heading.specs.Level.{shallowest_of}
use Rattle.heading.specs.Walk.{hashes, text_start, text_end, heading_of, closes, opens_comment, written_kind, comment_after, outside_kind, outside_after, step_kind, step_after, kinds_from}
use Rattle.path.specs.Path.{step, walked, resolve}
use Rattle.link.specs.Links.{relink, relink_open, relink_target}
use Rattle.link.specs.Target.{target_of, anchor_self}
use Rattle.index.specs.Index.{is_name, field_of, line_of, ill_formed_from, records, records_from, files_from, first_named}
use Rattle.index.specs.Records.{past_from, twice_from, wide_from}
use Rattle.fileset.specs.Check.{index_checked, fill_checked}
use Rattle.walk.specs.Steps.{go, judge}
use Rattle.regions.specs.Regions.{problems_of, is_within, blanked_from, last_level, regions_from, scanned}
use Rattle.shift.specs.Shift.{told_from, past_from as headingsPast, up_to, blanks}
use Rattle.embedding.specs.Embed.{is_marker, unmarked_from, embedded_lines, embed_told, embed}
use Rattle.chains.specs.Chains.{next, through, grow, free}
use Rattle.walk.specs.Outcome.{Outcome, text, noRegion, refusal}
use Rattle.chains.specs.Fill.{walk, walk_rest}
use Rattle.book.specs.Calls.{fill_outcome}

-- a fill with buffers of just the size that L asks for
abbrev fill_of : String → String → String → ℕ → ℕ → String → Outcome
fill_of index contents name L B t = fill_outcome (bytes index) (bytes contents) (bytes name) (bytes t) L B L ((length (records (bytes index)) + 2) * L)

-- `b.md` has a heading
abbrev one : ℕ → ℕ → String → Outcome
one L B t = fill_of "b.md\t0\t4\n" "# B\n" "h.md" L B t

-- `c.md` has a region of `d.md`, and `d.md` one of `c.md`
abbrev circle : ℕ → String → Outcome
circle B t = fill_of "c.md\t0\t34\nd.md\t34\t36\n" "<!--[fragment:d.md]-->\n<!--[/]-->\n\n<!--[fragment:c.md]-->\n<!--[/]-->\n\n" "h.md" 200 B t

abbrev pub Examples : Type 0
Examples =
    -- given, with the file that is taken in counted; no region; one byte short, at the last append; one file short
    (one 47 1 "# A\n<!--[fragment:b.md]-->\nold\n<!--[/]-->\nend\n" ≡ text (bytes "# A\n<!--[fragment:b.md]-->\n## B\n<!--[/]-->\nend\n") 1)
    × ((one 1 0 "# A\n<!--[const:b]-->\n" ≡ noRegion)
    × ((one 46 1 "# A\n<!--[fragment:b.md]-->\nold\n<!--[/]-->\nend\n" ≡ refusal (TextLimit (place 0 0)))
    × ((one 47 0 "# A\n<!--[fragment:b.md]-->\nold\n<!--[/]-->\nend\n" ≡ refusal (Allowance (place 0 2)))
    -- one byte short of the lines up to the opener, and of the embedded lines
    × ((one 25 1 "# A\n<!--[fragment:b.md]-->\n<!--[/]-->\n" ≡ refusal (TextLimit (place 0 2)))
    × ((one 30 1 "# A\n<!--[fragment:b.md]-->\n<!--[/]-->\n" ≡ refusal (TextLimit (place 0 2)))
    -- 9, 10 and 11
    × ((one 99 1 "# A\n<!--[fragment:b.md]-->\n<!--[fragment:b.md]-->\n<!--[/]-->\n" ≡ refusal (NestedRegion (place 0 3)))
    × ((one 99 1 "# A\nx <!--[fragment:b.md]-->\n<!--[/]-->\n" ≡ refusal (FragmentMarker (place 0 2)))
    × ((one 99 1 "# A\n<!--[fragment:b.md]-->\n" ≡ refusal (UnclosedRegion (place 0 2)))
    -- 12: a peer with nothing above, and a region that is none
    × ((one 99 1 "<!--[fragment:b.md:peer]-->\n<!--[/]-->\n" ≡ refusal (PeerWithoutHeading (place 0 1)))
    × ((one 99 1 "<!--[fragment:b.md]-->\n<!--[/]-->\n" ≡ text (bytes "<!--[fragment:b.md]-->\n# B\n<!--[/]-->\n") 1)
    -- 13: the host's own name, and a circle of two files, at the nested file's line; 15 where only one of them may be taken in
    × ((one 99 1 "# A\n<!--[fragment:h.md]-->\n<!--[/]-->\n" ≡ refusal (OnChain (place 0 2)))
    × ((circle 2 "<!--[fragment:c.md]-->\n<!--[/]-->\n" ≡ refusal (OnChain (place 2 2)))
    × ((circle 1 "<!--[fragment:c.md]-->\n<!--[/]-->\n" ≡ refusal (Allowance (place 1 1)))
    -- 14 stands before 15
    × ((one 99 0 "# A\n<!--[fragment:zz]-->\n<!--[/]-->\n" ≡ refusal (Absent (place 0 2)))
    -- 16 stands before 17; its line counts embedded lines
    × ((fill_of "b.md\t0\t17\n" "\n# B\n\n###### C\n\n\n" "h.md" 26 1 "# A\n<!--[fragment:b.md]-->\n<!--[/]-->\n" ≡ refusal (HeadingLevel (place 1 3)))
    -- the first of two headings past level 6; the shallowest heading of the text, not its first, where none is above
    × ((fill_of "b.md\t0\t22\n" "# B\n###### C\n###### D\n" "h.md" 99 1 "# A\n<!--[fragment:b.md]-->\n<!--[/]-->\n" ≡ refusal (HeadingLevel (place 1 2)))
    × (one 99 1 "<!--[fragment:b.md]-->\n<!--[/]-->\n## I\n# J\n" ≡ text (bytes "<!--[fragment:b.md]-->\n# B\n<!--[/]-->\n## I\n# J\n") 1)))))))))))))))))

pub examples : Examples
unfolding wide_line any first after_last number_from breaks lines_from starts_with ends_with equals find is_space lead kept trim_start trim_end trim is_blank split join is_fence path_of named_of rest_of alone_of fragment_of text_of spec_of mark_of first_of next_mark fragment_kind marked_kind kind_of read_by read_from read_line span_events events_of after kind_at last_of scan_from scan regions_of shallowest_of hashes text_start text_end heading_of opener closes opens_comment written_kind comment_after outside_kind outside_after step_kind step_after kinds_from relink relink_open relink_target step walked resolve target_of anchor_self is_name field_of line_of ill_formed_from records_from files_from first_named past_from twice_from wide_from index_checked fill_checked go judge next through grow free is_marker unmarked_from embedded_lines embed_told embed walk walk_rest problems_of is_within blanked_from last_level regions_from scanned told_from headingsPast up_to blanks fill_outcome
examples = (refl, (refl, (refl, (refl, (refl, (refl, (refl, (refl, (refl, (refl, (refl, (refl, (refl, (refl, (refl, (refl, (refl, refl)))))))))))))))))
