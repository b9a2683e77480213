-- Books on bytes: nested files, the allowance running on, a member kept as it stands, and each of refusals 9 to 19. Assumes nothing.
use Prim.Native.Nat.{ℕ, ◌+◌, ◌*◌}
use Prim.Native.String.{String}
use mathlib.Core.List.{List, ◌++◌}
use lib.ListN.{length}
use mathlib.Core.Path.{◌≡◌, refl}
use Rattle.answer.specs.Answer.{place}
use Rattle.answer.specs.declared.Refusal.TheVariants.{NestedRegion, FragmentMarker, UnclosedRegion, PeerWithoutHeading, OnChain, Absent, Allowance, HeadingLevel, TextLimit, NoTitle, SharedAnchor}
use Rattle.text.specs.Pattern.{bytes}
use Rattle.text.specs.Ascii.{wide_line}
use Rattle.text.specs.Bytes.{any, first, count, after_last}
use Rattle.buffer.specs.Decimal.{number_from}
use Rattle.text.specs.Lines.{breaks, lines_from}
use Rattle.text.specs.Pattern.{starts_with, ends_with, equals, find}
use Rattle.text.specs.Space.{is_space, lead, kept, trim_start, trim_end, trim, is_blank}
use Rattle.text.specs.Split.{split, join}
use Rattle.marker.specs.Marker.{path_of, named_of, rest_of, alone_of, fragment_of, text_of, spec_of, mark_of, first_of, next_mark, fragment_kind, marked_kind, kind_of}
use Rattle.scan.specs.Scan.{read_by, read_from, read_line, span_events, events_of, after, kind_at, last_of, scan_from, scan, regions_of}
use Rattle.anchor.specs.Anchor.{markup_after, stands, is_linked, cut_from, word_follows, plain_from, anchor_of, slug, plain_end_from}
use Rattle.text.specs.Ascii.{lower}
use Rattle.heading.specs.Contents.{is_lowered, is_contents, drops}
use Rattle.heading.specs.Level.{shallowest_of}
use Rattle.fence.specs.Fences.{opener, is_fence}
use Rattle.heading.specs.Walk.{hashes, text_start, text_end, heading_of, closes, opens_comment, written_kind, comment_after, outside_kind, outside_after, step_kind, step_after, kinds_from}
use Rattle.link.specs.Links.{relink, relink_open, relink_target}
use Rattle.path.specs.Path.{step, walked, resolve}
use Rattle.link.specs.Target.{target_of, rewrite_target, anchor_self}
use Rattle.fileset.specs.Check.{index_checked, book_checked}
use Rattle.index.specs.Records.{past_from, twice_from, wide_from}
use Rattle.index.specs.Index.{records, is_name, field_of, line_of, ill_formed_from, records_from, files_from, first_named}
use Rattle.fileset.specs.Members.{names, absent_from, members_from}
use Rattle.walk.specs.Steps.{go, judge}
use Rattle.chains.specs.Chains.{next, through, grow, free}
use Rattle.embedding.specs.Embed.{is_marker, unmarked_from, embedded_lines, embed_told, embed}
use Rattle.chains.specs.Fill.{walk, walk_rest}
use Rattle.regions.specs.Regions.{problems_of, is_within, blanked_from, last_level, regions_from, scanned}
use Rattle.shift.specs.Shift.{told_from, past_from as pastFrom-of-shift, up_to, blanks}
use Rattle.assembled.specs.Assemble.{prepare_all, emit_all, assemble}
use Rattle.member.specs.Member.{without_contents, prepared_lines, title_of, prepare, movable}
use Rattle.earlier.specs.Earlier.{line_of as lineOf-of-assemblyMember, earlier}
use Rattle.shared.specs.Shared.{shared_in, shared_from}
use Rattle.target.specs.Titles.{title_named}
use Rattle.emitted.specs.Emit.{emit}
use Rattle.book.specs.BookWalk.{walk_all, book}
use Rattle.book.specs.Book.{with_texts}
use Rattle.book.specs.Calls.{book_outcome}
use Rattle.walk.specs.Outcome.{Outcome, text, refusal}

-- a book with buffers of just the size that L asks for
abbrev book_of : List ℕ → List ℕ → String → ℕ → ℕ → Outcome
book_of index contents list L B = book_outcome index contents (bytes list) (bytes "https://h/") L B L ((length (records index) + length (names (bytes list)) + 2) * L)

-- `a.md` has a region of `d/b.md`, and `d/b.md` one of `d/c.md`
abbrev nested : ℕ → ℕ → Outcome
nested L B = book_of (bytes "a.md\t0\t67\nd/b.md\t67\t74\nd/c.md\t141\t5\n") (bytes "# A\n\n<!--[fragment:d/b.md]-->\nold\n<!--[/]-->\n## Contents\n- x\n# End\n\n# B\n[s](../a.md#end) [c](c.md)\n<!--[fragment:d/c.md:peer]-->\n<!--[/]-->\n\n# C \n") "a.md\n" L B

-- `b` has a heading, and `a` the text t
abbrev one : String → String → ℕ → ℕ → String → Outcome
one size list L B t = book_of (bytes "b\t0\t4\na\t4\t" ++ bytes size ++ bytes "\n") (bytes "# B\n" ++ bytes t) list L B

abbrev pub Examples : Type 0
Examples =
    -- nested files, each taken in counted; one byte short, at the last LF; one file short, at the opener in the file that was taken in
    (nested 100 2 ≡ text (bytes "# A\n\n<!--[fragment:d/b.md]-->\n### B\n[s](#end) [c](https://h/blob/main/c.md)\n### C\n<!--[/]-->\n## End\n") 2)
    × ((nested 99 2 ≡ refusal (TextLimit (place 1 0)))
    × ((nested 100 1 ≡ refusal (Allowance (place 2 4)))
    -- B runs on through the list: a member that is listed twice takes its file in twice
    × ((one "35" "a\na\n" 99 2 "# A\n<!--[fragment:b]-->\n<!--[/]-->\n" ≡ text (bytes "# A\n<!--[fragment:b]-->\n## B\n<!--[/]-->\n\n---\n\n# A\n<!--[fragment:b]-->\n## B\n<!--[/]-->\n") 2)
    × ((one "35" "a\na\n" 99 1 "# A\n<!--[fragment:b]-->\n<!--[/]-->\n" ≡ refusal (Allowance (place 2 2)))
    -- a member with no region is kept as it stands, also where it is longer than L
    × ((one "20" "a\n" 4 0 "# A\n## Contents\n- b\n" ≡ text (bytes "# A\n") 0)
    × ((one "20" "a\n" 3 0 "# A\n## Contents\n- b\n" ≡ refusal (TextLimit (place 2 0)))
    -- 9, 10 and 11
    × ((one "55" "a\n" 99 9 "# A\n<!--[fragment:b]-->\n<!--[fragment:b]-->\n<!--[/]-->\n" ≡ refusal (NestedRegion (place 2 3)))
    × ((one "37" "a\n" 99 9 "# A\nx <!--[fragment:b]-->\n<!--[/]-->\n" ≡ refusal (FragmentMarker (place 2 2)))
    × ((one "24" "a\n" 99 9 "# A\n<!--[fragment:b]-->\n" ≡ refusal (UnclosedRegion (place 2 2)))
    -- 12; 13: the member itself; 14: in a region, and in the list
    × ((one "40" "a\n" 99 9 "<!--[fragment:b:peer]-->\n<!--[/]-->\n# A\n" ≡ refusal (PeerWithoutHeading (place 2 1)))
    × ((one "35" "a\n" 99 9 "# A\n<!--[fragment:a]-->\n<!--[/]-->\n" ≡ refusal (OnChain (place 2 2)))
    × ((one "35" "a\n" 99 9 "# A\n<!--[fragment:z]-->\n<!--[/]-->\n" ≡ refusal (Absent (place 2 2)))
    × ((one "4" "a\nz\n" 99 9 "# A\n" ≡ refusal (Absent (place 0 2)))
    -- 16: of a file that is taken in, and of a member
    × ((one "44" "a\n" 99 9 "# A\n###### C\n<!--[fragment:b]-->\n<!--[/]-->\n" ≡ refusal (HeadingLevel (place 1 1)))
    × ((one "17" "a\n" 99 9 "# A\n# C\n###### D\n" ≡ refusal (HeadingLevel (place 2 3)))
    -- 18 of a later member before 19; 19 of a heading that was taken in, and another anchor in its place
    × ((one "5" "b\na\n" 99 9 "## B\n" ≡ refusal (NoTitle 2))
    × ((one "35" "b\na\n" 99 9 "# A\n<!--[fragment:b]-->\n<!--[/]-->\n" ≡ refusal (SharedAnchor (place 2 3) (place 1 1)))
    × (one "4" "b\na\n" 99 9 "# A\n" ≡ text (bytes "# B\n\n---\n\n# A\n") 0))))))))))))))))))

pub examples : Examples
unfolding wide_line any first count after_last number_from breaks lines_from starts_with ends_with equals find is_space lead kept trim_start trim_end trim is_blank split join is_fence path_of named_of rest_of alone_of fragment_of text_of spec_of mark_of first_of next_mark fragment_kind marked_kind kind_of read_by read_from read_line span_events events_of after kind_at last_of scan_from scan regions_of markup_after stands is_linked cut_from word_follows plain_from anchor_of slug plain_end_from lower is_lowered is_contents drops shallowest_of hashes text_start text_end heading_of opener closes opens_comment written_kind comment_after outside_kind outside_after step_kind step_after kinds_from relink relink_open relink_target step walked resolve target_of rewrite_target anchor_self past_from twice_from index_checked wide_from book_checked is_name field_of line_of ill_formed_from records_from files_from first_named absent_from members_from go judge next through grow free is_marker unmarked_from embedded_lines embed_told embed walk walk_rest problems_of is_within blanked_from last_level regions_from scanned told_from pastFrom-of-shift up_to blanks prepare_all emit_all assemble without_contents prepared_lines title_of prepare lineOf-of-assemblyMember earlier shared_in shared_from movable title_named emit walk_all with_texts book book_outcome
examples = (refl, (refl, (refl, (refl, (refl, (refl, (refl, (refl, (refl, (refl, (refl, (refl, (refl, (refl, (refl, (refl, (refl, (refl, refl))))))))))))))))))
