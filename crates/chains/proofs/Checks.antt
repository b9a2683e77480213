-- Document 01, on the definitions: K7, K8 and K9 of "Gauging checks", and running texts that a fault leaves unmade. Assumes nothing.
use Prim.Native.Nat.{ℕ}
use Prim.Native.String.{String}
use mathlib.Core.List.{List, [], ◌∷◌, ◌++◌}
use mathlib.Core.Path.{◌≡◌, refl}
use Rattle.answer.specs.Answer.{place}
use Rattle.answer.specs.declared.Refusal.TheVariants.{HeadingLevel}
use Rattle.text.specs.Pattern.{bytes}
use Rattle.index.specs.Index.{file_of}
use Rattle.walk.specs.Steps.{Judged, given, refused}
use Rattle.chains.specs.Chains.{start_at, running}
use Rattle.text.specs.Bytes.{first, after_last}
use Rattle.text.specs.Lines.{breaks, lines_from}
use Rattle.text.specs.Pattern.{starts_with, ends_with, equals, find}
use Rattle.text.specs.Space.{is_space, lead, kept, trim_start, trim_end, trim, is_blank}
use Rattle.text.specs.Split.{split, join}
use Rattle.marker.specs.Marker.{path_of, named_of, rest_of, alone_of, fragment_of, text_of, spec_of, mark_of, first_of, next_mark, fragment_kind, marked_kind, kind_of}
use Rattle.scan.specs.Scan.{read_by, read_from, read_line, span_events, events_of, after, kind_at, last_of, scan_from, scan, regions_of}
use Rattle.heading.specs.Level.{shallowest_of}
use Rattle.fence.specs.Fences.{opener, is_fence}
use Rattle.heading.specs.Walk.{hashes, text_start, text_end, heading_of, closes, opens_comment, written_kind, comment_after, outside_kind, outside_after, step_kind, step_after, kinds_from}
use Rattle.link.specs.Links.{relink, relink_open, relink_target}
use Rattle.path.specs.Path.{step, walked, resolve}
use Rattle.link.specs.Target.{target_of, anchor_self}
use Rattle.index.specs.Index.{first_named}
use Rattle.walk.specs.Steps.{go, judge}
use Rattle.chains.specs.Chains.{next, through, grow, free, running_rest, times_in}
use Rattle.embedding.specs.Embed.{is_marker, unmarked_from, embedded_lines, embed_told, embed}
use Rattle.chains.specs.Fill.{walk, walk_rest}
use Rattle.regions.specs.Regions.{problems_of, is_within, blanked_from, last_level, regions_from, scanned}
use Rattle.shift.specs.Shift.{told_from, past_from, up_to, blanks}

-- a host is filled that may take in one file, `b.md`
abbrev fill_of : List ℕ → String → Judged (List ℕ)
fill_of host b = judge 9 1000 0 (walk (start_at (file_of 1 (bytes "b.md") (bytes b) ∷ []) (file_of 0 (bytes "h.md") host)))

-- an H1 host, with lines below its heading that only look like one: in a fence that opens in a comment, in a fence of backticks with tildes in it, and in a region
abbrev region_lines : String → String → List ℕ
region_lines opener old = bytes opener ++ (bytes old ++ bytes "<!--[/]-->\n")

abbrev host_of : String → String → List ℕ
host_of opener old =
    bytes "# A\n<!--\n```\n-->\n## not\n```\n-->\n```\n~~~\n## not\n~~~\n```\n" ++ (region_lines opener old ++ region_lines opener old)

-- K7 H1 host, child file `# B `: `## B`; K8 as peer: `# B`. K9 H1 host, child `# B`, `###### C`: 16, line 2.
abbrev pub Checks : Type 0
Checks =
    (fill_of (host_of "<!--[fragment:b.md]-->\n" "### old\n") "# B " ≡ given (host_of "<!--[fragment:b.md]-->\n" "## B\n") 2)
    × ((fill_of (host_of "<!--[fragment:b.md:peer]-->\n" "### old\n") "# B " ≡ given (host_of "<!--[fragment:b.md:peer]-->\n" "# B\n") 2)
    × (fill_of (host_of "<!--[fragment:b.md]-->\n" "") "# B\n###### C" ≡ refused (HeadingLevel (place 1 2))))

pub checks : Checks
unfolding first after_last breaks lines_from starts_with ends_with equals find is_space lead kept trim_start trim_end trim is_blank split join is_fence path_of named_of rest_of alone_of fragment_of text_of spec_of mark_of first_of next_mark fragment_kind marked_kind kind_of read_by read_from read_line span_events events_of after kind_at last_of scan_from scan regions_of shallowest_of hashes text_start text_end heading_of opener closes opens_comment written_kind comment_after outside_kind outside_after step_kind step_after kinds_from relink relink_open relink_target step walked resolve target_of anchor_self first_named go judge next through grow free times_in is_marker unmarked_from embedded_lines embed_told embed walk walk_rest problems_of is_within blanked_from last_level regions_from scanned told_from past_from up_to blanks
checks = (refl, (refl, refl))

-- the running texts of a host that may take in `b.md`
abbrev running_of : String → List (List ℕ)
running_of host = running (start_at (file_of 1 (bytes "b.md") (bytes "# B") ∷ []) (file_of 0 (bytes "h.md") (bytes host)))

-- "a text that a fault leaves unmade has no further ones": none of a file with 9, whatever regions it has; with 14 at its first region the text through that opener alone
abbrev pub Unmade : Type 0
Unmade =
    (running_of "<!--[fragment:b.md]-->\n<!--[/]-->\n<!--[fragment:b.md]-->\n<!--[fragment:b.md]-->\n<!--[/]-->" ≡ [])
    × (running_of "<!--[fragment:z]-->\n<!--[/]-->\n<!--[fragment:b.md]-->\n<!--[/]-->" ≡ (bytes "<!--[fragment:z]-->" ∷ []))

pub unmade : Unmade
unfolding first after_last breaks lines_from starts_with ends_with equals find is_space lead kept trim_start trim_end trim split join is_fence path_of named_of rest_of alone_of fragment_of first_of fragment_kind marked_kind kind_of events_of after kind_at last_of scan_from scan regions_of first_named next through grow free problems_of regions_from scanned running_rest
unmade = (refl, refl)
