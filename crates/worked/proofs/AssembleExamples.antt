-- Assemblies on bytes: refusals 16 to 19, each beside an assembly that is given; what is dropped, and which links are rewritten. Assumes nothing.
use Prim.Native.Nat.{ℕ, ◌*◌, ◌+◌}
use Prim.Native.String.{String}
use mathlib.Core.List.{List, ◌++◌}
use mathlib.Core.Path.{◌≡◌, refl}
use lib.ListN.{length}
use Rattle.answer.specs.Answer.{place}
use Rattle.answer.specs.declared.Refusal.TheVariants.{HeadingLevel, TextLimit, NoTitle, SharedAnchor}
use Rattle.text.specs.Ascii.{wide_line, lower}
use Rattle.text.specs.Bytes.{any, first, after_last}
use Rattle.text.specs.Lines.{breaks, lines_from}
use Rattle.text.specs.Pattern.{bytes, starts_with, ends_with, equals, find}
use Rattle.text.specs.Space.{is_space, lead, kept, trim_start, trim_end, trim, is_blank}
use Rattle.text.specs.Split.{split, join}
use Rattle.buffer.specs.Decimal.{number_from}
use Rattle.fence.specs.Fences.{opener}
use Rattle.anchor.specs.Anchor.{markup_after, stands, is_linked, cut_from, word_follows, plain_from, anchor_of, slug, plain_end_from}
use Rattle.heading.specs.Contents.{is_lowered, is_contents, drops}
use Rattle.heading.specs.Level.{shallowest_of}
use Rattle.heading.specs.Walk.{hashes, text_start, text_end, heading_of, closes, opens_comment, written_kind, comment_after, outside_kind, outside_after, step_kind, step_after, kinds_from}
use Rattle.path.specs.Path.{step, walked, resolve}
use Rattle.link.specs.Links.{relink, relink_open, relink_target}
use Rattle.link.specs.Target.{target_of, rewrite_target}
use Rattle.index.specs.Index.{is_name, field_of, line_of, ill_formed_from, records, records_from, files_from, first_named}
use Rattle.index.specs.Records.{past_from, twice_from, wide_from}
use Rattle.fileset.specs.Members.{names, absent_from, members_from}
use Rattle.fileset.specs.Check.{index_checked, book_checked}
use Rattle.walk.specs.Steps.{go, judge}
use Rattle.walk.specs.Outcome.{Outcome, text, refusal}
use Rattle.shift.specs.Shift.{told_from, past_from as headingsPast, up_to}
use Rattle.member.specs.Member.{without_contents, prepared_lines, title_of, prepare, movable}
use Rattle.earlier.specs.Earlier.{line_of as anchorLine, earlier}
use Rattle.shared.specs.Shared.{shared_in, shared_from}
use Rattle.target.specs.Titles.{title_named}
use Rattle.emitted.specs.Emit.{emit}
use Rattle.assembled.specs.Assemble.{prepare_all, emit_all, assemble}
use Rattle.book.specs.Calls.{assemble_outcome}

-- an assembly with buffers of just the size that L asks for
abbrev assemble_of : List ℕ → String → String → ℕ → Outcome
assemble_of index contents list L = assemble_outcome index (bytes contents) (bytes list) (bytes "u/") L L ((length (records index) + length (names (bytes list)) + 2) * L)

-- one member, and two, of which the first has three bytes
abbrev one : String → ℕ → String → Outcome
one size L t = assemble_of (bytes "a\t0\t" ++ bytes size ++ bytes "\n") t "a\n" L

abbrev two : String → String → ℕ → String → Outcome
two size list L ts = assemble_of (bytes "a\t0\t3\nb\t3\t" ++ bytes size ++ bytes "\n") ts list L

abbrev pub Examples : Type 0
Examples =
    -- 17: none; for the last LF, at the last member of the list; at a member, and at the first
    (two "5" "a\nb\n" 16 "# T# U\nV" ≡ text (bytes "# T\n\n---\n\n# U\nV\n") 0)
    × ((two "5" "a\nb\n" 15 "# T# U\nV" ≡ refusal (TextLimit (place 2 0)))
    × ((two "5" "b\na\n" 15 "# T# U\nV" ≡ refusal (TextLimit (place 1 0)))
    × ((two "5" "a\nb\n" 14 "# T# U\nV" ≡ refusal (TextLimit (place 2 0)))
    × ((two "5" "b\na\n" 4 "# T# U\nV" ≡ refusal (TextLimit (place 2 0)))
    -- 16 at the prepared line, before 17, and one level less: contents are dropped, and a title is not shifted
    × ((one "29" 1 "## Contents\n# T\n# U\n###### V\n" ≡ refusal (HeadingLevel (place 1 3)))
    × ((one "28" 18 "## Contents\n# T\n# U\n##### V\n" ≡ text (bytes "# T\n## U\n###### V\n") 0)
    -- 18, and an H1 in its place; all members are prepared before any is put
    × ((one "4" 9 "## T" ≡ refusal (NoTitle 1))
    × ((one "3" 4 "# T" ≡ text (bytes "# T\n") 0)
    × ((two "4" "a\nb\n" 1 "# T## U" ≡ refusal (NoTitle 2))
    -- 19 with both places, and another anchor in its place; all members are compared before any is put
    × ((two "8" "a\nb\n" 99 "# T# U\n## t" ≡ refusal (SharedAnchor (place 2 2) (place 1 1)))
    × ((two "8" "a\nb\n" 19 "# T# U\n## v" ≡ text (bytes "# T\n\n---\n\n# U\n## v\n") 0)
    × ((two "16" "a\nb\n" 1 "# T# T\n# U\n###### V" ≡ refusal (SharedAnchor (place 2 1) (place 1 1)))
    -- an anchor twice in one member is no 19, nor is it in a member that is listed twice
    × ((assemble_of (bytes "a\t0\t7\n") "# T\n# T" "a\na\n" 24 ≡ text (bytes "# T\n## T\n\n---\n\n# T\n## T\n") 0)
    -- 17 at a member before 16 at a later one
    × ((two "16" "a\nb\n" 2 "# T# U\n# V\n###### W" ≡ refusal (TextLimit (place 1 0)))
    -- a blank line at the start is kept; a title is left as it is; a link to a member keeps its fragment
    × ((one "17" 18 "\n#   T \n[x](a#k)\n\n" ≡ text (bytes "\n#   T \n[x](#k)\n") 0)
    -- links: none in a fence; to a member by its title, and to another file by the URL
    × (two "31" "a\nb\na\n" 99 "# T# U\n```\n[x](a)\n```\n[x](a)[y](c)" ≡ text (bytes "# T\n\n---\n\n# U\n```\n[x](a)\n```\n[x](#t)[y](u/blob/main/c)\n\n---\n\n# T\n") 0))))))))))))))))

pub examples : Examples
unfolding wide_line lower any first after_last breaks lines_from starts_with ends_with equals find is_space lead kept trim_start trim_end trim is_blank split join number_from opener markup_after stands is_linked cut_from word_follows plain_from anchor_of slug plain_end_from is_lowered is_contents drops shallowest_of hashes text_start text_end heading_of closes opens_comment written_kind comment_after outside_kind outside_after step_kind step_after kinds_from step walked resolve relink relink_open relink_target target_of rewrite_target is_name field_of line_of ill_formed_from records_from files_from first_named past_from twice_from wide_from absent_from members_from index_checked book_checked go judge told_from headingsPast up_to without_contents prepared_lines title_of prepare movable anchorLine earlier shared_in shared_from title_named emit prepare_all emit_all assemble assemble_outcome
examples = (refl, (refl, (refl, (refl, (refl, (refl, (refl, (refl, (refl, (refl, (refl, (refl, (refl, (refl, (refl, (refl, refl))))))))))))))))
