-- Document 01, "Gauging checks", on the definitions: K10, K11 and K12. Assumes nothing.
use Prim.Native.Nat.{ℕ}
use mathlib.Core.List.{List, [], ◌∷◌}
use mathlib.Core.Path.{◌≡◌, refl}
use Rattle.text.specs.Pattern.{bytes}
use Rattle.index.specs.Index.{File, file_of}
use Rattle.walk.specs.Steps.{Judged, given}
use Rattle.text.specs.Bytes.{first, after_last}
use Rattle.text.specs.Pattern.{starts_with, ends_with, equals, find}
use Rattle.text.specs.Space.{is_space, lead, kept, trim_start, trim_end, trim, is_blank}
use Rattle.text.specs.Split.{split, join}
use Rattle.anchor.specs.Anchor.{markup_after, stands, is_linked, cut_from, word_follows, plain_from, anchor_of, slug, plain_end_from}
use Rattle.text.specs.Ascii.{lower}
use Rattle.heading.specs.Contents.{is_lowered, is_contents, drops}
use Rattle.heading.specs.Level.{shallowest_of}
use Rattle.fence.specs.Fences.{opener}
use Rattle.heading.specs.Walk.{hashes, text_start, text_end, heading_of, closes, opens_comment, written_kind, comment_after, outside_kind, outside_after, step_kind, step_after, kinds_from}
use Rattle.link.specs.Links.{relink, relink_open, relink_target}
use Rattle.path.specs.Path.{step, walked, resolve}
use Rattle.link.specs.Target.{target_of, rewrite_target, anchor_self}
use Rattle.walk.specs.Steps.{go, judge}
use Rattle.shift.specs.Shift.{told_from, past_from, up_to}
use Rattle.assembled.specs.Assemble.{prepare_all, emit_all, assemble}
use Rattle.member.specs.Member.{without_contents, prepared_lines, title_of, prepare, movable}
use Rattle.earlier.specs.Earlier.{line_of, earlier}
use Rattle.shared.specs.Shared.{shared_in, shared_from}
use Rattle.target.specs.Titles.{title_named}
use Rattle.emitted.specs.Emit.{emit}

abbrev assembly_of : List File → Judged (List ℕ)
assembly_of members = judge 0 1000 0 (assemble (bytes "https://h/") members)

-- K10 empty list: one LF. K11 members `# T` and `# U`, `# V`: `# T`, empty, `---`, empty, `# U`, `## V`, LF. K12 URL `https://h/`, member `docs/a.md`, `../c.md#k`:
-- `https://h/blob/main/c.md#k`.
abbrev pub Checks : Type 0
Checks =
    (assembly_of [] ≡ given (bytes "\n") 0)
    × ((assembly_of (file_of 1 (bytes "a.md") (bytes "# T") ∷ file_of 2 (bytes "b.md") (bytes "# U\n# V") ∷ []) ≡ given (bytes "# T\n\n---\n\n# U\n## V\n") 0)
    × (assembly_of (file_of 1 (bytes "docs/a.md") (bytes "# T\n[c](../c.md#k)\n") ∷ []) ≡ given (bytes "# T\n[c](https://h/blob/main/c.md#k)\n") 0))

-- "For a name listed twice the later title serves links.", on two files of one name, which no index has
abbrev pub LaterTitle : Type 0
LaterTitle = assembly_of (file_of 1 (bytes "a") (bytes "# T\n[x](a)") ∷ file_of 1 (bytes "a") (bytes "# U") ∷ []) ≡ given (bytes "# T\n[x](#u)\n\n---\n\n# U\n") 0

pub checks : Checks
unfolding first after_last starts_with ends_with equals find is_space lead kept trim_start trim_end trim is_blank split join markup_after stands is_linked cut_from word_follows plain_from anchor_of slug plain_end_from lower is_lowered is_contents drops shallowest_of hashes text_start text_end heading_of opener closes opens_comment written_kind comment_after outside_kind outside_after step_kind step_after kinds_from relink relink_open relink_target step walked resolve target_of rewrite_target anchor_self go judge told_from past_from up_to prepare_all emit_all assemble without_contents prepared_lines title_of prepare line_of earlier shared_in shared_from movable title_named emit
checks = (refl, (refl, refl))

pub later-title : LaterTitle
unfolding first after_last starts_with ends_with equals find is_space lead kept trim_start trim_end trim is_blank split join markup_after stands is_linked cut_from word_follows plain_from anchor_of slug plain_end_from lower is_lowered is_contents drops shallowest_of hashes text_start text_end heading_of opener closes opens_comment written_kind comment_after outside_kind outside_after step_kind step_after kinds_from relink relink_open relink_target step walked resolve target_of rewrite_target anchor_self go judge told_from past_from up_to prepare_all emit_all assemble without_contents prepared_lines title_of prepare line_of earlier shared_in shared_from movable title_named emit
later-title = refl
