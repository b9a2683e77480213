-- `emitted::put_line` meets its contract. Assumes nothing.
use mir.Syntax.{w32}
use Rattle.std.proofs.lemmas.Int.{to_z-of_z}
use Rattle.link.specs.Target.{rewrite_target}
use Rattle.target.specs.Titles.{titles_of}
use Rattle.rewrite.proofs.LinkedLaws.{rewriting_same}
use Rattle.emitted.proofs.EmittedLaws.{new_within, new_over, new_reads, new_put}
use Rattle.emitted.proofs.put_line.Goals as goal

pub returns-in-Quoted-clause-ran : goal.returns-in-Quoted-clause-ran
returns-in-Quoted-clause-ran c = rw c.in-Quoted.is c.put_part.ensures.ran

pub put_level-requires-clause-level : goal.put_level-requires-clause-level
put_level-requires-clause-level c =
    let a = c.args in
    let f = rewrite_target (titles_of a.running.now a.assembly) a.assembly.url.now a.dir.now in
    (new_within c.requires.able f a.shift a.line c.requires.line_in c.in_default.not-Quoted c.new_text-new.result (rw (to_z-of_z w32 a.shift c.ranges.shift) at c.new_text-new.ensures)).0

pub returns-in_err-put_level-clause-ran : goal.returns-in_err-put_level-clause-ran
returns-in_err-put_level-clause-ran c =
    let a = c.args in
    let f = rewrite_target (titles_of a.running.now a.assembly) a.assembly.url.now a.dir.now in
    rw c.from_residual.ensures
    (new_over c.requires.able f a.shift a.line c.requires.line_in c.in_default.not-Quoted c.new_text-new.result (rw (to_z-of_z w32 a.shift c.ranges.shift) at c.new_text-new.ensures) c.in_err-put_level.ensures.ran)

pub part-text-requires : goal.part-text-requires
part-text-requires c =
    let a = c.args in
    let f = rewrite_target (titles_of a.running.now a.assembly) a.assembly.url.now a.dir.now in
    (new_within c.requires.able f a.shift a.line c.requires.line_in c.in_default.not-Quoted c.new_text-new.result (rw (to_z-of_z w32 a.shift c.ranges.shift) at c.new_text-new.ensures)).1

pub put_links-requires-clause-able : goal.put_links-requires-clause-able
put_links-requires-clause-able c =
    let a = c.args in
    let f = rewrite_target (titles_of a.running.now a.assembly) a.assembly.url.now a.dir.now in
    rw c.part-text.ensures
    (new_reads c.requires.able f a.shift a.line c.requires.line_in c.in_default.not-Quoted c.new_text-new.result (rw (to_z-of_z w32 a.shift c.ranges.shift) at c.new_text-new.ensures) c.in_ok-put_level.ensures.ran)

pub returns-clause-ran : goal.returns-clause-ran
returns-clause-ran c =
    let a = c.args in
    let f = rewrite_target (titles_of a.running.now a.assembly) a.assembly.url.now a.dir.now in
    new_put c.requires.able f a.shift a.line c.requires.line_in c.in_default.not-Quoted c.new_text-new.result (rw (to_z-of_z w32 a.shift c.ranges.shift) at c.new_text-new.ensures)
    c.in_ok-put_level.ensures.ran (rewriting_same c.requires.stand c.in_ok-put_level.ensures.ran a.assembly.url.now a.dir.now) _ c.put_links.result (rw c.part-text.ensures at c.put_links.ensures.ran)
