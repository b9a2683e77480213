-- `put_behind` meets its contract: what is put behind the rule is what would be put before it. Assumes nothing.
use mir.Syntax.{w32}
use Rattle.std.proofs.lemmas.Int.{to_z-of_z}
use Rattle.joining.proofs.BehindLaws.{rule_reads, rule_lines}
use Rattle.joining.proofs.put_behind.Goals as goal

pub put_lines-requires-clause-able : goal.put_lines-requires-clause-able
put_lines-requires-clause-able c = rw c.text.ensures (rule_reads c.args.running.now c.args.assembly c.requires.can c.requires.among.0 c.requires.among.1 c.in_ok-put_between.ensures.ran)

pub returns-clause-ran : goal.returns-clause-ran
returns-clause-ran c =
    rule_lines c.args.running.now c.args.assembly c.requires.can c.requires.among.0 c.requires.among.1 c.in_ok-put_between.ensures.ran c.parent_dir.ensures.0 c.args.shift _ c.put_lines.result
    (rw (c.text.ensures, to_z-of_z w32 c.args.shift c.ranges.shift) at c.put_lines.ensures.ran)
