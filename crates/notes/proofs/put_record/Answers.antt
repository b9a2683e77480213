-- A record has room for a name of at most 255 bytes.
use Rattle.std.proofs.Common.{ℕ, arith, take, length-take}
use Rattle.notes.proofs.NotesLaws.{record_room}
use Rattle.notes.proofs.put_record.Goals as goal

pub put_record-requires : goal.put_record-requires
put_record-requires g c = omega (arith, record_room (take c.if-is_name.kept c.read-name.result.now) c.args.start c.args.size (omega (arith, length-take {A = ℕ})))

pub returns : goal.returns
returns g c = omega (arith, record_room (take c.if-is_name.kept c.read-name.result.now) c.args.start c.args.size (omega (arith, length-take {A = ℕ})))
