-- Where what a scan finds goes: a sheet of rows and a log. Nothing here is document 01's.
use Rattle.std.specs.Prelude.{List, [], ◌∷◌}
use Rattle.rows.specs.Sheet.{Sheet, sheet, write}
use Rattle.event_log.specs.Log.{Log, log_of, note}
use Rattle.event_log.specs.declared.sink.Sink.{Sink}
use Rattle.scan.specs.declared.event.Event.{Event}

-- what a sink has
pub record Held : Type 0 where
  pub sheet : Sheet
  pub log : Log

abbrev pub held : Sink → Held
held t = record { sheet = sheet t.at t.out.now; log = log_of t.kept t.log.now }

abbrev pub put : Event → Held → Held
put e t = record { sheet = write e t.sheet; log = note e t.log }

unfoldable pub put_all : List Event → Held → Held
put_all [] t = t
put_all (e ∷ es) t = put_all es (put e t)
