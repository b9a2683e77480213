-- What the arguments of a call say of their own places.
use Rattle.std.specs.Prelude.{◌≤◌}
use Rattle.arguments.specs.declared.Call.{Call}

-- at most two options stand before the URL, and there are at most 64 notes
abbrev pub Called : Call → Type 0
Called c = (c.url ≤ 5) × (c.notes ≤ 64)
