-- The laws of the library's texts that bound a part which a pattern begins, ends or is found in. Assumes nothing.
use Rattle.text.proofs.BytesLaws.{rest, rest-length}
use Rattle.text.proofs.PatternLaws.{starts-long, ends-long, find-within}
use lib.ListN.{length-take}

pub ruleset lengths = (rest, rest-length, length-take, starts-long, ends-long, find-within)
