-- Which sentences have a name in them.
use Rattle.std.specs.Prelude.{Bool, ◌||◌, eqb}
use Rattle.answer.specs.Answer.{number}
use Rattle.answer.specs.declared.Refusal.{Refusal}

-- whether the sentence of a refusal has a name in it: the file that is named at 13 and 14, the second place at 19
abbrev pub has_name : Refusal → Bool
has_name r = eqb (number r) 13 || eqb (number r) 14 || eqb (number r) 19
