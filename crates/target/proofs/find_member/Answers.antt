-- `target::find_member` meets its contract: the members are tried from the last on. Assumes nothing.
use Rattle.std.proofs.lemmas.List.{length_push}
use Rattle.std.proofs.lemmas.Iterator.Adapters.{YieldsList-from_rev_slice}
use Rattle.std.proofs.lemmas.Iterator.Consumers.{YieldsList-turn}
use Rattle.target.proofs.TitleLaws.{from_last, seeking_found, seeking_on}
use Rattle.target.proofs.find_member.Goals as goal

pub returns-then-equals : goal.returns-then-equals
returns-then-equals c =
    let l = c.loop-member in
    let x = c.in-Some.member in
    let t = from_last c.args.members.now _ x.now (YieldsList-turn (YieldsList-from_rev_slice c.args.members.now cc) l.yielded _ l.yielded_by _ _ x c.in-Some.is c.next.ensures.steps) in
    seeking_found l.invariant t c.equals.ensures c.if-equals.true

pub loop-member-preserved : goal.loop-member-preserved
loop-member-preserved c =
    let l = c.loop-member in
    let x = c.in-Some.member in
    let t = from_last c.args.members.now _ x.now (YieldsList-turn (YieldsList-from_rev_slice c.args.members.now cc) l.yielded _ l.yielded_by _ _ x c.in-Some.is c.next.ensures.steps) in
    rw (length_push l.yielded x) (seeking_on l.invariant t c.equals.ensures c.if-equals.false)
