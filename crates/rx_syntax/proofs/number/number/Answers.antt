use Rattle.rx_syntax.proofs.Numerals.{decimal_some, decimal_none, based_some, based_none, no_hash_at_all, at_hash}
use Rattle.rx_syntax.proofs.number.number.Goals as goal

pub returns-in-None-clause-some : goal.returns-in-None-clause-some
returns-in-None-clause-some c = decimal_some _ _ c.digits.ensures.some

pub returns-in-None-clause-none : goal.returns-in-None-clause-none
returns-in-None-clause-none c = decimal_none _ _ (no_hash_at_all _ c.args.run.now _ c.split_at.ensures.back c.in-None.ensures.cases c.base_len.ensures.run.all) c.digits.ensures.none

pub returns-in-Some-clause-some : goal.returns-in-Some-clause-some
returns-in-Some-clause-some c =
    let e = at_hash _ c.args.run.now _ _ _ _ c.split_at.ensures.front c.split_at.ensures.back c.in-Some.ensures.cases.0 c.base_len.ensures.run in
    rw e (based_some _ _ _ c.based.ensures.some)

pub returns-in-Some-clause-none : goal.returns-in-Some-clause-none
returns-in-Some-clause-none c =
    let e = at_hash _ c.args.run.now _ _ _ _ c.split_at.ensures.front c.split_at.ensures.back c.in-Some.ensures.cases.0 c.base_len.ensures.run in
    rw e (based_none _ _ _ (rw (← c.split_at.ensures.front) at c.base_len.ensures.run.all) c.based.ensures.none)
