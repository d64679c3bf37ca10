use Rattle.std.proofs.Common.{arith}
use Rattle.rx_grammar.specs.Limits.{no_limits}
use Rattle.rx_grammar.proofs.Parts.{fits_take, found_longest, no_empty}
use Rattle.rx_grammar.proofs.part.longest_front.Goals as goal

pub whole_expr-requires : goal.whole_expr-requires
whole_expr-requires c = rw c.split_at.ensures.front (fits_take no_limits c.fronts.len c.args.items.now c.requires)

pub returns-clause-none : goal.returns-clause-none
returns-clause-none c = no_empty c.args.items.now c.fronts.len (omega arith) c.fronts.invariant.none

pub returns-in-Some-clause-some : goal.returns-in-Some-clause-some
returns-in-Some-clause-some c =
    let h = rw c.in-Some.is at c.in_ok-found.ensures.some in
    found_longest c.args.items.now _ _ _ c.requires c.fronts.invariant.within c.split_at.ensures.front h c.fronts.invariant.none
