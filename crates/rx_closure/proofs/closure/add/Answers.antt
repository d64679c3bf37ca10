use Rattle.std.proofs.Common.{◌+◌, ◌≤◌, length, map, refl, sym, subst}
use Rattle.std.proofs.lemmas.Result.{err_from_is_err_and}
use Rattle.rx_syntax.specs.declared.tree.Named.{Named}
use Rattle.rx_types.specs.Names.{IsName}
use Rattle.rx_closure.specs.Closure.{added, added_one}
use Rattle.rx_closure.proofs.ClosureLemmas.{added-next, added-front, too_many_more}
use Rattle.rx_closure.proofs.closure.add.Goals as goal

pub add_one-requires : goal.add_one-requires
add_one-requires c = record {
  few = c.loop-named.invariant.few;
  named = subst (λ (n : Named). IsName n.word) (sym c.named-item.is) (c.requires.named c.loop-named.named-index c.named-item.result c.loop-named-test.true);
}

pub loop-named-preserved : goal.loop-named-preserved
loop-named-preserved c = record {
  added = added-next c.args.names.now.items c.args.more.now c.loop-named.named-index c.named-item.result c.loop-named.names.items c.add_one.new.names.items c.loop-named-test.true c.named-item.is c.loop-named.invariant.added c.in_ok-add_one.ensures.added;
  few = c.in_ok-add_one.ensures.few;
}

pub returns-in_err-add_one-clause-many : goal.returns-in_err-add_one-clause-many
returns-in_err-add_one-clause-many c =
    let word = λ (n : Named). n.word in
    let start = c.args.names.now.items in
    let more = c.args.more.now in
    let k = c.loop-named.named-index in
    let next = added-next start more k c.named-item.result c.loop-named.names.items (added_one c.loop-named.names.items c.named-item.result.word) c.loop-named-test.true c.named-item.is c.loop-named.invariant.added refl in
    let front = added-front start more (k + 1) in
    let longer : length (added_one c.loop-named.names.items c.named-item.result.word) ≤ length (added start (map word more)) = rw next front in
    let p = err_from_is_err_and c.from_residual.result c.from_residual.ensures.1 in
    rw (p.1, p.2) (too_many_more (length (added_one c.loop-named.names.items c.named-item.result.word)) (length (added start (map word more))) c.in_err-add_one.field-0.0 longer c.in_err-add_one.ensures.many)
