use Rattle.std.proofs.Common.{◌≡◌, ◌∙◌, sym, true, false, arith, slice_index_or}
use Rattle.std.specs.Prelude.{pos}
use Rattle.std.proofs.lemmas.Int.{ints}
use Rattle.rx_judge.specs.Scalar.{is_among}
use Rattle.rx_judge.proofs.Distinct.{start, again, new, one_more}
use Rattle.rx_judge.proofs.Products.{passed, not_false, not_true}
use Rattle.rx_judge.proofs.scalar.is_distinct.Goals as goal

pub loop-number-init : goal.loop-number-init
loop-number-init c = record { rest = start c.args.numbers.now; keys = c.new-seen.ensures.empty }

pub returns-then-not-branch : goal.returns-then-not-branch
returns-then-not-branch c =
    let x = slice_index_or c.args.numbers.now c.loop-number.number-index (pos 0) in
    let e : passed x ≡ x = omega (arith, ints) in
    let there : is_among (passed x) c.loop-number.seen.keys ≡ true = not_false (is_among (passed x) c.loop-number.seen.keys) (sym c.if-not-branch.true ∙ c.in_ok-insert.ensures.added) in
    sym (again c.args.numbers.now c.loop-number.number-index (pos 0) c.loop-number.invariant.rest c.loop-number-test.true (rw (e, c.loop-number.invariant.keys) at there))

pub loop-number-preserved : goal.loop-number-preserved
loop-number-preserved c =
    let x = slice_index_or c.args.numbers.now c.loop-number.number-index (pos 0) in
    let e : passed x ≡ x = omega (arith, ints) in
    let absent : is_among (passed x) c.loop-number.seen.keys ≡ false = not_true (is_among (passed x) c.loop-number.seen.keys) (sym c.if-not-branch.false ∙ c.in_ok-insert.ensures.added) in
    record {
      rest = new c.args.numbers.now c.loop-number.number-index (pos 0) c.loop-number.invariant.rest c.loop-number-test.true (rw (e, c.loop-number.invariant.keys) at absent);
      keys = one_more c.args.numbers.now c.loop-number.seen.keys c.insert.new.self.keys c.loop-number.number-index (pos 0) (passed x) c.loop-number-test.true c.loop-number.invariant.keys e absent c.in_ok-insert.ensures.keys;
    }
