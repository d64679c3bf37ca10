use Rattle.std.proofs.Common.{◌≡◌, ap, arith, length, drop}
use Rattle.std.proofs.lemmas.List.{drop_all}
use Rattle.rx_proof.specs.declared.query.Query.{out-Query}
use Rattle.rx_proof.specs.Room.{open_weight}
use Rattle.rx_proof.proofs.Weights.{weight_is}
use Rattle.rx_proof.proofs.desk.+weight.Goals as goal

pub weight-returns : goal.weight-returns
weight-returns t c =
    let done : open_weight (drop c.loop-branches.branches-index c.as_slice-branches-items.result.now) ≡ 0 = ap open_weight (drop_all c.loop-branches.branches-index c.as_slice-branches-items.result.now c.loop-branches-test.false) in
    let all : open_weight c.as_slice-branches-items.result.now ≡ open_weight (out-Query c.args.query.now).either = ap open_weight c.as_slice-branches-items.ensures in
    let rows : length c.rows.result.now ≡ length (out-Query c.args.query.now).system.rows = ap length c.rows.ensures.value in
    omega (arith, c.loop-branches.invariant, done, all, rows, c.in_ok-own.ensures, c.len.ensures, weight_is c.args.query.now)
