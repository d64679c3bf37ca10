use Rattle.std.proofs.Common.{◌+◌, ◌<◌, ◌≤◌, ◌^◌, length, take, get_or, arith}
use Rattle.rx_syntax.specs.Numbers.{value_of}
use Rattle.rx_syntax.proofs.Values.{value_of-take_more, value_of-take, digit_more, if_none}
use Rattle.rx_syntax.proofs.number.value_of.Goals as goal

pub returns-in_err-checked_mul-clause-none : goal.returns-in_err-checked_mul-clause-none
returns-in_err-checked_mul-clause-none c =
    let run = c.args.run.now in
    let base = c.args.base in
    let i = c.loop-byte.byte-index in
    let within : i < length run = c.loop-byte-test.true in
    let more = value_of-take_more base run i within in
    let digit = digit_more base (value_of base (take i run)) (get_or run i 0) c.if-byte-ne95.true in
    let grows = value_of-take base run (i + 1) c.requires in
    let number = c.loop-byte.invariant.number in
    let great : 2 ^ 127 ≤ value_of base run = grind (arith, c.in_err-checked_mul.ensures) in
    if_none _ great

pub returns-in_err-number-clause-none : goal.returns-in_err-number-clause-none
returns-in_err-number-clause-none c =
    let run = c.args.run.now in
    let base = c.args.base in
    let i = c.loop-byte.byte-index in
    let within : i < length run = c.loop-byte-test.true in
    let more = value_of-take_more base run i within in
    let digit = digit_more base (value_of base (take i run)) (get_or run i 0) c.if-byte-ne95.true in
    let grows = value_of-take base run (i + 1) c.requires in
    let number = c.loop-byte.invariant.number in
    let great : 2 ^ 127 ≤ value_of base run = grind (arith, c.in_ok-checked_mul.ensures, c.in_err-number.ensures) in
    if_none _ great
