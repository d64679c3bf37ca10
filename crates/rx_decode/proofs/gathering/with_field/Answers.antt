use Rattle.std.proofs.Common.{◌+◌, sym, subst, rules}
use Rattle.std.specs.Prelude.{IsTrue}
use Rattle.rx_values.specs.Valuation.{content}
use Rattle.rx_decode.specs.Gathered.{IsGathered}
use Rattle.rx_decode.proofs.Collected.{more}
use Rattle.rx_decode.proofs.gathering.with_field.Goals as goal

pub returns : goal.returns
returns c =
    let domains = c.args.message.now.domains in
    let m = c.args.message.now.graph in
    let v = c.args.verified.now in
    let here : IsTrue c.present.result = search rules in
    let one_more = more domains m v.bytes v.fields c.args.field c.args.values c.requires.gathered (content c.in_ok-value.value) (c.present.ensures.0 here) c.in_ok-value.ensures in
    subst (λ l. IsGathered domains m v.bytes v.fields (c.args.field + 1) l) (sym c.in_ok-values.ensures) one_more
