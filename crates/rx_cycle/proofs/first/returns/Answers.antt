use Rattle.std.proofs.Common.{◌<◌, ◌↔◌, Bool, slice_index_or, arith, get_or}
use Rattle.std.specs.Prelude.{IsTrue}
use Rattle.std.proofs.lemmas.Bool.{false≢true}
use Rattle.std.proofs.lemmas.Option.{slice_get-get_or}
use Rattle.std.proofs.lemmas.Result.{IfOk-weaker}
use Rattle.rx_cycle.specs.Graph.{LeadsTo, Returns}
use Rattle.rx_cycle.proofs.Returning.{falls_for_good, by_leading}
use Rattle.rx_cycle.proofs.first.returns.Goals as goal

pub returns-then-entry : goal.returns-then-entry
returns-then-entry c =
    let links = c.args.links.now in
    let i = c.args.index in
    let link = slice_index_or links i record { source = 0; target = 0 } in
    let l = slice_get-get_or links i record { source = 0; target = 0 } c.requires.index in
    let h : get_or c.args.ranks.now link.target 0 < get_or c.args.ranks.now link.source 0 = let a = c.entry.ensures in let b = c.entry-2.ensures in let t = c.if-entry.true in omega arith in
    (λ e. absurd (false≢true e), λ r. absurd (falls_for_good c.args.ranks.now links i link c.requires.ranks l h r))

pub leads-requires-clause-from : goal.leads-requires-clause-from
leads-requires-clause-from c = c.requires.below.target c.args.index _ (slice_get-get_or c.args.links.now c.args.index record { source = 0; target = 0 } c.requires.index)

pub leads-requires-clause-to : goal.leads-requires-clause-to
leads-requires-clause-to c = c.requires.below.source c.args.index _ (slice_get-get_or c.args.links.now c.args.index record { source = 0; target = 0 } c.requires.index)

pub returns : goal.returns
returns c =
    let links = c.args.links.now in
    let i = c.args.index in
    let link = slice_index_or links i record { source = 0; target = 0 } in
    let both = by_leading links i link (slice_get-get_or links i record { source = 0; target = 0 } c.requires.index) in
    IfOk-weaker c.leads.result (λ (b : Bool). IsTrue b ↔ LeadsTo links link.target link.source) (λ (b : Bool). IsTrue b ↔ Returns links i) (λ b h. (λ t. both.0 (h.0 t), λ r. h.1 (both.1 r))) c.leads.ensures
