use Rattle.std.proofs.lemmas.Result.{IfOk-from_err}
use Rattle.std.proofs.Common.{ap, ◌∙◌}
use Rattle.rx_layout.specs.declared.parts.Parts.{Parts}
use Rattle.rx_layout.specs.Parts.{query_of}
use Rattle.rx_layout.proofs.Gathered.{facts_split, facts_within}
use Rattle.rx_layout.proofs.Flat.{four_added}
use Rattle.rx_layout.proofs.parts.query_of_all.Goals as goal

pub add-requires-clause-few : goal.add-requires-clause-few
add-requires-clause-few c = c.requires.few

pub add-requires-clause-fits : goal.add-requires-clause-fits
add-requires-clause-fits c = (facts_split c.args.variables c.args.facts.now _ c.requires.fits).0

pub returns-in_err-add : goal.returns-in_err-add
returns-in_err-add c = IfOk-from_err c.from_residual.result _ c.from_residual.ensures.0

pub add-requires-2-clause-few : goal.add-requires-2-clause-few
add-requires-2-clause-few c = c.requires.few

pub add-requires-2-clause-fits : goal.add-requires-2-clause-fits
add-requires-2-clause-fits c = (facts_split c.args.variables c.args.asked.now _ (facts_split c.args.variables c.args.facts.now _ c.requires.fits).1).0

pub returns-in_err-add-2 : goal.returns-in_err-add-2
returns-in_err-add-2 c = IfOk-from_err c.from_residual-in_err-add-2.result _ c.from_residual-in_err-add-2.ensures.0

pub add-requires-3-clause-few : goal.add-requires-3-clause-few
add-requires-3-clause-few c = c.requires.few

pub add-requires-3-clause-fits : goal.add-requires-3-clause-fits
add-requires-3-clause-fits c = (facts_split c.args.variables c.args.rows.now c.args.last.now (facts_split c.args.variables c.args.asked.now _ (facts_split c.args.variables c.args.facts.now _ c.requires.fits).1).1).0

pub returns-in_err-add-3 : goal.returns-in_err-add-3
returns-in_err-add-3 c = IfOk-from_err c.from_residual-in_err-add-3.result _ c.from_residual-in_err-add-3.ensures.0

pub add-requires-4-clause-few : goal.add-requires-4-clause-few
add-requires-4-clause-few c = c.requires.few

pub add-requires-4-clause-fits : goal.add-requires-4-clause-fits
add-requires-4-clause-fits c = (facts_split c.args.variables c.args.rows.now c.args.last.now (facts_split c.args.variables c.args.asked.now _ (facts_split c.args.variables c.args.facts.now _ c.requires.fits).1).1).1

pub returns-in_err-add-4 : goal.returns-in_err-add-4
returns-in_err-add-4 c = IfOk-from_err c.from_residual-in_err-add-4.result _ c.from_residual-in_err-add-4.ensures.0

pub query_of-requires : goal.query_of-requires
query_of-requires c = facts_within c.args.variables _ c.add-4.new.parts c.requires.few c.requires.fits
    (four_added c.args.variables c.args.facts.now c.args.asked.now c.args.rows.now c.args.last.now _ c.add.new.parts c.add-2.new.parts c.add-3.new.parts c.add-4.new.parts c.nothing-parts.ensures c.in_ok-add.ensures c.in_ok-add-2.ensures c.in_ok-add-3.ensures c.in_ok-add-4.ensures)

pub returns : goal.returns
returns c = c.query_of.ensures ∙ ap (λ (p : Parts). query_of c.args.variables p)
    (four_added c.args.variables c.args.facts.now c.args.asked.now c.args.rows.now c.args.last.now _ c.add.new.parts c.add-2.new.parts c.add-3.new.parts c.add-4.new.parts c.nothing-parts.ensures c.in_ok-add.ensures c.in_ok-add-2.ensures c.in_ok-add-3.ensures c.in_ok-add-4.ensures)
