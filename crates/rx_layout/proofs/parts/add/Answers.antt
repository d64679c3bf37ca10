use Rattle.std.proofs.lemmas.Result.{IfOk-from_err}
use Rattle.std.proofs.Common.{◌≡◌, ap, ◌∙◌, ◌++◌, List, map}
use Rattle.rx_linear.specs.declared.row.Row.{Row}
use Rattle.rx_proof.specs.declared.query.Query.{Query}
use Rattle.rx_forms.proofs.Reaching.{both_ok}
use Rattle.rx_layout.specs.declared.parts.Parts.{Parts}
use Rattle.rx_layout.specs.Parts.{joined, all_of, parts_of}
use Rattle.rx_layout.proofs.parts.add.Goals as goal

pub all_of-requires-clause-few : goal.all_of-requires-clause-few
all_of-requires-clause-few c = c.requires.few

pub all_of-requires-clause-fits : goal.all_of-requires-clause-fits
all_of-requires-clause-fits c = c.requires.fits

pub returns-in_err-more : goal.returns-in_err-more
returns-in_err-more c = IfOk-from_err c.from_residual.result _ c.from_residual.ensures.0

pub returns : goal.returns
returns c =
    let old = c.args.parts.now in
    let new = c.append.new.parts in
    let more = c.in_ok-more.more in
    both_ok c.append.result (λ v. new.rows ≡ old.rows ++ more.rows) (λ v. new ≡ joined old (all_of (map (parts_of c.args.variables) c.args.forms.now))) (new.either ≡ old.either ++ more.either)
    (λ v h g. ap (λ (rows : List Row). parts rows new.either) h ∙ ap (λ (either : List (List Query)). parts (old.rows ++ more.rows) either) g ∙ ap (λ (p : Parts). joined old p) c.in_ok-more.ensures)
    c.append.ensures.rows c.append.ensures.either
  where
    parts : List Row → List (List Query) → Parts
    parts rows either = record { rows = rows; either = either }
