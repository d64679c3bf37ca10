use Rattle.std.proofs.Common.{◌≡◌, sym, subst, ◌∙◌, true, false}
use Rattle.std.specs.List.{list_all}
use Rattle.rx_linear.specs.Joining.{has_no_variable}
use Rattle.rx_shadow.specs.declared.solving.Solved.TheVariants.{NotSimple}
use Rattle.rx_shadow.specs.Simple.{Outcome, outcome}
use Rattle.rx_shadow.specs.Known.{rows_of}
use Rattle.rx_shadow.specs.Solving.{IsOrigin}
use Rattle.rx_shadow.specs.Joined.{IsSolvedAt}
use Rattle.rx_shadow.proofs.Exactness.{all_rows}
use Rattle.rx_shadow.proofs.Initial.{if_ok}
use Rattle.rx_shadow.proofs.Outcomes.{outcome_true, outcome_none}
use Rattle.rx_shadow.proofs.Rounds.{origin_at}
use Rattle.rx_shadow.proofs.joined.solve_apart.Goals as goal

pub returns-then-are_plain : goal.returns-then-are_plain
returns-then-are_plain c =
    let n = c.args.variables in
    let rows = rows_of c.args.known.now in
    let plain : list_all has_no_variable rows ≡ true = all_rows has_no_variable c.args.known.now ∙ sym c.are_plain.ensures ∙ c.if-are_plain.true in
    if_ok c.origin.result (λ solved. IsOrigin n solved) (λ solved. IsSolvedAt n rows (outcome n rows) solved)
    (λ solved o. subst (λ (a : Outcome). IsSolvedAt n rows a solved) (sym (outcome_true n n rows c.requires.apart plain)) (origin_at n rows solved c.requires.apart plain o))
    c.origin.ensures

pub solve_exact-requires-clause-tested : goal.solve_exact-requires-clause-tested
solve_exact-requires-clause-tested c = record {
  no_clash = c.requires.apart;
  not_plain = all_rows has_no_variable c.args.known.now ∙ sym c.are_plain.ensures ∙ c.if-are_plain.false;
  greatest = sym c.greatest_exact.ensures ∙ c.in-Some.is;
}

pub returns-in-None : goal.returns-in-None
returns-in-None c =
    let n = c.args.variables in
    let rows = rows_of c.args.known.now in
    let not_plain : list_all has_no_variable rows ≡ false = all_rows has_no_variable c.args.known.now ∙ sym c.are_plain.ensures ∙ c.if-are_plain.false in
    subst (λ (a : Outcome). IsSolvedAt n rows a (NotSimple c.narrowest.result)) (sym (outcome_none n n rows c.requires.apart not_plain (sym c.greatest_exact.ensures ∙ c.in-None.is))) c.narrowest.ensures
