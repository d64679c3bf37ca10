use Rattle.std.proofs.Common.{◌≡◌, sym, ap, subst, ◌∙◌, ℕ, ◌<◌, true, false, length, arith, rules}
use Rattle.std.specs.List.{filter}
use Rattle.std.proofs.lemmas.List.Elements.{All-filter, All-same}
use Rattle.rx_linear.specs.Systems.{FitsSystem}
use Rattle.rx_linear.specs.Joining.{joined}
use Rattle.rx_shadow.specs.Bounds.{fixed_value}
use Rattle.rx_shadow.specs.Simple.{has, replaced, within_limits}
use Rattle.rx_shadow.specs.Known.{rows_of, AllFit}
use Rattle.rx_shadow.specs.Derivations.{Reaches}
use Rattle.rx_shadow.proofs.Points.{zero_at}
use Rattle.rx_shadow.proofs.Joins.{within_from}
use Rattle.rx_shadow.proofs.Leaving.{rows_of_filter, has_leaving}
use Rattle.rx_shadow.proofs.Replacing.{target_is, too_many, derived_split}
use Rattle.rx_shadow.proofs.eliminating.eliminate.Goals as goal

pub returns-then-len-gt-ROW_LIMIT : goal.returns-then-len-gt-ROW_LIMIT
returns-then-len-gt-ROW_LIMIT c =
    too_many c.args.rows.variables c.args.variable c.args.rows.known.items c.in_ok-kept.kept.items c.in_ok-kept.ensures.kept
    (let many : 1024 < length c.in_ok-kept.kept.items = search rules in many)

pub replace-requires-clause-fits : goal.replace-requires-clause-fits
replace-requires-clause-fits c =
    All-same (λ k. FitsSystem c.args.rows.variables k.row) c.in_ok-kept.kept.items (filter (λ k. zero_at c.args.variable k.row) c.args.rows.known.items) c.in_ok-kept.ensures.kept
    (All-filter (λ k. zero_at c.args.variable k.row) (λ k. FitsSystem c.args.rows.variables k.row) c.args.rows.known.items c.requires.fits)

pub replace-requires-clause-leaving_fit : goal.replace-requires-clause-leaving_fit
replace-requires-clause-leaving_fit c =
    All-same (λ k. FitsSystem c.args.rows.variables k.row) c.as_slice.result.now (filter (λ k. has c.args.variable k.row) c.args.rows.known.items) (c.as_slice.ensures.value ∙ c.in_ok-kept.ensures.leaving)
    (All-filter (λ k. has c.args.variable k.row) (λ k. FitsSystem c.args.rows.variables k.row) c.args.rows.known.items c.requires.fits)

pub replace-requires-clause-leaving_have : goal.replace-requires-clause-leaving_have
replace-requires-clause-leaving_have c =
    let e : rows_of c.as_slice.result.now ≡ filter (has c.args.variable) (rows_of c.args.rows.known.items) =
    ap rows_of (c.as_slice.ensures.value ∙ c.in_ok-kept.ensures.leaving) ∙ rows_of_filter (has c.args.variable) c.args.rows.known.items in
    ap (filter (has c.args.variable)) e ∙ has_leaving c.args.variable (rows_of c.args.rows.known.items) ∙ sym e

pub returns-then-within : goal.returns-then-within
returns-then-within c =
    let e : c.as_slice.result.now ≡ filter (λ k. has c.args.variable k.row) c.args.rows.known.items = c.as_slice.ensures.value ∙ c.in_ok-kept.ensures.leaving in
    let t = target_is c.args.rows.variables c.args.variable c.args.rows.known.items c.in_ok-kept.kept.items c.as_slice.result.now c.in_ok-kept.ensures.kept e in
    let g = c.in_ok-within.ensures.continues in
    let fits : AllFit c.args.rows.variables c.replace.new.self.known.items = subst (λ (n : ℕ). AllFit n c.replace.new.self.known.items) g.same_variables g.fits in
    let reached : Reaches true (joined (rows_of c.in_ok-kept.kept.items) (replaced c.args.rows.variables c.args.variable (rows_of c.as_slice.result.now) (fixed_value c.args.variable (rows_of c.as_slice.result.now)))) (rows_of c.replace.new.self.known.items) =
    subst (λ b. Reaches b (joined (rows_of c.in_ok-kept.kept.items) (replaced c.args.rows.variables c.args.variable (rows_of c.as_slice.result.now) (fixed_value c.args.variable (rows_of c.as_slice.result.now)))) (rows_of c.replace.new.self.known.items)) c.if-within.true c.in_ok-within.ensures.reached in
    record {
      left = c.in_ok-kept.ensures.leaving;
      reached = reached ∙ t;
      within = within_from c.args.rows.variables c.replace.new.self.known.items g.few fits;
      fits = fits;
      same_variables = g.same_variables;
      same_given = g.same_given;
      few_steps = (let two = g.two_each in let few = g.few in omega (arith, two, few));
      derived = λ given d. derived_split given c.args.rows.given c.args.rows.steps.items c.replace.new.self.given c.replace.new.self.steps.items c.args.variable c.args.rows.known.items c.in_ok-kept.kept.items c.as_slice.result.now c.replace.new.self.known.items c.in_ok-kept.ensures.kept e (λ f. c.in_ok-within.ensures.derived given f) d;
    }

pub returns-else-within : goal.returns-else-within
returns-else-within c =
    let e : c.as_slice.result.now ≡ filter (λ k. has c.args.variable k.row) c.args.rows.known.items = c.as_slice.ensures.value ∙ c.in_ok-kept.ensures.leaving in
    let t = target_is c.args.rows.variables c.args.variable c.args.rows.known.items c.in_ok-kept.kept.items c.as_slice.result.now c.in_ok-kept.ensures.kept e in
    let passed : Reaches false (joined (rows_of c.in_ok-kept.kept.items) (replaced c.args.rows.variables c.args.variable (rows_of c.as_slice.result.now) (fixed_value c.args.variable (rows_of c.as_slice.result.now)))) (rows_of c.replace.new.self.known.items) =
    subst (λ b. Reaches b (joined (rows_of c.in_ok-kept.kept.items) (replaced c.args.rows.variables c.args.variable (rows_of c.as_slice.result.now) (fixed_value c.args.variable (rows_of c.as_slice.result.now)))) (rows_of c.replace.new.self.known.items)) c.if-within.false c.in_ok-within.ensures.reached in
    ap within_limits (sym t) ∙ passed
