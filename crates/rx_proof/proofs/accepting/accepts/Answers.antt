use Rattle.std.proofs.Common.{◌≡◌, sym, ap, ◌∙◌, arith, List, length, []}
use Rattle.rx_linear.specs.Cells.{Stacked}
use Rattle.rx_proof.specs.declared.query.Query.{Query, out-Query}
use Rattle.rx_proof.specs.declared.open.Open.{Own}
use Rattle.rx_proof.specs.Queries.{each_has_variables}
use Rattle.rx_linear.specs.Joining.{joined}
use Rattle.rx_proof.specs.Acceptance.{accepted, accepts_proof}
use Rattle.rx_proof.specs.Room.{open_weight}
use Rattle.rx_proof.specs.Open.{disjunctions}
use Rattle.rx_proof.proofs.Opens.{disjunctions_own, size_own}
use Rattle.rx_proof.proofs.Weights.{weight_is, has_variables_out}
use Rattle.rx_proof.proofs.Nodes.{joined_at_most, root_node}
use Rattle.rx_proof.proofs.Exclusion.{accepts_sound}
use Rattle.rx_proof.proofs.accepting.accepts.Goals as goal

pub join_all-requires-clause-room : goal.join_all-requires-clause-room
join_all-requires-clause-room c =
    let rows = ap (λ (s : Stacked). length s.rows) c.truncate.ensures in
    let limit = ap (λ (s : Stacked). s.limit) c.truncate.ensures in
    omega (arith, c.requires.made.1, rows, limit, ap length c.rows.ensures.value, weight_is c.args.query.now)

pub accept-requires-clause-room : goal.accept-requires-clause-room
accept-requires-clause-room c =
    let none = ap (λ (s : Stacked). length s.rows) c.truncate.ensures in
    let rows = ap (λ (s : Stacked). length s.rows) c.join_all.ensures in
    let most = joined_at_most c.truncate.new.self.rows c.rows.result.now in
    let limit = ap (λ (s : Stacked). s.limit) c.join_all.ensures ∙ ap (λ (s : Stacked). s.limit) c.truncate.ensures in
    let s = size_own c.as_slice.result in
    let more = ap length c.as_slice.ensures in
    let w = ap open_weight (disjunctions_own c.as_slice.result ∙ c.as_slice.ensures) in
    omega (arith, c.requires.made.1, none, rows, most, limit, s, more, w, ap length c.rows.ensures.value, weight_is c.args.query.now)

pub accept-requires-clause-even : goal.accept-requires-clause-even
accept-requires-clause-even c =
    let variables = ap (λ (s : Stacked). s.variables) c.join_all.ensures ∙ ap (λ (s : Stacked). s.variables) c.truncate.ensures ∙ c.requires.made.0 in
    ap (each_has_variables (disjunctions (Own c.as_slice.result))) variables
    ∙ ap (λ (ds : List (List Query)). each_has_variables ds (out-Query c.args.query.now).system.variables) (disjunctions_own c.as_slice.result ∙ c.as_slice.ensures)
    ∙ (has_variables_out c.args.query.now (out-Query c.args.query.now).system.variables c.requires.even).1

value : (c : goal.After-accept) → c.accept.result ≡ accepts_proof c.args.query.now c.args.proof.now
value c =
    let variables = ap (λ (s : Stacked). s.variables) c.join_all.ensures ∙ ap (λ (s : Stacked). s.variables) c.truncate.ensures ∙ c.requires.made.0 in
    let rows = ap (λ (s : Stacked). s.rows) c.join_all.ensures ∙ ap (λ (s : Stacked). joined s.rows c.rows.result.now) c.truncate.ensures ∙ ap (joined []) c.rows.ensures.value in
    c.accept.ensures.value
    ∙ ap (accepted c.args.proof.now) (root_node c.args.query.now c.join_all.new.self.variables c.join_all.new.self.rows (disjunctions (Own c.as_slice.result)) variables rows (disjunctions_own c.as_slice.result ∙ c.as_slice.ensures))

pub returns-clause-value : goal.returns-clause-value
returns-clause-value c = value c

pub returns-clause-sound : goal.returns-clause-sound
returns-clause-sound c = λ t. accepts_sound c.args.query.now c.args.proof.now (sym (value c) ∙ t)
