use Rattle.std.proofs.Common.{ℕ, ◌<◌, [], List, pos, negsuc, refl, subst}
use Rattle.std.specs.List.{list_any}
use Rattle.rx_linear.specs.declared.row.Row.{Row}
use Rattle.rx_linear.specs.Units.{is_unit_row}
use Rattle.rx_linear.proofs.Joining.{both, and_true}
use Rattle.rx_proof.specs.declared.query.Query.{out-Query}
use Rattle.rx_layout.specs.QueryOf
use Rattle.rx_layout.proofs.Even.{query_variables}
use Rattle.rx_layout.proofs.Joining.{unit_joined}
use Rattle.rx_layout.proofs.Units.{variables_bounded}
use Rattle.rx_layout.proofs.laws.queries_are_bounded.Goals as goal

pub returns : goal.returns
returns c =
    let domains = c.args.message.now.domains in
    let m = c.args.message.now.graph in
    λ g path x h.
    let asked = QueryOf.asked_at domains m g path in
    let rows : List Row = (out-Query (QueryOf.query_for domains m g path)).system.rows in
    let b = both {a = list_any (is_unit_row x (pos 1)) rows} (variables_bounded domains m c.is_known.ensures.elaborated g path x (subst (λ (k : ℕ). x < k) (query_variables asked.variables (QueryOf.asked_form domains m path asked)) h)) in
    and_true (unit_joined x (pos 1) refl [] rows b.0) (unit_joined x (negsuc 0) refl [] rows b.1)
