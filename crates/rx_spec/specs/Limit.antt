-- The path limit, which is the last of what a message is refused for.
--   domains_known t           the scalar types, each at the place that its id says
--   HasBoolean t              Boolean is the first of them
--   within_limit t name g     message g of this name; GraphLimit at the name if its paths pass the limit
use Rattle.std.specs.Prelude.{◌≡◌, List, Some, Ok, map, slice_get, if◌then◌else◌}
use Rattle.rx_syntax.specs.declared.tree.Named.{Named}
use Rattle.rx_syntax.specs.declared.rule.Rule.TheVariants as rule
use Rattle.rx_types.specs.Domain.{Domain, boolean}
use Rattle.rx_graph.specs.Graph.{Graph}
use Rattle.rx_forms.specs.PathLimit.{keeps_limit}
use Rattle.rx_judge.specs.Meaning.{Meaning, refused_at}
use Rattle.rx_elab.specs.Types.{Types}

-- the scalar types, each at the place that its id says
abbrev pub domains_known : Types → List Domain
domains_known t = map (λ x. x.domain) t.scalars

abbrev pub HasBoolean : Types → Type 0
HasBoolean t = slice_get (domains_known t) 0 ≡ Some boolean

-- the message, if its paths keep the limit; else GraphLimit at its name
unfoldable pub within_limit : Types → Named → Graph → Meaning Graph
within_limit t name g = if keeps_limit (domains_known t) g then Ok g else refused_at rule.GraphLimit name
