-- The rows along a whole path, from the start on.
use Rattle.std.proofs.Common.{refl, ◌+◌, List, []}
use Rattle.rx_types.specs.Domain.{Domain}
use Rattle.rx_graph.specs.declared.message.Node.TheVariants.{Start}
use Rattle.rx_graph.specs.Graph.{Graph, limit_of}
use Rattle.rx_graph.specs.Elaborated.{IsElaborated}
use Rattle.rx_forms.specs.Steps.{links_on, scalars_on}
use Rattle.rx_forms.specs.Links.{AreFormable, AreNarrow}
use Rattle.rx_forms.specs.Points.{point_of}
use Rattle.rx_forms.specs.Laws.{RowsMakePartial, PartialMakesRows}
use Rattle.rx_forms.proofs.Along.{rows_lead, lead_rows}
use Rattle.rx_forms.proofs.Carrying.{point_carries}

module _ (domains : List Domain) (m : Graph) (el : IsElaborated domains m) (formable : AreFormable (limit_of domains m) m) (narrow : AreNarrow (limit_of domains m) m) where
  pub rows_make : RowsMakePartial domains m
  rows_make type_form point total path end typed short length_is through holds =
      let r = rows_lead domains m el formable narrow type_form point typed total short length_is path [] [] [] 1 (1 + scalars_on domains m (links_on domains m path)) Start end through tt refl holds in
      (r.0, record { short = short; leads = r.1 }, r.2)

  pub partial_makes : PartialMakesRows domains m
  partial_makes type_form total path fields end typed h =
      let point = point_of domains m total (links_on domains m path) fields in
      lead_rows domains m el formable narrow type_form point typed total h.short refl path [] [] [] fields 1 (1 + scalars_on domains m (links_on domains m path)) Start end tt refl h.leads (point_carries domains m total Start path fields end h.leads)
