-- The queries of Exclusive, Taken and Reached.
use Rattle.std.proofs.Common.{refl, ap, ◌∙◌, ℕ, List, [], ◌∷◌, ℤ, Option, None}
use Rattle.rx_types.specs.Domain.{Domain}
use Rattle.rx_types.specs.Environment.{Placed}
use Rattle.rx_graph.specs.declared.message.Node.{Node}
use Rattle.rx_graph.specs.declared.message.Node.TheVariants.{Start, At}
use Rattle.rx_graph.specs.Graph.{Arrow, Graph, limit_of}
use Rattle.rx_graph.specs.Elaborated.{IsElaborated}
use Rattle.rx_graph.specs.Checks.{IsNumbered}
use Rattle.rx_forms.specs.Laws.{fields_on}
use Rattle.rx_forms.specs.Steps
use Rattle.rx_forms.specs.Links.{AreFormable, AreNarrow}
use Rattle.rx_layout.specs.declared.goal.Goal.TheVariants.{Exclusive, Taken, Reached}
use Rattle.rx_layout.specs.Goals.{MetBy, IsGoal}
use Rattle.rx_layout.specs.QueryOf
use Rattle.rx_layout.specs.Laws
use Rattle.rx_layout.specs.Laws.{IsPoint}
use Rattle.rx_layout.proofs.Numbered.{numbered_found}
use Rattle.rx_layout.proofs.Meeting
use Rattle.rx_layout.proofs.Meeting.{found, placed}

module _ (domains : List Domain) (m : Graph) (el : IsElaborated domains m) (formable : AreFormable (limit_of domains m) m) (narrow : AreNarrow (limit_of domains m) m) where
  both_asked : (node : Node) (a b i j : ℕ) (l k : Arrow) (path : List ℕ) → IsNumbered m node a i l → IsNumbered m node b j k → Meeting.IsAsked domains m el formable narrow (Exclusive node a b) path (l ∷ k ∷ []) None None [] [] 0
  both_asked node a b i j l k path p q =
      let gs = fields_on domains m path in
      let n = QueryOf.division_at domains m path in
      ap (λ (o : Option Arrow). QueryOf.with_link domains m o gs n (λ x. QueryOf.with_link domains m (QueryOf.link_numbered m node b) gs n (λ y. QueryOf.taken_asked domains m gs n (x ∷ y ∷ [])))) (numbered_found m node a i l p)
      ∙ ap (λ (o : Option Arrow). QueryOf.with_link domains m o gs n (λ y. QueryOf.taken_asked domains m gs n (l ∷ y ∷ []))) (numbered_found m node b j k q)

  pub exclusive_meets : (node : Node) (a b : ℕ) (path : List ℕ) (point : List ℤ) → IsGoal domains m (Exclusive node a b) → Steps.LeadsThrough domains m Start path node → IsPoint (QueryOf.query_for domains m (Exclusive node a b) path) point → Laws.Meets domains m (Exclusive node a b) path point
  exclusive_meets node a b path point is lt at =
      let p = is.1 in
      let q = is.2 in
      found domains m el formable narrow (Exclusive node a b) path point (p.1 ∷ q.1 ∷ []) None None [] [] 0 lt (both_asked node a b p.0 q.0 p.1 q.1 path p.2 q.2)
      (formable p.0 p.1 p.2.is, (formable q.0 q.1 q.2.is, tt)) tt tt at
      (λ s g. ((p.0, p.1, p.2, g.taken.0), (q.0, q.1, q.2, g.taken.1.0)))

  pub exclusive_point : (node : Node) (a b total : ℕ) (path : List ℕ) (fields : List Placed) → MetBy domains m (Exclusive node a b) total path fields → Laws.HasPoint domains m (Exclusive node a b) total path fields
  exclusive_point node a b total path fields h =
      let p = h.met.0 in
      let q = h.met.1 in
      placed domains m el formable narrow (Exclusive node a b) total path fields h.partial (p.1 ∷ q.1 ∷ []) None None [] [] 0 [] (both_asked node a b p.0 q.0 p.1 q.1 path p.2 q.2)
      (formable p.0 p.1 p.2.is, (formable q.0 q.1 q.2.is, tt)) (narrow p.0 p.1 p.2.is, (narrow q.0 q.1 q.2.is, tt)) tt tt tt tt (p.3, (q.3, tt)) refl
      (λ point t match fs ss front e l. (refl, refl))

  taken_asked : (node : Node) (a i : ℕ) (l : Arrow) (path : List ℕ) → IsNumbered m node a i l → Meeting.IsAsked domains m el formable narrow (Taken node a) path (l ∷ []) None None [] [] 0
  taken_asked node a i l path p =
      let gs = fields_on domains m path in
      let n = QueryOf.division_at domains m path in
      ap (λ (o : Option Arrow). QueryOf.with_link domains m o gs n (λ x. QueryOf.taken_asked domains m gs n (x ∷ []))) (numbered_found m node a i l p)

  pub taken_meets : (node : Node) (a : ℕ) (path : List ℕ) (point : List ℤ) → IsGoal domains m (Taken node a) → Steps.LeadsThrough domains m Start path node → IsPoint (QueryOf.query_for domains m (Taken node a) path) point → Laws.Meets domains m (Taken node a) path point
  taken_meets node a path point is lt at =
      found domains m el formable narrow (Taken node a) path point (is.1 ∷ []) None None [] [] 0 lt (taken_asked node a is.0 is.1 path is.2) (formable is.0 is.1 is.2.is, tt) tt tt at
      (λ s g. (is.0, is.1, is.2, g.taken.0))

  pub taken_point : (node : Node) (a total : ℕ) (path : List ℕ) (fields : List Placed) → MetBy domains m (Taken node a) total path fields → Laws.HasPoint domains m (Taken node a) total path fields
  taken_point node a total path fields h =
      let p = h.met in
      placed domains m el formable narrow (Taken node a) total path fields h.partial (p.1 ∷ []) None None [] [] 0 [] (taken_asked node a p.0 p.1 path p.2)
      (formable p.0 p.1 p.2.is, tt) (narrow p.0 p.1 p.2.is, tt) tt tt tt tt (p.3, tt) refl (λ point t match fs ss front e l. (refl, refl))

  pub reached_meets : (f : ℕ) (path : List ℕ) (point : List ℤ) → Steps.LeadsThrough domains m Start path (At f) → IsPoint (QueryOf.query_for domains m (Reached f) path) point → Laws.Meets domains m (Reached f) path point
  reached_meets f path point lt at = found domains m el formable narrow (Reached f) path point [] None None [] [] 0 lt refl tt tt tt at (λ s g. tt)

  pub reached_point : (f total : ℕ) (path : List ℕ) (fields : List Placed) → MetBy domains m (Reached f) total path fields → Laws.HasPoint domains m (Reached f) total path fields
  reached_point f total path fields h = placed domains m el formable narrow (Reached f) total path fields h.partial [] None None [] [] 0 [] refl tt tt tt tt tt tt tt refl (λ point t match fs ss front e l. (refl, refl))
