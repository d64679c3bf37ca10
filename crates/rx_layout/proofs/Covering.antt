-- The queries of Cover and Whole.
use Rattle.std.proofs.Common.{◌≡◌, refl, sym, ap, ◌∙◌, ℕ, ◌+◌, List, [], ◌∷◌, true, false, get_or, ℤ, pos, Option, Some, None, inl, inr, arith}
use Rattle.std.specs.Prelude.{slice_get}
use Rattle.std.specs.Int.{int_div_euclid}
use Rattle.rx_types.specs.Domain.{Domain}
use Rattle.rx_types.specs.Environment.{Placed, in_message, end_of}
use Rattle.rx_types.specs.Narrow.{places_in_bits}
use Rattle.rx_graph.specs.declared.message.Node.{Node}
use Rattle.rx_graph.specs.declared.message.Node.TheVariants.{Start, At, Null}
use Rattle.rx_graph.specs.Graph.{Arrow, Graph, limit_of, overlay_of}
use Rattle.rx_graph.specs.Elaborated.{IsElaborated, IsTarget}
use Rattle.rx_graph.specs.Paths.{first_of, IsTrue, IsPartial}
use Rattle.rx_graph.specs.Checks.{IsNumbered}
use Rattle.rx_forms.specs.declared.linear.Form.{Form, Any}
use Rattle.rx_forms.specs.Normal.{divisions_in}
use Rattle.rx_forms.specs.Laws.{fields_on}
use Rattle.rx_forms.specs.Steps
use Rattle.rx_forms.specs.Steps.{Step, first_form, end_form}
use Rattle.rx_forms.specs.Links.{AreFormable, AreNarrow}
use Rattle.rx_forms.proofs.Extension.{at_end}
use Rattle.rx_forms.proofs.Matching.{represents, end_matches}
use Rattle.rx_layout.specs.declared.goal.Goal.TheVariants.{Cover, Whole}
use Rattle.rx_layout.specs.Goals
use Rattle.rx_layout.specs.Goals.{MetBy, IsGoal}
use Rattle.rx_layout.specs.QueryOf
use Rattle.rx_layout.specs.QueryOf.{Asked, cover_formula, null_formula, no_multiple, unit_rows}
use Rattle.rx_layout.specs.Laws
use Rattle.rx_layout.specs.Laws.{IsPoint}
use Rattle.rx_layout.proofs.Formulas.{cover_is, is_uncovered, null_is, is_null, broken_is, is_broken}
use Rattle.rx_layout.proofs.Lists.{meets_any}
use Rattle.rx_layout.proofs.Numbered.{numbered_found}
use Rattle.rx_layout.proofs.Placed.{ends_within, only_above}
use Rattle.rx_layout.proofs.Meeting
use Rattle.rx_layout.proofs.Meeting.{found, placed}
use Rattle.rx_layout.proofs.Placing.{first_within, one_holds, holds_one}
use Rattle.rx_layout.proofs.Targets.{first_value, quotient_units}

module _ (domains : List Domain) (m : Graph) (el : IsElaborated domains m) (formable : AreFormable (limit_of domains m) m) (narrow : AreNarrow (limit_of domains m) m) where
  -- ---- Cover

  -- what is asked of the link, by where it leads
  asked_to : (node : Node) (a i : ℕ) (link : Arrow) (target : Node) (path : List ℕ) → IsNumbered m node a i link → link.target ≡ target → QueryOf.asked_at domains m (Cover node a) path ≡ QueryOf.cover_to domains m target (fields_on domains m path) (QueryOf.division_at domains m path) link
  asked_to node a i link target path p is =
      let gs = fields_on domains m path in
      let n = QueryOf.division_at domains m path in
      ap (λ (o : Option Arrow). QueryOf.with_link domains m o gs n (λ l. QueryOf.cover_to domains m l.target gs n l)) (numbered_found m node a i link p)
      ∙ ap (λ (t : Node). QueryOf.cover_to domains m t gs n link) is

  asked_over : (node : Node) (a i : ℕ) (link : Arrow) (f : ℕ) (o : Option ℕ) (path : List ℕ) → IsNumbered m node a i link → link.target ≡ At f → overlay_of (slice_get m.fields f) ≡ o → QueryOf.asked_at domains m (Cover node a) path ≡ QueryOf.cover_asked domains m o (fields_on domains m path) (QueryOf.division_at domains m path) link
  asked_over node a i link f o path p is over = asked_to node a i link (At f) path p is ∙ ap (λ (x : Option ℕ). QueryOf.cover_asked domains m x (fields_on domains m path) (QueryOf.division_at domains m path) link) over

  abbrev cover_on : List ℕ → Arrow → Form
  cover_on path link = cover_formula (fields_on domains m path) (first_form (QueryOf.goal_step domains m (fields_on domains m path) (QueryOf.division_at domains m path) link))

  cover_meets_at : (node : Node) (a i : ℕ) (link : Arrow) (f : ℕ) (o : Option ℕ) (path : List ℕ) (point : List ℤ) → IsNumbered m node a i link → link.target ≡ At f → overlay_of (slice_get m.fields f) ≡ o → Steps.LeadsThrough domains m Start path node → IsPoint (QueryOf.query_for domains m (Cover node a) path) point → Laws.Meets domains m (Cover node a) path point
  cover_meets_at node a i link f None path point num is over lt at =
      let fm = formable i link num.is in
      let gs = fields_on domains m path in
      let n = QueryOf.division_at domains m path in
      found domains m el formable narrow (Cover node a) path point (link ∷ []) link.first None (cover_on path link ∷ []) [] 0 lt (asked_over node a i link f None path num is over) (fm, tt) fm.first tt at
      (λ p g.
      let e = in_message p.total p.fields in
      let r = represents point p.total gs p.fields p.length_is p.matches in
      let fv = first_value (limit_of domains m) point gs p.fields p.total r p.matches link n fm.first g.first_solved in
      let w = only_above p.total p.fields (ends_within domains m p.total [] Start path p.fields node p.partial.leads) in
      (i, link, num, (g.taken.0, inl (f, is, over, cover_is point gs p.fields (first_form (QueryOf.goal_step domains m gs n link)) (first_of link e) p.matches w fv (one_holds (cover_on path link) point g.holds)))))
  cover_meets_at node a i link f (Some x) path point num is over lt at =
      let fm = formable i link num.is in
      found domains m el formable narrow (Cover node a) path point (link ∷ []) None None (Any [] ∷ []) [] 0 lt (asked_over node a i link f (Some x) path num is over) (fm, tt) tt tt at
      (λ p g. absurd (no (sym (meets_any [] point) ∙ one_holds (Any []) point g.holds)))
    where
      no : false ≡ true → ⊥
      no e = cc

  cover_meets_to : (node : Node) (a i : ℕ) (link : Arrow) (target : Node) (path : List ℕ) (point : List ℤ) → IsNumbered m node a i link → link.target ≡ target → IsTarget domains m target → Steps.LeadsThrough domains m Start path node → IsPoint (QueryOf.query_for domains m (Cover node a) path) point → Laws.Meets domains m (Cover node a) path point
  cover_meets_to node a i link Start path point num is t lt at = absurd t
  cover_meets_to node a i link (At f) path point num is t lt at = cover_meets_at node a i link f (overlay_of (slice_get m.fields f)) path point num is refl lt at
  cover_meets_to node a i link Null path point num is t lt at =
      let fm = formable i link num.is in
      let gs = fields_on domains m path in
      found domains m el formable narrow (Cover node a) path point (link ∷ []) None None (null_formula gs ∷ []) [] 0 lt (asked_to node a i link Null path num is) (fm, tt) tt tt at
      (λ p g. (i, link, num, (g.taken.0, inr (is, null_is point gs p.fields (end_form gs) p.matches (end_matches point gs p.fields p.matches) (one_holds (null_formula gs) point g.holds)))))

  pub cover_meets : (node : Node) (a : ℕ) (path : List ℕ) (point : List ℤ) → IsGoal domains m (Cover node a) → Steps.LeadsThrough domains m Start path node → IsPoint (QueryOf.query_for domains m (Cover node a) path) point → Laws.Meets domains m (Cover node a) path point
  cover_meets node a path point is lt at = cover_meets_to node a is.0 is.1 is.1.target path point is.2 refl (el.links is.0 is.1 is.2.is).target lt at

  cover_point_by : (node : Node) (a total : ℕ) (path : List ℕ) (fields : List Placed) → IsPartial domains m total path fields node → (i : ℕ) (link : Arrow) → IsNumbered m node a i link → IsTrue link (in_message total fields) → Goals.IsUncovered domains m (in_message total fields) link → Laws.HasPoint domains m (Cover node a) total path fields
  cover_point_by node a total path fields partial i link num taken (inl h) =
      let fm = formable i link num.is in
      let nr = narrow i link num.is in
      let gs = fields_on domains m path in
      let n = QueryOf.division_at domains m path in
      let e = in_message total fields in
      let w = only_above total fields (ends_within domains m total [] Start path fields node partial.leads) in
      placed domains m el formable narrow (Cover node a) total path fields partial (link ∷ []) link.first None (cover_on path link ∷ []) [] 0 [] (asked_over node a i link h.0 None path num h.1 h.2)
      (fm, tt) (nr, tt) fm.first nr.first tt tt (taken, tt) refl
      (λ point t match fs ss front is l.
      let r = represents point total gs fields t match in
      let fv = first_value (limit_of domains m) point gs fields total r match link n fm.first fs in
      (holds_one (cover_on path link) point (is_uncovered point gs fields (first_form (QueryOf.goal_step domains m gs n link)) (first_of link e) match w fv h.3), refl))
  cover_point_by node a total path fields partial i link num taken (inr h) =
      let fm = formable i link num.is in
      let nr = narrow i link num.is in
      let gs = fields_on domains m path in
      let w = only_above total fields (ends_within domains m total [] Start path fields node partial.leads) in
      placed domains m el formable narrow (Cover node a) total path fields partial (link ∷ []) None None (null_formula gs ∷ []) [] 0 [] (asked_to node a i link Null path num h.0)
      (fm, tt) (nr, tt) tt tt tt tt (taken, tt) refl
      (λ point t match fs ss front is l. (holds_one (null_formula gs) point (is_null point gs fields (end_form gs) match w (end_matches point gs fields match) h.1), refl))

  pub cover_point : (node : Node) (a total : ℕ) (path : List ℕ) (fields : List Placed) → MetBy domains m (Cover node a) total path fields → Laws.HasPoint domains m (Cover node a) total path fields
  cover_point node a total path fields h = cover_point_by node a total path fields h.partial h.met.0 h.met.1 h.met.2 h.met.3.0 h.met.3.1

  -- ---- Whole

  abbrev whole_variable : List ℕ → Arrow → ℕ
  whole_variable path link = QueryOf.division_at domains m path + divisions_in link.condition

  abbrev whole_on : List ℕ → Arrow → Form
  whole_on path link = no_multiple (end_form (fields_on domains m path)) (whole_variable path link)

  whole_asked : (node : Node) (a i : ℕ) (link : Arrow) (path : List ℕ) → IsNumbered m node a i link → Meeting.IsAsked domains m el formable narrow (Whole node a) path (link ∷ []) None None (whole_on path link ∷ []) (unit_rows (whole_variable path link) places_in_bits) 1
  whole_asked node a i link path p =
      let gs = fields_on domains m path in
      let n = QueryOf.division_at domains m path in
      ap (λ (o : Option Arrow). QueryOf.with_link domains m o gs n (λ x. QueryOf.whole_asked domains m gs n x)) (numbered_found m node a i link p)

  pub whole_meets : (node : Node) (a : ℕ) (path : List ℕ) (point : List ℤ) → IsGoal domains m (Whole node a) → Steps.LeadsThrough domains m Start path node → IsPoint (QueryOf.query_for domains m (Whole node a) path) point → Laws.Meets domains m (Whole node a) path point
  whole_meets node a path point is lt at =
      let link = is.1 in
      let gs = fields_on domains m path in
      found domains m el formable narrow (Whole node a) path point (link ∷ []) None None (whole_on path link ∷ []) (unit_rows (whole_variable path link) places_in_bits) 1 lt (whole_asked node a is.0 link path is.2)
      (formable is.0 link is.2.is, tt) tt tt at
      (λ p g. (is.0, link, is.2, (g.taken.0, (is.3, broken_is point (end_form gs) (whole_variable path link) (end_of p.fields) (end_matches point gs p.fields p.matches) (one_holds (whole_on path link) point g.holds)))))

  pub whole_point : (node : Node) (a total : ℕ) (path : List ℕ) (fields : List Placed) → MetBy domains m (Whole node a) total path fields → Laws.HasPoint domains m (Whole node a) total path fields
  whole_point node a total path fields h =
      let i = h.met.0 in
      let link = h.met.1 in
      let gs = fields_on domains m path in
      let q = whole_variable path link in
      let x = end_of fields in
      placed domains m el formable narrow (Whole node a) total path fields h.partial (link ∷ []) None None (whole_on path link ∷ []) (unit_rows q places_in_bits) 1 (int_div_euclid x (pos 8) ∷ []) (whole_asked node a i link path h.met.2)
      (formable i link h.met.2.is, tt) (narrow i link h.met.2.is, tt) tt tt tt tt (h.met.3.0, tt) refl
      (λ point t match fs ss front is l.
      let k : get_or point q (pos 0) ≡ int_div_euclid x (pos 8) = ap (λ (zs : List ℤ). get_or zs q (pos 0)) is ∙ at_end front [] (int_div_euclid x (pos 8)) q (l ∙ no_more q) in (
        holds_one (whole_on path link) point (is_broken point (end_form gs) q x (end_matches point gs fields match) k h.met.3.1.1),
        quotient_units point q places_in_bits x k (first_within domains m el formable narrow total path fields node h.partial),
      ))
    where
      no_more : (n : ℕ) → n + 0 + 0 ≡ n
      no_more n = omega arith
