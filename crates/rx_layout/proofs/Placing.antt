-- The queries of Position, Overlay and Grid.
use Rattle.std.proofs.Common.{◌≡◌, refl, sym, ap, subst, ◌∙◌, ℕ, ◌+◌, ◌*◌, ◌<◌, ◌^◌, arith, List, [], ◌∷◌, ◌++◌, true, get_or, ℤ, pos, ◌≤ℤ◌, ◌-ℤ◌, Option, Some, None, ◌⊎◌, inl, inr, append_assoc}
use Rattle.std.specs.Prelude.{slice_get}
use Rattle.std.specs.Int.{int_div_euclid}
use Rattle.std.proofs.lemmas.Int.{ints}
use Rattle.rx_linear.proofs.Joining.{both, and_true}
use Rattle.rx_types.specs.Domain.{Domain}
use Rattle.rx_types.specs.Environment.{Placed, Environment, in_message, place_of, end_of, bits_of}
use Rattle.rx_types.specs.Narrow.{places_in_bits, IsIn}
use Rattle.rx_graph.specs.declared.message.Node.{Node}
use Rattle.rx_graph.specs.declared.message.Node.TheVariants.{Start, At}
use Rattle.rx_graph.specs.Graph.{Arrow, Graph, limit_of, type_of, overlay_of}
use Rattle.rx_graph.specs.Elaborated.{IsElaborated}
use Rattle.rx_graph.specs.Paths.{first_of, size_of_target, IsTrue, IsPartial}
use Rattle.rx_graph.specs.Checks.{IsNumbered, size_to}
use Rattle.rx_graph.proofs.Bounded.{stays_within}
use Rattle.rx_graph.proofs.Unique.{at_field}
use Rattle.rx_forms.specs.declared.linear.Linear.{Linear}
use Rattle.rx_forms.specs.declared.linear.Form.{Form}
use Rattle.rx_forms.specs.Linear.{meets}
use Rattle.rx_forms.specs.Normal.{formed_of, divisions_in}
use Rattle.rx_forms.specs.Laws.{fields_on}
use Rattle.rx_forms.specs.Steps
use Rattle.rx_forms.specs.Steps.{Step, first_form, size_form, size_aspect, divisions_in_any, target_field}
use Rattle.rx_forms.specs.Links.{AreFormable, AreNarrow}
use Rattle.rx_forms.proofs.Quotients.{of_parts}
use Rattle.rx_forms.proofs.Extension.{at_end, two}
use Rattle.rx_forms.proofs.Matching.{represents}
use Rattle.rx_layout.specs.declared.goal.Goal.TheVariants.{Position, Overlay, Grid}
use Rattle.rx_layout.specs.Goals
use Rattle.rx_layout.specs.Goals.{source, IsMet, MetBy, IsGoal}
use Rattle.rx_layout.specs.QueryOf
use Rattle.rx_layout.specs.QueryOf.{position_formula, overlay_formula, grid_formula, unit_rows, interval_or, rest_interval}
use Rattle.rx_layout.specs.Laws
use Rattle.rx_layout.specs.Laws.{IsPoint}
use Rattle.rx_layout.proofs.Formulas.{position_is, is_position, unequal_is, is_unequal, grid_is}
use Rattle.rx_layout.proofs.Numbered.{numbered_found, one_numbered}
use Rattle.rx_layout.proofs.Placed.{ends_within, last_within}
use Rattle.rx_layout.proofs.Meeting
use Rattle.rx_layout.proofs.Meeting.{found, placed}
use Rattle.rx_layout.proofs.Targets.{numeric_aspect, narrow_aspect, type_at, first_value, size_value, size_quotient, size_units, quotient_units, value_within, is_off_grid}
use Rattle.rx_layout.proofs.Lists.{meet_all}

pub one_holds : (f : Form) (point : List ℤ) → meet_all point (f ∷ []) ≡ true → meets f point ≡ true
one_holds f point h = (both {a = meets f point} h).0

pub holds_one : (f : Form) (point : List ℤ) → meets f point ≡ true → meet_all point (f ∷ []) ≡ true
holds_one f point h = and_true h refl

module _ (domains : List Domain) (m : Graph) (el : IsElaborated domains m) (formable : AreFormable (limit_of domains m) m) (narrow : AreNarrow (limit_of domains m) m) where
  -- the Size of a target, by the type of the field that the link leads to
  size_at : (link : Arrow) (e : Environment) (f : ℕ) → link.target ≡ At f → size_of_target (type_of domains m (target_field link.target)) link e ≡ size_to domains m link e f
  size_at link e f h = ap (λ (t : Option Domain). size_of_target t link e) (type_at domains m link.target f h)

  -- ---- Position

  abbrev step_on : List ℕ → Arrow → Step
  step_on path link = QueryOf.goal_step domains m (fields_on domains m path) (QueryOf.division_at domains m path) link

  abbrev type_on : Arrow → Option Domain
  type_on link = type_of domains m (target_field link.target)

  abbrev position_on : List ℕ → Arrow → Form
  position_on path link = position_formula (first_form (step_on path link)) (size_form (type_on link) (step_on path link))

  position_asked : (node : Node) (a i : ℕ) (link : Arrow) (path : List ℕ) → IsNumbered m node a i link → Meeting.IsAsked domains m el formable narrow (Position node a) path (link ∷ []) link.first (size_aspect (type_on link) link.size) (position_on path link ∷ []) [] 0
  position_asked node a i link path p =
      let gs = fields_on domains m path in
      let n = QueryOf.division_at domains m path in
      ap (λ (o : Option Arrow). QueryOf.with_link domains m o gs n (λ x. QueryOf.position_asked domains m gs n x)) (numbered_found m node a i link p)

  pub position_meets : (node : Node) (a : ℕ) (path : List ℕ) (point : List ℤ) → IsGoal domains m (Position node a) → Steps.LeadsThrough domains m Start path node → IsPoint (QueryOf.query_for domains m (Position node a) path) point → Laws.Meets domains m (Position node a) path point
  position_meets node a path point is lt at =
      let link = is.1 in
      let fm = formable is.0 link is.2.is in
      let gs = fields_on domains m path in
      let n = QueryOf.division_at domains m path in
      found domains m el formable narrow (Position node a) path point (link ∷ []) link.first (size_aspect (type_on link) link.size) (position_on path link ∷ []) [] 0 lt (position_asked node a is.0 link path is.2)
      (fm, tt) fm.first (numeric_aspect (type_on link) link.size fm.size) at
      (λ p g.
      let e = in_message p.total p.fields in
      let r = represents point p.total gs p.fields p.length_is p.matches in
      let fv = first_value (limit_of domains m) point gs p.fields p.total r p.matches link n fm.first g.first_solved in
      let sv = size_value (limit_of domains m) point gs p.fields p.total r p.matches link n (type_on link) fm.size fv g.size_solved ∙ size_at link e is.3.0 is.3.1 in (
        is.0,
        link,
        is.2,
        (
          g.taken.0,
          (
            is.3.0,
            is.3.1,
            position_is point (first_form (step_on path link)) (size_form (type_on link) (step_on path link)) (first_of link e) (size_to domains m link e is.3.0) fv sv (one_holds (position_on path link) point g.holds),
          ),
        ),
      ))

  pub position_point : (node : Node) (a total : ℕ) (path : List ℕ) (fields : List Placed) → MetBy domains m (Position node a) total path fields → Laws.HasPoint domains m (Position node a) total path fields
  position_point node a total path fields h =
      let i = h.met.0 in
      let link = h.met.1 in
      let f = h.met.3.1.0 in
      let fm = formable i link h.met.2.is in
      let nr = narrow i link h.met.2.is in
      let gs = fields_on domains m path in
      let n = QueryOf.division_at domains m path in
      let e = in_message total fields in
      placed domains m el formable narrow (Position node a) total path fields h.partial (link ∷ []) link.first (size_aspect (type_on link) link.size) (position_on path link ∷ []) [] 0 [] (position_asked node a i link path h.met.2)
      (fm, tt) (nr, tt) fm.first nr.first (numeric_aspect (type_on link) link.size fm.size) (narrow_aspect (limit_of domains m) (type_on link) link.size nr.size) (h.met.3.0, tt) refl
      (λ point t match fs ss front is l.
      let r = represents point total gs fields t match in
      let fv = first_value (limit_of domains m) point gs fields total r match link n fm.first fs in
      let sv = size_value (limit_of domains m) point gs fields total r match link n (type_on link) fm.size fv ss ∙ size_at link e f h.met.3.1.1 in
      (holds_one (position_on path link) point (is_position point (first_form (step_on path link)) (size_form (type_on link) (step_on path link)) (first_of link e) (size_to domains m link e f) fv sv h.met.3.1.2), refl))

  -- ---- Overlay

  abbrev overlay_on : List ℕ → Arrow → ℕ → Form
  overlay_on path link x = overlay_formula (size_form (type_on link) (step_on path link)) (formed_of x (fields_on domains m path)).size

  overlay_asked : (node : Node) (a i : ℕ) (link : Arrow) (f x : ℕ) (path : List ℕ) → IsNumbered m node a i link → link.target ≡ At f → overlay_of (slice_get m.fields f) ≡ Some x
      → Meeting.IsAsked domains m el formable narrow (Overlay node a) path (link ∷ []) link.first (size_aspect (type_on link) link.size) (overlay_on path link x ∷ []) [] 0
  overlay_asked node a i link f x path p target over =
      let gs = fields_on domains m path in
      let n = QueryOf.division_at domains m path in
      ap (λ (o : Option Arrow). QueryOf.with_link domains m o gs n (λ l. QueryOf.overlay_on domains m (overlay_of (slice_get m.fields (target_field l.target))) gs n l)) (numbered_found m node a i link p)
      ∙ ap (λ (o : Option ℕ). QueryOf.overlay_on domains m o gs n link) (ap (λ (t : Node). overlay_of (slice_get m.fields (target_field t))) target ∙ over)

  pub overlay_meets : (node : Node) (a : ℕ) (path : List ℕ) (point : List ℤ) → IsGoal domains m (Overlay node a) → Steps.LeadsThrough domains m Start path node → IsPoint (QueryOf.query_for domains m (Overlay node a) path) point → Laws.Meets domains m (Overlay node a) path point
  overlay_meets node a path point is lt at =
      let link = is.1 in
      let f = is.3.0 in
      let x = is.3.1 in
      let fm = formable is.0 link is.2.is in
      let gs = fields_on domains m path in
      let n = QueryOf.division_at domains m path in
      found domains m el formable narrow (Overlay node a) path point (link ∷ []) link.first (size_aspect (type_on link) link.size) (overlay_on path link x ∷ []) [] 0 lt (overlay_asked node a is.0 link f x path is.2 is.3.2 is.3.3)
      (fm, tt) fm.first (numeric_aspect (type_on link) link.size fm.size) at
      (λ p g.
      let e = in_message p.total p.fields in
      let r = represents point p.total gs p.fields p.length_is p.matches in
      let fv = first_value (limit_of domains m) point gs p.fields p.total r p.matches link n fm.first g.first_solved in
      let sv = size_value (limit_of domains m) point gs p.fields p.total r p.matches link n (type_on link) fm.size fv g.size_solved ∙ size_at link e f is.3.2 in (
        is.0,
        link,
        is.2,
        (
          g.taken.0,
          (
            f,
            x,
            is.3.2,
            is.3.3,
            unequal_is point (size_form (type_on link) (step_on path link)) (formed_of x gs).size (size_to domains m link e f) (place_of x p.fields).size sv (r.places x).size (one_holds (overlay_on path link x) point g.holds),
          ),
        ),
      ))

  pub overlay_point : (node : Node) (a total : ℕ) (path : List ℕ) (fields : List Placed) → MetBy domains m (Overlay node a) total path fields → Laws.HasPoint domains m (Overlay node a) total path fields
  overlay_point node a total path fields h =
      let i = h.met.0 in
      let link = h.met.1 in
      let f = h.met.3.1.0 in
      let x = h.met.3.1.1 in
      let fm = formable i link h.met.2.is in
      let nr = narrow i link h.met.2.is in
      let gs = fields_on domains m path in
      let n = QueryOf.division_at domains m path in
      let e = in_message total fields in
      placed domains m el formable narrow (Overlay node a) total path fields h.partial (link ∷ []) link.first (size_aspect (type_on link) link.size) (overlay_on path link x ∷ []) [] 0 [] (overlay_asked node a i link f x path h.met.2 h.met.3.1.2 h.met.3.1.3)
      (fm, tt) (nr, tt) fm.first nr.first (numeric_aspect (type_on link) link.size fm.size) (narrow_aspect (limit_of domains m) (type_on link) link.size nr.size) (h.met.3.0, tt) refl
      (λ point t match fs ss front is l.
      let r = represents point total gs fields t match in
      let fv = first_value (limit_of domains m) point gs fields total r match link n fm.first fs in
      let sv = size_value (limit_of domains m) point gs fields total r match link n (type_on link) fm.size fv ss ∙ size_at link e f h.met.3.1.2 in
      (holds_one (overlay_on path link x) point (is_unequal point (size_form (type_on link) (step_on path link)) (formed_of x gs).size (size_to domains m link e f) (place_of x fields).size sv (r.places x).size h.met.3.1.4), refl))

  -- ---- Grid

  abbrev quotient_on : List ℕ → Arrow → ℕ
  quotient_on path link = QueryOf.division_at domains m path + divisions_in link.condition + divisions_in_any link.first + divisions_in_any link.size

  abbrev grid_on : List ℕ → Arrow → Form
  grid_on path link = grid_formula (first_form (step_on path link)) (size_form None (step_on path link)) (quotient_on path link)

  abbrev grid_units : List ℕ → Arrow → List Linear
  grid_units path link = unit_rows (quotient_on path link) (interval_or (limit_of domains m) link.first places_in_bits) ++ unit_rows (quotient_on path link + 1) (interval_or (limit_of domains m) link.size rest_interval)

  grid_asked : (node : Node) (a i : ℕ) (link : Arrow) (path : List ℕ) → IsNumbered m node a i link → Meeting.IsAsked domains m el formable narrow (Grid node a) path (link ∷ []) link.first link.size (grid_on path link ∷ []) (grid_units path link) 2
  grid_asked node a i link path p =
      let gs = fields_on domains m path in
      let n = QueryOf.division_at domains m path in
      ap (λ (o : Option Arrow). QueryOf.with_link domains m o gs n (λ x. QueryOf.grid_asked domains m gs n x)) (numbered_found m node a i link p)

  bytes_size : (link : Arrow) (e : Environment) (f : ℕ) → type_of domains m f ≡ None → size_of_target None link e ≡ size_to domains m link e f
  bytes_size link e f h = ap (λ (t : Option Domain). size_of_target t link e) (sym h)

  pub grid_meets : (node : Node) (a : ℕ) (path : List ℕ) (point : List ℤ) → IsGoal domains m (Grid node a) → Steps.LeadsThrough domains m Start path node → IsPoint (QueryOf.query_for domains m (Grid node a) path) point → Laws.Meets domains m (Grid node a) path point
  grid_meets node a path point is lt at =
      let link = is.1 in
      let f = is.3.0 in
      let fm = formable is.0 link is.2.is in
      let gs = fields_on domains m path in
      let n = QueryOf.division_at domains m path in
      found domains m el formable narrow (Grid node a) path point (link ∷ []) link.first link.size (grid_on path link ∷ []) (grid_units path link) 2 lt (grid_asked node a is.0 link path is.2)
      (fm, tt) fm.first fm.size at
      (λ p g.
      let e = in_message p.total p.fields in
      let r = represents point p.total gs p.fields p.length_is p.matches in
      let fv = first_value (limit_of domains m) point gs p.fields p.total r p.matches link n fm.first g.first_solved in
      let sv = size_value (limit_of domains m) point gs p.fields p.total r p.matches link n None fm.size fv g.size_solved ∙ bytes_size link e f is.3.2 in (
        is.0,
        link,
        is.2,
        (
          g.taken.0,
          (
            f,
            is.3.1,
            grid_is point (first_form (step_on path link)) (size_form None (step_on path link)) (quotient_on path link) (first_of link e) (size_to domains m link e f) fv sv (one_holds (grid_on path link) point g.holds),
          ),
        ),
      ))

  -- what a First that no aspect gives lies between
  end_in_bits : (total : ℕ) (z : ℤ) → total < 2 ^ 24 → pos 0 ≤ℤ z → z ≤ℤ pos (total * 8) → IsIn z places_in_bits
  end_in_bits total z s a b = record { above = a; below = omega (arith, ints, b, s) }

  pub first_within : (total : ℕ) (path : List ℕ) (fields : List Placed) (node : Node) → IsPartial domains m total path fields node → IsIn (end_of fields) places_in_bits
  first_within total path fields node h =
      let w = last_within total fields (ends_within domains m total [] Start path fields node h.leads) in
      end_in_bits total (end_of fields) h.short w.0 w.1

  either_second : {A B C : Type 0} → A ⊎ B → (B → C) → A ⊎ C
  either_second (inl a) f = inl a
  either_second (inr b) f = inr (f b)

  pub grid_point : (node : Node) (a total : ℕ) (path : List ℕ) (fields : List Placed) → IsGoal domains m (Grid node a) → MetBy domains m (Grid node a) total path fields → Laws.HasPoint domains m (Grid node a) total path fields
  grid_point node a total path fields goal h =
      let i = goal.0 in
      let link = goal.1 in
      let f = goal.3.0 in
      let e = in_message total fields in
      let same = one_numbered m node a h.met.0 i h.met.1 link h.met.2 goal.2 in
      let met = subst (λ l. IsTrue l e × Goals.IsOffGrid domains m e l) same h.met.3 in
      let field_same : met.1.0 ≡ f = at_field met.1.0 f (sym met.1.1 ∙ goal.3.1) in
      let or = either_second met.1.2 (λ n. subst (λ z. Goals.IsNoMultipleOf8 z) (ap (λ (g : ℕ). size_to domains m link e g) field_same ∙ sym (bytes_size link e f goal.3.2)) n) in
      let fm = formable i link goal.2.is in
      let nr = narrow i link goal.2.is in
      let gs = fields_on domains m path in
      let n = QueryOf.division_at domains m path in
      let q = quotient_on path link in
      let x = first_of link e in
      let y = size_of_target None link e in
      let w = stays_within domains m el total path fields node h.partial in
      let qs = int_div_euclid x (pos 8) ∷ size_quotient link.size y ∷ [] in
      placed domains m el formable narrow (Grid node a) total path fields h.partial (link ∷ []) link.first link.size (grid_on path link ∷ []) (grid_units path link) 2 qs (grid_asked node a i link path goal.2)
      (fm, tt) (nr, tt) fm.first nr.first fm.size nr.size (met.0, tt) refl
      (λ point t match fs ss front is l.
      let r = represents point total gs fields t match in
      let fv = first_value (limit_of domains m) point gs fields total r match link n fm.first fs in
      let sv = size_value (limit_of domains m) point gs fields total r match link n None fm.size fv ss in
      let k : get_or point q (pos 0) ≡ int_div_euclid x (pos 8) = ap (λ (zs : List ℤ). get_or zs q (pos 0)) is ∙ at_end front (size_quotient link.size y ∷ []) (int_div_euclid x (pos 8)) q l in
      let j : get_or point (q + 1) (pos 0) ≡ size_quotient link.size y = ap (λ (zs : List ℤ). get_or zs (q + 1) (pos 0)) (is ∙ sym (append_assoc front (int_div_euclid x (pos 8) ∷ []) (size_quotient link.size y ∷ [])))
      ∙ at_end (front ++ int_div_euclid x (pos 8) ∷ []) [] (size_quotient link.size y) (q + 1) (two front (int_div_euclid x (pos 8) ∷ []) q 1 l refl) in (
        holds_one (grid_on path link) point (is_off_grid point e link.size (first_form (step_on path link)) (size_form None (step_on path link)) q x fv sv k j or),
        of_parts point (unit_rows q (interval_or (limit_of domains m) link.first places_in_bits)) (unit_rows (q + 1) (interval_or (limit_of domains m) link.size rest_interval))
            (quotient_units point q (interval_or (limit_of domains m) link.first places_in_bits) x k (value_within (limit_of domains m) e w link.first places_in_bits (end_of fields) nr.first (first_within total path fields node h.partial)))
            (size_units (limit_of domains m) e w point (q + 1) link.size (bits_of e -ℤ x) nr.size j),
      ))
