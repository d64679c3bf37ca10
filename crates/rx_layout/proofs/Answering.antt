-- The query of what was gathered is that of the path and the goal.
use Rattle.std.proofs.Common.{◌≡◌, refl, sym, ap, ◌∙◌, ℕ, ◌+◌, ◌<◌, List, [], ◌∷◌, ◌++◌, map, Bool, if◌then◌else◌, append_assoc, Vec, Global}
use Rattle.std.specs.List.{flat_map}
use Rattle.rx_types.specs.Domain.{Domain, size_of, IsProper, Integer, Enumeration}
use Rattle.rx_graph.specs.declared.message.Node.{Node}
use Rattle.rx_graph.specs.declared.message.Node.TheVariants.{Start, At}
use Rattle.rx_graph.specs.Graph.{Arrow, Graph, type_of, limit_of}
use Rattle.rx_graph.specs.Cycles.{IsPath}
use Rattle.rx_graph.specs.Elaborated.{IsElaborated}
use Rattle.rx_forms.specs.declared.linear.Linear.{Linear}
use Rattle.rx_forms.specs.declared.linear.Form.{Form, AtLeast, All}
use Rattle.rx_forms.specs.declared.builder.Builder.{Builder}
use Rattle.rx_forms.specs.declared.field.FieldForms.{FieldForms}
use Rattle.rx_forms.specs.Code.{formed_all}
use Rattle.rx_forms.specs.Normal.{Formed}
use Rattle.rx_forms.specs.Steps
use Rattle.rx_forms.specs.Steps.{Step, link_then, links_on, scalars_on, place_forms, condition_form, division_forms, type_form_any, into_fields}
use Rattle.rx_forms.specs.Links.{AreFormable, AreNarrow}
use Rattle.rx_forms.specs.Laws.{fields_on}
use Rattle.rx_forms.specs.Fronts.{Front, front_of, first_front, after_links}
use Rattle.rx_forms.proofs.Looping.{is_field}
use Rattle.rx_forms.proofs.Gathering.{fields_after, division_is, rows_after, conditions_after}
use Rattle.rx_layout.proofs.Stages
use Rattle.rx_layout.specs.declared.goal.Goal.{Goal}
use Rattle.rx_layout.specs.Goals.{source, IsGoal}
use Rattle.rx_layout.specs.Types.{type_form}
use Rattle.rx_layout.specs.Parts.{query_of, all_of, parts_of}
use Rattle.rx_layout.specs.Laid
use Rattle.rx_layout.specs.QueryOf
use Rattle.rx_layout.specs.QueryOf.{Asked, rows, length_form}
use Rattle.rx_layout.specs.Laid.{end_front, with_asked, HasForms, placed, behind}
use Rattle.rx_layout.specs.TypedPath.{TypedPath}
use Rattle.rx_layout.specs.declared.asked.Asked as code
use Rattle.rx_layout.proofs.Flat.{flat_parts, four_parts}
use Rattle.rx_layout.proofs.Stepping.{formed_steps, types_same, places_same, overlays_same}
use Rattle.rx_layout.proofs.Units.{field_proper}
use Rattle.rx_layout.proofs.Whole.{leads_through, source_is_no_null}

abbrev whole : List Form → List Form → List Form → List Form → List Form → List Form
whole types places overlays conditions last = types ++ (length_form ∷ (places ++ (overlays ++ (conditions ++ last))))

regroup : (t p o c last : List Form) → whole t p o c [] ++ last ≡ whole t p o c last
regroup t p o c last =
    append_assoc t (length_form ∷ (p ++ (o ++ (c ++ [])))) last
    ∙ ap (λ x. t ++ (length_form ∷ x)) (append_assoc p (o ++ (c ++ [])) last ∙ ap (λ x. p ++ x) (append_assoc o (c ++ []) last ∙ ap (λ x. o ++ x) (append_assoc c [] last)))

module _ (domains : List Domain) (m : Graph) where
  -- ---- a path through fields

  links_all : (at : Node) (path : List ℕ) (end : Node) → Steps.LeadsThrough domains m at path end → into_fields (links_on domains m path) ≡ links_on domains m path
  links_all at [] end h = refl
  links_all at (i ∷ path) end h =
      let link = h.0 in
      let more = links_on domains m path in
      let e = ap (λ o. link_then o more) h.2 in
      ap into_fields e
      ∙ ap (λ (b : Bool). if b then link ∷ into_fields more else into_fields more) (is_field link h.1 h.4)
      ∙ ap (λ ls. link ∷ ls) (links_all (At h.1) path end h.5)
      ∙ sym e

  pub path_links : IsElaborated domains m → AreFormable (limit_of domains m) m → AreNarrow (limit_of domains m) m → (goal : Goal) (path : List ℕ) → IsGoal domains m goal → IsPath m Start path (source goal) → into_fields (links_on domains m path) ≡ links_on domains m path
  path_links el formable narrow goal path is h = links_all Start path (source goal) (leads_through domains m el formable narrow Start path (source goal) h (source_is_no_null domains m el formable narrow goal is))

  proper_small : (t : Domain) → IsProper t → size_of t < 64
  proper_small (Integer first last size) h = h.1
  proper_small (Enumeration literals size valid) h = h.1

  pub small_types : IsElaborated domains m → Laid.HasSmallTypes domains m
  small_types el f t e = proper_small t (field_proper domains m el f _ t refl e)

  pub proper_types : IsElaborated domains m → Laid.HasProperTypes domains m
  proper_types el f t e = field_proper domains m el f _ t refl e

  -- ---- the query

  abbrev divided : Step → List Linear
  divided s = division_forms (limit_of domains m) (type_of domains m s.field) s

  whole_same : (t u p q o v c d l k : List Form) → t ≡ u → p ≡ q → o ≡ v → c ≡ d → l ≡ k → whole t p o c l ≡ whole u q v d k
  whole_same t u p q o v c d l k a b e f g =
      ap (λ x. whole x p o c l) a ∙ ap (λ x. whole u x o c l) b ∙ ap (λ x. whole u q x c l) e ∙ ap (λ x. whole u q v x l) f ∙ ap (λ x. whole u q v d x) g

  made : (b : Builder) (steps : List Step) (forms : List Form) (divisions : List Linear) (n : ℕ) → b.work.next ≡ n
      → map (Laid.typed_field domains m) b.fields.items ≡ map (λ s. type_form_any type_form (type_of domains m s.field) s) steps
      → map placed b.fields.items ≡ map (λ s. rows (place_forms (type_of domains m s.field) s)) steps
      → Laid.laid_from domains m [] b.fields.items ≡ map (λ s. Steps.overlay_form domains m s) steps
      → b.conditions ≡ map condition_form steps ++ forms
      → b.work.rows ≡ flat_map divided steps ++ divisions
      → query_of b.work.next (parts_of b.work.next (Stages.gathered_form domains m b)) ≡ query_of n (parts_of n (All (QueryOf.path_forms domains m steps forms divisions)))
  made b steps forms divisions n e types places overlays conditions rest =
      let t = map (λ s. type_form_any type_form (type_of domains m s.field) s) steps in
      let p = map (λ s. rows (place_forms (type_of domains m s.field) s)) steps in
      let o = map (λ s. Steps.overlay_form domains m s) steps in
      let c = map condition_form steps in
      let flat = rows (flat_map divided steps ++ divisions) ∷ [] in
      let last = map (λ s. rows (divided s)) steps ++ rows divisions ∷ [] in
      let front = whole t p o (c ++ forms) [] in
      ap (λ k. query_of k (parts_of k (Stages.gathered_form domains m b))) e
      ∙ ap (λ x. query_of n (parts_of n (All x))) (whole_same _ t _ p _ o _ (c ++ forms) (rows b.work.rows ∷ []) flat types places overlays conditions (ap (λ r. rows r ∷ []) rest) ∙ sym (regroup t p o (c ++ forms) flat))
      ∙ ap (λ x. query_of n x) (flat_parts n front divided steps divisions)
      ∙ ap (λ x. query_of n (parts_of n (All x))) (regroup t p o (c ++ forms) last ∙ ap (λ x. t ++ (length_form ∷ (p ++ (o ++ x)))) (append_assoc c forms last))

  abbrev front_at : List Arrow → Front
  front_at links = after_links domains m (first_front (scalars_on domains m links)) links

  pub query_made : (b : Builder) (goal : Goal) (path : List ℕ) → front_of b ≡ Stages.behind_path domains m path goal → into_fields (links_on domains m path) ≡ links_on domains m path
      → query_of b.work.next (parts_of b.work.next (Stages.gathered_form domains m b)) ≡ QueryOf.query_for domains m goal path
  query_made b goal path h all =
      let links = links_on domains m path in
      let s = scalars_on domains m links in
      let start = first_front s in
      let front = front_at links in
      let steps = Steps.steps_of domains m path in
      let asked = QueryOf.asked_at domains m goal path in
      let fields = fields_after domains m start links in
      let division = division_is domains m start links in
      let a = ap (λ (gs : List Formed). QueryOf.asked_by domains m goal gs front.division) fields ∙ ap (λ (d : ℕ). QueryOf.asked_by domains m goal (fields_on domains m path) d) division in
      let e = h ∙ ap (λ (ls : List Arrow). behind (QueryOf.asked_by domains m goal (front_at ls).fields (front_at ls).division) (front_at ls)) all ∙ ap (λ (x : Asked). behind x front) a in
      let gs = ap (λ (x : Front). x.fields) e ∙ fields ∙ formed_steps domains m [] 1 (1 + s) links in
      made b steps asked.forms asked.divisions asked.variables
      (ap (λ (x : Front). x.division) e)
      (types_same domains m b.fields.items steps gs)
      (places_same domains m b.fields.items steps gs)
      (overlays_same domains m b.fields.items 1 (1 + s) links gs)
      (ap (λ (x : Front). x.conditions) e ∙ ap (λ x. x ++ asked.forms) (conditions_after domains m start links))
      (ap (λ (x : Front). x.rows) e ∙ ap (λ x. x ++ asked.divisions) (rows_after domains m start links))

  -- ---- what is laid on top of a path

  abbrev sums : List Linear → List Form
  sums fs = map (λ f. AtLeast f) fs

  -- what stands behind a path whose fields have these forms, with what is asked there
  abbrev builder : (fields : Vec FieldForms Global) (front : Front) (asked : code.Asked) → Builder
  builder fields front asked = record {
    fields = fields;
    scalar = front.scalar;
    work = record { next = asked.work.next; rows = front.rows ++ asked.work.rows };
    firsts = front.firsts;
    sizes = front.sizes;
    conditions = front.conditions ++ asked.forms;
  }

  pub front_laid : (fields : Vec FieldForms Global) (path : List ℕ) (goal : Goal) (asked : code.Asked)
      → formed_all fields.items ≡ (Laid.path_front domains m path).fields
      → with_asked (end_front (record { domains = domains; graph = m; path = path })) asked ≡ Stages.behind_end domains m path goal
      → front_of (builder fields (Laid.path_front domains m path) asked) ≡ Stages.behind_path domains m path goal
  front_laid fields path goal asked e h =
      let front = Laid.path_front domains m path in
      ap (λ (fs : List Formed). record front { fields = fs; division = asked.work.next; rows = front.rows ++ asked.work.rows; conditions = front.conditions ++ asked.forms }) e
      ∙ ap (λ (x : Front). record front { division = x.division; rows = front.rows ++ x.rows; conditions = front.conditions ++ x.conditions }) h

  facts_first : (fields : List FieldForms) (c a last : List Form) → Laid.path_facts domains m fields c ++ (a ++ last) ≡ whole (map (Laid.typed_field domains m) fields) (map placed fields) (Laid.laid_from domains m [] fields) (c ++ a) last
  facts_first fields c a last =
      let t = map (Laid.typed_field domains m) fields in
      let p = map placed fields in
      let o = Laid.laid_from domains m [] fields in
      append_assoc t (length_form ∷ (p ++ (o ++ c))) (a ++ last)
      ∙ ap (λ x. t ++ (length_form ∷ x)) (append_assoc p (o ++ c) (a ++ last) ∙ ap (λ x. p ++ x) (append_assoc o c (a ++ last) ∙ ap (λ x. o ++ x) (sym (append_assoc c a last))))

  pub query_laid : (fields : Vec FieldForms Global) (path : List ℕ) (goal : Goal) (next : ℕ) (facts rows : List Form) (asked : code.Asked)
      → HasForms (record { domains = domains; graph = m; path = path }) fields.items next facts rows
      → with_asked (end_front (record { domains = domains; graph = m; path = path })) asked ≡ Stages.behind_end domains m path goal
      → into_fields (links_on domains m path) ≡ links_on domains m path
      → query_of asked.work.next (all_of (map (parts_of asked.work.next) (facts ++ (asked.forms ++ (rows ++ sums asked.work.rows))))) ≡ QueryOf.query_for domains m goal path
  query_laid fields path goal next facts rows asked has h all =
      let front = Laid.path_front domains m path in
      let n = asked.work.next in
      let b = builder fields front asked in
      let last = QueryOf.rows (front.rows ++ asked.work.rows) ∷ [] in
      ap (λ (fs : List Form). query_of n (all_of (map (parts_of n) (fs ++ (asked.forms ++ (rows ++ sums asked.work.rows)))))) has.facts_are
      ∙ ap (λ (fs : List Form). query_of n (all_of (map (parts_of n) (Laid.path_facts domains m fields.items front.conditions ++ (asked.forms ++ (fs ++ sums asked.work.rows)))))) has.rows_are
      ∙ ap (λ x. query_of n x) (four_parts n (Laid.path_facts domains m fields.items front.conditions) asked.forms front.rows asked.work.rows)
      ∙ ap (λ (fs : List Form). query_of n (parts_of n (All fs))) (facts_first fields.items front.conditions asked.forms last)
      ∙ query_made b goal path (front_laid fields path goal asked has.fields_are h) all

-- the same of a path that the code has under another name, and of facts that it has so
pub query_is : (p q : TypedPath) (fields : Vec FieldForms Global) (goal : Goal) (next : ℕ) (facts rows : List Form) (asked : code.Asked) (all : List Form) → p ≡ q → HasForms p fields.items next facts rows
    → with_asked (end_front p) asked ≡ Stages.behind_end p.domains p.graph p.path goal → into_fields (links_on p.domains p.graph p.path) ≡ links_on p.domains p.graph p.path
    → all ≡ facts ++ (asked.forms ++ (rows ++ map (λ f. AtLeast f) asked.work.rows))
    → query_of asked.work.next (all_of (map (parts_of asked.work.next) all)) ≡ QueryOf.query_for q.domains q.graph goal q.path
query_is p q fields goal next facts rows asked all e has h links k =
    ap (λ (fs : List Form). query_of asked.work.next (all_of (map (parts_of asked.work.next) fs))) k
    ∙ query_laid p.domains p.graph fields p.path goal next facts rows asked has h links
    ∙ ap (λ (x : TypedPath). QueryOf.query_for x.domains x.graph goal x.path) e
