-- What a goal asks at the end of a path fits a system.
use Rattle.std.proofs.Common.{◌≡◌, refl, sym, ap, subst, ◌∙◌, ℕ, ◌+◌, ◌≤◌, arith, List, [], ◌∷◌, ◌++◌, length, Bool, true, false, if◌then◌else◌, slice_get, pos, negsuc, Option, Some, None}
use Rattle.std.specs.Prelude.{nat_le}
use Rattle.std.specs.List.{AllByRecursion}
use Rattle.rx_linear.proofs.Joining.{both, and_true}
use Rattle.rx_types.specs.declared.interval.Interval.{Interval}
use Rattle.rx_types.specs.Domain.{Domain}
use Rattle.rx_types.specs.Tree.{Tree}
use Rattle.rx_types.specs.Narrow.{IsShort, IsNarrow}
use Rattle.rx_graph.specs.Graph.{Arrow, Graph, limit_of}
use Rattle.rx_forms.specs.declared.linear.Linear.{Linear}
use Rattle.rx_forms.specs.declared.linear.Form.{Form}
use Rattle.rx_forms.specs.Normal.{Formed, bits}
use Rattle.rx_forms.specs.Limits.{all_kept, is_within}
use Rattle.rx_forms.specs.Steps.{form_or, divisions_any, divisions_in_any, size_aspect, link_then, links_on, scalars_on, leads_to_field, met_any, into_fields}
use Rattle.rx_forms.specs.Links.{IsNarrowIfAny, IsNarrowLink, AreNarrow}
use Rattle.rx_forms.specs.Expressions.{aspect_within, size_otherwise}
use Rattle.rx_forms.specs.Fronts.{Front, first_front, after_links, links_within, after_end}
use Rattle.rx_forms.proofs.Gathering.{division_is}
use Rattle.rx_layout.specs.Fitting.{fits, IsLowTo, IsFitting}
use Rattle.rx_layout.specs.Laid
use Rattle.rx_layout.specs.Laid.{behind}
use Rattle.rx_layout.proofs.Stages.{formula_behind, units_behind}
use Rattle.rx_layout.specs.QueryOf.{unit_rows}
use Rattle.rx_layout.proofs.PathsFit.{path_fits}
use Rattle.rx_layout.proofs.Stepping.{term_length}
use Rattle.rx_layout.proofs.Bounds.{low_to, weighted_width}
use Rattle.rx_layout.proofs.FrontsFit.{end_fits, any_fits, each_wider, join_rows, join_facts, said_width}
use Rattle.rx_layout.proofs.FormulasFit.{units_fit}

-- the condition of a link, and a First or a Size, stay within the path limit, where the division variables begin at n
abbrev pub Within : Front → ℕ → Arrow → Type 0
Within front n link = is_within front.fields n link.condition ≡ true

abbrev pub AspectWithin : Front → ℕ → Option Tree → Linear → Type 0
AspectWithin front n x otherwise = aspect_within front.fields n x (form_or x front.fields n otherwise) ≡ true

-- the next variable and the rows behind a First or a Size
abbrev pub behind_any : ℕ → Option Tree → ℕ
behind_any n x = n + divisions_in_any x

abbrev pub rows_any : (ℕ → ℕ) → List Formed → List Linear → ℕ → Option Tree → List Linear
rows_any limit fields rows n x = rows ++ divisions_any limit fields n x

abbrev pub IsWide : Linear → ℕ → Type 0
IsWide f n = length f.coefficients ≤ n

-- whatever fits before, fits behind
abbrev pub FitsStep : Front → Front → Type 0
FitsStep old new = (n : ℕ) → new.division ≤ n → IsFitting n old → IsFitting n new

pub then_step : (a b c : Front) → FitsStep a b → FitsStep b c → b.division ≤ c.division → FitsStep a c
then_step a b c p q h n r fit = q n r (p n (omega (arith, h, r)) fit)

pub push_fits : (n : ℕ) (front new : Front) (g : Form) → new ≡ formula_behind (g ∷ []) front → IsFitting n front → fits n g ≡ true → IsFitting n new
push_fits n front new g e h k =
    subst (λ (x : Front). IsFitting n x) (sym e)
    (record { some = h.some; fields = h.fields; rows = h.rows; conditions = join_facts n front.conditions (g ∷ []) h.conditions (and_true k refl) })

pub units_step : (front new : Front) (i : Interval) → IsShort i → new ≡ units_behind (unit_rows front.division i) 1 front → FitsStep front new
units_step front new i s e n r h =
    let d = ap (λ (x : Front). x.division) e in
    subst (λ (x : Front). IsFitting n x) (sym e)
    (record {
      some = omega arith;
      fields = each_wider front.division (front.division + 1) front.fields (omega arith) h.fields;
      rows = join_rows n front.rows (unit_rows front.division i) h.rows (units_fit n front.division i (omega (arith, d, r)) s);
      conditions = h.conditions;
    })

pub other_width : (type : Option Domain) (first : Linear) (size : Option Tree) (d : ℕ) → 1 ≤ d → length first.coefficients ≤ d → length (size_otherwise type first).coefficients ≤ d + divisions_in_any (size_aspect type size)
other_width (Some t) first size d h w = omega arith
other_width None first size d h w =
    let one = term_length 0 (pos 8) in
    weighted_width bits.coefficients first.coefficients (pos 1) (negsuc 0) (d + divisions_in_any size) (omega (arith, one, h)) (omega (arith, w))

pub aspect_low : (front : Front) (x : Option Tree) (otherwise f : Linear) (next : ℕ) → next ≡ front.division + divisions_in_any x → f ≡ form_or x front.fields front.division otherwise
    → aspect_within front.fields front.division x (form_or x front.fields front.division otherwise) ≡ true → (n : ℕ) → IsFitting n front → length otherwise.coefficients ≤ front.division + divisions_in_any x → IsLowTo next f
aspect_low front x otherwise f next e v w n h o =
    let d = front.division in
    let g = form_or x front.fields d otherwise in
    let k = (both {a = nat_le (d + divisions_in_any x) 190} w).1 in
    let low = (both {a = all_kept (met_any front.fields d x)} k).1 in
    let wide = said_width d d front.fields x otherwise (omega arith) h.some h.fields o in
    subst (λ (y : Linear). IsLowTo next y) (sym v) (low_to next g (omega (arith, wide, e)) low)

module _ (domains : List Domain) (m : Graph) where
  pub condition_step : (front new : Front) (link : Arrow) → IsNarrow (limit_of domains m) link.condition → new ≡ after_end domains m front link → is_within front.fields front.division link.condition ≡ true → FitsStep front new
  condition_step front new link narrow e w n r h =
      let d = ap (λ (x : Front). x.division) e in
      subst (λ (x : Front). IsFitting n x) (sym e) (end_fits domains m n front link narrow w (omega (arith, d, r)) h)

  pub aspect_step : (front new : Front) (x : Option Tree) (f : Linear) → IsNarrowIfAny (limit_of domains m) x → new ≡ Laid.after_any domains m x front → aspect_within front.fields front.division x f ≡ true → FitsStep front new
  aspect_step front new x f narrow e w n r h =
      let d = ap (λ (x : Front). x.division) e in
      subst (λ (y : Front). IsFitting n y) (sym e) (any_fits domains m n front x f narrow w (omega (arith, d, r)) h)

  -- ---- a whole path

  -- the links of a path into fields are narrow
  then_narrow : (limit : ℕ → ℕ) (o : Option Arrow) (links : List Arrow) → ((l : Arrow) → o ≡ Some l → IsNarrowLink limit l) → AllByRecursion (λ l. IsNarrowLink limit l) (into_fields links) → AllByRecursion (λ l. IsNarrowLink limit l) (into_fields (link_then o links))
  then_narrow limit None links h rest = rest
  then_narrow limit (Some l) links h rest = by_target (leads_to_field l)
    where
      by_target : (b : Bool) → AllByRecursion (λ l. IsNarrowLink limit l) (if b then l ∷ into_fields links else into_fields links)
      by_target true = (h l refl, rest)
      by_target false = rest

  path_narrow : (limit : ℕ → ℕ) (path : List ℕ) → AreNarrow limit m → AllByRecursion (λ l. IsNarrowLink limit l) (into_fields (links_on domains m path))
  path_narrow limit [] h = tt
  path_narrow limit (i ∷ path) h = then_narrow limit (slice_get m.links i) (links_on domains m path) (λ l e. h i l e) (path_narrow limit path h)

  pub first_fits : (n count : ℕ) (front : Front) → front ≡ first_front count → IsFitting n front
  first_fits n count front e = subst (λ (x : Front). IsFitting n x) (sym e) (record { some = omega arith; fields = tt; rows = refl; conditions = refl })

  -- what is gathered along the path
  pub front_fits : (n count : ℕ) (path : List ℕ) (front new : Front) → AreNarrow (limit_of domains m) m → front ≡ first_front count → count ≡ scalars_on domains m (into_fields (links_on domains m path))
      → new ≡ after_links domains m front (into_fields (links_on domains m path)) → links_within domains m front (into_fields (links_on domains m path)) ≡ true → new.division ≤ n → IsFitting n new
  front_fits n count path front new narrow e k g w r =
      let links = into_fields (links_on domains m path) in
      let up = ap (λ (x : Front). x.division) g ∙ division_is domains m front links in
      let scalar = ap (λ (x : Front). x.scalar) e in
      let division = ap (λ (x : Front). x.division) e in
      subst (λ (x : Front). IsFitting n x) (sym g)
      (path_fits domains m n front links (path_narrow (limit_of domains m) path narrow) w (omega (arith, up, r)) (omega (arith, scalar, division, k)) (first_fits n count front e))
