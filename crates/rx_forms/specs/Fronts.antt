-- What is gathered along a path, link by link.
--   Front                    what stands before a link: fields, the numbers of the next variables, and what was gathered
--   after_link, after_links  what stands behind a link into a field, and behind several
--   first_at, size_at, after_field, after_place    the First and the Size of a link, and what stands behind its field
--   after_end, after_ends    what stands behind the condition of a link at the end, and behind several
--   after_route, after_path    what stands behind a path, and behind the conditions at its end
--   route_within, path_within  whether these stay within the path limit
--   Gathers                  what a call that gathers does to what stands before it
--   ends_of, forms_in         which links are asked for at the end, and what was gathered as forms
--   link_within, links_within, end_within, ends_within    whether they stay within the path limit
use Rattle.std.specs.Prelude.{◌≡◌, Result, IfErr, OnOk, List, [], ◌∷◌, ◌++◌, ℕ, ◌+◌, Bool, true, false, ◌&&◌, nat_le, if◌then◌else◌, Option}
use Rattle.rx_types.specs.Domain.{Domain}
use Rattle.rx_graph.specs.Graph.{Arrow, Graph, type_of, limit_of}
use Rattle.rx_forms.specs.declared.fault.FormFault.{FormFault}
use Rattle.rx_forms.specs.declared.fault.FormFault.TheVariants.{PathLimit}
use Rattle.rx_forms.specs.declared.linear.Linear.{Linear}
use Rattle.rx_forms.specs.declared.linear.Form.{Form}
use Rattle.rx_forms.specs.declared.builder.Builder.{Builder}
use Rattle.rx_forms.specs.declared.forms.Forms.{Forms}
use Rattle.rx_forms.specs.Linear.{plus}
use Rattle.rx_forms.specs.Normal.{Formed, divisions_in, condition}
use Rattle.rx_forms.specs.Divisions.{divisions}
use Rattle.rx_forms.specs.Limits.{is_low, all_kept, is_within}
use Rattle.rx_forms.specs.Steps.{Step, form_or, end_form, size_aspect, divisions_in_any, divisions_any, scalars_in, first_form, size_form, condition_form, division_forms, formed_at, next_scalar, next_division, target_field, links_on, met_at, into_fields, others}
use Rattle.rx_forms.specs.Expressions.{aspect_within, size_otherwise, number_at}
use Rattle.rx_forms.specs.Code.{formed_all}

pub record Front : Type 0 where
  pub fields : List Formed
  pub scalar : ℕ
  pub division : ℕ
  pub rows : List Linear
  pub firsts : List Linear
  pub sizes : List Linear
  pub conditions : List Form

-- A call that gathers: the new front is the expected one, and it stays within the path limit. It answers PathLimit only where
-- that is passed.
pub record Gathers (result : Result (Unit {0}) FormFault) (new expected : Front) (kept : Bool) : Type 0 where
  pub gone : OnOk result (new ≡ expected)
  pub within : OnOk result (kept ≡ true)
  pub limit : IfErr result (λ e. e ≡ PathLimit → kept ≡ false)

-- what the code keeps
abbrev pub front_of : Builder → Front
front_of b = record { fields = formed_all b.fields.items; scalar = b.scalar; division = b.work.next; rows = b.work.rows; firsts = b.firsts; sizes = b.sizes; conditions = b.conditions }

-- all links, or those that do not lead to fields
abbrev pub ends_of : Bool → List Arrow → List Arrow
ends_of all links = if all then links else others links

-- the link behind what stands before it
abbrev pub step_at : Front → Arrow → Step
step_at front link = record { before = front.fields; scalar = front.scalar; division = front.division; link = link; field = target_field link.target }

-- nothing yet: the length is variable 0, and then come so many scalars
abbrev pub first_front : ℕ → Front
first_front scalars = record { fields = []; scalar = 1; division = 1 + scalars; rows = []; firsts = []; sizes = []; conditions = [] }

-- ---- behind the condition of a link into a field

abbrev pub first_at : Front → Arrow → Linear
first_at front link = form_or link.first front.fields front.division (end_form front.fields)

abbrev pub behind_first : Front → Arrow → ℕ
behind_first front link = front.division + divisions_in_any link.first

abbrev pub size_at : Option Domain → Front → Arrow → Linear
size_at type front link = form_or (size_aspect type link.size) front.fields (behind_first front link) (size_otherwise type (first_at front link))

abbrev pub place_within : Option Domain → Front → Arrow → Bool
place_within type front link =
    aspect_within front.fields front.division link.first (first_at front link)
    && (aspect_within front.fields (behind_first front link) (size_aspect type link.size) (size_at type front link)
    && is_low (plus (first_at front link) (size_at type front link)))

-- a field with its First, its Size and its end
abbrev pub after_field : Option Domain → ℕ → Linear → Linear → Front → Front
after_field type field first size front = record front {
  fields = front.fields ++ (record { field = field; first = first; size = size; end = plus first size; number = number_at type front.scalar }) ∷ [];
  scalar = front.scalar + scalars_in type;
  firsts = front.firsts ++ first ∷ [];
  sizes = front.sizes ++ size ∷ [];
}

module _ (domains : List Domain) (m : Graph) where
  abbrev pub after_step : Front → Step → Front
  after_step front step = record {
    fields = front.fields ++ formed_at domains m step ∷ [];
    scalar = next_scalar domains m step;
    division = next_division domains m step;
    rows = front.rows ++ division_forms (limit_of domains m) (type_of domains m step.field) step;
    firsts = front.firsts ++ first_form step ∷ [];
    sizes = front.sizes ++ size_form (type_of domains m step.field) step ∷ [];
    conditions = front.conditions ++ condition_form step ∷ [];
  }

  abbrev pub after_link : Front → Arrow → Front
  after_link front link = after_step front (step_at front link)

  abbrev pub step_within : Step → Bool
  step_within step = nat_le (next_division domains m step) 190 && all_kept (met_at (type_of domains m step.field) step)

  abbrev pub link_within : Front → Arrow → Bool
  link_within front link = step_within (step_at front link)

  abbrev pub after_links : Front → List Arrow → Front
  after_links front [] = front
  after_links front (link ∷ links) = after_links (after_link front link) links

  abbrev pub links_within : Front → List Arrow → Bool
  links_within front [] = true
  links_within front (link ∷ links) = link_within front link && links_within (after_link front link) links

  abbrev pub after_end : Front → Arrow → Front
  after_end front link = record front {
    division = front.division + divisions_in link.condition;
    rows = front.rows ++ divisions (limit_of domains m) front.fields front.division link.condition;
    conditions = front.conditions ++ condition front.fields front.division true link.condition ∷ [];
  }

  -- the First and the Size of a link, whose divisions are gathered
  abbrev pub after_aspects : Option Domain → Arrow → Front → Front
  after_aspects type link front = record front {
    division = behind_first front link + divisions_in_any (size_aspect type link.size);
    rows = front.rows ++ (divisions_any (limit_of domains m) front.fields front.division link.first ++ divisions_any (limit_of domains m) front.fields (behind_first front link) (size_aspect type link.size));
  }

  abbrev pub after_place : Option Domain → Front → Arrow → Front
  after_place type front link = after_field type (target_field link.target) (first_at front link) (size_at type front link) (after_aspects type link front)

  abbrev pub after_ends : Front → List Arrow → Front
  after_ends front [] = front
  after_ends front (link ∷ links) = after_ends (after_end front link) links

  abbrev pub ends_within : Front → List Arrow → Bool
  ends_within front [] = true
  ends_within front (link ∷ links) = is_within front.fields front.division link.condition && ends_within (after_end front link) links

module _ (domains : List Domain) (m : Graph) where
  -- behind the links of a path into fields, and the condition of its link to null
  abbrev pub after_route : Front → List ℕ → Front
  after_route front path = after_ends domains m (after_links domains m front (into_fields (links_on domains m path))) (ends_of false (links_on domains m path))

  abbrev pub route_within : Front → List ℕ → Bool
  route_within front path =
      links_within domains m front (into_fields (links_on domains m path))
      && ends_within domains m (after_links domains m front (into_fields (links_on domains m path))) (ends_of false (links_on domains m path))

  -- behind these and the conditions at its end
  abbrev pub after_path : Front → List ℕ → List ℕ → Front
  after_path front path out = after_ends domains m (after_route front path) (links_on domains m out)

  abbrev pub path_within : Front → List ℕ → List ℕ → Bool
  path_within front path out =
      links_within domains m front (into_fields (links_on domains m path))
      && (ends_within domains m (after_links domains m front (into_fields (links_on domains m path))) (ends_of false (links_on domains m path))
      && ends_within domains m (after_route front path) (links_on domains m out))

-- what was gathered, as the forms of a path
abbrev pub forms_in : Front → Forms
forms_in front = record { variables = front.division; divisions = front.rows; firsts = front.firsts; sizes = front.sizes; conditions = front.conditions }
