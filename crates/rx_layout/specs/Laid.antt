-- What is made of a path once, and what its goals lay on top.
--   typed, placed, laid, laid_from       the facts of a field's type, of its place, and of the field below it
--   as_long                              whether two scalars have one size
--   HasSmallTypes, HasProperTypes        every scalar has fewer than 64 bits, and a type as it may be declared
--   asked_link check                     what a check of one link asks
--   behind asked                         what stands behind a path, where this is asked too
--   after_any, after_target, IsTarget    behind a First or a Size, behind the target of a link, and its First and Size
--   path_front, path_facts               what is gathered along a path, and the facts of its fields and links
--   end_front p                          what stands behind a path, where nothing was gathered
--   with_asked front asked               what stands behind it, where this is asked
--   IsLaid p most front a                what is asked leads to that front, and fits a system of at most so many variables
--   IsAsked most e ask a                 what is asked behind a path is what a check asks of the link
--   IsBegun, IsPlaced                    these are the First, or First and Size, of a link's target, with its condition asked
--   HasForms                             fields, facts and rows are those of the path, and fit a system
use Rattle.std.specs.Prelude.{◌≡◌, ◌<◌, List, [], ◌∷◌, ◌++◌, map, ℕ, ◌+◌, ◌==◌, Bool, false, Option, Some, None, slice_get, ◌≤◌}
use Rattle.rx_types.specs.Domain.{Domain, size_of, IsProper}
use Rattle.rx_types.specs.Tree.{Tree}
use Rattle.rx_graph.specs.Graph.{Arrow, Graph, type_of, overlay_of, limit_of}
use Rattle.rx_forms.specs.declared.linear.Linear.{Linear}
use Rattle.rx_forms.specs.declared.linear.Form.{Form, All, AtLeast}
use Rattle.rx_forms.specs.declared.field.FieldForms.{FieldForms}
use Rattle.rx_forms.specs.Linear.{minus}
use Rattle.rx_forms.specs.Normal.{Formed, formed_of, bits}
use Rattle.rx_forms.specs.Steps.{is_among, links_on, scalars_on, same_form, target_field, size_aspect, divisions_in_any, divisions_any, first_form, size_form, into_fields}
use Rattle.rx_forms.specs.Code.{number_by, formed_all}
use Rattle.rx_forms.specs.Fronts.{Front, first_front, after_links, after_end}
use Rattle.rx_layout.specs.declared.checklist.LinkCheck.{LinkCheck}
use Rattle.rx_layout.specs.declared.checklist.LinkCheck.TheVariants.{Taken, Position, Grid, Overlay, Cover, Whole}
use Rattle.rx_layout.specs.Types.{type_form}
use Rattle.rx_layout.specs.QueryOf.{Asked, rows, length_form, goal_step, taken_asked, position_asked, grid_asked, overlay_on, cover_to, whole_asked}
use Rattle.rx_layout.specs.declared.asked.Asked as code
use Rattle.rx_layout.specs.Fitting.{IsLowTo, IsFitting}
use Rattle.rx_layout.specs.TypedPath.{TypedPath, TypedEnd, path_of}

-- the number of a scalar is one of its type
abbrev pub typed : Option Domain → Option ℕ → Form
typed (Some t) (Some v) = type_form t v
typed (Some t) None = All []
typed None v = All []

-- First, Size and what is left behind the field are at least 0
abbrev pub placed : FieldForms → Form
placed f = rows (f.first ∷ f.size ∷ minus (minus bits f.first) f.size ∷ [])

-- two scalars of one size
abbrev pub as_long : Option Domain → Option Domain → Bool
as_long (Some s) (Some t) = size_of s == size_of t
as_long (Some s) None = false
as_long None t = false

module _ (domains : List Domain) (m : Graph) where
  abbrev pub HasSmallTypes : Type 0
  HasSmallTypes = (f : ℕ) (t : Domain) → type_of domains m f ≡ Some t → size_of t < 64

  abbrev pub HasProperTypes : Type 0
  HasProperTypes = (f : ℕ) (t : Domain) → type_of domains m f ≡ Some t → IsProper t

  abbrev pub typed_field : FieldForms → Form
  typed_field f = typed (type_of domains m f.field) f.variable

  abbrev pub laid_over : Option ℕ → List FieldForms → FieldForms → Form
  laid_over None before f = All []
  laid_over (Some x) before f = same_form (type_of domains m f.field) (type_of domains m x) (is_among x (formed_all before)) (number_by f.variable) (formed_of x (formed_all before)).number

  -- a scalar over a scalar of its size that stands before has that one's number
  abbrev pub laid : List FieldForms → FieldForms → Form
  laid before f = laid_over (overlay_of (slice_get m.fields f.field)) before f

  abbrev pub laid_from : List FieldForms → List FieldForms → List Form
  laid_from before [] = []
  laid_from before (f ∷ fs) = laid before f ∷ laid_from (before ++ f ∷ []) fs

  abbrev pub asked_link : LinkCheck → List Formed → ℕ → Arrow → Asked
  asked_link Taken fields n link = taken_asked domains m fields n (link ∷ [])
  asked_link Position fields n link = position_asked domains m fields n link
  asked_link Grid fields n link = grid_asked domains m fields n link
  asked_link Overlay fields n link = overlay_on domains m (overlay_of (slice_get m.fields (target_field link.target))) fields n link
  asked_link Cover fields n link = cover_to domains m link.target fields n link
  asked_link Whole fields n link = whole_asked domains m fields n link

abbrev pub behind : Asked → Front → Front
behind asked front = record front { division = asked.variables; rows = front.rows ++ asked.divisions; conditions = front.conditions ++ asked.forms }

module _ (domains : List Domain) (m : Graph) where
  -- the divisions of a First or a Size
  abbrev pub after_any : Option Tree → Front → Front
  after_any x front = record front { division = front.division + divisions_in_any x; rows = front.rows ++ divisions_any (limit_of domains m) front.fields front.division x }

  abbrev pub target_type : Arrow → Option Domain
  target_type link = type_of domains m (target_field link.target)

  -- behind the condition of a link, its First and its Size
  abbrev pub after_target : Arrow → Front → Front
  after_target link front = after_any (size_aspect (target_type link) link.size) (after_any link.first (after_end domains m front link))

  -- the First and the Size of the target of a link
  pub record IsTarget (link : Arrow) (front : Front) (first size : Linear) : Type 0 where
    pub begins : first ≡ first_form (goal_step domains m front.fields front.division link)
    pub extends : size ≡ size_form (target_type link) (goal_step domains m front.fields front.division link)

-- ---- a path

module _ (domains : List Domain) (m : Graph) where
  -- behind the links of the path into fields
  abbrev pub path_front : List ℕ → Front
  path_front path =
      let links = into_fields (links_on domains m path) in
      after_links domains m (first_front (scalars_on domains m links)) links

  -- types, length, places and overlays of the fields, and the conditions of the links
  abbrev pub path_facts : List FieldForms → List Form → List Form
  path_facts fields conditions =
      map (typed_field domains m) fields ++ (length_form ∷ (map placed fields ++ (laid_from domains m [] fields ++ conditions)))

-- ---- what is asked behind a path

-- the fields and the next division variable behind a path
abbrev pub end_front : TypedPath → Front
end_front p = record (path_front p.domains p.graph p.path) { rows = []; conditions = [] }

abbrev pub with_asked : Front → code.Asked → Front
with_asked front a = record front { division = a.work.next; rows = a.work.rows; conditions = a.forms }

pub record IsLaid (p : TypedPath) (most : ℕ) (front : Front) (a : code.Asked) : Type 0 where
  pub is : with_asked (end_front p) a ≡ front
  pub more : (end_front p).division ≤ a.work.next
  pub few : a.work.next ≤ most
  pub fits : (n : ℕ) → a.work.next ≤ n → IsFitting n front

-- what a check asks of a link, given the fields before it and the next division variable
abbrev pub IsAsked : ℕ → TypedEnd → (List Formed → ℕ → Arrow → Asked) → code.Asked → Type 0
IsAsked most e ask a =
    let front = end_front (path_of e) in
    IsLaid (path_of e) most (behind (ask front.fields front.division e.arrow) front) a

-- ---- the target of a link

-- the condition of the link and its First
pub record IsBegun (e : TypedEnd) (first : Linear) (a : code.Asked) : Type 0 where
  pub begins : first ≡ first_form (goal_step e.domains e.graph (end_front (path_of e)).fields (end_front (path_of e)).division e.arrow)
  pub low : IsLowTo a.work.next first
  pub laid_is : IsLaid (path_of e) 190 (after_any e.domains e.graph e.arrow.first (after_end e.domains e.graph (end_front (path_of e)) e.arrow)) a

-- the condition of the link, its First and the Size of its target
pub record IsPlaced (e : TypedEnd) (first size : Linear) (a : code.Asked) : Type 0 where
  pub target : IsTarget e.domains e.graph e.arrow (end_front (path_of e)) first size
  pub low : IsLowTo a.work.next first × IsLowTo a.work.next size
  pub laid_is : IsLaid (path_of e) 190 (after_target e.domains e.graph e.arrow (end_front (path_of e))) a

-- ---- a path

-- the fields, the next division variable, the facts and the rows of a path, which fit a system
pub record HasForms (p : TypedPath) (fields : List FieldForms) (next : ℕ) (facts rows : List Form) : Type 0 where
  pub fields_are : formed_all fields ≡ (path_front p.domains p.graph p.path).fields
  pub next_is : next ≡ (path_front p.domains p.graph p.path).division
  pub few : next ≤ 190
  pub facts_are : facts ≡ path_facts p.domains p.graph fields (path_front p.domains p.graph p.path).conditions
  pub rows_are : rows ≡ map (λ f. AtLeast f) (path_front p.domains p.graph p.path).rows
  pub fits : (n : ℕ) → next ≤ n → IsFitting n (path_front p.domains p.graph p.path)
