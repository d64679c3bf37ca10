-- The facts of the fields of a path, and all that was gathered, fit a system.
use Rattle.std.proofs.Common.{◌≡◌, refl, ◌∙◌, ℕ, ◌+◌, ◌<◌, ◌≤◌, ◌^◌, ◌==◌, arith, List, [], ◌∷◌, ◌++◌, map, length, Bool, true, false, if◌then◌else◌, ℤ, pos, negsuc, ◌*ℤ◌, ◌+ℤ◌, unsigned_abs, Option, Some, None, slice_get}
use Rattle.std.proofs.lemmas.Int.{ints}
use Rattle.std.specs.List.{list_all, AllByRecursion}
use Rattle.rx_model.specs.Sums.{weighted_sum}
use Rattle.rx_linear.proofs.Joining.{both, and_true}
use Rattle.rx_types.specs.Domain.{Domain, size_of, IsProper}
use Rattle.rx_graph.specs.Graph.{Graph, type_of, overlay_of}
use Rattle.rx_forms.specs.declared.linear.Linear.{Linear}
use Rattle.rx_forms.specs.declared.linear.Form.{Form, AtLeast, All}
use Rattle.rx_forms.specs.declared.field.FieldForms.{FieldForms}
use Rattle.rx_forms.specs.Linear.{minus, equal}
use Rattle.rx_forms.specs.Normal.{formed_of, bits}
use Rattle.rx_forms.specs.Steps.{same_form, is_among}
use Rattle.rx_forms.specs.Code.{number_by, formed, formed_all}
use Rattle.rx_layout.specs.Fitting.{fits, fits_row}
use Rattle.rx_layout.specs.Laid
use Rattle.rx_layout.specs.Laid.{typed, placed}
use Rattle.rx_layout.specs.QueryOf.{rows}
use Rattle.rx_layout.proofs.Gathered.{fits_at_least, fits_all}
use Rattle.rx_layout.proofs.Stepping.{term_length}
use Rattle.rx_layout.proofs.Bounds.{under_more, minus_under, weighted_width, fits_by, IsLowTo, low_fits, difference_fits}
use Rattle.rx_layout.proofs.Widths.{AreLowTo}
use Rattle.rx_layout.proofs.FrontsFit.{found_low, each_wider, join_facts}
use Rattle.rx_layout.proofs.TypesFit.{all_between, type_fits}

pub row_facts_fit : (n : ℕ) (fs : List Linear) → list_all (fits_row n) fs ≡ true → list_all (fits n) (map (λ f. AtLeast f) fs) ≡ true
row_facts_fit n [] h = refl
row_facts_fit n (f ∷ fs) h = let p = both {a = fits_row n f} h in and_true (fits_at_least n f ∙ p.0) (row_facts_fit n fs p.1)

pub rows_fit : (n : ℕ) (fs : List Linear) → list_all (fits_row n) fs ≡ true → fits n (rows fs) ≡ true
rows_fit n fs h = fits_all n (map (λ f. AtLeast f) fs) ∙ row_facts_fit n fs h

always : (n : ℕ) → fits n (All []) ≡ true
always n = fits_all n []

-- ---- one field

typed_fits : (n : ℕ) (type : Option Domain) (v : Option ℕ) → ((t : Domain) → type ≡ Some t → IsProper t) → length (number_by v).coefficients ≤ n → fits n (typed type v) ≡ true
typed_fits n None v p w = always n
typed_fits n (Some t) None p w = always n
typed_fits n (Some t) (Some v) p w = let k = term_length v (pos 1) in type_fits n v (omega (arith, k, w)) t (p t refl)

rest_fits : (n : ℕ) (f g : Linear) → 1 ≤ n → IsLowTo n f → IsLowTo n g → fits_row n (minus (minus bits f) g) ≡ true
rest_fits n f g e l k =
    let one = term_length 0 (pos 8) in
    let cs = weighted_sum bits.coefficients (pos 1) f.coefficients (negsuc 0) in
    fits_by n (minus (minus bits f) g)
    (weighted_width cs g.coefficients (pos 1) (negsuc 0) n (weighted_width bits.coefficients f.coefficients (pos 1) (negsuc 0) n (omega (arith, one, e)) l.short) k.short)
    (under_more (16 + 2 ^ 18 + 2 ^ 18) (2 ^ 20) (weighted_sum cs (pos 1) g.coefficients (negsuc 0)) (omega arith)
    (minus_under cs g.coefficients (16 + 2 ^ 18) (2 ^ 18) (minus_under bits.coefficients f.coefficients 16 (2 ^ 18) refl l.low) k.low))
    (small f.constant g.constant l.constant k.constant)
  where
    small : (c d : ℤ) → unsigned_abs c < 2 ^ 98 → unsigned_abs d < 2 ^ 98 → unsigned_abs (pos 1 *ℤ (pos 1 *ℤ pos 0 +ℤ negsuc 0 *ℤ c) +ℤ negsuc 0 *ℤ d) < 2 ^ 100
    small c d h e = omega (arith, ints, h, e)

placed_fits : (n : ℕ) (f : FieldForms) → 1 ≤ n → AreLowTo n (formed f) → fits n (placed f) ≡ true
placed_fits n f e l =
    rows_fit n (f.first ∷ f.size ∷ minus (minus bits f.first) f.size ∷ [])
    (and_true (low_fits n f.first l.first) (and_true (low_fits n f.size l.size) (and_true (rest_fits n f.first f.size e l.first l.size) refl)))

equal_fits : (n : ℕ) (f g : Linear) → IsLowTo n f → IsLowTo n g → fits n (equal f g) ≡ true
equal_fits n f g l k =
    fits_all n (AtLeast (minus f g) ∷ AtLeast (minus g f) ∷ [])
    ∙ and_true (fits_at_least n (minus f g) ∙ difference_fits n f g l k) (and_true (fits_at_least n (minus g f) ∙ difference_fits n g f k l) refl)

same_fits : (n : ℕ) (s t : Option Domain) (there : Bool) (f g : Linear) → IsLowTo n f → IsLowTo n g → fits n (same_form s t there f g) ≡ true
same_fits n None t there f g l k = always n
same_fits n (Some s) None there f g l k = always n
same_fits n (Some s) (Some t) false f g l k = always n
same_fits n (Some s) (Some t) true f g l k = by_size (size_of s == size_of t)
  where
    by_size : (b : Bool) → fits n (if b then equal f g else All []) ≡ true
    by_size true = equal_fits n f g l k
    by_size false = always n

-- ---- all fields

module _ (domains : List Domain) (m : Graph) (proper : (f : ℕ) (t : Domain) → type_of domains m f ≡ Some t → IsProper t) (n : ℕ) (e : 1 ≤ n) where
  types_fit : (fs : List FieldForms) → AllByRecursion (λ g. AreLowTo n g) (formed_all fs) → list_all (fits n) (map (Laid.typed_field domains m) fs) ≡ true
  types_fit [] h = refl
  types_fit (f ∷ fs) h = and_true (typed_fits n (type_of domains m f.field) f.variable (λ t i. proper f.field t i) h.0.number.short) (types_fit fs h.1)

  places_fit : (fs : List FieldForms) → AllByRecursion (λ g. AreLowTo n g) (formed_all fs) → list_all (fits n) (map placed fs) ≡ true
  places_fit [] h = refl
  places_fit (f ∷ fs) h = and_true (placed_fits n f e h.0) (places_fit fs h.1)

  over_fits : (o : Option ℕ) (before : List FieldForms) (f : FieldForms) → AllByRecursion (λ g. AreLowTo n g) (formed_all before) → AreLowTo n (formed f) → fits n (Laid.laid_over domains m o before f) ≡ true
  over_fits None before f h l = always n
  over_fits (Some x) before f h l = same_fits n (type_of domains m f.field) (type_of domains m x) (is_among x (formed_all before)) (number_by f.variable) (formed_of x (formed_all before)).number l.number (found_low n (formed_all before) x h).number

  behind_low : (before : List FieldForms) (f : FieldForms) → AllByRecursion (λ g. AreLowTo n g) (formed_all before) → AreLowTo n (formed f) → AllByRecursion (λ g. AreLowTo n g) (formed_all (before ++ f ∷ []))
  behind_low [] f h l = (l, tt)
  behind_low (x ∷ xs) f h l = (h.0, behind_low xs f h.1 l)

  overlays_fit : (before fs : List FieldForms) → AllByRecursion (λ g. AreLowTo n g) (formed_all before) → AllByRecursion (λ g. AreLowTo n g) (formed_all fs) → list_all (fits n) (Laid.laid_from domains m before fs) ≡ true
  overlays_fit before [] h l = refl
  overlays_fit before (f ∷ fs) h l = and_true (over_fits (overlay_of (slice_get m.fields f.field)) before f h l.0) (overlays_fit (before ++ f ∷ []) fs (behind_low before f h l.0) l.1)

  pub facts_fit : (d : ℕ) (fs : List FieldForms) (conditions : List Form) → d ≤ n → AllByRecursion (λ g. AreLowTo d g) (formed_all fs) → list_all (fits n) conditions ≡ true
      → list_all (fits n) (Laid.path_facts domains m fs conditions) ≡ true
  facts_fit d fs conditions r h k =
      let low = each_wider d n (formed_all fs) r h in
      let types = map (Laid.typed_field domains m) fs in
      let places = map placed fs in
      let overlays = Laid.laid_from domains m [] fs in
      join_facts n types _ (types_fit fs low)
      (and_true (all_between n 0 (omega (arith, e)) 0 16777215 (omega arith) (omega arith))
      (join_facts n places _ (places_fit fs low) (join_facts n overlays conditions (overlays_fit [] fs tt low) k)))
