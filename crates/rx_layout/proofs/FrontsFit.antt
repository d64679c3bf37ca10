-- What is gathered along a path that stays within the path limit may be the rows of a system.
use Rattle.std.proofs.Common.{◌≡◌, refl, ◌∙◌, ℕ, zero, suc, ◌+◌, ◌≤◌, ◌^◌, ◌==◌, arith, List, [], ◌∷◌, ◌++◌, length, replicate, Bool, true, false, if◌then◌else◌, pos, negsuc, Option, Some, None}
use Rattle.std.specs.Prelude.{nat_le}
use Rattle.std.proofs.lemmas.Int.{ints}
use Rattle.std.specs.List.{list_all, AllByRecursion}
use Rattle.std.proofs.lemmas.List.Folds.{list_all-append}
use Rattle.rx_linear.proofs.Joining.{both, and_true}
use Rattle.rx_types.specs.Domain.{Domain}
use Rattle.rx_types.specs.Tree.{Tree}
use Rattle.rx_types.specs.Narrow.{IsNarrow}
use Rattle.rx_graph.specs.Graph.{Arrow, Graph, limit_of}
use Rattle.rx_forms.specs.declared.linear.Linear.{Linear}
use Rattle.rx_forms.specs.declared.linear.Form.{Form}
use Rattle.rx_forms.specs.Linear.{constant, minus}
use Rattle.rx_forms.specs.Normal.{Formed, formed_of, condition, divisions_in, bits}
use Rattle.rx_forms.specs.Limits.{all_kept, is_within}
use Rattle.rx_forms.specs.Steps.{Step, form_or, end_form, first_form, size_form, number_form, size_division, size_aspect, scalars_in, divisions_any, divisions_in_any, met_any}
use Rattle.rx_forms.specs.Links.{IsNarrowIfAny}
use Rattle.rx_forms.specs.Expressions.{aspect_within}
use Rattle.rx_forms.specs.Fronts.{Front, after_end}
use Rattle.rx_layout.specs.Fitting.{fits, fits_row}
pub use Rattle.rx_layout.specs.Fitting.{IsFitting}
use Rattle.rx_layout.specs.Laid
use Rattle.rx_layout.proofs.Bounds.{Under, IsLowTo, weighted_width}
use Rattle.rx_layout.proofs.Widths.{AreLowTo, short_linear}
use Rattle.rx_layout.proofs.Stepping.{term_length}
use Rattle.rx_layout.proofs.FactsFit.{condition_fits}
use Rattle.rx_layout.proofs.RowsFit.{divisions_fit}

pub wider : (d n : ℕ) (f : Linear) → d ≤ n → IsLowTo d f → IsLowTo n f
wider d n f h l = let w = l.short in record { short = omega (arith, h, w); low = l.low; constant = l.constant }

pub all_wider : (d n : ℕ) (g : Formed) → d ≤ n → AreLowTo d g → AreLowTo n g
all_wider d n g h l = record { first = wider d n g.first h l.first; size = wider d n g.size h l.size; end = wider d n g.end h l.end; number = wider d n g.number h l.number }

pub zero_low : (n : ℕ) → IsLowTo n (constant (pos 0))
zero_low n = record { short = omega arith; low = refl; constant = omega (arith, ints) }

pub found_low : (n : ℕ) (fields : List Formed) (f : ℕ) → AllByRecursion (λ g. AreLowTo n g) fields → AreLowTo n (formed_of f fields)
found_low n [] f h = record { first = zero_low n; size = zero_low n; end = zero_low n; number = zero_low n }
found_low n (g ∷ gs) f h = by_field (g.field == f) (found_low n gs f h.1)
  where
    by_field : (b : Bool) → AreLowTo n (formed_of f gs) → AreLowTo n (if b then g else formed_of f gs)
    by_field true r = h.0
    by_field false r = r

pub each_wider : (d n : ℕ) (fields : List Formed) → d ≤ n → AllByRecursion (λ g. AreLowTo d g) fields → AllByRecursion (λ g. AreLowTo n g) fields
each_wider d n [] h l = l
each_wider d n (g ∷ gs) h l = (all_wider d n g h l.0, each_wider d n gs h l.1)

pub join_rows : (n : ℕ) (xs ys : List Linear) → list_all (fits_row n) xs ≡ true → list_all (fits_row n) ys ≡ true → list_all (fits_row n) (xs ++ ys) ≡ true
join_rows n xs ys h e = list_all-append (fits_row n) xs ys ∙ and_true h e

pub join_facts : (n : ℕ) (xs ys : List Form) → list_all (fits n) xs ≡ true → list_all (fits n) ys ≡ true → list_all (fits n) (xs ++ ys) ≡ true
join_facts n xs ys h e = list_all-append (fits n) xs ys ∙ and_true h e

module _ (domains : List Domain) (m : Graph) where
  -- the condition of a link
  pub end_fits : (n : ℕ) (front : Front) (link : Arrow) → IsNarrow (limit_of domains m) link.condition → is_within front.fields front.division link.condition ≡ true → front.division + divisions_in link.condition ≤ n
      → IsFitting n front → IsFitting n (after_end domains m front link)
  end_fits n front link narrow w r h =
      let d = front.division in
      let k = (both {a = nat_le (d + divisions_in link.condition) 190} w).1 in
      let low = λ (f : ℕ). found_low d front.fields f h.fields in
      let s = h.some in
      record {
        some = omega (arith, s);
        fields = each_wider d (d + divisions_in link.condition) front.fields (omega arith) h.fields;
        rows = join_rows n front.rows _ h.rows (divisions_fit (limit_of domains m) front.fields d low n d link.condition (omega arith) h.some r k narrow);
        conditions = join_facts n front.conditions (condition front.fields d true link.condition ∷ []) h.conditions (and_true (condition_fits front.fields d low n d true link.condition (omega arith) h.some r k) refl);
      }

  any_rows : (n : ℕ) (front : Front) (x : Option Tree) → IsNarrowIfAny (limit_of domains m) x → all_kept (met_any front.fields front.division x) ≡ true → front.division + divisions_in_any x ≤ n → IsFitting n front
      → list_all (fits_row n) (divisions_any (limit_of domains m) front.fields front.division x) ≡ true
  any_rows n front None narrow k r h = refl
  any_rows n front (Some x) narrow k r h = divisions_fit (limit_of domains m) front.fields front.division (λ f. found_low front.division front.fields f h.fields) n front.division x (omega arith) h.some r k narrow

  -- a First or a Size
  pub any_fits : (n : ℕ) (front : Front) (x : Option Tree) (f : Linear) → IsNarrowIfAny (limit_of domains m) x → aspect_within front.fields front.division x f ≡ true → front.division + divisions_in_any x ≤ n
      → IsFitting n front → IsFitting n (Laid.after_any domains m x front)
  any_fits n front x f narrow w r h =
      let d = front.division in
      let k = (both {a = nat_le (d + divisions_in_any x) 190} w).1 in
      let s = h.some in
      record {
        some = omega (arith, s);
        fields = each_wider d (d + divisions_in_any x) front.fields (omega arith) h.fields;
        rows = join_rows n front.rows (divisions_any (limit_of domains m) front.fields d x) h.rows (any_rows n front x narrow (both {a = all_kept (met_any front.fields d x)} k).0 r h);
        conditions = h.conditions;
      }

-- ---- links into fields

pub end_low : (n : ℕ) (fields : List Formed) → AllByRecursion (λ g. AreLowTo n g) fields → IsLowTo n (end_form fields)
end_low n [] h = zero_low n
end_low n (g ∷ []) h = h.0.end
end_low n (g ∷ k ∷ gs) h = end_low n (k ∷ gs) h.1

pub each_low : (n : ℕ) (xs : List Formed) (g : Formed) → AllByRecursion (λ g. AreLowTo n g) xs → AreLowTo n g → AllByRecursion (λ g. AreLowTo n g) (xs ++ g ∷ [])
each_low n [] g h l = (l, tt)
each_low n (x ∷ xs) g h l = (h.0, each_low n xs g h.1 l)

-- the sum of a First or a Size has the variables of its divisions, and those of the fields
pub said_width : (d n : ℕ) (fields : List Formed) (x : Option Tree) (otherwise : Linear) → d ≤ n → 1 ≤ n → AllByRecursion (λ g. AreLowTo d g) fields → length otherwise.coefficients ≤ n + divisions_in_any x
    → length (form_or x fields n otherwise).coefficients ≤ n + divisions_in_any x
said_width d n fields None otherwise h e l w = w
said_width d n fields (Some x) otherwise h e l w = short_linear fields d (λ f. found_low d fields f l) n x h e

pub number_low : (n : ℕ) (type : Option Domain) (s : Step) → s.scalar + scalars_in type ≤ n → IsLowTo n (number_form type s)
number_low n None s h = zero_low n
number_low n (Some t) s h = let w = term_length s.scalar (pos 1) in record { short = omega (arith, w, h); low = one_low s.scalar; constant = omega (arith, ints) }
  where
    one_low : (v : ℕ) → Under (2 ^ 18) (replicate v (pos 0) ++ pos 1 ∷ [])
    one_low zero = refl
    one_low (suc v) = and_true refl (one_low v)

pub size_width : (d n : ℕ) (type : Option Domain) (s : Step) → AllByRecursion (λ g. AreLowTo d g) s.before → d ≤ size_division s → 1 ≤ size_division s → length (first_form s).coefficients ≤ size_division s → size_division s + divisions_in_any (size_aspect type s.link.size) ≤ n
    → length (size_form type s).coefficients ≤ n
size_width d n (Some t) s l h e w r = omega arith
size_width d n None s l h e w r =
    let one = term_length 0 (pos 8) in
    let rest = weighted_width bits.coefficients (first_form s).coefficients (pos 1) (negsuc 0) (size_division s + divisions_in_any s.link.size) (omega (arith, one, e)) (omega (arith, w)) in
    let all = said_width d (size_division s) s.before s.link.size (minus bits (first_form s)) h e l rest in
    omega (arith, all, r)
