-- Each variable of a query has a row that bounds it from below and one that bounds it from above.
use Rattle.std.proofs.Common.{◌≡◌, refl, sym, ap, subst, ◌∙◌, ℕ, zero, suc, ◌+◌, ◌-◌, ◌<◌, ◌≤◌, ◌^◌, arith, List, [], ◌∷◌, ◌++◌, map, length, replicate, get_or, Bool, true, false, ◌&&◌, ◌||◌, if◌then◌else◌, ℤ, pos, negsuc, neg_ℤ, Option, Some, None, inl, inr}
use Rattle.std.specs.Prelude.{slice_get, nat_lt}
use Rattle.std.specs.List.{list_any}
use Rattle.std.specs.Ordering.{int_eq}
use Rattle.std.specs.Cmp.Lexicographic.{pointwise}
use Rattle.std.specs.Int.{int_div_euclid}
use Rattle.std.proofs.lemmas.Bool.Decides.{Decides-int_eq}
use Rattle.rx_linear.specs.declared.row.Row.{Row}
use Rattle.rx_linear.specs.Units.{unit, is_unit_row}
use Rattle.rx_linear.proofs.Joining.{and_true}
use Rattle.rx_types.specs.declared.expr.Operator.TheVariants as op
use Rattle.rx_types.specs.declared.interval.Interval.{Interval}
use Rattle.rx_types.specs.declared.scalar.FieldType.{FieldType}
use Rattle.rx_types.specs.declared.scalar.FieldType.TheVariants.{Scalar, Opaque, Sequence}
use Rattle.rx_types.specs.declared.scalar.Literal.{Literal}
use Rattle.rx_types.specs.Domain.{Domain, Integer, Enumeration, numbers_of, IsProper}
use Rattle.rx_types.specs.Static.{is_static, static_value}
use Rattle.rx_types.specs.Narrow.{interval_of, places_in_bits}
use Rattle.rx_types.specs.Tree.{Tree, Number, Truth, Field, First, Last, Size, Total, Neg, Not, Binary}
use Rattle.rx_graph.specs.declared.message.Field as field
use Rattle.rx_graph.specs.declared.message.Node.{Node}
use Rattle.rx_graph.specs.declared.message.Node.TheVariants.{Start, At, Null}
use Rattle.rx_graph.specs.Graph.{Arrow, Graph, type_of, scalar_of, limit_of, overlay_of}
use Rattle.rx_graph.specs.Elaborated.{IsElaborated, IsFieldType}
use Rattle.rx_proof.specs.declared.query.Query.{out-Query}
use Rattle.rx_proof.specs.declared.query.Query.TheOpen.{Query-F}
use Rattle.rx_proof.specs.declared.query.Query.TheFolds.{fold_out-Query, fold-roll-Query}
use Rattle.rx_forms.specs.declared.linear.Linear.{Linear}
use Rattle.rx_forms.specs.declared.linear.Form.{Form, AtLeast, All}
use Rattle.rx_forms.specs.Linear.{term}
use Rattle.rx_forms.specs.Normal.{Formed, divisions_in, linear}
use Rattle.rx_forms.specs.Divisions.{divisions, division_rows}
use Rattle.rx_forms.specs.Laws.{fields_on}
use Rattle.rx_forms.specs.Steps
use Rattle.rx_forms.specs.Steps.{Step, target_field, scalars_in, size_aspect, divisions_any, divisions_in_any, first_division, size_division, division_forms, type_form_any, place_forms, condition_form, rows_from, past}
use Rattle.rx_layout.specs.declared.goal.Goal.{Goal}
use Rattle.rx_layout.specs.declared.goal.Goal.TheVariants as goal
use Rattle.rx_layout.specs.declared.parts.Parts.{Parts}
use Rattle.rx_layout.specs.Parts.{padded, row_of, query_of, all_of, parts_of}
use Rattle.rx_layout.specs.Types.{between, ascending, placed_in, last_of, has_gaps, one_of_numbers, numbers_form, literals_form, type_form}
use Rattle.rx_layout.specs.QueryOf
use Rattle.rx_layout.specs.QueryOf.{Asked, rows, length_form, unit_rows, interval_or, rest_interval}
use Rattle.rx_layout.specs.Listed.{Among}
use Rattle.rx_layout.proofs.Domains.{placed_by}
use Rattle.rx_layout.proofs.Gathered.{parts_at_least, parts_all}
use Rattle.rx_layout.proofs.Listing.{left_among, right_among}

-- ---- rows of one variable

-- zeros, the coefficient, and zeros
term_is_unit : (n x : ℕ) (a : ℤ) (j : ℕ) → n ≡ x + 1 + j → (replicate x (pos 0) ++ a ∷ []) ++ replicate j (pos 0) ≡ unit n x a
term_is_unit zero x a j h = absurd (omega (arith, h))
term_is_unit (suc n) zero a j h = ap (λ (k : ℕ). a ∷ replicate k (pos 0)) (same n j h)
  where
    same : (n j : ℕ) → suc n ≡ 0 + 1 + j → j ≡ n
    same n j e = omega (arith, e)
term_is_unit (suc n) (suc x) a j h = ap (λ (zs : List ℤ). pos 0 ∷ zs) (term_is_unit n x a j (omega (arith, h)))

same_each : (zs : List ℤ) → pointwise int_eq zs zs ≡ true
same_each [] = refl
same_each (z ∷ zs) = and_true ((Decides-int_eq z z).1 refl) (same_each zs)

unit_length : (n x : ℕ) (a : ℤ) → length (unit n x a) ≡ n
unit_length zero x a = refl
unit_length (suc n) zero a = let e = zeros_length n in omega (arith, e)
  where
    zeros_length : (j : ℕ) → length (replicate j (pos 0)) ≡ j
    zeros_length zero = refl
    zeros_length (suc j) = let e = zeros_length j in omega (arith, e)
unit_length (suc n) (suc x) a = let e = unit_length n x a in omega (arith, e)

unit_at : (n x : ℕ) (a : ℤ) → x < n → get_or (unit n x a) x (pos 0) ≡ a
unit_at zero x a h = absurd (omega (arith, h))
unit_at (suc n) zero a h = refl
unit_at (suc n) (suc x) a h = unit_at n x a (omega (arith, h))

term_length : (x : ℕ) (a : ℤ) → length (replicate x (pos 0) ++ a ∷ []) ≡ x + 1
term_length zero a = refl
term_length (suc x) a = let e = term_length x a in omega (arith, e)

row_is_unit : (n x : ℕ) (a c : ℤ) → x < n → is_unit_row x a (row_of n (term a x c)) ≡ true
row_is_unit n x a c h =
    let cs = replicate x (pos 0) ++ a ∷ [] in
    let is : padded n cs ≡ unit n x a = term_is_unit n x a (n - length cs) (whole n x (length cs) h (term_length x a)) in
    subst (λ zs. (int_eq (get_or zs x (pos 0)) a && pointwise int_eq zs (unit (length zs) x a)) ≡ true) (sym is)
    (and_true ((Decides-int_eq (get_or (unit n x a) x (pos 0)) a).1 (unit_at n x a h))
    (ap (λ (k : ℕ). pointwise int_eq (unit n x a) (unit k x a)) (unit_length n x a) ∙ same_each (unit n x a)))
  where
    whole : (n x l : ℕ) → x < n → l ≡ x + 1 → n ≡ x + 1 + (n - l)
    whole n x l h e = omega (arith, h, e)

any_of : (test : Row → Bool) (rs : List Row) (row : Row) → Among row rs → test row ≡ true → list_any test rs ≡ true
any_of test [] row h t = absurd h
any_of test (r ∷ rs) row (inl e) t = ap (λ (b : Bool). b || list_any test rs) (ap test e ∙ t)
any_of test (r ∷ rs) row (inr h) t = right (test r) (list_any test rs) (any_of test rs row h t)
  where
    right : (a b : Bool) → b ≡ true → (a || b) ≡ true
    right true b e = refl
    right false b e = e

-- ---- rows of facts

abbrev RowIn : ℕ → Form → Row → Type 0
RowIn n form row = Among row (parts_of n form).rows

in_at_least : (n : ℕ) (f : Linear) → RowIn n (AtLeast f) (row_of n f)
in_at_least n f = subst (λ (p : Parts). Among (row_of n f) p.rows) (sym (parts_at_least n f)) (inl refl)

in_each : (n : ℕ) (forms : List Form) (form : Form) (row : Row) → Among form forms → RowIn n form row → Among row (all_of (map (parts_of n) forms)).rows
in_each n [] form row h r = absurd h
in_each n (f ∷ fs) form row (inl e) r = left_among row (parts_of n f).rows (all_of (map (parts_of n) fs)).rows (subst (λ g. RowIn n g row) (sym e) r)
in_each n (f ∷ fs) form row (inr h) r = right_among row (parts_of n f).rows (all_of (map (parts_of n) fs)).rows (in_each n fs form row h r)

in_all : (n : ℕ) (forms : List Form) (form : Form) (row : Row) → Among form forms → RowIn n form row → RowIn n (All forms) row
in_all n forms form row h r = subst (λ (p : Parts). Among row p.rows) (sym (parts_all n forms)) (in_each n forms form row h r)

-- rows that bound variable x from below and from above
abbrev BothIn : ℕ → Form → ℕ → Type 0
BothIn n form x = ((c : ℤ) × RowIn n form (row_of n (term (pos 1) x c))) × ((c : ℤ) × RowIn n form (row_of n (term (negsuc 0) x c)))

abbrev HasBoth : List Linear → ℕ → Type 0
HasBoth fs x = ((c : ℤ) × Among (term (pos 1) x c) fs) × ((c : ℤ) × Among (term (negsuc 0) x c) fs)

both_in_all : (n : ℕ) (forms : List Form) (form : Form) (x : ℕ) → Among form forms → BothIn n form x → BothIn n (All forms) x
both_in_all n forms form x h b =
    ((b.0.0, in_all n forms form (row_of n (term (pos 1) x b.0.0)) h b.0.1), (b.1.0, in_all n forms form (row_of n (term (negsuc 0) x b.1.0)) h b.1.1))

among_sums : (fs : List Linear) (f : Linear) → Among f fs → Among (AtLeast f) (map (λ g. AtLeast g) fs)
among_sums [] f h = absurd h
among_sums (g ∷ gs) f (inl e) = inl (ap (λ (x : Linear). AtLeast x) e)
among_sums (g ∷ gs) f (inr h) = inr (among_sums gs f h)

both_rows : (n : ℕ) (fs : List Linear) (x : ℕ) → HasBoth fs x → BothIn n (rows fs) x
both_rows n fs x h = (
  (h.0.0, in_all n (map (λ g. AtLeast g) fs) (AtLeast (term (pos 1) x h.0.0)) (row_of n (term (pos 1) x h.0.0)) (among_sums fs (term (pos 1) x h.0.0) h.0.1) (in_at_least n (term (pos 1) x h.0.0))),
  (h.1.0, in_all n (map (λ g. AtLeast g) fs) (AtLeast (term (negsuc 0) x h.1.0)) (row_of n (term (negsuc 0) x h.1.0)) (among_sums fs (term (negsuc 0) x h.1.0) h.1.1) (in_at_least n (term (negsuc 0) x h.1.0))),
)

left_both : (fs gs : List Linear) (x : ℕ) → HasBoth fs x → HasBoth (fs ++ gs) x
left_both fs gs x h = ((h.0.0, left_among (term (pos 1) x h.0.0) fs gs h.0.1), (h.1.0, left_among (term (negsuc 0) x h.1.0) fs gs h.1.1))

right_both : (fs gs : List Linear) (x : ℕ) → HasBoth gs x → HasBoth (fs ++ gs) x
right_both fs gs x h = ((h.0.0, right_among (term (pos 1) x h.0.0) fs gs h.0.1), (h.1.0, right_among (term (negsuc 0) x h.1.0) fs gs h.1.1))

by_place : {A : Type 0} (x k : ℕ) → (x < k → A) → (k ≤ x → A) → A
by_place {A = A} x k f g = by_test (nat_lt x k) refl
  where
    by_test : (b : Bool) → nat_lt x k ≡ b → A
    by_test true e = f (grind (arith, e))
    by_test false e = g (grind (arith, e))

-- ---- types

between_both : (n low high x : ℕ) (more : List Form) → BothIn n (All (between low high x ++ more)) x
between_both n low high x more = (
  (neg_ℤ (pos low), in_all n (between low high x ++ more) (AtLeast (term (pos 1) x (neg_ℤ (pos low)))) (row_of n (term (pos 1) x (neg_ℤ (pos low)))) (inl refl) (in_at_least n (term (pos 1) x (neg_ℤ (pos low))))),
  (pos high, in_all n (between low high x ++ more) (AtLeast (term (negsuc 0) x (pos high))) (row_of n (term (negsuc 0) x (pos high))) (inr (inl refl)) (in_at_least n (term (negsuc 0) x (pos high)))),
)

numbers_both : (n x k : ℕ) (ks : List ℕ) → BothIn n (numbers_form (k ∷ ks) x) x
numbers_both n x k ks = between_both n k (last_of k ks) x (one_of_numbers (has_gaps (k ∷ ks)) (k ∷ ks) x)

placed_both : (n x k : ℕ) (ks : List ℕ) → BothIn n (numbers_form (placed_in k ks) x) x
placed_both n x k [] = numbers_both n x k []
placed_both n x k (j ∷ js) = placed_by k j js (λ ns. BothIn n (numbers_form ns x) x) (λ e. numbers_both n x j js) (λ e. numbers_both n x k (j ∷ js)) (λ e. numbers_both n x j (placed_in k js))

literals_both : (n x : ℕ) (literals : List Literal) (size : ℕ) (valid : Bool) → 0 < length literals → BothIn n (literals_form literals size valid x) x
literals_both n x literals size true h = between_both n 0 (2 ^ size - 1) x []
literals_both n x [] size false h = absurd (omega (arith, h))
literals_both n x (l ∷ ls) size false h = placed_both n x l.number (ascending (numbers_of ls))

type_both : (n x : ℕ) (t : Domain) → IsProper t → BothIn n (type_form t x) x
type_both n x (Integer first last size) h = between_both n first last x []
type_both n x (Enumeration literals size valid) h = literals_both n x literals size valid h.2.some

-- ---- divisions

module _ (limit : ℕ → ℕ) (fields : List Formed) where
  two_parts : (n x p q : ℕ) (fs gs : List Linear) → n ≤ x → x < n + (p + q) → (x < n + p → HasBoth fs x) → (n + p ≤ x → x < (n + p) + q → HasBoth gs x) → HasBoth (fs ++ gs) x
  two_parts n x p q fs gs l h f g = by_place x (n + p) (λ a. left_both fs gs x (f a)) (λ a. right_both fs gs x (g a (omega (arith, h))))

  own_division : (q : ℕ) (form : Linear) (k : ℤ) (i : Interval) → HasBoth (division_rows q form k i) q
  own_division q form k i = ((neg_ℤ (int_div_euclid i.low k), inr (inr (inl refl))), (int_div_euclid i.high k, inr (inr (inr (inl refl)))))

  last_division : (n x p : ℕ) (fs : List Linear) (form : Linear) (k : ℤ) (i : Interval) → n ≤ x → x < n + (p + 1) → (x < n + p → HasBoth fs x) → HasBoth (fs ++ division_rows (n + p) form k i) x
  last_division n x p fs form k i l h f =
      by_place x (n + p) (λ a. left_both fs (division_rows (n + p) form k i) x (f a))
      (λ a. let e : n + p ≡ x = omega (arith, a, h) in right_both fs (division_rows (n + p) form k i) x (subst (λ y. HasBoth (division_rows (n + p) form k i) y) e (own_division (n + p) form k i)))

  chosen : (b : Bool) (n x p q : ℕ) (fs gs : List Linear) → x < n + (if b then q else p) → (x < n + q → HasBoth gs x) → (x < n + p → HasBoth fs x) → HasBoth (if b then gs else fs) x
  chosen true n x p q fs gs h f g = f h
  chosen false n x p q fs gs h f g = g h

  none_left : (n x : ℕ) (A : Type 0) → n ≤ x → x < n + 0 → A
  none_left n x A l h = absurd (omega (arith, l, h))

  division_both : (n : ℕ) (e : Tree) (x : ℕ) → n ≤ x → x < n + divisions_in e → HasBoth (divisions limit fields n e) x
  division_both n (Number k) x l h = none_left n x _ l h
  division_both n (Truth b) x l h = none_left n x _ l h
  division_both n (Field f) x l h = none_left n x _ l h
  division_both n (First f) x l h = none_left n x _ l h
  division_both n (Last f) x l h = none_left n x _ l h
  division_both n (Size f) x l h = none_left n x _ l h
  division_both n Total x l h = none_left n x _ l h
  division_both n (Neg a) x l h = division_both n a x l h
  division_both n (Not a) x l h = division_both n a x l h
  division_both n (Binary op.Mul a b) x l h =
      chosen (is_static a) n x (divisions_in a) (divisions_in b) (divisions limit fields n a) (divisions limit fields n b) h (λ s. division_both n b x l s) (λ s. division_both n a x l s)
  division_both n (Binary op.Div a b) x l h = last_division n x (divisions_in a) (divisions limit fields n a) (linear fields n a) (static_value b) (interval_of limit a) l h (λ s. division_both n a x l s)
  division_both n (Binary op.Mod a b) x l h = last_division n x (divisions_in a) (divisions limit fields n a) (linear fields n a) (static_value b) (interval_of limit a) l h (λ s. division_both n a x l s)
  division_both n (Binary op.Add a b) x l h = two_parts n x (divisions_in a) (divisions_in b) (divisions limit fields n a) (divisions limit fields (n + divisions_in a) b) l h (λ s. division_both n a x l s) (λ s t. division_both (n + divisions_in a) b x s t)
  division_both n (Binary op.Sub a b) x l h = two_parts n x (divisions_in a) (divisions_in b) (divisions limit fields n a) (divisions limit fields (n + divisions_in a) b) l h (λ s. division_both n a x l s) (λ s t. division_both (n + divisions_in a) b x s t)
  division_both n (Binary op.And a b) x l h = two_parts n x (divisions_in a) (divisions_in b) (divisions limit fields n a) (divisions limit fields (n + divisions_in a) b) l h (λ s. division_both n a x l s) (λ s t. division_both (n + divisions_in a) b x s t)
  division_both n (Binary op.Or a b) x l h = two_parts n x (divisions_in a) (divisions_in b) (divisions limit fields n a) (divisions limit fields (n + divisions_in a) b) l h (λ s. division_both n a x l s) (λ s t. division_both (n + divisions_in a) b x s t)
  division_both n (Binary op.Equal a b) x l h = two_parts n x (divisions_in a) (divisions_in b) (divisions limit fields n a) (divisions limit fields (n + divisions_in a) b) l h (λ s. division_both n a x l s) (λ s t. division_both (n + divisions_in a) b x s t)
  division_both n (Binary op.NotEqual a b) x l h = two_parts n x (divisions_in a) (divisions_in b) (divisions limit fields n a) (divisions limit fields (n + divisions_in a) b) l h (λ s. division_both n a x l s) (λ s t. division_both (n + divisions_in a) b x s t)
  division_both n (Binary op.Less a b) x l h = two_parts n x (divisions_in a) (divisions_in b) (divisions limit fields n a) (divisions limit fields (n + divisions_in a) b) l h (λ s. division_both n a x l s) (λ s t. division_both (n + divisions_in a) b x s t)
  division_both n (Binary op.LessEqual a b) x l h = two_parts n x (divisions_in a) (divisions_in b) (divisions limit fields n a) (divisions limit fields (n + divisions_in a) b) l h (λ s. division_both n a x l s) (λ s t. division_both (n + divisions_in a) b x s t)
  division_both n (Binary op.Greater a b) x l h = two_parts n x (divisions_in a) (divisions_in b) (divisions limit fields n a) (divisions limit fields (n + divisions_in a) b) l h (λ s. division_both n a x l s) (λ s t. division_both (n + divisions_in a) b x s t)
  division_both n (Binary op.GreaterEqual a b) x l h = two_parts n x (divisions_in a) (divisions_in b) (divisions limit fields n a) (divisions limit fields (n + divisions_in a) b) l h (λ s. division_both n a x l s) (λ s t. division_both (n + divisions_in a) b x s t)

  any_both : (n : ℕ) (o : Option Tree) (x : ℕ) → n ≤ x → x < n + divisions_in_any o → HasBoth (divisions_any limit fields n o) x
  any_both n None x l h = none_left n x _ l h
  any_both n (Some e) x l h = division_both n e x l h

  conditions_both : (n : ℕ) (links : List Arrow) (x : ℕ) → n ≤ x → x < past n links → HasBoth (rows_from limit fields n links) x
  conditions_both n [] x l h = absurd (omega (arith, l, h))
  conditions_both n (link ∷ links) x l h =
      let fs = divisions limit fields n link.condition in
      let gs = rows_from limit fields (n + divisions_in link.condition) links in
      by_place x (n + divisions_in link.condition) (λ a. left_both fs gs x (division_both n link.condition x l a)) (λ a. right_both fs gs x (conditions_both (n + divisions_in link.condition) links x a h))

-- ---- what is asked

-- each variable from n on has both rows
abbrev AllBoth : ℕ → Asked → Type 0
AllBoth n asked = (x : ℕ) → n ≤ x → x < asked.variables → HasBoth asked.divisions x

unit_both : (q : ℕ) (i : Interval) → HasBoth (unit_rows q i) q
unit_both q i = ((neg_ℤ (int_div_euclid i.low (pos 8)), inl refl), (int_div_euclid i.high (pos 8), inr (inl refl)))

module _ (domains : List Domain) (m : Graph) (gs : List Formed) (n : ℕ) where
  asked_both : (links : List Arrow) (first size : Option Tree) (formula : List Form) (units : List Linear) (quotients : ℕ)
      → ((x : ℕ) → past n links + divisions_in_any first + divisions_in_any size ≤ x → x < past n links + divisions_in_any first + divisions_in_any size + quotients → HasBoth units x)
      → AllBoth n (QueryOf.asked_of domains m gs n links first size formula units quotients)
  asked_both links first size formula units quotients u x l h =
      let limit = limit_of domains m in
      let k = past n links in
      let cs = rows_from limit gs n links in
      let fs = divisions_any limit gs k first in
      let ss = divisions_any limit gs (k + divisions_in_any first) size in
      by_place x k (λ a. left_both cs (fs ++ (ss ++ units)) x (conditions_both limit gs n links x l a))
      (λ a. right_both cs (fs ++ (ss ++ units)) x (by_place x (k + divisions_in_any first) (λ b. left_both fs (ss ++ units) x (any_both limit gs k first x a b))
      (λ b. right_both fs (ss ++ units) x (by_place x (k + divisions_in_any first + divisions_in_any size) (λ c. left_both ss units x (any_both limit gs (k + divisions_in_any first) size x b c))
      (λ c. right_both ss units x (u x c h))))))

  taken_both : (links : List Arrow) → AllBoth n (QueryOf.taken_asked domains m gs n links)
  taken_both links = asked_both links None None [] [] 0 (λ x l h. absurd (omega (arith, l, h)))

  with_both : (o : Option Arrow) (ask : Arrow → Asked) → ((l : Arrow) → AllBoth n (ask l)) → AllBoth n (QueryOf.with_link domains m o gs n ask)
  with_both None ask h = taken_both []
  with_both (Some l) ask h = h l

  position_both : (l : Arrow) → AllBoth n (QueryOf.position_asked domains m gs n l)
  position_both l = asked_both (l ∷ []) l.first (size_aspect (type_of domains m (target_field l.target)) l.size) [] [] 0 (λ x a h. absurd (omega (arith, a, h)))

  grid_both : (l : Arrow) → AllBoth n (QueryOf.grid_asked domains m gs n l)
  grid_both l =
      let q = n + divisions_in l.condition + divisions_in_any l.first + divisions_in_any l.size in
      let one = unit_rows q (interval_or (limit_of domains m) l.first places_in_bits) in
      let two = unit_rows (q + 1) (interval_or (limit_of domains m) l.size rest_interval) in
      asked_both (l ∷ []) l.first l.size [] (one ++ two) 2
      (λ x a h. by_place x (q + 1)
      (λ b. let e : q ≡ x = omega (arith, a, b) in left_both one two x (subst (λ y. HasBoth one y) e (unit_both q (interval_or (limit_of domains m) l.first places_in_bits))))
      (λ b. let e : q + 1 ≡ x = omega (arith, b, h) in right_both one two x (subst (λ y. HasBoth two y) e (unit_both (q + 1) (interval_or (limit_of domains m) l.size rest_interval)))))

  overlay_both : (o : Option ℕ) (l : Arrow) → AllBoth n (QueryOf.overlay_on domains m o gs n l)
  overlay_both None l = taken_both (l ∷ [])
  overlay_both (Some y) l = asked_both (l ∷ []) l.first (size_aspect (type_of domains m (target_field l.target)) l.size) [] [] 0 (λ x a h. absurd (omega (arith, a, h)))

  cover_both : (o : Option ℕ) (l : Arrow) → AllBoth n (QueryOf.cover_asked domains m o gs n l)
  cover_both None l = asked_both (l ∷ []) l.first None [] [] 0 (λ x a h. absurd (omega (arith, a, h)))
  cover_both (Some y) l = asked_both (l ∷ []) None None [] [] 0 (λ x a h. absurd (omega (arith, a, h)))

  cover_to_both : (target : Node) (l : Arrow) → AllBoth n (QueryOf.cover_to domains m target gs n l)
  cover_to_both Start l = taken_both (l ∷ [])
  cover_to_both (At f) l = cover_both (overlay_of (slice_get m.fields f)) l
  cover_to_both Null l = asked_both (l ∷ []) None None [] [] 0 (λ x a h. absurd (omega (arith, a, h)))

  whole_both : (l : Arrow) → AllBoth n (QueryOf.whole_asked domains m gs n l)
  whole_both l =
      let q = n + divisions_in l.condition in
      let one = unit_rows q places_in_bits in
      asked_both (l ∷ []) None None [] one 1 (λ x a h. let e : q ≡ x = omega (arith, a, h) in subst (λ y. HasBoth one y) e (unit_both q places_in_bits))

  goal_both : (g : Goal) → AllBoth n (QueryOf.asked_by domains m g gs n)
  goal_both (goal.Exclusive node a b) =
      with_both (QueryOf.link_numbered m node a) (λ l. QueryOf.with_link domains m (QueryOf.link_numbered m node b) gs n (λ k. QueryOf.taken_asked domains m gs n (l ∷ k ∷ [])))
      (λ l. with_both (QueryOf.link_numbered m node b) (λ k. QueryOf.taken_asked domains m gs n (l ∷ k ∷ [])) (λ k. taken_both (l ∷ k ∷ [])))
  goal_both (goal.Taken node a) = with_both (QueryOf.link_numbered m node a) (λ l. QueryOf.taken_asked domains m gs n (l ∷ [])) (λ l. taken_both (l ∷ []))
  goal_both (goal.Reached f) = taken_both []
  goal_both (goal.Position node a) = with_both (QueryOf.link_numbered m node a) (λ l. QueryOf.position_asked domains m gs n l) (λ l. position_both l)
  goal_both (goal.Grid node a) = with_both (QueryOf.link_numbered m node a) (λ l. QueryOf.grid_asked domains m gs n l) (λ l. grid_both l)
  goal_both (goal.Overlay node a) = with_both (QueryOf.link_numbered m node a) (λ l. QueryOf.overlay_on domains m (overlay_of (slice_get m.fields (target_field l.target))) gs n l) (λ l. overlay_both (overlay_of (slice_get m.fields (target_field l.target))) l)
  goal_both (goal.Cover node a) = with_both (QueryOf.link_numbered m node a) (λ l. QueryOf.cover_to domains m l.target gs n l) (λ l. cover_to_both l.target l)
  goal_both (goal.Whole node a) = with_both (QueryOf.link_numbered m node a) (λ l. QueryOf.whole_asked domains m gs n l) (λ l. whole_both l)

-- ---- the path

module _ (domains : List Domain) (m : Graph) where
  -- a step of the path has the division with this variable
  abbrev DividedBy : List Step → ℕ → Type 0
  DividedBy steps x = (s : Step) × Among s steps × HasBoth (division_forms (limit_of domains m) (type_of domains m s.field) s) x

  step_both : (s : Step) (x : ℕ) → s.division ≤ x → x < Steps.next_division domains m s → HasBoth (division_forms (limit_of domains m) (type_of domains m s.field) s) x
  step_both s x l h =
      let limit = limit_of domains m in
      let aspect = size_aspect (type_of domains m s.field) s.link.size in
      let cs = divisions limit s.before s.division s.link.condition in
      let fs = divisions_any limit s.before (first_division s) s.link.first in
      let ss = divisions_any limit s.before (size_division s) aspect in
      by_place x (first_division s) (λ a. left_both cs (fs ++ ss) x (division_both limit s.before s.division s.link.condition x l a))
      (λ a. right_both cs (fs ++ ss) x (by_place x (size_division s) (λ b. left_both fs ss x (any_both limit s.before (first_division s) s.link.first x a b))
      (λ b. right_both fs ss x (any_both limit s.before (size_division s) aspect x b h))))

  divided_on : (before : List Formed) (scalar d : ℕ) (links : List Arrow) (x : ℕ) → d ≤ x → x < Steps.division_after domains m d links → DividedBy (Steps.steps_from domains m before scalar d links) x
  divided_on before scalar d [] x l h = absurd (omega (arith, l, h))
  divided_on before scalar d (link ∷ links) x l h =
      let s : Step = record { before = before; scalar = scalar; division = d; link = link; field = target_field link.target } in
      let more = Steps.steps_from domains m (before ++ Steps.formed_at domains m s ∷ []) (Steps.next_scalar domains m s) (Steps.next_division domains m s) links in
      by_place x (Steps.next_division domains m s) (λ a. (s, inl refl, step_both s x l a))
      (λ a. let r = divided_on (before ++ Steps.formed_at domains m s ∷ []) (Steps.next_scalar domains m s) (Steps.next_division domains m s) links x a h in (r.0, inr r.1, r.2))

  -- a step of the path has the scalar with this variable
  abbrev ScalarOf : List Step → ℕ → Type 0
  ScalarOf steps x = (s : Step) × (t : Domain) × Among s steps × (type_of domains m s.field ≡ Some t) × (s.scalar ≡ x)

  here_or_on : (type : Option Domain) (s : Step) (more : List Step) (x rest : ℕ) → type_of domains m s.field ≡ type → s.scalar ≤ x → x < s.scalar + (scalars_in type + rest)
      → (s.scalar + scalars_in type ≤ x → x < s.scalar + scalars_in type + rest → ScalarOf more x) → ScalarOf (s ∷ more) x
  here_or_on (Some t) s more x rest e l h on = by_place x (s.scalar + 1) (λ a. (s, t, inl refl, e, omega (arith, l, a))) (λ a. let r = on a (omega (arith, h)) in (r.0, r.1, inr r.2, r.3, r.4))
  here_or_on None s more x rest e l h on = let r = on (omega (arith, l)) (omega (arith, h)) in (r.0, r.1, inr r.2, r.3, r.4)

  scalar_on : (before : List Formed) (scalar d : ℕ) (links : List Arrow) (x : ℕ) → scalar ≤ x → x < scalar + Steps.scalars_on domains m links → ScalarOf (Steps.steps_from domains m before scalar d links) x
  scalar_on before scalar d [] x l h = absurd (omega (arith, l, h))
  scalar_on before scalar d (link ∷ links) x l h =
      let s : Step = record { before = before; scalar = scalar; division = d; link = link; field = target_field link.target } in
      let more = Steps.steps_from domains m (before ++ Steps.formed_at domains m s ∷ []) (Steps.next_scalar domains m s) (Steps.next_division domains m s) links in
      here_or_on (type_of domains m s.field) s more x (Steps.scalars_on domains m links) refl l h
      (λ a b. scalar_on (before ++ Steps.formed_at domains m s ∷ []) (Steps.next_scalar domains m s) (Steps.next_division domains m s) links x a b)

  among_map : (f : Step → Form) (steps : List Step) (s : Step) → Among s steps → Among (f s) (map f steps)
  among_map f [] s h = absurd h
  among_map f (y ∷ ys) s (inl e) = inl (ap f e)
  among_map f (y ∷ ys) s (inr h) = inr (among_map f ys s h)

  same_domain : (a b : Domain) → Some a ≡ Some b → a ≡ b
  same_domain a b h = cc

  typed_proper : (k : FieldType) (low : Bool) (t : Domain) → IsFieldType domains m k → (elim k [ Scalar i ↦ slice_get domains i | Opaque ↦ None | Sequence i ↦ None ]) ≡ Some t → IsProper t
  typed_proper (Scalar i) low t h e = subst IsProper (same_domain h.0 t (sym h.1 ∙ e)) h.2
  typed_proper Opaque low t h e = absurd (cc)
  typed_proper (Sequence i) low t h e = absurd (cc)

  pub field_proper : IsElaborated domains m → (f : ℕ) (o : Option field.Field) (t : Domain) → slice_get m.fields f ≡ o → scalar_of domains o ≡ Some t → IsProper t
  field_proper el f None t is e = absurd (cc)
  field_proper el f (Some x) t is e = typed_proper x.kind m.low_order t (el.fields f x is).kind e

  module _ (el : IsElaborated domains m) (steps : List Step) (asked : List Form) (divided : List Linear) (n : ℕ) where
    abbrev forms : List Form
    forms = QueryOf.path_forms domains m steps asked divided

    abbrev types : List Form
    types = map (λ s. type_form_any type_form (type_of domains m s.field) s) steps

    abbrev places : List Form
    places = map (λ s. rows (place_forms (type_of domains m s.field) s)) steps

    abbrev overlays : List Form
    overlays = map (λ s. Steps.overlay_form domains m s) steps

    abbrev conditions : List Form
    conditions = map condition_form steps

    abbrev quotients : List Form
    quotients = map (λ s. rows (division_forms (limit_of domains m) (type_of domains m s.field) s)) steps

    abbrev last : List Form
    last = rows divided ∷ []

    abbrev behind : List Form
    behind = places ++ (overlays ++ (conditions ++ (asked ++ (quotients ++ last))))

    length_both : BothIn n (All forms) 0
    length_both = both_in_all n forms length_form 0 (right_among length_form types (length_form ∷ behind) (inl refl)) (between_both n 0 16777215 0 [])

    type_any_both : (type : Option Domain) (s : Step) (t : Domain) → type ≡ Some t → IsProper t → BothIn n (type_form_any type_form type s) s.scalar
    type_any_both (Some u) s t e p = subst (λ d. BothIn n (type_form d s.scalar) s.scalar) (sym (same_domain u t e)) (type_both n s.scalar t p)
    type_any_both None s t e p = absurd (cc)

    scalar_both : (x : ℕ) → ScalarOf steps x → BothIn n (All forms) x
    scalar_both x h =
        let s = h.0 in
        let f = type_form_any type_form (type_of domains m s.field) s in
        let p = field_proper el s.field (slice_get m.fields s.field) h.1 refl h.3 in
        subst (λ y. BothIn n (All forms) y) h.4
        (both_in_all n forms f s.scalar (left_among f types (length_form ∷ behind) (among_map (λ r. type_form_any type_form (type_of domains m r.field) r) steps s h.2)) (type_any_both (type_of domains m s.field) s h.1 h.3 p))

    among_last : (f : Form) → Among f (quotients ++ last) → Among f forms
    among_last f h =
        right_among f types (length_form ∷ behind) (inr (right_among f places (overlays ++ (conditions ++ (asked ++ (quotients ++ last)))) (right_among f overlays (conditions ++ (asked ++ (quotients ++ last)))
        (right_among f conditions (asked ++ (quotients ++ last)) (right_among f asked (quotients ++ last) h)))))

    divided_both : (x : ℕ) → DividedBy steps x → BothIn n (All forms) x
    divided_both x h =
        let s = h.0 in
        let f = rows (division_forms (limit_of domains m) (type_of domains m s.field) s) in
        both_in_all n forms f x (among_last f (left_among f quotients last (among_map (λ r. rows (division_forms (limit_of domains m) (type_of domains m r.field) r)) steps s h.1)))
        (both_rows n (division_forms (limit_of domains m) (type_of domains m s.field) s) x h.2)

    asked_is_both : (x : ℕ) → HasBoth divided x → BothIn n (All forms) x
    asked_is_both x h = both_in_all n forms (rows divided) x (among_last (rows divided) (right_among (rows divided) quotients last (inl refl))) (both_rows n divided x h)

  -- ---- the query

  abbrev rows_step : Query-F (List Row) → List Row
  rows_step level = level.system.rows

  rows_out : (n : ℕ) (parts : Parts) → (out-Query (query_of n parts)).system.rows ≡ parts.rows
  rows_out n parts =
      sym (fold_out-Query (List Row) rows_step (query_of n parts))
      ∙ fold-roll-Query (List Row) rows_step (record { system = record { variables = n; rows = parts.rows }; either = parts.either })

  both_units : (n x : ℕ) (form : Form) → x < n → BothIn n form x → (list_any (is_unit_row x (pos 1)) (parts_of n form).rows && list_any (is_unit_row x (negsuc 0)) (parts_of n form).rows) ≡ true
  both_units n x form h b =
      and_true (any_of (is_unit_row x (pos 1)) (parts_of n form).rows (row_of n (term (pos 1) x b.0.0)) b.0.1 (row_is_unit n x (pos 1) b.0.0 h))
      (any_of (is_unit_row x (negsuc 0)) (parts_of n form).rows (row_of n (term (negsuc 0) x b.1.0)) b.1.1 (row_is_unit n x (negsuc 0) b.1.0 h))

  pub variables_bounded : IsElaborated domains m → (g : Goal) (path : List ℕ) (x : ℕ) → x < (QueryOf.asked_at domains m g path).variables
      → (list_any (is_unit_row x (pos 1)) (out-Query (QueryOf.query_for domains m g path)).system.rows && list_any (is_unit_row x (negsuc 0)) (out-Query (QueryOf.query_for domains m g path)).system.rows) ≡ true
  variables_bounded el g path x h =
      let asked = QueryOf.asked_at domains m g path in
      let links = Steps.links_on domains m path in
      let steps = Steps.steps_of domains m path in
      let n = asked.variables in
      let form = QueryOf.asked_form domains m path asked in
      let both : BothIn n form x =
      by_place x 1 (λ a. let e : 0 ≡ x = omega (arith, a) in subst (λ y. BothIn n form y) e (length_both el steps asked.forms asked.divisions n))
      (λ a. by_place x (1 + Steps.scalars_on domains m links) (λ b. scalar_both el steps asked.forms asked.divisions n x (scalar_on [] 1 (1 + Steps.scalars_on domains m links) links x a b))
      (λ b. by_place x (QueryOf.division_at domains m path) (λ c. divided_both el steps asked.forms asked.divisions n x (divided_on [] 1 (1 + Steps.scalars_on domains m links) links x b c))
      (λ c. asked_is_both el steps asked.forms asked.divisions n x (goal_both domains m (fields_on domains m path) (QueryOf.division_at domains m path) g x c h)))) in
      subst (λ (rs : List Row). (list_any (is_unit_row x (pos 1)) rs && list_any (is_unit_row x (negsuc 0)) rs) ≡ true) (sym (rows_out n (parts_of n form))) (both_units n x form h both)
