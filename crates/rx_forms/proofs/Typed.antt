-- Typed, linear and narrow expressions have sums and facts.
use Rattle.std.proofs.Common.{◌≡◌, ◌≢◌, refl, sym, ap, subst, ◌∙◌, ℕ, zero, suc, List, Bool, Option, Some, None, ◌⊎◌, inl, inr}
use Rattle.std.specs.Prelude.{slice_get}
use Rattle.rx_types.specs.declared.expr.Operator.TheVariants as op
use Rattle.rx_types.specs.declared.kind.Kind.{Kind}
use Rattle.rx_types.specs.declared.kind.Kind.TheVariants as kind
use Rattle.rx_types.specs.declared.scalar.FieldType.{FieldType}
use Rattle.rx_types.specs.declared.scalar.FieldType.TheVariants.{Scalar, Opaque, Sequence}
use Rattle.rx_types.specs.Domain.{Domain, Integer, Enumeration, greatest_of, boolean}
use Rattle.rx_types.specs.Tree.{Tree, Number, Truth, Field, First, Last, Size, Total, Neg, Not, Binary}
use Rattle.rx_types.specs.Kinds.{HasKind, IsSpelled, AreComparable}
use Rattle.rx_types.specs.Static.{IsLinear}
use Rattle.rx_graph.specs.declared.message.Field as field
use Rattle.rx_graph.specs.Graph.{Graph, limit_of, kind_of, kind_in, kind_of_field, scalar_of, greatest_if_any}
use Rattle.rx_graph.specs.Elaborated.{IsElaborated, IsAspect}
use Rattle.rx_forms.specs.Normal.{truth_in, IsNumeric, IsCondition, IsCompared}
use Rattle.rx_forms.specs.Links.{IsNumericIfAny, IsNarrowIfAny, AreFormable, AreNarrow}

number_no_truth : kind.Number ≢ kind.Truth
number_no_truth e = cc

truth_no_number : kind.Truth ≡ kind.Number → ⊥
truth_no_number e = cc

not_truth : (k l : Kind) → k ≡ l → k ≢ kind.Truth → l ≢ kind.Truth
not_truth k l e n h = n (e ∙ h)

-- a typed and linear number
pub numeric_of : (kinds : ℕ → Option Kind) (x : Tree) (k : Kind) → HasKind kinds x k → k ≢ kind.Truth → IsLinear x → IsNumeric x
numeric_of kinds (Number z) k h n l = tt
numeric_of kinds (Field f) k h n l = tt
numeric_of kinds (First f) k h n l = tt
numeric_of kinds (Last f) k h n l = tt
numeric_of kinds (Size f) k h n l = tt
numeric_of kinds Total k h n l = tt
numeric_of kinds (Truth b) k h n l = absurd (n h)
numeric_of kinds (Neg a) k h n l = numeric_of kinds a kind.Number h.1 number_no_truth l
numeric_of kinds (Not a) k h n l = absurd (n h.0)
numeric_of kinds (Binary op.Add a b) k h n l = (numeric_of kinds a h.1.0 h.1.2 (not_truth kind.Number h.1.0 (sym h.1.1) number_no_truth) l.1, numeric_of kinds b h.1.0 h.1.3 (not_truth kind.Number h.1.0 (sym h.1.1) number_no_truth) l.2)
numeric_of kinds (Binary op.Sub a b) k h n l = (numeric_of kinds a h.1.0 h.1.2 (not_truth kind.Number h.1.0 (sym h.1.1) number_no_truth) l.1, numeric_of kinds b h.1.0 h.1.3 (not_truth kind.Number h.1.0 (sym h.1.1) number_no_truth) l.2)
numeric_of kinds (Binary op.Mul a b) k h n l = (numeric_of kinds a h.1.0 h.1.2 (not_truth kind.Number h.1.0 (sym h.1.1) number_no_truth) l.1, numeric_of kinds b h.1.0 h.1.3 (not_truth kind.Number h.1.0 (sym h.1.1) number_no_truth) l.2, l.0)
numeric_of kinds (Binary op.Div a b) k h n l = (numeric_of kinds a h.1.0 h.1.2 (not_truth kind.Number h.1.0 (sym h.1.1) number_no_truth) l.1, l.0.0, l.0.1)
numeric_of kinds (Binary op.Mod a b) k h n l = (numeric_of kinds a h.1.0 h.1.2 (not_truth kind.Number h.1.0 (sym h.1.1) number_no_truth) l.1, l.0.0, l.0.1)
numeric_of kinds (Binary op.And a b) k h n l = absurd (n h.0)
numeric_of kinds (Binary op.Or a b) k h n l = absurd (n h.0)
numeric_of kinds (Binary op.Equal a b) k h n l = absurd (n h.0)
numeric_of kinds (Binary op.NotEqual a b) k h n l = absurd (n h.0)
numeric_of kinds (Binary op.Less a b) k h n l = absurd (n h.0)
numeric_of kinds (Binary op.LessEqual a b) k h n l = absurd (n h.0)
numeric_of kinds (Binary op.Greater a b) k h n l = absurd (n h.0)
numeric_of kinds (Binary op.GreaterEqual a b) k h n l = absurd (n h.0)

-- ---- conditions

untold : (kinds : ℕ → Option Kind) (x : Tree) (k : Kind) → HasKind kinds x k → k ≢ kind.Truth → truth_in x ≡ None
untold kinds (Number z) k h n = refl
untold kinds (Field f) k h n = refl
untold kinds (First f) k h n = refl
untold kinds (Last f) k h n = refl
untold kinds (Size f) k h n = refl
untold kinds Total k h n = refl
untold kinds (Truth b) k h n = absurd (n h)
untold kinds (Neg a) k h n = refl
untold kinds (Not a) k h n = refl
untold kinds (Binary o a b) k h n = refl

told : (x : Tree) → IsSpelled x → truth_in x ≡ None → ⊥
told (Truth b) h e = cc
told (Number z) h e = h
told (Field f) h e = h
told (First f) h e = h
told (Last f) h e = h
told (Size f) h e = h
told Total h e = h
told (Neg a) h e = h
told (Not a) h e = h
told (Binary o a b) h e = h

either_side : (p q : Option Bool) (A B N : Type 0) → A → B → (p ≡ None → q ≡ None → ⊥) → IsCompared p q A B N
either_side (Some t) q A B N a b n = b
either_side None (Some t) A B N a b n = a
either_side None None A B N a b n = absurd (n refl refl)

both_sides : (p q : Option Bool) (A B N : Type 0) → p ≡ None → q ≡ None → N → IsCompared p q A B N
both_sides p q A B N e f n = subst (λ r. IsCompared r q A B N) (sym e) (subst (λ r. IsCompared None r A B N) (sym f) n)

one_told : (a b : Tree) → IsSpelled a ⊎ IsSpelled b → truth_in a ≡ None → truth_in b ≡ None → ⊥
one_told a b (inl h) e f = told a h e
one_told a b (inr h) e f = told b h f

-- what a comparison's sides are, by their kind
sides : (kinds : ℕ → Option Kind) (limit : ℕ → ℕ) (k : Kind) (a b : Tree) → AreComparable k a b → HasKind kinds a k → HasKind kinds b k → IsLinear a → IsLinear b
    → (HasKind kinds a kind.Truth → IsCondition limit a) → (HasKind kinds b kind.Truth → IsCondition limit b) → IsCompared (truth_in a) (truth_in b) (IsCondition limit a) (IsCondition limit b) (IsNumeric a × IsNumeric b)
sides kinds limit kind.Truth a b c ha hb la lb fa fb = either_side (truth_in a) (truth_in b) (IsCondition limit a) (IsCondition limit b) (IsNumeric a × IsNumeric b) (fa ha) (fb hb) (one_told a b c)
sides kinds limit kind.Number a b c ha hb la lb fa fb =
    both_sides (truth_in a) (truth_in b) (IsCondition limit a) (IsCondition limit b) (IsNumeric a × IsNumeric b) (untold kinds a kind.Number ha number_no_truth) (untold kinds b kind.Number hb number_no_truth)
    (numeric_of kinds a kind.Number ha number_no_truth la, numeric_of kinds b kind.Number hb number_no_truth lb)
sides kinds limit (kind.Of t) a b c ha hb la lb fa fb =
    both_sides (truth_in a) (truth_in b) (IsCondition limit a) (IsCondition limit b) (IsNumeric a × IsNumeric b) (untold kinds a (kind.Of t) ha of_no_truth) (untold kinds b (kind.Of t) hb of_no_truth)
    (numeric_of kinds a (kind.Of t) ha of_no_truth la, numeric_of kinds b (kind.Of t) hb of_no_truth lb)
  where
    of_no_truth : kind.Of t ≢ kind.Truth
    of_no_truth e = cc

module _ (domains : List Domain) (m : Graph) (first_is_boolean : (d : Domain) → slice_get domains 0 ≡ Some d → d ≡ boolean) where
  one_of_boolean : (t : ℕ) (d : Option Domain) → ((x : Domain) → t ≡ 0 → d ≡ Some x → x ≡ boolean) → kind_in t d ≡ Some kind.Truth → greatest_if_any d ≡ 1
  one_of_boolean zero (Some d) first h = ap greatest_of (first d refl refl)
  one_of_boolean zero None first h = absurd (cc)
  one_of_boolean (suc t) (Some (Integer low high size)) first h = absurd (cc)
  one_of_boolean (suc t) (Some (Enumeration literals size always_valid)) first h = absurd (cc)
  one_of_boolean (suc t) None first h = absurd (cc)

  flag_of_kind : (c : FieldType) → (elim c [ Scalar t ↦ kind_in t (slice_get domains t) | Opaque ↦ None | Sequence t ↦ None ]) ≡ Some kind.Truth → greatest_if_any (elim c [ Scalar t ↦ slice_get domains t | Opaque ↦ None | Sequence t ↦ None ]) ≡ 1
  flag_of_kind (Scalar t) h = one_of_boolean t (slice_get domains t) (λ x e s. first_is_boolean x (ap (λ (i : ℕ). slice_get domains i) (sym e) ∙ s)) h
  flag_of_kind Opaque h = absurd (cc)
  flag_of_kind (Sequence t) h = absurd (cc)

  flag_of : (f : Option field.Field) → kind_of_field domains f ≡ Some kind.Truth → greatest_if_any (scalar_of domains f) ≡ 1
  flag_of None h = absurd (cc)
  flag_of (Some f) h = flag_of_kind f.kind h

  -- a typed and linear truth value
  pub condition_of : (x : Tree) → HasKind (kind_of domains m) x kind.Truth → IsLinear x → IsCondition (limit_of domains m) x
  condition_of (Truth b) h l = tt
  condition_of (Field f) h l = flag_of (slice_get m.fields f) h
  condition_of (Not a) h l = condition_of a h.1 l
  condition_of (Number z) h l = absurd (h refl)
  condition_of (First f) h l = absurd (truth_no_number h)
  condition_of (Last f) h l = absurd (truth_no_number h)
  condition_of (Size f) h l = absurd (truth_no_number h)
  condition_of Total h l = absurd (truth_no_number h)
  condition_of (Neg a) h l = absurd (truth_no_number h.0)
  condition_of (Binary op.Add a b) h l = absurd (truth_no_number h.0)
  condition_of (Binary op.Sub a b) h l = absurd (truth_no_number h.0)
  condition_of (Binary op.Mul a b) h l = absurd (truth_no_number h.0)
  condition_of (Binary op.Div a b) h l = absurd (truth_no_number h.0)
  condition_of (Binary op.Mod a b) h l = absurd (truth_no_number h.0)
  condition_of (Binary op.And a b) h l = (condition_of a (subst (λ k. HasKind (kind_of domains m) a k) h.1.1 h.1.2) l.1, condition_of b (subst (λ k. HasKind (kind_of domains m) b k) h.1.1 h.1.3) l.2)
  condition_of (Binary op.Or a b) h l = (condition_of a (subst (λ k. HasKind (kind_of domains m) a k) h.1.1 h.1.2) l.1, condition_of b (subst (λ k. HasKind (kind_of domains m) b k) h.1.1 h.1.3) l.2)
  condition_of (Binary op.Equal a b) h l = sides (kind_of domains m) (limit_of domains m) h.1.0 a b h.1.1 h.1.2 h.1.3 l.1 l.2 (λ t. condition_of a t l.1) (λ t. condition_of b t l.2)
  condition_of (Binary op.NotEqual a b) h l = sides (kind_of domains m) (limit_of domains m) h.1.0 a b h.1.1 h.1.2 h.1.3 l.1 l.2 (λ t. condition_of a t l.1) (λ t. condition_of b t l.2)
  condition_of (Binary op.Less a b) h l = (numeric_of (kind_of domains m) a h.1.0 h.1.2 (not_truth kind.Number h.1.0 (sym h.1.1) number_no_truth) l.1, numeric_of (kind_of domains m) b h.1.0 h.1.3 (not_truth kind.Number h.1.0 (sym h.1.1) number_no_truth) l.2)
  condition_of (Binary op.LessEqual a b) h l = (numeric_of (kind_of domains m) a h.1.0 h.1.2 (not_truth kind.Number h.1.0 (sym h.1.1) number_no_truth) l.1, numeric_of (kind_of domains m) b h.1.0 h.1.3 (not_truth kind.Number h.1.0 (sym h.1.1) number_no_truth) l.2)
  condition_of (Binary op.Greater a b) h l = (numeric_of (kind_of domains m) a h.1.0 h.1.2 (not_truth kind.Number h.1.0 (sym h.1.1) number_no_truth) l.1, numeric_of (kind_of domains m) b h.1.0 h.1.3 (not_truth kind.Number h.1.0 (sym h.1.1) number_no_truth) l.2)
  condition_of (Binary op.GreaterEqual a b) h l = (numeric_of (kind_of domains m) a h.1.0 h.1.2 (not_truth kind.Number h.1.0 (sym h.1.1) number_no_truth) l.1, numeric_of (kind_of domains m) b h.1.0 h.1.3 (not_truth kind.Number h.1.0 (sym h.1.1) number_no_truth) l.2)

  numeric_aspect : (x : Option Tree) → IsAspect domains m x → IsNumericIfAny x
  numeric_aspect None h = tt
  numeric_aspect (Some x) h = numeric_of (kind_of domains m) x kind.Number h.0.typed number_no_truth h.0.linear

  narrow_aspect : (x : Option Tree) → IsAspect domains m x → IsNarrowIfAny (limit_of domains m) x
  narrow_aspect None h = tt
  narrow_aspect (Some x) h = h.0.narrow

  -- the links of an elaborated message
  pub links_formable : IsElaborated domains m → AreFormable (limit_of domains m) m
  links_formable e i link h =
      let l = e.links i link h in
      record { condition = condition_of link.condition l.condition.typed l.condition.linear; first = numeric_aspect link.first l.first; size = numeric_aspect link.size l.size }

  pub links_narrow : IsElaborated domains m → AreNarrow (limit_of domains m) m
  links_narrow e i link h =
      let l = e.links i link h in
      record { condition = l.condition.narrow; first = narrow_aspect link.first l.first; size = narrow_aspect link.size l.size }
