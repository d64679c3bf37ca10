-- What comes out is typed, linear and narrow.
use Rattle.std.proofs.Common.{◌≡◌, ◌∙◌, ap, sym, refl, subst, ℕ, ◌^◌, ◌<◌, ◌≤◌, ◌+◌, Bool, true, false, not, ◌&&◌, ◌||◌, List, [], Option, Some, None, Ok, Err, ◌⊎◌, inl, inr, arith}
use Rattle.std.specs.Prelude.{ℤ, pos, neg_ℤ, ◌<ℤ◌, codes, int_lt, ◌-◌, if◌then◌else◌}
use Rattle.std.proofs.lemmas.Int.{ints}
use Rattle.std.proofs.lemmas.Bool.Decides.{nat_tests}
use Rattle.std.specs.Option.{option_or, option_map}
use Rattle.rx_syntax.specs.declared.token.Place.{Place}
use Rattle.rx_syntax.specs.declared.tree.Named.{Named}
use Rattle.rx_syntax.specs.declared.tree.NameTree.{NameTree}
use Rattle.rx_syntax.specs.declared.tree.Attr.{Attr}
use Rattle.rx_syntax.specs.declared.tree.Attr.TheVariants as attr
use Rattle.rx_syntax.specs.declared.tree.ExprTree.{ExprTree}
use Rattle.rx_syntax.specs.declared.tree.ExprTree.TheVariants as tree
use Rattle.rx_types.specs.declared.interval.Interval.{Interval}
use Rattle.rx_types.specs.declared.expr.Operator.{Operator}
use Rattle.rx_types.specs.declared.expr.Operator.TheVariants as op
use Rattle.rx_types.specs.declared.kind.Kind.{Kind}
use Rattle.rx_types.specs.declared.kind.Kind.TheVariants as kind
use Rattle.rx_types.specs.Kinds.{HasKind, Takes, AreComparable, IsSpelled}
use Rattle.rx_types.specs.Narrow.{from_to, single, truths, negation, is_short, is_divisor_in, if_short, narrow_by, interval_by, interval_of, IsShort, IsNarrow}
use Rattle.rx_types.specs.Static.{is_static, static_value, is_arithmetic, IsLinearIn, IsStaticDivisor, operators_in, is_last_of_message}
use Rattle.rx_types.specs.Tree.{Tree, Number, Truth, Field, First, Last, Size, Total, Neg, Not, Binary}
use Rattle.rx_types.proofs.Short.{short_facts, divisor_in_facts}
use Rattle.rx_types.proofs.Statics.{static_everywhere}
use Rattle.rx_judge.specs.Meaning.{Meaning, ◌>>=◌, refused, refused_at}
use Rattle.rx_judge.specs.Names.{Scope, Names, Nothing, Within, same, known, thing_of, thing_in, own_thing, field_named, literal_named, truth_named, is_visible}
use Rattle.rx_judge.specs.Table.{found}
use Rattle.rx_judge.specs.Kinds.{operator_of, is_number, is_truth, same_kind, are_comparable, takes, is_linear, is_static_divisor, bounds_by, power, about_both, tree_by}
use Rattle.rx_judge.specs.Low.{are_low}
use Rattle.rx_judge.specs.Judged.{Typed, judged, joined, lowness, narrow, about_by, plain, spelled_truth, static_number, value_of_field, value_of_thing, attribute_of_thing, attribute_of_message, is_message, name_as_value, name_with_attribute, name_with_member, negative, opposite}
use Rattle.rx_judge.specs.Sound.{FieldsBelow, operators_of, IsListed, FitScope, FitNames, IsSound}
use Rattle.rx_judge.specs.declared.about.About.{About}
use Rattle.rx_judge.specs.declared.names.KnownField.{KnownField}
use Rattle.rx_judge.specs.declared.names.KnownLiteral.{KnownLiteral}
use Rattle.rx_judge.specs.declared.names.FieldKind.{FieldKind}
use Rattle.rx_judge.specs.declared.names.FieldKind.TheVariants as field_kind
use Rattle.rx_judge.specs.declared.names.Thing.{Thing}
use Rattle.rx_judge.specs.declared.names.Thing.TheVariants as thing
use Rattle.rx_judge.proofs.Meanings.{err_differs, ok_same, bind_ok, if_ok, unless_ok}
use Rattle.rx_judge.proofs.Lows.{both_true, are_low_facts}
use Rattle.rx_syntax.specs.declared.rule.Refusal.{Refusal}
use Rattle.rx_syntax.specs.declared.rule.Rule.TheVariants as rule

-- ---- kinds

number_kind : (k : Kind) → is_number k ≡ true → k ≡ kind.Number
number_kind kind.Number h = refl
number_kind kind.Truth h = absurd (cc)
number_kind (kind.Of a) h = absurd (cc)

truth_kind : (k : Kind) → is_truth k ≡ true → k ≡ kind.Truth
truth_kind kind.Truth h = refl
truth_kind kind.Number h = absurd (cc)
truth_kind (kind.Of a) h = absurd (cc)

same_kinds : (k l : Kind) → same_kind k l ≡ true → l ≡ k
same_kinds kind.Number l h = number_kind l h
same_kinds kind.Truth l h = truth_kind l h
same_kinds (kind.Of a) (kind.Of b) h = ap (λ x. kind.Of x) (grind (arith, nat_tests))
same_kinds (kind.Of a) kind.Number h = absurd (cc)
same_kinds (kind.Of a) kind.Truth h = absurd (cc)

two_numbers : (k l : Kind) → is_number k && is_number l ≡ true → (k ≡ kind.Number) × (l ≡ k)
two_numbers k l h = let b = both_true (is_number k) (is_number l) h in (number_kind k b.0, number_kind l b.1 ∙ sym (number_kind k b.0))

two_truths : (k l : Kind) → is_truth k && is_truth l ≡ true → (k ≡ kind.Truth) × (l ≡ k)
two_truths k l h = let b = both_true (is_truth k) (is_truth l) h in (truth_kind k b.0, truth_kind l b.1 ∙ sym (truth_kind k b.0))

-- one of two, where the third is not
either_of : (a b c : Bool) → (not a || b || c) ≡ true → a ≡ true → (b ≡ true) ⊎ (c ≡ true)
either_of true true c h e = inl refl
either_of true false true h e = inr refl
either_of true false false h e = absurd (cc)
either_of false b c h e = absurd (cc)

comparable_in : (k : Kind) (a b : Tree) → (k ≡ kind.Truth → IsSpelled a ⊎ IsSpelled b) → AreComparable k a b
comparable_in kind.Truth a b h = h refl
comparable_in kind.Number a b h = tt
comparable_in (kind.Of e) a b h = tt

spelled_in : (k : Kind) → k ≡ kind.Truth → is_truth k ≡ true
spelled_in k e = rw e refl

spelled_or : (l r : About) (a b : Tree) → (l.is_literal ≡ true → IsSpelled a) → (r.is_literal ≡ true → IsSpelled b) → (l.is_literal ≡ true) ⊎ (r.is_literal ≡ true) → IsSpelled a ⊎ IsSpelled b
spelled_or l r a b p q (inl h) = inl (p h)
spelled_or l r a b p q (inr h) = inr (q h)

compares : (l r : About) (a b : Tree) → (l.is_literal ≡ true → IsSpelled a) → (r.is_literal ≡ true → IsSpelled b) → are_comparable l r ≡ true → AreComparable l.kind a b × (r.kind ≡ l.kind)
compares l r a b p q h =
    let c = both_true (same_kind l.kind r.kind) (not (is_truth l.kind) || l.is_literal || r.is_literal) h in
    (comparable_in l.kind a b (λ e. spelled_or l r a b p q (either_of (is_truth l.kind) l.is_literal r.is_literal c.1 (spelled_in l.kind e))), same_kinds l.kind r.kind c.0)

-- both operands have one kind, which the operator takes
taken : (o : Operator) (l r : About) (a b : Tree) → (l.is_literal ≡ true → IsSpelled a) → (r.is_literal ≡ true → IsSpelled b) → takes (Some o) l r ≡ true → Takes o l.kind a b × (r.kind ≡ l.kind)
taken op.Or l r a b p q h = two_truths l.kind r.kind h
taken op.And l r a b p q h = two_truths l.kind r.kind h
taken op.Equal l r a b p q h = compares l r a b p q h
taken op.NotEqual l r a b p q h = compares l r a b p q h
taken op.Less l r a b p q h = two_numbers l.kind r.kind h
taken op.LessEqual l r a b p q h = two_numbers l.kind r.kind h
taken op.Greater l r a b p q h = two_numbers l.kind r.kind h
taken op.GreaterEqual l r a b p q h = two_numbers l.kind r.kind h
taken op.Add l r a b p q h = two_numbers l.kind r.kind h
taken op.Sub l r a b p q h = two_numbers l.kind r.kind h
taken op.Mul l r a b p q h = two_numbers l.kind r.kind h
taken op.Div l r a b p q h = two_numbers l.kind r.kind h
taken op.Mod l r a b p q h = two_numbers l.kind r.kind h

-- ---- linear

or_true : (a b c d : Bool) → (a ≡ true → c ≡ true) → (b ≡ true → d ≡ true) → (a || b) ≡ true → (c || d) ≡ true
or_true true b c d p q h = rw (p refl) refl
or_true false true true d p q h = refl
or_true false true false d p q h = q refl
or_true false false c d p q h = absurd (cc)

-- what the static value of an expression is, where its interval is known
low_is_value : (limit : ℕ → ℕ) (x : Tree) (i : Interval) → is_static x ≡ true → interval_of limit x ≡ i → i.low ≡ static_value x
low_is_value limit x i s e = ap (λ (j : Interval). j.low) (sym e ∙ (static_everywhere x s).interval limit)

positive : (z : ℤ) → int_lt (pos 0) z ≡ true → pos 0 <ℤ z
positive z h = grind (arith, ints)

divisor_in : (limit : ℕ → ℕ) (x : Tree) (r : About) → (r.is_static ≡ true → is_static x ≡ true) → interval_of limit x ≡ r.interval → is_static_divisor r ≡ true → IsStaticDivisor x
divisor_in limit x r s e h =
    let b = both_true r.is_static (int_lt (pos 0) r.interval.low) h in
    (s b.0, rw (low_is_value limit x r.interval (s b.0) e) at (positive r.interval.low b.1))

linear_in : (limit : ℕ → ℕ) (o : Operator) (l r : About) (a b : Tree) → (l.is_static ≡ true → is_static a ≡ true) → (r.is_static ≡ true → is_static b ≡ true) → interval_of limit b ≡ r.interval → is_linear (Some o) l r ≡ true → IsLinearIn o a b
linear_in limit op.Mul l r a b p q e h = or_true l.is_static r.is_static (is_static a) (is_static b) p q h
linear_in limit op.Div l r a b p q e h = divisor_in limit b r q e h
linear_in limit op.Mod l r a b p q e h = divisor_in limit b r q e h
linear_in limit o l r a b p q e h = tt

-- ---- narrow

none_differs : {A : Type 0} (x : A) → None ≡ Some x → ⊥
none_differs x h = cc

some_same : {A : Type 0} (x y : A) → Some x ≡ Some y → x ≡ y
some_same x y h = cc

pub short_if : (t : Bool) (i k : Interval) → is_short i ≡ t → if_short i ≡ Some k → IsShort i × (i ≡ k)
short_if true i k e h = (short_facts i e, some_same i k (rw e at h))
short_if false i k e h = absurd (none_differs k (rw e at h))

pub narrow_facts : (t : Bool) (o : Operator) (i j k : Interval) → is_divisor_in o j ≡ t → narrow_by o i j ≡ Some k → (is_divisor_in o j ≡ true) × IsShort (interval_by o i j) × (interval_by o i j ≡ k)
narrow_facts true o i j k e h = let s = short_if (is_short (interval_by o i j)) (interval_by o i j) k refl (rw e at h) in (e, s.0, s.1)
narrow_facts false o i j k e h = absurd (none_differs k (rw e at h))

-- ---- steps of joining

narrow_ok : {A : Type 0} (owner : List ℕ) (p : Place) (o : Option A) (x : A) → narrow owner p o ≡ Ok x → o ≡ Some x
narrow_ok owner p None x h = absurd (err_differs _ x h)
narrow_ok owner p (Some y) x h = ap (λ z. Some z) (ok_same y x h)

pub about_ok : (owner : List ℕ) (o : Option Operator) (p : Place) (l r a : About) → about_by owner o p l r ≡ Ok a → (takes o l r ≡ true) × (is_linear o l r ≡ true) × (bounds_by o l.interval r.interval ≡ Some a.interval) × (about_both o l r a.interval ≡ a)
about_ok owner o p l r a h =
    let third : Meaning About = narrow owner p (bounds_by o l.interval r.interval) >>= (λ i. Ok (about_both o l r i)) in
    let second : Meaning About = if not (is_linear o l r) then refused rule.NotLinear p owner else third in
    let x = unless_ok (takes o l r) second a (record { rule = rule.WrongType; place = p; word = Some owner }) h in
    let y = unless_ok (is_linear o l r) third a (record { rule = rule.NotLinear; place = p; word = Some owner }) x.1 in
    let z = bind_ok (narrow owner p (bounds_by o l.interval r.interval)) (λ i. Ok (about_both o l r i)) a y.1 in
    let e = ok_same (about_both o l r z.0) a z.2 in
    let i : z.0 ≡ a.interval = ap (λ (b : About). b.interval) e in
    (x.0, y.0, narrow_ok owner p (bounds_by o l.interval r.interval) z.0 z.1 ∙ ap (λ j. Some j) i, subst (λ j. about_both o l r j ≡ a) i e)

all_arithmetic : (o : Operator) (a b c d : Bool) → a ≡ c → b ≡ d → (is_arithmetic o && a && b) ≡ (is_arithmetic o && c && d)
all_arithmetic o a b c d e f = rw (e, f) refl

pub three : (a b c : Bool) → (a && b && c) ≡ true → (a ≡ true) × (b ≡ true) × (c ≡ true)
three true true true h = (refl, refl, refl)
three true true false h = cc
three true false c h = cc
three false b c h = cc

pub three_back : (a b c : Bool) → a ≡ true → b ≡ true → c ≡ true → (a && b && c) ≡ true
three_back a b c x y z = rw (x, y, z) refl

at_most_one : (b : Bool) → (if b then 0 else 1) ≤ 1
at_most_one true = omega arith
at_most_one false = omega arith

few_both : (o : Operator) (a b : Tree) (m n : ℕ) → operators_in a ≤ m → operators_in b ≤ n → operators_in (Binary o a b) ≤ m + n + 1
few_both o a b m n h k = let q = at_most_one (is_last_of_message o a b) in omega arith

module _ (kinds : ℕ → Option Kind) (limit : ℕ → ℕ) (bound : ℕ) where
  -- an expression without its text
  pub record IsFine (x : Typed) : Type 0 where
    pub fields : FieldsBelow bound x.tree
    pub has_kind : HasKind kinds x.tree x.about.kind
    pub linear : Rattle.rx_types.specs.Static.IsLinear x.tree
    pub narrow : IsNarrow limit x.tree
    pub low : Rattle.rx_types.specs.Coefficients.HasLowCoefficients x.tree
    pub interval : interval_of limit x.tree ≡ x.about.interval
    pub constant : x.about.is_constant ≡ is_static x.tree
    pub static : x.about.is_static ≡ true → x.about.is_constant ≡ true
    pub spelled : x.about.is_literal ≡ true → IsSpelled x.tree

  -- ---- operators

  narrow_short : (x : Tree) → IsNarrow limit x → IsShort (interval_of limit x)
  narrow_short (Number n) h = h
  narrow_short (Truth b) h = h
  narrow_short (Field f) h = h
  narrow_short (First f) h = h
  narrow_short (Last f) h = h
  narrow_short (Size f) h = h
  narrow_short Total h = h
  narrow_short (Neg a) h = h.0
  narrow_short (Not a) h = h.0
  narrow_short (Binary o a b) h = h.0

  is_tree_static : (x : Typed) → IsFine x → x.about.is_static ≡ true → is_static x.tree ≡ true
  is_tree_static x f h = sym f.constant ∙ f.static h

  binary_fine : (o : Operator) (l r : Typed) (i : Interval) → IsFine l → IsFine r → takes (Some o) l.about r.about ≡ true → is_linear (Some o) l.about r.about ≡ true → narrow_by o l.about.interval r.about.interval ≡ Some i → are_low (Binary o l.tree r.tree) ≡ true → IsFine (record { tree = Binary o l.tree r.tree; about = about_both (Some o) l.about r.about i })
  binary_fine o l r i f g t n b w =
      let k = taken o l.about r.about l.tree r.tree f.spelled g.spelled t in
      let d = narrow_facts (is_divisor_in o r.about.interval) o l.about.interval r.about.interval i refl b in
      record {
        fields = (f.fields, g.fields);
        has_kind = (refl, (l.about.kind, k.0, f.has_kind, rw (k.1) at g.has_kind));
        linear = (linear_in limit o l.about r.about l.tree r.tree (is_tree_static l f) (is_tree_static r g) g.interval n, f.linear, g.linear);
        narrow = (rw (f.interval, g.interval) (d.1), rw (g.interval) (divisor_in_facts o r.about.interval d.0), f.narrow, g.narrow);
        low = (are_low_facts (Binary o l.tree r.tree) w, f.low, g.low);
        interval = rw (f.interval, g.interval) (d.2);
        constant = all_arithmetic o l.about.is_constant r.about.is_constant (is_static l.tree) (is_static r.tree) f.constant g.constant;
        static = λ h. let q = three (is_arithmetic o) l.about.is_static r.about.is_static h in three_back (is_arithmetic o) l.about.is_constant r.about.is_constant q.0 (f.static q.1) (g.static q.2);
        spelled = λ h. absurd (cc);
      }

  power_fine : (l r : Typed) (i : Interval) → bounds_by None l.about.interval r.about.interval ≡ Some i → IsFine (record { tree = Number i.low; about = about_both None l.about r.about i })
  power_fine l r i b =
      let d = short_if (is_short (power l.about.interval r.about.interval)) (power l.about.interval r.about.interval) i refl b in
      let e : single i.low ≡ i = ap (λ (j : Interval). single j.low) (sym d.1) ∙ d.1 in
      record {
        fields = tt;
        has_kind = λ h. absurd (cc);
        linear = tt;
        narrow = rw e (subst (λ j. IsShort j) d.1 d.0);
        low = tt;
        interval = e;
        constant = refl;
        static = λ h. refl;
        spelled = λ h. absurd (cc);
      }

  lowness_ok : (owner : List ℕ) (p : Place) (x : Tree) (u : Unit {0}) → lowness owner p x ≡ Ok u → are_low x ≡ true
  lowness_ok owner p x u h = (if_ok (are_low x) tt u (record { rule = rule.TooWide; place = p; word = Some owner }) h).0

  join_fine : (o : Option Operator) (l r : Typed) (a : About) → IsFine l → IsFine r → (takes o l.about r.about ≡ true) × (is_linear o l.about r.about ≡ true) × (bounds_by o l.about.interval r.about.interval ≡ Some a.interval) × (about_both o l.about r.about a.interval ≡ a) → are_low (tree_by o a.interval.low l.tree r.tree) ≡ true → IsFine (record { tree = tree_by o a.interval.low l.tree r.tree; about = a })
  join_fine None l r a f g k w = subst (λ (b : About). IsFine (record { tree = Number a.interval.low; about = b })) k.3 (power_fine l r a.interval k.2)
  join_fine (Some o) l r a f g k w = subst (λ (b : About). IsFine (record { tree = Binary o l.tree r.tree; about = b })) k.3 (binary_fine o l r a.interval f g k.0 k.1 k.2 w)

  joined_fine : (owner : List ℕ) (o : Option Operator) (p : Place) (l r x : Typed) → IsFine l → IsFine r → joined owner o p l r ≡ Ok x → IsFine x
  joined_fine owner o p l r x f g h =
      let t = λ (a : About). tree_by o a.interval.low l.tree r.tree in
      let q = bind_ok (about_by owner o p l.about r.about) (λ a. lowness owner p (t a) >>= (λ u. Ok (record { tree = t a; about = a }))) x h in
      let a = q.0 in
      let w = bind_ok (lowness owner p (t a)) (λ u. Ok (record { tree = t a; about = a })) x q.2 in
      let k = about_ok owner o p l.about r.about a q.1 in
      subst (λ z. IsFine z) (ok_same _ x w.2) (join_fine o l r a f g k (lowness_ok owner p (t a) w.0 w.1))

  short_negation : (i : Interval) → IsShort i → IsShort (negation i)
  short_negation i h = let a = h.low_above in let b = h.low_below in let c = h.high_above in let d = h.high_below in record { low_above = omega (arith, ints); low_below = omega (arith, ints); high_above = omega (arith, ints); high_below = omega (arith, ints) }

  spelled_kind : (t : Tree) (k : Kind) → IsSpelled t → HasKind kinds t k → k ≡ kind.Truth
  spelled_kind (Truth b) k i h = h
  spelled_kind t k i h = absurd i

  number_truth : (k : Kind) → k ≡ kind.Number → k ≡ kind.Truth → ⊥
  number_truth k e f = let d = sym e ∙ f in cc

  literal_is_truth : (a : Typed) → IsFine a → a.about.kind ≡ kind.Number → a.about.is_literal ≡ true → ⊥
  literal_is_truth a s k e = number_truth a.about.kind k (spelled_kind a.tree a.about.kind (s.spelled e) s.has_kind)

  negative_fine : (owner : List ℕ) (p : Place) (a x : Typed) → IsFine a → negative owner p a ≡ Ok x → IsFine x
  negative_fine owner p a x s h =
      let r : Typed = record { tree = Neg a.tree; about = record a.about { interval = negation a.about.interval } } in
      let q = if_ok (is_number a.about.kind) r x (record { rule = rule.WrongType; place = p; word = Some owner }) h in
      let k = number_kind a.about.kind q.0 in
      let have : IsFine r = record {
        fields = s.fields;
        has_kind = (k, rw k at s.has_kind);
        linear = s.linear;
        narrow = (short_negation (interval_of limit a.tree) (narrow_short a.tree s.narrow), s.narrow);
        low = s.low;
        interval = rw (s.interval) refl;
        constant = s.constant;
        static = s.static;
        spelled = λ e. absurd (literal_is_truth a s k e);
      } in
      subst (λ z. IsFine z) q.1 have

  opposite_fine : (owner : List ℕ) (p : Place) (a x : Typed) → IsFine a → opposite owner p a ≡ Ok x → IsFine x
  opposite_fine owner p a x s h =
      let r = plain (Not a.tree) kind.Truth truths in
      let q = if_ok (is_truth a.about.kind) r x (record { rule = rule.WrongType; place = p; word = Some owner }) h in
      let k = truth_kind a.about.kind q.0 in
      let have : IsFine r = record {
        fields = s.fields;
        has_kind = (refl, rw k at s.has_kind);
        linear = s.linear;
        narrow = (short_facts truths refl, s.narrow);
        low = s.low;
        interval = refl;
        constant = refl;
        static = λ e. absurd (cc);
        spelled = λ e. absurd (cc);
      } in
      subst (λ z. IsFine z) q.1 have

  -- ---- leaves

  -- a leaf that is no truth value
  leaf_fine : (x : Tree) (k : Kind) (i : Interval) → FieldsBelow bound x → HasKind kinds x k → Rattle.rx_types.specs.Static.IsLinear x → IsNarrow limit x → Rattle.rx_types.specs.Coefficients.HasLowCoefficients x → interval_of limit x ≡ i → IsFine (plain x k i)
  leaf_fine x k i f h l n w e = record { fields = f; has_kind = h; linear = l; narrow = n; low = w; interval = e; constant = refl; static = λ c. absurd (cc); spelled = λ c. absurd (cc) }

  abbrev ThingFits : Thing → Type 0
  ThingFits (thing.Field f) = (f.id < bound) × IsListed kinds limit f.id f.kind
  ThingFits (thing.Literal l) = l.number < 2 ^ 64
  ThingFits (thing.Truth b) = Unit {0}

  abbrev MaybeFits : Option Thing → Type 0
  MaybeFits None = Unit {0}
  MaybeFits (Some x) = ThingFits x

  fits_if : (b : Bool) (x y : Option Thing) → MaybeFits x → MaybeFits y → MaybeFits (if b then x else y)
  fits_if true x y p q = p
  fits_if false x y p q = q

  fits_or : (x y : Option Thing) → MaybeFits x → MaybeFits y → MaybeFits (option_or x y)
  fits_or None y p q = q
  fits_or (Some x) y p q = p

  field_if : (o : Option KnownField) → ((f : KnownField) → o ≡ Some f → (f.id < bound) × IsListed kinds limit f.id f.kind) → MaybeFits (option_map (λ f. thing.Field f) o)
  field_if None h = tt
  field_if (Some f) h = h f refl

  literal_if : (o : Option KnownLiteral) → ((l : KnownLiteral) → o ≡ Some l → l.number < 2 ^ 64) → MaybeFits (option_map (λ l. thing.Literal l) o)
  literal_if None h = tt
  literal_if (Some l) h = h l refl

  field_fits : (s : Scope) (w : List ℕ) → FitScope kinds limit bound s → MaybeFits (field_named s w)
  field_fits s w h = field_if (found s.fields [] w) (h.fields w)

  literal_fits : (s : Scope) (p w : List ℕ) → FitScope kinds limit bound s → MaybeFits (literal_named s p w)
  literal_fits s p w h = literal_if (found s.literals p w) (h.literals p w)

  truth_fits : (w : List ℕ) → MaybeFits (truth_named w)
  truth_fits w = fits_if (same w (codes "True")) (Some (thing.Truth true)) (if same w (codes "False") then Some (thing.Truth false) else None) tt (fits_if (same w (codes "False")) (Some (thing.Truth false)) None tt tt)

  known_fits : (name : Named) (o : Option Thing) (x : Thing) → MaybeFits o → known name o ≡ Ok x → ThingFits x
  known_fits name None x p h = absurd (err_differs _ x h)
  known_fits name (Some y) x p h = subst (λ z. ThingFits z) (ok_same y x h) p

  visible_fits : (b : Bool) (q name : Named) (o : Option Thing) (x : Thing) → MaybeFits o → (if b then known name o else refused_at rule.UnknownName q) ≡ Ok x → ThingFits x
  visible_fits true q name o x p h = known_fits name o x p h
  visible_fits false q name o x p h = absurd (err_differs _ x h)

  thing_fits : (s : Scope) (q : Option Named) (name : Named) (x : Thing) → FitScope kinds limit bound s → thing_in s q name ≡ Ok x → ThingFits x
  thing_fits s None name x f h = known_fits name (own_thing s name.word) x (fits_or _ _ (field_fits s name.word f) (fits_or _ _ (literal_fits s s.«package» name.word f) (truth_fits name.word))) h
  thing_fits s (Some q) name x f h = visible_fits (is_visible s q.word) q name (literal_named s q.word name.word) x (literal_fits s q.word name.word f) h

  low_number_short : (n : ℕ) → n < 2 ^ 64 → IsShort (single (pos n))
  low_number_short n h = record { low_above = omega (arith, ints); low_below = omega (arith, ints); high_above = omega (arith, ints); high_below = omega (arith, ints) }

  field_short : (g : ℕ) → g < 2 ^ 64 → IsShort (from_to (pos 0) (pos g))
  field_short g h = record { low_above = omega (arith, ints); low_below = omega (arith, ints); high_above = omega (arith, ints); high_below = omega (arith, ints) }

  field_fine : (name : Named) (f : ℕ) (k : FieldKind) (x : Typed) → f < bound → IsListed kinds limit f k → value_of_field name f k ≡ Ok x → IsFine x
  field_fine name f (field_kind.Scalar k g) x p q h =
      let e : from_to (pos 0) (pos (limit f)) ≡ from_to (pos 0) (pos g) = ap (λ n. from_to (pos 0) (pos n)) q.1 in
      subst (λ z. IsFine z) (ok_same _ x h) (leaf_fine (Field f) k (from_to (pos 0) (pos g)) p q.0 tt (subst (λ i. IsShort i) (sym e) (field_short g q.2)) tt e)
  field_fine name f field_kind.Bytes x p q h = absurd (err_differs _ x h)

  value_fine : (name : Named) (y : Thing) (x : Typed) → ThingFits y → value_of_thing name y ≡ Ok x → IsFine x
  value_fine name (thing.Field f) x p h = field_fine name f.id f.kind x p.0 p.1 h
  value_fine name (thing.Literal l) x p h = subst (λ z. IsFine z) (ok_same _ x h) (leaf_fine (Number (pos l.number)) (kind.Of l.kind) (single (pos l.number)) tt (λ e. absurd (cc)) tt (low_number_short l.number p) tt refl)
  value_fine name (thing.Truth true) x p h = subst (λ z. IsFine z) (ok_same _ x h) (record { fields = tt; has_kind = refl; linear = tt; narrow = short_facts (single (pos 1)) refl; low = tt; interval = refl; constant = refl; static = λ c. absurd (cc); spelled = λ c. tt })
  value_fine name (thing.Truth false) x p h = subst (λ z. IsFine z) (ok_same _ x h) (record { fields = tt; has_kind = refl; linear = tt; narrow = short_facts (single (pos 0)) refl; low = tt; interval = refl; constant = refl; static = λ c. absurd (cc); spelled = λ c. tt })

  places_short : IsShort Rattle.rx_types.specs.Narrow.places_in_bits
  places_short = short_facts Rattle.rx_types.specs.Narrow.places_in_bits refl

  lasts_short : IsShort Rattle.rx_types.specs.Narrow.lasts_in_bits
  lasts_short = short_facts Rattle.rx_types.specs.Narrow.lasts_in_bits refl

  attribute_fine : (name : Named) (a : Attr) (y : Thing) (x : Typed) → ThingFits y → attribute_of_thing name a y ≡ Ok x → IsFine x
  attribute_fine name attr.First (thing.Field f) x p h = subst (λ z. IsFine z) (ok_same _ x h) (leaf_fine (First f.id) kind.Number Rattle.rx_types.specs.Narrow.places_in_bits p.0 refl tt places_short tt refl)
  attribute_fine name attr.Last (thing.Field f) x p h = subst (λ z. IsFine z) (ok_same _ x h) (leaf_fine (Last f.id) kind.Number Rattle.rx_types.specs.Narrow.lasts_in_bits p.0 refl tt lasts_short tt refl)
  attribute_fine name attr.Size (thing.Field f) x p h = subst (λ z. IsFine z) (ok_same _ x h) (leaf_fine (Size f.id) kind.Number Rattle.rx_types.specs.Narrow.places_in_bits p.0 refl tt places_short tt refl)
  attribute_fine name a y x p h = absurd (err_differs _ x h)

  last_of_message : Tree
  last_of_message = Binary op.Sub Total (Number (pos 1))

  message_fine : (name : Named) (a : Attr) (x : Typed) → attribute_of_message name a ≡ Ok x → IsFine x
  message_fine name attr.First x h = subst (λ z. IsFine z) (ok_same _ x h) (leaf_fine (Number (pos 0)) kind.Number (single (pos 0)) tt (λ e. absurd (cc)) tt (short_facts (single (pos 0)) refl) tt refl)
  message_fine name attr.Last x h = subst (λ z. IsFine z) (ok_same _ x h) (leaf_fine (Binary op.Sub Total (Number (pos 1))) kind.Number (from_to (neg_ℤ (pos 1)) (pos (2 ^ 27 - 1))) (tt, tt) (refl, (kind.Number, refl, refl, (λ e. absurd (cc)))) (tt, tt, tt) (short_facts (from_to (neg_ℤ (pos 1)) (pos (2 ^ 27 - 1))) refl, tt, places_short, short_facts (single (pos 1)) refl) (are_low_facts (Binary op.Sub Total (Number (pos 1))) refl, tt, tt) refl)
  message_fine name attr.Size x h = subst (λ z. IsFine z) (ok_same _ x h) (leaf_fine Total kind.Number Rattle.rx_types.specs.Narrow.places_in_bits tt refl tt places_short tt refl)
  message_fine name a x h = absurd (err_differs _ x h)

  either_fine : (b : Bool) (m n : Meaning Typed) (x : Typed) → (m ≡ Ok x → IsFine x) → (n ≡ Ok x → IsFine x) → (if b then m else n) ≡ Ok x → IsFine x
  either_fine true m n x p q h = p h
  either_fine false m n x p q h = q h

  name_fine : (ns : Names) (n : NameTree) (x : Typed) → FitNames kinds limit bound ns → name_as_value ns n ≡ Ok x → IsFine x
  name_fine Nothing n x f h = absurd (err_differs _ x h)
  name_fine (Within s) n x f h =
      let b = bind_ok (thing_of s n) (value_of_thing n.name) x h in
      value_fine n.name b.0 x (thing_fits s n.«package» n.name b.0 f b.1) b.2

  attribute_named_fine : (ns : Names) (n : NameTree) (a : Attr) (x : Typed) → FitNames kinds limit bound ns → name_with_attribute ns n a ≡ Ok x → IsFine x
  attribute_named_fine Nothing n a x f h = absurd (err_differs _ x h)
  attribute_named_fine (Within s) n a x f h =
      let other : (thing_of s n >>= attribute_of_thing n.name a) ≡ Ok x → IsFine x = λ k. let b = bind_ok (thing_of s n) (attribute_of_thing n.name a) x k in attribute_fine n.name a b.0 x (thing_fits s n.«package» n.name b.0 f b.1) b.2 in
      either_fine (is_message n) (attribute_of_message n.name a) (thing_of s n >>= attribute_of_thing n.name a) x (message_fine n.name a x) other h

  member_fine : (ns : Names) (n : NameTree) (x : Typed) → name_with_member ns n ≡ Ok x → IsFine x
  member_fine Nothing n x h = absurd (err_differs _ x h)
  member_fine (Within s) n x h = let b = bind_ok (thing_of s n) (λ y. refused_at rule.WrongType n.name) x h in absurd (err_differs _ x b.2)

  number_fine : (owner : List ℕ) (p : Place) (z : ℤ) (x : Typed) → Rattle.rx_judge.specs.Judged.number owner p z ≡ Ok x → IsFine x
  number_fine owner p z x h =
      let q = if_ok (is_short (single z)) (static_number z) x (record { rule = rule.TooWide; place = p; word = Some owner }) h in
      let have : IsFine (static_number z) = record { fields = tt; has_kind = λ e. absurd (cc); linear = tt; narrow = short_facts (single z) q.0; low = tt; interval = refl; constant = refl; static = λ c. refl; spelled = λ c. absurd (cc) } in
      subst (λ w. IsFine w) q.1 have

  pub fine : (ns : Names) (owner : List ℕ) (e : ExprTree) (x : Typed) → FitNames kinds limit bound ns → judged ns owner e ≡ Ok x → IsFine x
  fine ns owner (tree.Number z p) x f h = number_fine owner p z x h
  fine ns owner (tree.Name n) x f h = name_fine ns n x f h
  fine ns owner (tree.Attribute n a) x f h = attribute_named_fine ns n a x f h
  fine ns owner (tree.Member n m) x f h = member_fine ns n x h
  fine ns owner (tree.Neg' p q e) x f h =
      let b = bind_ok (judged ns owner e) (negative owner p) x h in
      negative_fine owner p b.0 x (fine ns owner e b.0 f b.1) b.2
  fine ns owner (tree.Not' p q e) x f h =
      let b = bind_ok (judged ns owner e) (opposite owner p) x h in
      opposite_fine owner p b.0 x (fine ns owner e b.0 f b.1) b.2
  fine ns owner (tree.Binary' o p q c s d) x f h =
      let first = bind_ok (judged ns owner c) (λ l. judged ns owner d >>= joined owner (operator_of o) p l) x h in
      let second = bind_ok (judged ns owner d) (joined owner (operator_of o) p first.0) x first.2 in
      joined_fine owner (operator_of o) p first.0 second.0 x (fine ns owner c first.0 f first.1) (fine ns owner d second.0 f second.1) second.2

-- ---- operators of the text

few_by : (o : Option Operator) (z : ℤ) (a b : Tree) (m n : ℕ) → operators_in a ≤ m → operators_in b ≤ n → operators_in (tree_by o z a b) ≤ m + n + 1
few_by None z a b m n h k = omega arith
few_by (Some o) z a b m n h k = few_both o a b m n h k

few_joined : (owner : List ℕ) (o : Option Operator) (p : Place) (l r x : Typed) (m n : ℕ) → operators_in l.tree ≤ m → operators_in r.tree ≤ n → joined owner o p l r ≡ Ok x → operators_in x.tree ≤ m + n + 1
few_joined owner o p l r x m n f g h =
    let t = λ (a : About). tree_by o a.interval.low l.tree r.tree in
    let q = bind_ok (about_by owner o p l.about r.about) (λ a. lowness owner p (t a) >>= (λ u. Ok (record { tree = t a; about = a }))) x h in
    let a = q.0 in
    let w = bind_ok (lowness owner p (t a)) (λ u. Ok (record { tree = t a; about = a })) x q.2 in
    subst (λ (z : Typed). operators_in z.tree ≤ m + n + 1) (ok_same _ x w.2) (few_by o a.interval.low l.tree r.tree m n f g)

few_if : (b : Bool) (r x : Typed) (e : Refusal) (n : ℕ) → operators_in r.tree ≤ n → (if b then Ok r else Err e) ≡ Ok x → operators_in x.tree ≤ n
few_if b r x e n f h = subst (λ (z : Typed). operators_in z.tree ≤ n) (if_ok b r x e h).1 f

few_field : (name : Named) (f : ℕ) (k : FieldKind) (x : Typed) → value_of_field name f k ≡ Ok x → operators_in x.tree ≤ 0
few_field name f (field_kind.Scalar k g) x h = subst (λ (z : Typed). operators_in z.tree ≤ 0) (ok_same _ x h) (omega arith)
few_field name f field_kind.Bytes x h = absurd (err_differs _ x h)

few_value : (name : Named) (y : Thing) (x : Typed) → value_of_thing name y ≡ Ok x → operators_in x.tree ≤ 0
few_value name (thing.Field f) x h = few_field name f.id f.kind x h
few_value name (thing.Literal l) x h = subst (λ (z : Typed). operators_in z.tree ≤ 0) (ok_same _ x h) (omega arith)
few_value name (thing.Truth b) x h = subst (λ (z : Typed). operators_in z.tree ≤ 0) (ok_same _ x h) (omega arith)

few_attribute : (name : Named) (a : Attr) (y : Thing) (x : Typed) → attribute_of_thing name a y ≡ Ok x → operators_in x.tree ≤ 0
few_attribute name attr.First (thing.Field f) x h = subst (λ (z : Typed). operators_in z.tree ≤ 0) (ok_same _ x h) (omega arith)
few_attribute name attr.Last (thing.Field f) x h = subst (λ (z : Typed). operators_in z.tree ≤ 0) (ok_same _ x h) (omega arith)
few_attribute name attr.Size (thing.Field f) x h = subst (λ (z : Typed). operators_in z.tree ≤ 0) (ok_same _ x h) (omega arith)
few_attribute name a y x h = absurd (err_differs _ x h)

few_message : (name : Named) (a : Attr) (x : Typed) → attribute_of_message name a ≡ Ok x → operators_in x.tree ≤ 0
few_message name attr.First x h = subst (λ (z : Typed). operators_in z.tree ≤ 0) (ok_same _ x h) (omega arith)
few_message name attr.Last x h = subst (λ (z : Typed). operators_in z.tree ≤ 0) (ok_same _ x h) (omega arith)
few_message name attr.Size x h = subst (λ (z : Typed). operators_in z.tree ≤ 0) (ok_same _ x h) (omega arith)
few_message name a x h = absurd (err_differs _ x h)

few_either : (b : Bool) (m n : Meaning Typed) (x : Typed) → (m ≡ Ok x → operators_in x.tree ≤ 0) → (n ≡ Ok x → operators_in x.tree ≤ 0) → (if b then m else n) ≡ Ok x → operators_in x.tree ≤ 0
few_either true m n x p q h = p h
few_either false m n x p q h = q h

few_name : (ns : Names) (n : NameTree) (x : Typed) → name_as_value ns n ≡ Ok x → operators_in x.tree ≤ 0
few_name Nothing n x h = absurd (err_differs _ x h)
few_name (Within s) n x h = let b = bind_ok (thing_of s n) (value_of_thing n.name) x h in few_value n.name b.0 x b.2

few_named : (ns : Names) (n : NameTree) (a : Attr) (x : Typed) → name_with_attribute ns n a ≡ Ok x → operators_in x.tree ≤ 0
few_named Nothing n a x h = absurd (err_differs _ x h)
few_named (Within s) n a x h = few_either (is_message n) (attribute_of_message n.name a) (thing_of s n >>= attribute_of_thing n.name a) x (few_message n.name a x) (λ k. let b = bind_ok (thing_of s n) (attribute_of_thing n.name a) x k in few_attribute n.name a b.0 x b.2) h

few_member : (ns : Names) (n : NameTree) (x : Typed) → name_with_member ns n ≡ Ok x → operators_in x.tree ≤ 0
few_member Nothing n x h = absurd (err_differs _ x h)
few_member (Within s) n x h = let b = bind_ok (thing_of s n) (λ y. refused_at rule.WrongType n.name) x h in absurd (err_differs _ x b.2)

one_more : (m n : ℕ) → m ≤ n → m + 1 ≤ n + 1
one_more m n h = omega arith

pub few_operators : (ns : Names) (owner : List ℕ) (e : ExprTree) (x : Typed) → judged ns owner e ≡ Ok x → operators_in x.tree ≤ operators_of e
few_operators ns owner (tree.Number z p) x h = few_if (is_short (single z)) (static_number z) x (record { rule = rule.TooWide; place = p; word = Some owner }) 0 (omega arith) h
few_operators ns owner (tree.Name n) x h = few_name ns n x h
few_operators ns owner (tree.Attribute n a) x h = few_named ns n a x h
few_operators ns owner (tree.Member n m) x h = few_member ns n x h
few_operators ns owner (tree.Neg' p q e) x h =
    let b = bind_ok (judged ns owner e) (negative owner p) x h in
    let r : Typed = record { tree = Neg b.0.tree; about = record b.0.about { interval = negation b.0.about.interval } } in
    few_if (is_number b.0.about.kind) r x (record { rule = rule.WrongType; place = p; word = Some owner }) (operators_of e + 1) (one_more (operators_in b.0.tree) (operators_of e) (few_operators ns owner e b.0 b.1)) b.2
few_operators ns owner (tree.Not' p q e) x h =
    let b = bind_ok (judged ns owner e) (opposite owner p) x h in
    few_if (is_truth b.0.about.kind) (plain (Not b.0.tree) kind.Truth truths) x (record { rule = rule.WrongType; place = p; word = Some owner }) (operators_of e + 1) (one_more (operators_in b.0.tree) (operators_of e) (few_operators ns owner e b.0 b.1)) b.2
few_operators ns owner (tree.Binary' o p q c s d) x h =
    let first = bind_ok (judged ns owner c) (λ l. judged ns owner d >>= joined owner (operator_of o) p l) x h in
    let second = bind_ok (judged ns owner d) (joined owner (operator_of o) p first.0) x first.2 in
    few_joined owner (operator_of o) p first.0 second.0 x (operators_of c) (operators_of d) (few_operators ns owner c first.0 first.1) (few_operators ns owner d second.0 second.1) second.2

pub sound : (kinds : ℕ → Option Kind) (limit : ℕ → ℕ) (bound : ℕ) (ns : Names) (owner : List ℕ) (e : ExprTree) (x : Typed) → FitNames kinds limit bound ns → judged ns owner e ≡ Ok x → IsSound kinds limit bound e x
sound kinds limit bound ns owner e x f h =
    let y = fine kinds limit bound ns owner e x f h in
    record { fields = y.fields; has_kind = y.has_kind; linear = y.linear; narrow = y.narrow; low = y.low; few = few_operators ns owner e x h; interval = y.interval; constant = y.constant; static = y.static; spelled = y.spelled }
