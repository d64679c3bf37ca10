-- What is kept of an expression, operator by operator.
use Rattle.std.proofs.Common.{◌≡◌, ◌∙◌, ap, sym, refl, subst, ℕ, Bool, true, false, ◌&&◌, List, [], ◌∷◌, ◌++◌, map, Option, Some, None}
use Rattle.std.specs.Prelude.{ℤ, pos, negsuc, neg_ℤ, ◌*ℤ◌}
use Rattle.std.proofs.lemmas.List.Elements.{All-nil}
use Rattle.rx_types.specs.declared.interval.Interval.{Interval}
use Rattle.rx_types.specs.declared.expr.Operator.{Operator}
use Rattle.rx_types.specs.Coefficients.{IsLow}
use Rattle.rx_types.specs.Narrow.{single, negation, interval_of, interval_by, is_divisor_in, is_short, IsShort}
use Rattle.rx_types.specs.Static.{is_arithmetic, is_static, static_value}
use Rattle.rx_types.specs.Tree.{Tree, Number, Neg, Binary}
use Rattle.rx_types.proofs.Statics.{static_everywhere}
use Rattle.rx_judge.specs.Kinds.{about_both, bounds_by, power}
use Rattle.rx_judge.specs.Form.{HasForm, IsLowForm, IsKnown, scaled_term}
use Rattle.rx_judge.specs.declared.about.About.{About}
use Rattle.rx_judge.specs.declared.form.Term.{Term}
use Rattle.rx_judge.specs.declared.form.LinearForm.{LinearForm}
use Rattle.rx_judge.proofs.Forms.{negative_form, minus_low_form}
use Rattle.rx_judge.proofs.Sound.{narrow_facts, short_if, three, three_back, about_ok}
use Rattle.rx_judge.proofs.Forms.{left_form, right_form, remainder_form, low_same}
use Rattle.std.specs.Prelude.{◌||◌, int_lt, Ok, Err}
use Rattle.std.specs.List.{list_all}
use Rattle.rx_syntax.specs.declared.token.Place.{Place}
use Rattle.rx_types.specs.declared.expr.Operator.TheVariants as op
use Rattle.rx_judge.specs.Kinds.{is_linear}
use Rattle.rx_judge.specs.Low.{is_low, are_low}
use Rattle.rx_judge.specs.Judged.{about_by, lowness}
use Rattle.rx_judge.specs.Form.{scaled_number}
use Rattle.rx_syntax.specs.declared.rule.Refusal.{Refusal}
use Rattle.rx_syntax.specs.declared.rule.Rule.TheVariants as rule
use Rattle.rx_judge.proofs.Lows.{both_true}

no_limit : ℕ → ℕ
no_limit f = 0

-- the interval of a static expression with an operator
static_interval : (o : Operator) (i j k : Interval) (x y : Tree) → is_arithmetic o ≡ true → is_static x ≡ true → is_static y ≡ true → i ≡ single (static_value x) → j ≡ single (static_value y) → interval_by o i j ≡ k → k ≡ single (static_value (Binary o x y))
static_interval o i j k x y a s t p q e =
    let left : interval_of (λ f. 0) x ≡ i = (static_everywhere x s).interval (λ f. 0) ∙ sym p in
    let right : interval_of (λ f. 0) y ≡ j = (static_everywhere y t).interval (λ f. 0) ∙ sym q in
    sym e
    ∙ ap (λ w. interval_by o w j) (sym left)
    ∙ ap (λ w. interval_by o (interval_of (λ f. 0) x) w) (sym right)
    ∙ (static_everywhere (Binary o x y) (three_back (is_arithmetic o) (is_static x) (is_static y) a s t)).interval (λ f. 0)

pub binary_known : (o : Operator) (l r a : About) (fl fr f : LinearForm) (x y t : Tree) → IsKnown l fl x → IsKnown r fr y → bounds_by (Some o) l.interval r.interval ≡ Some a.interval → about_both (Some o) l r a.interval ≡ a → HasForm f (Binary o x y) → IsLowForm f → IsShort a.interval → t ≡ Binary o x y → IsKnown a f t
binary_known o l r a fl fr f x y t p q b e h w s g =
    let n = narrow_facts (is_divisor_in o r.interval) o l.interval r.interval a.interval refl b in
    let constant : a.is_constant ≡ (is_arithmetic o && l.is_constant && r.is_constant) = ap (λ (k : About). k.is_constant) (sym e) in
    let static : a.is_static ≡ (is_arithmetic o && l.is_static && r.is_static) = ap (λ (k : About). k.is_static) (sym e) in
    subst (λ u. IsKnown a f u) (sym g) (record {
      short = s;
      constant = constant ∙ ap (λ c. is_arithmetic o && c && r.is_constant) p.constant ∙ ap (λ c. is_arithmetic o && is_static x && c) q.constant;
      static = λ k. let c = three (is_arithmetic o) l.is_static r.is_static (sym static ∙ k) in constant ∙ three_back (is_arithmetic o) l.is_constant r.is_constant c.0 (p.static c.1) (q.static c.2);
      value = λ k. let c = three (is_arithmetic o) l.is_constant r.is_constant (sym constant ∙ k) in static_interval o l.interval r.interval a.interval x y c.0 (sym p.constant ∙ c.1) (sym q.constant ∙ c.2) (p.value c.1) (q.value c.2) n.2;
      has_form = h;
      is_low = w;
    })

-- a form without unknowns
pub none_low : (f : LinearForm) → f.terms.items ≡ [] → f.quotients.items ≡ [] → IsLowForm f
none_low f t q = record { terms = rw t (All-nil (λ (u : Term). IsLow u.coefficient)); quotients = rw q (All-nil (λ z. IsLow z)) }

pub power_known : (l r a : About) (f : LinearForm) → bounds_by None l.interval r.interval ≡ Some a.interval → about_both None l r a.interval ≡ a → IsShort a.interval → f.terms.items ≡ [] → f.quotients.items ≡ [] → IsKnown a f (Number a.interval.low)
power_known l r a f b e s t q =
    let d = short_if (is_short (power l.interval r.interval)) (power l.interval r.interval) a.interval refl b in
    let constant : a.is_constant ≡ true = ap (λ (k : About). k.is_constant) (sym e) in
    record {
      short = s;
      constant = constant;
      static = λ k. constant;
      value = λ k. sym (ap (λ (j : Interval). single j.low) (sym d.1) ∙ d.1);
      has_form = record { terms = t; quotients = q };
      is_low = none_low f t q;
    }

pub negative_known : (l a : About) (fl f : LinearForm) (x t : Tree) → IsKnown l fl x → a.interval ≡ negation l.interval → a.is_constant ≡ l.is_constant → a.is_static ≡ l.is_static → IsShort a.interval → f.terms.items ≡ map (scaled_term (negsuc 0)) fl.terms.items → f.quotients.items ≡ map (λ c. negsuc 0 *ℤ c) fl.quotients.items → t ≡ Neg x → IsKnown a f t
negative_known l a fl f x t p e c k s u q g =
    subst (λ w. IsKnown a f w) (sym g) (record {
      short = s;
      constant = c ∙ p.constant;
      static = λ h. c ∙ p.static (sym k ∙ h);
      value = λ h. e ∙ ap (λ i. negation i) (p.value (sym c ∙ h));
      has_form = negative_form fl f x p.has_form u q;
      is_low = minus_low_form fl f p.is_low u q;
    })

-- ---- what the operators' functions show

pub power_made : (owner : List ℕ) (o : Option Operator) (p : Place) (l r a : About) (f : LinearForm) (z : ℤ) → o ≡ None → about_by owner o p l r ≡ Ok a → IsShort a.interval → f.terms.items ≡ [] → f.quotients.items ≡ [] → z ≡ a.interval.low → IsKnown a f (Number z)
power_made owner o p l r a f z n h s t q e =
    let k = about_ok owner None p l r a (subst (λ (w : Option Operator). about_by owner w p l r ≡ Ok a) n h) in
    subst (λ w. IsKnown a f (Number w)) (sym e) (power_known l r a f k.2 k.3 s t q)

pub binary_made : (owner : List ℕ) (o : Option Operator) (c : Operator) (p : Place) (l r a : About) (fl fr f : LinearForm) (x y t : Tree) → o ≡ Some c → about_by owner o p l r ≡ Ok a → IsKnown l fl x → IsKnown r fr y → HasForm f (Binary c x y) → IsLowForm f → IsShort a.interval → t ≡ Binary c x y → IsKnown a f t
binary_made owner o c p l r a fl fr f x y t n h u v w low s e =
    let k = about_ok owner (Some c) p l r a (subst (λ (w : Option Operator). about_by owner w p l r ≡ Ok a) n h) in
    binary_known c l r a fl fr f x y t u v k.2 k.3 w low s e

pub linear_made : (owner : List ℕ) (o : Option Operator) (c : Operator) (p : Place) (l r a : About) → o ≡ Some c → about_by owner o p l r ≡ Ok a → is_linear (Some c) l r ≡ true
linear_made owner o c p l r a n h = (about_ok owner (Some c) p l r a (subst (λ (w : Option Operator). about_by owner w p l r ≡ Ok a) n h)).1

low_is : (r : About) (f : LinearForm) (y : Tree) → IsKnown r f y → r.is_constant ≡ true → r.interval.low ≡ static_value y
low_is r f y k c = ap (λ (i : Interval). i.low) (k.value c)

pub left_product : (l r : About) (fl fr f : LinearForm) (x y : Tree) (z : ℤ) → IsKnown l fl x → IsKnown r fr y → l.is_constant ≡ true → z ≡ l.interval.low → f.terms.items ≡ map (scaled_term z) fr.terms.items → f.quotients.items ≡ map (scaled_number z) fr.quotients.items → HasForm f (Binary op.Mul x y)
left_product l r fl fr f x y z u v c e t q =
    let w : z ≡ static_value x = e ∙ low_is l fl x u c in
    left_form fr f x y v.has_form (sym u.constant ∙ c)
    (subst (λ k. f.terms.items ≡ map (scaled_term k) fr.terms.items) w t)
    (subst (λ k. f.quotients.items ≡ map (scaled_number k) fr.quotients.items) w q)

differ : (c : Bool) → c ≡ true → c ≡ false → ⊥
differ true h k = cc
differ false h k = cc

right_static : (a b : Bool) (c : Bool) → (a ≡ true → c ≡ true) → c ≡ false → (a || b) ≡ true → b ≡ true
right_static true b c h n k = absurd (differ c (h refl) n)
right_static false b c h n k = k

pub right_product : (l r : About) (fl fr f : LinearForm) (x y : Tree) (z : ℤ) → IsKnown l fl x → IsKnown r fr y → l.is_constant ≡ false → (l.is_static || r.is_static) ≡ true → z ≡ r.interval.low → f.terms.items ≡ map (scaled_term z) fl.terms.items → f.quotients.items ≡ map (scaled_number z) fl.quotients.items → HasForm f (Binary op.Mul x y)
right_product l r fl fr f x y z u v c n e t q =
    let d = v.static (right_static l.is_static r.is_static l.is_constant u.static c n) in
    let w : z ≡ static_value y = e ∙ low_is r fr y v d in
    right_form fl f x y u.has_form (sym u.constant ∙ c) (sym v.constant ∙ d)
    (subst (λ k. f.terms.items ≡ map (scaled_term k) fl.terms.items) w t)
    (subst (λ k. f.quotients.items ≡ map (scaled_number k) fl.quotients.items) w q)

pub remainder_made : (l r : About) (fl fr f : LinearForm) (x y : Tree) (z : ℤ) → IsKnown l fl x → IsKnown r fr y → is_linear (Some op.Mod) l r ≡ true → z ≡ r.interval.low → f.terms.items ≡ fl.terms.items → f.quotients.items ≡ fl.quotients.items ++ neg_ℤ z ∷ [] → HasForm f (Binary op.Mod x y)
remainder_made l r fl fr f x y z u v n e t q =
    let d = v.static ((both_true r.is_static (int_lt (pos 0) r.interval.low) n).0) in
    let w : z ≡ static_value y = e ∙ low_is r fr y v d in
    remainder_form fl f x y u.has_form t (subst (λ k. f.quotients.items ≡ fl.quotients.items ++ neg_ℤ k ∷ []) w q)

pub low_stands : (owner : List ℕ) (p : Place) (f : LinearForm) (x : Tree) (b : Bool) → HasForm f x → b ≡ (list_all (λ (t : Term). is_low t.coefficient) f.terms.items && list_all is_low f.quotients.items) → b ≡ true → lowness owner p x ≡ Ok tt
low_stands owner p f x b h t e = let k : are_low x ≡ true = sym (low_same f x h) ∙ sym t ∙ e in rw k refl

pub low_refused : (owner : List ℕ) (p : Place) (f : LinearForm) (x : Tree) (b : Bool) (r : Refusal) → HasForm f x → b ≡ (list_all (λ (t : Term). is_low t.coefficient) f.terms.items && list_all is_low f.quotients.items) → b ≡ false → r ≡ record { rule = rule.TooWide; place = p; word = Some owner } → lowness owner p x ≡ Err r
low_refused owner p f x b r h t e g = let k : are_low x ≡ false = sym (low_same f x h) ∙ sym t ∙ e in rw (k, g) refl
