-- Back substitution: a variable is raised until its rows hold, and never past a value at which they all hold.
use Rattle.std.proofs.Common.{◌≡◌, refl, sym, ap, subst, ◌∙◌, ℕ, ◌+◌, ◌<◌, ◌≤◌, ◌^◌, List, [], ◌∷◌, set, get_or, take, length, Bool, true, false, not, ◌&&◌, ◌||◌, ℤ, pos, negsuc, neg_ℤ, ◌*ℤ◌, ◌+ℤ◌, ◌-ℤ◌, ◌≤ℤ◌, ◌<ℤ◌, int_lt, unsigned_abs, inl, inr, ◌⊎◌, map, cond, None, arith}
use Rattle.std.specs.List.{All, Contains, list_all, list_any, filter}
use Rattle.std.proofs.lemmas.Int.{ints}
use Rattle.std.proofs.lemmas.Bool.{or_cases}
use Rattle.std.proofs.lemmas.List.{set-get_or, set-set, get_or-set_same, length-set, take_all}
use Rattle.std.proofs.lemmas.List.Folds.{list_all_more}
use Rattle.std.proofs.lemmas.List.Elements.{All-get_or, All-head, All-tail, All-set, All-contains, All-nil, All-cons, All-same}
use Rattle.rx_model.specs.Sums.{product_sum}
use Rattle.rx_model.proofs.Ring.{times_add, times_le, times_neg_is, neg_times_is}
use Rattle.rx_linear.specs.declared.row.Row.{Row}
use Rattle.rx_linear.specs.Divisors.{divided_up}
use Rattle.rx_linear.specs.Rows.{AllBelow, Narrow}
use Rattle.rx_linear.specs.Systems.{FitsSystem}
use Rattle.rx_linear.specs.Joining.{holds, all_hold}
use Rattle.rx_linear.specs.Units.{coefficient, is_unit_row}
use Rattle.rx_linear.proofs.Bounds.{product_below}
use Rattle.rx_linear.proofs.Divisors.{divided_up_least, divided_up_enough}
use Rattle.rx_linear.proofs.Joining.{both, and_true, Holds-from_test, test-from_Holds}
use Rattle.rx_shadow.specs.declared.known.Known.{Known}
use Rattle.rx_shadow.specs.Known.{rows_of, AllFit}
use Rattle.rx_shadow.specs.Placing.{IsRaised}
use Rattle.rx_shadow.proofs.Pairs.{product_sum-set, own_value, rest_at}
use Rattle.rx_shadow.proofs.Values.{unit_sum}
use Rattle.rx_shadow.specs.Bounds.{greatest_of}
use Rattle.rx_shadow.proofs.Greatest.{greatest_constant}
use Rattle.rx_shadow.proofs.Closings.{unit_is, up_positive}

abs_positive : (z : ℤ) → pos 0 <ℤ z → pos (unsigned_abs z) ≡ z
abs_positive (pos n) h = refl
abs_positive (negsuc n) h = absurd (omega (arith, ints, h))

positive_from : (z : ℤ) → int_lt (pos 0) z ≡ true → pos 0 <ℤ z
positive_from z t = omega (arith, ints, t)

-- ---- one row at a point with another number of x

at_w : (x : ℕ) (p : List ℤ) (row : Row) (w : ℤ) → x < length p → holds (set p x w) row ≡ true → row.least ≤ℤ (coefficient x row *ℤ w +ℤ rest_at x p row)
at_w x p row w l h =
    let t = Holds-from_test (set p x w) row h in
    let e = product_sum-set row.coefficients p x w l in
    omega (arith, ints, t, e)

to_w : (x : ℕ) (p : List ℤ) (row : Row) (w : ℤ) → x < length p → row.least ≤ℤ (coefficient x row *ℤ w +ℤ rest_at x p row) → holds (set p x w) row ≡ true
to_w x p row w l h =
    let e = product_sum-set row.coefficients p x w l in
    test-from_Holds (set p x w) row (omega (arith, ints, h, e))

coefficient_small : (x : ℕ) (row : Row) → AllBelow (2 ^ 20) row.coefficients → x < length row.coefficients → unsigned_abs (coefficient x row) < 2 ^ 20
coefficient_small x row h l = All-get_or (λ z. unsigned_abs z < 2 ^ 20) row.coefficients x (pos 0) l h

-- a row that holds at another number lacks little
pub lacks_little : (x : ℕ) (p : List ℤ) (row : Row) (w : ℤ) → x < length p → length row.coefficients ≡ length p → Narrow row → AllBelow (2 ^ 100) p → unsigned_abs w < 2 ^ 100 → holds (set p x w) row ≡ true → (row.least -ℤ product_sum row.coefficients p) ≤ℤ pos (2 ^ 125)
lacks_little x p row w l e n small sw h =
    let t = at_w x p row w l h in
    let o = own_value x p row l in
    let sc = coefficient_small x row n.0 (subst (λ (m : ℕ). x < m) (sym e) l) in
    let sv = All-get_or (λ z. unsigned_abs z < 2 ^ 100) p x (pos 0) l small in
    let bw = product_below (coefficient x row) w (2 ^ 20) (2 ^ 100) sc sw in
    let bv = product_below (coefficient x row) (get_or p x (pos 0)) (2 ^ 20) (2 ^ 100) sc sv in
    omega (arith, ints, t, o, bw, bv)

pub raised_none : (x : ℕ) (p : List ℤ) (row : Row) → holds p row ≡ true → IsRaised x row p p
raised_none x p row h = record {
  value = get_or p x (pos 0);
  placed = sym (set-get_or p x (pos 0));
  above = omega (arith, ints);
  least = λ w le _. le;
  true_there = h;
}

raised_least : (c v w rest least d : ℤ) → pos 0 <ℤ c → d ≡ least -ℤ (c *ℤ v +ℤ rest) → least ≤ℤ (c *ℤ w +ℤ rest) → divided_up d (unsigned_abs c) ≤ℤ (w -ℤ v)
raised_least c v w rest least d p e h =
    let a = abs_positive c p in
    let times : c *ℤ (w -ℤ v) ≡ c *ℤ w -ℤ c *ℤ v = times_add c w (neg_ℤ v) ∙ ap (λ (z : ℤ). c *ℤ w +ℤ z) (times_neg_is c v) in
    let large : d ≤ℤ (c *ℤ (w -ℤ v)) = omega (arith, ints, e, h, times) in
    divided_up_least d (w -ℤ v) (unsigned_abs c) (omega (arith, ints, a, p)) (subst (λ (z : ℤ). d ≤ℤ (z *ℤ (w -ℤ v))) (sym a) large)

raised_enough : (c v rest least d q : ℤ) → pos 0 <ℤ c → d ≡ least -ℤ (c *ℤ v +ℤ rest) → q ≡ divided_up d (unsigned_abs c) → least ≤ℤ (c *ℤ (v +ℤ q) +ℤ rest)
raised_enough c v rest least d q p e eq =
    let a = abs_positive c p in
    let enough : d ≤ℤ (c *ℤ q) = subst (λ (z : ℤ). d ≤ℤ (c *ℤ z)) (sym eq) (subst (λ (z : ℤ). d ≤ℤ (z *ℤ divided_up d (unsigned_abs c))) a (divided_up_enough d (unsigned_abs c) (omega (arith, ints, a, p)))) in
    let times = times_add c v q in
    omega (arith, ints, e, enough, times)

pub raised_some : (x : ℕ) (p : List ℤ) (row : Row) (d q : ℤ) → x < length p → int_lt (pos 0) (coefficient x row) ≡ true → d ≡ row.least -ℤ product_sum row.coefficients p → pos 0 <ℤ d → q ≡ divided_up d (unsigned_abs (coefficient x row)) → IsRaised x row p (set p x (get_or p x (pos 0) +ℤ q))
raised_some x p row d q l t e dp eq =
    let c = positive_from (coefficient x row) t in
    let a = abs_positive (coefficient x row) c in
    let o = own_value x p row l in
    let ed : d ≡ row.least -ℤ (coefficient x row *ℤ get_or p x (pos 0) +ℤ rest_at x p row) = e ∙ ap (λ (z : ℤ). row.least -ℤ z) o in
    record {
      value = get_or p x (pos 0) +ℤ q;
      placed = refl;
      above = (let u = up_positive d (unsigned_abs (coefficient x row)) (omega (arith, ints, a, c)) dp in omega (arith, ints, u, eq));
      least = λ w le h.
          let r = raised_least (coefficient x row) (get_or p x (pos 0)) w (rest_at x p row) row.least d c ed (at_w x p row w l h) in
          omega (arith, ints, r, eq);
      true_there = to_w x p row (get_or p x (pos 0) +ℤ q) l (raised_enough (coefficient x row) (get_or p x (pos 0)) (rest_at x p row) row.least d q c ed eq);
    }

pub raised_range : (x : ℕ) (p : List ℤ) (row : Row) (d q w : ℤ) → x < length p → int_lt (pos 0) (coefficient x row) ≡ true → d ≡ row.least -ℤ product_sum row.coefficients p → pos 0 <ℤ d → q ≡ divided_up d (unsigned_abs (coefficient x row)) → holds (set p x w) row ≡ true → ((get_or p x (pos 0) +ℤ q) ≤ℤ w) × (get_or p x (pos 0) ≤ℤ (get_or p x (pos 0) +ℤ q))
raised_range x p row d q w l t e dp eq h =
    let c = positive_from (coefficient x row) t in
    let a = abs_positive (coefficient x row) c in
    let o = own_value x p row l in
    let ed : d ≡ row.least -ℤ (coefficient x row *ℤ get_or p x (pos 0) +ℤ rest_at x p row) = e ∙ ap (λ (z : ℤ). row.least -ℤ z) o in
    let r = raised_least (coefficient x row) (get_or p x (pos 0)) w (rest_at x p row) row.least d c ed (at_w x p row w l h) in
    let u = up_positive d (unsigned_abs (coefficient x row)) (omega (arith, ints, a, c)) dp in
    (omega (arith, ints, r, eq), omega (arith, ints, u, eq))

-- ---- a row holds at greater numbers too, or at less ones

pub holds_above : (x : ℕ) (p : List ℤ) (row : Row) (v w : ℤ) → x < length p → int_lt (pos 0) (coefficient x row) ≡ true → v ≤ℤ w → holds (set p x v) row ≡ true → holds (set p x w) row ≡ true
holds_above x p row v w l t le h =
    let a = at_w x p row v l h in
    let c = positive_from (coefficient x row) t in
    let m = times_le (coefficient x row) v w (omega (arith, ints, c)) le in
    to_w x p row w l (omega (arith, ints, a, m))

pub holds_below : (x : ℕ) (p : List ℤ) (row : Row) (v w : ℤ) → x < length p → int_lt (pos 0) (coefficient x row) ≡ false → v ≤ℤ w → holds (set p x w) row ≡ true → holds (set p x v) row ≡ true
holds_below x p row v w l t le h =
    let a = at_w x p row w l h in
    let m = times_le (neg_ℤ (coefficient x row)) v w (omega (arith, ints, t)) le in
    let ev = neg_times_is (coefficient x row) v in
    let ew = neg_times_is (coefficient x row) w in
    to_w x p row v l (omega (arith, ints, a, m, ev, ew))

-- ---- the bounds of a number at which the leaving rows hold

some_unit : (n x : ℕ) (a : ℤ) (p : List ℤ) (leaving : List Known) → AllFit n leaving → list_any (is_unit_row x a) (rows_of leaving) ≡ true → all_hold p (rows_of leaving) ≡ true → (row : Row) × FitsSystem n row × (is_unit_row x a row ≡ true) × (holds p row ≡ true)
some_unit n x a p [] f t h = absurd (cc)
some_unit n x a p (k ∷ leaving) f t h =
    let parts = both {a = holds p k.row} {b = all_hold p (rows_of leaving)} h in
    pick (or_cases (is_unit_row x a k.row) (list_any (is_unit_row x a) (rows_of leaving)) t) parts.0 (λ r. some_unit n x a p leaving (All-tail (λ j. FitsSystem n j.row) k leaving f) r parts.1)
  where
    pick : (is_unit_row x a k.row ≡ true) ⊎ (list_any (is_unit_row x a) (rows_of leaving) ≡ true) → holds p k.row ≡ true → (list_any (is_unit_row x a) (rows_of leaving) ≡ true → (row : Row) × FitsSystem n row × (is_unit_row x a row ≡ true) × (holds p row ≡ true)) → (row : Row) × FitsSystem n row × (is_unit_row x a row ≡ true) × (holds p row ≡ true)
    pick (inl u) h rest = (k.row, All-head (λ j. FitsSystem n j.row) k leaving f, u, h)
    pick (inr r) h rest = rest r

-- a unit row bounds the number of its variable
pub unit_bounds : (n x : ℕ) (a : ℤ) (p : List ℤ) (row : Row) (w : ℤ) → x < n → x < length p → length row.coefficients ≡ n → is_unit_row x a row ≡ true → holds (set p x w) row ≡ true → row.least ≤ℤ (a *ℤ w)
unit_bounds n x a p row w hn l e u h =
    let t = Holds-from_test (set p x w) row h in
    let same = unit_is n x a row e u in
    let sum : product_sum row.coefficients (set p x w) ≡ a *ℤ get_or (set p x w) x (pos 0) =
    ap (λ (r : Row). product_sum r.coefficients (set p x w)) same ∙ unit_sum n x a (set p x w) hn (rw length-set l) in
    let at : get_or (set p x w) x (pos 0) ≡ w = get_or-set_same p x w (pos 0) l in
    let value : a *ℤ get_or (set p x w) x (pos 0) ≡ a *ℤ w = ap (λ (z : ℤ). a *ℤ z) at in
    omega (arith, ints, t, sum, value)

pub value_small : (n x : ℕ) (p : List ℤ) (leaving : List Known) (w : ℤ) → x < n → x < length p → AllFit n leaving → list_any (is_unit_row x (pos 1)) (rows_of leaving) ≡ true → list_any (is_unit_row x (negsuc 0)) (rows_of leaving) ≡ true → all_hold (set p x w) (rows_of leaving) ≡ true → unsigned_abs w < 2 ^ 100
value_small n x p leaving w hn l f lo hi h =
    let a = some_unit n x (pos 1) (set p x w) leaving f lo h in
    let b = some_unit n x (negsuc 0) (set p x w) leaving f hi h in
    let ba = unit_bounds n x (pos 1) p a.0 w hn l a.1.0 a.2 a.3 in
    let bb = unit_bounds n x (negsuc 0) p b.0 w hn l b.1.0 b.2 b.3 in
    let sa = a.1.1.1 in
    let sb = b.1.1.1 in
    omega (arith, ints, ba, bb, sa, sb)

-- ---- the state of the loop

abbrev pub positives_hold : ℕ → List ℤ → List Known → Bool
positives_hold x p known = list_all (λ k. not (int_lt (pos 0) (coefficient x k.row)) || holds p k.row) known

pub record Placing (x : ℕ) (leaving : List Known) (i : ℕ) (old now : List ℤ) : Type 0 where
  pub value : ℤ
  pub placed : now ≡ set old x value
  pub small : unsigned_abs value < 2 ^ 100
  pub least : (w : ℤ) → all_hold (set old x w) (rows_of leaving) ≡ true → value ≤ℤ w
  pub so_far : positives_hold x now (take i leaving) ≡ true

positives_more : (x : ℕ) (p : List ℤ) (known : List Known) (i : ℕ) (k : Known) → i < length known → k ≡ get_or known i k → positives_hold x p (take i known) ≡ true → (int_lt (pos 0) (coefficient x k.row) ≡ true → holds p k.row ≡ true) → positives_hold x p (take (i + 1) known) ≡ true
positives_more x p known i k h e so_far one =
    list_all_more (λ (j : Known). not (int_lt (pos 0) (coefficient x j.row)) || holds p j.row) known i k h
    ∙ ap (λ (b : Bool). b && (not (int_lt (pos 0) (coefficient x (get_or known i k).row)) || holds p (get_or known i k).row)) so_far
    ∙ ap (λ (j : Known). not (int_lt (pos 0) (coefficient x j.row)) || holds p j.row) (sym e)
    ∙ either_sign (int_lt (pos 0) (coefficient x k.row)) refl
  where
    either_sign : (b : Bool) → int_lt (pos 0) (coefficient x k.row) ≡ b → (not b || holds p k.row) ≡ true
    either_sign true t = one t
    either_sign false t = refl

positives_up : (x : ℕ) (p : List ℤ) (v w : ℤ) (known : List Known) → x < length p → v ≤ℤ w → positives_hold x (set p x v) known ≡ true → positives_hold x (set p x w) known ≡ true
positives_up x p v w [] l le h = refl
positives_up x p v w (k ∷ known) l le h =
    let parts = both {a = not (int_lt (pos 0) (coefficient x k.row)) || holds (set p x v) k.row} {b = positives_hold x (set p x v) known} h in
    and_true (by_sign (int_lt (pos 0) (coefficient x k.row)) refl parts.0) (positives_up x p v w known l le parts.1)
  where
    by_sign : (b : Bool) → int_lt (pos 0) (coefficient x k.row) ≡ b → (not b || holds (set p x v) k.row) ≡ true → (not b || holds (set p x w) k.row) ≡ true
    by_sign true t h = holds_above x p k.row v w l t le h
    by_sign false t h = refl

all_at : (p : List ℤ) (leaving : List Known) (k : Known) → Contains leaving k → all_hold p (rows_of leaving) ≡ true → holds p k.row ≡ true
all_at p leaving k c h = All-contains (λ j. holds p j.row ≡ true) leaving k (each leaving h) c
  where
    each : (ks : List Known) → all_hold p (rows_of ks) ≡ true → All (λ j. holds p j.row ≡ true) ks
    each [] h = All-nil (λ j. holds p j.row ≡ true)
    each (j ∷ ks) h =
        let parts = both {a = holds p j.row} {b = all_hold p (rows_of ks)} h in
        All-cons (λ i. holds p i.row ≡ true) j ks parts.0 (each ks parts.1)

-- at the greatest lower bound
pub placing_start : (x n : ℕ) (leaving : List Known) (old now : List ℤ) (low : Known) → x < n → x < length old → AllFit n leaving → Contains leaving low → is_unit_row x (pos 1) low.row ≡ true → now ≡ set old x low.row.least → Placing x leaving 0 old now
placing_start x n leaving old now low hn l fit c u e =
    let f = All-contains (λ k. FitsSystem n k.row) leaving low fit c in
    record {
      value = low.row.least;
      placed = e;
      small = f.1.1;
      least = λ w h. (let b = unit_bounds n x (pos 1) old low.row w hn l f.0 u (all_at (set old x w) leaving low c h) in omega (arith, ints, b));
      so_far = refl;
    }

pub placing_skip : (x : ℕ) (leaving : List Known) (i : ℕ) (k : Known) (old now : List ℤ) → i < length leaving → k ≡ get_or leaving i k → int_lt (pos 0) (coefficient x k.row) ≡ false → Placing x leaving i old now → Placing x leaving (i + 1) old now
placing_skip x leaving i k old now h e t p = record {
  value = p.value;
  placed = p.placed;
  small = p.small;
  least = p.least;
  so_far = positives_more x now leaving i k h e p.so_far (λ s. absurd (cc));
}

-- a number at which all leaving rows hold is one to which the next row may be raised
pub placing_possible : (x n : ℕ) (leaving : List Known) (i : ℕ) (k : Known) (old now : List ℤ) (w : ℤ) → x < n → x < length old → AllFit n leaving → list_any (is_unit_row x (pos 1)) (rows_of leaving) ≡ true → list_any (is_unit_row x (negsuc 0)) (rows_of leaving) ≡ true → Contains leaving k → all_hold (set old x w) (rows_of leaving) ≡ true → Placing x leaving i old now → (v : ℤ) × (get_or now x (pos 0) ≤ℤ v) × (unsigned_abs v < 2 ^ 100) × (holds (set now x v) k.row ≡ true)
placing_possible x n leaving i k old now w hn l fit lo hi c h p =
    let at : get_or now x (pos 0) ≡ p.value = ap (λ (q : List ℤ). get_or q x (pos 0)) p.placed ∙ get_or-set_same old x p.value (pos 0) l in
    let same : set now x w ≡ set old x w = ap (λ (q : List ℤ). set q x w) p.placed ∙ set-set old x p.value w in
    (w, (let le = p.least w h in omega (arith, ints, le, at)), value_small n x old leaving w hn l fit lo hi h, ap (λ (q : List ℤ). holds q k.row) same ∙ all_at (set old x w) leaving k c h)

pub placing_step : (x n : ℕ) (leaving : List Known) (i : ℕ) (k : Known) (old now next : List ℤ) (w : ℤ) → x < n → x < length old → AllFit n leaving → list_any (is_unit_row x (pos 1)) (rows_of leaving) ≡ true → list_any (is_unit_row x (negsuc 0)) (rows_of leaving) ≡ true → i < length leaving → k ≡ get_or leaving i k → all_hold (set old x w) (rows_of leaving) ≡ true → Placing x leaving i old now → IsRaised x k.row now next → Placing x leaving (i + 1) old next
placing_step x n leaving i k old now next w hn l fit lo hi h e whole p r =
    let at : get_or now x (pos 0) ≡ p.value = ap (λ (q : List ℤ). get_or q x (pos 0)) p.placed ∙ get_or-set_same old x p.value (pos 0) l in
    let up : p.value ≤ℤ r.value = let a = r.above in omega (arith, ints, a, at) in
    let new : next ≡ set old x r.value = r.placed ∙ ap (λ (q : List ℤ). set q x r.value) p.placed ∙ set-set old x p.value r.value in
    let bound : (v : ℤ) → all_hold (set old x v) (rows_of leaving) ≡ true → r.value ≤ℤ v = λ v g.
    r.least v (let le = p.least v g in omega (arith, ints, le, at))
    (ap (λ (q : List ℤ). holds q k.row) (ap (λ (q : List ℤ). set q x v) p.placed ∙ set-set old x p.value v) ∙ all_at (set old x v) leaving k (i, h, sym e) g) in
    record {
      value = r.value;
      placed = new;
      small = (let sw = value_small n x old leaving w hn l fit lo hi whole in let sv = p.small in let b = bound w whole in omega (arith, ints, sw, sv, b, up));
      least = bound;
      so_far = positives_more x next leaving i k h e
          (ap (λ (q : List ℤ). positives_hold x q (take i leaving)) new
          ∙ positives_up x old p.value r.value (take i leaving) l up (ap (λ (q : List ℤ). positives_hold x q (take i leaving)) (sym p.placed) ∙ p.so_far))
          (λ t. r.true_there);
    }

all_from : (x : ℕ) (old : List ℤ) (v w : ℤ) (leaving : List Known) → x < length old → v ≤ℤ w → positives_hold x (set old x v) leaving ≡ true → all_hold (set old x w) (rows_of leaving) ≡ true → all_hold (set old x v) (rows_of leaving) ≡ true
all_from x old v w [] l le h a = refl
all_from x old v w (k ∷ leaving) l le h a =
    let hs = both {a = not (int_lt (pos 0) (coefficient x k.row)) || holds (set old x v) k.row} {b = positives_hold x (set old x v) leaving} h in
    let bs = both {a = holds (set old x w) k.row} {b = all_hold (set old x w) (rows_of leaving)} a in
    and_true (by_sign (int_lt (pos 0) (coefficient x k.row)) refl hs.0 bs.0) (all_from x old v w leaving l le hs.1 bs.1)
  where
    by_sign : (b : Bool) → int_lt (pos 0) (coefficient x k.row) ≡ b → (not b || holds (set old x v) k.row) ≡ true → holds (set old x w) k.row ≡ true → holds (set old x v) k.row ≡ true
    by_sign true t h a = h
    by_sign false t h a = holds_below x old k.row v w l t le a

pub placing_end : (x : ℕ) (leaving : List Known) (i : ℕ) (old now : List ℤ) (w : ℤ) → x < length old → length leaving ≤ i → all_hold (set old x w) (rows_of leaving) ≡ true → Placing x leaving i old now → all_hold now (rows_of leaving) ≡ true
placing_end x leaving i old now w l h whole p =
    let far : positives_hold x (set old x p.value) leaving ≡ true =
    ap (positives_hold x (set old x p.value)) (sym (take_all i leaving h)) ∙ ap (λ (q : List ℤ). positives_hold x q (take i leaving)) (sym p.placed) ∙ p.so_far in
    ap (λ (q : List ℤ). all_hold q (rows_of leaving)) p.placed ∙ all_from x old p.value w leaving l (p.least w whole) far whole

pub placing_small : (x : ℕ) (leaving : List Known) (i : ℕ) (old now : List ℤ) → AllBelow (2 ^ 100) old → Placing x leaving i old now → AllBelow (2 ^ 100) now
placing_small x leaving i old now s p =
    All-same (λ z. unsigned_abs z < 2 ^ 100) now (set old x p.value) p.placed (All-set (λ z. unsigned_abs z < 2 ^ 100) old x p.value p.small s)

-- a unit row has a constant
pub no_unit : (x : ℕ) (a : ℤ) (rows : List Row) → list_any (is_unit_row x a) rows ≡ true → None ≡ greatest_constant x a rows → ⊥
no_unit x a rows h e = none_greatest (filter (is_unit_row x a) rows) e (some_filtered rows h)
  where
    none_greatest : (rs : List Row) → None ≡ greatest_of (map (λ row. row.least) rs) → 0 < length rs → ⊥
    none_greatest [] e l = omega arith
    none_greatest (r ∷ rs) e l = cc

    some_filtered : (rs : List Row) → list_any (is_unit_row x a) rs ≡ true → 0 < length (filter (is_unit_row x a) rs)
    some_filtered [] h = absurd (cc)
    some_filtered (r ∷ rs) h = by_test (is_unit_row x a r) h (some_filtered rs)
      where
        by_test : (b : Bool) → (b || list_any (is_unit_row x a) rs) ≡ true → (list_any (is_unit_row x a) rs ≡ true → 0 < length (filter (is_unit_row x a) rs)) → 0 < length (cond b (r ∷ filter (is_unit_row x a) rs) (filter (is_unit_row x a) rs))
        by_test true h rest = omega arith
        by_test false h rest = rest h
