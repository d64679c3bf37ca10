-- What the parts of a fact are at each kind of fact, and that they fit a system.
use Rattle.std.proofs.Common.{◌≡◌, refl, sym, ap, subst, ◌∙◌, ℕ, zero, suc, ◌+◌, ◌-◌, ◌<◌, ◌≤◌, ◌^◌, arith, List, [], ◌∷◌, ◌++◌, map, length, replicate, drop, get_or, Bool, true, ◌&&◌, ℤ, pos, neg_ℤ, unsigned_abs}
use Rattle.std.specs.Prelude.{nat_le, nat_lt, Result, Ok, Err, IfOk}
use Rattle.std.specs.List.{All, list_all}
use Rattle.std.proofs.lemmas.Int.{ints}
use Rattle.std.proofs.lemmas.List.Folds.{list_all-append}
use Rattle.std.proofs.lemmas.List.{length-append, drop_more}
use Rattle.std.proofs.lemmas.List.Elements.{All-append, All-cons, All-nil}
use Rattle.rx_linear.specs.Rows.{AllBelow, all_below}
use Rattle.rx_linear.specs.Systems.{FitsSystem, IsWithinLimits}
use Rattle.rx_linear.proofs.Joining.{both}
use Rattle.rx_forms.specs.declared.linear.Linear.{Linear}
use Rattle.rx_forms.specs.declared.linear.Form.{Form, AtLeast, All as AllOf, Any}
use Rattle.rx_forms.specs.declared.linear.Form.TheVariants.{rolls-AtLeast, rolls-All, rolls-Any}
use Rattle.rx_forms.specs.declared.linear.Form.TheOpen.{Form-F}
use Rattle.rx_forms.specs.declared.linear.Form.TheFolds.{fold-Form, ind-Form, map-Form, fold-roll-Form}
use Rattle.rx_layout.specs.declared.parts.Parts.{Parts}
use Rattle.rx_layout.specs.Parts.{padded, row_of, false_row, all_of, one_of, parts_step, parts_of}
use Rattle.rx_layout.specs.Fitting.{fits_row, fits_step, fits}

-- ---- each kind of fact

pub parts_at_least : (n : ℕ) (f : Linear) → parts_of n (AtLeast f) ≡ record { rows = row_of n f ∷ []; either = [] }
unfolding parts_of
parts_at_least n f = ap (λ (p : Form). parts_of n p) (sym (rolls-AtLeast f)) ∙ fold-roll-Form Parts (parts_step n) (Form-F.AtLeast f)

pub parts_all : (n : ℕ) (forms : List Form) → parts_of n (AllOf forms) ≡ all_of (map (parts_of n) forms)
unfolding parts_of
parts_all n forms = ap (λ (p : Form). parts_of n p) (sym (rolls-All forms)) ∙ fold-roll-Form Parts (parts_step n) (Form-F.All forms)

pub parts_any : (n : ℕ) (forms : List Form) → parts_of n (Any forms) ≡ one_of n (map (parts_of n) forms)
unfolding parts_of
parts_any n forms = ap (λ (p : Form). parts_of n p) (sym (rolls-Any forms)) ∙ fold-roll-Form Parts (parts_step n) (Form-F.Any forms)

all-map : (n : ℕ) (forms : List Form) → list_all (λ (b : Bool). b) (map (fits n) forms) ≡ list_all (fits n) forms
all-map n [] = refl
all-map n (f ∷ fs) = ap (λ (t : Bool). fits n f && t) (all-map n fs)

pub fits_at_least : (n : ℕ) (f : Linear) → fits n (AtLeast f) ≡ fits_row n f
unfolding fits
fits_at_least n f = ap (λ (p : Form). fits n p) (sym (rolls-AtLeast f)) ∙ fold-roll-Form Bool (fits_step n) (Form-F.AtLeast f)

pub fits_all : (n : ℕ) (forms : List Form) → fits n (AllOf forms) ≡ list_all (fits n) forms
unfolding fits
fits_all n forms = ap (λ (p : Form). fits n p) (sym (rolls-All forms)) ∙ fold-roll-Form Bool (fits_step n) (Form-F.All forms) ∙ all-map n forms

pub fits_any : (n : ℕ) (forms : List Form) → fits n (Any forms) ≡ list_all (fits n) forms
unfolding fits
fits_any n forms = ap (λ (p : Form). fits n p) (sym (rolls-Any forms)) ∙ fold-roll-Form Bool (fits_step n) (Form-F.Any forms) ∙ all-map n forms

-- ---- rows within the limits

abbrev pub Fit : ℕ → Parts → Type 0
Fit n parts = All (FitsSystem n) parts.rows

below : (a b : ℕ) → nat_lt a b ≡ true → a < b
below a b e = grind (arith, e)

up_to : (a b : ℕ) → nat_le a b ≡ true → a ≤ b
up_to a b e = grind (arith, e)

small : (k : ℕ) (zs : List ℤ) → all_below k zs ≡ true → AllBelow k zs
small k [] h = All-nil (λ z. unsigned_abs z < k)
small k (z ∷ zs) h = let p = both {a = nat_lt (unsigned_abs z) k} h in All-cons (λ z. unsigned_abs z < k) z zs (below (unsigned_abs z) k p.0) (small k zs p.1)

zeros_small : (k j : ℕ) → 0 < k → AllBelow k (replicate j (pos 0))
zeros_small k zero p = All-nil (λ z. unsigned_abs z < k)
zeros_small k (suc j) p = All-cons (λ z. unsigned_abs z < k) (pos 0) (replicate j (pos 0)) p (zeros_small k j p)

zeros_length : (j : ℕ) → length (replicate j (pos 0)) ≡ j
zeros_length zero = refl
zeros_length (suc j) = let e = zeros_length j in omega (arith, e)

padded_length : (n : ℕ) (cs : List ℤ) → length cs ≤ n → length (padded n cs) ≡ n
padded_length n cs h = let e = zeros_length (n - length cs) in length-append cs (replicate (n - length cs) (pos 0)) ∙ (omega (arith, e, h))

negated : (z : ℤ) (k : ℕ) → unsigned_abs z < k → unsigned_abs (neg_ℤ z) < k
negated z k h = omega (arith, ints, h)

row_fits : (n : ℕ) (f : Linear) → fits_row n f ≡ true → FitsSystem n (row_of n f)
row_fits n f h =
    let p = both {a = nat_le (length f.coefficients) n && all_below (2 ^ 20) f.coefficients} h in
    let q = both {a = nat_le (length f.coefficients) n} p.0 in (
      padded_length n f.coefficients (up_to (length f.coefficients) n q.0),
      (
        All-append (λ z. unsigned_abs z < 2 ^ 20) f.coefficients (replicate (n - length f.coefficients) (pos 0)) (small (2 ^ 20) f.coefficients q.1) (zeros_small (2 ^ 20) (n - length f.coefficients) (omega arith)),
        negated f.constant (2 ^ 100) (below (unsigned_abs f.constant) (2 ^ 100) p.1),
      ),
    )

false_fits : (n : ℕ) → FitsSystem n (false_row n)
false_fits n = (zeros_length n, (zeros_small (2 ^ 20) n (omega arith), omega (arith, ints)))

abbrev Fitting : ℕ → Form → Type 0
Fitting n form = fits n form ≡ true → Fit n (parts_of n form)

all_fit : (n : ℕ) (forms : List ((f : Form) × Fitting n f)) → list_all (λ (b : Bool). b) (map (fits n) (map (λ e. e.0) forms)) ≡ true → Fit n (all_of (map (parts_of n) (map (λ e. e.0) forms)))
all_fit n [] h = All-nil (FitsSystem n)
all_fit n (f ∷ fs) h =
    let p = both {a = fits n f.0} h in
    All-append (FitsSystem n) (parts_of n f.0).rows (all_of (map (parts_of n) (map (λ e. e.0) fs))).rows (f.1 p.0) (all_fit n fs p.1)

one_fits : (n : ℕ) (forms : List ((f : Form) × Fitting n f)) → list_all (λ (b : Bool). b) (map (fits n) (map (λ e. e.0) forms)) ≡ true → Fit n (one_of n (map (parts_of n) (map (λ e. e.0) forms)))
one_fits n [] h = All-cons (FitsSystem n) (false_row n) [] (false_fits n) (All-nil (FitsSystem n))
one_fits n (f ∷ []) h = f.1 (both {a = fits n f.0} h).0
one_fits n (f ∷ g ∷ fs) h = All-nil (FitsSystem n)

layer_fits : (n : ℕ) (y : Form-F ((f : Form) × Fitting n f)) → fits_step n (map-Form Form Bool (fits n) (map-Form ((f : Form) × Fitting n f) Form (λ e. e.0) y)) ≡ true
    → Fit n (parts_step n (map-Form Form Parts (parts_of n) (map-Form ((f : Form) × Fitting n f) Form (λ e. e.0) y)))
layer_fits n (Form-F.AtLeast f) h = All-cons (FitsSystem n) (row_of n f) [] (row_fits n f h) (All-nil (FitsSystem n))
layer_fits n (Form-F.All forms) h = all_fit n forms h
layer_fits n (Form-F.Any forms) h = one_fits n forms h

pub parts_fit : (n : ℕ) (form : Form) → Fitting n form
unfolding parts_of fits
parts_fit n = ind-Form (Fitting n) (λ x y is h.
    subst (λ (p : Parts). Fit n p) (sym (fold-roll-Form Parts (parts_step n) x))
    (subst (λ layer. fits_step n (map-Form Form Bool (fits n) layer) ≡ true → Fit n (parts_step n (map-Form Form Parts (parts_of n) layer))) is (layer_fits n y) (sym (fold-roll-Form Bool (fits_step n) x) ∙ h)))

pub within_limits : (n : ℕ) (form : Form) → n ≤ 192 → fits n form ≡ true → IsWithinLimits n (parts_of n form).rows
within_limits n form few h = (few, parts_fit n form h)

-- ---- for the code

pub sums_fit : (n : ℕ) (form : Form) (f : Linear) → fits n form ≡ true → form ≡ AtLeast f → fits_row n f ≡ true
sums_fit n form f h is = sym (ap (λ (x : Form). fits n x) is ∙ fits_at_least n f) ∙ h

pub alls_fit : (n : ℕ) (form : Form) (forms items : List Form) → fits n form ≡ true → form ≡ AllOf forms → items ≡ forms → list_all (fits n) items ≡ true
alls_fit n form forms items h is e = ap (λ (fs : List Form). list_all (fits n) fs) e ∙ sym (ap (λ (x : Form). fits n x) is ∙ fits_all n forms) ∙ h

pub anys_fit : (n : ℕ) (form : Form) (forms items : List Form) → fits n form ≡ true → form ≡ Any forms → items ≡ forms → list_all (fits n) items ≡ true
anys_fit n form forms items h is e = ap (λ (fs : List Form). list_all (fits n) fs) e ∙ sym (ap (λ (x : Form). fits n x) is ∙ fits_any n forms) ∙ h

pub item_fits : (n : ℕ) (forms : List Form) (i : ℕ) (form : Form) → i < length forms → form ≡ get_or forms i form → list_all (fits n) (drop i forms) ≡ true → fits n form ≡ true
item_fits n forms i form l is h =
    (both {a = fits n form} (sym (ap (λ (fs : List Form). list_all (fits n) fs) (drop_more forms i form l) ∙ ap (λ (f : Form). fits n f && list_all (fits n) (drop (i + 1) forms)) (sym is)) ∙ h)).0

pub parts_within : (n : ℕ) (form : Form) (parts : Parts) → n ≤ 192 → fits n form ≡ true → parts ≡ parts_of n form → IsWithinLimits n parts.rows
parts_within n form parts few h is = subst (λ (p : Parts). IsWithinLimits n p.rows) (sym is) (within_limits n form few h)

pub facts_split : (n : ℕ) (xs ys : List Form) → list_all (fits n) (xs ++ ys) ≡ true → (list_all (fits n) xs ≡ true) × (list_all (fits n) ys ≡ true)
facts_split n xs ys h = both {a = list_all (fits n) xs} (sym (list_all-append (fits n) xs ys) ∙ h)

pub facts_within : (n : ℕ) (forms : List Form) (parts : Parts) → n ≤ 192 → list_all (fits n) forms ≡ true → parts ≡ all_of (map (parts_of n) forms) → IsWithinLimits n parts.rows
facts_within n forms parts few h is = parts_within n (AllOf forms) parts few (fits_all n forms ∙ h) (is ∙ sym (parts_all n forms))

pub if_ok : {X E : Type 0} (r : Result X E) (P Q : X → Type 0) → ((x : X) → P x → Q x) → IfOk r P → IfOk r Q
if_ok (Ok x) P Q f h = f x h
if_ok (Err e) P Q f h = tt

-- ---- how many facts there are in a fact

abbrev pub total : List ℕ → ℕ
total [] = 0
total (n ∷ ns) = n + total ns

abbrev count_step : Form-F ℕ → ℕ
count_step (Form-F.AtLeast f) = 1
count_step (Form-F.All parts) = 1 + total parts
count_step (Form-F.Any parts) = 1 + total parts

pub count : Form → ℕ
count = fold-Form ℕ count_step

pub count_all : (forms : List Form) → count (AllOf forms) ≡ 1 + total (map count forms)
unfolding count
count_all forms = ap (λ (p : Form). count p) (sym (rolls-All forms)) ∙ fold-roll-Form ℕ count_step (Form-F.All forms)

pub count_any : (forms : List Form) → count (Any forms) ≡ 1 + total (map count forms)
unfolding count
count_any forms = ap (λ (p : Form). count p) (sym (rolls-Any forms)) ∙ fold-roll-Form ℕ count_step (Form-F.Any forms)

pub item_counts : (forms : List Form) (i : ℕ) (form : Form) → i < length forms → form ≡ get_or forms i form → count form ≤ total (map count forms)
item_counts [] i form l is = absurd (omega (arith, l))
item_counts (f ∷ fs) zero form l is = let e = ap (λ (x : Form). count x) is in omega (arith, e)
item_counts (f ∷ fs) (suc i) form l is = let r = item_counts fs i form (omega (arith, l)) is in omega (arith, r)
