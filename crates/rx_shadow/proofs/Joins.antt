-- Rows joined in a loop, until a limit is passed.
use Rattle.std.proofs.Common.{◌≡◌, refl, sym, ap, ◌∙◌, subst, ℕ, ◌+◌, ◌<◌, ◌≤◌, ◌^◌, List, [], ◌∷◌, ◌++◌, map, drop, get_or, length, Bool, true, false, cond, ◌||◌, nat_le, ℤ, pos, int_lt, arith, length-append}
use Rattle.std.specs.List.{list_all, list_any, flat_map}
use Rattle.std.proofs.lemmas.List.{length-map, drop_more, drop_all}
use Rattle.std.proofs.lemmas.List.Folds.{list_all-append}
use Rattle.std.proofs.lemmas.Bool.Decides.{nat_tests}
use Rattle.rx_linear.specs.declared.row.Row.{Row}
use Rattle.rx_linear.specs.Rows.{tight, is_narrow}
use Rattle.rx_linear.specs.Systems.{FitsSystem}
use Rattle.std.proofs.lemmas.List.Elements.{All-head, All-tail}
use Rattle.rx_shadow.proofs.RowTests.{narrow_test}
use Rattle.rx_linear.specs.Joining.{joined, joined_one, is_true, same_row}
use Rattle.rx_linear.specs.Units.{coefficient}
use Rattle.rx_linear.proofs.Joining.{both, and_true}
use Rattle.rx_shadow.specs.declared.known.Known.{Known}
use Rattle.rx_shadow.specs.declared.known.Derived.{Derived}
use Rattle.rx_shadow.specs.Simple.{within_limits, positives, negatives, paired, at_value}
use Rattle.rx_shadow.specs.Known.{rows_of, AllFit}
use Rattle.rx_shadow.specs.Derivations.{Derives, Reaches, Continues, HasRoom}

-- ---- joining in two parts, and the limits

pub joined_append : (rows xs ys : List Row) → joined rows (xs ++ ys) ≡ joined (joined rows xs) ys
joined_append rows [] ys = refl
joined_append rows (x ∷ xs) ys = joined_append (joined_one rows (tight x)) xs ys

narrow_push : (rows : List Row) (row : Row) → within_limits (rows ++ row ∷ []) ≡ true → within_limits rows ≡ true
narrow_push rows row h =
    let parts = both {a = nat_le (length (rows ++ row ∷ [])) 1024} {b = list_all is_narrow (rows ++ row ∷ [])} h in
    let all = both {a = list_all is_narrow rows} {b = list_all is_narrow (row ∷ [])} (sym (list_all-append is_narrow rows (row ∷ [])) ∙ parts.1) in
    and_true (less (length rows) (length (rows ++ row ∷ [])) (length-append rows (row ∷ [])) parts.0) all.0
  where
    less : (m n : ℕ) → n ≡ m + 1 → nat_le n 1024 ≡ true → nat_le m 1024 ≡ true
    less m n e t = grind (arith, nat_tests, e, t)

one_grows : (rows : List Row) (row : Row) → within_limits (joined_one rows row) ≡ true → within_limits rows ≡ true
one_grows rows row h = by_test (is_true row || list_any (same_row row) rows) h
  where
    by_test : (b : Bool) → within_limits (cond b rows (rows ++ row ∷ [])) ≡ true → within_limits rows ≡ true
    by_test true h = h
    by_test false h = narrow_push rows row h

joined_grows : (rows more : List Row) → within_limits (joined rows more) ≡ true → within_limits rows ≡ true
joined_grows rows [] h = h
joined_grows rows (row ∷ more) h = one_grows rows (tight row) (joined_grows (joined_one rows (tight row)) more h)

-- a limit that is passed stays passed
pub limits_passed : (rows more : List Row) → within_limits rows ≡ false → within_limits (joined rows more) ≡ false
limits_passed rows more h = by_test (within_limits (joined rows more)) refl
  where
    by_test : (b : Bool) → within_limits (joined rows more) ≡ b → within_limits (joined rows more) ≡ false
    by_test true e = absurd (let g = joined_grows rows more e in cc)
    by_test false e = e

-- few rows within the limits are within them
pub within_from : (n : ℕ) (known : List Known) → length known ≤ 1024 → AllFit n known → within_limits (rows_of known) ≡ true
within_from n known few fit =
    and_true (le_test (length (rows_of known)) (let e = length-map known (λ (k : Known). k.row) in omega (arith, few, e))) (each known fit)
  where
    le_test : (m : ℕ) → m ≤ 1024 → nat_le m 1024 ≡ true
    le_test m h = grind (arith, nat_tests, h)

    each : (ks : List Known) → AllFit n ks → list_all is_narrow (rows_of ks) ≡ true
    each [] h = refl
    each (k ∷ ks) h = and_true (narrow_test k.row (All-head (λ j. FitsSystem n j.row) k ks h).1) (each ks (All-tail (λ j. FitsSystem n j.row) k ks h))

-- ---- a loop over known rows, each of which gives a list of new rows

pub flat_step : (f : Known → List Row) (known : List Known) (i : ℕ) (k : Known) (total before after : List Row) → i < length known → k ≡ get_or known i k → joined before (flat_map f (drop i known)) ≡ total → after ≡ joined before (f k) → joined after (flat_map f (drop (i + 1) known)) ≡ total
flat_step f known i k total before after h e way a =
    ap (λ (rows : List Row). joined rows (flat_map f (drop (i + 1) known))) a
    ∙ sym (joined_append before (f k) (flat_map f (drop (i + 1) known)))
    ∙ ap (λ (j : Known). joined before (f j ++ flat_map f (drop (i + 1) known))) e
    ∙ sym (ap (λ (ks : List Known). joined before (flat_map f ks)) (drop_more known i k h))
    ∙ way

pub flat_fail : (f : Known → List Row) (known : List Known) (i : ℕ) (k : Known) (total before : List Row) → i < length known → k ≡ get_or known i k → joined before (flat_map f (drop i known)) ≡ total → within_limits (joined before (f k)) ≡ false → within_limits total ≡ false
flat_fail f known i k total before h e way fails =
    let rest = limits_passed (joined before (f k)) (flat_map f (drop (i + 1) known)) fails in
    let same = flat_step f known i k total before (joined before (f k)) h e way refl in
    ap within_limits (sym same) ∙ rest

pub flat_end : (f : Known → List Row) (known : List Known) (i : ℕ) (total before : List Row) → length known ≤ i → joined before (flat_map f (drop i known)) ≡ total → before ≡ total
flat_end f known i total before h way = ap (λ (ks : List Known). joined before (flat_map f ks)) (sym (drop_all i known h)) ∙ way

-- ---- what each row gives

abbrev pub new_with : ℕ → Row → Known → List Row
new_with x first k = cond (int_lt (coefficient x k.row) (pos 0)) (paired x first k.row ∷ []) []

abbrev pub new_pairs : ℕ → List Known → Known → List Row
new_pairs x leaving k = cond (int_lt (pos 0) (coefficient x k.row)) (map (paired x k.row) (negatives x (rows_of leaving))) []

abbrev pub new_value : ℕ → ℕ → ℤ → Known → List Row
new_value n x v k = at_value n x v k.row ∷ []

pub pairs_of_each : (x : ℕ) (first : Row) (known : List Known) → flat_map (new_with x first) known ≡ map (paired x first) (negatives x (rows_of known))
pairs_of_each x first [] = refl
pairs_of_each x first (k ∷ known) = by_test (int_lt (coefficient x k.row) (pos 0)) (pairs_of_each x first known)
  where
    by_test : (b : Bool) → flat_map (new_with x first) known ≡ map (paired x first) (negatives x (rows_of known)) → cond b (paired x first k.row ∷ []) [] ++ flat_map (new_with x first) known ≡ map (paired x first) (cond b (k.row ∷ negatives x (rows_of known)) (negatives x (rows_of known)))
    by_test true e = ap (λ (rows : List Row). paired x first k.row ∷ rows) e
    by_test false e = e

pub pairs_each : (x : ℕ) (leaving known : List Known) → flat_map (new_pairs x leaving) known ≡ flat_map (λ first. map (paired x first) (negatives x (rows_of leaving))) (positives x (rows_of known))
pairs_each x leaving [] = refl
pairs_each x leaving (k ∷ known) = by_test (int_lt (pos 0) (coefficient x k.row)) (pairs_each x leaving known)
  where
    by_test : (b : Bool) → flat_map (new_pairs x leaving) known ≡ flat_map (λ first. map (paired x first) (negatives x (rows_of leaving))) (positives x (rows_of known)) → cond b (map (paired x k.row) (negatives x (rows_of leaving))) [] ++ flat_map (new_pairs x leaving) known ≡ flat_map (λ first. map (paired x first) (negatives x (rows_of leaving))) (cond b (k.row ∷ positives x (rows_of known)) (positives x (rows_of known)))
    by_test true e = ap (λ (rows : List Row). map (paired x k.row) (negatives x (rows_of leaving)) ++ rows) e
    by_test false e = e

pub values_each : (n x : ℕ) (v : ℤ) (known : List Known) → flat_map (new_value n x v) known ≡ map (at_value n x v) (rows_of known)
values_each n x v [] = refl
values_each n x v (k ∷ known) = ap (λ (rows : List Row). at_value n x v k.row ∷ rows) (values_each n x v known)

-- ---- what joining keeps

pub continues_none : (derived : Derived) → AllFit derived.variables derived.known.items → HasRoom derived → Continues derived derived
continues_none derived fits room = record { fits = fits; few = room.few; same_variables = refl; same_given = refl; two_each = refl }

pub continues_then : (a b c : Derived) → Continues a b → Continues b c → Continues a c
continues_then a b c f g = record {
  fits = g.fits;
  few = g.few;
  same_variables = g.same_variables ∙ f.same_variables;
  same_given = g.same_given ∙ f.same_given;
  two_each = let p = f.two_each in let q = g.two_each in omega arith;
}

pub room_after : (a b : Derived) → HasRoom a → Continues a b → HasRoom b
room_after a b room f = record {
  few = f.few;
  few_given = subst (λ (n : ℕ). n < 2 ^ 60) (sym f.same_given) room.few_given;
  few_steps = let p = room.few_steps in let q = f.two_each in omega arith;
}

-- ---- the state of such a loop

pub record Joining (f : Known → List Row) (leaving : List Known) (i : ℕ) (before now : Derived) : Type 0 where
  pub way : joined (rows_of now.known.items) (flat_map f (drop i leaving)) ≡ joined (rows_of before.known.items) (flat_map f leaving)
  pub continues : Continues before now
  pub derived : (given : List Row) → Derives given before leaving → Derives given now leaving

pub joining_none : (f : Known → List Row) (leaving : List Known) (derived : Derived) → AllFit derived.variables derived.known.items → HasRoom derived → Joining f leaving 0 derived derived
joining_none f leaving derived fits room = record { way = refl; continues = continues_none derived fits room; derived = λ given d. d }

pub joining_skip : (f : Known → List Row) (leaving : List Known) (i : ℕ) (k : Known) (before now : Derived) → Joining f leaving i before now → i < length leaving → k ≡ get_or leaving i k → f k ≡ [] → Joining f leaving (i + 1) before now
joining_skip f leaving i k before now j h e none = record {
  way = flat_step f leaving i k (joined (rows_of before.known.items) (flat_map f leaving)) (rows_of now.known.items) (rows_of now.known.items) h e j.way (ap (joined (rows_of now.known.items)) (sym none));
  continues = j.continues;
  derived = j.derived;
}

pub joining_step : (f : Known → List Row) (leaving : List Known) (i : ℕ) (k : Known) (before now next : Derived) (rows : List Row) (within : Bool) → Joining f leaving i before now → i < length leaving → k ≡ get_or leaving i k → f k ≡ rows → within ≡ true → Reaches within (joined (rows_of now.known.items) rows) (rows_of next.known.items) → Continues now next → ((given : List Row) → Derives given now leaving → Derives given next leaving) → Joining f leaving (i + 1) before next
joining_step f leaving i k before now next rows within j h e new t reached c d = record {
  way = flat_step f leaving i k (joined (rows_of before.known.items) (flat_map f leaving)) (rows_of now.known.items) (rows_of next.known.items) h e j.way
      ((let r : Reaches true (joined (rows_of now.known.items) rows) (rows_of next.known.items) = subst (λ (b : Bool). Reaches b (joined (rows_of now.known.items) rows) (rows_of next.known.items)) t reached in r) ∙ ap (joined (rows_of now.known.items)) (sym new));
  continues = continues_then before now next j.continues c;
  derived = λ given g. d given (j.derived given g);
}

pub joining_fails : (f : Known → List Row) (leaving : List Known) (i : ℕ) (k : Known) (before now next : Derived) (rows : List Row) (within : Bool) → Joining f leaving i before now → i < length leaving → k ≡ get_or leaving i k → f k ≡ rows → within ≡ false → Reaches within (joined (rows_of now.known.items) rows) (rows_of next.known.items) → within_limits (joined (rows_of before.known.items) (flat_map f leaving)) ≡ false
joining_fails f leaving i k before now next rows within j h e new t reached =
    flat_fail f leaving i k (joined (rows_of before.known.items) (flat_map f leaving)) (rows_of now.known.items) h e j.way
    (ap (λ (rs : List Row). within_limits (joined (rows_of now.known.items) rs)) new ∙ (let r : Reaches false (joined (rows_of now.known.items) rows) (rows_of next.known.items) = subst (λ (b : Bool). Reaches b (joined (rows_of now.known.items) rows) (rows_of next.known.items)) t reached in r))

pub joining_end : (f : Known → List Row) (leaving : List Known) (i : ℕ) (before now : Derived) → Joining f leaving i before now → length leaving ≤ i → rows_of now.known.items ≡ joined (rows_of before.known.items) (flat_map f leaving)
joining_end f leaving i before now j h = flat_end f leaving i (joined (rows_of before.known.items) (flat_map f leaving)) (rows_of now.known.items) h j.way
