-- The rows of a system, joined to nothing one after another.
use Rattle.std.proofs.Common.{◌≡◌, refl, sym, ap, subst, ◌∙◌, ℕ, ◌+◌, ◌<◌, ◌≤◌, ◌^◌, List, [], ◌∷◌, ◌++◌, map, drop, get_or, length, Bool, true, false, cond, not, ◌||◌, ℤ, pos, negsuc, neg_ℤ, unsigned_abs, Some, Result, Ok, Err, arith}
use Rattle.std.specs.List.{All, list_any, slice_get}
use Rattle.std.specs.Result.{IfOk}
use Rattle.std.specs.Int.{int_div_euclid}
use Rattle.std.proofs.lemmas.Int.{ints}
use Rattle.std.proofs.lemmas.List.{length-map, drop_more, drop_all, map-append}
use Rattle.std.proofs.lemmas.List.Elements.{All-weaker, All-nil, All-cons, All-head, All-tail, All-append, All-same}
use Rattle.std.proofs.Math.Nat.{div-le_self}
use Rattle.rx_linear.specs.declared.row.Row.{Row}
use Rattle.rx_linear.specs.declared.step.Step.{Step}
use Rattle.rx_linear.specs.Divisors.{divided_down, divided_up}
use Rattle.rx_linear.specs.Rows.{AllBelow, Narrow, Wide, tight, divisor_of}
use Rattle.rx_linear.specs.Systems.{FitsSystem}
use Rattle.rx_linear.specs.Joining.{joined, joined_one, is_true, same_row}
use Rattle.rx_shadow.specs.declared.known.Known.{Known}
use Rattle.rx_shadow.specs.Known.{rows_of, AllFit}
use Rattle.rx_shadow.specs.Derivations.{IsDerived}
use Rattle.rx_shadow.proofs.Derivations.{slice_get-before, slice_get-last}

-- ---- tight rows keep the limits

down_small : (z : ℤ) (d : ℕ) → unsigned_abs (int_div_euclid z (pos d)) ≤ unsigned_abs z
down_small (pos a) d = omega (arith, ints, div-le_self a d)
down_small (negsuc a) d = omega (arith, ints, div-le_self a d)

up_small : (z : ℤ) (d : ℕ) → unsigned_abs (divided_up z d) ≤ unsigned_abs z
up_small z d =
    let h = down_small (neg_ℤ z) d in
    omega (arith, ints, h)

all_down : (limit d : ℕ) (zs : List ℤ) → AllBelow limit zs → AllBelow limit (map (λ z. divided_down z d) zs)
all_down limit d [] h = All-nil (λ z. unsigned_abs z < limit)
all_down limit d (z ∷ zs) h =
    All-cons (λ y. unsigned_abs y < limit) (divided_down z d) (map (λ y. divided_down y d) zs)
    (let s = down_small z d in let b = All-head (λ y. unsigned_abs y < limit) z zs h in omega (arith, s, b))
    (all_down limit d zs (All-tail (λ y. unsigned_abs y < limit) z zs h))

pub tight_fits : (n : ℕ) (row : Row) → FitsSystem n row → FitsSystem n (tight row)
tight_fits n row f = (
  length-map row.coefficients (λ (z : ℤ). divided_down z (divisor_of row)) ∙ f.0,
  (
    all_down (2 ^ 20) (divisor_of row) row.coefficients f.1.0,
    (let s = up_small row.least (divisor_of row) in let b = f.1.1 in omega (arith, s, b)),
  ),
)

pub wide_from_narrow : (row : Row) → Narrow row → Wide row
wide_from_narrow row n =
    (All-weaker (λ z. unsigned_abs z < 2 ^ 20) (λ z. unsigned_abs z < 2 ^ 41) (λ z h. omega (arith, h)) row.coefficients n.0, (let b = n.1 in omega (arith, b)))

-- ---- one row after another

one_joined : (rows : List Row) (row : Row) (b : Bool) → not (is_true row || list_any (same_row row) rows) ≡ b → joined_one rows row ≡ cond b (rows ++ row ∷ []) rows
one_joined rows row b e = ap (λ (t : Bool). cond t rows (rows ++ row ∷ [])) (turned (is_true row || list_any (same_row row) rows) b e) ∙ swapped b
  where
    turned : (t b : Bool) → not t ≡ b → t ≡ not b
    turned true true e = absurd (cc)
    turned true false e = refl
    turned false true e = refl
    turned false false e = absurd (cc)

    swapped : (b : Bool) → cond (not b) rows (rows ++ row ∷ []) ≡ cond b (rows ++ row ∷ []) rows
    swapped true = refl
    swapped false = refl

pub record Joined (variables : ℕ) (rows : List Row) (i : ℕ) (known : List Known) : Type 0 where
  pub way : joined (rows_of known) (drop i rows) ≡ joined [] rows
  pub fit : AllFit variables known
  pub numbered : All (λ k. slice_get (rows_of known) k.number ≡ Some k.row) known

pub joined_none : (variables : ℕ) (rows : List Row) → Joined variables rows 0 []
joined_none variables rows = record { way = refl; fit = All-nil (λ k. FitsSystem variables k.row); numbered = All-nil (λ k. slice_get (rows_of []) k.number ≡ Some k.row) }

way_more : (rows : List Row) (i : ℕ) (row : Row) (known : List Known) (after : List Row) → i < length rows → row ≡ get_or rows i row → joined (rows_of known) (drop i rows) ≡ joined [] rows → after ≡ joined_one (rows_of known) (tight row) → joined after (drop (i + 1) rows) ≡ joined [] rows
way_more rows i row known after h e way a =
    ap (λ (rs : List Row). joined rs (drop (i + 1) rows)) a
    ∙ ap (λ (r : Row). joined (joined_one (rows_of known) (tight r)) (drop (i + 1) rows)) e
    ∙ sym (ap (joined (rows_of known)) (drop_more rows i row h))
    ∙ way

pub joined_same : (variables : ℕ) (rows : List Row) (i : ℕ) (row last : Row) (known : List Known) → Joined variables rows i known → i < length rows → row ≡ get_or rows i row → last ≡ tight row → not (is_true last || list_any (same_row last) (rows_of known)) ≡ false → Joined variables rows (i + 1) known
joined_same variables rows i row last known j h e t n = record {
  way = way_more rows i row known (rows_of known) h e j.way (sym (ap (joined_one (rows_of known)) (sym t) ∙ one_joined (rows_of known) last false n));
  fit = j.fit;
  numbered = j.numbered;
}

pub joined_push : (variables : ℕ) (rows : List Row) (i number : ℕ) (row last : Row) (known more : List Known) → Joined variables rows i known → i < length rows → row ≡ get_or rows i row → FitsSystem variables row → last ≡ tight row → not (is_true last || list_any (same_row last) (rows_of known)) ≡ true → number ≡ length known → more ≡ known ++ record { row = last; number = number } ∷ [] → Joined variables rows (i + 1) more
joined_push variables rows i number row last known more j h e f t n count m =
    let one : Known = record { row = last; number = number } in
    let all : rows_of more ≡ rows_of known ++ last ∷ [] = ap rows_of m ∙ map-append (λ (k : Known). k.row) known (one ∷ []) in
    let fits : FitsSystem variables last = subst (FitsSystem variables) (sym t) (tight_fits variables row f) in
    let numbers : All (λ k. slice_get (rows_of known ++ last ∷ []) k.number ≡ Some k.row) (known ++ one ∷ []) =
    All-append (λ k. slice_get (rows_of known ++ last ∷ []) k.number ≡ Some k.row) known (one ∷ [])
    (All-weaker (λ k. slice_get (rows_of known) k.number ≡ Some k.row) (λ k. slice_get (rows_of known ++ last ∷ []) k.number ≡ Some k.row) (λ k g. slice_get-before (rows_of known) last k.row k.number g) known j.numbered)
    (All-cons (λ k. slice_get (rows_of known ++ last ∷ []) k.number ≡ Some k.row) one []
    (ap (slice_get (rows_of known ++ last ∷ [])) (count ∙ sym (length-map known (λ (k : Known). k.row))) ∙ slice_get-last (rows_of known) last)
    (All-nil (λ k. slice_get (rows_of known ++ last ∷ []) k.number ≡ Some k.row))) in
    record {
      way = way_more rows i row known (rows_of more) h e j.way (all ∙ sym (ap (joined_one (rows_of known)) (sym t) ∙ one_joined (rows_of known) last true n));
      fit = All-same (λ k. FitsSystem variables k.row) more (known ++ one ∷ []) m (All-append (λ k. FitsSystem variables k.row) known (one ∷ []) j.fit (All-cons (λ k. FitsSystem variables k.row) one [] fits (All-nil (λ k. FitsSystem variables k.row))));
      numbered = subst (λ (rs : List Row). All (λ k. slice_get rs k.number ≡ Some k.row) more) (sym all) (All-same (λ k. slice_get (rows_of known ++ last ∷ []) k.number ≡ Some k.row) more (known ++ one ∷ []) m numbers);
    }

pub joined_whole : (variables : ℕ) (rows : List Row) (i : ℕ) (known : List Known) → length rows ≤ i → Joined variables rows i known → rows_of known ≡ joined [] rows
joined_whole variables rows i known h j = ap (joined (rows_of known)) (sym (drop_all i rows h)) ∙ j.way

-- the joined rows are derived by no step
pub derived_none : (rows : List Row) (known : List Known) (count : ℕ) (steps : List Step) → rows_of known ≡ rows → count ≡ length known → steps ≡ [] → All (λ k. slice_get (rows_of known) k.number ≡ Some k.row) known → IsDerived rows count steps known
derived_none rows known count steps e c none numbered =
    subst (λ (ss : List Step). IsDerived rows count ss known) (sym none) (record {
      count_is = ap length (sym e) ∙ length-map known (λ (k : Known). k.row) ∙ sym c;
      taken = (rows, refl);
      each = subst (λ (rs : List Row). All (λ k. slice_get rs k.number ≡ Some k.row) known) e numbered;
    })

pub if_ok : {T E : Type 0} (r : Result T E) (P Q : T → Type 0) → ((x : T) → P x → Q x) → IfOk r P → IfOk r Q
if_ok (Ok x) P Q f h = f x h
if_ok (Err e) P Q f h = tt
