-- Known rows that have their places for their numbers.
use Rattle.std.proofs.Common.{◌≡◌, refl, sym, ap, subst, ◌∙◌, ℕ, zero, suc, ◌+◌, ◌-◌, ◌≤◌, List, [], ◌∷◌, ◌++◌, length-append, take, drop, length, get_or, replicate, unsigned_abs, ℤ, pos, ◌<◌, ◌^◌, Bool, true, false, cond, not, ◌||◌, ◌==◌, Option, Some, None, arith}
use Rattle.std.specs.List.{All, list_any, slice_get}
use Rattle.std.specs.Option.{MatchOption}
use Rattle.std.proofs.Math.Seq.{drop-append_seam}
use Rattle.std.proofs.lemmas.List.{drop_more, drop_all}
use Rattle.std.proofs.lemmas.Bool.{eqb-true}
use Rattle.std.proofs.lemmas.Bool.Decides.{nat_tests}
use Rattle.std.proofs.lemmas.List.Elements.{All-nil, All-cons, All-append, All-head, All-tail}
use Rattle.rx_linear.specs.declared.row.Row.{Row}
use Rattle.rx_linear.specs.Systems.{FitsSystem}
use Rattle.rx_linear.specs.Joining.{joined_one, is_true, same_row}
use Rattle.rx_linear.proofs.Joining.{both, and_true}
use Rattle.rx_shadow.specs.declared.known.Known.{Known}
use Rattle.rx_shadow.specs.Known.{rows_of, AllFit}
use Rattle.rx_linear.specs.Rows.{AllBelow}
use Rattle.rx_linear.specs.Units.{unit, unit_row}
use Rattle.rx_linear.proofs.Stacked.{length-unit}
use Rattle.rx_linear.specs.declared.step.Step.{Step}
use Rattle.rx_linear.specs.Steps.{closes, last_is_false, if_some}
use Rattle.rx_linear.specs.Systems.{LinearSystem, IsWithinLimits}
use Rattle.rx_linear.specs.Joining.{is_false, joined, all_hold}
use Rattle.rx_shadow.specs.Simple.{clashes, Outcome, Clash, TrueRows, Neither}
use Rattle.rx_shadow.specs.Bounds.{narrowest}
use Rattle.rx_shadow.specs.Derivations.{IsDerived, IsClosing}
use Rattle.rx_shadow.specs.declared.known.Derived.{Derived}
use Rattle.rx_shadow.specs.declared.solving.Solved.{Solved}
use Rattle.rx_shadow.specs.declared.solving.Solved.TheVariants.{Point, Closed, NotSimple}
use Rattle.rx_shadow.specs.Solving.{IsFound}
use Rattle.rx_shadow.specs.Joined.{are_numbered, IsJoined, IsSolvedAt}
use Rattle.rx_shadow.proofs.Derivations.{rows_after-push}
use Rattle.rx_shadow.proofs.Initial.{derived_none}

same_number : (a b : ℕ) → (a == b) ≡ true → a ≡ b
same_number a b e = eqb-true a b e

number_same : (a b : ℕ) → a ≡ b → (a == b) ≡ true
number_same a b e = grind (arith, nat_tests, e)

pub numbered_more : (n : ℕ) (known : List Known) (k : Known) → are_numbered n known ≡ true → k.number ≡ n + length known → are_numbered n (known ++ k ∷ []) ≡ true
numbered_more n [] k h e = and_true (number_same k.number n (omega (arith, e))) refl
numbered_more n (first ∷ known) k h e =
    let parts = both {a = first.number == n} {b = are_numbered (suc n) known} h in
    and_true parts.0 (numbered_more (suc n) known k parts.1 (omega (arith, e)))

pub numbered_front : (n m : ℕ) (known : List Known) → are_numbered n known ≡ true → are_numbered n (take m known) ≡ true
numbered_front n zero known h = refl
numbered_front n (suc m) [] h = refl
numbered_front n (suc m) (first ∷ known) h =
    let parts = both {a = first.number == n} {b = are_numbered (suc n) known} h in
    and_true parts.0 (numbered_front (suc n) m known parts.1)

pub all_front : (P : Known → Type 0) (m : ℕ) (known : List Known) → All P known → All P (take m known)
all_front P zero known h = All-nil P
all_front P (suc m) [] h = All-nil P
all_front P (suc m) (first ∷ known) h = All-cons P first (take m known) (All-head P first known h) (all_front P m known (All-tail P first known h))

pub rows_front : (m : ℕ) (known : List Known) → rows_of (take m known) ≡ take m (rows_of known)
rows_front zero known = refl
rows_front (suc m) [] = refl
rows_front (suc m) (k ∷ known) = ap (λ (rs : List Row). k.row ∷ rs) (rows_front m known)

at_place : (rows : List Row) (n : ℕ) (row : Row) (more : List Row) → drop n rows ≡ row ∷ more → (slice_get rows n ≡ Some row) × (drop (suc n) rows ≡ more)
at_place [] zero row more e = absurd (cc)
at_place [] (suc n) row more e = absurd (cc)
at_place (first ∷ rows) zero row more e = (let f : first ≡ row = cc in ap (λ (r : Row). Some r) f, let r : rows ≡ more = cc in r)
at_place (first ∷ rows) (suc n) row more e = at_place rows n row more e

-- each row stands at its number
pub stands : (rows : List Row) (n : ℕ) (known : List Known) → drop n rows ≡ rows_of known → are_numbered n known ≡ true → All (λ k. slice_get rows k.number ≡ Some k.row) known
stands rows n [] e h = All-nil (λ k. slice_get rows k.number ≡ Some k.row)
stands rows n (k ∷ known) e h =
    let parts = both {a = k.number == n} {b = are_numbered (suc n) known} h in
    let at = at_place rows n k.row (rows_of known) e in
    All-cons (λ j. slice_get rows j.number ≡ Some j.row) k known (ap (slice_get rows) (same_number k.number n parts.0) ∙ at.0) (stands rows (suc n) known at.1 parts.1)

-- ---- one row more

pub kept_old : (rows : List Row) (row : Row) → not (is_true row || list_any (same_row row) rows) ≡ false → rows ≡ joined_one rows row
kept_old rows row e = by_test (is_true row || list_any (same_row row) rows) e
  where
    by_test : (b : Bool) → not b ≡ false → rows ≡ cond b rows (rows ++ row ∷ [])
    by_test true e = refl
    by_test false e = absurd (cc)

pub kept_new : (rows : List Row) (row : Row) → not (is_true row || list_any (same_row row) rows) ≡ true → rows ++ row ∷ [] ≡ joined_one rows row
kept_new rows row e = by_test (is_true row || list_any (same_row row) rows) e
  where
    by_test : (b : Bool) → not b ≡ true → rows ++ row ∷ [] ≡ cond b rows (rows ++ row ∷ [])
    by_test true e = absurd (cc)
    by_test false e = refl

pub joined_more : (n : ℕ) (known : List Known) (last : Row) (number : ℕ) → number ≡ length known → IsJoined n known → FitsSystem n last → IsJoined n (known ++ record { row = last; number = number } ∷ [])
joined_more n known last number e j f =
    let one : Known = record { row = last; number = number } in
    record {
      few = j.few;
      fit = All-append (λ k. FitsSystem n k.row) known (one ∷ []) j.fit (All-cons (λ k. FitsSystem n k.row) one [] f (All-nil (λ k. FitsSystem n k.row)));
      numbered = numbered_more 0 known one j.numbered (omega (arith, e));
    }

pub joined_front : (n m : ℕ) (known : List Known) → IsJoined n known → IsJoined n (take m known)
joined_front n m known j = record {
  few = j.few;
  fit = all_front (λ k. FitsSystem n k.row) m known j.fit;
  numbered = numbered_front 0 m known j.numbered;
}

-- ---- what a list of rows is to its callers

abbrev pub system_of : ℕ → List Row → LinearSystem
system_of n rows = record { variables = n; rows = rows }

pub with_rows : (n : ℕ) (rows news final : List Row) (s : LinearSystem) → system_of n rows ≡ s → news ≡ final → system_of n news ≡ system_of s.variables final
with_rows n rows news final s e f = ap (λ (x : LinearSystem). system_of x.variables news) e ∙ ap (system_of s.variables) f

rows_fit : (n : ℕ) (known : List Known) → AllFit n known → All (FitsSystem n) (rows_of known)
rows_fit n [] h = All-nil (FitsSystem n)
rows_fit n (k ∷ known) h = All-cons (FitsSystem n) k.row (rows_of known) (All-head (λ j. FitsSystem n j.row) k known h) (rows_fit n known (All-tail (λ j. FitsSystem n j.row) k known h))

pub limits_of : (n : ℕ) (known : List Known) (s : LinearSystem) → IsJoined n known → system_of n (rows_of known) ≡ s → IsWithinLimits s.variables s.rows
limits_of n known s j e = subst (λ (x : LinearSystem). IsWithinLimits x.variables x.rows) e (j.few, rows_fit n known j.fit)

-- ---- the step that closes rows that clash

last_false : (rows : List Row) (row : Row) → is_false row ≡ true → last_is_false (rows ++ row ∷ []) ≡ true
last_false rows row f =
    ap (λ (k : ℕ). list_any is_false (drop k (rows ++ row ∷ []))) (let e : length (rows ++ row ∷ []) - 1 ≡ length rows = omega (arith, length-append rows (row ∷ [])) in e)
    ∙ ap (list_any is_false) (drop-append_seam rows (row ∷ []))
    ∙ ap (λ (b : Bool). b || false) f

pub all_derived : (known : List Known) → are_numbered 0 known ≡ true → IsDerived (rows_of known) (length known) [] known
all_derived known h = derived_none (rows_of known) known (length known) [] refl refl refl (stands (rows_of known) 0 known refl h)

closing_step : (known : List Known) (step : Step) → are_numbered 0 known ≡ true → IsClosing known step → closes (rows_of known) (step ∷ []) ≡ true
closing_step known step h c =
    let r = c (rows_of known) (length known) [] (all_derived known h) in
    ap (λ (o : Option (List Row)). if_some o last_is_false) (rows_after-push (rows_of known) [] step (rows_of known) r.0 refl r.1) ∙ last_false (rows_of known) r.0 r.2

abbrev pub ClashAt : LinearSystem → Option Step → Type 0
ClashAt s o = MatchOption o (clashes s.variables s.rows ≡ false) (λ step. (clashes s.variables s.rows ≡ true) × (closes s.rows (step ∷ []) ≡ true))

pub clash_found : (n : ℕ) (known items : List Known) (s : LinearSystem) (o : Option Step) → known ≡ items → system_of n (rows_of items) ≡ s → are_numbered 0 items ≡ true → MatchOption o (clashes n (rows_of known) ≡ false) (λ step. (clashes n (rows_of known) ≡ true) × IsClosing known step) → ClashAt s o
clash_found n known items s o k e h m = subst (λ (x : LinearSystem). ClashAt x o) e (by_case o (subst (λ (ks : List Known). MatchOption o (clashes n (rows_of ks) ≡ false) (λ step. (clashes n (rows_of ks) ≡ true) × IsClosing ks step)) k m))
  where
    by_case : (o : Option Step) → MatchOption o (clashes n (rows_of items) ≡ false) (λ step. (clashes n (rows_of items) ≡ true) × IsClosing items step) → ClashAt (system_of n (rows_of items)) o
    by_case None m = m
    by_case (Some step) m = (m.0, closing_step items step h m.1)

-- ---- the answer for the rows

pub solved_at : (n : ℕ) (known : List Known) (rows : Derived) (narrow : ℕ) (o : Outcome) (solved : Solved) → n ≤ 192 → rows.variables ≡ n → rows.known.items ≡ known → rows.steps.items ≡ [] → IsDerived (rows_of known) rows.given [] known → narrow ≡ narrowest n (rows_of known) → IsFound n narrow rows o solved → IsSolvedAt n (rows_of known) o solved
solved_at n known rows narrow Clash (Closed steps) few v same none d e f = (
  (let a = f.0 in omega (arith, a, ap length none, few)),
  f.1 (rows_of known) (subst (λ (ks : List Known). IsDerived (rows_of known) rows.given rows.steps.items ks) (sym same) (subst (λ (ss : List Step). IsDerived (rows_of known) rows.given ss known) (sym none) d)),
)
solved_at n known rows narrow Clash (Point point) few v same none d e f = absurd f
solved_at n known rows narrow Clash (NotSimple variable) few v same none d e f = absurd f
solved_at n known rows narrow TrueRows (Closed steps) few v same none d e f = absurd f
solved_at n known rows narrow TrueRows (NotSimple variable) few v same none d e f = absurd f
solved_at n known rows narrow TrueRows (Point point) few v same none d e f = record {
  whole = f.whole ∙ v;
  small = f.small;
  holds = ap (λ (ks : List Known). all_hold point.items (rows_of ks)) (sym same) ∙ f.holds;
}
solved_at n known rows narrow Neither (Closed steps) few v same none d e f = absurd f
solved_at n known rows narrow Neither (Point point) few v same none d e f = absurd f
solved_at n known rows narrow Neither (NotSimple variable) few v same none d e f = f ∙ e

-- ---- row after row

pub joined_more_rows : (old now next : LinearSystem) (rows : List Row) (i : ℕ) (row : Row) → i < length rows → row ≡ get_or rows i row → (now.variables ≡ old.variables) × (joined now.rows (drop i rows) ≡ joined old.rows rows) → next ≡ system_of now.variables (joined now.rows (row ∷ [])) → (next.variables ≡ old.variables) × (joined next.rows (drop (i + 1) rows) ≡ joined old.rows rows)
joined_more_rows old now next rows i row l b p e = (
  ap (λ (s : LinearSystem). s.variables) e ∙ p.0,
  ap (λ (s : LinearSystem). joined s.rows (drop (i + 1) rows)) e
      ∙ ap (λ (r : Row). joined (joined now.rows (r ∷ [])) (drop (i + 1) rows)) b
      ∙ sym (ap (joined now.rows) (drop_more rows i row l))
      ∙ p.1,
)

pub joined_all_rows : (old now : LinearSystem) (rows : List Row) (i : ℕ) → length rows ≤ i → (now.variables ≡ old.variables) × (joined now.rows (drop i rows) ≡ joined old.rows rows) → now ≡ system_of old.variables (joined old.rows rows)
joined_all_rows old now rows i l p = ap (λ (n : ℕ). system_of n now.rows) p.0 ∙ ap (system_of old.variables) (ap (joined now.rows) (sym (drop_all i rows l)) ∙ p.1)

-- ---- unit rows

zeros_small : (n k : ℕ) → 0 < k → AllBelow k (replicate n (pos 0))
zeros_small zero k h = All-nil (λ z. unsigned_abs z < k)
zeros_small (suc n) k h = All-cons (λ z. unsigned_abs z < k) (pos 0) (replicate n (pos 0)) h (zeros_small n k h)

unit_small : (n x k : ℕ) (a : ℤ) → 0 < k → unsigned_abs a < k → AllBelow k (unit n x a)
unit_small zero x k a p h = All-nil (λ z. unsigned_abs z < k)
unit_small (suc n) zero k a p h = All-cons (λ z. unsigned_abs z < k) a (replicate n (pos 0)) h (zeros_small n k p)
unit_small (suc n) (suc x) k a p h = All-cons (λ z. unsigned_abs z < k) (pos 0) (unit n x a) p (unit_small n x k a p h)

pub unit_fits : (n m x : ℕ) (a least : ℤ) (row : Row) → n ≡ m → unsigned_abs a < 2 ^ 20 → unsigned_abs least < 2 ^ 100 → row ≡ unit_row n x a least → FitsSystem m row
unit_fits n m x a least row e h l r = subst (FitsSystem m) (sym r) (subst (λ (k : ℕ). FitsSystem k (unit_row n x a least)) e (length-unit n x a, (unit_small n x (2 ^ 20) a (omega arith) h, l)))
