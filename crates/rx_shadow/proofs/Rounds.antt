-- From what a round finds, and from what the rounds after it find, to the answer for its rows.
use Rattle.std.proofs.Common.{◌≡◌, refl, sym, ap, subst, ◌∙◌, ℕ, ◌+◌, ◌-◌, ◌<◌, ◌≤◌, ◌^◌, List, [], ◌∷◌, ◌++◌, drop, set, length, replicate, Bool, true, false, cond, not, ◌||◌, ℤ, pos, unsigned_abs, Option, Some, inl, inr, arith, length-append, Vec, Global}
use Rattle.std.specs.List.{list_all, list_any, filter}
use Rattle.std.specs.Ordering.{int_eq}
use Rattle.std.proofs.lemmas.List.{length-set, length-replicate, drop_at}
use Rattle.std.proofs.lemmas.List.Elements.{All-filter, All-replicate, All-same}
use Rattle.rx_linear.specs.declared.row.Row.{Row}
use Rattle.rx_linear.specs.declared.step.Step.{Step}
use Rattle.rx_linear.specs.Systems.{LinearSystem, FitsSystem}
use Rattle.rx_linear.specs.Joining.{holds, all_hold, has_no_variable, is_false, joined}
use Rattle.rx_linear.specs.Steps.{rows_after, step_gives, last_is_false, if_some, closes}
use Rattle.rx_linear.specs.Units.{coefficient, is_unit_row}
use Rattle.rx_linear.proofs.Joining.{both, and_true, joined_holds}
use Rattle.rx_linear.proofs.Closing.{closes_sound}
use Rattle.rx_shadow.specs.declared.known.Known.{Known}
use Rattle.rx_shadow.specs.declared.known.Derived.{Derived}
use Rattle.rx_shadow.specs.declared.solving.Solved.{Solved}
use Rattle.rx_shadow.specs.declared.solving.Solved.TheVariants.{Point, Closed, NotSimple}
use Rattle.rx_shadow.specs.Bounds.{IsBounded, fixed_value, narrowest}
use Rattle.rx_shadow.specs.Simple.{Outcome, Clash, TrueRows, Neither, clashes, has, has_unit_pairs, without, is_exact, eliminated, replaced}
use Rattle.rx_shadow.specs.Known.{rows_of, AllFit}
use Rattle.rx_shadow.specs.Derivations.{IsDerived, IsClosing, Eliminates}
use Rattle.rx_shadow.specs.Joined.{IsSolvedAt}
use Rattle.rx_shadow.specs.Solving.{IsFound, IsPlaced, CanPlace, IsClosedBy, IsOrigin, IsSolved, IfClosed, HasNoPoint}
use Rattle.rx_shadow.proofs.Derivations.{rows_after-push, step_at_rows}
use Rattle.rx_shadow.proofs.Leaving.{rows_of_filter}
use Rattle.rx_shadow.proofs.Points.{all_filtered, any_filtered, not_both, no_clash, plain_hold, has_positive}
use Rattle.rx_shadow.proofs.Values.{joined_back, zero_row, eliminated_back}
use Rattle.std.specs.Option.{is_some}

-- ---- a step that closes

last_row : (rows : List Row) (row : Row) → is_false row ≡ true → last_is_false (rows ++ row ∷ []) ≡ true
last_row rows row f =
    let n : length (rows ++ row ∷ []) - 1 ≡ length rows = omega (arith, length-append rows (row ∷ [])) in
    ap (λ (m : ℕ). list_any is_false (drop m (rows ++ row ∷ []))) n
    ∙ ap (list_any is_false) (drop_at rows (row ∷ []) (length rows) refl)
    ∙ ap (λ (b : Bool). b || false) f

closes_push : (given : List Row) (steps : List Step) (step : Step) (rows : List Row) (row : Row) → rows_after given steps ≡ Some rows → step_gives rows step ≡ Some row → is_false row ≡ true → closes given (steps ++ step ∷ []) ≡ true
closes_push given [] step rows row e s f =
    ap (λ (o : Option (List Row)). if_some o last_is_false) (rows_after-push given [] step rows row e s) ∙ last_row rows row f
closes_push given (first ∷ steps) step rows row e s f =
    ap (λ (o : Option (List Row)). if_some o last_is_false) (rows_after-push given (first ∷ steps) step rows row e s) ∙ last_row rows row f

pub found_clash : (rounds narrow : ℕ) (rows : Derived) (step : Step) (solved : Solved) → IsClosing rows.known.items step → IsClosedBy rows.steps.items step solved → IsFound rounds narrow rows Clash solved
found_clash rounds narrow rows step (Point point) c by = absurd by
found_clash rounds narrow rows step (NotSimple variable) c by = absurd by
found_clash rounds narrow rows step (Closed steps) c by = (
  omega (arith, ap length by, length-append rows.steps.items (step ∷ [])),
  λ given d.
      let r = c given rows.given rows.steps.items d in
      ap (closes given) by ∙ closes_push given rows.steps.items step d.taken.0 r.0 d.taken.1 (step_at_rows given rows.steps.items d.taken.0 step r.0 d.taken.1 r.1) r.2,
)

pub origin_at : (n : ℕ) (rows : List Row) (solved : Solved) → clashes n rows ≡ false → list_all has_no_variable rows ≡ true → IsOrigin n solved → IsSolvedAt n rows TrueRows solved
origin_at n rows (Closed steps) c h o = absurd o
origin_at n rows (NotSimple variable) c h o = absurd o
origin_at n rows (Point point) c h o = record {
  whole = ap length o ∙ length-replicate n (pos 0);
  small = All-same (λ z. unsigned_abs z < 2 ^ 100) point.items (replicate n (pos 0)) o (All-replicate (λ z. unsigned_abs z < 2 ^ 100) n (pos 0) (omega arith));
  holds = ap (λ (p : List ℤ). all_hold p rows) o ∙ plain_hold (replicate n (pos 0)) rows (no_clash n rows c) h;
}

pub found_origin : (rounds narrow : ℕ) (rows : Derived) (solved : Solved) → clashes rows.variables (rows_of rows.known.items) ≡ false → list_all has_no_variable (rows_of rows.known.items) ≡ true → IsOrigin rows.variables solved → IsFound rounds narrow rows TrueRows solved
found_origin rounds narrow rows (Closed steps) c h o = absurd o
found_origin rounds narrow rows (NotSimple variable) c h o = absurd o
found_origin rounds narrow rows (Point point) c h o = origin_at rows.variables (rows_of rows.known.items) (Point point) c h o

-- ---- the rows without the variable hold whatever its number

pub with_both : (x : ℕ) (v : ℤ) (rows : List Row) (p : List ℤ) → x < length p → all_hold p (without x rows) ≡ true → all_hold (set p x v) (filter (has x) rows) ≡ true → all_hold (set p x v) rows ≡ true
with_both x v [] p l hw hv = refl
with_both x v (row ∷ rows) p l hw hv = by_test (int_eq (coefficient x row) (pos 0)) refl hw hv (with_both x v rows p l)
  where
    by_test : (b : Bool) → int_eq (coefficient x row) (pos 0) ≡ b → all_hold p (cond b (row ∷ without x rows) (without x rows)) ≡ true → all_hold (set p x v) (cond (not b) (row ∷ filter (has x) rows) (filter (has x) rows)) ≡ true → (all_hold p (without x rows) ≡ true → all_hold (set p x v) (filter (has x) rows) ≡ true → all_hold (set p x v) rows ≡ true) → all_hold (set p x v) (row ∷ rows) ≡ true
    by_test true e hw hv rest =
        let parts = both {a = holds p row} {b = all_hold p (without x rows)} hw in
        and_true (zero_row x v row p l e parts.0) (rest parts.1 hv)
    by_test false e hw hv rest =
        let parts = both {a = holds (set p x v) row} {b = all_hold (set p x v) (filter (has x) rows)} hv in
        and_true parts.0 (rest hw parts.1)

leaving_rows : (x : ℕ) (rows : Derived) (leaving : List Known) (next : Derived) → Eliminates x rows leaving next → rows_of leaving ≡ filter (has x) (rows_of rows.known.items)
leaving_rows x rows leaving next e = ap rows_of e.left ∙ rows_of_filter (has x) rows.known.items

-- the leaving rows have both unit rows of an exact variable
pub leaving_bounded : (a : ℤ) (n x : ℕ) (rows : Derived) (leaving : List Known) (next : Derived) → ((row : Row) → is_unit_row x a row ≡ true → has x row ≡ true) → x < n → IsBounded a n (rows_of rows.known.items) → is_exact (rows_of rows.known.items) x ≡ true → Eliminates x rows leaving next → list_any (is_unit_row x a) (rows_of leaving) ≡ true
leaving_bounded a n x rows leaving next f hx b ex e =
    let occurs = (both {a = list_any (has x) (rows_of rows.known.items)} {b = is_some (fixed_value x (rows_of rows.known.items)) || has_unit_pairs x (rows_of rows.known.items)} ex).0 in
    ap (list_any (is_unit_row x a)) (leaving_rows x rows leaving next e)
    ∙ elim (b x hx) [
      | inl z ↦ absurd (not_both x (rows_of rows.known.items) z occurs)
      | inr u ↦ any_filtered (is_unit_row x a) (has x) (rows_of rows.known.items) f u
    ]

-- ---- back from the rounds after this one

pub can_place : (rounds narrow x : ℕ) (rows : Derived) (leaving : List Known) (next : Derived) (o : Outcome) (solved : Solved) → rows.variables ≤ 192 → x < rows.variables → AllFit rows.variables rows.known.items → IsBounded (pos 1) rows.variables (rows_of rows.known.items) → is_exact (rows_of rows.known.items) x ≡ true → Eliminates x rows leaving next → IsFound rounds narrow next o solved → CanPlace x leaving solved
can_place rounds narrow x rows leaving next o (Closed steps) few hx fit b ex e f = tt
can_place rounds narrow x rows leaving next o (NotSimple variable) few hx fit b ex e f = tt
can_place rounds narrow x rows leaving next Clash (Point point) few hx fit b ex e f = absurd f
can_place rounds narrow x rows leaving next Neither (Point point) few hx fit b ex e f = absurd f
can_place rounds narrow x rows leaving next TrueRows (Point point) few hx fit b ex e f =
    let whole : length point.items ≡ rows.variables = f.whole ∙ e.same_variables in
    let l : x < length point.items = omega (arith, whole, hx) in
    let holds_next : all_hold point.items (eliminated rows.variables x (rows_of rows.known.items)) ≡ true = ap (all_hold point.items) (sym e.reached) ∙ f.holds in
    let back = eliminated_back rows.variables x (rows_of rows.known.items) point.items hx l ex (has_positive rows.variables x (rows_of rows.known.items) hx b ex) holds_next in (
      l,
      omega (arith, whole, few),
      subst (λ (m : ℕ). AllFit m leaving) (sym whole) (All-same (λ k. FitsSystem rows.variables k.row) leaving (filter (λ k. has x k.row) rows.known.items) e.left (All-filter (λ k. has x k.row) (λ k. FitsSystem rows.variables k.row) rows.known.items fit)),
      f.small,
      (back.0, ap (all_hold (set point.items x back.0)) (leaving_rows x rows leaving next e) ∙ all_filtered (holds (set point.items x back.0)) (has x) (rows_of rows.known.items) back.1),
    )

closed_back : (rounds narrow k x : ℕ) (rows : Derived) (leaving : List Known) (next : Derived) (steps : Vec Step Global) → rounds ≡ k + 1 → Eliminates x rows leaving next → IsFound k narrow next Clash (Closed steps) → IsFound rounds narrow rows Clash (Closed steps)
closed_back rounds narrow k x rows leaving next steps r e f =
    ((let a = f.0 in let b = e.few_steps in omega (arith, a, b, r)), λ given d. f.1 given (e.derived given d))

pub found_back : (rounds narrow k x : ℕ) (rows : Derived) (leaving : List Known) (next : Derived) (o : Outcome) (solved placed : Solved) → rounds ≡ k + 1 → x < rows.variables → Eliminates x rows leaving next → IsFound k narrow next o solved → IsPlaced x leaving solved placed → IsFound rounds narrow rows o placed
found_back rounds narrow k x rows leaving next Clash (Closed steps) placed r hx e f p = subst (IsFound rounds narrow rows Clash) (sym p) (closed_back rounds narrow k x rows leaving next steps r e f)
found_back rounds narrow k x rows leaving next Clash (Point point) placed r hx e f p = absurd f
found_back rounds narrow k x rows leaving next Clash (NotSimple variable) placed r hx e f p = absurd f
found_back rounds narrow k x rows leaving next TrueRows (Closed steps) placed r hx e f p = absurd f
found_back rounds narrow k x rows leaving next TrueRows (NotSimple variable) placed r hx e f p = absurd f
found_back rounds narrow k x rows leaving next TrueRows (Point point) (Closed steps) r hx e f p = absurd p
found_back rounds narrow k x rows leaving next TrueRows (Point point) (NotSimple variable) r hx e f p = absurd p
found_back rounds narrow k x rows leaving next TrueRows (Point point) (Point placed) r hx e f p =
    let whole : length point.items ≡ rows.variables = f.whole ∙ e.same_variables in
    let l : x < length point.items = omega (arith, whole, hx) in
    let holds_next : all_hold point.items (eliminated rows.variables x (rows_of rows.known.items)) ≡ true = ap (all_hold point.items) (sym e.reached) ∙ f.holds in
    let back = joined_back point.items (without x (rows_of rows.known.items)) (replaced rows.variables x (rows_of rows.known.items) (fixed_value x (rows_of rows.known.items))) holds_next in
    let leave : all_hold (set point.items x p.0) (filter (has x) (rows_of rows.known.items)) ≡ true =
    ap (all_hold (set point.items x p.0)) (sym (leaving_rows x rows leaving next e)) ∙ ap (λ (q : List ℤ). all_hold q (rows_of leaving)) (sym p.1) ∙ p.3 in
    record {
      whole = ap length p.1 ∙ length-set point.items x p.0 ∙ whole;
      small = p.2;
      holds = ap (λ (q : List ℤ). all_hold q (rows_of rows.known.items)) p.1 ∙ with_both x p.0 (rows_of rows.known.items) point.items l back.0 leave;
    }
found_back rounds narrow k x rows leaving next Neither (Closed steps) placed r hx e f p = absurd f
found_back rounds narrow k x rows leaving next Neither (Point point) placed r hx e f p = absurd f
found_back rounds narrow k x rows leaving next Neither (NotSimple variable) placed r hx e f p = subst (IsFound rounds narrow rows Neither) (sym p) f

-- ---- the answer for a system

pub solved_from : (system : LinearSystem) (rows : Derived) (narrow : ℕ) (o : Outcome) (solved : Solved) → system.variables ≤ 192 → rows.variables ≡ system.variables → rows_of rows.known.items ≡ joined [] system.rows → rows.steps.items ≡ [] → IsDerived (joined [] system.rows) rows.given rows.steps.items rows.known.items → narrow ≡ narrowest system.variables (joined [] system.rows) → IsFound system.variables narrow rows o solved → IsSolved system o solved
solved_from system rows narrow Clash (Closed steps) few n same none d e f = ((let a = f.0 in omega (arith, a, ap length none, few)), f.1 (joined [] system.rows) d)
solved_from system rows narrow Clash (Point point) few n same none d e f = absurd f
solved_from system rows narrow Clash (NotSimple variable) few n same none d e f = absurd f
solved_from system rows narrow TrueRows (Closed steps) few n same none d e f = absurd f
solved_from system rows narrow TrueRows (NotSimple variable) few n same none d e f = absurd f
solved_from system rows narrow TrueRows (Point point) few n same none d e f = record {
  whole = f.whole ∙ n;
  small = f.small;
  holds = (joined_back point.items [] system.rows (ap (all_hold point.items) (sym same) ∙ f.holds)).1;
}
solved_from system rows narrow Neither (Closed steps) few n same none d e f = absurd f
solved_from system rows narrow Neither (Point point) few n same none d e f = absurd f
solved_from system rows narrow Neither (NotSimple variable) few n same none d e f = f ∙ e

pub closed_excludes : (system : LinearSystem) (o : Outcome) (solved : Solved) → IsSolved system o solved → IfClosed solved (HasNoPoint system)
closed_excludes system o (Point point) s = tt
closed_excludes system o (NotSimple variable) s = tt
closed_excludes system Clash (Closed steps) s = λ point h. closes_sound point (joined [] system.rows) steps.items s.1 (joined_holds point [] system.rows refl h)
closed_excludes system TrueRows (Closed steps) s = absurd s
closed_excludes system Neither (Closed steps) s = absurd s
