use Rattle.std.proofs.Common.{◌≡◌, refl, sym, ap, subst, ◌∙◌, ℕ, ◌+◌, ◌-◌, ◌<◌, ◌≤◌, List, Bool, true, false, pos, negsuc, Option, Some, suc, ℤ, arith}
use Rattle.std.specs.List.{list_all, list_any}
use Rattle.std.specs.Option.{MatchOption}
use Rattle.rx_linear.specs.Joining.{has_no_variable}
use Rattle.rx_linear.specs.Units.{is_unit_row}
use Rattle.rx_shadow.specs.declared.known.Known.{Known}
use Rattle.rx_shadow.specs.declared.known.Derived.{Derived}
use Rattle.rx_shadow.specs.declared.eliminating.Elimination.{Elimination}
use Rattle.rx_shadow.specs.declared.solving.Solved.TheVariants.{NotSimple}
use Rattle.rx_shadow.specs.Bounds.{IsBounded}
use Rattle.rx_shadow.specs.Simple.{Outcome, clashes, is_exact, greatest_below, eliminated, within_limits, outcome_in, IsTested}
use Rattle.rx_shadow.specs.Known.{rows_of, AllFit}
use Rattle.rx_shadow.specs.Derivations.{IsClosing, Eliminates}
use Rattle.rx_shadow.specs.Solving.{IsFound, IsClosedBy, IsOrigin, CanPlace, IsPlaced}
use Rattle.rx_shadow.proofs.Exactness.{all_rows}
use Rattle.rx_shadow.proofs.Initial.{if_ok}
use Rattle.rx_shadow.proofs.Leaving.{lower_has, upper_has}
use Rattle.rx_shadow.proofs.Points.{below_found, bounded_eliminated}
use Rattle.rx_shadow.proofs.Outcomes.{outcome_clash, outcome_true, outcome_none, outcome_last, outcome_passed, outcome_next}
use Rattle.rx_shadow.proofs.Rounds.{found_clash, found_origin, leaving_bounded, can_place, found_back}
use Rattle.rx_shadow.proofs.solving.+search.Goals as goal

pub search-returns-in-Some : goal.search-returns-in-Some
search-returns-in-Some t c =
    let d = c.deref.ensures.value in
    let e : clashes c.args.rows.variables (rows_of c.args.rows.known.items) ≡ true = ap (λ (ks : List Known). clashes c.args.rows.variables (rows_of ks)) (sym d) ∙ c.in-Some.ensures.0 in
    let closing : IsClosing c.args.rows.known.items c.in-Some.step = subst (λ (ks : List Known). IsClosing ks c.in-Some.step) d c.in-Some.ensures.1 in
    if_ok c.closed.result (λ solved. IsClosedBy c.args.rows.steps.items c.in-Some.step solved) (λ solved. IsFound c.args.rounds c.args.narrow c.args.rows (outcome_in c.args.rows.variables c.args.rounds (rows_of c.args.rows.known.items)) solved)
    (λ solved by. subst (λ (o : Outcome). IsFound c.args.rounds c.args.narrow c.args.rows o solved) (sym (outcome_clash c.args.rows.variables c.args.rounds (rows_of c.args.rows.known.items) e)) (found_clash c.args.rounds c.args.narrow c.args.rows c.in-Some.step solved closing by))
    c.closed.ensures

pub search-returns-then-are_plain : goal.search-returns-then-are_plain
search-returns-then-are_plain t c =
    let n : clashes c.args.rows.variables (rows_of c.args.rows.known.items) ≡ false = ap (λ (ks : List Known). clashes c.args.rows.variables (rows_of ks)) (sym c.deref.ensures.value) ∙ c.in_default.ensures in
    let p : list_all has_no_variable (rows_of c.args.rows.known.items) ≡ true =
    all_rows has_no_variable c.args.rows.known.items ∙ ap (λ (ks : List Known). list_all (λ k. has_no_variable k.row) ks) (sym c.deref-2.ensures.value) ∙ sym c.are_plain.ensures ∙ c.if-are_plain.true in
    if_ok c.origin.result (λ solved. IsOrigin c.args.rows.variables solved) (λ solved. IsFound c.args.rounds c.args.narrow c.args.rows (outcome_in c.args.rows.variables c.args.rounds (rows_of c.args.rows.known.items)) solved)
    (λ solved o. subst (λ (a : Outcome). IsFound c.args.rounds c.args.narrow c.args.rows a solved) (sym (outcome_true c.args.rows.variables c.args.rounds (rows_of c.args.rows.known.items) n p)) (found_origin c.args.rounds c.args.narrow c.args.rows solved n p o))
    c.origin.ensures

tested : (n : ℕ) (known d1 d2 d3 : List Known) (plain : Bool) (found : Option ℕ) → d1 ≡ known → d2 ≡ known → d3 ≡ known → clashes n (rows_of d1) ≡ false → plain ≡ list_all (λ k. has_no_variable k.row) d2 → plain ≡ false → found ≡ greatest_below (is_exact (rows_of d3)) n → IsTested n (rows_of known) found
tested n known d1 d2 d3 plain found e1 e2 e3 nc p f g = record {
  no_clash = ap (λ (ks : List Known). clashes n (rows_of ks)) (sym e1) ∙ nc;
  not_plain = all_rows has_no_variable known ∙ ap (λ (ks : List Known). list_all (λ k. has_no_variable k.row) ks) (sym e2) ∙ sym p ∙ f;
  greatest = ap (λ (ks : List Known). greatest_below (is_exact (rows_of ks)) n) (sym e3) ∙ sym g;
}

pub search-returns-in_default-greatest_exact : goal.search-returns-in_default-greatest_exact
search-returns-in_default-greatest_exact t c =
    let k = tested c.args.rows.variables c.args.rows.known.items c.deref.result.now c.deref-2.result.now c.deref-3.result.now c.are_plain.result c.greatest_exact.result c.deref.ensures.value c.deref-2.ensures.value c.deref-3.ensures.value c.in_default.ensures c.are_plain.ensures c.if-are_plain.false c.greatest_exact.ensures in
    subst (λ (o : Outcome). IsFound c.args.rounds c.args.narrow c.args.rows o (NotSimple c.args.narrow)) (sym (outcome_none c.args.rows.variables c.args.rounds (rows_of c.args.rows.known.items) k.no_clash k.not_plain (k.greatest ∙ c.in_default-greatest_exact.is))) refl

pub search-search_exact-requires : goal.search-search_exact-requires
search-search_exact-requires t c =
    let k = tested c.args.rows.variables c.args.rows.known.items c.deref.result.now c.deref-2.result.now c.deref-3.result.now c.are_plain.result c.greatest_exact.result c.deref.ensures.value c.deref-2.ensures.value c.deref-3.ensures.value c.in_default.ensures c.are_plain.ensures c.if-are_plain.false c.greatest_exact.ensures in (
      omega (arith, c.decreases),
      (
        c.requires.few_variables,
        (
          c.requires.fits,
          (
            c.requires.few_given,
            (
              c.requires.few_steps,
              (
                c.requires.lower,
                (
                  c.requires.upper,
                  subst (IsTested c.args.rows.variables (rows_of c.args.rows.known.items)) c.in-Some-greatest_exact.is k,
                ),
              ),
            ),
          ),
        ),
      ),
    )

-- ---- the greatest exact variable is eliminated

pub search_exact-returns-then-rounds-eq0 : goal.search_exact-returns-then-rounds-eq0
search_exact-returns-then-rounds-eq0 t c =
    let k = c.requires.tested in
    subst (λ (o : Outcome). IsFound c.args.rounds c.args.narrow c.args.rows o (NotSimple c.args.narrow))
    (sym (ap (λ (r : ℕ). outcome_in c.args.rows.variables r (rows_of c.args.rows.known.items)) c.if-rounds-eq0.true ∙ outcome_last c.args.rows.variables (rows_of c.args.rows.known.items) c.args.variable k.no_clash k.not_plain k.greatest)) refl

pub search_exact-eliminate-requires-clause-variable : goal.search_exact-eliminate-requires-clause-variable
search_exact-eliminate-requires-clause-variable t c =
    let k = c.requires.tested in
    (below_found (is_exact (rows_of c.args.rows.known.items)) c.args.rows.variables c.args.variable k.greatest).0

pub search_exact-returns-in_default : goal.search_exact-returns-in_default
search_exact-returns-in_default t c =
    let k = c.requires.tested in
    let x = c.args.variable in
    let passed : within_limits (eliminated c.args.rows.variables x (rows_of c.args.rows.known.items)) ≡ false =
    subst (λ (o : Option Elimination). MatchOption o (within_limits (eliminated c.args.rows.variables x (rows_of c.args.rows.known.items)) ≡ false) (λ e. Eliminates x c.args.rows e.leaving.items e.next)) c.in_default.is c.in_ok-elimination.ensures in
    subst (λ (o : Outcome). IsFound c.args.rounds c.args.narrow c.args.rows o (NotSimple c.args.narrow)) (sym (outcome_passed c.args.rows.variables c.args.rounds (rows_of c.args.rows.known.items) x k.no_clash k.not_plain k.greatest passed)) refl

eliminates : (x : ℕ) (rows : Derived) (o : Option Elimination) (e : Elimination) → MatchOption o (within_limits (eliminated rows.variables x (rows_of rows.known.items)) ≡ false) (λ e. Eliminates x rows e.leaving.items e.next) → o ≡ Some e → Eliminates x rows e.leaving.items e.next
eliminates x rows o e m is = subst (λ (o : Option Elimination). MatchOption o (within_limits (eliminated rows.variables x (rows_of rows.known.items)) ≡ false) (λ e. Eliminates x rows e.leaving.items e.next)) is m

pub search_exact-search-requires : goal.search_exact-search-requires
search_exact-search-requires t c =
    let e = eliminates c.args.variable c.args.rows c.in_ok-elimination.field-0 c.in-Some.elimination c.in_ok-elimination.ensures c.in-Some.is in
    let below = below_found (is_exact (rows_of c.args.rows.known.items)) c.args.rows.variables c.args.variable c.requires.tested.greatest in
    let P : ℕ → Type 0 = λ n. n ≤ 192 in
    let bounded : (a : ℤ) → IsBounded a c.args.rows.variables (rows_of c.args.rows.known.items) → IsBounded a c.in-Some.elimination.next.variables (rows_of c.in-Some.elimination.next.known.items) = λ a b.
    subst (λ (n : ℕ). IsBounded a n (rows_of c.in-Some.elimination.next.known.items)) (sym e.same_variables)
    (subst (IsBounded a c.args.rows.variables) (sym e.reached) (bounded_eliminated a c.args.rows.variables c.args.variable (rows_of c.args.rows.known.items) below.0 b)) in
    let few_steps = e.few_steps in
    let not_zero = c.if-rounds-eq0.false in
    let before = c.requires.few_steps in (
      omega (arith, c.decreases, not_zero),
      (
        subst P (sym e.same_variables) c.requires.few_variables,
        (
          subst (λ (n : ℕ). AllFit n c.in-Some.elimination.next.known.items) (sym e.same_variables) e.fits,
          (
            subst (λ (n : ℕ). n < 1152921504606846976) (sym e.same_given) c.requires.few_given,
            (
              omega (arith, few_steps, not_zero, before),
              (
                bounded (pos 1) c.requires.lower,
                bounded (negsuc 0) c.requires.upper,
              ),
            ),
          ),
        ),
      ),
    )

pub search_exact-with_value-requires-clause-lower : goal.search_exact-with_value-requires-clause-lower
search_exact-with_value-requires-clause-lower t c =
    let e = eliminates c.args.variable c.args.rows c.in_ok-elimination.field-0 c.in-Some.elimination c.in_ok-elimination.ensures c.in-Some.is in
    let below = below_found (is_exact (rows_of c.args.rows.known.items)) c.args.rows.variables c.args.variable c.requires.tested.greatest in
    ap (λ (ks : List Known). list_any (is_unit_row c.args.variable (pos 1)) (rows_of ks)) c.deref.ensures.value
    ∙ leaving_bounded (pos 1) c.args.rows.variables c.args.variable c.args.rows c.in-Some.elimination.leaving.items c.in-Some.elimination.next (lower_has c.args.variable) below.0 c.requires.lower below.1 e

pub search_exact-with_value-requires-clause-upper : goal.search_exact-with_value-requires-clause-upper
search_exact-with_value-requires-clause-upper t c =
    let e = eliminates c.args.variable c.args.rows c.in_ok-elimination.field-0 c.in-Some.elimination c.in_ok-elimination.ensures c.in-Some.is in
    let below = below_found (is_exact (rows_of c.args.rows.known.items)) c.args.rows.variables c.args.variable c.requires.tested.greatest in
    ap (λ (ks : List Known). list_any (is_unit_row c.args.variable (negsuc 0)) (rows_of ks)) c.deref.ensures.value
    ∙ leaving_bounded (negsuc 0) c.args.rows.variables c.args.variable c.args.rows c.in-Some.elimination.leaving.items c.in-Some.elimination.next (upper_has c.args.variable) below.0 c.requires.upper below.1 e

pub search_exact-with_value-requires-clause-possible : goal.search_exact-with_value-requires-clause-possible
search_exact-with_value-requires-clause-possible t c =
    let e = eliminates c.args.variable c.args.rows c.in_ok-elimination.field-0 c.in-Some.elimination c.in_ok-elimination.ensures c.in-Some.is in
    let below = below_found (is_exact (rows_of c.args.rows.known.items)) c.args.rows.variables c.args.variable c.requires.tested.greatest in
    subst (λ (ks : List Known). CanPlace c.args.variable ks c.in_ok-solved.solved) (sym c.deref.ensures.value)
    (can_place (c.args.rounds - 1) c.args.narrow c.args.variable c.args.rows c.in-Some.elimination.leaving.items c.in-Some.elimination.next (outcome_in c.in-Some.elimination.next.variables (c.args.rounds - 1) (rows_of c.in-Some.elimination.next.known.items)) c.in_ok-solved.solved c.requires.few_variables below.0 c.requires.fits c.requires.lower below.1 e c.in_ok-solved.ensures)

pub search_exact-returns : goal.search_exact-returns
search_exact-returns t c =
    let e = eliminates c.args.variable c.args.rows c.in_ok-elimination.field-0 c.in-Some.elimination c.in_ok-elimination.ensures c.in-Some.is in
    let below = below_found (is_exact (rows_of c.args.rows.known.items)) c.args.rows.variables c.args.variable c.requires.tested.greatest in
    let k = c.requires.tested in
    let x = c.args.variable in
    let n = c.args.rows.variables in
    let rows = rows_of c.args.rows.known.items in
    let next = c.in-Some.elimination.next in
    let not_zero = c.if-rounds-eq0.false in
    let one_more : c.args.rounds ≡ c.args.rounds - 1 + 1 = omega (arith, not_zero) in
    let successor : c.args.rounds ≡ suc (c.args.rounds - 1) = omega (arith, not_zero) in
    let within : within_limits (eliminated n x rows) ≡ true = ap within_limits (sym e.reached) ∙ e.within in
    let same : outcome_in n c.args.rounds rows ≡ outcome_in next.variables (c.args.rounds - 1) (rows_of next.known.items) =
    ap (λ (r : ℕ). outcome_in n r rows) successor
    ∙ outcome_next n (c.args.rounds - 1) rows x k.no_clash k.not_plain k.greatest within
    ∙ ap (outcome_in n (c.args.rounds - 1)) (sym e.reached)
    ∙ ap (λ (m : ℕ). outcome_in m (c.args.rounds - 1) (rows_of next.known.items)) (sym e.same_variables) in
    subst (λ (o : Outcome). IsFound c.args.rounds c.args.narrow c.args.rows o c.with_value.result) (sym same)
    (found_back c.args.rounds c.args.narrow (c.args.rounds - 1) x c.args.rows c.in-Some.elimination.leaving.items next (outcome_in next.variables (c.args.rounds - 1) (rows_of next.known.items)) c.in_ok-solved.solved c.with_value.result one_more below.0 e c.in_ok-solved.ensures
    (subst (λ (ks : List Known). IsPlaced x ks c.in_ok-solved.solved c.with_value.result) c.deref.ensures.value c.with_value.ensures))
