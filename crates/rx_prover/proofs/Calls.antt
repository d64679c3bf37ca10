-- What each step of the walk owes its callers, over plain variables.
use Rattle.std.proofs.Common.{◌≡◌, refl, sym, ap, ◌∙◌, subst, ℕ, ◌-◌, ◌<◌, ◌≤◌, ◌^◌, arith, List, [], ◌∷◌, true, false, nat_lt, ℤ, pos, ◌+ℤ◌, ◌-ℤ◌, unsigned_abs, FitsSigned, to_z, of_z, length, inl, inr, Vec, Global}
use Rattle.std.specs.Int.{w128}
use Rattle.std.proofs.lemmas.Int.{ints, to_z-of_z}
use Rattle.rx_linear.specs.declared.row.Row.{Row}
use Rattle.rx_linear.specs.declared.step.Step.{Step}
use Rattle.rx_linear.specs.Steps.{closes}
use Rattle.rx_linear.specs.Systems.{LinearSystem, IsWithinLimits}
use Rattle.rx_linear.specs.Units.{unit_row, at_most}
use Rattle.rx_linear.proofs.Joining.{and_true}
use Rattle.rx_proof.specs.declared.query.Query.{Query}
use Rattle.rx_proof.specs.declared.proof.Proof.{Proof, Close}
use Rattle.rx_proof.specs.Acceptance.{Node, with_row}
use Rattle.rx_shadow.specs.declared.solving.Solved.TheVariants as solved
use Rattle.rx_shadow.specs.Bounds.{HasUnitRows, narrowest, middle}
use Rattle.rx_shadow.specs.Simple.{Outcome, Clash, TrueRows, Neither, outcome, clashes}
use Rattle.rx_shadow.specs.Solving.{IsPoint}
use Rattle.rx_shadow.specs.Joined.{IsSolvedAt}
use Rattle.rx_prover.specs.declared.walked.Walked.{Walked}
use Rattle.rx_prover.specs.declared.walked.Walked.TheVariants.{Closed, Found, Unfinished}
use Rattle.rx_prover.specs.Walk.{Cases, Halves, kind, walk_from}
use Rattle.rx_prover.specs.Walked.{node_of, Goes, IsLowerDone}
use Rattle.rx_prover.proofs.Ends.{kind_empty, kind_else, kind_leaf, same_never_past, IsPast}
use Rattle.rx_prover.specs.declared.tree.OpenTree as tree
use Rattle.rx_prover.proofs.Leaves.{goes_closed, goes_found, goes_stopped}
use Rattle.rx_prover.proofs.Middles.{Between, between, middle_small, upper_within, narrowest_below, some_variable}

-- ---- leaves

pub goes_clash : (node : Node) (splits : ℕ) (step : Step) (proof : Proof) → clashes node.variables node.rows ≡ true → closes node.rows (step ∷ []) ≡ true → proof ≡ Close (step ∷ []) → Goes node splits (Closed proof splits)
goes_clash node splits step proof c s e = goes_closed node splits (step ∷ []) proof (kind_empty node c) s (omega arith) e

closed_is : (n : ℕ) (rows : List Row) (o : Outcome) (steps : Vec Step Global) → IsSolvedAt n rows o (solved.Closed steps) → (o ≡ Clash) × (length steps.items ≤ 524288) × (closes rows steps.items ≡ true)
closed_is n rows Clash steps s = (refl, s.0, s.1)
closed_is n rows TrueRows steps s = absurd s
closed_is n rows Neither steps s = absurd s

point_is : (n : ℕ) (rows : List Row) (o : Outcome) (point : Vec ℤ Global) → IsSolvedAt n rows o (solved.Point point) → (o ≡ TrueRows) × IsPoint n rows point.items
point_is n rows Clash point s = absurd s
point_is n rows TrueRows point s = (refl, s)
point_is n rows Neither point s = absurd s

pub hard_is : (n : ℕ) (rows : List Row) (o : Outcome) (variable : ℕ) → IsSolvedAt n rows o (solved.NotSimple variable) → (o ≡ Neither) × (variable ≡ narrowest n rows)
hard_is n rows Clash variable s = absurd s
hard_is n rows TrueRows variable s = absurd s
hard_is n rows Neither variable s = (refl, s)

pub leaf_closed : (s : LinearSystem) (splits : ℕ) (steps : Vec Step Global) (proof : Proof) → clashes s.variables s.rows ≡ false → IsSolvedAt s.variables s.rows (outcome s.variables s.rows) (solved.Closed steps) → proof ≡ Close steps.items → Goes (node_of s []) splits (Closed proof splits)
leaf_closed s splits steps proof c h e =
    let is = closed_is s.variables s.rows (outcome s.variables s.rows) steps h in
    goes_closed (node_of s []) splits steps.items proof (kind_leaf (node_of s []) Clash c refl is.0) is.2 is.1 e

pub leaf_found : (s : LinearSystem) (splits : ℕ) (point : Vec ℤ Global) → clashes s.variables s.rows ≡ false → IsSolvedAt s.variables s.rows (outcome s.variables s.rows) (solved.Point point) → Goes (node_of s []) splits (Found point)
leaf_found s splits point c h =
    let is = point_is s.variables s.rows (outcome s.variables s.rows) point h in
    goes_found (node_of s []) splits point (kind_leaf (node_of s []) TrueRows c refl is.0) (record { whole = is.1.whole; holds = is.1.holds; satisfies = refl })

-- ---- halvings

-- a node that halves its narrowest variable
pub record IsHard (s : LinearSystem) (x : ℕ) : Type 0 where
  pub limits : IsWithinLimits s.variables s.rows
  pub bounded : HasUnitRows s.variables s.rows
  pub apart : clashes s.variables s.rows ≡ false
  pub hard : outcome s.variables s.rows ≡ Neither
  pub narrow : x ≡ narrowest s.variables s.rows

pub variable_within : (s : LinearSystem) (x : ℕ) → IsHard s x → x < s.variables
variable_within s x h = subst (λ (y : ℕ). y < s.variables) (sym h.narrow) (narrowest_below s.variables s.rows (some_variable s.variables s.rows h.limits h.apart h.hard))

pub values_of : (s : LinearSystem) (x : ℕ) → IsHard s x → Between s.variables x s.rows
values_of s x h = between s.variables x s.rows h.limits h.bounded h.apart (variable_within s x h)

pub hard_small : (s : LinearSystem) (x : ℕ) (c : ℤ) → IsHard s x → c ≡ middle x s.rows → unsigned_abs c < 2 ^ 100
hard_small s x c h e = subst (λ (z : ℤ). unsigned_abs z < 2 ^ 100) (sym e) (middle_small s.variables x s.rows (values_of s x h))

pub hard_kind : (s : LinearSystem) (x : ℕ) (c : ℤ) → IsHard s x → c ≡ middle x s.rows → kind (node_of s []) ≡ Halves x c
hard_kind s x c h e = kind_leaf (node_of s []) Neither h.apart refl h.hard ∙ ap (λ (y : ℕ). Halves y (middle y s.rows)) (sym h.narrow) ∙ ap (Halves x) (sym e)

-- where the lower half is closed, it is another node, and the upper half is within the limits
pub upper_small : (s : LinearSystem) (x : ℕ) (c : ℤ) (less left : ℕ) (low : Proof) → IsHard s x → c ≡ middle x s.rows → Goes (with_row (node_of s []) (at_most s.variables x c)) less (Closed low left) → unsigned_abs (c +ℤ pos 1) < 2 ^ 100
upper_small s x c less left low h e g = elim (upper_within (node_of s []) x (values_of s x h) (variable_within s x h)) [
  | inl small ↦ subst (λ (z : ℤ). unsigned_abs (z +ℤ pos 1) < 2 ^ 100) (sym e) small
  | inr same ↦ (let same_node : with_row (node_of s []) (at_most s.variables x c) ≡ node_of s [] = ap (λ (z : ℤ). with_row (node_of s []) (at_most s.variables x z)) e ∙ same in
      absurd (same_never_past less (node_of s []) less x c (hard_kind s x c h e) same_node (subst (λ (n : Node). IsPast (walk_from less n less)) same_node (subst IsPast (sym (g.ends less (omega arith))) tt))))
]

less_test : (a b : ℕ) → a < b → nat_lt a b ≡ true
less_test a b h = grind (arith, h)

pub lower_done : (s : LinearSystem) (x : ℕ) (c : ℤ) (splits left : ℕ) (low : Proof) → IsHard s x → c ≡ middle x s.rows → 0 < splits → Goes (with_row (node_of s []) (at_most s.variables x c)) (splits - 1) (Closed low left) → IsLowerDone (node_of s []) x c splits low left
lower_done s x c splits left low h e p g = record {
  halves = hard_kind s x c h e;
  can = and_true (and_true (less_test x s.variables (variable_within s x h)) (less_test (unsigned_abs c) (2 ^ 100) (hard_small s x c h e))) (less_test (unsigned_abs (c +ℤ pos 1)) (2 ^ 100) (upper_small s x c (splits - 1) left low h e g));
  less = splits - 1;
  one_taken = omega (arith, p);
  ends = g.ends;
  closed = g.evidence;
}

pub moved : (s : LinearSystem) (x : ℕ) (a z w : ℤ) (splits : ℕ) (walked : Walked) → z ≡ w → Goes (with_row (node_of s []) (unit_row s.variables x a z)) splits walked → Goes (with_row (node_of s []) (unit_row s.variables x a w)) splits walked
moved s x a z w splits walked e g = subst (λ (y : ℤ). Goes (with_row (node_of s []) (unit_row s.variables x a y)) splits walked) e g

pub hard_stopped : (s : LinearSystem) (splits : ℕ) → clashes s.variables s.rows ≡ false → outcome s.variables s.rows ≡ Neither → splits ≡ 0 → Goes (node_of s []) splits (Unfinished tree.Open)
hard_stopped s splits c h z = goes_stopped (node_of s []) splits (Halves (narrowest s.variables s.rows) (middle (narrowest s.variables s.rows) s.rows)) (kind_leaf (node_of s []) Neither c refl h) refl z

pub case_stopped : (s : LinearSystem) (either others : List (List Query)) (branches : List Query) (splits : ℕ) → clashes s.variables s.rows ≡ false → either ≡ branches ∷ others → splits ≡ 0 → Goes (node_of s either) splits (Unfinished tree.Open)
case_stopped s either others branches splits c e z = goes_stopped (node_of s either) splits (Cases branches) (kind_else (node_of s either) (branches ∷ others) c e) refl z

pub case_kind : (s : LinearSystem) (either others : List (List Query)) (branches : List Query) → clashes s.variables s.rows ≡ false → either ≡ branches ∷ others → kind (node_of s either) ≡ Cases branches
case_kind s either others branches c e = kind_else (node_of s either) (branches ∷ others) c e

-- ---- numbers that are passed on

small_fits : (m : ℤ) → unsigned_abs m < 2 ^ 100 → FitsSigned w128 m
small_fits m h = omega (arith, ints, h)

pub same_cast : (m : ℤ) → unsigned_abs m < 2 ^ 100 → to_z w128 (of_z w128 m) ≡ m
same_cast m h = to_z-of_z w128 m (small_fits m h)

negated_fits : (m : ℤ) → unsigned_abs m < 2 ^ 100 → FitsSigned w128 (pos 0 -ℤ m)
negated_fits m h = omega (arith, ints, h)

pub negation_fits : (m : ℤ) → unsigned_abs m < 2 ^ 100 → FitsSigned w128 (pos 0 -ℤ to_z w128 (of_z w128 m))
negation_fits m h = subst (λ (z : ℤ). FitsSigned w128 (pos 0 -ℤ z)) (sym (same_cast m h)) (negated_fits m h)

near_fits : (m : ℤ) → unsigned_abs (m +ℤ pos 1) < 2 ^ 100 → FitsSigned w128 m
near_fits m h = omega (arith, ints, h)

pub next_cast : (m : ℤ) → unsigned_abs (m +ℤ pos 1) < 2 ^ 100 → to_z w128 (of_z w128 (to_z w128 (of_z w128 m) +ℤ pos 1)) ≡ m +ℤ pos 1
next_cast m h = ap (λ (z : ℤ). to_z w128 (of_z w128 (z +ℤ pos 1))) (to_z-of_z w128 m (near_fits m h)) ∙ same_cast (m +ℤ pos 1) h
