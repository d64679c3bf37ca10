-- What one round comes to, by its tests.
use Rattle.std.proofs.Common.{◌≡◌, refl, ap, ◌∙◌, ℕ, zero, suc, List, Bool, true, false, cond, Option, Some, None}
use Rattle.std.specs.List.{list_all}
use Rattle.rx_linear.specs.declared.row.Row.{Row}
use Rattle.rx_linear.specs.Joining.{has_no_variable}
use Rattle.rx_shadow.specs.Simple.{Outcome, Clash, TrueRows, Neither, clashes, is_exact, greatest_below, if_found, eliminated, within_limits, round, outcome_in}

-- what the rounds after this one come to
abbrev pub rest_of : ℕ → ℕ → List Row → Outcome
rest_of n zero rows = Neither
rest_of n (suc rounds) rows = outcome_in n rounds rows

pub outcome_round : (n rounds : ℕ) (rows : List Row) → outcome_in n rounds rows ≡ round (rest_of n rounds) n rows
unfolding outcome_in
outcome_round n zero rows = refl
outcome_round n (suc rounds) rows = refl

abbrev pub step_from : (List Row → Outcome) → ℕ → List Row → Bool → Bool → Option ℕ → Outcome
step_from next n rows c p o = cond c Clash (cond p TrueRows (if_found o (λ x. cond (within_limits (eliminated n x rows)) (next (eliminated n x rows)) Neither)))

pub round_at : (next : List Row → Outcome) (n : ℕ) (rows : List Row) (c p : Bool) (o : Option ℕ) → clashes n rows ≡ c → list_all has_no_variable rows ≡ p → greatest_below (is_exact rows) n ≡ o → round next n rows ≡ step_from next n rows c p o
round_at next n rows c p o ec ep eo =
    ap (λ (b : Bool). step_from next n rows b (list_all has_no_variable rows) (greatest_below (is_exact rows) n)) ec
    ∙ ap (λ (b : Bool). step_from next n rows c b (greatest_below (is_exact rows) n)) ep
    ∙ ap (step_from next n rows c p) eo

pub outcome_at : (n rounds : ℕ) (rows : List Row) (c p : Bool) (o : Option ℕ) → clashes n rows ≡ c → list_all has_no_variable rows ≡ p → greatest_below (is_exact rows) n ≡ o → outcome_in n rounds rows ≡ step_from (rest_of n rounds) n rows c p o
outcome_at n rounds rows c p o ec ep eo = outcome_round n rounds rows ∙ round_at (rest_of n rounds) n rows c p o ec ep eo

pub outcome_clash : (n rounds : ℕ) (rows : List Row) → clashes n rows ≡ true → outcome_in n rounds rows ≡ Clash
outcome_clash n rounds rows c = outcome_at n rounds rows true (list_all has_no_variable rows) (greatest_below (is_exact rows) n) c refl refl

pub outcome_true : (n rounds : ℕ) (rows : List Row) → clashes n rows ≡ false → list_all has_no_variable rows ≡ true → outcome_in n rounds rows ≡ TrueRows
outcome_true n rounds rows c p = outcome_at n rounds rows false true (greatest_below (is_exact rows) n) c p refl

pub outcome_none : (n rounds : ℕ) (rows : List Row) → clashes n rows ≡ false → list_all has_no_variable rows ≡ false → greatest_below (is_exact rows) n ≡ None → outcome_in n rounds rows ≡ Neither
outcome_none n rounds rows c p o = outcome_at n rounds rows false false None c p o

pub outcome_last : (n : ℕ) (rows : List Row) (x : ℕ) → clashes n rows ≡ false → list_all has_no_variable rows ≡ false → greatest_below (is_exact rows) n ≡ Some x → outcome_in n 0 rows ≡ Neither
outcome_last n rows x c p o = outcome_at n 0 rows false false (Some x) c p o ∙ either_way (within_limits (eliminated n x rows))
  where
    either_way : (b : Bool) → cond b Neither Neither ≡ Neither
    either_way true = refl
    either_way false = refl

pub outcome_passed : (n rounds : ℕ) (rows : List Row) (x : ℕ) → clashes n rows ≡ false → list_all has_no_variable rows ≡ false → greatest_below (is_exact rows) n ≡ Some x → within_limits (eliminated n x rows) ≡ false → outcome_in n rounds rows ≡ Neither
outcome_passed n rounds rows x c p o w = outcome_at n rounds rows false false (Some x) c p o ∙ ap (λ (b : Bool). cond b (rest_of n rounds (eliminated n x rows)) Neither) w

pub outcome_next : (n rounds : ℕ) (rows : List Row) (x : ℕ) → clashes n rows ≡ false → list_all has_no_variable rows ≡ false → greatest_below (is_exact rows) n ≡ Some x → within_limits (eliminated n x rows) ≡ true → outcome_in n (suc rounds) rows ≡ outcome_in n rounds (eliminated n x rows)
outcome_next n rounds rows x c p o w = outcome_at n (suc rounds) rows false false (Some x) c p o ∙ ap (λ (b : Bool). cond b (outcome_in n rounds (eliminated n x rows)) Neither) w
