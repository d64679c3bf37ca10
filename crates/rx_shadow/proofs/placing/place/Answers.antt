use Rattle.std.proofs.Common.{◌≡◌, sym, ap, subst, ◌∙◌, ◌+◌, ◌<◌, ◌^◌, ◌≤ℤ◌, ℤ, pos, true, set, get_or, length, unsigned_abs, int_lt, option_map, Bor, FitsSigned}
use Rattle.std.specs.Int.{w128}
use Rattle.std.proofs.lemmas.Int.{to_z-of_z}
use Rattle.std.proofs.lemmas.List.Elements.{All-contains}
use Rattle.rx_linear.specs.declared.row.Row.{Row}
use Rattle.rx_linear.specs.Joining.{holds}
use Rattle.rx_linear.specs.Units.{coefficient}
use Rattle.rx_linear.specs.Systems.{FitsSystem}
use Rattle.rx_shadow.specs.Placing.{IsRaised}
use Rattle.rx_linear.proofs.Bounds.{constant_fits}
use Rattle.rx_shadow.specs.declared.known.Known.{Known}
use Rattle.rx_shadow.specs.Known.{rows_of}
use Rattle.rx_shadow.proofs.Raising.{Placing, placing_start, placing_skip, placing_possible, placing_step, placing_end, placing_small, no_unit}
use Rattle.rx_shadow.proofs.placing.place.Goals as goal
use Rattle.rx_shadow.proofs.placing.place.Goals.{in-Some, in_default, then-is_positive, else-is_positive}

pub loop-k-init : goal.loop-k-init
loop-k-init c =
    elim c.match-greatest_unit.branch [
      | in-Some w ↦
          let fit = All-contains (λ k. FitsSystem (length c.args.point.now) k.row) c.args.leaving.now w.in-Some.low.now c.requires.leaving_fit w.in-Some.ensures.among in
          let f : FitsSigned w128 w.row.result.now.least = subst (λ (row : Row). FitsSigned w128 row.least) (sym w.row.ensures) (constant_fits w.in-Some.low.now.row.least fit.1.1) in
          let told : c.match-greatest_unit.point ≡ set c.args.point.now c.args.variable w.row.result.now.least = simp to_z-of_z at w.point-is in
          let e : c.match-greatest_unit.point ≡ set c.args.point.now c.args.variable w.in-Some.low.now.row.least = told ∙ ap (λ (row : Row). set c.args.point.now c.args.variable row.least) w.row.ensures in
          placing_start c.args.variable (length c.args.point.now) c.args.leaving.now c.args.point.now c.match-greatest_unit.point w.in-Some.low.now c.requires.within c.requires.within c.requires.leaving_fit w.in-Some.ensures.among w.in-Some.ensures.unit e
      | in_default w ↦
          absurd (no_unit c.args.variable (pos 1) (rows_of c.args.leaving.now) c.requires.lower (sym (ap (option_map (λ (k : Bor Known). k.now.row.least)) w.in_default.is) ∙ c.greatest_unit.ensures.bound))
    ]

pub raise-requires-clause-small : goal.raise-requires-clause-small
raise-requires-clause-small c = placing_small c.args.variable c.args.leaving.now c.loop-k.k-index c.args.point.now c.loop-k.point c.requires.small c.loop-k.invariant

pub raise-requires-clause-possible : goal.raise-requires-clause-possible
raise-requires-clause-possible c =
    subst (λ (row : Row). (w : ℤ) × (get_or c.loop-k.point c.args.variable (pos 0) ≤ℤ w) × (unsigned_abs w < 2 ^ 100) × (holds (set c.loop-k.point c.args.variable w) row ≡ true)) (sym c.row-then-is_positive.ensures)
    (placing_possible c.args.variable (length c.args.point.now) c.args.leaving.now c.loop-k.k-index c.k-item.result c.args.point.now c.loop-k.point c.requires.possible.0 c.requires.within c.requires.within c.requires.leaving_fit c.requires.lower c.requires.upper (c.loop-k.k-index, c.loop-k-test.true, sym c.k-item.is) c.requires.possible.1 c.loop-k.invariant)

pub loop-k-preserved : goal.loop-k-preserved
loop-k-preserved c =
    elim c.if-is_positive.branch [
      | then-is_positive w ↦
          subst (Placing c.args.variable c.args.leaving.now (c.loop-k.k-index + 1) c.args.point.now) (sym w.point-is)
          (placing_step c.args.variable (length c.args.point.now) c.args.leaving.now c.loop-k.k-index c.k-item.result c.args.point.now c.loop-k.point w.raise.new.point c.requires.possible.0 c.requires.within c.requires.within c.requires.leaving_fit c.requires.lower c.requires.upper c.loop-k-test.true c.k-item.is c.requires.possible.1 c.loop-k.invariant (subst (λ (row : Row). IsRaised c.args.variable row c.loop-k.point w.raise.new.point) w.row-then-is_positive.ensures w.raise.ensures))
      | else-is_positive w ↦
          subst (Placing c.args.variable c.args.leaving.now (c.loop-k.k-index + 1) c.args.point.now) (sym w.point-is)
          (placing_skip c.args.variable c.args.leaving.now c.loop-k.k-index c.k-item.result c.args.point.now c.loop-k.point c.loop-k-test.true c.k-item.is (ap (λ (row : Row). int_lt (pos 0) (coefficient c.args.variable row)) (sym c.row-in-loop-k.ensures) ∙ sym c.is_positive.ensures ∙ w.if-is_positive.false) c.loop-k.invariant)
    ]

pub returns-clause-value : goal.returns-clause-value
returns-clause-value c = (c.loop-k.invariant.value, c.loop-k.invariant.placed)

pub returns-clause-small : goal.returns-clause-small
returns-clause-small c = placing_small c.args.variable c.args.leaving.now c.loop-k.k-index c.args.point.now c.loop-k.point c.requires.small c.loop-k.invariant

pub returns-clause-holds : goal.returns-clause-holds
returns-clause-holds c = placing_end c.args.variable c.args.leaving.now c.loop-k.k-index c.args.point.now c.loop-k.point c.requires.possible.0 c.requires.within c.loop-k-test.false c.requires.possible.1 c.loop-k.invariant
