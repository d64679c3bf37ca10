use Rattle.std.proofs.Common.{◌≡◌, sym, ap, ◌∙◌, subst, ◌+◌, take, false, Bor, true, List, Option, Some, None, option_map, ℤ, inl, inr, ◌⊎◌}
use Rattle.std.specs.List.{Contains}
use Rattle.std.specs.Option.{IfSome, IsSomeAnd}
use Rattle.std.proofs.lemmas.List.{take_all}
use Rattle.rx_linear.specs.Units.{is_unit_row}
use Rattle.rx_shadow.specs.declared.known.Known.{Known}
use Rattle.rx_shadow.specs.Bounds.{raised}
use Rattle.rx_shadow.specs.Known.{rows_of}
use Rattle.rx_shadow.proofs.Greatest.{greatest_constant, constant_more_passed, constant_more_failed}
use Rattle.rx_shadow.proofs.bounds.greatest_unit.Goals as goal
use Rattle.rx_shadow.proofs.bounds.greatest_unit.Invariants.{NextInvariant}
use Rattle.rx_shadow.proofs.bounds.greatest_unit.Goals.{then-is_unit, else-is_unit}

one_of : (P : Known → Type 0) (next : Known) (new : Known) (best : Option (Bor Known)) → (new ≡ next) ⊎ IsSomeAnd best (λ k. new ≡ k.now) → P next → IfSome best (λ k. P k.now) → P new
one_of P next new best (inl e) n b = subst P (sym e) n
one_of P next new best (inr s) n b = by_best best s b
  where
    by_best : (best : Option (Bor Known)) → IsSomeAnd best (λ k. new ≡ k.now) → IfSome best (λ k. P k.now) → P new
    by_best None s b = absurd s
    by_best (Some k) s b = subst P (sym s) b

pub loop-next-preserved : goal.loop-next-preserved
loop-next-preserved c =
    let lt = c.loop-next-test.true in
    let inv = c.loop-next.invariant in
    elim c.if-is_unit.branch [
      | then-is_unit w ↦
          let t : is_unit_row c.args.variable c.args.number.now c.next-item.result.row ≡ true = sym c.is_unit.ensures ∙ w.if-is_unit.true in
          let among : Contains c.args.known.now w.greater.result.now = one_of (λ k. Contains c.args.known.now k) c.next-item.result w.greater.result.now c.loop-next.greatest w.greater.ensures.one (c.loop-next.next-index, lt, sym c.next-item.is) inv.among in
          let unit : is_unit_row c.args.variable c.args.number.now w.greater.result.now.row ≡ true = one_of (λ k. is_unit_row c.args.variable c.args.number.now k.row ≡ true) c.next-item.result w.greater.result.now c.loop-next.greatest w.greater.ensures.one t inv.unit in
          let bound : Some w.greater.result.now.row.least ≡ greatest_constant c.args.variable c.args.number.now (rows_of (take (c.loop-next.next-index + 1) c.args.known.now)) =
          ap (λ (z : ℤ). Some z) (w.greater.ensures.value ∙ ap (λ (o : Option ℤ). raised o c.next-item.result.row.least) inv.bound)
          ∙ sym (constant_more_passed c.args.variable c.args.number.now c.args.known.now c.loop-next.next-index c.next-item.result lt c.next-item.is t) in
          joined c.if-is_unit.greatest (Some w.greater.result) w.greatest-is bound among unit
      | else-is_unit w ↦
          let t : is_unit_row c.args.variable c.args.number.now c.next-item.result.row ≡ false = sym c.is_unit.ensures ∙ w.if-is_unit.false in
          joined c.if-is_unit.greatest c.loop-next.greatest w.greatest-is (inv.bound ∙ sym (constant_more_failed c.args.variable c.args.number.now c.args.known.now c.loop-next.next-index c.next-item.result lt c.next-item.is t)) inv.among inv.unit
    ]
  where
    joined : (new old : Option (Bor Known)) → new ≡ old → option_map (λ (k : Bor Known). k.now.row.least) old ≡ greatest_constant c.args.variable c.args.number.now (rows_of (take (c.loop-next.next-index + 1) c.args.known.now)) → IfSome old (λ k. Contains c.args.known.now k.now) → IfSome old (λ k. is_unit_row c.args.variable c.args.number.now k.now.row ≡ true) → NextInvariant c.args.variable c.args.number.now c.args.known.now (c.loop-next.next-index + 1) new
    joined new old e bound among unit = record {
      bound = ap (option_map (λ (k : Bor Known). k.now.row.least)) e ∙ bound;
      among = subst (λ (o : Option (Bor Known)). IfSome o (λ k. Contains c.args.known.now k.now)) (sym e) among;
      unit = subst (λ (o : Option (Bor Known)). IfSome o (λ k. is_unit_row c.args.variable c.args.number.now k.now.row ≡ true)) (sym e) unit;
    }

pub returns-clause-bound : goal.returns-clause-bound
returns-clause-bound c = c.loop-next.invariant.bound ∙ ap (λ (ks : List Known). greatest_constant c.args.variable c.args.number.now (rows_of ks)) (take_all c.loop-next.next-index c.args.known.now c.loop-next-test.false)
