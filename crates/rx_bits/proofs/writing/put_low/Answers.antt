use Rattle.std.proofs.Common.{◌≡◌, ℕ, ◌+◌, ◌-◌, ◌*◌, ◌/◌, ◌%◌, ◌^◌, ◌≤◌, inl, inr, length, take, ap, ◌∙◌, sym, subst, arith, rules, List}
use Rattle.std.proofs.lemmas.Nat.{shr-shr}
use Rattle.std.proofs.lemmas.List.{take-take}
use Rattle.rx_model.specs.Bits.{number, number_at, place_bits, reversed_groups}
use Rattle.rx_model.proofs.BitLemmas.{reversed_groups-more, number-place_bits}
use Rattle.rx_bits.specs.Outside.{SameOutside}
use Rattle.rx_bits.proofs.Places.{same_place}
use Rattle.rx_bits.proofs.writing.put_low.Goals as goal

-- a number without its low 8 k bits, in one group and the rest
next_group : (n k : ℕ) → n / 2 ^ (8 * k) ≡ 256 * (n / 2 ^ (8 * k + 8)) + n / 2 ^ (8 * k) % 256
next_group n k =
    let rest : n / 2 ^ (8 * k) / 256 ≡ n / 2 ^ (8 * k + 8) = shr-shr n (8 * k) 8 in
    rw (sym rest) (omega arith)

-- what lies behind a group that is put
behind : (old new : List ℕ) (first n : ℕ) → first + 8 + n ≤ 8 * length old → length new ≡ length old → SameOutside first 8 old new → place_bits (first + 8) n new ≡ place_bits (first + 8) n old
behind old new first n inside long others =
    same_place new old (first + 8) n (omega arith) (omega arith) (λ i low high. others i (inr low))

pub loop-index-preserved : goal.loop-index-preserved
loop-index-preserved c =
    let index = c.loop-index.index - 1 in
    let k = c.args.count - c.loop-index.index in
    let start = 8 * c.args.at + c.args.offset in
    let first = start + 8 * index in
    let old = c.loop-index.bytes in
    let new = c.put_high.new.bytes in
    let inside = c.requires.inside in
    let long : length new ≡ length old = search rules in
    let whole : length old ≡ length c.args.bytes.now = c.loop-index.auto.bytes in
    let size : 8 * (c.args.count - index) ≡ 8 + 8 * k = omega arith in
    let here : 8 * (c.args.at + index) + c.args.offset ≡ first = omega arith in
    let next : first + 8 ≡ start + 8 * c.loop-index.index = omega arith in
    let others : SameOutside first 8 old new = subst (λ f. SameOutside f 8 old new) here c.put_high.ensures.others in
    let group : number (place_bits first 8 new) ≡ c.args.value / 2 ^ (8 * index) % 256 =
    number-place_bits new first 8 (omega arith) ∙ ap (λ f. number_at new f 8) (sym here) ∙ c.put_high.ensures.here in
    let rest : number (reversed_groups (place_bits (first + 8) (8 * k) new)) ≡ c.args.value / 2 ^ (8 * c.loop-index.index) =
    ap (λ l. number (reversed_groups l)) (behind old new first (8 * k) (omega arith) long others) ∙ ap (λ f. number (reversed_groups (place_bits f (8 * k) old))) next ∙ c.loop-index.invariant.number in
    let more = reversed_groups-more first k new (omega arith) in
    let power : 8 * index + 8 ≡ 8 * c.loop-index.index = omega arith in
    record {
      number = rw size (more ∙ ap (λ n. 256 * n + number (place_bits first 8 new)) rest ∙ ap (λ n. 256 * (c.args.value / 2 ^ (8 * c.loop-index.index)) + n) group
          ∙ sym (next_group c.args.value index ∙ ap (λ p. 256 * (c.args.value / 2 ^ p) + c.args.value / 2 ^ (8 * index) % 256) power));
      others = λ i out. elim out [
        | inl low ↦ others i (inl (omega (arith, low))) ∙ c.loop-index.invariant.others i (inl low)
        | inr high ↦ others i (inr (omega (arith, high))) ∙ c.loop-index.invariant.others i (inr high)
      ];
      before = sym (take-take c.args.at (c.args.at + index) new (omega arith)) ∙ ap (take c.args.at) c.put_high.ensures.before ∙ take-take c.args.at (c.args.at + index) old (omega arith) ∙ c.loop-index.invariant.before;
    }
