-- What the elimination of a variable joins, from the rows that stay and those that leave.
use Rattle.std.proofs.Common.{◌≡◌, sym, ap, ◌∙◌, ℕ, ◌<◌, List, [], ◌∷◌, ◌++◌, length, Bool, false, ◌&&◌, nat_le, Some, arith}
use Rattle.std.specs.List.{All, filter, list_all}
use Rattle.std.proofs.lemmas.List.{length-map}
use Rattle.std.proofs.lemmas.List.Elements.{All-append, All-filter, All-same, All-tail}
use Rattle.std.proofs.lemmas.Bool.Decides.{nat_tests}
use Rattle.rx_linear.specs.declared.row.Row.{Row}
use Rattle.rx_linear.specs.declared.step.Step.{Step}
use Rattle.rx_linear.specs.Rows.{is_narrow}
use Rattle.rx_linear.specs.Joining.{joined}
use Rattle.rx_shadow.specs.declared.known.Known.{Known}
use Rattle.rx_shadow.specs.Bounds.{fixed_value}
use Rattle.rx_shadow.specs.Simple.{has, without, replaced, eliminated, within_limits}
use Rattle.rx_shadow.specs.Known.{rows_of}
use Rattle.rx_shadow.specs.Derivations.{IsDerived, row_after}
use Rattle.rx_shadow.proofs.Points.{zero_at}
use Rattle.rx_shadow.proofs.Joins.{limits_passed}
use Rattle.rx_shadow.proofs.Leaving.{rows_of_filter, replaced_leaving}

pub target_is : (n x : ℕ) (known kept leaving : List Known) → kept ≡ filter (λ k. zero_at x k.row) known → leaving ≡ filter (λ k. has x k.row) known → joined (rows_of kept) (replaced n x (rows_of leaving) (fixed_value x (rows_of leaving))) ≡ eliminated n x (rows_of known)
target_is n x known kept leaving ek el =
    let k : rows_of kept ≡ without x (rows_of known) = ap rows_of ek ∙ rows_of_filter (zero_at x) known in
    let l : rows_of leaving ≡ filter (has x) (rows_of known) = ap rows_of el ∙ rows_of_filter (has x) known in
    ap (λ (rows : List Row). joined rows (replaced n x (rows_of leaving) (fixed_value x (rows_of leaving)))) k
    ∙ ap (λ (rows : List Row). joined (without x (rows_of known)) (replaced n x rows (fixed_value x rows))) l
    ∙ ap (joined (without x (rows_of known))) (replaced_leaving n x (rows_of known))

pub too_many : (n x : ℕ) (known kept : List Known) → kept ≡ filter (λ k. zero_at x k.row) known → 1024 < length kept → within_limits (eliminated n x (rows_of known)) ≡ false
too_many n x known kept ek h =
    let k : rows_of kept ≡ without x (rows_of known) = ap rows_of ek ∙ rows_of_filter (zero_at x) known in
    let many : length (without x (rows_of known)) ≡ length kept = ap length (sym k) ∙ length-map kept (λ (k : Known). k.row) in
    limits_passed (without x (rows_of known)) (replaced n x (rows_of known) (fixed_value x (rows_of known))) (ap (λ (b : Bool). b && list_all is_narrow (without x (rows_of known))) (over (length (without x (rows_of known))) (omega (arith, many, h))))
  where
    over : (m : ℕ) → 1024 < m → nat_le m 1024 ≡ false
    over m h = grind (arith, nat_tests, h)

-- the known rows are derived exactly as the leaving ones and those that stay are
pub derived_split : (given : List Row) (count : ℕ) (steps : List Step) (count_after : ℕ) (steps_after : List Step) (x : ℕ) (known kept leaving after : List Known) → kept ≡ filter (λ k. zero_at x k.row) known → leaving ≡ filter (λ k. has x k.row) known → (IsDerived given count steps (leaving ++ kept) → IsDerived given count_after steps_after (leaving ++ after)) → IsDerived given count steps known → IsDerived given count_after steps_after after
derived_split given count steps count_after steps_after x known kept leaving after ek el f d =
    let P : Known → Type 0 = λ k. row_after given steps k.number ≡ Some k.row in
    let both : IsDerived given count steps (leaving ++ kept) = record {
      count_is = d.count_is;
      taken = d.taken;
      each = All-append P leaving kept
          (All-same P leaving (filter (λ k. has x k.row) known) el (All-filter (λ k. has x k.row) P known d.each))
          (All-same P kept (filter (λ k. zero_at x k.row) known) ek (All-filter (λ k. zero_at x k.row) P known d.each));
    } in
    let g = f both in
    record {
      count_is = g.count_is;
      taken = g.taken;
      each = All-last (λ k. row_after given steps_after k.number ≡ Some k.row) leaving after g.each;
    }
  where
    All-last : (Q : Known → Type 0) (xs ys : List Known) → All Q (xs ++ ys) → All Q ys
    All-last Q [] ys h = h
    All-last Q (x ∷ xs) ys h = All-last Q xs ys (All-tail Q x (xs ++ ys) h)
