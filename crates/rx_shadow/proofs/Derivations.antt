-- What one more step keeps, and what it derives.
use Rattle.std.proofs.Common.{◌≡◌, refl, sym, ap, ◌∙◌, ℕ, zero, suc, ◌+◌, arith, List, [], ◌∷◌, ◌++◌, length, Bool, ℤ, Option, Some, None, append_assoc, length-append, subst}
use Rattle.std.specs.List.{Contains, slice_get}
use Rattle.std.specs.Option.{option_and_then}
use Rattle.std.proofs.lemmas.List.Elements.{All-weaker, All-append, All-cons, All-nil, All-contains, All-same}
use Rattle.rx_linear.specs.declared.row.Row.{Row}
use Rattle.rx_linear.specs.declared.step.Step.{Step}
use Rattle.rx_linear.specs.declared.step.Step.TheVariants.{Combine, Tighten}
use Rattle.rx_linear.specs.Rows.{Narrow, IsMultiplier, combined, tight}
use Rattle.rx_linear.specs.Steps.{rows_after, step_gives, combined_if, combine_found, tighten_found}
use Rattle.rx_linear.proofs.Joining.{and_true}
use Rattle.rx_shadow.specs.declared.known.Known.{Known}
use Rattle.rx_shadow.specs.Derivations.{row_after, row_given, IsDerived}
use Rattle.rx_shadow.proofs.RowTests.{narrow_test, multiplier_test}

-- ---- rows after one more step

pub rows_after-push : (given : List Row) (steps : List Step) (step : Step) (rows : List Row) (row : Row) → rows_after given steps ≡ Some rows → step_gives rows step ≡ Some row → rows_after given (steps ++ step ∷ []) ≡ Some (rows ++ row ∷ [])
rows_after-push given [] step rows row e s =
    let same : given ≡ rows = cc in
    ap (λ (rs : List Row). option_and_then (λ r. Some (rs ++ r ∷ [])) (step_gives rs step)) same ∙ ap (option_and_then (λ r. Some (rows ++ r ∷ []))) s
rows_after-push given (first ∷ steps) step rows row e s =
    by_first (step_gives given first) e (λ r h. rows_after-push (given ++ r ∷ []) steps step rows row h s)
  where
    by_first : (o : Option Row) → option_and_then (λ r. rows_after (given ++ r ∷ []) steps) o ≡ Some rows → ((r : Row) → rows_after (given ++ r ∷ []) steps ≡ Some rows → rows_after (given ++ r ∷ []) (steps ++ step ∷ []) ≡ Some (rows ++ row ∷ [])) → option_and_then (λ r. rows_after (given ++ r ∷ []) (steps ++ step ∷ [])) o ≡ Some (rows ++ row ∷ [])
    by_first None e next = absurd (cc)
    by_first (Some r) e next = next r e

pub length-rows_after : (given : List Row) (steps : List Step) (rows : List Row) → rows_after given steps ≡ Some rows → length rows ≡ length given + length steps
length-rows_after given [] rows e = let same : given ≡ rows = cc in omega (arith, ap length same)
length-rows_after given (first ∷ steps) rows e = by_first (step_gives given first) e (λ r h. length-rows_after (given ++ r ∷ []) steps rows h)
  where
    by_first : (o : Option Row) → option_and_then (λ r. rows_after (given ++ r ∷ []) steps) o ≡ Some rows → ((r : Row) → rows_after (given ++ r ∷ []) steps ≡ Some rows → length rows ≡ length (given ++ r ∷ []) + length steps) → length rows ≡ length given + length (first ∷ steps)
    by_first None e next = absurd (cc)
    by_first (Some r) e next = omega (arith, next r e, length-append given (r ∷ []))

pub slice_get-before : (rows : List Row) (row r : Row) (i : ℕ) → slice_get rows i ≡ Some r → slice_get (rows ++ row ∷ []) i ≡ Some r
slice_get-before [] row r i e = absurd (cc)
slice_get-before (first ∷ rows) row r zero e = e
slice_get-before (first ∷ rows) row r (suc i) e = slice_get-before rows row r i e

pub slice_get-last : (rows : List Row) (row : Row) → slice_get (rows ++ row ∷ []) (length rows) ≡ Some row
slice_get-last [] row = refl
slice_get-last (first ∷ rows) row = slice_get-last rows row

-- ---- a derivation

at_rows : (given : List Row) (steps : List Step) (rows : List Row) (i : ℕ) (r : Row) → rows_after given steps ≡ Some rows → row_after given steps i ≡ Some r → slice_get rows i ≡ Some r
at_rows given steps rows i r e h = sym (ap (option_and_then (λ rs. slice_get rs i)) e) ∙ h

from_rows : (given : List Row) (steps : List Step) (rows : List Row) (i : ℕ) (r : Row) → rows_after given steps ≡ Some rows → slice_get rows i ≡ Some r → row_after given steps i ≡ Some r
from_rows given steps rows i r e h = ap (option_and_then (λ rs. slice_get rs i)) e ∙ h

pub step_at_rows : (given : List Row) (steps : List Step) (rows : List Row) (step : Step) (r : Row) → rows_after given steps ≡ Some rows → row_given given steps step ≡ Some r → step_gives rows step ≡ Some r
step_at_rows given steps rows step r e h = sym (ap (option_and_then (λ rs. step_gives rs step)) e) ∙ h

-- known rows keep their numbers at one more step
pub derived_more : (given : List Row) (count : ℕ) (steps : List Step) (known : List Known) (step : Step) (row : Row) → IsDerived given count steps known → row_given given steps step ≡ Some row → IsDerived given count (steps ++ step ∷ []) known
derived_more given count steps known step row d h =
    let s = step_at_rows given steps d.taken.0 step row d.taken.1 h in
    let more = rows_after-push given steps step d.taken.0 row d.taken.1 s in
    record {
      count_is = d.count_is;
      taken = (d.taken.0 ++ row ∷ [], more);
      each = All-weaker (λ k. row_after given steps k.number ≡ Some k.row) (λ k. row_after given (steps ++ step ∷ []) k.number ≡ Some k.row)
          (λ k g. from_rows given (steps ++ step ∷ []) (d.taken.0 ++ row ∷ []) k.number k.row more (slice_get-before d.taken.0 row k.row k.number (at_rows given steps d.taken.0 k.number k.row d.taken.1 g)))
          known d.each;
    }

-- and the new row stands at the next number
pub new_row : (given : List Row) (count : ℕ) (steps : List Step) (known : List Known) (step : Step) (row : Row) → IsDerived given count steps known → row_given given steps step ≡ Some row → row_after given (steps ++ step ∷ []) (count + length steps) ≡ Some row
new_row given count steps known step row d h =
    let s = step_at_rows given steps d.taken.0 step row d.taken.1 h in
    let more = rows_after-push given steps step d.taken.0 row d.taken.1 s in
    let last : length d.taken.0 ≡ count + length steps = length-rows_after given steps d.taken.0 d.taken.1 ∙ ap (λ (n : ℕ). n + length steps) d.count_is in
    from_rows given (steps ++ step ∷ []) (d.taken.0 ++ row ∷ []) (count + length steps) row more
    (ap (slice_get (d.taken.0 ++ row ∷ [])) (sym last) ∙ slice_get-last d.taken.0 row)

pub tighten_given : (given : List Row) (count : ℕ) (steps : List Step) (known : List Known) (number : ℕ) (row : Row) → IsDerived given count steps known → row_after given steps number ≡ Some row → row_given given steps (Tighten number) ≡ Some (tight row)
tighten_given given count steps known number row d h =
    let at = at_rows given steps d.taken.0 number row d.taken.1 h in
    ap (option_and_then (λ rs. step_gives rs (Tighten number))) d.taken.1 ∙ tightened (slice_get d.taken.0 number) at
  where
    tightened : (o : Option Row) → o ≡ Some row → tighten_found o ≡ Some (tight row)
    tightened None e = absurd (cc)
    tightened (Some r) e = let same : r ≡ row = cc in ap (λ (x : Row). Some (tight x)) same

pub combine_given : (given : List Row) (count : ℕ) (steps : List Step) (known : List Known) (left right : Known) (a b : ℤ) → IsDerived given count steps known → Contains known left → Contains known right → Narrow left.row → Narrow right.row → IsMultiplier a → IsMultiplier b → row_given given steps (Combine left.number a right.number b) ≡ Some (combined left.row a right.row b)
combine_given given count steps known left right a b d cl cr nl nr ma mb =
    let P : Known → Type 0 = λ k. row_after given steps k.number ≡ Some k.row in
    let l = at_rows given steps d.taken.0 left.number left.row d.taken.1 (All-contains P known left d.each cl) in
    let r = at_rows given steps d.taken.0 right.number right.row d.taken.1 (All-contains P known right d.each cr) in
    let t = and_true (and_true (and_true (narrow_test left.row nl) (narrow_test right.row nr)) (multiplier_test a ma)) (multiplier_test b mb) in
    ap (option_and_then (λ rs. step_gives rs (Combine left.number a right.number b))) d.taken.1
    ∙ ap (λ (o : Option Row). combine_found o a (slice_get d.taken.0 right.number) b) l
    ∙ ap (λ (o : Option Row). combine_found (Some left.row) a o b) r
    ∙ ap (λ (t : Bool). combined_if t left.row a right.row b) t

-- two steps, the second of which makes the row tight
pub derived_kept : (given : List Row) (count number derived : ℕ) (steps first second : List Step) (others known : List Known) (step : Step) (row last : Row) → first ≡ steps ++ step ∷ [] → derived ≡ count + length steps → second ≡ first ++ Tighten derived ∷ [] → number ≡ count + length first → row_given given steps step ≡ Some row → tight row ≡ last → IsDerived given count steps (others ++ known) → IsDerived given count second (others ++ (known ++ record { row = last; number = number } ∷ []))
derived_kept given count number derived steps first second others known step row last ef ed es en h t d =
    let d1 = derived_more given count steps (others ++ known) step row d h in
    let n1 = new_row given count steps (others ++ known) step row d h in
    let m1 : row_after given first derived ≡ Some row = ap (λ (ss : List Step). row_after given ss derived) ef ∙ ap (row_after given (steps ++ step ∷ [])) ed ∙ n1 in
    let d1f : IsDerived given count first (others ++ known) = let P : List Step → Type 0 = λ ss. IsDerived given count ss (others ++ known) in subst P (sym ef) d1 in
    let g2 : row_given given first (Tighten derived) ≡ Some last = tighten_given given count first (others ++ known) derived row d1f m1 ∙ ap (λ (x : Row). Some x) t in
    let d2 = derived_more given count first (others ++ known) (Tighten derived) last d1f g2 in
    let n2 = new_row given count first (others ++ known) (Tighten derived) last d1f g2 in
    let d2s : IsDerived given count second (others ++ known) = let P : List Step → Type 0 = λ ss. IsDerived given count ss (others ++ known) in subst P (sym es) d2 in
    let n2s : row_after given second number ≡ Some last = ap (λ (ss : List Step). row_after given ss number) es ∙ ap (row_after given (first ++ Tighten derived ∷ [])) en ∙ n2 in
    let P : Known → Type 0 = λ k. row_after given second k.number ≡ Some k.row in
    let one : Known = record { row = last; number = number } in
    record {
      count_is = d2s.count_is;
      taken = d2s.taken;
      each = All-same P (others ++ (known ++ one ∷ [])) ((others ++ known) ++ one ∷ []) (sym (append_assoc others known (one ∷ [])))
          (All-append P (others ++ known) (one ∷ []) d2s.each (All-cons P one [] n2s (All-nil P)));
    }
