-- The facts of scalar types fit a system.
use Rattle.std.proofs.Common.{◌≡◌, refl, ◌∙◌, ℕ, ◌-◌, ◌<◌, ◌≤◌, ◌^◌, arith, List, [], ◌∷◌, ◌++◌, map, Bool, true, false, pos, negsuc, neg_ℤ}
use Rattle.std.proofs.lemmas.Int.{ints}
use Rattle.std.proofs.Math.Nat.{pow-le-pow_right}
use Rattle.std.specs.List.{list_all, AllByRecursion}
use Rattle.std.proofs.lemmas.List.Folds.{list_all-append}
use Rattle.rx_linear.proofs.Joining.{and_true}
use Rattle.rx_types.specs.declared.scalar.Literal.{Literal}
use Rattle.rx_types.specs.Domain.{Domain, Integer, Enumeration, IsProper, AreLiterals, numbers_of}
use Rattle.rx_forms.specs.declared.linear.Form.{All}
use Rattle.rx_forms.specs.Linear.{term}
use Rattle.rx_layout.specs.Fitting.{fits}
use Rattle.rx_layout.specs.Types.{between, placed_in, ascending, last_of, has_gaps, one_of_numbers, numbers_form, literals_form, type_form}
use Rattle.rx_layout.proofs.Domains.{placed_by}
use Rattle.rx_layout.proofs.Gathered.{fits_at_least, fits_all, fits_any}
use Rattle.rx_layout.proofs.RowsFit.{term_fits}

abbrev Small : List ℕ → Type 0
Small ns = AllByRecursion (λ k. k < 2 ^ 64) ns

small_placed : (n : ℕ) (ks : List ℕ) → n < 2 ^ 64 → Small ks → Small (placed_in n ks)
small_placed n [] h s = (h, tt)
small_placed n (k ∷ ks) h s = placed_by n k ks (λ ns. Small ns) (λ e. s) (λ e. (h, s)) (λ e. (s.0, small_placed n ks h s.1))

small_ascending : (ns : List ℕ) → Small ns → Small (ascending ns)
small_ascending [] s = s
small_ascending (n ∷ ns) s = small_placed n (ascending ns) s.0 (small_ascending ns s.1)

small_last : (n : ℕ) (ns : List ℕ) → n < 2 ^ 64 → Small ns → last_of n ns < 2 ^ 64
small_last n [] h s = h
small_last n (k ∷ ks) h s = small_last k ks s.0 s.1

module _ (n v : ℕ) (h : v < n) where
  pub between_fits : (low high : ℕ) → low < 2 ^ 64 → high < 2 ^ 64 → list_all (fits n) (between low high v) ≡ true
  between_fits low high l k =
      and_true (fits_at_least n (term (pos 1) v (neg_ℤ (pos low))) ∙ term_fits n v (pos 1) (neg_ℤ (pos low)) h (omega (arith, ints)) (omega (arith, ints, l)))
      (and_true (fits_at_least n (term (negsuc 0) v (pos high)) ∙ term_fits n v (negsuc 0) (pos high) h (omega (arith, ints)) (omega (arith, ints, k))) refl)

  pub all_between : (low high : ℕ) → low < 2 ^ 64 → high < 2 ^ 64 → fits n (All (between low high v)) ≡ true
  all_between low high l k = fits_all n (between low high v) ∙ between_fits low high l k

  each_fits : (ns : List ℕ) → Small ns → list_all (fits n) (map (λ k. All (between k k v)) ns) ≡ true
  each_fits [] s = refl
  each_fits (k ∷ ks) s = and_true (all_between k k s.0 s.0) (each_fits ks s.1)

  gaps_fit : (b : Bool) (ns : List ℕ) → Small ns → list_all (fits n) (one_of_numbers b ns v) ≡ true
  gaps_fit true ns s = and_true (fits_any n (map (λ k. All (between k k v)) ns) ∙ each_fits ns s) refl
  gaps_fit false ns s = refl

  numbers_fit : (ns : List ℕ) → Small ns → fits n (numbers_form ns v) ≡ true
  numbers_fit [] s = fits_any n []
  numbers_fit (k ∷ ks) s =
      fits_all n (between k (last_of k ks) v ++ one_of_numbers (has_gaps (k ∷ ks)) (k ∷ ks) v)
      ∙ list_all-append (fits n) (between k (last_of k ks) v) (one_of_numbers (has_gaps (k ∷ ks)) (k ∷ ks) v)
      ∙ and_true (between_fits k (last_of k ks) s.0 (small_last k ks s.0 s.1)) (gaps_fit (has_gaps (k ∷ ks)) (k ∷ ks) s)

  below_size : (size k : ℕ) → size < 64 → k < 2 ^ size → k < 2 ^ 64
  below_size size k s h = let p : 2 ^ size ≤ 2 ^ 64 = pow-le-pow_right {n = 2} (omega arith) {i = size} {j = 64} (omega (arith, s)) in omega (arith, p, h)

  small_numbers : (literals : List Literal) (size : ℕ) → size < 64 → AllByRecursion (λ l. l.number < 2 ^ size) literals → Small (numbers_of literals)
  small_numbers [] size s h = tt
  small_numbers (l ∷ ls) size s h = (below_size size l.number s h.0, small_numbers ls size s h.1)

  literals_fit : (literals : List Literal) (size : ℕ) (valid : Bool) → size < 64 → AreLiterals literals size → fits n (literals_form literals size valid v) ≡ true
  literals_fit literals size true s a = all_between 0 (2 ^ size - 1) (omega arith) (let p : 2 ^ size ≤ 2 ^ 64 = pow-le-pow_right {n = 2} (omega arith) {i = size} {j = 64} (omega (arith, s)) in omega (arith, p))
  literals_fit literals size false s a = numbers_fit (ascending (numbers_of literals)) (small_ascending (numbers_of literals) (small_numbers literals size s a.below))

  pub type_fits : (t : Domain) → IsProper t → fits n (type_form t v) ≡ true
  type_fits (Integer first last size) p = all_between first last (let q = below_size size last p.1 p.3 in omega (arith, q, p.2)) (below_size size last p.1 p.3)
  type_fits (Enumeration literals size valid) p = literals_fit literals size valid p.1 p.2
