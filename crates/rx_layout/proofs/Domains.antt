-- The fact of a scalar type holds exactly where the variable has a number of the type.
use Rattle.std.proofs.Common.{◌≡◌, refl, sym, ap, ◌∙◌, ℕ, zero, suc, ◌+◌, ◌-◌, ◌<◌, ◌≤◌, ◌^◌, ◌==◌, arith, List, [], ◌∷◌, ◌++◌, map, length, Bool, true, false, not, ◌||◌, if◌then◌else◌, get_or, ℤ, pos, negsuc, neg_ℤ, ◌+ℤ◌, ◌≤ℤ◌, ◌⊎◌, inl, inr}
use Rattle.std.specs.Prelude.{nat_lt, slice_index_or}
use Rattle.std.proofs.lemmas.Int.{ints}
use Rattle.std.proofs.Math.Pow.{pow-sub-lt}
use Rattle.std.proofs.lemmas.Bool.Decides.{Decides-eqb}
use Rattle.rx_linear.proofs.Joining.{both, and_true}
use Rattle.rx_types.specs.declared.scalar.Literal.{Literal}
use Rattle.rx_types.specs.Domain.{Domain, Integer, Enumeration, IsLiteral, IsNumberOf, numbers_of}
use Rattle.rx_forms.specs.declared.linear.Form.{AtLeast, All, Any}
use Rattle.rx_forms.specs.Linear.{at, term, meets}
use Rattle.rx_forms.specs.Laws.{TypesHaveForms}
use Rattle.rx_forms.proofs.Sums.{at_term}
use Rattle.rx_forms.proofs.Quotients.{from_le, to_le}
use Rattle.rx_forms.proofs.Conditions.{meets_at_least}
use Rattle.rx_layout.specs.Types.{between, placed_in, ascending, last_of, has_gaps, one_of_numbers, numbers_form, literals_form, type_form}
use Rattle.rx_layout.proofs.Lists.{meet_all, meet_one, meets_all, meets_any, split, join, one_true, left_true, right_true}

-- ---- between two numbers

abbrev Between : ℕ → ℕ → ℤ → Type 0
Between low high x = (n : ℕ) × (x ≡ pos n) × (low ≤ n) × (n ≤ high)

low_value : (low v : ℕ) (point : List ℤ) → at (term (pos 1) v (neg_ℤ (pos low))) point ≡ get_or point v (pos 0) +ℤ neg_ℤ (pos low)
low_value low v point = let e = at_term (pos 1) v (neg_ℤ (pos low)) point in omega (arith, ints)

high_value : (high v : ℕ) (point : List ℤ) → at (term (negsuc 0) v (pos high)) point ≡ pos high +ℤ neg_ℤ (get_or point v (pos 0))
high_value high v point = let e = at_term (negsuc 0) v (pos high) point in omega (arith, ints)

natural : (low high : ℕ) (x : ℤ) → pos low ≤ℤ x → x ≤ℤ pos high → Between low high x
natural low high (pos n) a b = (n, refl, omega (arith, ints, a), omega (arith, ints, b))
natural low high (negsuc n) a b = absurd (omega (arith, ints, a))

pub between_meets : (low high v : ℕ) (point : List ℤ) → meet_all point (between low high v) ≡ true → Between low high (get_or point v (pos 0))
between_meets low high v point h =
    let f = term (pos 1) v (neg_ℤ (pos low)) in
    let g = term (negsuc 0) v (pos high) in
    let p = both {a = meets (AtLeast f) point} h in
    let q = both {a = meets (AtLeast g) point} p.1 in
    let a = from_le (pos 0) (at f point) (sym (meets_at_least f point) ∙ p.0) in
    let b = from_le (pos 0) (at g point) (sym (meets_at_least g point) ∙ q.0) in
    let ea = low_value low v point in
    let eb = high_value high v point in
    natural low high (get_or point v (pos 0)) (omega (arith, ints)) (omega (arith, ints))

pub meets_between : (low high v : ℕ) (point : List ℤ) (n : ℕ) → get_or point v (pos 0) ≡ pos n → low ≤ n → n ≤ high → meet_all point (between low high v) ≡ true
meets_between low high v point n e a b =
    let f = term (pos 1) v (neg_ℤ (pos low)) in
    let g = term (negsuc 0) v (pos high) in
    let ea = low_value low v point in
    let eb = high_value high v point in
    and_true (meets_at_least f point ∙ to_le (pos 0) (at f point) (omega (arith, ints)))
    (and_true (meets_at_least g point ∙ to_le (pos 0) (at g point) (omega (arith, ints))) refl)

-- ---- lists of numbers

abbrev Among : ℕ → List ℕ → Type 0
Among n [] = ⊥
Among n (k ∷ ks) = (k ≡ n) ⊎ Among n ks

abbrev Rises : ℕ → List ℕ → Type 0
Rises n [] = Unit {0}
Rises n (k ∷ ks) = (n < k) × Rises k ks

abbrev Ascends : List ℕ → Type 0
Ascends [] = Unit {0}
Ascends (n ∷ ns) = Rises n ns

-- the last of ascending numbers, and the first, bound them
last_above : (n : ℕ) (ns : List ℕ) → Rises n ns → n ≤ last_of n ns
last_above n [] h = omega arith
last_above n (k ∷ ks) h = omega (arith, h.0, last_above k ks h.1)

ends_bound : (n : ℕ) (ns : List ℕ) → Rises n ns → (k : ℕ) → Among k (n ∷ ns) → (n ≤ k) × (k ≤ last_of n ns)
ends_bound n ns h k (inl e) = (omega (arith, e), omega (arith, e, last_above n ns h))
ends_bound n [] h k (inr a) = absurd a
ends_bound n (j ∷ js) h k (inr a) = let r = ends_bound j js h.1 k a in (omega (arith, h.0, r.0), r.1)

-- without gaps every number between the ends is among them
step_of : (n k : ℕ) (more : Bool) → (not (k == n + 1) || more) ≡ false → (k ≡ n + 1) × (more ≡ false)
step_of n k more h = by_test (k == n + 1) refl h
  where
    by_test : (b : Bool) → (k == n + 1) ≡ b → (not b || more) ≡ false → (k ≡ n + 1) × (more ≡ false)
    by_test true e h = ((Decides-eqb k (n + 1)).0 e, h)
    by_test false e h = absurd (cc)

same_or_above : (n k : ℕ) → n ≤ k → (n ≡ k) ⊎ (n + 1 ≤ k)
same_or_above n k h = by_test (n == k) refl
  where
    by_test : (b : Bool) → (n == k) ≡ b → (n ≡ k) ⊎ (n + 1 ≤ k)
    by_test true e = inl ((Decides-eqb n k).0 e)
    by_test false e = inr (grind (arith, h, e))

no_gap : (n : ℕ) (ns : List ℕ) → has_gaps (n ∷ ns) ≡ false → (k : ℕ) → n ≤ k → k ≤ last_of n ns → Among k (n ∷ ns)
no_gap n [] h k a b = inl (omega (arith, a, b))
no_gap n (j ∷ js) h k a b = on (same_or_above n k a)
    (λ c. let s = step_of n j (has_gaps (j ∷ js)) h in no_gap j js s.1 k (omega (arith, c, s.0)) b)
  where
    on : (n ≡ k) ⊎ (n + 1 ≤ k) → (n + 1 ≤ k → Among k (j ∷ js)) → Among k (n ∷ j ∷ js)
    on (inl e) rest = inl e
    on (inr c) rest = inr (rest c)

-- ---- numbers in ascending order

chosen : (b c : Bool) (P : List ℕ → Type 0) (xs ys zs : List ℕ) → (b ≡ true → P xs) → (c ≡ true → P ys) → (b ≡ false → c ≡ false → P zs) → P (if b then xs else (if c then ys else zs))
chosen true c P xs ys zs f g h = f refl
chosen false true P xs ys zs f g h = g refl
chosen false false P xs ys zs f g h = h refl refl

is_less : (n k : ℕ) → nat_lt n k ≡ true → n < k
is_less n k e = grind (arith, e)

is_more : (n k : ℕ) → (n == k) ≡ false → nat_lt n k ≡ false → k < n
is_more n k e f = grind (arith, e, f)

-- n before the others, in their place, or behind the first
pub placed_by : (n k : ℕ) (ks : List ℕ) (P : List ℕ → Type 0) → (n ≡ k → P (k ∷ ks)) → (n < k → P (n ∷ k ∷ ks)) → (k < n → P (k ∷ placed_in n ks)) → P (placed_in n (k ∷ ks))
placed_by n k ks P f g h =
    chosen (n == k) (nat_lt n k) P (k ∷ ks) (n ∷ k ∷ ks) (k ∷ placed_in n ks) (λ e. f ((Decides-eqb n k).0 e)) (λ e. g (is_less n k e)) (λ e l. h (is_more n k e l))

placed_rises : (low n : ℕ) (ks : List ℕ) → low < n → Rises low ks → Rises low (placed_in n ks)
placed_rises low n [] l h = (l, tt)
placed_rises low n (k ∷ ks) l h = placed_by n k ks (λ ns. Rises low ns) (λ e. h) (λ e. (l, (e, h.1))) (λ e. (h.0, placed_rises k n ks e h.1))

placed_ascends : (n : ℕ) (ks : List ℕ) → Ascends ks → Ascends (placed_in n ks)
placed_ascends n [] h = tt
placed_ascends n (k ∷ ks) h = placed_by n k ks Ascends (λ e. h) (λ e. (e, h)) (λ e. placed_rises k n ks e h)

ascending_ascends : (ns : List ℕ) → Ascends (ascending ns)
ascending_ascends [] = tt
ascending_ascends (n ∷ ns) = placed_ascends n (ascending ns) (ascending_ascends ns)

placed_among : (n j : ℕ) (ks : List ℕ) → (n ≡ j) ⊎ Among j ks → Among j (placed_in n ks)
placed_among n j [] h = h
placed_among n j (k ∷ ks) h = placed_by n k ks (Among j) (λ e. there e h) (λ e. h) (λ e. behind h (λ a. placed_among n j ks a))
  where
    there : n ≡ k → (n ≡ j) ⊎ Among j (k ∷ ks) → Among j (k ∷ ks)
    there e (inl a) = inl (sym e ∙ a)
    there e (inr a) = a

    behind : (n ≡ j) ⊎ Among j (k ∷ ks) → ((n ≡ j) ⊎ Among j ks → Among j (placed_in n ks)) → Among j (k ∷ placed_in n ks)
    behind (inl a) rest = inr (rest (inl a))
    behind (inr (inl a)) rest = inl a
    behind (inr (inr a)) rest = inr (rest (inr a))

among_placed : (n j : ℕ) (ks : List ℕ) → Among j (placed_in n ks) → (n ≡ j) ⊎ Among j ks
among_placed n j [] h = h
among_placed n j (k ∷ ks) h = placed_by n k ks (λ ns. Among j ns → (n ≡ j) ⊎ Among j (k ∷ ks)) (λ e g. inr g) (λ e g. g) (λ e g. behind g (λ a. among_placed n j ks a)) h
  where
    further : (n ≡ j) ⊎ Among j ks → (n ≡ j) ⊎ Among j (k ∷ ks)
    further (inl a) = inl a
    further (inr a) = inr (inr a)

    behind : Among j (k ∷ placed_in n ks) → (Among j (placed_in n ks) → (n ≡ j) ⊎ Among j ks) → (n ≡ j) ⊎ Among j (k ∷ ks)
    behind (inl a) rest = inr (inl a)
    behind (inr a) rest = further (rest a)

either_way : {A B C : Type 0} → A ⊎ B → (B → C) → A ⊎ C
either_way (inl a) f = inl a
either_way (inr b) f = inr (f b)

ascending_among : (ns : List ℕ) (j : ℕ) → Among j ns → Among j (ascending ns)
ascending_among [] j h = h
ascending_among (n ∷ ns) j h = placed_among n j (ascending ns) (either_way h (λ a. ascending_among ns j a))

among_ascending : (ns : List ℕ) (j : ℕ) → Among j (ascending ns) → Among j ns
among_ascending [] j h = h
among_ascending (n ∷ ns) j h = either_way (among_placed n j (ascending ns) h) (λ a. among_ascending ns j a)

-- ---- literals

contained_number : (literals : List Literal) (k : ℕ) (d : Literal) (n : ℕ) → k < length literals → slice_index_or literals k d ≡ d → d.number ≡ n → Among n (numbers_of literals)
contained_number [] k d n h e f = absurd (omega arith)
contained_number (l ∷ ls) zero d n h e f = inl (ap (λ (x : Literal). x.number) e ∙ f)
contained_number (l ∷ ls) (suc k) d n h e f = inr (contained_number ls k d n (omega arith) e f)

literal_among : (literals : List Literal) (n : ℕ) → IsLiteral literals 0 false n → Among n (numbers_of literals)
literal_among literals n h = contained_number literals h.1.0 h.0 n h.1.1 h.1.2 h.2

among_literal : (literals : List Literal) (n : ℕ) → Among n (numbers_of literals) → IsLiteral literals 0 false n
among_literal [] n h = absurd h
among_literal (l ∷ ls) n (inl e) = (l, (0, omega arith, refl), e)
among_literal (l ∷ ls) n (inr a) = let r = among_literal ls n a in (r.0, (suc r.1.0, omega (arith, r.1.1), r.1.2), r.2)

-- ---- the fact of numbers

abbrev OneAmong : List ℕ → ℤ → Type 0
OneAmong ns x = (n : ℕ) × (x ≡ pos n) × Among n ns

module _ (v : ℕ) (point : List ℤ) where
  abbrev value : ℤ
  value = get_or point v (pos 0)

  one_meets : (ns : List ℕ) → meet_one point (map (λ n. All (between n n v)) ns) ≡ true → OneAmong ns value
  one_meets [] h = absurd (cc)
  one_meets (n ∷ ns) h =
      on (one_true (meets (All (between n n v)) point) (meet_one point (map (λ k. All (between k k v)) ns)) h) (λ t. one_meets ns t)
    where
      on : (meets (All (between n n v)) point ≡ true) ⊎ (meet_one point (map (λ k. All (between k k v)) ns) ≡ true) → (meet_one point (map (λ k. All (between k k v)) ns) ≡ true → OneAmong ns value) → OneAmong (n ∷ ns) value
      on (inl t) rest = let b = between_meets n n v point (sym (meets_all (between n n v) point) ∙ t) in (b.0, b.1, inl (omega (arith, b.2, b.3)))
      on (inr t) rest = let r = rest t in (r.0, r.1, inr r.2)

  meets_one : (ns : List ℕ) (k : ℕ) → value ≡ pos k → Among k ns → meet_one point (map (λ n. All (between n n v)) ns) ≡ true
  meets_one [] k e h = absurd h
  meets_one (n ∷ ns) k e (inl same) =
      left_true (meets (All (between n n v)) point) (meet_one point (map (λ j. All (between j j v)) ns)) (meets_all (between n n v) point ∙ meets_between n n v point k e (omega (arith, same)) (omega (arith, same)))
  meets_one (n ∷ ns) k e (inr a) = right_true (meets (All (between n n v)) point) (meet_one point (map (λ j. All (between j j v)) ns)) (meets_one ns k e a)

  gaps_meet : (b : Bool) (n : ℕ) (ns : List ℕ) → has_gaps (n ∷ ns) ≡ b → Between n (last_of n ns) value → meet_all point (one_of_numbers b (n ∷ ns) v) ≡ true → OneAmong (n ∷ ns) value
  gaps_meet true n ns e b h =
      let any = Any (map (λ k. All (between k k v)) (n ∷ ns)) in
      one_meets (n ∷ ns) (sym (meets_any (map (λ k. All (between k k v)) (n ∷ ns)) point) ∙ (both {a = meets any point} h).0)
  gaps_meet false n ns e b h = (b.0, b.1, no_gap n ns e b.0 b.2 b.3)

  meets_gaps : (b : Bool) (ns : List ℕ) (k : ℕ) → value ≡ pos k → Among k ns → meet_all point (one_of_numbers b ns v) ≡ true
  meets_gaps true ns k e a = and_true (meets_any (map (λ n. All (between n n v)) ns) point ∙ meets_one ns k e a) refl
  meets_gaps false ns k e a = refl

  numbers_meet : (ns : List ℕ) → meets (numbers_form ns v) point ≡ true → OneAmong ns value
  numbers_meet [] h = absurd (no (sym (meets_any [] point) ∙ h))
    where
      no : false ≡ true → ⊥
      no e = cc
  numbers_meet (n ∷ ns) h =
      let last = one_of_numbers (has_gaps (n ∷ ns)) (n ∷ ns) v in
      let s = split point (between n (last_of n ns) v) last (sym (meets_all (between n (last_of n ns) v ++ last) point) ∙ h) in
      gaps_meet (has_gaps (n ∷ ns)) n ns refl (between_meets n (last_of n ns) v point s.0) s.1

  meets_numbers : (ns : List ℕ) → Ascends ns → OneAmong ns value → meets (numbers_form ns v) point ≡ true
  meets_numbers [] a h = absurd h.2
  meets_numbers (n ∷ ns) a h =
      let last = one_of_numbers (has_gaps (n ∷ ns)) (n ∷ ns) v in
      let b = ends_bound n ns a h.0 h.2 in
      meets_all (between n (last_of n ns) v ++ last) point
      ∙ join point (between n (last_of n ns) v) last (meets_between n (last_of n ns) v point h.0 h.1 b.0 b.1) (meets_gaps (has_gaps (n ∷ ns)) (n ∷ ns) h.0 h.1 h.2)

  abbrev HasNumberOf : Domain → Type 0
  HasNumberOf t = (n : ℕ) × (value ≡ pos n) × IsNumberOf t n

  below_from : (size n : ℕ) → n ≤ 2 ^ size - 1 → n < 2 ^ size
  below_from size n h = let p = pow-sub-lt size {a = 1} (omega arith) in omega (arith, h, p)

  literals_meet : (literals : List Literal) (size : ℕ) (valid : Bool) → meets (literals_form literals size valid v) point ≡ true → HasNumberOf (Enumeration literals size valid)
  literals_meet literals size true h =
      let b = between_meets 0 (2 ^ size - 1) v point (sym (meets_all (between 0 (2 ^ size - 1) v) point) ∙ h) in (b.0, b.1, below_from size b.0 b.3)
  literals_meet literals size false h =
      let r = numbers_meet (ascending (numbers_of literals)) h in (r.0, r.1, among_literal literals r.0 (among_ascending (numbers_of literals) r.0 r.2))

  meets_literals : (literals : List Literal) (size : ℕ) (valid : Bool) → HasNumberOf (Enumeration literals size valid) → meets (literals_form literals size valid v) point ≡ true
  meets_literals literals size true h = meets_all (between 0 (2 ^ size - 1) v) point ∙ meets_between 0 (2 ^ size - 1) v point h.0 h.1 (omega arith) (omega (arith, h.2))
  meets_literals literals size false h =
      meets_numbers (ascending (numbers_of literals)) (ascending_ascends (numbers_of literals)) (h.0, h.1, ascending_among (numbers_of literals) h.0 (literal_among literals h.0 h.2))

  type_meets : (t : Domain) → meets (type_form t v) point ≡ true → HasNumberOf t
  type_meets (Integer first last size) h = let b = between_meets first last v point (sym (meets_all (between first last v) point) ∙ h) in (b.0, b.1, (b.2, b.3))
  type_meets (Enumeration literals size valid) h = literals_meet literals size valid h

  meets_type : (t : Domain) → HasNumberOf t → meets (type_form t v) point ≡ true
  meets_type (Integer first last size) h = meets_all (between first last v) point ∙ meets_between first last v point h.0 h.1 h.2.0 h.2.1
  meets_type (Enumeration literals size valid) h = meets_literals literals size valid h

pub types_have_forms : (point : List ℤ) → TypesHaveForms type_form point
types_have_forms point t v = (λ h. type_meets v point t h, λ h. meets_type v point t h)
