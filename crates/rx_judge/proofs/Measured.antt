-- The numbers of scalar types that stand are those of their sizes.
use Rattle.std.proofs.Common.{◌≡◌, ◌≢◌, ◌∙◌, ap, sym, refl, subst, ℕ, ◌+◌, ◌-◌, ◌<◌, ◌≤◌, ◌^◌, Bool, true, false, not, ◌&&◌, ◌||◌, List, [], ◌∷◌, ◌++◌, length, map, append_assoc, Option, Some, None, Ok, Err, arith}
use Rattle.std.specs.Prelude.{ℤ, pos, negsuc, nat_abs, int_le, int_lt, slice_get, if◌then◌else◌}
use Rattle.std.specs.Ordering.{int_eq}
use Rattle.std.specs.List.{AllByRecursion}
use Rattle.std.proofs.lemmas.Int.{ints}
use Rattle.std.proofs.lemmas.Nat.{pow_pos}
use Rattle.std.proofs.lemmas.Bool.Decides.{nat_tests}
use Rattle.rx_syntax.specs.declared.tree.Named.{Named}
use Rattle.rx_syntax.specs.declared.tree.ExprTree.{ExprTree}
use Rattle.rx_syntax.specs.declared.tree.LiteralTree.{LiteralTree}
use Rattle.rx_syntax.specs.declared.tree.EnumAspect.{EnumAspect}
use Rattle.rx_syntax.specs.declared.tree.DefTree.{DefTree}
use Rattle.rx_syntax.specs.declared.tree.DefTree.TheVariants as def
use Rattle.std.specs.Option.{option_map, IfSome}
use Rattle.rx_types.specs.declared.scalar.Literal.{Literal}
use Rattle.rx_types.specs.declared.scalar.ScalarType.{ScalarType}
use Rattle.rx_types.specs.Domain.{domain_of}
use Rattle.rx_types.specs.Domain.{Domain, Integer, Enumeration, numbers_of as literal_numbers, EachPair}
use Rattle.rx_judge.specs.Meaning.{Meaning, ◌>>=◌, each_from}
use Rattle.rx_judge.specs.Scalar.{spelled, static_value, is_size, unsigned, is_range, range, number_of_literal, numbers_of, size_of_aspects, first_some, always_valid, given, number_at, literal_at, is_among, is_distinct, is_some_list, are_numbers, are_literals, enumeration, definition, IsMeasured}
use Rattle.rx_judge.proofs.Lows.{both_true}
use Rattle.rx_judge.proofs.Meanings.{err_differs, ok_same, bind_ok, if_ok}
use Rattle.rx_syntax.specs.declared.rule.Refusal.{Refusal}
use Rattle.rx_syntax.specs.declared.rule.Rule.TheVariants as rule

size_facts : (z : ℤ) → is_size z ≡ true → (0 < nat_abs z) × (nat_abs z < 64)
size_facts (pos k) h = (grind (arith, ints, nat_tests), grind (arith, ints, nat_tests))
size_facts (negsuc k) h = absurd (cc)

below_pow : (k : ℕ) → 2 ^ k - 1 < 2 ^ k
below_pow k = omega (arith, pow_pos k)

unsigned_measured : (name : Named) (e : ExprTree) (d : Domain) → unsigned name e ≡ Ok d → IsMeasured d
unsigned_measured name e d h =
    let b = bind_ok (static_value name.word e) (λ n. if is_size n then Ok (Integer 0 (2 ^ nat_abs n - 1) (nat_abs n)) else Err (record { rule = rule.BadRange; place = name.place; word = Some name.word })) d h in
    let q = if_ok (is_size b.0) (Integer 0 (2 ^ nat_abs b.0 - 1) (nat_abs b.0)) d (record { rule = rule.BadRange; place = name.place; word = Some name.word }) b.2 in
    let s = size_facts b.0 q.0 in
    subst (λ w. IsMeasured w) q.1 (s.0, s.1, omega arith, below_pow (nat_abs b.0))

range_facts : (a b : ℤ) (n : ℕ) → int_le (pos 0) a ≡ true → int_le a b ≡ true → int_lt b (pos n) ≡ true → (nat_abs a ≤ nat_abs b) × (nat_abs b < n)
range_facts (pos a) (pos b) n h k l = (grind (arith, ints, nat_tests), grind (arith, ints, nat_tests))
range_facts (pos a) (negsuc b) n h k l = absurd (cc)
range_facts (negsuc a) b n h k l = absurd (cc)

range_measured : (name : Named) (x y z : ExprTree) (d : Domain) → range name x y z ≡ Ok d → IsMeasured d
range_measured name x y z d h =
    let r : Refusal = record { rule = rule.BadRange; place = name.place; word = Some name.word } in
    let f = λ (a b n : ℤ). if is_range a b n then Ok (Integer (nat_abs a) (nat_abs b) (nat_abs n)) else Err r in
    let p = bind_ok (static_value name.word x) (λ a. static_value name.word y >>= (λ b. static_value name.word z >>= (λ n. f a b n))) d h in
    let q = bind_ok (static_value name.word y) (λ b. static_value name.word z >>= (λ n. f p.0 b n)) d p.2 in
    let t = bind_ok (static_value name.word z) (λ n. f p.0 q.0 n) d q.2 in
    let i = if_ok (is_range p.0 q.0 t.0) (Integer (nat_abs p.0) (nat_abs q.0) (nat_abs t.0)) d r t.2 in
    let c = both_true (is_size t.0 && int_le (pos 0) p.0 && int_le p.0 q.0) (int_lt q.0 (pos (2 ^ nat_abs t.0))) i.0 in
    let e = both_true (is_size t.0 && int_le (pos 0) p.0) (int_le p.0 q.0) c.0 in
    let g = both_true (is_size t.0) (int_le (pos 0) p.0) e.0 in
    let s = size_facts t.0 g.0 in
    let w = range_facts p.0 q.0 (2 ^ nat_abs t.0) g.1 e.1 c.1 in
    subst (λ w. IsMeasured w) i.1 (s.0, s.1, w.0, w.1)

-- ---- literals

at_length : (before : List ℤ) (z : ℤ) (zs : List ℤ) → slice_get (before ++ z ∷ zs) (length before) ≡ Some z
at_length [] z zs = refl
at_length (y ∷ before) z zs = at_length before z zs

length_push : (before : List ℤ) (z : ℤ) → length (before ++ z ∷ []) ≡ length before + 1
length_push [] z = refl
length_push (y ∷ before) z = let e = length_push before z in omega (arith, e)

-- the numbers of the literals are those that were given or counted
along : (owner : List ℕ) (ls : List LiteralTree) (i j : ℕ) (before zs : List ℤ) (lits : List Literal) → each_from (number_of_literal owner) i ls ≡ Ok zs → each_from (literal_at (before ++ zs)) j ls ≡ Ok lits → j ≡ length before → literal_numbers lits ≡ map nat_abs zs
along owner [] i j before zs lits h k e = ap literal_numbers (sym (ok_same [] lits k)) ∙ ap (λ ys. map nat_abs ys) (ok_same [] zs h)
along owner (l ∷ ls) i j before zs lits h k e =
    let p = bind_ok (number_of_literal owner i l) (λ y. each_from (number_of_literal owner) (i + 1) ls >>= (λ ys. Ok (y ∷ ys))) zs h in
    let q = bind_ok (each_from (number_of_literal owner) (i + 1) ls) (λ ys. Ok (p.0 ∷ ys)) zs p.2 in
    let z : p.0 ∷ q.0 ≡ zs = ok_same (p.0 ∷ q.0) zs q.2 in
    let k' = subst (λ ys. each_from (literal_at (before ++ ys)) j (l ∷ ls) ≡ Ok lits) (sym z) k in
    let all = before ++ p.0 ∷ q.0 in
    let s = bind_ok (literal_at all j l) (λ y. each_from (literal_at all) (j + 1) ls >>= (λ ys. Ok (y ∷ ys))) lits k' in
    let t = bind_ok (each_from (literal_at all) (j + 1) ls) (λ ys. Ok (s.0 ∷ ys)) lits s.2 in
    let n = bind_ok (spelled l.name) (λ w. Ok (record { name = w; number = number_at (slice_get all j) })) s.0 s.1 in
    let number : s.0.number ≡ nat_abs p.0 = ap (λ (x : Literal). x.number) (sym (ok_same _ s.0 n.2)) ∙ ap number_at (ap (λ m. slice_get all m) e ∙ at_length before p.0 q.0) in
    let rest = along owner ls (i + 1) (j + 1) (before ++ p.0 ∷ []) q.0 t.0 q.1
    (subst (λ ys. each_from (literal_at ys) (j + 1) ls ≡ Ok t.0) (sym (append_assoc before (p.0 ∷ []) q.0)) t.1)
    (ap (λ m. m + 1) e ∙ sym (length_push before p.0)) in
    ap literal_numbers (sym (ok_same (s.0 ∷ t.0) lits t.2)) ∙ ap (λ m. m ∷ literal_numbers t.0) number ∙ ap (λ ms. nat_abs p.0 ∷ ms) rest ∙ ap (λ ys. map nat_abs ys) z

below_if : (n : ℕ) (z : ℤ) → int_le (pos 0) z && int_lt z (pos n) ≡ true → nat_abs z < n
below_if n (pos z) h = grind (arith, ints, nat_tests)
below_if n (negsuc z) h = absurd (cc)

all_below : (n : ℤ) (zs : List ℤ) → are_numbers n zs ≡ true → AllByRecursion (λ m. m < 2 ^ nat_abs n) (map nat_abs zs)
all_below n [] h = tt
all_below n (z ∷ zs) h = let b = both_true (int_le (pos 0) z && int_lt z (pos (2 ^ nat_abs n))) (are_numbers n zs) h in (below_if (2 ^ nat_abs n) z b.0, all_below n zs b.1)

literals_below : (m : ℕ) (ls : List Literal) → AllByRecursion (λ k. k < m) (literal_numbers ls) → AllByRecursion (λ l. l.number < m) ls
literals_below m [] h = tt
literals_below m (l ∷ ls) h = (h.0, literals_below m ls h.1)

not_true : (b : Bool) → not b ≡ true → b ≡ false
not_true false h = refl
not_true true h = absurd (cc)

either_false : (a b : Bool) → (a || b) ≡ false → (a ≡ false) × (b ≡ false)
either_false false false h = (refl, refl)
either_false false true h = absurd (cc)
either_false true b h = absurd (cc)

apart_numbers : (n : ℕ) (y z : ℤ) → int_le (pos 0) y && int_lt y (pos n) ≡ true → int_le (pos 0) z && int_lt z (pos n) ≡ true → int_eq y z ≡ false → nat_abs y ≢ nat_abs z
apart_numbers n (pos y) (pos z) h k e = λ g. absurd (grind (arith, ints, nat_tests))
apart_numbers n (negsuc y) z h k e = absurd (cc)
apart_numbers n (pos y) (negsuc z) h k e = absurd (cc)

apart_all : (n : ℤ) (y : ℤ) (zs : List ℤ) → int_le (pos 0) y && int_lt y (pos (2 ^ nat_abs n)) ≡ true → are_numbers n zs ≡ true → is_among y zs ≡ false → AllByRecursion (λ m. nat_abs y ≢ m) (map nat_abs zs)
apart_all n y [] h k e = tt
apart_all n y (z ∷ zs) h k e =
    let b = both_true (int_le (pos 0) z && int_lt z (pos (2 ^ nat_abs n))) (are_numbers n zs) k in
    let c = either_false (int_eq y z) (is_among y zs) e in
    (apart_numbers (2 ^ nat_abs n) y z h b.0 c.0, apart_all n y zs h b.1 c.1)

pairs : (n : ℤ) (zs : List ℤ) → are_numbers n zs ≡ true → is_distinct zs ≡ true → EachPair (λ a b. a ≢ b) (map nat_abs zs)
pairs n [] h k = tt
pairs n (z ∷ zs) h k =
    let b = both_true (int_le (pos 0) z && int_lt z (pos (2 ^ nat_abs n))) (are_numbers n zs) h in
    let c = both_true (not (is_among z zs)) (is_distinct zs) k in
    (apart_all n z zs b.0 b.1 (not_true (is_among z zs) c.0), pairs n zs b.1 c.1)

other_literals : (m : ℕ) (ls : List Literal) → AllByRecursion (λ k. m ≢ k) (literal_numbers ls) → AllByRecursion (λ l. m ≢ l.number) ls
other_literals m [] h = tt
other_literals m (l ∷ ls) h = (h.0, other_literals m ls h.1)

literal_pairs : (ls : List Literal) → EachPair (λ a b. a ≢ b) (literal_numbers ls) → EachPair (λ a b. a.number ≢ b.number) ls
literal_pairs [] h = tt
literal_pairs (l ∷ ls) h = (other_literals l.number ls h.0, literal_pairs ls h.1)

some_literals : (ls : List Literal) (zs : List ℤ) → literal_numbers ls ≡ map nat_abs zs → is_some_list zs ≡ true → 0 < length ls
some_literals (l ∷ ls) zs e h = omega arith
some_literals [] [] e h = absurd (cc)
some_literals [] (z ∷ zs) e h = absurd (cc)

taken : {A : Type 0} (b : Bool) (m : Meaning A) (y : A) (r : Refusal) → (if b then m else Err r) ≡ Ok y → (b ≡ true) × (m ≡ Ok y)
taken true m y r h = (refl, h)
taken false m y r h = absurd (err_differs r y h)

enumeration_measured : (name : Named) (ls : List LiteralTree) (xs : List EnumAspect) (d : Domain) → enumeration name ls xs ≡ Ok d → IsMeasured d
enumeration_measured name ls xs d h =
    let r : Refusal = record { rule = rule.BadRange; place = name.place; word = Some name.word } in
    let made = λ (zs : List ℤ) (n : ℤ). (each_from (literal_at zs) 0 ls >>= (λ literals. Ok (Enumeration literals (nat_abs n) (always_valid xs)))) in
    let last = λ (zs : List ℤ) (n : ℤ). if are_literals n zs then made zs n else Err r in
    let p = bind_ok (numbers_of name.word ls) (λ zs. size_of_aspects name.word xs >>= (λ sizes. given name (first_some sizes) >>= (λ n. last zs n))) d h in
    let q = bind_ok (size_of_aspects name.word xs) (λ sizes. given name (first_some sizes) >>= (λ n. last p.0 n)) d p.2 in
    let t = bind_ok (given name (first_some q.0)) (λ n. last p.0 n) d q.2 in
    let i = taken (are_literals t.0 p.0) (made p.0 t.0) d r t.2 in
    let m = bind_ok (each_from (literal_at p.0) 0 ls) (λ literals. Ok (Enumeration literals (nat_abs t.0) (always_valid xs))) d i.1 in
    let a = both_true (is_size t.0 && is_some_list p.0 && are_numbers t.0 p.0) (is_distinct p.0) i.0 in
    let b = both_true (is_size t.0 && is_some_list p.0) (are_numbers t.0 p.0) a.0 in
    let c = both_true (is_size t.0) (is_some_list p.0) b.0 in
    let s = size_facts t.0 c.0 in
    let e = along name.word ls 0 0 [] p.0 m.0 p.1 m.1 refl in
    subst (λ w. IsMeasured w) (ok_same _ d m.2) (
      s.0,
      s.1,
      record {
        some = some_literals m.0 p.0 e c.1;
        below = literals_below (2 ^ nat_abs t.0) m.0 (subst (λ ms. AllByRecursion (λ k. k < 2 ^ nat_abs t.0) ms) (sym e) (all_below t.0 p.0 b.1));
        numbers = literal_pairs m.0 (subst (λ ms. EachPair (λ x y. x ≢ y) ms) (sym e) (pairs t.0 p.0 b.1 a.1));
      },
    )

some_same : {A : Type 0} (x y : A) → Some x ≡ Some y → x ≡ y
some_same x y h = cc

none_some : {A : Type 0} (x : A) → None ≡ Some x → ⊥
none_some x h = cc

pub measured : (name : Named) (tree : DefTree) (d : Domain) → definition name tree ≡ Ok (Some d) → IsMeasured d
measured name (def.Unsigned e) d h = let b = bind_ok (unsigned name e) (λ s. Ok (Some s)) (Some d) h in unsigned_measured name e d (b.1 ∙ ap (λ x. Ok x) (some_same b.0 d (ok_same (Some b.0) (Some d) b.2)))
measured name (def.Range x y z) d h = let b = bind_ok (range name x y z) (λ s. Ok (Some s)) (Some d) h in range_measured name x y z d (b.1 ∙ ap (λ x. Ok x) (some_same b.0 d (ok_same (Some b.0) (Some d) b.2)))
measured name (def.Enumeration ls xs) d h = let b = bind_ok (enumeration name ls.items xs.items) (λ s. Ok (Some s)) (Some d) h in enumeration_measured name ls.items xs.items d (b.1 ∙ ap (λ x. Ok x) (some_same b.0 d (ok_same (Some b.0) (Some d) b.2)))
measured name other d h = absurd (none_some d (ok_same None (Some d) h))

-- the same of what the code answers
pub measured_if : (name : Named) (tree : DefTree) (o : Option ScalarType) → definition name tree ≡ Ok (option_map domain_of o) → IfSome o (λ t. IsMeasured (domain_of t))
measured_if name tree None h = tt
measured_if name tree (Some t) h = measured name tree (domain_of t) h
