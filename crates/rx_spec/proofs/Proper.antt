-- Scalar types whose definitions stand are proper, and their numbers have 64 bits.
use Rattle.std.proofs.Common.{◌≡◌, ◌∙◌, ap, sym, subst, ℕ, ◌+◌, ◌-◌, ◌^◌, ◌<◌, ◌≢◌, Bool, true, false, List, [], ◌∷◌, map, Some, None, Ok, Err, arith}
use Rattle.std.specs.Prelude.{ℤ, nat_abs, slice_get, if◌then◌else◌}
use Rattle.std.specs.List.{AllByRecursion, list_all}
use Rattle.std.proofs.lemmas.Nat.{pow_pos, pow_below}
use Rattle.std.proofs.lemmas.Option.{none-some, same_Some}
use Rattle.rx_syntax.specs.declared.tree.Named.{Named}
use Rattle.rx_syntax.specs.declared.tree.ExprTree.{ExprTree}
use Rattle.rx_syntax.specs.declared.tree.DefTree.{DefTree}
use Rattle.rx_syntax.specs.declared.tree.DefTree.TheVariants as def
use Rattle.rx_syntax.specs.declared.tree.LiteralTree.{LiteralTree}
use Rattle.rx_syntax.specs.declared.tree.EnumAspect.{EnumAspect}
use Rattle.rx_types.specs.declared.scalar.Literal.{Literal}
use Rattle.rx_types.specs.Domain.{Domain, Integer, Enumeration, greatest, greatest_literal, numbers_of as literal_numbers, greatest_of, IsProper, EachPair, Differ}
use Rattle.rx_types.specs.Names.{IsSameName, is_name_byte}
use Rattle.rx_judge.specs.Meaning.{Meaning, ◌>>=◌, each_from, all_stand_from}
use Rattle.rx_judge.specs.Scalar.{spelled, static_value, is_size, is_range, numbers_of, size_of_aspects, first_some, always_valid, given, are_literals, literal_at, number_at, enumeration, unsigned, range, definition, IsMeasured}
use Rattle.rx_syntax.specs.declared.rule.Refusal.{Refusal}
use Rattle.rx_syntax.specs.declared.rule.Rule.TheVariants as rule
use Rattle.rx_judge.proofs.Measured.{measured}
use Rattle.rx_judge.proofs.Meanings.{bind_ok, ok_same, if_ok}
use Rattle.rx_elab.specs.Stand.{Known, literal_fresh, enum_aspect_stands, definition_stands}
use Rattle.rx_elab.specs.Through.{through}
use Rattle.rx_spec.proofs.Steps.{taken}
use Rattle.rx_spec.proofs.Apart.{Fresh, none_fresh, more_fresh, is_fresh, pairs_named}

-- ---- names of literals

abbrev literal_names : List Literal → List (List ℕ)
literal_names ls = map (λ l. l.name) ls

abbrev tree_names : List LiteralTree → List (List ℕ)
tree_names ls = map (λ l. l.name.word) ls

pub spelled_same : (n : Named) (w : List ℕ) → spelled n ≡ Ok w → n.word ≡ w
spelled_same n w h = (if_ok (list_all is_name_byte n.word) n.word w (record { rule = rule.UnknownName; place = n.place; word = Some n.word }) h).1

names_along : (zs : List ℤ) (i : ℕ) (ls : List LiteralTree) (lits : List Literal) → each_from (literal_at zs) i ls ≡ Ok lits → tree_names ls ≡ literal_names lits
names_along zs i [] lits h = ap literal_names (ok_same [] lits h)
names_along zs i (l ∷ ls) lits h =
    let one = bind_ok (literal_at zs i l) (λ (y : Literal). each_from (literal_at zs) (i + 1) ls >>= (λ ys. Ok (y ∷ ys))) lits h in
    let rest = bind_ok (each_from (literal_at zs) (i + 1) ls) (λ (ys : List Literal). Ok (one.0 ∷ ys)) lits one.2 in
    let word = bind_ok (spelled l.name) (λ (w : List ℕ). Ok (record { name = w; number = number_at (slice_get zs i) })) one.0 one.1 in
    let name : l.name.word ≡ one.0.name = spelled_same l.name word.0 word.1 ∙ ap (λ (x : Literal). x.name) (ok_same _ one.0 word.2) in
    ap (λ w. w ∷ tree_names ls) name ∙ ap (λ ws. one.0.name ∷ ws) (names_along zs (i + 1) ls rest.0 rest.1) ∙ ap literal_names (ok_same (one.0 ∷ rest.0) lits rest.2)

literals_fresh : (known after : Known) (ls : List LiteralTree) → through literal_fresh known ls ≡ Ok after → Fresh known (tree_names ls)
literals_fresh known after [] h = none_fresh known
literals_fresh known after (l ∷ ls) h =
    let one = bind_ok (literal_fresh known l) (λ (t : Known). through literal_fresh t ls) after h in
    let f = is_fresh known one.0 l.name one.1 in
    let rest = literals_fresh one.0 after ls one.2 in
    more_fresh known l.name.word (tree_names ls) f.0 (subst (λ (k : Known). Fresh k (tree_names ls)) f.1 rest)

differ_all : (l : Literal) (ls : List Literal) → AllByRecursion (λ b. IsSameName l.name b.name → ⊥) ls → AllByRecursion (λ b. l.number ≢ b.number) ls → AllByRecursion (λ b. Differ l b) ls
differ_all l [] h k = tt
differ_all l (x ∷ ls) h k = (record { names = h.0; numbers = k.0 }, differ_all l ls h.1 k.1)

differ_pairs : (ls : List Literal) → EachPair (λ a b. IsSameName a.name b.name → ⊥) ls → EachPair (λ a b. a.number ≢ b.number) ls → EachPair Differ ls
differ_pairs [] h k = tt
differ_pairs (l ∷ ls) h k = (differ_all l ls h.0 k.0, differ_pairs ls h.1 k.1)

-- ---- definitions

-- an enumeration has the literals of its text
record IsOf (ls : List LiteralTree) (d : Domain) : Type 0 where
  literals : List Literal
  size : ℕ
  always : Bool
  is : Enumeration literals size always ≡ d
  names : tree_names ls ≡ literal_names literals

is_of : (name : Named) (ls : List LiteralTree) (xs : List EnumAspect) (d : Domain) → enumeration name ls xs ≡ Ok d → IsOf ls d
is_of name ls xs d h =
    let r : Refusal = record { rule = rule.BadRange; place = name.place; word = Some name.word } in
    let made = λ (zs : List ℤ) (n : ℤ). (each_from (literal_at zs) 0 ls >>= (λ literals. Ok (Enumeration literals (nat_abs n) (always_valid xs)))) in
    let last = λ (zs : List ℤ) (n : ℤ). if are_literals n zs then made zs n else Err r in
    let p = bind_ok (numbers_of name.word ls) (λ zs. size_of_aspects name.word xs >>= (λ sizes. given name (first_some sizes) >>= (λ n. last zs n))) d h in
    let q = bind_ok (size_of_aspects name.word xs) (λ sizes. given name (first_some sizes) >>= (λ n. last p.0 n)) d p.2 in
    let t = bind_ok (given name (first_some q.0)) (λ n. last p.0 n) d q.2 in
    let i = (taken (are_literals t.0 p.0) (made p.0 t.0) d r t.2).1 in
    let m = bind_ok (each_from (literal_at p.0) 0 ls) (λ literals. Ok (Enumeration literals (nat_abs t.0) (always_valid xs))) d i in
    record { literals = m.0; size = nat_abs t.0; always = always_valid xs; is = ok_same (Enumeration m.0 (nat_abs t.0) (always_valid xs)) d m.2; names = names_along p.0 0 ls m.0 m.1 }

proper_enumeration : (known : Known) (ls : List LiteralTree) (d : Domain) → IsOf ls d → IsMeasured d → Fresh known (tree_names ls) → IsProper d
proper_enumeration known ls d e m f =
    let n = subst (λ (x : Domain). IsMeasured x) (sym e.is) m in
    let apart = pairs_named (λ (l : Literal). l.name) e.literals (subst (λ ws. EachPair (λ a b. IsSameName a b → ⊥) ws) e.names f.apart) in
    subst (λ (x : Domain). IsProper x) e.is (n.0, n.1, record { some = n.2.some; below = n.2.below; differ = differ_pairs e.literals apart n.2.numbers })

proper_integer : (a b n : ℕ) (d : Domain) → Integer a b n ≡ d → IsMeasured d → IsProper d
proper_integer a b n d e m = subst (λ (x : Domain). IsProper x) e (subst (λ (x : Domain). IsMeasured x) (sym e) m)

unsigned_integer : (name : Named) (e : ExprTree) (d : Domain) → unsigned name e ≡ Ok d → (a b n : ℕ) × (Integer a b n ≡ d)
unsigned_integer name e d h =
    let r : Refusal = record { rule = rule.BadRange; place = name.place; word = Some name.word } in
    let v = bind_ok (static_value name.word e) (λ n. if is_size n then Ok (Integer 0 (2 ^ nat_abs n - 1) (nat_abs n)) else Err r) d h in
    let q = if_ok (is_size v.0) (Integer 0 (2 ^ nat_abs v.0 - 1) (nat_abs v.0)) d r v.2 in
    (0, 2 ^ nat_abs v.0 - 1, nat_abs v.0, q.1)

range_integer : (name : Named) (x y z : ExprTree) (d : Domain) → range name x y z ≡ Ok d → (a b n : ℕ) × (Integer a b n ≡ d)
range_integer name x y z d h =
    let r : Refusal = record { rule = rule.BadRange; place = name.place; word = Some name.word } in
    let f = λ (a b n : ℤ). if is_range a b n then Ok (Integer (nat_abs a) (nat_abs b) (nat_abs n)) else Err r in
    let p = bind_ok (static_value name.word x) (λ a. static_value name.word y >>= (λ b. static_value name.word z >>= (λ n. f a b n))) d h in
    let q = bind_ok (static_value name.word y) (λ b. static_value name.word z >>= (λ n. f p.0 b n)) d p.2 in
    let t = bind_ok (static_value name.word z) (λ n. f p.0 q.0 n) d q.2 in
    let i = if_ok (is_range p.0 q.0 t.0) (Integer (nat_abs p.0) (nat_abs q.0) (nat_abs t.0)) d r t.2 in
    (nat_abs p.0, nat_abs q.0, nat_abs t.0, i.1)

meant : (m : Meaning Domain) (d : Domain) → (m >>= (λ s. Ok (Some s))) ≡ Ok (Some d) → m ≡ Ok d
meant m d h = let b = bind_ok m (λ (s : Domain). Ok (Some s)) (Some d) h in b.1 ∙ ap (λ x. Ok x) (same_Some b.0 d (ok_same (Some b.0) (Some d) b.2))

-- a definition that stands, with what is known of literals, defines a proper type
pub proper : (name : Named) (tree : DefTree) (d : Domain) (known after : Known) → definition name tree ≡ Ok (Some d) → definition_stands known tree ≡ Ok after → IsProper d
proper name (def.Unsigned e) d known after h k = let i = unsigned_integer name e d (meant (unsigned name e) d h) in proper_integer i.0 i.1 i.2 d i.3 (measured name (def.Unsigned e) d h)
proper name (def.Range x y z) d known after h k = let i = range_integer name x y z d (meant (range name x y z) d h) in proper_integer i.0 i.1 i.2 d i.3 (measured name (def.Range x y z) d h)
proper name (def.Enumeration ls xs) d known after h k =
    let stands = bind_ok (through literal_fresh known ls.items) (λ (t : Known). all_stand_from (enum_aspect_stands xs.items) 0 xs.items >>= (λ u. Ok t)) after k in
    let fresh = literals_fresh known stands.0 ls.items stands.1 in
    proper_enumeration known ls.items d (is_of name ls.items xs.items d (meant (enumeration name ls.items xs.items) d h)) (measured name (def.Enumeration ls xs) d h) fresh
proper name other d known after h k = absurd (none-some d (ok_same None (Some d) h))

-- ---- numbers of 64 bits

pub below_64 : (size n : ℕ) → size < 64 → n < 2 ^ size → n < 2 ^ 64
below_64 size n h k = let p = pow_below size 64 h in omega arith

greatest_below : (ns : List ℕ) (m : ℕ) → 0 < m → AllByRecursion (λ n. n < m) ns → greatest ns < m
greatest_below [] m p h = p
greatest_below (n ∷ ns) m p h = let g = greatest_below ns m p h.1 in let b = h.0 in omega arith

numbers_below : (ls : List Literal) (m : ℕ) → AllByRecursion (λ l. l.number < m) ls → AllByRecursion (λ n. n < m) (literal_numbers ls)
numbers_below [] m h = tt
numbers_below (l ∷ ls) m h = (h.0, numbers_below ls m h.1)

literal_below : (ls : List Literal) (size : ℕ) (always : Bool) → AllByRecursion (λ l. l.number < 2 ^ size) ls → greatest_literal ls size always < 2 ^ size
literal_below ls size true h = let p = pow_pos size in omega arith
literal_below ls size false h = greatest_below (literal_numbers ls) (2 ^ size) (pow_pos size) (numbers_below ls (2 ^ size) h)

pub greatest_has_64 : (d : Domain) → IsProper d → greatest_of d < 2 ^ 64
greatest_has_64 (Integer first last size) p = below_64 size last p.1 p.3
greatest_has_64 (Enumeration literals size always) p = below_64 size (greatest_literal literals size always) p.1 (literal_below literals size always p.2.below)
