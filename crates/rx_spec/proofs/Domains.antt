-- The scalar types that are known after the packages.
--   IsTypeOf domains s     what is known of a scalar type is true of one of these
--   Lists t                the names of types and literals stand for what the list of scalar types has
use Rattle.std.proofs.Common.{◌≡◌, ◌∙◌, ap, refl, subst, ℕ, zero, suc, ◌+◌, ◌^◌, ◌<◌, List, [], ◌∷◌, ◌++◌, map, length, Option, Some, None, Ok, Err, arith}
use Rattle.std.specs.Prelude.{codes, slice_get}
use Rattle.std.specs.List.{AllByRecursion}
use Rattle.std.proofs.lemmas.Option.{none-some}
use Rattle.rx_syntax.specs.declared.tree.Named.{Named}
use Rattle.rx_syntax.specs.declared.tree.DefTree.{DefTree}
use Rattle.rx_syntax.specs.declared.tree.DeclTree.{DeclTree}
use Rattle.rx_syntax.specs.declared.tree.DeclKind.{DeclKind}
use Rattle.rx_syntax.specs.declared.tree.DeclKind.TheVariants as decl
use Rattle.rx_syntax.specs.declared.tree.PackageTree.{PackageTree}
use Rattle.rx_types.specs.declared.scalar.Literal.{Literal}
use Rattle.rx_types.specs.declared.kind.Kind.TheVariants as kind
use Rattle.rx_types.specs.Domain.{Domain, Integer, Enumeration, greatest_of, size_of, IsProper, boolean}
use Rattle.rx_types.specs.Names.{IsSameName}
use Rattle.rx_graph.specs.Graph.{NamedDomain, kind_in}
use Rattle.rx_judge.specs.Meaning.{Meaning, ◌>>=◌, all_stand_from}
use Rattle.rx_judge.specs.Scalar.{spelled, definition}
use Rattle.rx_judge.specs.Table.{Entry, added}
use Rattle.rx_judge.specs.declared.names.KnownLiteral.{KnownLiteral}
use Rattle.rx_judge.proofs.Meanings.{bind_ok, ok_same, err_differs}
use Rattle.rx_elab.specs.Stand.{Known, fresh, definition_stands, kind_stands, declaration_stands, package_stands, header_stands, body_stands, built_in, is_named}
use Rattle.rx_elab.specs.declared.stand.Declared.{Declared}
use Rattle.rx_elab.specs.Through.{through}
use Rattle.rx_elab.specs.Types.{Types, kind_declared, known_scalar, with_literals, with_literals_of, with_scalar, with_other, with_definition, kind_typed, type_declared, package_types, built_in_types}
use Rattle.rx_elab.specs.declared.types.KnownScalar.{KnownScalar}
use Rattle.rx_elab.specs.declared.types.KnownType.{KnownType}
use Rattle.rx_elab.specs.declared.types.KnownType.TheVariants as known_type
use Rattle.rx_spec.specs.Elaboration.{in_package, through_from, package_stands_in, package_types_in}
use Rattle.rx_spec.proofs.Steps.{all_of, all_added}
use Rattle.rx_spec.proofs.Proper.{proper, below_64}

-- what is known of a scalar type is true of the one that its id names
pub record IsTypeOf (domains : List Domain) (s : KnownScalar) : Type 0 where
  pub domain : Domain
  pub is : slice_get domains s.id ≡ Some domain
  pub kind : kind_in s.id (Some domain) ≡ Some s.kind
  pub greatest : greatest_of domain ≡ s.greatest
  pub size : size_of domain ≡ s.size
  pub proper : IsProper domain

abbrev pub IsKnown : List Domain → KnownType → Type 0
IsKnown domains (known_type.Scalar s) = IsTypeOf domains s
IsKnown domains k = Unit {0}

abbrev pub domains_of : List NamedDomain → List Domain
domains_of xs = map (λ x. x.domain) xs

abbrev pub HasLow : KnownLiteral → Type 0
HasLow l = l.number < 2 ^ 64

pub record Lists (t : Types) : Type 0 where
  pub first : slice_get (domains_of t.scalars) 0 ≡ Some boolean
  pub types : AllByRecursion (λ e. IsKnown (domains_of t.scalars) e.thing) t.types
  pub literals : AllByRecursion (λ e. HasLow e.thing) t.literals

-- ---- one scalar type more

domain_before : (xs ys : List NamedDomain) (k : ℕ) (d : Domain) → slice_get (domains_of xs) k ≡ Some d → slice_get (domains_of (xs ++ ys)) k ≡ Some d
domain_before [] ys k d h = absurd (none-some d h)
domain_before (x ∷ xs) ys zero d h = h
domain_before (x ∷ xs) ys (suc k) d h = domain_before xs ys k d h

domain_last : (xs : List NamedDomain) (x : NamedDomain) → slice_get (domains_of (xs ++ x ∷ [])) (length xs) ≡ Some x.domain
domain_last [] x = refl
domain_last (y ∷ xs) x = domain_last xs x

is_later : (xs : List NamedDomain) (d : Domain) → slice_get (domains_of xs) 0 ≡ Some d → 0 < length xs
is_later [] d h = absurd (none-some d h)
is_later (x ∷ xs) d h = omega arith

kind_later : (id : ℕ) (d : Domain) → 0 < id → kind_in id (Some d) ≡ Some (kind_declared id d)
kind_later zero d h = absurd (omega arith)
kind_later (suc id) (Integer first last size) h = refl
kind_later (suc id) (Enumeration literals size always) h = refl

still : (xs ys : List NamedDomain) (k : KnownType) → IsKnown (domains_of xs) k → IsKnown (domains_of (xs ++ ys)) k
still xs ys (known_type.Scalar s) h = record { domain = h.domain; is = domain_before xs ys s.id h.domain h.is; kind = h.kind; greatest = h.greatest; size = h.size; proper = h.proper }
still xs ys known_type.Opaque h = tt
still xs ys known_type.Other h = tt

literals_low : (table : List (Entry KnownLiteral)) (p : List ℕ) (id : ℕ) (ls : List Literal) → AllByRecursion (λ e. HasLow e.thing) table → AllByRecursion (λ l. l.number < 2 ^ 64) ls → AllByRecursion (λ e. HasLow e.thing) (with_literals table p id ls)
literals_low table p id [] h k = h
literals_low table p id (l ∷ ls) h k =
    let known : KnownLiteral = record { kind = id; number = l.number } in
    literals_low (added table p l.name known) p id ls (all_added HasLow table p l.name known h k.0) k.1

domain_low : (table : List (Entry KnownLiteral)) (p : List ℕ) (id : ℕ) (d : Domain) → AllByRecursion (λ e. HasLow e.thing) table → IsProper d → AllByRecursion (λ e. HasLow e.thing) (with_literals_of table p id d)
domain_low table p id (Integer first last size) h k = h
domain_low table p id (Enumeration literals size always) h k = literals_low table p id literals h (all_of (λ l. l.number < 2 ^ size) (λ l. l.number < 2 ^ 64) literals (λ l b. below_64 size l.number k.1 b) k.2.below)

lists_scalar : (p : List ℕ) (t : Types) (w : List ℕ) (d : Domain) → Lists t → IsProper d → Lists (with_scalar p t w d)
lists_scalar p t w d h k =
    let id = length t.scalars in
    let new : NamedDomain = record { «package» = p; name = w; domain = d } in
    let all = t.scalars ++ new ∷ [] in
    let known : IsTypeOf (domains_of all) (known_scalar id d) =
    record { domain = d; is = domain_last t.scalars new; kind = kind_later id d (is_later t.scalars boolean h.first); greatest = refl; size = refl; proper = k } in
    let before = all_of (λ (e : Entry KnownType). IsKnown (domains_of t.scalars) e.thing) (λ e. IsKnown (domains_of all) e.thing) t.types (λ e b. still t.scalars (new ∷ []) e.thing b) h.types in
    record {
      first = domain_before t.scalars (new ∷ []) 0 boolean h.first;
      types = all_added (IsKnown (domains_of all)) t.types p w (known_type.Scalar (known_scalar id d)) before known;
      literals = domain_low t.literals p id d h.literals k;
    }

lists_other : (p : List ℕ) (t : Types) (w : List ℕ) → Lists t → Lists (with_other p t w)
lists_other p t w h = record { first = h.first; types = all_added (IsKnown (domains_of t.scalars)) t.types p w known_type.Other h.types tt; literals = h.literals }

lists_definition : (p : List ℕ) (t : Types) (w : List ℕ) (o : Option Domain) → Lists t → ((d : Domain) → o ≡ Some d → IsProper d) → Lists (with_definition p t w o)
lists_definition p t w None h k = lists_other p t w h
lists_definition p t w (Some d) h k = lists_scalar p t w d h (k d refl)

-- ---- declarations

lists_defined : (p : List ℕ) (t t' : Types) (name : Named) (tree : DefTree) (known after : Known) → (definition name tree >>= (λ d. spelled name >>= (λ w. Ok (with_definition p t w d)))) ≡ Ok t' → definition_stands known tree ≡ Ok after → Lists t → Lists t'
lists_defined p t t' name tree known after h k s =
    let d = bind_ok (definition name tree) (λ (d : Option Domain). spelled name >>= (λ w. Ok (with_definition p t w d))) t' h in
    let w = bind_ok (spelled name) (λ (w : List ℕ). Ok (with_definition p t w d.0)) t' d.2 in
    let is_proper : (x : Domain) → d.0 ≡ Some x → IsProper x = λ x e. proper name tree x known after (d.1 ∙ ap (λ o. Ok o) e) k in
    subst (λ (x : Types). Lists x) (ok_same _ t' w.2) (lists_definition p t w.0 d.0 s is_proper)

lists_kind : (p : List ℕ) (t t' : Types) (k k' : Declared) (d : DeclKind) → kind_typed p t d ≡ Ok t' → kind_stands k d ≡ Ok k' → Lists t → Lists t'
lists_kind p t t' k k' (decl.Refine r) h g s = subst (λ (x : Types). Lists x) (ok_same t t' h) s
lists_kind p t t' k k' (decl.Defined name tree) h g s =
    let types = bind_ok (fresh k.types name) (λ (types : Known). definition_stands k.literals tree >>= (λ literals. Ok (record { types = types; literals = literals }))) k' g in
    let literals = bind_ok (definition_stands k.literals tree) (λ (literals : Known). Ok (record { types = types.0; literals = literals })) k' types.2 in
    lists_defined p t t' name tree k.literals literals.0 h literals.1 s

lists_declarations : (p : List ℕ) (t t' : Types) (k k' : Declared) (ds : List DeclTree) → through (type_declared p) t ds ≡ Ok t' → through declaration_stands k ds ≡ Ok k' → Lists t → Lists t'
lists_declarations p t t' k k' [] h g s = subst (λ (x : Types). Lists x) (ok_same t t' h) s
lists_declarations p t t' k k' (d ∷ ds) h g s =
    let one = bind_ok (type_declared p t d) (λ (x : Types). through (type_declared p) x ds) t' h in
    let stands = bind_ok (declaration_stands k d) (λ (x : Declared). through declaration_stands x ds) k' g in
    lists_declarations p one.0 t' stands.0 k' ds one.2 stands.2 (lists_kind p t one.0 k stands.0 d.kind one.1 stands.1 s)

-- ---- packages

-- the declarations of a package that stands stand
pub declarations_stand : (asked : List (List ℕ)) (i : ℕ) (p : PackageTree) (u : Unit {0}) → package_stands asked i p ≡ Ok u → (k : Declared) × (through declaration_stands built_in p.decls.items ≡ Ok k)
declarations_stand asked i p u h =
    let body = bind_ok (header_stands asked i p.header) (λ (v : Unit {0}). body_stands p) u h in
    let all = bind_ok (through declaration_stands built_in p.decls.items) (λ (k : Declared). is_named p.end_name (Some p.header.name.word)) u body.2 in
    (all.0, all.1)

lists_package : (t t' : Types) (p : PackageTree) (k : Declared) → package_types t p ≡ Ok t' → through declaration_stands built_in p.decls.items ≡ Ok k → Lists t → Lists t'
lists_package t t' p k h g s =
    let w = bind_ok (spelled p.header.name) (λ (w : List ℕ). through (type_declared w) t p.decls.items) t' h in
    lists_declarations w.0 t t' built_in k p.decls.items w.2 g s

pub in_package_ok : {A : Type 0} (i : ℕ) (m : Meaning A) (x : A) → in_package i m ≡ Ok x → m ≡ Ok x
in_package_ok i (Ok y) x h = ap (λ z. Ok z) (ok_same y x h)
in_package_ok i (Err r) x h = absurd (err_differs _ x h)

lists_packages : (asked : List (List ℕ)) (n : ℕ) (t t' : Types) (ps : List PackageTree) (u : Unit {0}) → through_from package_types_in n t ps ≡ Ok t' → all_stand_from (package_stands_in asked) n ps ≡ Ok u → Lists t → Lists t'
lists_packages asked n t t' [] u h g s = subst (λ (x : Types). Lists x) (ok_same t t' h) s
lists_packages asked n t t' (p ∷ ps) u h g s =
    let one = bind_ok (package_types_in n t p) (λ (x : Types). through_from package_types_in (n + 1) x ps) t' h in
    let stands = bind_ok (package_stands_in asked n p) (λ (v : Unit {0}). all_stand_from (package_stands_in asked) (n + 1) ps) u g in
    let declared = declarations_stand asked n p stands.0 (in_package_ok n (package_stands asked n p) stands.0 stands.1) in
    lists_packages asked (n + 1) one.0 t' ps u one.2 stands.2 (lists_package t one.0 p declared.0 (in_package_ok n (package_types t p) one.0 one.1) declared.1 s)

-- ---- the built-in types

no_name : IsSameName (codes "False") (codes "True") → ⊥
no_name e = let n = ap length e in absurd (omega (arith, n))

boolean_proper : IsProper boolean
boolean_proper = (omega arith, omega arith, record { some = omega arith; below = (omega arith, (omega arith, tt)); differ = ((record { names = no_name; numbers = λ e. absurd (omega arith) }, tt), (tt, tt)) })

lists_built_in : Lists built_in_types
lists_built_in =
    let truth : KnownType = known_type.Scalar (record { id = 0; kind = kind.Truth; greatest = 1; size = 1 }) in
    let known : IsTypeOf (domains_of built_in_types.scalars) (record { id = 0; kind = kind.Truth; greatest = 1; size = 1 }) =
    record { domain = boolean; is = refl; kind = refl; greatest = refl; size = refl; proper = boolean_proper } in
    record {
      first = refl;
      types = all_added (IsKnown (domains_of built_in_types.scalars)) (added [] [] (codes "Boolean") truth) [] (codes "Opaque") known_type.Opaque (all_added (IsKnown (domains_of built_in_types.scalars)) [] [] (codes "Boolean") truth tt known) tt;
      literals = tt;
    }

-- after all packages, whose names stand
pub types_list : (asked : List (List ℕ)) (ps : List PackageTree) (u : Unit {0}) (t : Types) → all_stand_from (package_stands_in asked) 0 ps ≡ Ok u → through_from package_types_in 0 built_in_types ps ≡ Ok t → Lists t
types_list asked ps u t g h = lists_packages asked 0 built_in_types t ps u h g lists_built_in
