-- Where packages are refused, and what follows of what they mean.
use Rattle.std.proofs.Common.{◌≡◌, ℕ, ◌+◌, ◌<◌, List, [], ◌∷◌, length, refl, sym, ap, ◌∙◌, Result, Ok, Err, arith}
use Rattle.rx_syntax.specs.declared.tree.PackageTree.{PackageTree}
use Rattle.rx_judge.specs.Meaning.{Meaning, ◌>>=◌, all_stand_from}
use Rattle.rx_graph.specs.Graph.{Graph, Specified}
use Rattle.rx_elab.specs.Types.{Types, package_types, built_in_types}
use Rattle.rx_elab.specs.Stand.{package_stands}
use Rattle.rx_spec.specs.Messages.{package_messages}
use Rattle.rx_spec.specs.Elaboration.{Told, TellsOf, in_package, through_from, package_stands_in, package_types_in, package_messages_in, elaborated}
use Rattle.rx_spec.specs.declared.fault.ElabFault.{ElabFault}
use Rattle.rx_spec.specs.declared.fault.ElabFault.TheVariants.{Refused, NoMemory}
use Rattle.rx_program.specs.Stage.{IsWithin}

abbrev err : (A : Type 0) → Told → Result A Told
err A t = Err t

no_value : {A : Type 0} (x : A) (t : Told) → Ok x ≡ err A t → ⊥
no_value x t is = cc

same_told : {A : Type 0} (r t : Told) → err A r ≡ err A t → r ≡ t
same_told r t is = cc

-- a refusal is the same whatever the value would be
again : {A B : Type 0} {r t : Told} → err A r ≡ err A t → err B r ≡ err B t
again {A = A} {B = B} {r = r} {t = t} is = ap (λ u. err B u) (same_told {A = A} r t is)

-- the refusal of a package tells that package
told_here : {A : Type 0} (i : ℕ) (m : Meaning A) (t : Told) → in_package i m ≡ Err t → t.«package» ≡ i
told_here i (Ok x) t is = absurd (no_value x t is)
told_here {A = A} i (Err r) t is = sym (ap (λ (u : Told). u.«package») (same_told {A = A} (record { «package» = i; refusal = r }) t is))

stand_within : (asked : List (List ℕ)) (n : ℕ) (ps : List PackageTree) (t : Told) → all_stand_from (package_stands_in asked) n ps ≡ Err t → t.«package» < n + length ps
stand_within asked n [] t is = absurd (no_value tt t is)
stand_within asked n (p ∷ ps) t is = by_first (package_stands asked n p) (λ on. stand_within asked (n + 1) ps t on) is
  where
    by_first : (m : Meaning (Unit {0})) → (all_stand_from (package_stands_in asked) (n + 1) ps ≡ Err t → t.«package» < n + 1 + length ps) → (in_package n m >>= (λ u. all_stand_from (package_stands_in asked) (n + 1) ps)) ≡ Err t → t.«package» < n + length (p ∷ ps)
    by_first (Ok x) more on = (let below = more on in omega arith)
    by_first (Err r) more on = (let here : t.«package» ≡ n = told_here {A = Unit {0}} n (Err r) t (again on) in omega arith)

through_within : {S : Type 0} (f : S → PackageTree → Meaning S) (n : ℕ) (s : S) (ps : List PackageTree) (t : Told) → through_from (λ i s' p. in_package i (f s' p)) n s ps ≡ Err t → t.«package» < n + length ps
through_within f n s [] t is = absurd (no_value s t is)
through_within {S = S} f n s (p ∷ ps) t is = by_first (f s p) (λ x on. through_within f (n + 1) x ps t on) is
  where
    by_first : (m : Meaning S) → ((x : S) → through_from (λ i s' q. in_package i (f s' q)) (n + 1) x ps ≡ Err t → t.«package» < n + 1 + length ps) → (in_package n m >>= (λ s'. through_from (λ i s'' q. in_package i (f s'' q)) (n + 1) s' ps)) ≡ Err t → t.«package» < n + length (p ∷ ps)
    by_first (Ok x) more on = (let below = more x on in omega arith)
    by_first (Err r) more on = (let here : t.«package» ≡ n = told_here {A = S} n (Err r) t (again on) in omega arith)

abbrev specified : Types → List Graph → Specified
specified t gs = record { scalars = t.scalars; messages = gs; refinements = [] }

abbrev given : Types → List Graph → Result Specified Told
given t gs = Ok (specified t gs)

abbrev messages_meant : Types → List PackageTree → Result Specified Told
messages_meant t ps = through_from (package_messages_in t) 0 [] ps >>= given t

abbrev types_meant : List PackageTree → Result Specified Told
types_meant ps = through_from package_types_in 0 built_in_types ps >>= (λ t. messages_meant t ps)

-- the package that is told is one of these
pub told_within : (asked : List (List ℕ)) (ps : List PackageTree) (t : Told) → elaborated asked ps ≡ Err t → t.«package» < length ps
told_within asked ps t is = by_names (all_stand_from (package_stands_in asked) 0 ps) refl is
  where
    by_messages : (types : Types) (m : Result (List Graph) Told) → through_from (package_messages_in types) 0 [] ps ≡ m → (m >>= given types) ≡ Err t → t.«package» < length ps
    by_messages types (Ok gs) e on = absurd (no_value (specified types gs) t on)
    by_messages types (Err r) e on = (let rest = through_within (package_messages types) 0 [] ps t (e ∙ again on) in omega arith)

    by_types : (m : Result Types Told) → through_from package_types_in 0 built_in_types ps ≡ m → (m >>= (λ types. messages_meant types ps)) ≡ Err t → t.«package» < length ps
    by_types (Ok types) e on = by_messages types (through_from (package_messages_in types) 0 [] ps) refl on
    by_types (Err r) e on = (let rest = through_within package_types 0 built_in_types ps t (e ∙ again on) in omega arith)

    by_names : (m : Result (Unit {0}) Told) → all_stand_from (package_stands_in asked) 0 ps ≡ m → (m >>= (λ u. types_meant ps)) ≡ Err t → t.«package» < length ps
    by_names (Ok u) e on = by_types (through_from package_types_in 0 built_in_types ps) refl on
    by_names (Err r) e on = (let rest = stand_within asked 0 ps t (e ∙ again on) in omega arith)

pub fault_within : (asked : List (List ℕ)) (ps : List PackageTree) (e : ElabFault) → TellsOf e (elaborated asked ps) → IsWithin (length ps) e
fault_within asked ps (Refused i r) is = told_within asked ps (record { «package» = i; refusal = r }) is
fault_within asked ps NoMemory is = tt
