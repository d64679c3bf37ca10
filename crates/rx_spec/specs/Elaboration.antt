-- The meaning of a closure of packages.
--   Told                       a refusal, and the package in whose text it stands
--   elaborated asked ps        the specification of packages ps, which were fetched under the names asked, or the refusal that comes first
use Rattle.std.specs.Prelude.{◌≡◌, ℕ, ◌+◌, List, [], ◌∷◌, Result, Ok, Err}
use Rattle.rx_syntax.specs.declared.rule.Refusal.{Refusal}
use Rattle.rx_syntax.specs.declared.tree.PackageTree.{PackageTree}
use Rattle.rx_graph.specs.Graph.{Graph, Specified}
use Rattle.rx_judge.specs.Meaning.{Meaning, ◌>>=◌, all_stand_from}
use Rattle.rx_elab.specs.Stand.{package_stands}
use Rattle.rx_elab.specs.Types.{Types, package_types, built_in_types}
use Rattle.rx_spec.specs.Messages.{package_messages}
use Rattle.rx_spec.specs.declared.fault.ElabFault.{ElabFault}
use Rattle.rx_spec.specs.declared.fault.ElabFault.TheVariants.{Refused, NoMemory}

-- a refusal, and the package in whose text it stands, by its place in the closure
pub record Told : Type 0 where
  pub «package» : ℕ
  pub refusal : Refusal

-- a meaning of package i
abbrev pub in_package : {A : Type 0} → ℕ → Meaning A → Result A Told
in_package i (Ok x) = Ok x
in_package i (Err r) = Err (record { «package» = i; refusal = r })

-- items in turn, each with its number and with what is known from those before it
abbrev pub through_from : {A S R : Type 0} → (ℕ → S → A → Result S R) → ℕ → S → List A → Result S R
through_from f n s [] = Ok s
through_from f n s (x ∷ xs) = f n s x >>= (λ t. through_from f (n + 1) t xs)

abbrev pub package_stands_in : List (List ℕ) → ℕ → PackageTree → Result (Unit {0}) Told
package_stands_in asked i p = in_package i (package_stands asked i p)

abbrev pub package_types_in : ℕ → Types → PackageTree → Result Types Told
package_types_in i t p = in_package i (package_types t p)

abbrev pub package_messages_in : Types → ℕ → List Graph → PackageTree → Result (List Graph) Told
package_messages_in t i gs p = in_package i (package_messages t gs p)

-- First all names, then all scalar types, then all messages; in each the packages go in order.
abbrev pub elaborated : List (List ℕ) → List PackageTree → Result Specified Told
elaborated asked ps = do
  u ← all_stand_from (package_stands_in asked) 0 ps
  t ← through_from package_types_in 0 built_in_types ps
  gs ← through_from (package_messages_in t) 0 [] ps
  Ok (record { scalars = t.scalars; messages = gs; refinements = [] })

-- the fault tells the refusal, unless memory ran out
abbrev pub TellsOf : {A : Type 0} → ElabFault → Result A Told → Type 0
TellsOf (Refused i r) m = m ≡ Err (record { «package» = i; refusal = r })
TellsOf NoMemory m = Unit {0}
