-- The forms of texts that are not served yet: sequences, derived messages and refinements.
--   unsupported p w       the refusal of a form at its place, by its word
--   of_declaration d      the first of them in a declaration, in order of the text
--   of_packages i ps      the first of them in packages, of which the first is package i of the closure
--   AreServed ps          the packages have none of them
--   IsUnserved ps e       the fault tells the first of them
--   IsWithin n e          the fault tells one of so many packages
--   IsToldIn asked e a    the answer tells the refusal of the fault, and the file of its package
use Rattle.std.specs.Prelude.{◌≡◌, ℕ, ◌+◌, ◌<◌, List, [], ◌∷◌, Option, Some, None, codes, slice_get}
use Rattle.std.specs.Option.{option_or}
use Rattle.rx_syntax.specs.declared.token.Place.{Place}
use Rattle.rx_syntax.specs.declared.tree.PackageTree.{PackageTree}
use Rattle.rx_syntax.specs.declared.tree.DeclTree.{DeclTree}
use Rattle.rx_syntax.specs.declared.tree.DeclKind.{DeclKind}
use Rattle.rx_syntax.specs.declared.tree.DeclKind.TheVariants.{Defined, Refine}
use Rattle.rx_syntax.specs.declared.tree.DefTree.{DefTree}
use Rattle.rx_syntax.specs.declared.tree.DefTree.TheVariants.{Derived}
use Rattle.rx_syntax.specs.declared.tree.DefTree.TheVariants.{Sequence}
use Rattle.rx_syntax.specs.declared.rule.Refusal.{Refusal}
use Rattle.rx_spec.specs.declared.fault.ElabFault.{ElabFault}
use Rattle.rx_spec.specs.declared.fault.ElabFault.TheVariants.{Refused, NoMemory}
use Rattle.rx_spec.specs.Elaboration.{Told}
use Rattle.rx_syntax.specs.declared.rule.Rule.TheVariants as rule
use Rattle.rx_program.specs.declared.answer.Answer.{Answer}
use Rattle.rx_program.specs.declared.answer.Answer.TheVariants as answer

-- the refusal of a form that is told by this word
abbrev pub unsupported : Place → List ℕ → Refusal
unsupported place word = record { rule = rule.Unsupported; place = place; word = Some word }

-- what the first item has that has some
abbrev pub first_some : {A B : Type 0} → (A → Option B) → List A → Option B
first_some f [] = None
first_some f (x ∷ xs) = option_or (f x) (first_some f xs)

-- a sequence or a derived message, at the first token of its declaration
abbrev pub of_definition : Place → DefTree → Option Refusal
of_definition p (Sequence n) = Some (unsupported p (codes "sequence"))
of_definition p (Derived n) = Some (unsupported p (codes "new"))
of_definition p other = None

-- a refinement, at its first token, or such a definition
abbrev pub of_kind : Place → DeclKind → Option Refusal
of_kind p (Refine r) = Some (unsupported p (codes "for"))
of_kind p (Defined name d) = of_definition p d

abbrev pub of_declaration : DeclTree → Option Refusal
of_declaration d = of_kind d.place d.kind

abbrev pub of_declarations : List DeclTree → Option Refusal
of_declarations ds = first_some of_declaration ds

abbrev pub found_in : ℕ → Option Refusal → Option Told
found_in i None = None
found_in i (Some r) = Some (record { «package» = i; refusal = r })

-- packages in their order, of which the first is package i of the closure
abbrev pub of_packages : ℕ → List PackageTree → Option Told
of_packages i [] = None
of_packages i (p ∷ ps) = option_or (found_in i (of_declarations p.decls.items)) (of_packages (i + 1) ps)

abbrev pub AreServed : List PackageTree → Type 0
AreServed ps = of_packages 0 ps ≡ None

-- the fault tells the first of these forms, and the package in whose text it stands
abbrev pub IsUnserved : List PackageTree → ElabFault → Type 0
IsUnserved ps (Refused i r) = of_packages 0 ps ≡ Some (record { «package» = i; refusal = r })
IsUnserved ps NoMemory = Unit {0}

-- the fault tells one of so many packages
abbrev pub IsWithin : ℕ → ElabFault → Type 0
IsWithin n (Refused i r) = i < n
IsWithin n NoMemory = Unit {0}

-- the answer tells the refusal of the fault, and the file in whose text it stands
abbrev pub IsToldIn : List (List ℕ) → ElabFault → Answer → Type 0
IsToldIn asked (Refused i r) (answer.Refused file refusal) = (refusal ≡ r) × (slice_get asked i ≡ Some file)
IsToldIn asked fault other = ⊥
