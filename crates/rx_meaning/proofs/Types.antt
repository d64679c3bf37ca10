-- Packages that are the same declare the same types.
use Rattle.std.proofs.Common.{◌≡◌, ap, refl, List, ℕ, Ok}
use Rattle.rx_syntax.specs.declared.tree.Named.{Named}
use Rattle.rx_syntax.specs.declared.tree.DefTree.{DefTree}
use Rattle.rx_syntax.specs.declared.tree.DeclTree.{DeclTree}
use Rattle.rx_syntax.specs.declared.tree.DeclKind.{DeclKind}
use Rattle.rx_syntax.specs.declared.tree.PackageTree.{PackageTree}
use Rattle.rx_judge.specs.Meaning.{◌>>=◌}
use Rattle.rx_judge.specs.Scalar.{spelled}
use Rattle.rx_elab.specs.Types.{Types, with_definition, defined, kind_typed, type_declared, package_types}
use Rattle.rx_trees.specs.Alike as alike
use Rattle.rx_trees.specs.Alike.{IsSameDef, IsSameKind, IsSameDecl, IsSamePackage}
use Rattle.rx_meaning.proofs.Lists.{bind_same, first_same, through_same}
use Rattle.rx_meaning.proofs.Scalars.{definition_same}

defined_same : (p : List ℕ) (t : Types) (name : Named) {d e : DefTree} → IsSameDef d e → defined p t name d ≡ defined p t name e
defined_same p t name h = first_same (λ d. spelled name >>= (λ w. Ok (with_definition p t w d))) (definition_same name h)

kind_typed_same : (p : List ℕ) (t : Types) {a b : DeclKind} → IsSameKind a b → kind_typed p t a ≡ kind_typed p t b
kind_typed_same p t (alike.refined h) = refl
kind_typed_same p t (alike.defined {n = n} h) = defined_same p t n h

type_declared_same : (p : List ℕ) (t : Types) {a b : DeclTree} → IsSameDecl a b → type_declared p t a ≡ type_declared p t b
type_declared_same p t h = kind_typed_same p t h.kind

pub package_types_same : (t : Types) {p q : PackageTree} → IsSamePackage p q → package_types t p ≡ package_types t q
package_types_same t h = bind_same (ap spelled h.header.name) (λ w. through_same t (λ s x y k. type_declared_same w s k) h.decls)
