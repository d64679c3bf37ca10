-- Trees that are the same have the same first form that is not served yet.
use Rattle.std.proofs.Common.{◌≡◌, ℕ, ◌+◌, List, refl, ap, ◌∙◌}
use Rattle.std.specs.Option.{option_or}
use Rattle.rx_syntax.specs.declared.token.Place.{Place}
use Rattle.rx_syntax.specs.declared.tree.PackageTree.{PackageTree}
use Rattle.rx_syntax.specs.declared.tree.DeclTree.{DeclTree}
use Rattle.rx_syntax.specs.declared.tree.DeclKind.{DeclKind}
use Rattle.rx_syntax.specs.declared.tree.DefTree.{DefTree}
use Rattle.rx_trees.specs.Alike.{AreSame, IsSameDef, IsSameKind, IsSameDecl, IsSamePackage}
use Rattle.rx_trees.specs.Alike as same
use Rattle.rx_program.specs.Stage.{of_definition, of_kind, of_declaration, of_declarations, found_in, of_packages}

definition_same : {d e : DefTree} (p : Place) → IsSameDef d e → of_definition p d ≡ of_definition p e
definition_same p (same.unsigned h) = refl
definition_same p (same.range h k l) = refl
definition_same p (same.enumeration h k) = refl
definition_same p same.sequence = refl
definition_same p same.derived = refl
definition_same p same.null = refl
definition_same p (same.message h) = refl

kind_same : {k l : DeclKind} (p : Place) → IsSameKind k l → of_kind p k ≡ of_kind p l
kind_same p (same.defined h) = definition_same p h
kind_same p (same.refined h) = refl

declaration_same : (a b : DeclTree) → IsSameDecl a b → of_declaration a ≡ of_declaration b
declaration_same a b h = ap (λ p. of_kind p a.kind) h.place ∙ kind_same b.place h.kind

declarations_same : {ds es : List DeclTree} → AreSame IsSameDecl ds es → of_declarations ds ≡ of_declarations es
declarations_same same.none = refl
declarations_same (same.next {x = d} {y = e} {xs = ds} {ys = es} one more) =
    ap (λ o. option_or o (of_declarations ds)) (declaration_same d e one) ∙ ap (option_or (of_declaration e)) (declarations_same more)

pub packages_same : {ps qs : List PackageTree} (i : ℕ) → AreSame IsSamePackage ps qs → of_packages i ps ≡ of_packages i qs
packages_same i same.none = refl
packages_same i (same.next {x = p} {y = q} {xs = ps} {ys = qs} one more) =
    ap (λ o. option_or (found_in i o) (of_packages (i + 1) ps)) (declarations_same one.decls) ∙ ap (option_or (found_in i (of_declarations q.decls.items))) (packages_same (i + 1) more)
