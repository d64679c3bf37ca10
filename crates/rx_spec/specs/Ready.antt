-- What is known of packages before their messages are checked against the path limit.
--   MakesElaborated t h name d    a message that definition d makes is elaborated, be it within the path limit or not
--   PackageMakes t p              so is each message of a package
--   AreReady t ps                 so is each message of these packages, and Boolean is the first scalar type
--   AreReadyOnceTyped ps          the same with the types that the packages have
use Rattle.std.specs.Prelude.{◌≡◌, List, Ok}
use Rattle.std.specs.List.{AllByRecursion}
use Rattle.rx_syntax.specs.declared.tree.Named.{Named}
use Rattle.rx_syntax.specs.declared.tree.HeaderTree.{HeaderTree}
use Rattle.rx_syntax.specs.declared.tree.PackageTree.{PackageTree}
use Rattle.rx_syntax.specs.declared.tree.DeclTree.{DeclTree}
use Rattle.rx_syntax.specs.declared.tree.DeclKind.{DeclKind}
use Rattle.rx_syntax.specs.declared.tree.DeclKind.TheVariants as decl
use Rattle.rx_syntax.specs.declared.tree.DefTree.{DefTree}
use Rattle.rx_syntax.specs.declared.tree.DefTree.TheVariants as def
use Rattle.rx_syntax.specs.declared.tree.MessageTree.{MessageTree}
use Rattle.rx_graph.specs.Elaborated.{IsElaborated}
use Rattle.rx_graph.specs.Graph.{Graph}
use Rattle.rx_elab.specs.Types.{Types, built_in_types}
use Rattle.rx_spec.specs.Elaboration.{through_from, package_types_in}
use Rattle.rx_spec.specs.Limit.{domains_known, HasBoolean}
use Rattle.rx_spec.specs.Messages.{message_made}

-- a message that is made so is elaborated
abbrev pub MessageMakes : Types → HeaderTree → Named → MessageTree → Type 0
MessageMakes t h name m = (g : Graph) → message_made t h name m ≡ Ok g → IsElaborated (domains_known t) g

abbrev pub MakesElaborated : Types → HeaderTree → Named → DefTree → Type 0
MakesElaborated t h name (def.Message m) = MessageMakes t h name m
MakesElaborated t h name other = Unit {0}

abbrev pub KindMakes : Types → HeaderTree → DeclKind → Type 0
KindMakes t h (decl.Refine r) = Unit {0}
KindMakes t h (decl.Defined name d) = MakesElaborated t h name d

abbrev pub DeclarationMakes : Types → HeaderTree → DeclTree → Type 0
DeclarationMakes t h d = KindMakes t h d.kind

abbrev pub PackageMakes : Types → PackageTree → Type 0
PackageMakes t p = AllByRecursion (λ d. DeclarationMakes t p.header d) p.decls.items

pub record AreReady (t : Types) (ps : List PackageTree) : Type 0 where
  pub boolean : HasBoolean t
  pub messages : AllByRecursion (λ p. PackageMakes t p) ps

-- once their types are known
abbrev pub AreReadyOnceTyped : List PackageTree → Type 0
AreReadyOnceTyped ps = (t : Types) → through_from package_types_in 0 built_in_types ps ≡ Ok t → AreReady t ps
