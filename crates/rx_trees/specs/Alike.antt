-- Trees that are the same but for the places of their vectors and boxes in memory: one relation a type of tree, one case a variant.
use Rattle.std.specs.Prelude.{◌≡◌, ℤ, Bool, List, [], ◌∷◌, Option, Some, None}
use Rattle.std.proofs.Common.{Vec, Global}
use Rattle.rx_syntax.specs.declared.token.Place.{Place}
use Rattle.rx_syntax.specs.declared.tree.Named.{Named}
use Rattle.rx_syntax.specs.declared.tree.NameTree.{NameTree}
use Rattle.rx_syntax.specs.declared.tree.HeaderTree.{HeaderTree}
use Rattle.rx_syntax.specs.declared.tree.PackageTree.{PackageTree}
use Rattle.rx_syntax.specs.declared.tree.DeclTree.{DeclTree}
use Rattle.rx_syntax.specs.declared.tree.DeclKind.{DeclKind}
use Rattle.rx_syntax.specs.declared.tree.DeclKind.TheVariants as decl
use Rattle.rx_syntax.specs.declared.tree.RefineTree.{RefineTree}
use Rattle.rx_syntax.specs.declared.tree.DefTree.{DefTree}
use Rattle.rx_syntax.specs.declared.tree.DefTree.TheVariants as def
use Rattle.rx_syntax.specs.declared.tree.LiteralTree.{LiteralTree}
use Rattle.rx_syntax.specs.declared.tree.EnumAspect.{EnumAspect}
use Rattle.rx_syntax.specs.declared.tree.EnumAspect.TheVariants as easpect
use Rattle.rx_syntax.specs.declared.tree.MessageTree.{MessageTree}
use Rattle.rx_syntax.specs.declared.tree.FieldTree.{FieldTree}
use Rattle.rx_syntax.specs.declared.tree.ThenTree.{ThenTree}
use Rattle.rx_syntax.specs.declared.tree.AspectTree.{AspectTree}
use Rattle.rx_syntax.specs.declared.tree.AspectTree.TheVariants as aspect
use Rattle.rx_syntax.specs.declared.tree.ExprTree.{ExprTree}
use Rattle.rx_syntax.specs.declared.tree.ExprTree.TheVariants as tree
use Rattle.rx_syntax.specs.declared.tree.Attr.{Attr}
use Rattle.rx_syntax.specs.declared.tree.Operator.{Operator}

-- as many items, each the same as the other's
pub data AreSame {A : Type 0} (IsSame : A → A → Type 0) : List A → List A → Type 0 where
  none : AreSame IsSame [] []
  next : {x y : A} {xs ys : List A} → IsSame x y → AreSame IsSame xs ys → AreSame IsSame (x ∷ xs) (y ∷ ys)

-- both the same, or both nothing
pub data IsSameIfAny {A : Type 0} (IsSame : A → A → Type 0) : Option A → Option A → Type 0 where
  none : IsSameIfAny IsSame None None
  some : {x y : A} → IsSame x y → IsSameIfAny IsSame (Some x) (Some y)

-- expressions of the same nodes, with the same numbers, names, operators and places in the text
pub data IsSameExpr : ExprTree → ExprTree → Type 0 where
  number : {n : ℤ} {p : Place} → IsSameExpr (tree.Number n p) (tree.Number n p)
  name : {n : NameTree} → IsSameExpr (tree.Name n) (tree.Name n)
  attribute : {n : NameTree} {a : Attr} → IsSameExpr (tree.Attribute n a) (tree.Attribute n a)
  member : {n : NameTree} {m : Named} → IsSameExpr (tree.Member n m) (tree.Member n m)
  negative : {at : Place} {a b : ExprTree} {p q : _} → IsSameExpr a b → IsSameExpr (tree.Neg' at p a) (tree.Neg' at q b)
  negation : {at : Place} {a b : ExprTree} {p q : _} → IsSameExpr a b → IsSameExpr (tree.Not' at p a) (tree.Not' at q b)
  binary : {o : Operator} {at : Place} {a b c d : ExprTree} {p q r s : _} → IsSameExpr a b → IsSameExpr c d → IsSameExpr (tree.Binary' o at p a r c) (tree.Binary' o at q b s d)

-- aspects of the same word at the same place, with the same expression
pub data IsSameAspect : AspectTree → AspectTree → Type 0 where
  first : {at : Place} {e f : ExprTree} → IsSameExpr e f → IsSameAspect (aspect.First at e) (aspect.First at f)
  size : {at : Place} {e f : ExprTree} → IsSameExpr e f → IsSameAspect (aspect.Size at e) (aspect.Size at f)

-- links to the same field at the same place, with the same aspects and condition
pub record IsSameThen (a b : ThenTree) : Type 0 where
  pub target : a.target ≡ b.target
  pub place : a.place ≡ b.place
  pub aspects : AreSame IsSameAspect a.aspects.items b.aspects.items
  pub condition : IsSameIfAny IsSameExpr a.condition b.condition

-- fields of the same name and type, with the same aspects, condition and links
pub record IsSameField (a b : FieldTree) : Type 0 where
  pub name : a.name ≡ b.name
  pub kind : a.kind ≡ b.kind
  pub aspects : AreSame IsSameAspect a.aspects.items b.aspects.items
  pub condition : IsSameIfAny IsSameExpr a.condition b.condition
  pub thens : AreSame IsSameThen a.thens.items b.thens.items

-- messages with the same first links, fields and order of bytes
pub record IsSameMessage (a b : MessageTree) : Type 0 where
  pub start : AreSame IsSameThen a.start.items b.start.items
  pub fields : AreSame IsSameField a.fields.items b.fields.items
  pub low_order : a.low_order ≡ b.low_order

-- literals of the same name, with the same number or without
pub record IsSameLiteral (a b : LiteralTree) : Type 0 where
  pub name : a.name ≡ b.name
  pub number : IsSameIfAny IsSameExpr a.number b.number

-- aspects of an enumeration of the same word at the same place, with the same size or truth value
pub data IsSameEnumAspect : EnumAspect → EnumAspect → Type 0 where
  size : {at : Place} {e f : ExprTree} → IsSameExpr e f → IsSameEnumAspect (easpect.Size at e) (easpect.Size at f)
  always : {at : Place} {b : Bool} → IsSameEnumAspect (easpect.AlwaysValid at b) (easpect.AlwaysValid at b)

-- definitions of the same kind, of the same parts
pub data IsSameDef : DefTree → DefTree → Type 0 where
  unsigned : {e f : ExprTree} → IsSameExpr e f → IsSameDef (def.Unsigned e) (def.Unsigned f)
  range : {a b c d e f : ExprTree} → IsSameExpr a b → IsSameExpr c d → IsSameExpr e f → IsSameDef (def.Range a c e) (def.Range b d f)
  enumeration : {ls ms : Vec LiteralTree Global} {xs ys : Vec EnumAspect Global} → AreSame IsSameLiteral ls.items ms.items → AreSame IsSameEnumAspect xs.items ys.items → IsSameDef (def.Enumeration ls xs) (def.Enumeration ms ys)
  sequence : {n : NameTree} → IsSameDef (def.Sequence n) (def.Sequence n)
  derived : {n : NameTree} → IsSameDef (def.Derived n) (def.Derived n)
  null : IsSameDef def.NullMessage def.NullMessage
  message : {a b : MessageTree} → IsSameMessage a b → IsSameDef (def.Message a) (def.Message b)

-- refinements of the same field of the same message, which hold the same under the same condition
pub record IsSameRefine (a b : RefineTree) : Type 0 where
  pub message : a.message ≡ b.message
  pub field : a.field ≡ b.field
  pub inner : a.inner ≡ b.inner
  pub condition : IsSameIfAny IsSameExpr a.condition b.condition

-- types of the same name and definition, or the same refinements
pub data IsSameKind : DeclKind → DeclKind → Type 0 where
  defined : {n : Named} {d e : DefTree} → IsSameDef d e → IsSameKind (decl.Defined n d) (decl.Defined n e)
  refined : {a b : RefineTree} → IsSameRefine a b → IsSameKind (decl.Refine a) (decl.Refine b)

-- the same declarations at the same place
pub record IsSameDecl (a b : DeclTree) : Type 0 where
  pub place : a.place ≡ b.place
  pub kind : IsSameKind a.kind b.kind

-- headers of the same names of packages
pub record IsSameHeader (a b : HeaderTree) : Type 0 where
  pub withs : a.withs.items ≡ b.withs.items
  pub name : a.name ≡ b.name

-- packages with the same header, declarations and name at the end
pub record IsSamePackage (a b : PackageTree) : Type 0 where
  pub header : IsSameHeader a.header b.header
  pub decls : AreSame IsSameDecl a.decls.items b.decls.items
  pub end_name : a.end_name ≡ b.end_name
