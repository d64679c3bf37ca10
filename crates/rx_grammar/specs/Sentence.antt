-- The sentences of the rules, with their trees: one relation a rule, one case an alternative.
use Rattle.std.specs.Prelude.{◌≡◌, ℕ, Bool, true, false, ◌&&◌, not, List, [], ◌∷◌, ◌++◌, Option, Some, None}
use Rattle.std.proofs.Common.{Vec, Global}
use Rattle.rx_syntax.specs.declared.token.Token.{Token}
use Rattle.rx_syntax.specs.declared.token.Place.{Place}
use Rattle.rx_syntax.specs.declared.mark.Mark.TheVariants as sign
use Rattle.rx_syntax.specs.declared.tree.Named.{Named}
use Rattle.rx_syntax.specs.declared.tree.NameTree.{NameTree}
use Rattle.rx_syntax.specs.declared.tree.HeaderTree.{HeaderTree}
use Rattle.rx_syntax.specs.declared.tree.PackageTree.{PackageTree}
use Rattle.rx_syntax.specs.declared.tree.DeclTree.{DeclTree}
use Rattle.rx_syntax.specs.declared.tree.DeclKind.{DeclKind}
use Rattle.rx_syntax.specs.declared.tree.DeclKind.TheVariants as decl
use Rattle.rx_syntax.specs.declared.tree.RefineTree.{RefineTree}
use Rattle.rx_syntax.specs.declared.tree.DefTree.{DefTree}
use Rattle.rx_syntax.specs.declared.tree.DefTree.TheVariants as def
use Rattle.rx_syntax.specs.declared.tree.LiteralTree.{LiteralTree}
use Rattle.rx_syntax.specs.declared.tree.EnumAspect.{EnumAspect}
use Rattle.rx_syntax.specs.declared.tree.EnumAspect.TheVariants as easpect
use Rattle.rx_syntax.specs.declared.tree.MessageTree.{MessageTree}
use Rattle.rx_syntax.specs.declared.tree.FieldTree.{FieldTree}
use Rattle.rx_syntax.specs.declared.tree.ThenTree.{ThenTree}
use Rattle.rx_syntax.specs.declared.tree.AspectTree.{AspectTree}
use Rattle.rx_syntax.specs.declared.tree.AspectTree.TheVariants as aspect
use Rattle.rx_syntax.specs.declared.tree.ExprTree.{ExprTree}
use Rattle.rx_syntax.specs.declared.tree.ExprTree.TheVariants as tree
use Rattle.rx_grammar.specs.declared.terminal.Terminal.{Terminal}
use Rattle.rx_grammar.specs.declared.terminal.Terminal.TheVariants as terminal
use Rattle.rx_grammar.specs.declared.terminal.Keyword.TheVariants as word
use Rattle.rx_grammar.specs.declared.terminal.Quoted.TheVariants as quoted
use Rattle.rx_grammar.specs.declared.terminal.Choice.TheVariants as choice
use Rattle.rx_grammar.specs.Terminal.{is_such}
use Rattle.rx_grammar.specs.Tokens.{Is, IsChosen, IsNamed, word_of, named, number_of, operator_of, attr_of}

-- any number of parts, one after the other
pub data Each {A : Type 0} (Part : List Token → A → Type 0) : List Token → List A → Type 0 where
  none : Each Part [] []
  one_more : {xs ys : List Token} {trees : List A} {tree : A} → Each Part xs trees → Part ys tree → Each Part (xs ++ ys) (trees ++ tree ∷ [])

-- at least one part
pub data AtLeastOne {A : Type 0} (Part : List Token → A → Type 0) : List Token → List A → Type 0 where
  one : {ys : List Token} {tree : A} → Part ys tree → AtLeastOne Part ys (tree ∷ [])
  and_one : {xs ys : List Token} {trees : List A} {tree : A} → AtLeastOne Part xs trees → Part ys tree → AtLeastOne Part (xs ++ ys) (trees ++ tree ∷ [])

-- parts with commas between them
pub data Listed {A : Type 0} (Part : List Token → A → Type 0) : List Token → List A → Type 0 where
  single : {ys : List Token} {tree : A} → Part ys tree → Listed Part ys (tree ∷ [])
  further : {xs ys : List Token} {comma : Token} {trees : List A} {tree : A} → Listed Part xs trees → Is (terminal.Mark sign.Comma) comma → Part ys tree → Listed Part (xs ++ comma ∷ ys) (trees ++ tree ∷ [])

-- a part or nothing
pub data Maybe {A : Type 0} (Part : List Token → A → Type 0) : List Token → Option A → Type 0 where
  absent : Maybe Part [] None
  present : {ys : List Token} {tree : A} → Part ys tree → Maybe Part ys (Some tree)

-- parts behind a word, or nothing
pub data AfterWord {A : Type 0} (c : Terminal) (Part : List Token → List A → Type 0) : List Token → List A → Type 0 where
  absent : AfterWord c Part [] []
  present : {t : Token} {ys : List Token} {trees : List A} → Is c t → Part ys trees → AfterWord c Part (t ∷ ys) trees

-- a part behind one word or mark
pub data Behind {A : Type 0} (c : Terminal) (Part : List Token → A → Type 0) : List Token → A → Type 0 where
  behind : {t : Token} {ys : List Token} {tree : A} → Is c t → Part ys tree → Behind c Part (t ∷ ys) tree

-- NAME ["::" NAME]
pub data IsName : List Token → NameTree → Type 0 where
  plain : {xs : List Token} {n : Named} → IsNamed xs n → IsName xs (record { «package» = None; name = n })
  qualified : {xs ys : List Token} {colons : Token} {p n : Named} → IsNamed xs p → Is (terminal.Mark sign.DoubleColon) colons → IsNamed ys n → IsName (xs ++ colons ∷ ys) (record { «package» = Some p; name = n })

-- nodes of expressions
pub data IsBinary (t : Token) (a b : ExprTree) : ExprTree → Type 0 where
  binary : {p q : _} → IsBinary t a b (tree.Binary' (operator_of t.kind) t.place p a q b)

pub data IsNegative (t : Token) (a : ExprTree) : ExprTree → Type 0 where
  negative : {p : _} → IsNegative t a (tree.Neg' t.place p a)

pub data IsNegation (t : Token) (a : ExprTree) : ExprTree → Type 0 where
  negation : {p : _} → IsNegation t a (tree.Not' t.place p a)

-- name [("'" attr) | ("." NAME)]
pub data IsOperand : List Token → ExprTree → Type 0 where
  name : {xs : List Token} {n : NameTree} → IsName xs n → IsOperand xs (tree.Name n)
  attribute : {xs : List Token} {tick a : Token} {n : NameTree} → IsName xs n → Is (terminal.Mark sign.Tick) tick → IsChosen choice.Attribute a → IsOperand (xs ++ tick ∷ a ∷ []) (tree.Attribute n (attr_of a.kind))
  member : {xs ys : List Token} {dot : Token} {n : NameTree} {m : Named} → IsName xs n → Is (terminal.Mark sign.Dot) dot → IsNamed ys m → IsOperand (xs ++ dot ∷ ys) (tree.Member n m)

mutual
  -- conj {"or" conj}
  pub data IsExpr : List Token → ExprTree → Type 0 where
    conj : {xs : List Token} {e : ExprTree} → IsConj xs e → IsExpr xs e
    either : {xs ys : List Token} {t : Token} {a b e : ExprTree} → IsExpr xs a → Is (terminal.Keyword word.Or) t → IsConj ys b → IsBinary t a b e → IsExpr (xs ++ t ∷ ys) e

  -- rel {"and" rel}
  pub data IsConj : List Token → ExprTree → Type 0 where
    rel : {xs : List Token} {e : ExprTree} → IsRel xs e → IsConj xs e
    both : {xs ys : List Token} {t : Token} {a b e : ExprTree} → IsConj xs a → Is (terminal.Keyword word.And) t → IsRel ys b → IsBinary t a b e → IsConj (xs ++ t ∷ ys) e

  -- sum [("=" | "/=" | "<" | "<=" | ">" | ">=") sum]
  pub data IsRel : List Token → ExprTree → Type 0 where
    sum : {xs : List Token} {e : ExprTree} → IsSum xs e → IsRel xs e
    compared : {xs ys : List Token} {t : Token} {a b e : ExprTree} → IsSum xs a → IsChosen choice.Relation t → IsSum ys b → IsBinary t a b e → IsRel (xs ++ t ∷ ys) e

  -- ["-"] product {("+" | "-") product}
  pub data IsSum : List Token → ExprTree → Type 0 where
    signed : {xs : List Token} {e : ExprTree} → IsSigned xs e → IsSum xs e
    added : {xs ys : List Token} {t : Token} {a b e : ExprTree} → IsSum xs a → IsChosen choice.Sign t → IsProduct ys b → IsBinary t a b e → IsSum (xs ++ t ∷ ys) e

  -- ["-"] product
  pub data IsSigned : List Token → ExprTree → Type 0 where
    product : {xs : List Token} {e : ExprTree} → IsProduct xs e → IsSigned xs e
    negative : {m : Token} {xs : List Token} {a e : ExprTree} → Is (terminal.Mark sign.Minus) m → IsProduct xs a → IsNegative m a e → IsSigned (m ∷ xs) e

  -- power {("*" | "/" | "mod") power}
  pub data IsProduct : List Token → ExprTree → Type 0 where
    power : {xs : List Token} {e : ExprTree} → IsPower xs e → IsProduct xs e
    multiplied : {xs ys : List Token} {t : Token} {a b e : ExprTree} → IsProduct xs a → IsChosen choice.Multiplying t → IsPower ys b → IsBinary t a b e → IsProduct (xs ++ t ∷ ys) e

  -- factor ["**" factor]
  pub data IsPower : List Token → ExprTree → Type 0 where
    factor : {xs : List Token} {e : ExprTree} → IsFactor xs e → IsPower xs e
    raised : {xs ys : List Token} {t : Token} {a b e : ExprTree} → IsFactor xs a → Is (terminal.Mark sign.DoubleStar) t → IsFactor ys b → IsBinary t a b e → IsPower (xs ++ t ∷ ys) e

  -- NUM | "(" expr ")" | "not" factor | name [("'" attr) | ("." NAME)]
  pub data IsFactor : List Token → ExprTree → Type 0 where
    number : {t : Token} → Is terminal.Number t → IsFactor (t ∷ []) (tree.Number (number_of t.kind) t.place)
    brackets : {l r : Token} {xs : List Token} {e : ExprTree} → Is (terminal.Mark sign.ParenLeft) l → IsExpr xs e → Is (terminal.Mark sign.ParenRight) r → IsFactor (l ∷ xs ++ r ∷ []) e
    negation : {n : Token} {xs : List Token} {a e : ExprTree} → Is (terminal.Keyword word.Not) n → IsFactor xs a → IsNegation n a e → IsFactor (n ∷ xs) e
    operand : {xs : List Token} {e : ExprTree} → IsOperand xs e → IsFactor xs e

-- "if" expr
abbrev pub IsCondition : List Token → Option ExprTree → Type 0
IsCondition = Maybe (Behind (terminal.Keyword word.If) IsExpr)

-- ("First" | "Size") "=>" expr
pub data IsAspect : List Token → AspectTree → Type 0 where
  first : {t arrow : Token} {xs : List Token} {e : ExprTree} → Is (terminal.Quoted quoted.First) t → Is (terminal.Mark sign.Arrow) arrow → IsExpr xs e → IsAspect (t ∷ arrow ∷ xs) (aspect.First t.place e)
  size : {t arrow : Token} {xs : List Token} {e : ExprTree} → Is (terminal.Quoted quoted.Size) t → Is (terminal.Mark sign.Arrow) arrow → IsExpr xs e → IsAspect (t ∷ arrow ∷ xs) (aspect.Size t.place e)

-- ["with" aspect {"," aspect}]
abbrev pub AreAspects : List Token → List AspectTree → Type 0
AreAspects = AfterWord (terminal.Keyword word.With) (Listed IsAspect)

-- NAME | "null"
pub data IsTarget (t : Token) : Option (List ℕ) → Type 0 where
  field : Is terminal.Name t → IsTarget t (Some (word_of t.kind))
  null : Is (terminal.Keyword word.Null) t → IsTarget t None

-- "then" (NAME | "null") ["with" aspects] ["if" expr]
pub data IsThen : List Token → ThenTree → Type 0 where
  link : {then_token t : Token} {xs ys : List Token} {a : ThenTree} → Is (terminal.Keyword word.Then) then_token → IsTarget t a.target → a.place ≡ t.place → AreAspects xs a.aspects.items → IsCondition ys a.condition → IsThen (then_token ∷ t ∷ xs ++ ys) a

-- then {[","] then}
pub data AreThens : List Token → List ThenTree → Type 0 where
  single : {xs : List Token} {a : ThenTree} → IsThen xs a → AreThens xs (a ∷ [])
  next : {xs ys : List Token} {trees : List ThenTree} {a : ThenTree} → AreThens xs trees → IsThen ys a → AreThens (xs ++ ys) (trees ++ a ∷ [])
  next_comma : {xs ys : List Token} {comma : Token} {trees : List ThenTree} {a : ThenTree} → AreThens xs trees → Is (terminal.Mark sign.Comma) comma → IsThen ys a → AreThens (xs ++ comma ∷ ys) (trees ++ a ∷ [])

-- [thens]
pub data MaybeThens : List Token → List ThenTree → Type 0 where
  none : MaybeThens [] []
  some : {xs : List Token} {trees : List ThenTree} → AreThens xs trees → MaybeThens xs trees

-- NAME ":" name ["with" aspects] ["if" expr] [thens] ";"
pub data IsField : List Token → FieldTree → Type 0 where
  field : {colon end : Token} {xs ys zs us vs : List Token} {f : FieldTree} → IsNamed xs f.name → Is (terminal.Mark sign.Colon) colon → IsName ys f.kind → AreAspects zs f.aspects.items → IsCondition us f.condition → MaybeThens vs f.thens.items → Is (terminal.Mark sign.Semicolon) end → IsField (xs ++ (colon ∷ (ys ++ (zs ++ (us ++ (vs ++ end ∷ [])))))) f

-- ["null" thens ";"]
pub data IsStart : List Token → List ThenTree → Type 0 where
  none : IsStart [] []
  some : {null end : Token} {xs : List Token} {trees : List ThenTree} → Is (terminal.Keyword word.Null) null → AreThens xs trees → Is (terminal.Mark sign.Semicolon) end → IsStart (null ∷ xs ++ end ∷ []) trees

-- ["with" "Byte_Order" "=>" order]: whether the low order is written
pub data IsByteOrder : List Token → Bool → Type 0 where
  none : IsByteOrder [] false
  high : {with_token byte arrow t : Token} → Is (terminal.Keyword word.With) with_token → Is (terminal.Quoted quoted.ByteOrder) byte → Is (terminal.Mark sign.Arrow) arrow → Is (terminal.Quoted quoted.HighOrderFirst) t → IsByteOrder (with_token ∷ byte ∷ arrow ∷ t ∷ []) false
  low : {with_token byte arrow t : Token} → Is (terminal.Keyword word.With) with_token → Is (terminal.Quoted quoted.ByteOrder) byte → Is (terminal.Mark sign.Arrow) arrow → Is (terminal.Quoted quoted.LowOrderFirst) t → IsByteOrder (with_token ∷ byte ∷ arrow ∷ t ∷ []) true

-- "message" ["null" thens ";"] field {field} "end" "message" [byte order]
pub data IsMessage : List Token → MessageTree → Type 0 where
  message : {m end m' : Token} {xs ys zs : List Token} {a : MessageTree} → Is (terminal.Keyword word.Message) m → IsStart xs a.start.items → AtLeastOne IsField ys a.fields.items → Is (terminal.Keyword word.End) end → Is (terminal.Keyword word.Message) m' → IsByteOrder zs a.low_order → IsMessage (m ∷ (xs ++ (ys ++ (end ∷ m' ∷ zs)))) a

-- a literal alone, and one with its number
pub data IsPlainLiteral : List Token → LiteralTree → Type 0 where
  plain : {xs : List Token} {n : Named} → IsNamed xs n → IsPlainLiteral xs (record { name = n; number = None })

pub data IsNumbered : List Token → LiteralTree → Type 0 where
  numbered : {xs ys : List Token} {arrow : Token} {n : Named} {e : ExprTree} → IsNamed xs n → Is (terminal.Mark sign.Arrow) arrow → IsExpr ys e → IsNumbered (xs ++ arrow ∷ ys) (record { name = n; number = Some e })

-- NAME {"," NAME} | NAME "=>" expr {"," NAME "=>" expr}
pub data AreLiterals : List Token → List LiteralTree → Type 0 where
  plain : {xs : List Token} {trees : List LiteralTree} → Listed IsPlainLiteral xs trees → AreLiterals xs trees
  numbered : {xs : List Token} {trees : List LiteralTree} → Listed IsNumbered xs trees → AreLiterals xs trees

-- "Size" "=>" expr | "Always_Valid" ["=>" ("True" | "False")]
pub data IsEnumAspect : List Token → EnumAspect → Type 0 where
  size : {t arrow : Token} {xs : List Token} {e : ExprTree} → Is (terminal.Quoted quoted.Size) t → Is (terminal.Mark sign.Arrow) arrow → IsExpr xs e → IsEnumAspect (t ∷ arrow ∷ xs) (easpect.Size t.place e)
  always : {t : Token} → Is (terminal.Quoted quoted.AlwaysValid) t → IsEnumAspect (t ∷ []) (easpect.AlwaysValid t.place true)
  always_true : {t arrow v : Token} → Is (terminal.Quoted quoted.AlwaysValid) t → Is (terminal.Mark sign.Arrow) arrow → Is (terminal.Quoted quoted.True) v → IsEnumAspect (t ∷ arrow ∷ v ∷ []) (easpect.AlwaysValid t.place true)
  always_false : {t arrow v : Token} → Is (terminal.Quoted quoted.AlwaysValid) t → Is (terminal.Mark sign.Arrow) arrow → Is (terminal.Quoted quoted.False) v → IsEnumAspect (t ∷ arrow ∷ v ∷ []) (easpect.AlwaysValid t.place false)

-- ["with" easpect {"," easpect}]
abbrev pub AreEnumAspects : List Token → List EnumAspect → Type 0
AreEnumAspects = AfterWord (terminal.Keyword word.With) (Listed IsEnumAspect)

-- the definition of a type
pub data IsDef : List Token → DefTree → Type 0 where
  unsigned : {t : Token} {xs : List Token} {e : ExprTree} → Is (terminal.Keyword word.Unsigned) t → IsExpr xs e → IsDef (t ∷ xs) (def.Unsigned e)
  range : {t dots with_token size arrow : Token} {xs ys zs : List Token} {a b c : ExprTree} → Is (terminal.Keyword word.Range) t → IsExpr xs a → Is (terminal.Mark sign.DoubleDot) dots → IsExpr ys b → Is (terminal.Keyword word.With) with_token → Is (terminal.Quoted quoted.Size) size → Is (terminal.Mark sign.Arrow) arrow → IsExpr zs c → IsDef (t ∷ (xs ++ (dots ∷ (ys ++ (with_token ∷ size ∷ arrow ∷ zs))))) (def.Range a b c)
  enumeration : {l r : Token} {xs ys : List Token} {literals : Vec LiteralTree Global} {aspects : Vec EnumAspect Global} → Is (terminal.Mark sign.ParenLeft) l → AreLiterals xs literals.items → Is (terminal.Mark sign.ParenRight) r → AreEnumAspects ys aspects.items → IsDef (l ∷ xs ++ r ∷ ys) (def.Enumeration literals aspects)
  sequence : {t of : Token} {xs : List Token} {n : NameTree} → Is (terminal.Keyword word.Sequence) t → Is (terminal.Keyword word.Of) of → IsName xs n → IsDef (t ∷ of ∷ xs) (def.Sequence n)
  derived : {t : Token} {xs : List Token} {n : NameTree} → Is (terminal.Keyword word.New) t → IsName xs n → IsDef (t ∷ xs) (def.Derived n)
  null : {t m : Token} → Is (terminal.Keyword word.Null) t → Is (terminal.Keyword word.Message) m → IsDef (t ∷ m ∷ []) def.NullMessage
  message : {xs : List Token} {a : MessageTree} → IsMessage xs a → IsDef xs (def.Message a)

-- name | "null"
pub data IsInner : List Token → Option NameTree → Type 0 where
  holds : {xs : List Token} {n : NameTree} → IsName xs n → IsInner xs (Some n)
  null : {t : Token} → Is (terminal.Keyword word.Null) t → IsInner (t ∷ []) None

-- "for" name "use" "(" NAME "=>" (name | "null") ")" ["if" expr] ";"
pub data IsRefine : List Token → RefineTree → Type 0 where
  refine : {t u l arrow r end : Token} {xs ys zs us : List Token} {a : RefineTree} → Is (terminal.Keyword word.For) t → IsName xs a.message → Is (terminal.Keyword word.Use) u → Is (terminal.Mark sign.ParenLeft) l → IsNamed ys a.field → Is (terminal.Mark sign.Arrow) arrow → IsInner zs a.inner → Is (terminal.Mark sign.ParenRight) r → IsCondition us a.condition → Is (terminal.Mark sign.Semicolon) end → IsRefine (t ∷ (xs ++ (u ∷ l ∷ (ys ++ (arrow ∷ (zs ++ (r ∷ (us ++ end ∷ [])))))))) a

-- "type" NAME "is" def ";" | refine, at the place of the first token
pub data IsDecl : List Token → DeclTree → Type 0 where
  defined : {t is end : Token} {xs ys : List Token} {n : Named} {d : DefTree} → Is (terminal.Keyword word.Type) t → IsNamed xs n → Is (terminal.Keyword word.Is) is → IsDef ys d → Is (terminal.Mark sign.Semicolon) end → IsDecl (t ∷ (xs ++ (is ∷ (ys ++ end ∷ [])))) (record { place = t.place; kind = decl.Defined n d })
  refined : {t : Token} {xs : List Token} {a : RefineTree} → IsRefine (t ∷ xs) a → IsDecl (t ∷ xs) (record { place = t.place; kind = decl.Refine a })

-- "with" NAME ";"
pub data IsWith : List Token → Named → Type 0 where
  with_name : {t end : Token} {xs : List Token} {n : Named} → Is (terminal.Keyword word.With) t → IsNamed xs n → Is (terminal.Mark sign.Semicolon) end → IsWith (t ∷ xs ++ end ∷ []) n

-- {"with" NAME ";"} "package" NAME "is"
pub data IsHeader : List Token → HeaderTree → Type 0 where
  header : {p is : Token} {xs ys : List Token} {a : HeaderTree} → Each IsWith xs a.withs.items → Is (terminal.Keyword word.Package) p → IsNamed ys a.name → Is (terminal.Keyword word.Is) is → IsHeader (xs ++ (p ∷ (ys ++ is ∷ []))) a

-- header {decl} "end" NAME ";"
pub data IsPackage : List Token → PackageTree → Type 0 where
  package_text : {e end : Token} {xs ys zs : List Token} {a : PackageTree} → IsHeader xs a.header → Each IsDecl ys a.decls.items → Is (terminal.Keyword word.End) e → IsNamed zs a.end_name → Is (terminal.Mark sign.Semicolon) end → IsPackage (xs ++ (ys ++ (e ∷ (zs ++ end ∷ [])))) a

-- a literal list behind its first name
abbrev pub GoesOnPlain : Named → List Token → List LiteralTree → Type 0
GoesOnPlain head ts trees = (xs : List Token) → IsNamed xs head → Listed IsPlainLiteral (xs ++ ts) trees

abbrev pub GoesOnNumbered : Named → List Token → List LiteralTree → Type 0
GoesOnNumbered head ts trees = (xs : List Token) → IsNamed xs head → Listed IsNumbered (xs ++ ts) trees

-- [","] then
pub data IsNextThen : List Token → ThenTree → Type 0 where
  plain : {xs : List Token} {a : ThenTree} → IsThen xs a → IsNextThen xs a
  comma : {t : Token} {xs : List Token} {a : ThenTree} → Is (terminal.Mark sign.Comma) t → IsThen xs a → IsNextThen (t ∷ xs) a

-- a comma before another aspect, and not before a link
abbrev pub is_list_comma : List Token → Bool
is_list_comma [] = false
is_list_comma (t ∷ []) = is_such (terminal.Mark sign.Comma) t.kind
is_list_comma (t ∷ u ∷ ts) = is_such (terminal.Mark sign.Comma) t.kind && not (is_such (terminal.Keyword word.Then) u.kind)

pub record ListGoesOn (ts : List Token) (b : Bool) : Type 0 where
  pub is : is_list_comma ts ≡ b
