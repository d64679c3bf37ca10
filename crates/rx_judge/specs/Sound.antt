-- Typed, linear and narrow expressions: what comes out of judging.
--   FieldsBelow n x           every field that the expression names has an id below n
--   FitNames                  the fields and literals that names stand for have these kinds and limits
--   IsSound                   an expression of the text, and what it means
--   MeaningIsSound            whatever an expression means is sound
use Rattle.std.specs.Prelude.{◌≡◌, ℕ, ◌+◌, ◌<◌, ◌≤◌, ◌^◌, true, Option, Some, Ok, List, []}
use Rattle.rx_syntax.specs.declared.tree.ExprTree.{ExprTree}
use Rattle.rx_syntax.specs.declared.tree.ExprTree.TheVariants as tree
use Rattle.rx_types.specs.declared.kind.Kind.{Kind}
use Rattle.rx_types.specs.Coefficients.{HasLowCoefficients}
use Rattle.rx_types.specs.Kinds.{HasKind, IsSpelled}
use Rattle.rx_types.specs.Narrow.{IsNarrow, interval_of}
use Rattle.rx_types.specs.Static.{IsLinear, is_static, operators_in}
use Rattle.rx_types.specs.Tree.{Tree, Field, First, Last, Size, Neg, Not, Binary}
use Rattle.rx_judge.specs.Judged.{Typed, judged}
use Rattle.rx_judge.specs.Names.{Scope, Names, Nothing, Within}
use Rattle.rx_judge.specs.Table.{found}
use Rattle.rx_judge.specs.declared.names.KnownField.{KnownField}
use Rattle.rx_judge.specs.declared.names.KnownLiteral.{KnownLiteral}
use Rattle.rx_judge.specs.declared.names.FieldKind.{FieldKind}
use Rattle.rx_judge.specs.declared.names.FieldKind.TheVariants as field_kind

abbrev pub FieldsBelow : ℕ → Tree → Type 0
FieldsBelow n (Field f) = f < n
FieldsBelow n (First f) = f < n
FieldsBelow n (Last f) = f < n
FieldsBelow n (Size f) = f < n
FieldsBelow n (Neg a) = FieldsBelow n a
FieldsBelow n (Not a) = FieldsBelow n a
FieldsBelow n (Binary o a b) = FieldsBelow n a × FieldsBelow n b
FieldsBelow n leaf = Unit {0}

-- how many operators an expression of the text has
abbrev pub operators_of : ExprTree → ℕ
operators_of (tree.Neg' p q e) = operators_of e + 1
operators_of (tree.Not' p q e) = operators_of e + 1
operators_of (tree.Binary' o p q a s b) = operators_of a + operators_of b + 1
operators_of leaf = 0

-- a scalar field has the kind and the greatest number that are told
abbrev pub IsListed : (ℕ → Option Kind) → (ℕ → ℕ) → ℕ → FieldKind → Type 0
IsListed kinds limit id (field_kind.Scalar k greatest) = (kinds id ≡ Some k) × (limit id ≡ greatest) × (greatest < 2 ^ 64)
IsListed kinds limit id field_kind.Bytes = Unit {0}

module _ (kinds : ℕ → Option Kind) (limit : ℕ → ℕ) (n : ℕ) where
  -- each field is one of n, and has its kind and its limit, and literals have 64 bits
  pub record FitScope (s : Scope) : Type 0 where
    pub fields : (w : List ℕ) (f : KnownField) → found s.fields [] w ≡ Some f → (f.id < n) × IsListed kinds limit f.id f.kind
    pub literals : (p w : List ℕ) (l : KnownLiteral) → found s.literals p w ≡ Some l → l.number < 2 ^ 64

  abbrev pub FitNames : Names → Type 0
  FitNames Nothing = Unit {0}
  FitNames (Within s) = FitScope s

  -- typed, linear and narrow, with no more operators than the text, and with what is known of it
  pub record IsSound (e : ExprTree) (x : Typed) : Type 0 where
    pub fields : FieldsBelow n x.tree
    pub has_kind : HasKind kinds x.tree x.about.kind
    pub linear : IsLinear x.tree
    pub narrow : IsNarrow limit x.tree
    pub low : HasLowCoefficients x.tree
    pub few : operators_in x.tree ≤ operators_of e
    pub interval : interval_of limit x.tree ≡ x.about.interval
    pub constant : x.about.is_constant ≡ is_static x.tree
    pub static : x.about.is_static ≡ true → x.about.is_constant ≡ true
    pub spelled : x.about.is_literal ≡ true → IsSpelled x.tree

abbrev pub MeaningIsSound : Type 0
MeaningIsSound = (kinds : ℕ → Option Kind) (limit : ℕ → ℕ) (n : ℕ) (names : Names) (owner : List ℕ) (e : ExprTree) (x : Typed) → FitNames kinds limit n names → judged names owner e ≡ Ok x → IsSound kinds limit n e x
