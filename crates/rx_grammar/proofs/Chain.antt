-- A chain of operands that operators of one level join, as far as it was read.
use Rattle.std.proofs.Common.{◌≡◌, ◌<◌, List, [], ◌∷◌, ◌++◌, length, sym, ap, ◌∙◌, arith, append_assoc, length-append}
use Rattle.rx_syntax.specs.declared.token.Token.{Token}
use Rattle.rx_grammar.specs.declared.cursor.Limits.{Limits}
use Rattle.rx_grammar.specs.Grammar.{Symbol}
use Rattle.rx_grammar.specs.First.{Behind}
use Rattle.rx_grammar.specs.Reads.{Read}
use Rattle.rx_grammar.proofs.Sofar.{Sofar}

-- the sentence so far, and the symbol that is left to read
pub record Chain {A : Type 0} (symbol : Symbol) (more : Behind) (IsSentence : List Token → A → Type 0) (left : Symbol) (ts : List Token) (l : Limits) (tree : A) (ts' : List Token) (l' : Limits) : Type 0 where
  pub used : List Token
  pub sofar : Sofar symbol more ts l used (left ∷ []) ts' l'
  pub sentence : IsSentence used tree

-- a comma and a part behind a list
pub spread : (xs us vs : List Token) (c : Token) → xs ++ ((us ++ c ∷ []) ++ vs) ≡ (xs ++ us) ++ c ∷ vs
spread xs us vs c = ap (λ zs. xs ++ zs) (append_assoc us (c ∷ []) vs) ∙ sym (append_assoc xs us (c ∷ vs))

-- a part that is not empty makes the rest shorter
pub shorter : {A : Type 0} {P : List Token → A → Type 0} {s : Symbol} {m : Behind} {ts ts' : List Token} {l l' : Limits} {x : A} (r : Read s m P ts l x ts' l') → 0 < length r.used → length ts' < length ts
shorter {ts' = ts'} r h = let e = ap length r.split in let a = length-append r.used ts' in omega arith
