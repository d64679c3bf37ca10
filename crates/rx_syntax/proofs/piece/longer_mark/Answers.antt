use Rattle.std.proofs.Common.{◌≡◌, ℕ, List, [], ◌∷◌, subst, false, Option, Some, None, IfSome, IfNone}
use Rattle.std.specs.List.{list_any}
use Rattle.std.specs.Str.{bytes_eq}
use Rattle.rx_syntax.specs.declared.mark.Mark.{Mark}
use Rattle.rx_syntax.specs.Marks.{marks, text_of, BeginsWithTwo}
use Rattle.rx_syntax.proofs.piece.longer_mark.Goals as goal

two_some : (o : Option Mark) (a b : ℕ) (tail rest : List ℕ) → tail ≡ b ∷ rest → IfSome o (λ m. text_of m ≡ a ∷ b ∷ []) → IfSome o (λ m. BeginsWithTwo m a tail)
two_some None a b tail rest e h = tt
two_some (Some m) a b tail rest e h = record { second = b; rest = rest; split = e; text = h }

abbrev NoDouble : ℕ → ℕ → Type 0
NoDouble a b = list_any (λ m. bytes_eq (text_of m) (a ∷ b ∷ [])) marks ≡ false

two_none : (o : Option Mark) (a b : ℕ) (tail rest : List ℕ) → tail ≡ b ∷ rest → IfNone o (NoDouble a b) → IfNone o ((c : ℕ) (more : List ℕ) → tail ≡ c ∷ more → NoDouble a c)
two_none (Some m) a b tail rest e h = tt
two_none None a b tail rest e h = λ c more f. let same : b ≡ c = cc in subst (NoDouble a) same h

pub returns-clause-some : goal.returns-clause-some
returns-clause-some c = two_some _ _ _ _ _ c.in_ok-second.ensures.cases.0 c.double_mark.ensures.some

pub returns-clause-none : goal.returns-clause-none
returns-clause-none c = two_none _ c.args.first c.in_ok-second.second.now c.args.tail.now _ c.in_ok-second.ensures.cases.0 c.double_mark.ensures.none
