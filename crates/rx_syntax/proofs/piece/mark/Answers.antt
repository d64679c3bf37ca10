use Rattle.std.proofs.Common.{◌≡◌, ℕ, List, [], ◌∷◌, ◌++◌, sym, ap, ◌∙◌, false, Option, Some, None, IfSome, IfNone}
use Rattle.std.specs.List.{list_any}
use Rattle.std.specs.Str.{bytes_eq}
use Rattle.rx_syntax.specs.declared.mark.Mark.{Mark}
use Rattle.rx_syntax.specs.Marks.{marks, text_of, BeginsWithTwo}
use Rattle.rx_syntax.specs.Text.{IsLongest}
use Rattle.rx_syntax.proofs.Pieces.{double_longest, single_longest, no_mark_at}
use Rattle.rx_syntax.proofs.piece.mark.Goals as goal

double_some : (m : Mark) (a : ℕ) (tail text : List ℕ) → text ≡ a ∷ tail → BeginsWithTwo m a tail → (rest : List ℕ) × (text ≡ text_of m ++ rest) × IsLongest m rest
double_some m a tail text e h =
    (h.rest, e ∙ ap (λ t. a ∷ t) h.split ∙ ap (λ t. t ++ h.rest) (sym h.text), double_longest m a h.second h.rest h.text)

pub returns-in-Some-clause-some : goal.returns-in-Some-clause-some
returns-in-Some-clause-some c = double_some _ _ _ _ c.in_ok-first.ensures.cases.0 c.in-Some.ensures.some

single_some : (o : Option Mark) (a : ℕ) (tail text : List ℕ) → text ≡ a ∷ tail → ((b : ℕ) (more : List ℕ) → tail ≡ b ∷ more → list_any (λ x. bytes_eq (text_of x) (a ∷ b ∷ [])) marks ≡ false) → IfSome o (λ m. text_of m ≡ a ∷ []) → IfSome o (λ m. (rest : List ℕ) × (text ≡ text_of m ++ rest) × IsLongest m rest)
single_some None a tail text e n h = tt
single_some (Some m) a tail text e n h = (tail, e ∙ ap (λ t. t ++ tail) (sym h), single_longest m a tail h n)

pub returns-clause-some : goal.returns-clause-some
returns-clause-some c = single_some _ _ _ _ c.in_ok-first.ensures.cases.0 c.in_default.ensures.none c.single_mark.ensures.some

single_none : (o : Option Mark) (a : ℕ) (tail text : List ℕ) → text ≡ a ∷ tail → IfNone o (list_any (λ m. bytes_eq (text_of m) (a ∷ [])) marks ≡ false) → IfNone o ((m : Mark) (rest : List ℕ) → text ≡ text_of m ++ rest → ⊥)
single_none (Some m) a tail text e h = tt
single_none None a tail text e h = λ m rest f. no_mark_at a tail text e h m rest f

pub returns-clause-none : goal.returns-clause-none
returns-clause-none c = single_none _ _ _ _ c.in_ok-first.ensures.cases.0 c.single_mark.ensures.none
