-- Choices by the second token.
use Rattle.std.proofs.Common.{◌≡◌, ℕ, Bool, true, false, List, [], ◌∷◌, ◌++◌, refl, sym, ap, ◌∙◌, subst, append_assoc}
use Rattle.rx_syntax.specs.declared.token.Token.{Token}
use Rattle.rx_grammar.specs.declared.terminal.Terminal.{Terminal}
use Rattle.rx_grammar.specs.Grammar.{Symbol, Extent, Whole, Front, Derives, Begins, one, ◌▸◌, many, nothing, token, in_turn, no_more, one_more}
use Rattle.rx_grammar.specs.Reads.{IsBlocked, Stops, Leads}
use Rattle.rx_grammar.proofs.Steps.{Dead}

-- at the tokens that are there, one list of symbols may go on as the other
abbrev pub GoesHere : List Symbol → List Symbol → List Token → Type 0
GoesHere ss ss' ts = (w : Extent) (xs ys : List Token) → ts ≡ xs ++ ys → (w ≡ Whole → ys ≡ []) → Derives w ss xs → Derives w ss' xs

still_blocked : (ss ss' : List Symbol) (xs ys : List Token) → GoesHere ss ss' (xs ++ ys) → IsBlocked ss' xs ys → IsBlocked ss xs ys
still_blocked ss ss' xs [] g b = λ d. b (g Whole xs [] refl (λ _. refl) d)
still_blocked ss ss' xs (t ∷ ys) g b = λ d. b (g Front (xs ++ t ∷ []) ys (sym (append_assoc xs (t ∷ []) ys)) (λ h. absurd cc) d)

pub quietly_here : (ss ss' : List Symbol) (ts : List Token) → ((next : List Token) → Begins ss' next → Begins ss next) → GoesHere ss ss' ts → Leads ss [] ss' ts
quietly_here ss ss' ts up down = record {
  begins = up;
  stops = λ xs ys e s. record { begins = up xs s.begins; blocked = still_blocked ss ss' xs ys (subst (GoesHere ss ss') e down) s.blocked };
}

-- {k a} ends at a k behind which no a begins, where what follows may begin with k
ends_here : (k : Terminal) (a : Symbol) (ss : List Symbol) (t u : Token) (ts : List Token) → Begins ss (t ∷ []) → Dead (a ∷ many (one k ▸ a) ∷ ss) (u ∷ ts) → GoesHere (many (one k ▸ a) ∷ ss) ss (t ∷ u ∷ ts)
ends_here k a ss t u ts b d w [] ys e f (no_more x) = x
ends_here k a ss t u ts b d w [] ys e f nothing = nothing
ends_here k a ss t u ts b d w [] ys e f (one_more (in_turn nothing)) = nothing
ends_here k a ss t u ts b d w [] ys e f (one_more nothing) = nothing
ends_here k a ss t u ts b d w (x ∷ []) ys e f (no_more z) = z
ends_here k a ss t u ts b d Front (x ∷ []) ys e f (one_more z) = subst (λ y. Begins ss (y ∷ [])) first_same b
  where
    first_same : t ≡ x
    first_same = cc
ends_here k a ss t u ts b d Whole (x ∷ []) ys e f (one_more z) = absurd (longer (f refl) e)
  where
    longer : ys ≡ [] → t ∷ u ∷ ts ≡ x ∷ ys → ⊥
    longer h e' = cc
ends_here k a ss t u ts b d w (x ∷ y ∷ xs) ys e f (no_more z) = z
ends_here k a ss t u ts b d w (x ∷ y ∷ xs) ys e f (one_more (in_turn (token h z))) = absurd (d w xs (subst (λ v. Derives w (a ∷ many (one k ▸ a) ∷ ss) (v ∷ xs)) (sym second_same) z))
  where
    second_same : u ≡ y
    second_same = cc

pub step_ends_here : (k : Terminal) (a : Symbol) (ss : List Symbol) (t u : Token) (ts : List Token) → Begins ss (t ∷ []) → Dead (a ∷ many (one k ▸ a) ∷ ss) (u ∷ ts) → Leads (many (one k ▸ a) ∷ ss) [] ss (t ∷ u ∷ ts)
step_ends_here k a ss t u ts b d = quietly_here _ _ _ (λ next x. no_more x) (ends_here k a ss t u ts b d)
