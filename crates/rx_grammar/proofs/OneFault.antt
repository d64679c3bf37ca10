-- Tokens have one fault, and none where they are a package within the limits.
use Rattle.std.proofs.Common.{◌≡◌, ℕ, zero, suc, ◌+◌, ◌-◌, ◌<◌, ◌≤◌, ◌⊎◌, inl, inr, Bool, true, false, List, [], ◌∷◌, ◌++◌, length, take, drop, Option, Some, None, refl, sym, ap, ◌∙◌, subst, arith, length-append, append_assoc}
use Rattle.std.proofs.lemmas.Bool.{cases_lt}
use Rattle.std.proofs.Math.Seq.{take-append_seam, drop-append_seam}
use Rattle.rx_syntax.specs.declared.token.Place.{Place}
use Rattle.rx_syntax.specs.declared.token.Token.{Token}
use Rattle.rx_grammar.specs.declared.cursor.Limits.{Limits}
use Rattle.rx_grammar.specs.declared.syntax.SyntaxFault.{SyntaxFault}
use Rattle.rx_grammar.specs.declared.syntax.SyntaxFault.TheVariants.{TooDeep, Unsupported}
use Rattle.rx_grammar.specs.Grammar.{Symbol, Begins}
use Rattle.rx_grammar.specs.Limits.{exceeds, limits_after, limits_behind, Fits, no_limits}
use Rattle.rx_grammar.specs.Syntax as syntax
use Rattle.rx_grammar.specs.Syntax.{place_of, unsupported_at, IsToldAt, IsLongest, IsTooDeep, IsStopped, IsSyntaxFault}

-- a token among those that fit does not exceed the limits
pub fits_at : (l : Limits) (front : List Token) (t : Token) (rest : List Token) → Fits l (front ++ t ∷ rest) → exceeds (limits_behind l front) t.kind ≡ false
fits_at l [] t rest fits = fits.0
fits_at l (u ∷ front) t rest fits = fits_at (limits_after l u.kind) front t rest fits.1

-- of two fronts of the same tokens, the shorter one with its next token is a front of the longer one
goes_on : (front : List Token) (t : Token) (rest front' stop' : List Token) → front ++ t ∷ rest ≡ front' ++ stop' → length front < length front' → (more : List Token) × (front' ≡ front ++ t ∷ more)
goes_on [] t rest [] stop' e h = absurd (omega arith)
goes_on [] t rest (u ∷ front') stop' e h = (front', (let same : t ≡ u = cc in cc))
goes_on (a ∷ front) t rest [] stop' e h = absurd (omega arith)
goes_on (a ∷ front) t rest (u ∷ front') stop' e h =
    let same : a ≡ u = cc in
    let inner : front ++ t ∷ rest ≡ front' ++ stop' = cc in
    let found = goes_on front t rest front' stop' inner (omega arith) in
    let is : front' ≡ front ++ t ∷ found.0 = found.1 in
    (found.0, cc)

-- a token past the limits is not among tokens that fit
pub past : (front : List Token) (t : Token) (rest front' stop' : List Token) → front ++ t ∷ rest ≡ front' ++ stop' → exceeds (limits_behind no_limits front) t.kind ≡ true → Fits no_limits front' → length front < length front' → ⊥
past front t rest front' stop' e over fits h =
    let found = goes_on front t rest front' stop' e h in
    let here = fits_at no_limits front t found.0 (subst (Fits no_limits) found.1 fits) in
    let bad : true ≡ false = sym over ∙ here in
    cc

same_front : (front stop front' stop' : List Token) → front ++ stop ≡ front' ++ stop' → length front ≡ length front' → (front ≡ front') × (stop ≡ stop')
same_front [] stop [] stop' e h = (refl, e)
same_front [] stop (u ∷ front') stop' e h = absurd (omega arith)
same_front (t ∷ front) stop [] stop' e h = absurd (omega arith)
same_front (t ∷ front) stop (u ∷ front') stop' e h =
    let same : t ≡ u = cc in
    let inner : front ++ stop ≡ front' ++ stop' = cc in
    let rest = same_front front stop front' stop' inner (omega arith) in
    let fronts : front ≡ front' = rest.0 in
    (cc, rest.1)

told_once : (plain : Bool) (front stop : List Token) (last : Place) (e e' : SyntaxFault) → IsToldAt plain front stop last e → IsToldAt plain front stop last e' → e ≡ e'
told_once plain front stop last _ _ (syntax.expected none) (syntax.expected none') = refl
told_once plain front stop last _ _ (syntax.expected none) (syntax.not_supported {w = w} some) = absurd (let bad : None ≡ Some w = sym none ∙ some in cc)
told_once plain front stop last _ _ (syntax.not_supported {w = w} some) (syntax.expected none) = absurd (let bad : None ≡ Some w = sym none ∙ some in cc)
told_once plain front stop last _ _ (syntax.not_supported {w = w} some) (syntax.not_supported {w = w'} some') =
    let both : Some w ≡ Some w' = sym some ∙ some' in
    let words : w ≡ w' = cc in
    ap (λ (v : List ℕ). Unsupported (place_of stop last) v) words

-- the longest front is no longer than another one
no_longer : (s : Symbol) (ts front stop front' stop' : List Token) → ts ≡ front ++ stop → ts ≡ front' ++ stop' → Begins (s ∷ []) front' → IsLongest s front stop → length front' ≤ length front
no_longer s ts front stop front' stop' split split' begins is =
    let same : take (length front') (front ++ stop) ≡ front' = ap (take (length front')) (sym split ∙ split') ∙ take-append_seam front' stop' in
    let sizes = ap length (sym split ∙ split') in
    let a = length-append front stop in
    let b = length-append front' stop' in
    is.longest (length front') (omega arith) (subst (Begins (s ∷ [])) (sym same) begins)

stopped_once : (s : Symbol) (plain : Bool) (ts : List Token) (last : Place) (e e' : SyntaxFault) → IsStopped s plain ts last e → IsStopped s plain ts last e' → e ≡ e'
stopped_once s plain ts last e e' a b =
    let up = no_longer s ts a.front a.stop b.front b.stop a.split b.split b.longest.begins a.longest in
    let down = no_longer s ts b.front b.stop a.front a.stop b.split a.split a.longest.begins b.longest in
    let same = same_front a.front a.stop b.front b.stop (sym a.split ∙ b.split) (omega arith) in
    told_once plain b.front b.stop last e e' (subst (λ (f : List Token). IsToldAt plain f b.stop last e) same.0 (subst (λ (r : List Token). IsToldAt plain a.front r last e) same.1 a.told)) b.told

too_deep_once : (s : Symbol) (ts : List Token) (e e' : SyntaxFault) → IsTooDeep s ts e → IsTooDeep s ts e' → e ≡ e'
too_deep_once s ts e e' a b = by_order (cases_lt (length a.front) (length b.front)) (cases_lt (length b.front) (length a.front))
  where
    both : a.front ++ a.at ∷ a.rest ≡ b.front ++ b.at ∷ b.rest
    both = sym a.split ∙ b.split

    by_order : (length a.front < length b.front) ⊎ (length b.front ≤ length a.front) → (length b.front < length a.front) ⊎ (length a.front ≤ length b.front) → e ≡ e'
    by_order (inl h) k = absurd (past a.front a.at a.rest b.front (b.at ∷ b.rest) both a.exceeds b.fits h)
    by_order (inr h) (inl k) = absurd (past b.front b.at b.rest a.front (a.at ∷ a.rest) (sym both) b.exceeds a.fits k)
    by_order (inr h) (inr k) =
        let same = same_front a.front (a.at ∷ a.rest) b.front (b.at ∷ b.rest) both (omega arith) in
        let stops : a.at ∷ a.rest ≡ b.at ∷ b.rest = same.1 in
        let ats : a.at ≡ b.at = cc in
        a.told ∙ ap (λ (t : Token). TooDeep t.place) ats ∙ sym b.told

not_both : (s : Symbol) (plain : Bool) (ts : List Token) (last : Place) (e e' : SyntaxFault) → IsTooDeep s ts e → IsStopped s plain ts last e' → ⊥
not_both s plain ts last e e' a b =
    let long = no_longer s ts b.front b.stop (a.front ++ a.at ∷ []) a.rest b.split (a.split ∙ sym (append_assoc a.front (a.at ∷ []) a.rest)) a.begins b.longest in
    let size = length-append a.front (a.at ∷ []) in
    past a.front a.at a.rest b.front b.stop (sym a.split ∙ b.split) a.exceeds b.fits (omega arith)

pub one_fault : (s : Symbol) (plain : Bool) (ts : List Token) (last : Place) (e e' : SyntaxFault) → IsSyntaxFault s plain ts last e → IsSyntaxFault s plain ts last e' → e ≡ e'
one_fault s plain ts last e e' (syntax.too_deep a) (syntax.too_deep b) = too_deep_once s ts e e' a b
one_fault s plain ts last e e' (syntax.too_deep a) (syntax.stopped b) = absurd (not_both s plain ts last e e' a b)
one_fault s plain ts last e e' (syntax.stopped a) (syntax.too_deep b) = absurd (not_both s plain ts last e' e b a)
one_fault s plain ts last e e' (syntax.stopped a) (syntax.stopped b) = stopped_once s plain ts last e e' a b

-- tokens that fit are not too deep
pub fits_not_deep : (s : Symbol) (ts : List Token) (e : SyntaxFault) → IsTooDeep s ts e → Fits no_limits ts → ⊥
fits_not_deep s ts e a fits =
    let here = fits_at no_limits a.front a.at a.rest (subst (Fits no_limits) a.split fits) in
    let bad : true ≡ false = sym a.exceeds ∙ here in
    cc
