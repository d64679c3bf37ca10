use Rattle.std.proofs.Common.{◌≡◌, ◌≢◌, ◌∙◌, ℕ, ◌==◌, Bool, true, false, ◌&&◌, List, [], ◌∷◌, Option, Some, None, option_map, refl, sym, ap, cond, lit<, rules}
use Rattle.std.proofs.Math.Bool.{and-false}
use Rattle.std.specs.List.{before_first, after_first}
use Rattle.std.proofs.lemmas.Bool.Decides.{Decides-eqb}
use Rattle.std.proofs.lemmas.Str.Pattern.{split_once_first, strip_prefix_char}
use Rattle.std.proofs.Common.{Bor}
use Rattle.rx_words.specs.Names.{is_name, pair_of, pair_in}
use Rattle.rx_words.proofs.names.pair_in.Goals as goal

abbrev pick : Bool → List ℕ → List ℕ → Option (List ℕ × List ℕ)
pick t front back = cond t (Some (front, back)) None

-- what does not begin with a colon is no second half
no_second : (front rest : List ℕ) → ((r : List ℕ) → rest ≢ 58 ∷ r) → pair_of front rest ≡ None
no_second front [] none = refl
no_second front (b ∷ back) none = go (b == 58) refl
  where
    go : (t : Bool) → (b == 58) ≡ t → pick (is_name front && (t && is_name back)) front back ≡ None
    go true e = absurd (none back (ap (λ n. n ∷ back) ((Decides-eqb b 58).0 e)))
    go false e = ap (λ t. pick t front back) (and-false (is_name front))

shown : Option (Bor (List ℕ) × Bor (List ℕ)) → Option (List ℕ × List ℕ)
shown r = option_map (λ p. (p.0.now, p.1.now)) r

pub returns-in_err-back : goal.returns-in_err-back
unfolding shown
returns-in_err-back c =
    let text = c.args.text.now in
    let parts = split_once_first 58 text (Some (c.in_ok-front.front, c.in_ok-front.rest)) c.in_ok-front.ensures.cases (lit< tt) in
    let none = strip_prefix_char 58 c.in_ok-front.rest.now None c.in_err-back.ensures.cases (lit< tt) in
    let e : pair_in text ≡ None = ap (pair_of (before_first (λ b. b == 58) text)) (sym parts.2) ∙ no_second (before_first (λ b. b == 58) text) c.in_ok-front.rest.now none in
    let given : c.from_residual-in_err-back.result ≡ None = search rules in
    ap shown given ∙ sym e
