-- The commas of a link's aspects: one before `then` belongs to the next link.
use Rattle.std.proofs.Common.{◌≡◌, Bool, true, false, ◌||◌, ◌&&◌, not, List, [], ◌∷◌, ◌++◌, refl, sym, ap, ◌∙◌, subst, append_assoc, append-nil}
use Rattle.std.proofs.lemmas.Bool.{false≢true, and_parts}
use Rattle.rx_syntax.specs.declared.token.Token.{Token}
use Rattle.rx_syntax.specs.declared.token.TokenKind.{TokenKind}
use Rattle.rx_syntax.specs.declared.mark.Mark.TheVariants as sign
use Rattle.rx_grammar.specs.declared.cursor.Limits.{Limits}
use Rattle.rx_grammar.specs.declared.terminal.Terminal.{Terminal}
use Rattle.rx_grammar.specs.declared.terminal.Terminal.TheVariants as terminal
use Rattle.rx_grammar.specs.declared.terminal.Keyword.TheVariants as word
use Rattle.rx_grammar.specs.declared.terminal.Quoted.TheVariants as quoted
use Rattle.rx_grammar.specs.Terminal.{is_such, is_one_of}
use Rattle.rx_grammar.specs.Grammar.{Symbol, Extent, Whole, Front, Derives, Begins, rule, one, mark, key, ◌▸◌, maybe, many, condition, more_thens, aspect, aspects, one_then, thens_more, nothing, token, in_turn, absent, present, no_more, one_more}
use Rattle.rx_grammar.specs.First.{exactly, first_of_all, Ahead}
use Rattle.rx_grammar.specs.Reads.{NoneBegins, Follows, Leads}
use Rattle.rx_grammar.specs.Sentence.{ListGoesOn, is_list_comma}
use Rattle.rx_grammar.proofs.First.{begins_first, apart_is, or_left, or_false}
use Rattle.rx_grammar.proofs.Steps.{Dead, dead, dead_end, step_no_more}
use Rattle.rx_grammar.proofs.Second.{GoesHere, quietly_here, step_ends_here}
use Rattle.rx_grammar.proofs.Sofar.{Sofar, step}

abbrev comma : Terminal
comma = terminal.Mark sign.Comma

abbrev part : Symbol
part = mark sign.Comma ▸ rule aspect

abbrev behind : List Symbol → List Symbol
behind rest = condition ∷ more_thens ∷ rest

only : (b : Bool) → (b || false) ≡ true → b ≡ true
only true h = refl
only false h = h

no_first : (a : Terminal) (cs : List Terminal) (k : TokenKind) → is_such a k ≡ false → is_one_of cs k ≡ false → is_one_of (a ∷ cs) k ≡ false
no_first a cs k h g = rw h g

not_then : (t : Token) → is_such comma t.kind ≡ true → is_such (terminal.Keyword word.Then) t.kind ≡ false
not_then t h = apart_is comma (terminal.Keyword word.Then) t.kind refl h

-- a comma that stands behind a link's aspects is followed by another link
after_links : {w : Extent} {t : Token} {xs : List Token} {rest : List Symbol} → Derives w (more_thens ∷ rest) (t ∷ xs) → is_such comma t.kind ≡ true → NoneBegins thens_more rest → Derives w (rule one_then ∷ more_thens ∷ rest) xs
after_links {t = t} (no_more d) h f = absurd (false≢true (sym (f t.kind (or_left (is_such comma t.kind) _ h)) ∙ begins_first d))
after_links (one_more (in_turn (present (token g d)))) h f = d
after_links {t = t} (one_more (in_turn (absent d))) h f = absurd (false≢true (sym (not_then t h) ∙ only _ (begins_first d)))

after_comma : {w : Extent} {t : Token} {xs : List Token} {rest : List Symbol} → Derives w (behind rest) (t ∷ xs) → is_such comma t.kind ≡ true → NoneBegins thens_more rest → Derives w (rule one_then ∷ more_thens ∷ rest) xs
after_comma (absent d) h f = after_links d h f
after_comma {t = t} (present (in_turn (token g d))) h f = absurd (false≢true (sym (apart_is comma (terminal.Keyword word.If) t.kind refl h) ∙ g))

comma_then : (t : Token) (rest : List Symbol) → is_such comma t.kind ≡ true → Begins (behind rest) (t ∷ [])
comma_then t rest h = absent (one_more (in_turn (present (token h nothing))))

no_aspect : (u : Token) (us : List Symbol) (ts : List Token) → is_such (terminal.Keyword word.Then) u.kind ≡ true → Dead (rule aspect ∷ us) (u ∷ ts)
no_aspect u us ts h = dead (rule aspect ∷ us) u ts (no_first (terminal.Quoted quoted.First) (terminal.Quoted quoted.Size ∷ []) u.kind (apart_is (terminal.Keyword word.Then) (terminal.Quoted quoted.First) u.kind refl h) (no_first (terminal.Quoted quoted.Size) [] u.kind (apart_is (terminal.Keyword word.Then) (terminal.Quoted quoted.Size) u.kind refl h) refl))

no_comma_dead : (t : Token) (us : List Symbol) (ts : List Token) → is_such comma t.kind ≡ false → Dead (part ∷ us) (t ∷ ts)
no_comma_dead t us ts h = dead (part ∷ us) t ts (no_first comma [] t.kind h refl)

-- the list of aspects ends here
ends_at : (ts : List Token) (rest : List Symbol) → is_list_comma ts ≡ false → Leads (many part ∷ behind rest) [] (behind rest) ts
ends_at [] rest h = step_no_more part (behind rest) [] (dead_end part (many part ∷ behind rest) refl)
ends_at (t ∷ []) rest h = step_no_more part (behind rest) (t ∷ []) (no_comma_dead t (many part ∷ behind rest) [] h)
ends_at (t ∷ u ∷ ts) rest h = by_tests (is_such comma t.kind) refl (is_such (terminal.Keyword word.Then) u.kind) refl h
  where
    by_tests : (a : Bool) → is_such comma t.kind ≡ a → (b : Bool) → is_such (terminal.Keyword word.Then) u.kind ≡ b → (is_such comma t.kind && not (is_such (terminal.Keyword word.Then) u.kind)) ≡ false → Leads (many part ∷ behind rest) [] (behind rest) (t ∷ u ∷ ts)
    by_tests false e b f g = step_no_more part (behind rest) (t ∷ u ∷ ts) (no_comma_dead t (many part ∷ behind rest) (u ∷ ts) e)
    by_tests true e true f g = step_ends_here comma (rule aspect) (behind rest) t u ts (comma_then t rest e) (no_aspect u (many part ∷ behind rest) ts f)
    by_tests true e false f g = absurd (false≢true (sym g ∙ rw (e, f) refl))

-- no link begins behind the comma
no_link : (w : Extent) (xs ys us : List Token) (rest : List Symbol) → us ≡ xs ++ ys → (w ≡ Whole → ys ≡ []) → (u : Token) (vs : List Token) → us ≡ u ∷ vs → is_such (terminal.Keyword word.Then) u.kind ≡ false → Derives w (rule one_then ∷ more_thens ∷ rest) xs → (w ≡ Front) × (xs ≡ [])
no_link Front [] ys us rest e f u vs g h d = (refl, refl)
no_link Whole [] ys us rest e f u vs g h d = absurd (dead_end (rule one_then) (more_thens ∷ rest) refl d)
no_link w (x ∷ xs) ys us rest e f u vs g h d =
    let same : u ≡ x = cc in
    absurd (false≢true (sym h ∙ subst (λ v. is_such (terminal.Keyword word.Then) v.kind ≡ true) (sym same) (only _ (begins_first d))))

-- the list of aspects goes on here
goes_on : (t : Token) (us : List Token) (rest : List Symbol) → is_such comma t.kind ≡ true → ((u : Token) (vs : List Token) → us ≡ u ∷ vs → is_such (terminal.Keyword word.Then) u.kind ≡ false) → NoneBegins thens_more rest → GoesHere (many part ∷ behind rest) (part ∷ many part ∷ behind rest) (t ∷ us)
goes_on t us rest h g n w xs ys e f (one_more d) = d
goes_on t us rest h g n w xs ys e f nothing = nothing
goes_on t us rest h g n Front [] ys e f (no_more d) = nothing
goes_on t us rest h g n Whole [] ys e f (no_more d) = absurd (no_end (f refl) e)
  where
    no_end : ys ≡ [] → t ∷ us ≡ ys → ⊥
    no_end a b = cc
goes_on t us rest h g n w (x ∷ xs) ys e f (no_more d) = by_rest us refl
  where
    first_is : t ≡ x
    first_is = cc

    rest_is : us ≡ xs ++ ys
    rest_is = cc

    is_comma : is_such comma x.kind ≡ true
    is_comma = subst (λ v. is_such comma v.kind ≡ true) first_is h

    d' : Derives w (rule one_then ∷ more_thens ∷ rest) xs
    d' = after_comma d is_comma n

    front_only : (w' : Extent) (zs : List Token) → (w' ≡ Front) × (zs ≡ []) → Derives w' (part ∷ many part ∷ behind rest) (x ∷ zs)
    front_only w' zs p = subst (λ v. Derives v (part ∷ many part ∷ behind rest) (x ∷ zs)) (sym p.0) (subst (λ v. Derives Front (part ∷ many part ∷ behind rest) (x ∷ v)) (sym p.1) (in_turn (token is_comma nothing)))

    by_end : (w' : Extent) (zs : List Token) → (w' ≡ Whole → ys ≡ []) → us ≡ zs ++ ys → us ≡ [] → Derives w' (rule one_then ∷ more_thens ∷ rest) zs → (w' ≡ Front) × (zs ≡ [])
    by_end Front [] k a b c = (refl, refl)
    by_end Whole [] k a b c = absurd (dead_end (rule one_then) (more_thens ∷ rest) refl c)
    by_end w' (z ∷ zs) k a b c = absurd cc

    by_rest : (vs : List Token) → us ≡ vs → Derives w (part ∷ many part ∷ behind rest) (x ∷ xs)
    by_rest [] a = front_only w xs (by_end w xs f rest_is a d')
    by_rest (u ∷ vs) a = front_only w xs (no_link w xs ys us rest rest_is f u vs a (g u vs a) d')

repeats_at : (ts : List Token) (rest : List Symbol) → is_list_comma ts ≡ true → NoneBegins thens_more rest → Leads (many part ∷ behind rest) [] (part ∷ many part ∷ behind rest) ts
repeats_at [] rest h n = absurd (false≢true h)
repeats_at (t ∷ []) rest h n = quietly_here _ _ _ (λ next x. one_more x) (goes_on t [] rest h (λ u vs e. absurd cc) n)
repeats_at (t ∷ u ∷ ts) rest h n =
    let p = and_parts (is_such comma t.kind) (not (is_such (terminal.Keyword word.Then) u.kind)) h in
    quietly_here _ _ _ (λ next x. one_more x) (goes_on t (u ∷ ts) rest p.0 (λ v vs e. not_it v vs e (is_such (terminal.Keyword word.Then) u.kind) refl p.1) n)
  where
    not_it : (v : Token) (vs : List Token) → u ∷ ts ≡ v ∷ vs → (b : Bool) → is_such (terminal.Keyword word.Then) u.kind ≡ b → not b ≡ true → is_such (terminal.Keyword word.Then) v.kind ≡ false
    not_it v vs e true f g = absurd (false≢true g)
    not_it v vs e false f g = let same : u ≡ v = cc in subst (λ x. is_such (terminal.Keyword word.Then) x.kind ≡ false) same f

module _ {ts : List Token} {l : Limits} {used : List Token} {ts' : List Token} {l' : Limits} (s : Sofar (rule aspects) (exactly (condition ∷ more_thens ∷ []) thens_more) ts l used (many (mark sign.Comma ▸ rule aspect) ∷ []) ts' l') where
  pub list_ends : ListGoesOn ts' false → Sofar (rule aspects) (exactly (condition ∷ more_thens ∷ []) thens_more) ts l used [] ts' l'
  list_ends h = step s (λ ss f. subst (λ xs. Leads (many part ∷ xs) [] xs ts') (sym f.1) (ends_at ts' f.0 h.is))

  pub list_repeats : ListGoesOn ts' true → Sofar (rule aspects) (exactly (condition ∷ more_thens ∷ []) thens_more) ts l used ((mark sign.Comma ▸ rule aspect) ∷ many (mark sign.Comma ▸ rule aspect) ∷ []) ts' l'
  list_repeats h = step s (λ ss f. subst (λ xs. Leads (many part ∷ xs) [] (part ∷ many part ∷ xs) ts') (sym f.1) (repeats_at ts' f.0 h.is f.2))
