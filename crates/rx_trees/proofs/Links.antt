-- Conditions, aspects and links have one reading.
use Rattle.std.proofs.Common.{◌≡◌, ℕ, List, [], ◌∷◌, ◌++◌, Option, Some, refl, sym, ap, ◌∙◌, subst, append-nil, ◌⊎◌, inl, inr}
use Rattle.rx_syntax.specs.declared.token.Token.{Token}
use Rattle.rx_syntax.specs.declared.tree.AspectTree.{AspectTree}
use Rattle.rx_syntax.specs.declared.tree.AspectTree.TheVariants as aspect
use Rattle.rx_syntax.specs.declared.tree.ThenTree.{ThenTree}
use Rattle.rx_grammar.specs.declared.terminal.Terminal.{Terminal}
use Rattle.rx_grammar.specs.declared.terminal.Terminal.TheVariants as terminal
use Rattle.rx_grammar.specs.declared.terminal.Keyword.TheVariants as word
use Rattle.rx_grammar.specs.declared.terminal.Quoted.TheVariants as quoted
use Rattle.rx_grammar.specs.Grammar.{expr_more, condition_more, thens_more}
use Rattle.rx_grammar.specs.Tokens.{word_of}
use Rattle.rx_grammar.specs.Sentence as sentence
use Rattle.rx_grammar.specs.Sentence.{Behind, Listed, IsExpr, IsCondition, IsAspect, AreAspects, IsTarget, IsThen, IsNextThen, AreThens, MaybeThens}
use Rattle.rx_trees.specs.Alike as alike
use Rattle.rx_trees.specs.Alike.{AreSame, IsSameIfAny, IsSameExpr, IsSameAspect, IsSameThen}
use Rattle.rx_trees.proofs.Heads.{Stops, Starts, Quiet, comma, head_same, tail_same, starts_on, starts_left, starts_right, token_starts, apart_stops, apart_differ, start_or_stop, stops_left, stops_right, narrow, quiet_of, quiet_comma, not_quiet}
use Rattle.rx_trees.proofs.Sole.{Sole, Fronts, Both, both, AreBothSame, within, wider, quiet_outside, fronts_lead, behind_opens, maybe_fronts, both_sole, behind_sole, maybe_sole, word_sole}
use Rattle.rx_trees.proofs.Rest.{Rest, Added, added, Steps, steps, on, done, Turns, rest_further, headed_sole, added_sole, alone_sole, steps_sole, listed_headed}
use Rattle.rx_trees.proofs.Exprs.{expr_sole}

-- a condition, where none follows
pub condition_sole : Sole IsCondition (IsSameIfAny IsSameExpr) (Stops condition_more)
condition_sole = maybe_sole (behind_sole expr_sole) behind_opens (λ ts k. stops_right (terminal.Keyword word.If ∷ []) k) (λ ts k. stops_left expr_more k)

pub condition_fronts : Fronts IsCondition (terminal.Keyword word.If ∷ [])
condition_fronts = maybe_fronts behind_opens

abbrev aspect_first : List Terminal
aspect_first = terminal.Quoted quoted.First ∷ terminal.Quoted quoted.Size ∷ []

aspect_starts : {xs : List Token} {a : AspectTree} → IsAspect xs a → Starts aspect_first xs
aspect_starts (sentence.first h r p) = starts_left (terminal.Quoted quoted.Size ∷ []) (token_starts h)
aspect_starts (sentence.size h r p) = starts_right (terminal.Quoted quoted.First ∷ []) (token_starts h)

-- an aspect ends where its expression does
aspect_sole : Sole IsAspect IsSameAspect (Stops expr_more)
aspect_sole = record { one = λ rs ss p q e j k. go rs ss p q e j k }
  where
    go : {xs ys : List Token} {a b : AspectTree} (rs ss : List Token) → IsAspect xs a → IsAspect ys b → xs ++ rs ≡ ys ++ ss → Stops expr_more rs → Stops expr_more ss → (rs ≡ ss) × IsSameAspect a b
    go rs ss (sentence.first {t = t} {e = x} h r p) (sentence.first {e = y} g s q) e j k =
        let a = expr_sole.one rs ss p q (tail_same (tail_same e)) j k in
        (a.0, subst (λ v. IsSameAspect (aspect.First t.place x) (aspect.First v.place y)) (head_same e) (alike.first a.1))
    go rs ss (sentence.size {t = t} {e = x} h r p) (sentence.size {e = y} g s q) e j k =
        let a = expr_sole.one rs ss p q (tail_same (tail_same e)) j k in
        (a.0, subst (λ v. IsSameAspect (aspect.Size t.place x) (aspect.Size v.place y)) (head_same e) (alike.size a.1))
    go rs ss (sentence.first h r p) (sentence.size g s q) e j k = absurd (apart_differ refl (token_starts h) (token_starts g) e)
    go rs ss (sentence.size h r p) (sentence.first g s q) e j k = absurd (apart_differ refl (token_starts h) (token_starts g) e)

-- a comma goes on a list of aspects, unless a link follows it
aspect_turns : Turns (Added (Behind comma IsAspect)) (Stops expr_more) (Quiet expr_more)
aspect_turns = record { leads = λ rs x. leads rs x; ends = λ rs x k. ends rs x k; stops = λ k. k.stops }
  where
    leads : {xs : List Token} {l m : List AspectTree} (rs : List Token) → Added (Behind comma IsAspect) xs l m → Stops expr_more (xs ++ rs)
    leads rs (added (sentence.behind h p)) = apart_stops refl (token_starts h)

    ends : {xs : List Token} {l m : List AspectTree} (rs : List Token) → Added (Behind comma IsAspect) xs l m → Quiet expr_more (xs ++ rs) → ⊥
    ends rs (added (sentence.behind h p)) k = not_quiet {cs = aspect_first} refl h (starts_on rs (aspect_starts p)) k

listed_sole : Sole (Listed IsAspect) (AreSame IsSameAspect) (Quiet expr_more)
listed_sole = within (λ xs l h. listed_headed h) (headed_sole (added_sole (behind_sole aspect_sole)) aspect_turns (alone_sole aspect_sole))

-- the terminals that go on behind aspects, and behind a link
abbrev pub after_aspects : List Terminal
after_aspects = terminal.Keyword word.With ∷ expr_more

abbrev pub after_link : List Terminal
after_link = terminal.Keyword word.If ∷ after_aspects

-- aspects behind a `with`, or none
pub aspects_sole : Sole AreAspects (AreSame IsSameAspect) (Quiet after_aspects)
aspects_sole = word_sole listed_sole (λ ts k. record { comma = k.comma; stops = stops_right (terminal.Keyword word.With ∷ []) k.stops }) (λ ts k. stops_left expr_more k.stops)

-- aspects and a condition behind a link's target
link_parts : Sole (Both AreAspects IsCondition) (AreBothSame (AreSame IsSameAspect) (IsSameIfAny IsSameExpr)) (Quiet after_link)
link_parts = both_sole aspects_sole (wider (λ ts k. narrow refl k.stops) condition_sole) (fronts_lead condition_fronts (quiet_outside refl) (λ ts k. record { comma = k.comma; stops = narrow refl k.stops }))

-- a token is one target
target_same : {t u : Token} {a b : Option (List ℕ)} → IsTarget t a → IsTarget u b → t ≡ u → a ≡ b
target_same (sentence.field h) (sentence.field g) e = ap (λ v. Some (word_of v.kind)) e
target_same (sentence.null h) (sentence.null g) e = refl
target_same {t} {u} (sentence.field h) (sentence.null g) e = absurd (apart_differ {ts = t ∷ []} {us = u ∷ []} refl (token_starts h) (token_starts g) (ap (λ v. v ∷ []) e))
target_same {t} {u} (sentence.null h) (sentence.field g) e = absurd (apart_differ {ts = t ∷ []} {us = u ∷ []} refl (token_starts h) (token_starts g) (ap (λ v. v ∷ []) e))

-- a link, where nothing goes on of it
then_sole : Sole IsThen IsSameThen (Quiet after_link)
then_sole = record { one = λ rs ss p q e j k. go rs ss p q e j k }
  where
    go : {xs ys : List Token} {a b : ThenTree} (rs ss : List Token) → IsThen xs a → IsThen ys b → xs ++ rs ≡ ys ++ ss → Quiet after_link rs → Quiet after_link ss → (rs ≡ ss) × IsSameThen a b
    go rs ss (sentence.link h target place l c) (sentence.link g target' place' m d) e j k =
        let a = link_parts.one rs ss (both l c) (both m d) (tail_same (tail_same e)) j k in
        let same = head_same (tail_same e) in
        (a.0, record { target = target_same target target' same; place = place ∙ ap (λ v. v.place) same ∙ sym place'; aspects = a.1.first; condition = a.1.second })

abbrev then_first : List Terminal
then_first = terminal.Keyword word.Then ∷ []

then_starts : {xs : List Token} {a : ThenTree} → IsThen xs a → Starts then_first xs
then_starts (sentence.link h target place l c) = token_starts h

-- a link with a comma before it or without
next_sole : Sole IsNextThen IsSameThen (Quiet after_link)
next_sole = record { one = λ rs ss p q e j k. go rs ss p q e j k }
  where
    go : {xs ys : List Token} {a b : ThenTree} (rs ss : List Token) → IsNextThen xs a → IsNextThen ys b → xs ++ rs ≡ ys ++ ss → Quiet after_link rs → Quiet after_link ss → (rs ≡ ss) × IsSameThen a b
    go rs ss (sentence.plain p) (sentence.plain q) e j k = then_sole.one rs ss p q e j k
    go rs ss (sentence.comma h p) (sentence.comma g q) e j k = then_sole.one rs ss p q (tail_same e) j k
    go rs ss (sentence.plain p) (sentence.comma g q) e j k = absurd (apart_differ refl (starts_on rs (then_starts p)) (token_starts g) e)
    go rs ss (sentence.comma h p) (sentence.plain q) e j k = absurd (apart_differ refl (token_starts h) (starts_on ss (then_starts q)) e)

-- links go on with a comma or without
next_turns : Turns (Added IsNextThen) (Quiet after_link) (Stops thens_more)
next_turns = record { leads = λ rs x. leads rs x; ends = λ rs x k. ends rs x k; stops = λ k. quiet_of (narrow refl k) }
  where
    leads : {xs : List Token} {l m : List ThenTree} (rs : List Token) → Added IsNextThen xs l m → Quiet after_link (xs ++ rs)
    leads rs (added (sentence.plain p)) = quiet_of (apart_stops refl (starts_on rs (then_starts p)))
    leads rs (added (sentence.comma h p)) = quiet_comma refl h (starts_on rs (then_starts p))

    ends : {xs : List Token} {l m : List ThenTree} (rs : List Token) → Added IsNextThen xs l m → Stops thens_more (xs ++ rs) → ⊥
    ends rs (added (sentence.plain p)) k = start_or_stop (starts_on rs (then_starts p)) (narrow refl k) refl
    ends rs (added (sentence.comma h p)) k = start_or_stop (token_starts h) (narrow refl k) refl

-- links as steps, where any of them may have a comma
thens_rest : {xs : List Token} {l : List ThenTree} → AreThens xs l → Rest (Added IsNextThen) xs [] l
thens_rest (sentence.single {xs = xs} {a = a} p) = subst (λ l. Rest (Added IsNextThen) l [] (a ∷ [])) (append-nil xs) (on (added (sentence.plain p)) done)
thens_rest (sentence.next r p) = rest_further (thens_rest r) (added (sentence.plain p))
thens_rest (sentence.next_comma r h p) = rest_further (thens_rest r) (added (sentence.comma h p))

maybe_thens_rest : {xs : List Token} {l : List ThenTree} → MaybeThens xs l → Rest (Added IsNextThen) xs [] l
maybe_thens_rest sentence.none = done
maybe_thens_rest (sentence.some r) = thens_rest r

links_sole : Sole (Steps IsNextThen) (AreSame IsSameThen) (Stops thens_more)
links_sole = steps_sole next_sole next_turns

-- links, where none follows
pub thens_sole : Sole AreThens (AreSame IsSameThen) (Stops thens_more)
thens_sole = within (λ xs l h. steps (thens_rest h)) links_sole

pub maybe_thens_sole : Sole MaybeThens (AreSame IsSameThen) (Stops thens_more)
maybe_thens_sole = within (λ xs l h. steps (maybe_thens_rest h)) links_sole

-- links begin with `then`
thens_start : {xs : List Token} {l : List ThenTree} → AreThens xs l → Starts then_first xs
thens_start (sentence.single p) = then_starts p
thens_start (sentence.next {ys = ys} r p) = starts_on ys (thens_start r)
thens_start (sentence.next_comma {ys = ys} {comma = t} r h p) = starts_on (t ∷ ys) (thens_start r)

pub maybe_thens_fronts : Fronts MaybeThens (terminal.Keyword word.Then ∷ [])
maybe_thens_fronts = record { fronts = λ p. go p }
  where
    go : {xs : List Token} {l : List ThenTree} → MaybeThens xs l → (xs ≡ []) ⊎ Starts then_first xs
    go sentence.none = inl refl
    go (sentence.some r) = inr (thens_start r)
