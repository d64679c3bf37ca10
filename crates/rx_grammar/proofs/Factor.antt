-- Common fronts of alternatives.
use Rattle.std.proofs.Common.{◌≡◌, Bool, true, List, [], ◌∷◌, ◌++◌, refl, sym, ap, ◌∙◌, subst, ◌⊎◌, inl, inr, ⊎_elim}
use Rattle.rx_syntax.specs.declared.token.Token.{Token}
use Rattle.rx_grammar.specs.declared.terminal.Terminal.{Terminal}
use Rattle.rx_grammar.specs.Grammar.{Rule, Symbol, Extent, Whole, Front, Derives, one, rule, ◌▸◌, ◌∣◌, maybe, many, body, nothing, finished, token, by_rule, in_turn, first, second, absent, present, no_more, one_more}
use Rattle.rx_grammar.specs.Reads.{Leads}
use Rattle.rx_grammar.proofs.Steps.{quietly, GoesAs}

-- symbols that derive what one of two others derives
abbrev pub Parts : List Symbol → List Symbol → List Symbol → Type 0
Parts ss s1 s2 = (w : Extent) (ts : List Token) → Derives w ss ts → Derives w s1 ts ⊎ Derives w s2 ts

abbrev Both : Extent → List Symbol → List Symbol → List Symbol → List Token → Type 0
Both w fs s1 s2 ts = Derives w (fs ++ s1) ts ⊎ Derives w (fs ++ s2) ts

either_way : {A B C D : Type 0} → (A → C) → (B → D) → A ⊎ B → C ⊎ D
either_way f g (inl a) = inl (f a)
either_way f g (inr b) = inr (g b)

head_is_same : {a b : Symbol} {xs ys : List Symbol} → a ∷ xs ≡ b ∷ ys → a ≡ b
head_is_same e = cc

tail_is_same : {a b : Symbol} {xs ys : List Symbol} → a ∷ xs ≡ b ∷ ys → xs ≡ ys
tail_is_same e = cc

headed : {w : Extent} {ts : List Token} {x s : Symbol} (f s1 s2 : List Symbol) → x ≡ s → Both w (x ∷ f) s1 s2 ts → Both w (s ∷ f) s1 s2 ts
headed {w} {ts} f s1 s2 e b = subst (λ x. Both w (x ∷ f) s1 s2 ts) e b

-- the same behind any front
pub pull : {w : Extent} {all : List Symbol} {ts : List Token} → Derives w all ts → (fs ss s1 s2 : List Symbol) → all ≡ fs ++ ss → Parts ss s1 s2 → Both w fs s1 s2 ts
pull {w} {all} {ts} d [] ss s1 s2 e p = p w ts (subst (λ xs. Derives w xs ts) e d)
pull nothing (s ∷ f) ss s1 s2 e p = inl nothing
pull finished (s ∷ f) ss s1 s2 e p = absurd cc
pull (token {c = c} {t = t} {ts = ts} h d) (s ∷ f) ss s1 s2 e p =
    headed f s1 s2 (head_is_same e) (either_way (λ x. token h x) (λ x. token h x) (pull d f ss s1 s2 (tail_is_same e) p))
pull (by_rule {r = r} d) (s ∷ f) ss s1 s2 e p =
    headed f s1 s2 (head_is_same e) (either_way (λ x. by_rule x) (λ x. by_rule x) (pull d (body r ∷ f) ss s1 s2 (ap (λ xs. body r ∷ xs) (tail_is_same e)) p))
pull (in_turn {a = a} {b = b} d) (s ∷ f) ss s1 s2 e p =
    headed f s1 s2 (head_is_same e) (either_way (λ x. in_turn x) (λ x. in_turn x) (pull d (a ∷ b ∷ f) ss s1 s2 (ap (λ xs. a ∷ b ∷ xs) (tail_is_same e)) p))
pull (first {a = a} d) (s ∷ f) ss s1 s2 e p =
    headed f s1 s2 (head_is_same e) (either_way (λ x. first x) (λ x. first x) (pull d (a ∷ f) ss s1 s2 (ap (λ xs. a ∷ xs) (tail_is_same e)) p))
pull (second {b = b} d) (s ∷ f) ss s1 s2 e p =
    headed f s1 s2 (head_is_same e) (either_way (λ x. second x) (λ x. second x) (pull d (b ∷ f) ss s1 s2 (ap (λ xs. b ∷ xs) (tail_is_same e)) p))
pull (absent d) (s ∷ f) ss s1 s2 e p =
    headed f s1 s2 (head_is_same e) (either_way (λ x. absent x) (λ x. absent x) (pull d f ss s1 s2 (tail_is_same e) p))
pull (present {a = a} d) (s ∷ f) ss s1 s2 e p =
    headed f s1 s2 (head_is_same e) (either_way (λ x. present x) (λ x. present x) (pull d (a ∷ f) ss s1 s2 (ap (λ xs. a ∷ xs) (tail_is_same e)) p))
pull (no_more d) (s ∷ f) ss s1 s2 e p =
    headed f s1 s2 (head_is_same e) (either_way (λ x. no_more x) (λ x. no_more x) (pull d f ss s1 s2 (tail_is_same e) p))
pull (one_more {a = a} d) (s ∷ f) ss s1 s2 e p =
    headed f s1 s2 (head_is_same e) (either_way (λ x. one_more x) (λ x. one_more x) (pull d (a ∷ many a ∷ f) ss s1 s2 (ap (λ xs. a ∷ many a ∷ xs) (tail_is_same e)) p))

-- either of two may follow a front
parts_either : (a b : Symbol) (ss : List Symbol) → (w : Extent) (t : Token) (ts : List Token) → Derives w ((a ∣ b) ∷ ss) (t ∷ ts) → Derives w (a ∷ ss) (t ∷ ts) ⊎ Derives w (b ∷ ss) (t ∷ ts)
parts_either a b ss w t ts (first d) = inl d
parts_either a b ss w t ts (second d) = inr d

parts_of_either : (a b : Symbol) (ss : List Symbol) → Parts ((a ∣ b) ∷ ss) (a ∷ ss) (b ∷ ss)
parts_of_either a b ss w ts nothing = inl nothing
parts_of_either a b ss w ts (first d) = inl d
parts_of_either a b ss w ts (second d) = inr d

-- alternatives with a common front: a x | a y goes as a (x | y)
common_up : (c x y : Symbol) (ss : List Symbol) (w : Extent) (ts : List Token) → Derives w (c ∷ (x ∣ y) ∷ ss) ts → Derives w ((c ▸ x ∣ c ▸ y) ∷ ss) ts
common_up c x y ss w ts d = ⊎_elim (λ e. first (in_turn e)) (λ e. second (in_turn e)) (pull d (c ∷ []) ((x ∣ y) ∷ ss) (x ∷ ss) (y ∷ ss) refl (parts_of_either x y ss))

one_of_same : {A : Type 0} → A ⊎ A → A
one_of_same (inl a) = a
one_of_same (inr a) = a

-- what holds of the symbols behind a front holds behind it
pub kept : {w : Extent} {ts : List Token} (fs ss ss' : List Symbol) → Derives w (fs ++ ss) ts → ((w : Extent) (ts : List Token) → Derives w ss ts → Derives w ss' ts) → Derives w (fs ++ ss') ts
kept fs ss ss' d k = one_of_same (pull d fs ss ss' ss' refl (λ w ts x. inl (k w ts x)))

common_down : (c x y : Symbol) (ss : List Symbol) (w : Extent) (ts : List Token) → Derives w (c ∷ x ∷ ss) ts ⊎ Derives w (c ∷ y ∷ ss) ts → Derives w (c ∷ (x ∣ y) ∷ ss) ts
common_down c x y ss w ts (inl d) = kept (c ∷ []) (x ∷ ss) ((x ∣ y) ∷ ss) d (λ w' ts' z. first z)
common_down c x y ss w ts (inr d) = kept (c ∷ []) (y ∷ ss) ((x ∣ y) ∷ ss) d (λ w' ts' z. second z)

turned : {w : Extent} {c x : Symbol} {ss : List Symbol} {ts : List Token} → Derives w ((c ▸ x) ∷ ss) ts → Derives w (c ∷ x ∷ ss) ts
turned nothing = nothing
turned (in_turn d) = d

common_goes : (c x y : Symbol) (ss : List Symbol) (w : Extent) (ts : List Token) → Derives w ((c ▸ x ∣ c ▸ y) ∷ ss) ts → Derives w (c ∷ (x ∣ y) ∷ ss) ts
common_goes c x y ss w ts nothing = nothing
common_goes c x y ss w ts (first d) = common_down c x y ss w ts (inl (turned d))
common_goes c x y ss w ts (second d) = common_down c x y ss w ts (inr (turned d))

goes_common : (c x y : Symbol) (ss : List Symbol) (ts : List Token) → GoesAs ((c ▸ x ∣ c ▸ y) ∷ ss) (c ∷ (x ∣ y) ∷ ss) ts
goes_common c x y ss [] = λ d. common_goes c x y ss Whole [] d
goes_common c x y ss (t ∷ ts) = λ w more d. common_goes c x y ss w (t ∷ more) d

-- two alternatives with a common front
pub step_common : (c x y : Symbol) (ss : List Symbol) (ts : List Token) → Leads ((c ▸ x ∣ c ▸ y) ∷ ss) [] (c ∷ (x ∣ y) ∷ ss) ts
step_common c x y ss ts = quietly _ _ ts (λ next d. common_up c x y ss Front next d) (goes_common c x y ss ts)

-- a repetition before what begins like its part: {c ▸ x} ▸ c goes as c, and then a choice
again_goes : (c x : Symbol) (ss : List Symbol) (w : Extent) (ts : List Token) → Derives w (many (c ▸ x) ∷ c ∷ ss) ts → Derives w (c ∷ maybe (x ▸ many (c ▸ x) ▸ c) ∷ ss) ts
again_goes c x ss w ts nothing = nothing
again_goes c x ss w ts (no_more d) = kept (c ∷ []) ss (maybe (x ▸ many (c ▸ x) ▸ c) ∷ ss) d (λ w' ts' z. absent z)
again_goes c x ss w ts (one_more d) = kept (c ∷ []) (x ∷ many (c ▸ x) ∷ c ∷ ss) (maybe (x ▸ many (c ▸ x) ▸ c) ∷ ss) (turned d) (λ w' ts' z. present (in_turn (kept (x ∷ []) (many (c ▸ x) ∷ c ∷ ss) ((many (c ▸ x) ▸ c) ∷ ss) z (λ w'' ts'' z'. in_turn z'))))

parts_of_maybe : (a : Symbol) (ss : List Symbol) → Parts (maybe a ∷ ss) ss (a ∷ ss)
parts_of_maybe a ss w ts nothing = inl nothing
parts_of_maybe a ss w ts (absent d) = inl d
parts_of_maybe a ss w ts (present d) = inr d

again_up : (c x : Symbol) (ss : List Symbol) (w : Extent) (ts : List Token) → Derives w (c ∷ maybe (x ▸ many (c ▸ x) ▸ c) ∷ ss) ts → Derives w (many (c ▸ x) ∷ c ∷ ss) ts
again_up c x ss w ts d = go (pull d (c ∷ []) (maybe (x ▸ many (c ▸ x) ▸ c) ∷ ss) ss ((x ▸ many (c ▸ x) ▸ c) ∷ ss) refl (parts_of_maybe (x ▸ many (c ▸ x) ▸ c) ss))
  where
    go : Derives w (c ∷ ss) ts ⊎ Derives w (c ∷ (x ▸ many (c ▸ x) ▸ c) ∷ ss) ts → Derives w (many (c ▸ x) ∷ c ∷ ss) ts
    go (inl d') = no_more d'
    go (inr d') = one_more (in_turn (kept (c ∷ []) ((x ▸ many (c ▸ x) ▸ c) ∷ ss) (x ∷ many (c ▸ x) ∷ c ∷ ss) d' (λ w' ts' z. kept (x ∷ []) ((many (c ▸ x) ▸ c) ∷ ss) (many (c ▸ x) ∷ c ∷ ss) (turned z) (λ w'' ts'' z'. turned z'))))

goes_again : (c x : Symbol) (ss : List Symbol) (ts : List Token) → GoesAs (many (c ▸ x) ∷ c ∷ ss) (c ∷ maybe (x ▸ many (c ▸ x) ▸ c) ∷ ss) ts
goes_again c x ss [] = λ d. again_goes c x ss Whole [] d
goes_again c x ss (t ∷ ts) = λ w more d. again_goes c x ss w (t ∷ more) d

pub step_again : (c x : Symbol) (ss : List Symbol) (ts : List Token) → Leads (many (c ▸ x) ∷ c ∷ ss) [] (c ∷ maybe (x ▸ many (c ▸ x) ▸ c) ∷ ss) ts
step_again c x ss ts = quietly _ _ ts (λ next d. again_up c x ss Front next d) (goes_again c x ss ts)
