-- A part has one reading where it can't go on: `Sole`, and parts one after the other: `Both`, `Closed`, `Behind`, `Maybe`, `AfterWord`.
use Rattle.std.proofs.Common.{◌≡◌, true, List, [], ◌∷◌, ◌++◌, Option, refl, sym, ◌∙◌, subst, append_assoc, ◌⊎◌, inl, inr}
use Rattle.rx_syntax.specs.declared.token.Token.{Token}
use Rattle.rx_grammar.specs.declared.terminal.Terminal.{Terminal}
use Rattle.rx_grammar.specs.First.{all_apart}
use Rattle.rx_grammar.specs.Tokens.{Is}
use Rattle.rx_grammar.specs.Sentence as sentence
use Rattle.rx_grammar.specs.Sentence.{Maybe, AfterWord, Behind}
use Rattle.rx_trees.specs.Alike as alike
use Rattle.rx_trees.specs.Alike.{AreSame, IsSameIfAny}
use Rattle.rx_trees.proofs.Heads.{Stops, Starts, Any, any, Quiet, comma, tail_same, start_or_stop, starts_on, starts_left, starts_right, token_starts, apart_stops, quiet_of}

-- where the same tokens begin with a part in two ways, and neither can go on, the parts are the same, and so is what stands behind them
pub record Sole {A : Type 0} (Part : List Token → A → Type 0) (Same : A → A → Type 0) (Stop : List Token → Type 0) : Type 0 where
  pub one : {xs ys : List Token} {x y : A} (rs ss : List Token) → Part xs x → Part ys y → xs ++ rs ≡ ys ++ ss → Stop rs → Stop ss → (rs ≡ ss) × Same x y

-- a part begins with one of these
pub record Opens {A : Type 0} (Part : List Token → A → Type 0) (cs : List Terminal) : Type 0 where
  pub opens : {xs : List Token} {x : A} → Part xs x → Starts cs xs

-- a part is empty or begins with one of these
pub record Fronts {A : Type 0} (Part : List Token → A → Type 0) (cs : List Terminal) : Type 0 where
  pub fronts : {xs : List Token} {x : A} → Part xs x → (xs ≡ []) ⊎ Starts cs xs

-- where one of these stands, a part before it can't go on
pub record Outside (cs : List Terminal) (Stop : List Token → Type 0) : Type 0 where
  pub outside : {ts : List Token} → Starts cs ts → Stop ts

-- a part stands where one before it can't go on
pub record Leads {A : Type 0} (Part : List Token → A → Type 0) (More Stop : List Token → Type 0) : Type 0 where
  pub leads : {xs : List Token} {x : A} (rs : List Token) → Part xs x → More rs → Stop (xs ++ rs)

-- one part behind another
pub data Both {A B : Type 0} (P : List Token → A → Type 0) (Q : List Token → B → Type 0) : List Token → A × B → Type 0 where
  both : {xs ys : List Token} {x : A} {y : B} → P xs x → Q ys y → Both P Q (xs ++ ys) (x, y)

-- the first of two pairs are the same, and the second
pub record AreBothSame {A B : Type 0} (S : A → A → Type 0) (T : B → B → Type 0) (p q : A × B) : Type 0 where
  pub first : S p.0 q.0
  pub second : T p.1 q.1

-- a part before one word or mark
pub data Closed {A : Type 0} (P : List Token → A → Type 0) (c : Terminal) : List Token → A → Type 0 where
  closed : {xs : List Token} {t : Token} {x : A} → P xs x → Is c t → Closed P c (xs ++ t ∷ []) x

-- what holds of more tokens, or of fewer readings
pub wider : {A : Type 0} {P : List Token → A → Type 0} {S : A → A → Type 0} {Stop More : List Token → Type 0} → ((ts : List Token) → More ts → Stop ts) → Sole P S Stop → Sole P S More
wider f s = record { one = λ rs ss p q e j k. s.one rs ss p q e (f _ j) (f _ k) }

pub within : {A : Type 0} {P Q : List Token → A → Type 0} {S : A → A → Type 0} {Stop : List Token → Type 0} → ((xs : List Token) (x : A) → Q xs x → P xs x) → Sole P S Stop → Sole Q S Stop
within f s = record { one = λ rs ss p q e j k. s.one rs ss (f _ _ p) (f _ _ q) e j k }

-- where a part may not go on
pub stops_outside : {cs ms : List Terminal} → all_apart cs ms ≡ true → Outside cs (Stops ms)
stops_outside e = record { outside = λ s. apart_stops e s }

pub quiet_outside : {cs ms : List Terminal} → all_apart cs (comma ∷ ms) ≡ true → Outside cs (Quiet ms)
quiet_outside e = record { outside = λ s. quiet_of (apart_stops e s) }

pub any_outside : {cs : List Terminal} → Outside cs Any
any_outside = record { outside = λ s. any }

-- what begins with one of these leads on from a part that they end
pub opens_lead : {A : Type 0} {P : List Token → A → Type 0} {cs : List Terminal} {More Stop : List Token → Type 0} → Opens P cs → Outside cs Stop → Leads P More Stop
opens_lead o u = record { leads = λ rs p k. u.outside (starts_on rs (o.opens p)) }

pub fronts_lead : {A : Type 0} {P : List Token → A → Type 0} {cs : List Terminal} {More Stop : List Token → Type 0} → Fronts P cs → Outside cs Stop → ((ts : List Token) → More ts → Stop ts) → Leads P More Stop
fronts_lead {A} {P} {cs} {More} {Stop} f u w = record { leads = λ {xs = xs} rs p k. go xs rs k (f.fronts p) }
  where
    go : (xs rs : List Token) → More rs → (xs ≡ []) ⊎ Starts cs xs → Stop (xs ++ rs)
    go xs rs k (inl e) = subst (λ l. Stop (l ++ rs)) (sym e) (w _ k)
    go xs rs k (inr s) = u.outside (starts_on rs s)

pub any_lead : {A : Type 0} {P : List Token → A → Type 0} {More : List Token → Type 0} → Leads P More Any
any_lead = record { leads = λ rs p k. any }

-- with what parts in a row begin
pub behind_opens : {A : Type 0} {P : List Token → A → Type 0} {c : Terminal} → Opens (Behind c P) (c ∷ [])
behind_opens {A} {P} {c} = record { opens = λ p. go p }
  where
    go : {xs : List Token} {x : A} → Behind c P xs x → Starts (c ∷ []) xs
    go (sentence.behind h p) = token_starts h

pub both_opens : {A B : Type 0} {P : List Token → A → Type 0} {Q : List Token → B → Type 0} {cs : List Terminal} → Opens P cs → Opens (Both P Q) cs
both_opens {A} {B} {P} {Q} {cs} o = record { opens = λ p. go p }
  where
    go : {xs : List Token} {x : A × B} → Both P Q xs x → Starts cs xs
    go (both {ys = ys} p q) = starts_on ys (o.opens p)

pub both_front_opens : {A B : Type 0} {P : List Token → A → Type 0} {Q : List Token → B → Type 0} {cs ds : List Terminal} → Fronts P cs → Opens Q ds → Opens (Both P Q) (cs ++ ds)
both_front_opens {A} {B} {P} {Q} {cs} {ds} f o = record { opens = λ p. go p }
  where
    front : (xs ys : List Token) → Starts ds ys → (xs ≡ []) ⊎ Starts cs xs → Starts (cs ++ ds) (xs ++ ys)
    front xs ys s (inl e) = subst (λ l. Starts (cs ++ ds) (l ++ ys)) (sym e) (starts_right cs s)
    front xs ys s (inr h) = starts_on ys (starts_left ds h)

    go : {xs : List Token} {x : A × B} → Both P Q xs x → Starts (cs ++ ds) xs
    go (both {xs = xs} {ys = ys} p q) = front xs ys (o.opens q) (f.fronts p)

pub closed_opens : {A : Type 0} {P : List Token → A → Type 0} {c : Terminal} {cs : List Terminal} → Fronts P cs → Opens (Closed P c) (cs ++ c ∷ [])
closed_opens {A} {P} {c} {cs} f = record { opens = λ p. go p }
  where
    front : (xs : List Token) (t : Token) → Is c t → (xs ≡ []) ⊎ Starts cs xs → Starts (cs ++ c ∷ []) (xs ++ t ∷ [])
    front xs t h (inl e) = subst (λ l. Starts (cs ++ c ∷ []) (l ++ t ∷ [])) (sym e) (starts_right cs (token_starts h))
    front xs t h (inr s) = starts_on (t ∷ []) (starts_left (c ∷ []) s)

    go : {xs : List Token} {x : A} → Closed P c xs x → Starts (cs ++ c ∷ []) xs
    go (closed {xs = xs} {t = t} p h) = front xs t h (f.fronts p)

pub maybe_fronts : {A : Type 0} {P : List Token → A → Type 0} {cs : List Terminal} → Opens P cs → Fronts (Maybe P) cs
maybe_fronts {A} {P} {cs} o = record { fronts = λ p. go p }
  where
    go : {xs : List Token} {x : Option A} → Maybe P xs x → (xs ≡ []) ⊎ Starts cs xs
    go sentence.absent = inl refl
    go (sentence.present p) = inr (o.opens p)

pub word_fronts : {A : Type 0} {P : List Token → List A → Type 0} {c : Terminal} → Fronts (AfterWord c P) (c ∷ [])
word_fronts {A} {P} {c} = record { fronts = λ p. go p }
  where
    go : {xs : List Token} {x : List A} → AfterWord c P xs x → (xs ≡ []) ⊎ Starts (c ∷ []) xs
    go sentence.absent = inl refl
    go (sentence.present h p) = inr (token_starts h)

-- two parts, where the second leads on from the first
pub both_sole : {A B : Type 0} {P : List Token → A → Type 0} {Q : List Token → B → Type 0} {S : A → A → Type 0} {T : B → B → Type 0} {Stop More : List Token → Type 0} → Sole P S Stop → Sole Q T More → Leads Q More Stop → Sole (Both P Q) (AreBothSame S T) More
both_sole {A} {B} {P} {Q} {S} {T} {Stop} {More} s t l = record { one = λ rs ss p q e j k. go rs ss p q e j k }
  where
    go : {us vs : List Token} {x y : A × B} (rs ss : List Token) → Both P Q us x → Both P Q vs y → us ++ rs ≡ vs ++ ss → More rs → More ss → (rs ≡ ss) × AreBothSame S T x y
    go rs ss (both {xs = xs} {ys = ys} p q) (both {xs = zs} {ys = us} p' q') e j k =
        let a = s.one (ys ++ rs) (us ++ ss) p p' (sym (append_assoc xs ys rs) ∙ e ∙ append_assoc zs us ss) (l.leads rs q j) (l.leads ss q' k) in
        let b = t.one rs ss q q' a.0 j k in
        (b.0, record { first = a.1; second = b.1 })

-- a part behind a word needs no more than the part
pub behind_sole : {A : Type 0} {P : List Token → A → Type 0} {S : A → A → Type 0} {Stop : List Token → Type 0} {c : Terminal} → Sole P S Stop → Sole (Behind c P) S Stop
behind_sole {A} {P} {S} {Stop} {c} s = record { one = λ rs ss p q e j k. go rs ss p q e j k }
  where
    go : {us vs : List Token} {x y : A} (rs ss : List Token) → Behind c P us x → Behind c P vs y → us ++ rs ≡ vs ++ ss → Stop rs → Stop ss → (rs ≡ ss) × S x y
    go rs ss (sentence.behind h p) (sentence.behind g q) e j k = s.one rs ss p q (tail_same e) j k

-- a part before a word that ends it
pub closed_sole : {A : Type 0} {P : List Token → A → Type 0} {S : A → A → Type 0} {Stop : List Token → Type 0} {c : Terminal} → Sole P S Stop → Outside (c ∷ []) Stop → Sole (Closed P c) S Any
closed_sole {A} {P} {S} {Stop} {c} s u = record { one = λ rs ss p q e j k. go rs ss p q e }
  where
    go : {us vs : List Token} {x y : A} (rs ss : List Token) → Closed P c us x → Closed P c vs y → us ++ rs ≡ vs ++ ss → (rs ≡ ss) × S x y
    go rs ss (closed {xs = xs} {t = t} p h) (closed {xs = ys} {t = r} q g) e =
        let a = s.one (t ∷ rs) (r ∷ ss) p q (sym (append_assoc xs (t ∷ []) rs) ∙ e ∙ append_assoc ys (r ∷ []) ss) (u.outside (token_starts h)) (u.outside (token_starts g)) in
        (tail_same a.0, a.1)

-- a part or nothing, where what follows does not begin like the part
pub maybe_sole : {A : Type 0} {P : List Token → A → Type 0} {S : A → A → Type 0} {Stop More : List Token → Type 0} {cs : List Terminal} → Sole P S Stop → Opens P cs → ((ts : List Token) → More ts → Stop ts) → ((ts : List Token) → More ts → Stops cs ts) → Sole (Maybe P) (IsSameIfAny S) More
maybe_sole {A} {P} {S} {Stop} {More} {cs} s o w n = record { one = λ rs ss p q e j k. go rs ss p q e j k }
  where
    go : {us vs : List Token} {x y : Option A} (rs ss : List Token) → Maybe P us x → Maybe P vs y → us ++ rs ≡ vs ++ ss → More rs → More ss → (rs ≡ ss) × IsSameIfAny S x y
    go rs ss sentence.absent sentence.absent e j k = (e, alike.none)
    go rs ss sentence.absent (sentence.present q) e j k = absurd (start_or_stop (starts_on ss (o.opens q)) (n _ j) (sym e))
    go rs ss (sentence.present p) sentence.absent e j k = absurd (start_or_stop (starts_on rs (o.opens p)) (n _ k) e)
    go rs ss (sentence.present p) (sentence.present q) e j k = let a = s.one rs ss p q e (w _ j) (w _ k) in (a.0, alike.some a.1)

pub word_sole : {A : Type 0} {P : List Token → List A → Type 0} {S : A → A → Type 0} {Stop More : List Token → Type 0} {c : Terminal} → Sole P (AreSame S) Stop → ((ts : List Token) → More ts → Stop ts) → ((ts : List Token) → More ts → Stops (c ∷ []) ts) → Sole (AfterWord c P) (AreSame S) More
word_sole {A} {P} {S} {Stop} {More} {c} s w n = record { one = λ rs ss p q e j k. go rs ss p q e j k }
  where
    go : {us vs : List Token} {x y : List A} (rs ss : List Token) → AfterWord c P us x → AfterWord c P vs y → us ++ rs ≡ vs ++ ss → More rs → More ss → (rs ≡ ss) × AreSame S x y
    go rs ss sentence.absent sentence.absent e j k = (e, alike.none)
    go rs ss sentence.absent (sentence.present g q) e j k = absurd (start_or_stop (token_starts g) (n _ j) (sym e))
    go rs ss (sentence.present h p) sentence.absent e j k = absurd (start_or_stop (token_starts h) (n _ k) e)
    go rs ss (sentence.present h p) (sentence.present g q) e j k = s.one rs ss p q (tail_same e) (w _ j) (w _ k)
