-- Lists and chains from the front: a first part, and steps that go on from it: `Rest`, `Headed`, and lists of parts as steps.
use Rattle.std.proofs.Common.{◌≡◌, List, [], ◌∷◌, ◌++◌, sym, ◌∙◌, subst, append_assoc, append-nil}
use Rattle.rx_syntax.specs.declared.token.Token.{Token}
use Rattle.rx_grammar.specs.Sentence as sentence
use Rattle.rx_grammar.specs.Sentence.{Each, AtLeastOne, Listed, Behind}
use Rattle.rx_trees.specs.Alike as alike
use Rattle.rx_trees.specs.Alike.{AreSame}
use Rattle.rx_trees.proofs.Heads.{comma}
use Rattle.rx_trees.proofs.Sole.{Sole}

-- steps on from a tree to another, each over some tokens
pub data Rest {A : Type 0} (Step : List Token → A → A → Type 0) : List Token → A → A → Type 0 where
  done : {a : A} → Rest Step [] a a
  on : {ys zs : List Token} {a b c : A} → Step ys a b → Rest Step zs b c → Rest Step (ys ++ zs) a c

-- a first part, and steps on from it
pub data Headed {A : Type 0} (First : List Token → A → Type 0) (Step : List Token → A → A → Type 0) : List Token → A → Type 0 where
  headed : {xs ys : List Token} {a b : A} → First xs a → Rest Step ys a b → Headed First Step (xs ++ ys) b

-- one step more at the end
pub rest_further : {A : Type 0} {Step : List Token → A → A → Type 0} {xs ys : List Token} {a b c : A} → Rest Step xs a b → Step ys b c → Rest Step (xs ++ ys) a c
rest_further {Step = Step} {ys = ys} {a = a} {c = c} done s = subst (λ l. Rest Step l a c) (append-nil ys) (on s done)
rest_further {Step = Step} {ys = us} {c = c} (on {ys = ys} {zs = zs} {a = a} s r) s' = subst (λ l. Rest Step l a c) (sym (append_assoc ys zs us)) (on s (rest_further r s'))

-- a first part with no step, and with one step more
pub headed_alone : {A : Type 0} {First : List Token → A → Type 0} {Step : List Token → A → A → Type 0} {xs : List Token} {a : A} → First xs a → Headed First Step xs a
headed_alone {First = First} {Step = Step} {xs = xs} {a = a} p = subst (λ l. Headed First Step l a) (append-nil xs) (headed p done)

pub headed_further : {A : Type 0} {First : List Token → A → Type 0} {Step : List Token → A → A → Type 0} {xs ys : List Token} {a b : A} → Headed First Step xs a → Step ys a b → Headed First Step (xs ++ ys) b
headed_further {First = First} {Step = Step} {ys = zs} {b = b} (headed {xs = xs} {ys = ys} p r) s = subst (λ l. Headed First Step l b) (sym (append_assoc xs ys zs)) (headed p (rest_further r s))

-- steps from the same trees over the same tokens lead to the same trees
pub record SoleStep {A : Type 0} (Step : List Token → A → A → Type 0) (Same : A → A → Type 0) (Stop : List Token → Type 0) : Type 0 where
  pub one : {xs ys : List Token} {a b c d : A} (rs ss : List Token) → Step xs a c → Step ys b d → Same a b → xs ++ rs ≡ ys ++ ss → Stop rs → Stop ss → (rs ≡ ss) × Same c d

-- a step leads on from one before, and where steps end none begins
pub record Turns {A : Type 0} (Step : List Token → A → A → Type 0) (Stop More : List Token → Type 0) : Type 0 where
  pub leads : {xs : List Token} {a b : A} (rs : List Token) → Step xs a b → Stop (xs ++ rs)
  pub ends : {xs : List Token} {a b : A} (rs : List Token) → Step xs a b → More (xs ++ rs) → ⊥
  pub stops : {ts : List Token} → More ts → Stop ts

module _ {A : Type 0} {Step : List Token → A → A → Type 0} {Same : A → A → Type 0} {Stop More : List Token → Type 0} (s : SoleStep Step Same Stop) (t : Turns Step Stop More) where
  rest_stops : {xs : List Token} {a b : A} (rs : List Token) → Rest Step xs a b → More rs → Stop (xs ++ rs)
  rest_stops rs done k = t.stops k
  rest_stops rs (on {ys = ys} {zs = zs} x r) k = subst Stop (sym (append_assoc ys zs rs)) (t.leads (zs ++ rs) x)

  pub rest_sole : {xs ys : List Token} {a b c d : A} (rs ss : List Token) → Rest Step xs a c → Rest Step ys b d → Same a b → xs ++ rs ≡ ys ++ ss → More rs → More ss → (rs ≡ ss) × Same c d
  rest_sole rs ss done done i e j k = (e, i)
  rest_sole rs ss done (on {ys = ys} {zs = zs} x r) i e j k = absurd (t.ends (zs ++ ss) x (subst More (e ∙ append_assoc ys zs ss) j))
  rest_sole rs ss (on {ys = ys} {zs = zs} x r) done i e j k = absurd (t.ends (zs ++ rs) x (subst More (sym e ∙ append_assoc ys zs rs) k))
  rest_sole rs ss (on {ys = ys} {zs = zs} x r) (on {ys = us} {zs = vs} x' r') i e j k =
      let p = s.one (zs ++ rs) (vs ++ ss) x x' i (sym (append_assoc ys zs rs) ∙ e ∙ append_assoc us vs ss) (rest_stops rs r j) (rest_stops ss r' k) in
      rest_sole rs ss r r' p.1 p.0 j k

  pub headed_sole : {First : List Token → A → Type 0} → Sole First Same Stop → Sole (Headed First Step) Same More
  headed_sole {First} f = record { one = λ rs ss p q e j k. go rs ss p q e j k }
    where
      go : {us vs : List Token} {x y : A} (rs ss : List Token) → Headed First Step us x → Headed First Step vs y → us ++ rs ≡ vs ++ ss → More rs → More ss → (rs ≡ ss) × Same x y
      go rs ss (headed {xs = xs} {ys = ys} p r) (headed {xs = us} {ys = vs} q r') e j k =
          let a = f.one (ys ++ rs) (vs ++ ss) p q (sym (append_assoc xs ys rs) ∙ e ∙ append_assoc us vs ss) (rest_stops rs r j) (rest_stops ss r' k) in
          rest_sole rs ss r r' a.1 a.0 j k

-- a list with one part more
pub data Added {A : Type 0} (P : List Token → A → Type 0) : List Token → List A → List A → Type 0 where
  added : {ys : List Token} {x : A} {l : List A} → P ys x → Added P ys l (l ++ x ∷ [])

-- a list of one part
pub data Alone {A : Type 0} (P : List Token → A → Type 0) : List Token → List A → Type 0 where
  alone : {ys : List Token} {x : A} → P ys x → Alone P ys (x ∷ [])

-- lists that are the same, with one more part each that is the same
same_added : {A : Type 0} {S : A → A → Type 0} {l m : List A} {x y : A} → AreSame S l m → S x y → AreSame S (l ++ x ∷ []) (m ++ y ∷ [])
same_added alike.none s = alike.next s alike.none
same_added (alike.next h r) s = alike.next h (same_added r s)

pub added_sole : {A : Type 0} {P : List Token → A → Type 0} {S : A → A → Type 0} {Stop : List Token → Type 0} → Sole P S Stop → SoleStep (Added P) (AreSame S) Stop
added_sole {A} {P} {S} {Stop} s = record { one = λ rs ss p q i e j k. go rs ss p q i e j k }
  where
    go : {us vs : List Token} {a b c d : List A} (rs ss : List Token) → Added P us a c → Added P vs b d → AreSame S a b → us ++ rs ≡ vs ++ ss → Stop rs → Stop ss → (rs ≡ ss) × AreSame S c d
    go rs ss (added p) (added q) i e j k = let a = s.one rs ss p q e j k in (a.0, same_added i a.1)

pub alone_sole : {A : Type 0} {P : List Token → A → Type 0} {S : A → A → Type 0} {Stop : List Token → Type 0} → Sole P S Stop → Sole (Alone P) (AreSame S) Stop
alone_sole {A} {P} {S} {Stop} s = record { one = λ rs ss p q e j k. go rs ss p q e j k }
  where
    go : {us vs : List Token} {c d : List A} (rs ss : List Token) → Alone P us c → Alone P vs d → us ++ rs ≡ vs ++ ss → Stop rs → Stop ss → (rs ≡ ss) × AreSame S c d
    go rs ss (alone p) (alone q) e j k = let a = s.one rs ss p q e j k in (a.0, alike.next a.1 alike.none)

-- parts one after the other, as steps from an empty list
pub data Steps {A : Type 0} (P : List Token → A → Type 0) (xs : List Token) (l : List A) : Type 0 where
  steps : Rest (Added P) xs [] l → Steps P xs l

pub each_steps : {A : Type 0} {P : List Token → A → Type 0} {xs : List Token} {l : List A} → Each P xs l → Steps P xs l
each_steps h = steps (go h)
  where
    go : {A : Type 0} {P : List Token → A → Type 0} {xs : List Token} {l : List A} → Each P xs l → Rest (Added P) xs [] l
    go sentence.none = done
    go (sentence.one_more r p) = rest_further (go r) (added p)

pub some_steps : {A : Type 0} {P : List Token → A → Type 0} {xs : List Token} {l : List A} → AtLeastOne P xs l → Steps P xs l
some_steps h = steps (go h)
  where
    first : {A : Type 0} {P : List Token → A → Type 0} {xs : List Token} {x : A} → P xs x → Rest (Added P) xs [] (x ∷ [])
    first {P = P} {xs = xs} {x = x} p = subst (λ l. Rest (Added P) l [] (x ∷ [])) (append-nil xs) (on (added p) done)

    go : {A : Type 0} {P : List Token → A → Type 0} {xs : List Token} {l : List A} → AtLeastOne P xs l → Rest (Added P) xs [] l
    go (sentence.one p) = first p
    go (sentence.and_one r p) = rest_further (go r) (added p)

pub steps_sole : {A : Type 0} {P : List Token → A → Type 0} {S : A → A → Type 0} {Stop More : List Token → Type 0} → Sole P S Stop → Turns (Added P) Stop More → Sole (Steps P) (AreSame S) More
steps_sole {A} {P} {S} {Stop} {More} s t = record { one = λ rs ss p q e j k. go rs ss p q e j k }
  where
    go : {us vs : List Token} {c d : List A} (rs ss : List Token) → Steps P us c → Steps P vs d → us ++ rs ≡ vs ++ ss → More rs → More ss → (rs ≡ ss) × AreSame S c d
    go rs ss (steps p) (steps q) e j k = rest_sole (added_sole s) t rs ss p q alike.none e j k

-- parts with commas between them: the first, and steps of a comma and a part
pub listed_headed : {A : Type 0} {P : List Token → A → Type 0} {xs : List Token} {l : List A} → Listed P xs l → Headed (Alone P) (Added (Behind comma P)) xs l
listed_headed (sentence.single p) = headed_alone (alone p)
listed_headed (sentence.further r c p) = headed_further (listed_headed r) (added (sentence.behind c p))
