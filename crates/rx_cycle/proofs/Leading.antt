-- The test of leading says what paths say.
use Rattle.std.proofs.Common.{◌≡◌, ◌∙◌, ℕ, zero, suc, ◌+◌, ◌<◌, Bool, true, false, cond, List, [], ◌∷◌, ◌++◌, map, refl, sym, ap, subst, ⊎_elim, arith, Option, Some, None, eq-eqb}
use Rattle.std.specs.Prelude.{slice_get, ◌||◌, ◌&&◌, ◌⊎◌, MatchOption}
use Rattle.std.specs.List.{position_from}
use Rattle.std.proofs.lemmas.Bool.{or_cases, and_parts, and_from, eqb-true, cases_order, false≢true}
use Rattle.std.proofs.lemmas.Option.{none-some, same_Some}
use Rattle.rx_cycle.specs.declared.ends.Ends.{Ends}
use Rattle.rx_cycle.specs.Graph.{IsLink, IsPath, LeadsTo, Returns, IsFirstToReturn, HasNoCycle, leads, first_returning, TellsFirst}
use Rattle.rx_cycle.proofs.Searching.{same_link}

or_left : (x y : Bool) → x ≡ true → (x || y) ≡ true
or_left true y h = refl
or_left false y h = absurd (false≢true h)

or_right : (x y : Bool) → y ≡ true → (x || y) ≡ true
or_right true y h = refl
or_right false y h = h

leads_itself : (links : List Ends) (a : ℕ) → leads links a a ≡ true
leads_itself [] a = eq-eqb a a refl
leads_itself (l ∷ ls) a = or_left (leads ls a a) (leads ls a l.source && leads ls l.target a) (leads_itself ls a)

lifted : (l : Ends) (ls : List Ends) (a : ℕ) (path : List ℕ) (b : ℕ) → IsPath ls a path b → IsPath (l ∷ ls) a (map (λ i. suc i) path) b
lifted l ls a [] b p = p
lifted l ls a (i ∷ path) b p = (p.0, p.1, p.2, lifted l ls p.0.target path b p.3)

joined : (links : List Ends) (a : ℕ) (p : List ℕ) (b : ℕ) (q : List ℕ) (c : ℕ) → IsPath links a p b → IsPath links b q c → IsPath links a (p ++ q) c
joined links a [] b q c h g = subst (λ (x : ℕ). IsPath links x q c) (sym h) g
joined links a (i ∷ p) b q c h g = (h.0, h.1, h.2, joined links h.0.target p b q c h.3 g)

pub sound : (links : List Ends) (a b : ℕ) → leads links a b ≡ true → LeadsTo links a b
sound [] a b h = ([], eqb-true a b h)
sound (l ∷ ls) a b h = ⊎_elim
    (λ (t : leads ls a b ≡ true). let w = sound ls a b t in (map (λ i. suc i) w.0, lifted l ls a w.0 b w.1))
    (λ (t : (leads ls a l.source && leads ls l.target b) ≡ true).
    let both = and_parts (leads ls a l.source) (leads ls l.target b) t in
    let first = sound ls a l.source both.0 in
    let last = sound ls l.target b both.1 in (
      map (λ i. suc i) first.0 ++ zero ∷ map (λ i. suc i) last.0,
      joined (l ∷ ls) a (map (λ i. suc i) first.0) l.source (zero ∷ map (λ i. suc i) last.0) b (lifted l ls a first.0 l.source first.1) (l, refl, refl, lifted l ls l.target last.0 b last.1),
    ))
    (or_cases (leads ls a b) (leads ls a l.source && leads ls l.target b) h)

abbrev Completes : List Ends → Type 0
Completes links = (a : ℕ) (path : List ℕ) (b : ℕ) → IsPath links a path b → leads links a b ≡ true

-- one link more in front
step_back : (links : List Ends) → Completes links → (i : ℕ) (link : Ends) (a b : ℕ) → IsLink links i link → link.source ≡ a → leads links link.target b ≡ true → leads links a b ≡ true
step_back links ih i link a b l s h = let w = sound links link.target b h in ih a (i ∷ w.0) b (link, l, s, w.1)

along : (l : Ends) (ls : List Ends) → Completes ls → Completes (l ∷ ls)
along l ls ih a [] b p = subst (λ (x : ℕ). leads (l ∷ ls) a x ≡ true) p (leads_itself (l ∷ ls) a)
along l ls ih a (zero ∷ path) b p =
    let same = same_Some l p.0 p.1 in
    let rest : leads (l ∷ ls) l.target b ≡ true = subst (λ (x : Ends). leads (l ∷ ls) x.target b ≡ true) (sym same) (along l ls ih p.0.target path b p.3) in
    let on : leads ls l.target b ≡ true = ⊎_elim (λ (t : leads ls l.target b ≡ true). t) (λ (t : (leads ls l.target l.source && leads ls l.target b) ≡ true). (and_parts (leads ls l.target l.source) (leads ls l.target b) t).1) (or_cases (leads ls l.target b) (leads ls l.target l.source && leads ls l.target b) rest) in
    let here : leads ls a l.source ≡ true = subst (λ (x : ℕ). leads ls x l.source ≡ true) (ap (λ (x : Ends). x.source) same ∙ p.2) (leads_itself ls l.source) in
    or_right (leads ls a b) (leads ls a l.source && leads ls l.target b) (and_from (leads ls a l.source) (leads ls l.target b) here on)
along l ls ih a (suc i ∷ path) b p = ⊎_elim
    (λ (t : leads ls p.0.target b ≡ true). or_left (leads ls a b) (leads ls a l.source && leads ls l.target b) (step_back ls ih i p.0 a b p.1 p.2 t))
    (λ (t : (leads ls p.0.target l.source && leads ls l.target b) ≡ true).
    let both = and_parts (leads ls p.0.target l.source) (leads ls l.target b) t in
    or_right (leads ls a b) (leads ls a l.source && leads ls l.target b) (and_from (leads ls a l.source) (leads ls l.target b) (step_back ls ih i p.0 a l.source p.1 p.2 both.0) both.1))
    (or_cases (leads ls p.0.target b) (leads ls p.0.target l.source && leads ls l.target b) (along l ls ih p.0.target path b p.3))

pub complete : (links : List Ends) → Completes links
complete [] a [] b p = eq-eqb a b p
complete [] a (i ∷ path) b p = absurd (none-some p.0 p.1)
complete (l ∷ ls) a path b p = along l ls (complete ls) a path b p

-- ---- the first one

pub record IsFirstAt {A : Type 0} (t : A → Bool) (i : ℕ) (xs : List A) (p : ℕ) : Type 0 where
  pub place : ℕ
  pub item : A
  pub is : p ≡ i + place
  pub at : slice_get xs place ≡ Some item
  pub passes : t item ≡ true
  pub first : (j : ℕ) (y : A) → j < place → slice_get xs j ≡ Some y → t y ≡ false

abbrev NonePass : {A : Type 0} → (A → Bool) → List A → Type 0
NonePass {A = A} t xs = (j : ℕ) (y : A) → slice_get xs j ≡ Some y → t y ≡ false

none_more : {A : Type 0} (t : A → Bool) (x : A) (xs : List A) → t x ≡ false → NonePass t xs → NonePass t (x ∷ xs)
none_more t x xs e n zero y h = ap t (sym (same_Some x y h)) ∙ e
none_more t x xs e n (suc j) y h = n j y h

before_more : {A : Type 0} (t : A → Bool) (x : A) (xs : List A) (place : ℕ) → t x ≡ false → ((j : ℕ) (y : A) → j < place → slice_get xs j ≡ Some y → t y ≡ false) → (j : ℕ) (y : A) → j < suc place → slice_get (x ∷ xs) j ≡ Some y → t y ≡ false
before_more t x xs place e f zero y b h = ap t (sym (same_Some x y h)) ∙ e
before_more t x xs place e f (suc j) y b h = f j y (omega arith) h

first_more : {A : Type 0} (t : A → Bool) (i : ℕ) (x : A) (xs : List A) (p : ℕ) → t x ≡ false → IsFirstAt t (i + 1) xs p → IsFirstAt t i (x ∷ xs) p
first_more t i x xs p e f = record {
  place = suc f.place;
  item = f.item;
  is = let h = f.is in omega arith;
  at = f.at;
  passes = f.passes;
  first = before_more t x xs f.place e f.first;
}

first_here : {A : Type 0} (t : A → Bool) (i : ℕ) (x : A) (xs : List A) → t x ≡ true → IsFirstAt t i (x ∷ xs) i
first_here t i x xs e = record {
  place = 0;
  item = x;
  is = omega arith;
  at = refl;
  passes = e;
  first = λ j y b h. absurd (omega arith);
}

here_or_later : {A : Type 0} (t : A → Bool) (i : ℕ) (x : A) (xs : List A) (b : Bool) (r : Option ℕ) → t x ≡ b → MatchOption r (NonePass t xs) (IsFirstAt t (i + 1) xs) → MatchOption (cond b (Some i) r) (NonePass t (x ∷ xs)) (IsFirstAt t i (x ∷ xs))
here_or_later t i x xs true r e m = first_here t i x xs e
here_or_later t i x xs false None e m = none_more t x xs e m
here_or_later t i x xs false (Some p) e m = first_more t i x xs p e m

position_told : {A : Type 0} (t : A → Bool) (i : ℕ) (xs : List A) → MatchOption (position_from t i xs) (NonePass t xs) (IsFirstAt t i xs)
position_told t i [] = λ j y h. absurd (none-some y h)
position_told t i (x ∷ xs) = here_or_later t i x xs (t x) (position_from t (i + 1) xs) refl (position_told t (i + 1) xs)

fails_to_return : (links : List Ends) (j : ℕ) (link : Ends) → IsLink links j link → leads links link.target link.source ≡ false → Returns links j → ⊥
fails_to_return links j link l e r =
    let same = same_link links j r.0 link r.1 l in
    let w = subst (λ (x : Ends). LeadsTo links x.target x.source) same r.2 in
    false≢true (sym e ∙ complete links link.target w.0 link.source w.1)

as_told : (links : List Ends) (r : Option ℕ) → MatchOption r (NonePass (λ (l : Ends). leads links l.target l.source) links) (IsFirstAt (λ (l : Ends). leads links l.target l.source) 0 links) → TellsFirst links r
as_told links None n = λ at i path p. fails_to_return links i p.0 p.1 (n i p.0 p.1) (p.0, p.1, (path, subst (λ (x : ℕ). IsPath links p.0.target path x) (sym p.2) p.3))
as_told links (Some p) f =
    let e : f.place ≡ p = let h = f.is in omega arith in
    subst (λ (x : ℕ). IsFirstToReturn links x) e record {
      returns = (f.item, f.at, sound links f.item.target f.item.source f.passes);
      first = λ j b r. fails_to_return links j r.0 r.1 (f.first j r.0 b r.1) r;
    }

pub told : (links : List Ends) → TellsFirst links (first_returning links)
told links = as_told links (first_returning links) (position_told (λ (l : Ends). leads links l.target l.source) 0 links)

cycle_or_none : (links : List Ends) (i : ℕ) → HasNoCycle links → IsFirstToReturn links i → ⊥
cycle_or_none links i n f = let r = f.returns in n r.0.source i r.2.0 (r.0, r.1, refl, r.2.1)

-- only one answer tells the first link that returns
pub one_told : (links : List Ends) (a b : Option ℕ) → TellsFirst links a → TellsFirst links b → a ≡ b
one_told links None None n m = refl
one_told links None (Some q) n m = absurd (cycle_or_none links q n m)
one_told links (Some p) None n m = absurd (cycle_or_none links p m n)
one_told links (Some p) (Some q) n m = ⊎_elim
    (λ (e : p ≡ q). ap (λ (x : ℕ). Some x) e)
    (λ (o : (p < q) ⊎ (q < p)). ⊎_elim (λ (h : p < q). absurd (m.first p h n.returns)) (λ (h : q < p). absurd (n.first q h m.returns)) o)
    (cases_order p q)
