-- The field over which links lay a field.
--   agrees         where no link lays a field over another one than the others do, each lays it over its overlay
--   overlay_laid   some link lays it there
use Rattle.std.proofs.Common.{◌≡◌, ◌∙◌, ap, sym, refl, ℕ, zero, suc, Bool, true, false, ◌&&◌, ◌||◌, not, List, [], ◌∷◌, Option, Some, None}
use Rattle.std.specs.Prelude.{◌==◌, find, slice_get, if◌then◌else◌}
use Rattle.std.specs.List.{list_any}
use Rattle.std.proofs.lemmas.Bool.Decides.{Decides-eqb}
use Rattle.std.proofs.lemmas.Option.{none-some, same_Some}
use Rattle.rx_elab.specs.Firsts.{is_at, is_over, lays_otherwise, is_mixed, unless_mixed, overlay_by, overlay_in}
use Rattle.rx_elab.specs.declared.layings.Laying.{Laying}

-- the list has this item at some place
pub record IsIn {A : Type 0} (xs : List A) (x : A) : Type 0 where
  pub place : ℕ
  pub at : slice_get xs place ≡ Some x

later : {A : Type 0} (x y : A) (xs : List A) → IsIn xs y → IsIn (x ∷ xs) y
later x y xs h = record { place = suc h.place; at = h.at }

-- what is found passes, and is there
record IsFound {A : Type 0} (test : A → Bool) (xs : List A) (x : A) : Type 0 where
  is_in : IsIn xs x
  passes : test x ≡ true

found_if : {A : Type 0} (test : A → Bool) (b : Bool) (x y : A) (xs : List A) → test x ≡ b → (find test xs ≡ Some y → IsFound test xs y) → (if b then Some x else find test xs) ≡ Some y → IsFound test (x ∷ xs) y
found_if test true x y xs t h e = record { is_in = record { place = 0; at = e }; passes = ap test (sym (same_Some x y e)) ∙ t }
found_if test false x y xs t h e = let f = h e in record { is_in = later x y xs f.is_in; passes = f.passes }

found_is : {A : Type 0} (test : A → Bool) (xs : List A) (y : A) → find test xs ≡ Some y → IsFound test xs y
found_is test [] y e = absurd (none-some y e)
found_is test (x ∷ xs) y e = found_if test (test x) x y xs refl (found_is test xs y) e

abbrev Finds : {A : Type 0} → (A → Bool) → List A → Type 0
Finds {A = A} test xs = (y : A) × (find test xs ≡ Some y)

finds_here : {A : Type 0} (test : A → Bool) (b : Bool) (x : A) (xs : List A) → b ≡ true → (y : A) × ((if b then Some x else find test xs) ≡ Some y)
finds_here test true x xs h = (x, refl)
finds_here test false x xs h = absurd (cc)

finds_later : {A : Type 0} (test : A → Bool) (b : Bool) (x y : A) (xs : List A) → find test xs ≡ Some y → (z : A) × ((if b then Some x else find test xs) ≡ Some z)
finds_later test true x y xs e = (x, refl)
finds_later test false x y xs e = (y, e)

-- where an item passes, one is found
finds : {A : Type 0} (test : A → Bool) (xs : List A) (k : ℕ) (x : A) → slice_get xs k ≡ Some x → test x ≡ true → Finds test xs
finds test [] k x e t = absurd (none-some x e)
finds test (y ∷ xs) zero x e t = finds_here test (test y) y xs (ap test (same_Some y x e) ∙ t)
finds test (y ∷ xs) (suc k) x e t = let f = finds test xs k x e t in finds_later test (test y) y f.0 xs f.1

none_of_both : (a b : Bool) → (a || b) ≡ false → (a ≡ false) × (b ≡ false)
none_of_both true b h = absurd (cc)
none_of_both false b h = (refl, h)

-- a test that some item passes fails at none
untrue_at : {A : Type 0} (test : A → Bool) (xs : List A) (k : ℕ) (x : A) → list_any test xs ≡ false → slice_get xs k ≡ Some x → test x ≡ false
untrue_at test [] k x a h = absurd (none-some x h)
untrue_at test (y ∷ xs) zero x a h = ap test (sym (same_Some y x h)) ∙ (none_of_both (test y) (list_any test xs) a).0
untrue_at test (y ∷ xs) (suc k) x a h = untrue_at test xs k x (none_of_both (test y) (list_any test xs) a).1 h

over_same : (x y : ℕ) (b : Bool) → (x == y) ≡ b → not b ≡ false → Some y ≡ Some x
over_same x y true e h = ap (λ (n : ℕ). Some n) (sym ((Decides-eqb x y).0 e))
over_same x y false e h = absurd (cc)

over_is : (x : ℕ) (a : Bool) (o : Option ℕ) → a ≡ true → (a && not (is_over x o)) ≡ false → o ≡ Some x
over_is x false o t h = absurd (cc)
over_is x true None t h = absurd (cc)
over_is x true (Some y) t h = over_same x y (x == y) refl h

-- a link to field i that lays it over x does so as all links to it do
abbrev pub AreAlike : List Laying → ℕ → Type 0
AreAlike ls i = (k : ℕ) (l : Laying) (x : ℕ) → slice_get ls k ≡ Some l → is_at i l.target ≡ true → l.over ≡ Some x → is_mixed ls i x ≡ false

unless_as : (ls : List Laying) (i x : ℕ) (b : Bool) → b ≡ false → (if b then None else Some x) ≡ Some x
unless_as ls i x true h = absurd (cc)
unless_as ls i x false h = refl

none_if : (o : Option ℕ) → ((x : ℕ) → o ≡ Some x → ⊥) → o ≡ None
none_if None h = refl
none_if (Some x) h = absurd (h x refl)

agree_with : (ls : List Laying) (i : ℕ) (j k : ℕ) (y l : Laying) (o : Option ℕ) → AreAlike ls i → slice_get ls j ≡ Some y → is_at i y.target ≡ true → slice_get ls k ≡ Some l → is_at i l.target ≡ true → y.over ≡ o → l.over ≡ unless_mixed ls i o
agree_with ls i j k y l (Some x) all e t f u is =
    let same = all j y x e t is in
    over_is x (is_at i l.target) l.over u (untrue_at (lays_otherwise i x) ls k l same f) ∙ sym (unless_as ls i x (is_mixed ls i x) same)
agree_with ls i j k y l None all e t f u is =
    none_if l.over (λ x h. let same = all k l x f u h in none-some x (sym is ∙ over_is x (is_at i y.target) y.over t (untrue_at (lays_otherwise i x) ls j y same e)))

pub agrees : (ls : List Laying) (i k : ℕ) (l : Laying) → AreAlike ls i → slice_get ls k ≡ Some l → is_at i l.target ≡ true → l.over ≡ overlay_in ls i
agrees ls i k l all f u =
    let test : Laying → Bool = λ m. is_at i m.target in
    let y = finds test ls k l f u in
    let is = found_is test ls y.0 y.1 in
    agree_with ls i is.is_in.place k y.0 l y.0.over all is.is_in.at is.passes f u refl ∙ ap (λ (o : Option Laying). overlay_by ls i o) (sym y.1)

-- ---- the overlay is that of a link

unless_some : (b : Bool) (y x : ℕ) → (if b then None else Some y) ≡ Some x → Some y ≡ Some x
unless_some true y x h = absurd (none-some x h)
unless_some false y x h = h

unless_is : (ls : List Laying) (i x : ℕ) (o : Option ℕ) → unless_mixed ls i o ≡ Some x → o ≡ Some x
unless_is ls i x None h = h
unless_is ls i x (Some y) h = unless_some (is_mixed ls i y) y x h

laid_by : (ls : List Laying) (i x : ℕ) (o : Option Laying) → overlay_by ls i o ≡ Some x → (l : Laying) × (o ≡ Some l) × (l.over ≡ Some x)
laid_by ls i x None h = absurd (none-some x h)
laid_by ls i x (Some l) h = (l, refl, unless_is ls i x l.over h)

pub overlay_laid : (ls : List Laying) (i x : ℕ) → overlay_in ls i ≡ Some x → (k : ℕ) × (l : Laying) × (slice_get ls k ≡ Some l) × (l.over ≡ Some x)
overlay_laid ls i x h =
    let y = laid_by ls i x (find (λ l. is_at i l.target) ls) h in
    let is = found_is (λ (l : Laying). is_at i l.target) ls y.0 y.1 in
    (is.is_in.place, y.0, is.is_in.at, y.2)
