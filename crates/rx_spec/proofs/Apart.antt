-- Names that stand for the first time, one after the other.
--   Fresh known ws    no name is known, and no two are the same
use Rattle.std.proofs.Common.{◌≡◌, ◌∙◌, ap, sym, refl, ℕ, Bool, true, false, ◌||◌, List, [], ◌∷◌, ◌++◌, map, Ok}
use Rattle.std.specs.Prelude.{if◌then◌else◌}
use Rattle.std.specs.List.{list_any, AllByRecursion}
use Rattle.std.specs.Str.{bytes_eq}
use Rattle.std.proofs.lemmas.Slice.Eq.{bytes_eq-Decides}
use Rattle.rx_syntax.specs.declared.tree.Named.{Named}
use Rattle.rx_syntax.specs.declared.rule.Rule.TheVariants as rule
use Rattle.rx_types.specs.Domain.{EachPair}
use Rattle.rx_types.specs.Names.{IsSameName}
use Rattle.rx_judge.specs.Meaning.{refused_at}
use Rattle.rx_judge.specs.Table.{Entry, entry, is_entry, lowered, has}
use Rattle.rx_judge.proofs.Meanings.{err_differs, ok_same}
use Rattle.rx_elab.specs.Stand.{Known, knowing, fresh}

-- two names that differ in more than the case of their letters
abbrev pub Apart : List ℕ → List ℕ → Type 0
Apart a b = IsSameName a b → ⊥

abbrev pub IsNew : Known → List ℕ → Type 0
IsNew known w = has known [] w ≡ false

pub record Fresh (known : Known) (ws : List (List ℕ)) : Type 0 where
  pub new : AllByRecursion (λ w. IsNew known w) ws
  pub apart : EachPair Apart ws

true_false : true ≡ false → ⊥
true_false h = cc

or_parts : (a b : Bool) → (a || b) ≡ false → (a ≡ false) × (b ≡ false)
or_parts false false h = (refl, refl)
or_parts false true h = absurd (cc)
or_parts true b h = absurd (cc)

any_append : (p : Entry (Unit {0}) → Bool) (xs : Known) (e : Entry (Unit {0})) → list_any p (xs ++ e ∷ []) ≡ false → (list_any p xs ≡ false) × (p e ≡ false)
any_append p [] e h = let b = or_parts (p e) false h in (refl, b.0)
any_append p (x ∷ xs) e h =
    let b = or_parts (p x) (list_any p (xs ++ e ∷ [])) h in
    let c = any_append p xs e b.1 in
    (ap (λ v. v || list_any p xs) b.0 ∙ c.0, c.1)

is_itself : (a b : List ℕ) → lowered a ≡ lowered b → bytes_eq (lowered a) (lowered b) ≡ true
is_itself a b h = (bytes_eq-Decides (lowered a) (lowered b)).1 h

abbrev mark : List ℕ → Entry (Unit {0})
mark a = entry [] a tt

same_entry : (a b : List ℕ) → IsSameName a b → is_entry [] b (mark a) ≡ true
same_entry a b h = is_itself b a (sym h)

-- what is new once more is known is another name
apart_if : (known : Known) (a b : List ℕ) → IsNew known a → IsNew (knowing a known) b → IsNew known b × Apart a b
apart_if known a b h k =
    let more : has (known ++ mark a ∷ []) [] b ≡ false = (rw h at k) in
    let c = any_append (is_entry [] b) known (mark a) more in
    (c.0, λ e. true_false (sym (same_entry a b e) ∙ c.1))

apart_all : (known : Known) (a : List ℕ) (ws : List (List ℕ)) → IsNew known a → AllByRecursion (λ w. IsNew (knowing a known) w) ws → AllByRecursion (λ w. IsNew known w) ws × AllByRecursion (λ w. Apart a w) ws
apart_all known a [] h k = (tt, tt)
apart_all known a (b ∷ ws) h k =
    let one = apart_if known a b h k.0 in
    let rest = apart_all known a ws h k.1 in
    ((one.0, rest.0), (one.1, rest.1))

pub none_fresh : (known : Known) → Fresh known []
none_fresh known = record { new = tt; apart = tt }

pub more_fresh : (known : Known) (a : List ℕ) (ws : List (List ℕ)) → IsNew known a → Fresh (knowing a known) ws → Fresh known (a ∷ ws)
more_fresh known a ws h f = let c = apart_all known a ws h f.new in record { new = (h, c.0); apart = (c.1, f.apart) }

fresh_if : (b : Bool) (name : Named) (known after : Known) → (if b then refused_at rule.NameClash name else Ok known) ≡ Ok after → (b ≡ false) × (after ≡ known)
fresh_if true name known after h = absurd (err_differs _ _ h)
fresh_if false name known after h = (refl, sym (ok_same known after h))

-- a name that stands was not known, and is known then
pub is_fresh : (known after : Known) (name : Named) → fresh known name ≡ Ok after → IsNew known name.word × (after ≡ knowing name.word known)
is_fresh known after name h = fresh_if (has known [] name.word) name (knowing name.word known) after h

-- ---- what has the names

all_named : {A : Type 0} (P : List ℕ → Type 0) (f : A → List ℕ) (xs : List A) → AllByRecursion P (map f xs) → AllByRecursion (λ x. P (f x)) xs
all_named P f [] h = tt
all_named P f (x ∷ xs) h = (h.0, all_named P f xs h.1)

pub pairs_named : {A : Type 0} (f : A → List ℕ) (xs : List A) → EachPair Apart (map f xs) → EachPair (λ a b. IsSameName (f a) (f b) → ⊥) xs
pairs_named f [] h = tt
pairs_named f (x ∷ xs) h = (all_named (λ w. Apart (f x) w) f xs h.0, pairs_named f xs h.1)
