-- Lists that are the same, item by item: what is made of them is the same.
use Rattle.std.proofs.Common.{◌≡◌, ◌∙◌, ap, refl, ℕ, ◌+◌, zero, suc, Bool, ◌&&◌, ◌||◌, List, ◌∷◌, ◌++◌, length, map, take, Result, Ok, Err}
use Rattle.std.specs.Prelude.{slice_get}
use Rattle.std.specs.List.{list_all, list_any}
use Rattle.rx_judge.specs.Meaning.{◌>>=◌, each_from, all_stand_from}
use Rattle.rx_links.specs.Links.{gathered_from}
use Rattle.rx_elab.specs.Through.{through}
use Rattle.rx_trees.specs.Alike as alike
use Rattle.rx_trees.specs.Alike.{AreSame, IsSameIfAny}

-- ---- functions of one and of two arguments

pub ap_two : {A B C : Type 0} (f : A → B → C) {a x : A} {b y : B} → a ≡ x → b ≡ y → f a b ≡ f x y
ap_two f {a} {x} {b} {y} h k = ap (λ z. f z b) h ∙ ap (λ z. f x z) k

-- ---- one step, and then the next

pub same_after : {A B R : Type 0} (m : Result A R) {f g : A → Result B R} → ((a : A) → f a ≡ g a) → (m >>= f) ≡ (m >>= g)
same_after (Ok a) h = h a
same_after (Err r) h = refl

pub bind_same : {A B R : Type 0} {m n : Result A R} {f g : A → Result B R} → m ≡ n → ((a : A) → f a ≡ g a) → (m >>= f) ≡ (n >>= g)
bind_same {n = n} {f = f} e h = ap (λ x. x >>= f) e ∙ same_after n h

-- the same where only the first step differs
pub first_same : {A B R : Type 0} {m n : Result A R} (f : A → Result B R) → m ≡ n → (m >>= f) ≡ (n >>= f)
first_same f e = ap (λ x. x >>= f) e

-- ---- items in turn

pub each_same : {A B R : Type 0} {IsSame : A → A → Type 0} {f g : ℕ → A → Result B R} {xs ys : List A} (n : ℕ) → ((i : ℕ) (x y : A) → IsSame x y → f i x ≡ g i y) → AreSame IsSame xs ys → each_from f n xs ≡ each_from g n ys
each_same n h alike.none = refl
each_same n h (alike.next s ss) = bind_same (h n _ _ s) (λ y. first_same (λ ys. Ok (y ∷ ys)) (each_same (n + 1) h ss))

pub all_same : {A R : Type 0} {IsSame : A → A → Type 0} {f g : ℕ → A → Result (Unit {0}) R} {xs ys : List A} (n : ℕ) → ((i : ℕ) (x y : A) → IsSame x y → f i x ≡ g i y) → AreSame IsSame xs ys → all_stand_from f n xs ≡ all_stand_from g n ys
all_same n h alike.none = refl
all_same n h (alike.next s ss) = bind_same (h n _ _ s) (λ u. all_same (n + 1) h ss)

pub through_same : {A S R : Type 0} {IsSame : A → A → Type 0} {f g : S → A → Result S R} {xs ys : List A} (s : S) → ((t : S) (x y : A) → IsSame x y → f t x ≡ g t y) → AreSame IsSame xs ys → through f s xs ≡ through g s ys
through_same s h alike.none = refl
through_same s h (alike.next e es) = bind_same (h s _ _ e) (λ t. through_same t h es)

pub gathered_same : {A B R : Type 0} {IsSame : A → A → Type 0} {f g : ℕ → A → Result (List B) R} {xs ys : List A} (n : ℕ) → ((i : ℕ) (x y : A) → IsSame x y → f i x ≡ g i y) → AreSame IsSame xs ys → gathered_from f n xs ≡ gathered_from g n ys
gathered_same n h alike.none = refl
gathered_same n h (alike.next s ss) = bind_same (h n _ _ s) (λ ys. first_same (λ zs. Ok (ys ++ zs)) (gathered_same (n + 1) h ss))

-- ---- tests, images and counts

pub any_same : {A : Type 0} {IsSame : A → A → Type 0} {f g : A → Bool} {xs ys : List A} → ((x y : A) → IsSame x y → f x ≡ g y) → AreSame IsSame xs ys → list_any f xs ≡ list_any g ys
any_same h alike.none = refl
any_same h (alike.next s ss) = ap_two (λ b c. b || c) (h _ _ s) (any_same h ss)

pub every_same : {A : Type 0} {IsSame : A → A → Type 0} {f g : A → Bool} {xs ys : List A} → ((x y : A) → IsSame x y → f x ≡ g y) → AreSame IsSame xs ys → list_all f xs ≡ list_all g ys
every_same h alike.none = refl
every_same h (alike.next s ss) = ap_two (λ b c. b && c) (h _ _ s) (every_same h ss)

pub images_same : {A B : Type 0} {IsSame : A → A → Type 0} {f g : A → B} {xs ys : List A} → ((x y : A) → IsSame x y → f x ≡ g y) → AreSame IsSame xs ys → map f xs ≡ map g ys
images_same h alike.none = refl
images_same h (alike.next s ss) = ap_two (λ b c. b ∷ c) (h _ _ s) (images_same h ss)

pub length_same : {A : Type 0} {IsSame : A → A → Type 0} {xs ys : List A} → AreSame IsSame xs ys → length xs ≡ length ys
length_same alike.none = refl
length_same (alike.next s ss) = ap suc (length_same ss)

-- ---- parts of lists

pub take_same : {A : Type 0} {IsSame : A → A → Type 0} {xs ys : List A} (k : ℕ) → AreSame IsSame xs ys → AreSame IsSame (take k xs) (take k ys)
take_same zero ss = alike.none
take_same (suc k) alike.none = alike.none
take_same (suc k) (alike.next s ss) = alike.next s (take_same k ss)

pub append_same : {A : Type 0} {IsSame : A → A → Type 0} {xs ys vs ws : List A} → AreSame IsSame xs ys → AreSame IsSame vs ws → AreSame IsSame (xs ++ vs) (ys ++ ws)
append_same alike.none ts = ts
append_same (alike.next s ss) ts = alike.next s (append_same ss ts)

-- the items at a place
pub item_same : {A : Type 0} {IsSame : A → A → Type 0} {xs ys : List A} (k : ℕ) → AreSame IsSame xs ys → IsSameIfAny IsSame (slice_get xs k) (slice_get ys k)
item_same k alike.none = alike.none
item_same zero (alike.next s ss) = alike.some s
item_same (suc k) (alike.next s ss) = item_same k ss
