-- Packages that are the same have one specification, or one refusal.
use Rattle.std.proofs.Common.{◌≡◌, ap, refl, ℕ, ◌+◌, List, [], Result, Ok}
use Rattle.rx_elab.specs.Types.{built_in_types}
use Rattle.rx_spec.specs.Elaboration.{in_package, through_from}
use Rattle.rx_trees.specs.Alike as alike
use Rattle.rx_trees.specs.Alike.{AreSame, IsSamePackage}
use Rattle.rx_meaning.specs.Laws.{OneMeaning}
use Rattle.rx_meaning.proofs.Lists.{bind_same, first_same, all_same}
use Rattle.rx_meaning.proofs.Stands.{package_stands_same}
use Rattle.rx_meaning.proofs.Types.{package_types_same}
use Rattle.rx_meaning.proofs.Messages.{package_messages_same}

through_from_same : {A S R : Type 0} {IsSame : A → A → Type 0} {f g : ℕ → S → A → Result S R} {xs ys : List A} (n : ℕ) (s : S) → ((i : ℕ) (t : S) (x y : A) → IsSame x y → f i t x ≡ g i t y) → AreSame IsSame xs ys → through_from f n s xs ≡ through_from g n s ys
through_from_same n s h alike.none = refl
through_from_same n s h (alike.next e es) = bind_same (h n s _ _ e) (λ t. through_from_same (n + 1) t h es)

pub one_meaning : OneMeaning
one_meaning asked ps qs h =
    bind_same (all_same 0 (λ i p q k. ap (in_package i) (package_stands_same asked i k)) h) (λ u.
    bind_same (through_from_same 0 built_in_types (λ i t p q k. ap (in_package i) (package_types_same t k)) h) (λ t.
    first_same (λ gs. Ok (record { scalars = t.scalars; messages = gs; refinements = [] })) (through_from_same 0 [] (λ i gs p q k. ap (in_package i) (package_messages_same t gs k)) h)))
