-- All and one of a list of facts at a point.
use Rattle.std.proofs.Common.{◌≡◌, refl, sym, ap, ◌∙◌, List, [], ◌∷◌, ◌++◌, map, Bool, true, false, ◌&&◌, ◌||◌, ℤ, pos, int_le, ◌⊎◌, inl, inr}
use Rattle.std.specs.List.{list_all, list_any}
use Rattle.std.proofs.lemmas.List.Folds.{list_all-append}
use Rattle.rx_linear.proofs.Joining.{both, and_true}
use Rattle.rx_forms.specs.declared.linear.Linear.{Linear}
use Rattle.rx_forms.specs.declared.linear.Form.{Form, AtLeast, All, Any}
use Rattle.rx_forms.specs.declared.linear.Form.TheVariants.{rolls-All, rolls-Any}
use Rattle.rx_forms.specs.declared.linear.Form.TheOpen.{Form-F}
use Rattle.rx_forms.specs.declared.linear.Form.TheFolds.{fold-roll-Form}
use Rattle.rx_forms.specs.Linear.{at, meets, meets_step, not_below_zero}
use Rattle.rx_forms.proofs.Conditions.{meets_at_least}
use Rattle.rx_layout.specs.QueryOf.{rows}

abbrev pub meet_all : List ℤ → List Form → Bool
meet_all point forms = list_all (λ f. meets f point) forms

abbrev pub meet_one : List ℤ → List Form → Bool
meet_one point forms = list_any (λ f. meets f point) forms

all-map : (point : List ℤ) (forms : List Form) → list_all (λ (t : List ℤ → Bool). t point) (map meets forms) ≡ meet_all point forms
all-map point [] = refl
all-map point (f ∷ fs) = ap (λ (t : Bool). meets f point && t) (all-map point fs)

one-map : (point : List ℤ) (forms : List Form) → list_any (λ (t : List ℤ → Bool). t point) (map meets forms) ≡ meet_one point forms
one-map point [] = refl
one-map point (f ∷ fs) = ap (λ (t : Bool). meets f point || t) (one-map point fs)

pub meets_all : (forms : List Form) (point : List ℤ) → meets (All forms) point ≡ meet_all point forms
unfolding meets
meets_all forms point = ap (λ (p : Form). meets p point) (sym (rolls-All forms)) ∙ ap (λ (g : List ℤ → Bool). g point) (fold-roll-Form (List ℤ → Bool) meets_step (Form-F.All forms)) ∙ all-map point forms

pub meets_any : (forms : List Form) (point : List ℤ) → meets (Any forms) point ≡ meet_one point forms
unfolding meets
meets_any forms point = ap (λ (p : Form). meets p point) (sym (rolls-Any forms)) ∙ ap (λ (g : List ℤ → Bool). g point) (fold-roll-Form (List ℤ → Bool) meets_step (Form-F.Any forms)) ∙ one-map point forms

rows_all : (point : List ℤ) (fs : List Linear) → meet_all point (map (λ f. AtLeast f) fs) ≡ not_below_zero point fs
rows_all point [] = refl
rows_all point (f ∷ fs) = ap (λ (t : Bool). t && meet_all point (map (λ f. AtLeast f) fs)) (meets_at_least f point) ∙ ap (λ (t : Bool). int_le (pos 0) (at f point) && t) (rows_all point fs)

pub meets_rows : (point : List ℤ) (fs : List Linear) → meets (rows fs) point ≡ not_below_zero point fs
meets_rows point fs = meets_all (map (λ f. AtLeast f) fs) point ∙ rows_all point fs

pub split : (point : List ℤ) (f g : List Form) → meet_all point (f ++ g) ≡ true → (meet_all point f ≡ true) × (meet_all point g ≡ true)
split point f g h = both {a = meet_all point f} {b = meet_all point g} (sym (list_all-append (λ f. meets f point) f g) ∙ h)

pub join : (point : List ℤ) (f g : List Form) → meet_all point f ≡ true → meet_all point g ≡ true → meet_all point (f ++ g) ≡ true
join point f g a b = list_all-append (λ f. meets f point) f g ∙ and_true a b

pub one_true : (a b : Bool) → (a || b) ≡ true → (a ≡ true) ⊎ (b ≡ true)
one_true true b h = inl refl
one_true false b h = inr h

pub left_true : (a b : Bool) → a ≡ true → (a || b) ≡ true
left_true a b h = ap (λ (t : Bool). t || b) h

pub right_true : (a b : Bool) → b ≡ true → (a || b) ≡ true
right_true true b h = refl
right_true false b h = h
