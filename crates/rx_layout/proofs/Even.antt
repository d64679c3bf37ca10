-- All queries in the query of a fact are over the same number of variables.
use Rattle.std.proofs.Common.{◌≡◌, refl, ap, subst, ◌∙◌, ℕ, ◌==◌, List, [], ◌∷◌, map, Bool, true, ◌&&◌}
use Rattle.std.specs.List.{list_all}
use Rattle.std.proofs.lemmas.Bool.Decides.{Decides-eqb}
use Rattle.rx_linear.proofs.Joining.{and_true}
use Rattle.rx_proof.specs.declared.query.Query.{Query, out-Query}
use Rattle.rx_proof.specs.declared.query.Query.TheFolds.{fold-Query, fold-roll-Query}
use Rattle.rx_proof.specs.Queries.{has_variables, has_variables_step, each_has_variables, IsEven}
use Rattle.rx_proof.proofs.Weights.{has_variables_out, each-append}
use Rattle.rx_forms.specs.declared.linear.Form.{Form}
use Rattle.rx_forms.specs.declared.linear.Form.TheOpen.{Form-F}
use Rattle.rx_forms.specs.declared.linear.Form.TheFolds.{ind-Form, map-Form, fold-roll-Form}
use Rattle.rx_layout.specs.declared.parts.Parts.{Parts}
use Rattle.rx_layout.specs.Parts.{query_of, all_of, one_of, parts_step, parts_of}

all-map : (f : Query → ℕ → Bool) (n : ℕ) (branches : List Query) → list_all (λ (b : ℕ → Bool). b n) (map f branches) ≡ list_all (λ b. f b n) branches
all-map f n [] = refl
all-map f n (b ∷ bs) = ap (λ (t : Bool). f b n && t) (all-map f n bs)

each-map : (f : Query → ℕ → Bool) (n : ℕ) (either : List (List Query)) → list_all (λ (bs : List (ℕ → Bool)). list_all (λ (b : ℕ → Bool). b n) bs) (map (map f) either) ≡ list_all (λ bs. list_all (λ b. f b n) bs) either
each-map f n [] = refl
each-map f n (bs ∷ either) = ap (λ (t : Bool). t && list_all (λ (cs : List (ℕ → Bool)). list_all (λ (b : ℕ → Bool). b n) cs) (map (map f) either)) (all-map f n bs) ∙ ap (λ (t : Bool). list_all (λ b. f b n) bs && t) (each-map f n either)

has_is : (n k : ℕ) (parts : Parts) → has_variables (query_of n parts) k ≡ ((n == k) && each_has_variables parts.either k)
unfolding has_variables
has_is n k parts =
    ap (λ (f : ℕ → Bool). f k) (fold-roll-Query (ℕ → Bool) has_variables_step (record { system = record { variables = n; rows = parts.rows }; either = parts.either }))
    ∙ ap (λ (t : Bool). (n == k) && t) (each-map (fold-Query (ℕ → Bool) has_variables_step) k parts.either)

abbrev AreOver : ℕ → Parts → Type 0
AreOver n parts = each_has_variables parts.either n ≡ true

over_has : (n : ℕ) (parts : Parts) → AreOver n parts → has_variables (query_of n parts) n ≡ true
over_has n parts h = has_is n n parts ∙ and_true ((Decides-eqb n n).1 refl) h

abbrev FormOver : ℕ → Form → Type 0
FormOver n form = AreOver n (parts_of n form)

all_over : (n : ℕ) (forms : List ((f : Form) × FormOver n f)) → AreOver n (all_of (map (parts_of n) (map (λ e. e.0) forms)))
all_over n [] = refl
all_over n (f ∷ fs) = each-append (parts_of n f.0).either (all_of (map (parts_of n) (map (λ e. e.0) fs))).either n f.1 (all_over n fs)

branches_over : (n : ℕ) (forms : List ((f : Form) × FormOver n f)) → list_all (λ b. has_variables b n) (map (query_of n) (map (parts_of n) (map (λ e. e.0) forms))) ≡ true
branches_over n [] = refl
branches_over n (f ∷ fs) = and_true (over_has n (parts_of n f.0) f.1) (branches_over n fs)

one_over : (n : ℕ) (forms : List ((f : Form) × FormOver n f)) → AreOver n (one_of n (map (parts_of n) (map (λ e. e.0) forms)))
one_over n [] = refl
one_over n (f ∷ []) = f.1
one_over n (f ∷ g ∷ fs) = and_true (branches_over n (f ∷ g ∷ fs)) refl

layer_over : (n : ℕ) (y : Form-F ((f : Form) × FormOver n f)) → AreOver n (parts_step n (map-Form Form Parts (parts_of n) (map-Form ((f : Form) × FormOver n f) Form (λ e. e.0) y)))
layer_over n (Form-F.AtLeast form) = refl
layer_over n (Form-F.All forms) = all_over n forms
layer_over n (Form-F.Any forms) = one_over n forms

parts_over : (n : ℕ) (form : Form) → FormOver n form
unfolding parts_of
parts_over n = ind-Form (FormOver n) (λ x y is.
    ap (λ (p : Parts). each_has_variables p.either n) (fold-roll-Form Parts (parts_step n) x)
    ∙ subst (λ layer. AreOver n (parts_step n (map-Form Form Parts (parts_of n) layer))) is (layer_over n y))

pub query_has : (n : ℕ) (form : Form) → has_variables (query_of n (parts_of n form)) n ≡ true
query_has n form = over_has n (parts_of n form) (parts_over n form)

pub query_variables : (n : ℕ) (form : Form) → (out-Query (query_of n (parts_of n form))).system.variables ≡ n
query_variables n form = (has_variables_out (query_of n (parts_of n form)) n (query_has n form)).0

pub query_even : (n : ℕ) (form : Form) → IsEven (query_of n (parts_of n form))
query_even n form = ap (λ (k : ℕ). has_variables (query_of n (parts_of n form)) k) (query_variables n form) ∙ query_has n form
