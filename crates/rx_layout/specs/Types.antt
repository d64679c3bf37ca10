-- Facts that say that a variable has a number of a scalar type.
--   between low high v    variable v lies from one number to another
--   ascending ns          the numbers in ascending order, each once
--   last_of n ns          the last of some numbers, n where there is none
--   has_gaps ns           between two neighbours of an ascending list a number is left out
--   type_form t v         variable v has a number of the type
use Rattle.std.specs.Prelude.{List, [], ◌∷◌, ◌++◌, map, ℕ, ◌+◌, ◌-◌, ◌^◌, ◌==◌, nat_lt, pos, negsuc, neg_ℤ, Bool, true, false, not, ◌||◌, if◌then◌else◌}
use Rattle.rx_types.specs.declared.scalar.Literal.{Literal}
use Rattle.rx_types.specs.Domain.{Domain, Integer, Enumeration, numbers_of}
use Rattle.rx_forms.specs.declared.linear.Form.{Form, AtLeast, All, Any}
use Rattle.rx_forms.specs.Linear.{term}

-- the variable less the low number, and the high number less the variable, are at least 0
abbrev pub between : ℕ → ℕ → ℕ → List Form
between low high v = AtLeast (term (pos 1) v (neg_ℤ (pos low))) ∷ AtLeast (term (negsuc 0) v (pos high)) ∷ []

-- n in its place among numbers that ascend, unless it stands there
abbrev pub placed_in : ℕ → List ℕ → List ℕ
placed_in n [] = n ∷ []
placed_in n (k ∷ ks) = if n == k then k ∷ ks else (if nat_lt n k then n ∷ k ∷ ks else k ∷ placed_in n ks)

abbrev pub ascending : List ℕ → List ℕ
ascending [] = []
ascending (n ∷ ns) = placed_in n (ascending ns)

abbrev pub last_of : ℕ → List ℕ → ℕ
last_of n [] = n
last_of n (k ∷ ks) = last_of k ks

abbrev pub has_gaps : List ℕ → Bool
has_gaps [] = false
has_gaps (n ∷ []) = false
has_gaps (n ∷ k ∷ ks) = not (k == n + 1) || has_gaps (k ∷ ks)

-- where there are gaps, the variable is one of the numbers besides
abbrev pub one_of_numbers : Bool → List ℕ → ℕ → List Form
one_of_numbers true ns v = Any (map (λ n. All (between n n v)) ns) ∷ []
one_of_numbers false ns v = []

-- the variable lies between the ends of numbers that ascend, and is one of them
abbrev pub numbers_form : List ℕ → ℕ → Form
numbers_form [] v = Any []
numbers_form (n ∷ ns) v = All (between n (last_of n ns) v ++ one_of_numbers (has_gaps (n ∷ ns)) (n ∷ ns) v)

-- an enumeration that is always valid has every number of its size
abbrev pub literals_form : List Literal → ℕ → Bool → ℕ → Form
literals_form literals size true v = All (between 0 (2 ^ size - 1) v)
literals_form literals size false v = numbers_form (ascending (numbers_of literals)) v

abbrev pub type_form : Domain → ℕ → Form
type_form (Integer first last size) v = All (between first last v)
type_form (Enumeration literals size always_valid) v = literals_form literals size always_valid v
