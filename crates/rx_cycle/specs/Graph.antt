-- Links between numbered nodes, the paths along them, and the first link on a cycle.
--   IsLink links i link        link i
--   AreBelow n links           the ends of all links are numbers below n
--   IsPath links at path end   the links of the path lead from one node to the other
--   LeadsTo links a b          some path leads from a to b
--   Returns links i            the target of link i leads back to its source
--   IsFirstToReturn links i    so does that of link i, and that of no earlier link
--   HasNoCycle links           no node leads back to itself by a link or more
--   leads links a b            whether a leads to b, as a test
--   first_returning links      the first link that returns, as a value
-- The relations and the test say the same: `first_is_told` of src/law.rt.
use Rattle.std.specs.Prelude.{◌≡◌, ◌==◌, ℕ, ◌<◌, Bool, ◌||◌, ◌&&◌, List, [], ◌∷◌, Option, Some, slice_get, MatchOption}
use Rattle.std.specs.List.{position_from}
use Rattle.rx_cycle.specs.declared.ends.Ends.{Ends}

abbrev pub IsLink : List Ends → ℕ → Ends → Type 0
IsLink links i link = slice_get links i ≡ Some link

pub record AreBelow (n : ℕ) (links : List Ends) : Type 0 where
  pub source : (i : ℕ) (link : Ends) → IsLink links i link → link.source < n
  pub target : (i : ℕ) (link : Ends) → IsLink links i link → link.target < n

abbrev pub IsPath : List Ends → ℕ → List ℕ → ℕ → Type 0
IsPath links at [] end = at ≡ end
IsPath links at (i ∷ path) end = (link : Ends) × IsLink links i link × (link.source ≡ at) × IsPath links link.target path end

abbrev pub LeadsTo : List Ends → ℕ → ℕ → Type 0
LeadsTo links a b = (path : List ℕ) × IsPath links a path b

abbrev pub Returns : List Ends → ℕ → Type 0
Returns links i = (link : Ends) × IsLink links i link × LeadsTo links link.target link.source

pub record IsFirstToReturn (links : List Ends) (i : ℕ) : Type 0 where
  pub returns : Returns links i
  pub first : (j : ℕ) → j < i → Returns links j → ⊥

abbrev pub HasNoCycle : List Ends → Type 0
HasNoCycle links = (at i : ℕ) (path : List ℕ) → IsPath links at (i ∷ path) at → ⊥

-- Link by link: a leads to b without the link, or to its source and on from its target.
abbrev pub leads : List Ends → ℕ → ℕ → Bool
leads [] a b = a == b
leads (l ∷ ls) a b = leads ls a b || (leads ls a l.source && leads ls l.target b)

abbrev pub first_returning : List Ends → Option ℕ
first_returning links = position_from (λ l. leads links l.target l.source) 0 links

-- the first link that returns, or that there is no cycle
abbrev pub TellsFirst : List Ends → Option ℕ → Type 0
TellsFirst links first = MatchOption first (HasNoCycle links) (IsFirstToReturn links)

abbrev pub FirstIsTold : Type 0
FirstIsTold = (links : List Ends) → TellsFirst links (first_returning links)
