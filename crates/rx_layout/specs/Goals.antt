-- Goals, each a check with its subject: whom it speaks of, when it is met, and which goals a message has.
--   source goal            the node to which it asks the partial paths
--   is_universal goal      whether it speaks of every such path, or of one
--   IsMet e goal           the formula, at the end of a path with these fields: what breaks a universal goal, or fulfils another
--   MetBy goal total path fields    the path is partial, and the goal is met at its end
--   GoalHolds goal         the check holds
--   IsGoal goal            the message has this check
use Rattle.std.specs.Prelude.{◌≡◌, ◌≢◌, ℕ, ◌<◌, ℤ, pos, ◌<ℤ◌, Bool, true, false, List, None, length, ◌⊎◌}
use Rattle.rx_types.specs.Domain.{Domain}
use Rattle.rx_types.specs.Environment.{Placed, Environment, in_message, place_of, end_of}
use Rattle.rx_graph.specs.declared.message.Node.{Node}
use Rattle.rx_graph.specs.declared.message.Node.TheVariants.{At, Null}
use Rattle.rx_graph.specs.Graph.{Arrow, Graph, type_of, IsOverlay, IsNoOverlay}
use Rattle.rx_graph.specs.Paths.{first_of, IsTrue, IsPartial}
use Rattle.rx_graph.specs.Checks.{IsNumbered, IsMultipleOf8, covered, size_to}
use Rattle.rx_layout.specs.declared.goal.Goal.{Goal}
use Rattle.rx_layout.specs.declared.goal.Goal.TheVariants.{Exclusive, Taken, Reached, Position, Grid, Overlay, Cover, Whole}

abbrev pub source : Goal → Node
source (Exclusive node a b) = node
source (Taken node n) = node
source (Reached f) = At f
source (Position node n) = node
source (Grid node n) = node
source (Overlay node n) = node
source (Cover node n) = node
source (Whole node n) = node

abbrev pub is_universal : Goal → Bool
is_universal (Taken node n) = false
is_universal (Reached f) = false
is_universal other = true

abbrev pub IsNoMultipleOf8 : ℤ → Type 0
IsNoMultipleOf8 z = IsMultipleOf8 z → ⊥

module _ (domains : List Domain) (m : Graph) where
  -- the node has a link with that number, and the link is so
  abbrev pub HasLink : Node → ℕ → (Arrow → Type 0) → Type 0
  HasLink node n P = (i : ℕ) × (link : Arrow) × IsNumbered m node n i link × P link

  -- the node has a link with that number, which is taken, and is so
  abbrev pub IfTaken : Environment → Node → ℕ → (Arrow → Type 0) → Type 0
  IfTaken e node n P = HasLink node n (λ link. IsTrue link e × P link)

  -- ---- the formula of each

  -- First or Size is below 0
  abbrev pub IsMisplaced : Environment → Arrow → Type 0
  IsMisplaced e link = (f : ℕ) × (link.target ≡ At f) × ((first_of link e <ℤ pos 0) ⊎ (size_to domains m link e f <ℤ pos 0))

  -- First or Size is no multiple of 8
  abbrev pub IsOffGrid : Environment → Arrow → Type 0
  IsOffGrid e link = (f : ℕ) × (link.target ≡ At f) × (IsNoMultipleOf8 (first_of link e) ⊎ IsNoMultipleOf8 (size_to domains m link e f))

  -- Size is not that of the field below
  abbrev pub IsUneven : Environment → Arrow → Type 0
  IsUneven e link = (f : ℕ) × (x : ℕ) × (link.target ≡ At f) × IsOverlay m f x × (size_to domains m link e f ≢ (place_of x e.fields).size)

  -- A field that is no overlay does not begin at the greatest end of the earlier fields; at null the end of the last field is
  -- not the greatest.
  abbrev pub IsUncovered : Environment → Arrow → Type 0
  IsUncovered e link =
      ((f : ℕ) × (link.target ≡ At f) × IsNoOverlay m f × (first_of link e ≢ covered e.fields))
      ⊎ ((link.target ≡ Null) × (end_of e.fields ≢ covered e.fields))

  -- the last end is no multiple of 8
  abbrev pub IsBroken : Environment → Arrow → Type 0
  IsBroken e link = (link.target ≡ Null) × IsNoMultipleOf8 (end_of e.fields)

  abbrev pub IsMet : Environment → Goal → Type 0
  IsMet e (Exclusive node a b) = HasLink node a (λ link. IsTrue link e) × HasLink node b (λ link. IsTrue link e)
  IsMet e (Taken node n) = HasLink node n (λ link. IsTrue link e)
  IsMet e (Reached f) = Unit {0}
  IsMet e (Position node n) = IfTaken e node n (IsMisplaced e)
  IsMet e (Grid node n) = IfTaken e node n (IsOffGrid e)
  IsMet e (Overlay node n) = IfTaken e node n (IsUneven e)
  IsMet e (Cover node n) = IfTaken e node n (IsUncovered e)
  IsMet e (Whole node n) = IfTaken e node n (IsBroken e)

  -- ---- when a check holds

  pub record MetBy (goal : Goal) (total : ℕ) (path : List ℕ) (fields : List Placed) : Type 0 where
    pub partial : IsPartial domains m total path fields (source goal)
    pub met : IsMet (in_message total fields) goal

  abbrev pub HoldsIf : Bool → Goal → Type 0
  HoldsIf true goal = (total : ℕ) (path : List ℕ) (fields : List Placed) → MetBy goal total path fields → ⊥
  HoldsIf false goal = (total : ℕ) × (path : List ℕ) × (fields : List Placed) × MetBy goal total path fields

  -- a universal goal is met by no numbers of a path, another by some
  abbrev pub GoalHolds : Goal → Type 0
  GoalHolds goal = HoldsIf (is_universal goal) goal

  -- ---- the checks of a message

  abbrev pub LeadsToField : Arrow → Type 0
  LeadsToField link = (f : ℕ) × (link.target ≡ At f)

  abbrev pub LeadsToBytes : Arrow → Type 0
  LeadsToBytes link = (f : ℕ) × (link.target ≡ At f) × (type_of domains m f ≡ None)

  abbrev pub LeadsToOverlay : Arrow → Type 0
  LeadsToOverlay link = (f : ℕ) × (x : ℕ) × (link.target ≡ At f) × IsOverlay m f x

  abbrev pub IsGoal : Goal → Type 0
  IsGoal (Exclusive node a b) = (a < b) × HasLink node a (λ link. Unit {0}) × HasLink node b (λ link. Unit {0})
  IsGoal (Taken node n) = HasLink node n (λ link. Unit {0})
  IsGoal (Reached f) = f < length m.fields
  IsGoal (Position node n) = HasLink node n LeadsToField
  IsGoal (Grid node n) = HasLink node n LeadsToBytes
  IsGoal (Overlay node n) = HasLink node n LeadsToOverlay
  IsGoal (Cover node n) = HasLink node n (λ link. Unit {0})
  IsGoal (Whole node n) = HasLink node n (λ link. link.target ≡ Null)

  abbrev pub AllGoalsHold : Type 0
  AllGoalsHold = (goal : Goal) → IsGoal goal → GoalHolds goal
