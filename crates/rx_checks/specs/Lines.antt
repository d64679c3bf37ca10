-- The lines of a message's goals while its nodes are judged, and the paths to a node one by one.
--   node_at k                            the start, then the fields
--   AreGoals, AreFirst, AllStand         lines about goals of the message; with the verdicts over no paths; with their verdicts
--   IsNextLine node paths old new        a line before and behind these paths to the node
--   AreNextLines node paths olds news    the same of a list of lines
use Rattle.std.specs.Prelude.{◌≡◌, ◌≢◌, ℕ, zero, suc, List, [], ◌∷◌}
use Rattle.std.specs.List.{AllByRecursion}
use Rattle.rx_types.specs.Domain.{Domain}
use Rattle.rx_graph.specs.declared.message.Node.{Node}
use Rattle.rx_graph.specs.declared.message.Node.TheVariants.{Start, At}
use Rattle.rx_graph.specs.Graph.{Graph}
use Rattle.rx_layout.specs.Goals.{source, IsGoal}
use Rattle.rx_checks.specs.declared.report.Line.{Line}
use Rattle.rx_checks.specs.Verdicts.{IsVerdict, StandsFor}
use Rattle.rx_checks.specs.Told.{IsNextVerdict}

-- the node at a place: the start, then the fields
abbrev pub node_at : ℕ → Node
node_at zero = Start
node_at (suc f) = At f

module _ (domains : List Domain) (m : Graph) where
  -- each line is about a check of the message
  abbrev pub AreGoals : List Line → Type 0
  AreGoals lines = AllByRecursion (λ line. IsGoal domains m line.goal) lines

  module _ (splits : ℕ) where
    -- each verdict is the one over no paths
    abbrev pub AreFirst : List Line → Type 0
    AreFirst lines = AllByRecursion (λ line. IsVerdict domains m splits line.goal [] line.verdict) lines

    -- each verdict is the one on all paths to the goal's source
    abbrev pub AllStand : List Line → Type 0
    AllStand lines = AllByRecursion (λ line. StandsFor domains m splits line.goal line.verdict) lines

    module _ (node : Node) (paths : List (List ℕ)) where
      -- the goal stays, and its verdict is the one behind these paths where the goal asks the paths to the node, else as it was
      pub record IsNextLine (old new : Line) : Type 0 where
        pub goal : new.goal ≡ old.goal
        pub here : source old.goal ≡ node → IsNextVerdict domains m splits old.goal paths old.verdict new.verdict
        pub elsewhere : source old.goal ≢ node → new.verdict ≡ old.verdict

      -- as many lines, each the next one
      abbrev pub AreNextLines : List Line → List Line → Type 0
      AreNextLines [] [] = Unit {0}
      AreNextLines [] (new ∷ news) = ⊥
      AreNextLines (old ∷ olds) [] = ⊥
      AreNextLines (old ∷ olds) (new ∷ news) = IsNextLine old new × AreNextLines olds news
