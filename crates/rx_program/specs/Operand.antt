-- The message that is asked for.
--   message_in name message ms     message `message` of package `name`
use Rattle.std.specs.Prelude.{ℕ, Bool, ◌&&◌, List, [], ◌∷◌, Option, Some, None, if◌then◌else◌}
use Rattle.rx_graph.specs.Graph.{Graph}
use Rattle.rx_closure.specs.Names.{is_same}

-- the message has this name, and its package that one, whatever the case of their letters
abbrev pub is_of : List ℕ → List ℕ → Graph → Bool
is_of name message m = is_same m.«package» name && is_same m.name message

-- the first message of these names
abbrev pub message_in : List ℕ → List ℕ → List Graph → Option Graph
message_in name message [] = None
message_in name message (m ∷ ms) = if is_of name message m then Some m else message_in name message ms
