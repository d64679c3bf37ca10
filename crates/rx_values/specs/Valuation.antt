-- Values and valuations of the code.
--   content value           what a value is, without its place in memory
--   assigned entries        the fields with what they hold
--   inserted f c values     the valuation that gives field f the content c, ids ascending
use Rattle.std.specs.Prelude.{ℕ, Bool, nat_lt, List, [], ◌∷◌, if◌then◌else◌}
use Rattle.rx_graph.specs.Fits.{Content, Number, Bytes, Assigned}
use Rattle.rx_values.specs.declared.valuation.Value.{Value}
use Rattle.rx_values.specs.declared.valuation.Value.TheVariants as code

abbrev pub content : Value → Content
content (code.Number n) = Number n
content (code.Bytes v) = Bytes v.items

abbrev pub assigned : List (ℕ × Value) → List Assigned
assigned [] = []
assigned (e ∷ es) = record { field = e.0; content = content e.1 } ∷ assigned es

-- the entry's id is below f
abbrev pub is_before : ℕ → ℕ × Value → Bool
is_before f entry = nat_lt entry.0 f

-- with field f behind those of lesser ids
abbrev pub inserted : ℕ → Content → List Assigned → List Assigned
inserted f c [] = record { field = f; content = c } ∷ []
inserted f c (a ∷ rest) = if nat_lt a.field f then a ∷ inserted f c rest else record { field = f; content = c } ∷ a ∷ rest
