-- What the code keeps, as the definitions have it.
use Rattle.std.specs.Prelude.{ℕ, ℤ, pos, negsuc, Bool, if◌then◌else◌, List, [], ◌∷◌, Option, Some, None}
use Rattle.rx_graph.specs.Graph.{limit_of}
use Rattle.rx_graph.specs.Typed.{Typed}
use Rattle.rx_forms.specs.declared.linear.Linear.{Linear}
use Rattle.rx_forms.specs.Linear.{constant, term}
use Rattle.rx_forms.specs.Normal.{Formed}
use Rattle.rx_forms.specs.declared.field.FieldForms.{FieldForms}

-- a variable alone, 0 where there is none
abbrev pub number_by : Option ℕ → Linear
number_by None = constant (pos 0)
number_by (Some v) = term (pos 1) v (pos 0)

abbrev pub formed : FieldForms → Formed
formed f = record { field = f.field; first = f.first; size = f.size; end = f.end; number = number_by f.variable }

abbrev pub formed_all : List FieldForms → List Formed
formed_all [] = []
formed_all (f ∷ fs) = formed f ∷ formed_all fs

-- the greatest numbers of the fields of a message
abbrev pub limits : Typed → ℕ → ℕ
limits t f = limit_of t.domains t.graph f

-- 1, or -1
abbrev pub sign : Bool → ℤ
sign less = if less then negsuc 0 else pos 1
