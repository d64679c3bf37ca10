-- The rules that a text may break, each with the number and the name by which it is told.
--   number_of rule     its number
--   name_of rule       its name, as it is printed
use Rattle.std.specs.Prelude.{ℕ, List, codes}
use Rattle.rx_syntax.specs.declared.rule.Rule.{Rule}
use Rattle.rx_syntax.specs.declared.rule.Rule.TheVariants as rule

-- the number of a rule; none has 15
abbrev pub number_of : Rule → ℕ
number_of rule.BadByte = 1
number_of rule.BadNumber = 2
number_of rule.BadName = 3
number_of rule.TextLimit = 4
number_of rule.Expected = 5
number_of rule.TooDeep = 6
number_of rule.Unsupported = 7
number_of rule.UnknownName = 8
number_of rule.NameClash = 9
number_of rule.WrongType = 10
number_of rule.NotStatic = 11
number_of rule.NotLinear = 12
number_of rule.TooWide = 13
number_of rule.MissingSize = 14
number_of rule.Cycle = 16
number_of rule.OverlayMixed = 17
number_of rule.FirstForm = 18
number_of rule.OrderSize = 19
number_of rule.BadRange = 20
number_of rule.GraphLimit = 21

-- the name of a rule, as it is printed
abbrev pub name_of : Rule → List ℕ
name_of rule.BadByte = codes "BadByte"
name_of rule.BadNumber = codes "BadNumber"
name_of rule.BadName = codes "BadName"
name_of rule.TextLimit = codes "TextLimit"
name_of rule.Expected = codes "Expected"
name_of rule.TooDeep = codes "TooDeep"
name_of rule.Unsupported = codes "Unsupported"
name_of rule.UnknownName = codes "UnknownName"
name_of rule.NameClash = codes "NameClash"
name_of rule.WrongType = codes "WrongType"
name_of rule.NotStatic = codes "NotStatic"
name_of rule.NotLinear = codes "NotLinear"
name_of rule.TooWide = codes "TooWide"
name_of rule.MissingSize = codes "MissingSize"
name_of rule.Cycle = codes "Cycle"
name_of rule.OverlayMixed = codes "OverlayMixed"
name_of rule.FirstForm = codes "FirstForm"
name_of rule.OrderSize = codes "OrderSize"
name_of rule.BadRange = codes "BadRange"
name_of rule.GraphLimit = codes "GraphLimit"
