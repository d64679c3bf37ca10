-- The limits on the counts of a message's fields and links.
--   counts_stand name fields links   at most 128 fields and 512 links, or GraphLimit at the message's name
use Rattle.std.specs.Prelude.{ℕ, ◌&&◌, Ok, nat_le, if◌then◌else◌}
use Rattle.rx_syntax.specs.declared.tree.Named.{Named}
use Rattle.rx_syntax.specs.declared.rule.Rule.TheVariants as rule
use Rattle.rx_judge.specs.Meaning.{Meaning, refused_at}

abbrev pub counts_stand : Named → ℕ → ℕ → Meaning (Unit {0})
counts_stand name fields links = if nat_le fields 128 && nat_le links 512 then Ok tt else refused_at rule.GraphLimit name
