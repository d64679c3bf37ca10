use Rattle.std.proofs.lemmas.Str.{IsUtf8-from_ascii}
use Rattle.rx_closure.proofs.NameLemmas.{name_ascii}
use Rattle.rx_closure.proofs.closure.text_of_name.Goals as goal

pub unreachable-requires : goal.unreachable-requires
unreachable-requires c = c.in-Err.ensures.cases.0 (IsUtf8-from_ascii _ (name_ascii _ c.bytes.ensures.name))
