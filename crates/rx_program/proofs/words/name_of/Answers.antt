use Rattle.std.proofs.Common.{subst, sym}
use Rattle.rx_types.specs.Names.{IsName}
use Rattle.rx_program.proofs.WordLemmas.{name_is}
use Rattle.rx_program.proofs.words.name_of.Goals as goal

pub make-requires : goal.make-requires
make-requires c = subst IsName (sym c.as_bytes.ensures.value) (name_is c.args.text.now c.requires)
