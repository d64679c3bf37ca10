use Rattle.rx_grammar.proofs.Exit.{out_of_memory}
use Rattle.rx_grammar.proofs.cursor.take_name.Goals as goal

pub returns-in_err-name : goal.returns-in_err-name
returns-in_err-name c =
    out_of_memory _ _ _ c.args.cursor _ _ c.from_residual-in_err-name.ensures.1 c.in_err-name.ensures.memory
