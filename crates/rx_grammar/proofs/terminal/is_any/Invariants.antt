use Rattle.std.proofs.Common.{◌≡◌, drop}
use Rattle.rx_grammar.specs.Terminal.{is_one_of}
use Rattle.rx_grammar.proofs.terminal.is_any.Given as goal

-- the rest decides
abbrev pub invariant-loop-terminal : goal.invariant-loop-terminal
invariant-loop-terminal l = is_one_of l.terminals l.kind ≡ is_one_of (drop l.terminal-index l.terminals) l.kind
