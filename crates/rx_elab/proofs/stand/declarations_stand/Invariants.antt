use Rattle.rx_elab.specs.Stand.{declaration_stands}
use Rattle.rx_elab.proofs.Through.{Going}
use Rattle.rx_elab.proofs.stand.declarations_stand.Given as goal

abbrev pub invariant-loop-decl : goal.invariant-loop-decl
invariant-loop-decl l = Going declaration_stands l.initial.declared l.decls l.decl-index l.declared
