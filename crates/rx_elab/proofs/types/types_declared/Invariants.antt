use Rattle.std.proofs.Common.{◌≤◌, ◌+◌, length}
use Rattle.rx_elab.specs.Types.{type_declared, types_of}
use Rattle.rx_elab.proofs.Through.{Going}
use Rattle.rx_elab.proofs.types.types_declared.Given as goal

abbrev pub invariant-loop-decl : goal.invariant-loop-decl
invariant-loop-decl l = record {
  going : Going (type_declared l.«package») (types_of l.initial.types) l.decls l.decl-index (types_of l.types);
  count : length l.types.scalars.items ≤ length l.initial.types.scalars.items + l.decl-index;
}
