use Rattle.std.proofs.Common.{◌≡◌, drop}
use Rattle.std.specs.List.{list_all}
use Rattle.rx_forms.specs.PathLimit.{keeps_path}
use Rattle.rx_forms.proofs.within.keep_within.Given as goal

-- the paths that are left decide
abbrev pub invariant-loop-path : goal.invariant-loop-path
invariant-loop-path l = list_all (keeps_path l.message.domains l.message.graph l.numbers) l.paths ≡ list_all (keeps_path l.message.domains l.message.graph l.numbers) (drop l.path-index l.paths)
