use Rattle.rx_forms.proofs.Extension.{solved_at}
use Rattle.rx_forms.proofs.laws.quotients_solve_divisions.Goals as goal

pub returns : goal.returns
returns c = λ x e front rest n h. solved_at x e front rest n h
