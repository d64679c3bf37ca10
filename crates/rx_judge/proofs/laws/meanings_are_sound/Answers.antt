use Rattle.rx_judge.proofs.Sound.{sound}
use Rattle.rx_judge.proofs.laws.meanings_are_sound.Goals as goal

pub returns : goal.returns
returns c = λ kinds limit n names owner e x f h. sound kinds limit n names owner e x f h
