use Rattle.std.proofs.Common.{◌≡◌, true, false, sym, ◌∙◌}
use Rattle.rx_serial.proofs.Walking.{nothing_taken}
use Rattle.rx_serial.proofs.filling.ending.Goals as goal

clash : true ≡ false → ⊥
clash e = cc

pub returns-clause-refused : goal.returns-clause-refused
returns-clause-refused c =
    λ domains m values s. (c.last.ensures, nothing_taken domains m c.args.draft.now s (λ f n. c.requires.nowhere domains m f s n) (λ null. clash (sym ((c.at_null.ensures domains m s).1 null) ∙ c.if-at_null.false)))
