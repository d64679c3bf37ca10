use Rattle.std.proofs.Common.{subst}
use Rattle.rx_layout.specs.Laid.{end_front, IsLaid}
use Rattle.rx_layout.specs.TypedPath.{TypedPath, typed_path}
use Rattle.rx_layout.proofs.Laying.{nothing_laid}
use Rattle.rx_layout.proofs.path_forms.PathForms.nothing.Goals as goal

pub returns : goal.returns
returns c =
    let i = c.self.inside in
    subst (λ (p : TypedPath). IsLaid p 190 (end_front p) c.nothing.result) c.self.view_is
    (nothing_laid (typed_path i.message.now i.path.now) i.fields.items i.next i.facts i.rows c.nothing.result c.self.invariant c.nothing.ensures)
