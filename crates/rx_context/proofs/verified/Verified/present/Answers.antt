use Rattle.std.proofs.Common.{sym, ap, ◌∙◌, subst}
use Rattle.std.specs.Prelude.{IsTrue}
use Rattle.rx_types.specs.Environment.{IsAmong}
use Rattle.rx_context.proofs.Lookup.{presence}
use Rattle.rx_context.proofs.verified.Verified.present.Goals as goal

pub returns : goal.returns
returns c =
    let p = presence c.entries.result.now c.args.field c.find.result c.find.ensures.some c.find.ensures.none in
    let fields = c.entries.ensures.entries ∙ ap (λ r. r.fields) c.self.view_is in
    (λ t. subst (λ l. IsAmong c.args.field l) fields (p.0 (subst (λ b. IsTrue b) c.is_some.ensures t)), λ h. subst (λ b. IsTrue b) (sym c.is_some.ensures) (p.1 (subst (λ l. IsAmong c.args.field l) (sym fields) h)))
