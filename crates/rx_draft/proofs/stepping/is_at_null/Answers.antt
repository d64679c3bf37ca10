use Rattle.std.proofs.Common.{◌≡◌, true, false, sym}
use Rattle.rx_draft.proofs.Taking.{not_next}
use Rattle.rx_draft.proofs.stepping.is_at_null.Goals as goal

clash : true ≡ false → ⊥
clash e = cc

pub returns-in-To : goal.returns-in-To
returns-in-To c =
    λ domains m s.
    let t = c.in-To.ensures domains m s in
    (λ no. absurd (clash (sym no)), λ end. absurd (not_next domains m c.args.plan.now s c.args.env.now c.requires end.0 c.in-To.field end.1 (t.0, t.1)))

pub returns-in-Short : goal.returns-in-Short
returns-in-Short c =
    λ domains m s.
    let t = c.in-Short.ensures domains m s in
    (λ no. absurd (clash (sym no)), λ end. absurd (not_next domains m c.args.plan.now s c.args.env.now c.requires end.0 c.in-Short.field end.1 (t.0, t.1)))

pub returns-in-Nothing : goal.returns-in-Nothing
returns-in-Nothing c =
    λ domains m s. (λ no. absurd (clash (sym no)), λ end. absurd (c.in-Nothing.ensures domains m s end.0 end.1.link end.1.is end.1.source end.1.taken))
