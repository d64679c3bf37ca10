use Rattle.std.proofs.Common.{◌≡◌, length, ap, sym, subst, ◌∙◌, arith, ◌++◌, [], ◌∷◌}
use Rattle.rx_types.specs.Environment.{placed, places, AreDistinct, in_message}
use Rattle.rx_types.proofs.Entries.{length-places, places-append}
use Rattle.rx_types.proofs.env.Env.push.Goals as goal

pub push-requires : goal.push-requires
push-requires c =
    let view = ap (λ e. length e.fields) c.self.view_is in
    (omega arith, omega (arith, length-places c.self.inside.entries.items, view, c.requires.room))

pub invariant_of-self : goal.invariant_of-self
invariant_of-self c =
    let more : places c.push.new.self.items ≡ c.args.self.now.fields ++ placed c.args.entry ∷ [] =
    ap places c.push.ensures.items ∙ places-append c.self.inside.entries.items (c.args.entry ∷ []) ∙ ap (λ e. e.fields ++ placed c.args.entry ∷ []) c.self.view_is in
    subst (λ ps. AreDistinct ps) (sym more) c.requires.new

pub returns : goal.returns
returns c =
    let more : places c.push.new.self.items ≡ c.args.self.now.fields ++ placed c.args.entry ∷ [] =
    ap places c.push.ensures.items ∙ places-append c.self.inside.entries.items (c.args.entry ∷ []) ∙ ap (λ e. e.fields ++ placed c.args.entry ∷ []) c.self.view_is in
    ap (λ ps. in_message c.self.inside.total ps) more ∙ ap (λ e. in_message e.total (c.args.self.now.fields ++ placed c.args.entry ∷ [])) c.self.view_is
