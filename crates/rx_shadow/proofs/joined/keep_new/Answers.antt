use Rattle.std.proofs.Common.{◌≡◌, sym, ap, ◌∙◌, subst, length, ◌++◌, ◌∷◌, [], rules}
use Rattle.rx_linear.specs.declared.row.Row.{Row}
use Rattle.rx_shadow.specs.Joined.{IsJoined}
use Rattle.rx_shadow.proofs.Numbered.{joined_more}
use Rattle.rx_shadow.proofs.joined.keep_new.Goals as goal

pub returns-clause-joined : goal.returns-clause-joined
returns-clause-joined c = λ n j f.
    let number : c.len-number.result ≡ length c.args.known.now.items = search rules in
    subst (IsJoined n) (sym (c.in_ok-push.ensures.items ∙ ap (λ (r : Row). c.args.known.now.items ++ record { row = r; number = c.len-number.result } ∷ []) c.new.ensures)) (joined_more n c.args.known.now.items c.args.last c.len-number.result number j f)
