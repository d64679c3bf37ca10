use Rattle.std.proofs.Common.{subst, ℕ, ◌≤◌}
use Rattle.rx_forms.proofs.Telling
use Rattle.rx_forms.proofs.forms.forms_with.Goals as goal

pub gathered-requires : goal.gathered-requires
gathered-requires c = record { count = c.scalars_along-count.ensures; few = c.if-count-ge-VARIABLES.false }

pub returns-then-count-ge-VARIABLES : goal.returns-then-count-ge-VARIABLES
returns-then-count-ge-VARIABLES c =
    let domains = c.args.message.now.domains in
    let m = c.args.message.now.graph in
    record {
      value = tt;
      within = tt;
      limit = λ e. Telling.tells_many domains m c.args.path.now c.args.out.now (subst (λ (n : ℕ). 190 ≤ n) c.scalars_along-count.ensures c.if-count-ge-VARIABLES.true);
    }

pub returns : goal.returns
returns c = record { value = c.gathered.ensures.value; within = c.gathered.ensures.within; limit = c.gathered.ensures.limit }
