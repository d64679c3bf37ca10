use Rattle.std.proofs.Common.{sym, ap, ◌∙◌}
use Rattle.std.specs.Prelude.{slice_get, option_copied}
use Rattle.rx_graph.specs.Graph.{domains_of}
use Rattle.rx_forms.specs.PathLimit.{MayBeChecked}
use Rattle.message_trials.proofs.Elaborated.{first_has}
use Rattle.message_trials.proofs.worked.message_of.Goals as goal

pub returns-in-Some : goal.returns-in-Some
returns-in-Some c =
    first_has (MayBeChecked (domains_of c.args.spec.now)) c.args.spec.now.messages.items c.in-Some.message.now
    (ap option_copied (sym c.in-Some.is) ∙ c.first.ensures.value ∙ ap (λ l. slice_get l 0) c.deref.ensures.value) c.requires
