use Rattle.std.proofs.Common.{◌≡◌, ℕ, Option, None, Some, IsSome, refl, sym, subst, ◌∙◌}
use Rattle.std.specs.Prelude.{option_map}
use Rattle.rx_types.specs.Domain.{Domain, size_of}
use Rattle.rx_graph.specs.Graph.{type_of}
use Rattle.rx_draft.specs.Drafts.{StandsForSound}
use Rattle.message_trials.proofs.puts.put_number.Goals as goal

is_scalar : (t : Option Domain) (n : ℕ) → Some n ≡ option_map size_of t → IsSome t
is_scalar None n e = absurd (let no : Some n ≡ None = e in cc)
is_scalar (Some t) n e = refl

pub put_number-requires : goal.put_number-requires
put_number-requires c = λ domains m stands.
    let s = subst (λ p. StandsForSound domains m p) c.requires stands in
    is_scalar (type_of domains m c.args.field) _ (sym c.in-Some.is ∙ c.scalar_size.ensures domains m s.stands)
