use Rattle.std.proofs.Common.{◌≡◌, Option, None, Some, refl, sym, subst, ◌∙◌}
use Rattle.std.specs.Prelude.{option_map}
use Rattle.rx_types.specs.Domain.{Domain, size_of}
use Rattle.rx_graph.specs.Graph.{type_of}
use Rattle.rx_draft.specs.Drafts.{StandsForSound}
use Rattle.message_trials.proofs.puts.put_bytes.Goals as goal

is_opaque : (t : Option Domain) → None ≡ option_map size_of t → t ≡ None
is_opaque None e = refl
is_opaque (Some t) e = absurd (let no : None ≡ Some (size_of t) = e in cc)

pub put_bytes-requires : goal.put_bytes-requires
put_bytes-requires c = λ domains m stands.
    let s = subst (λ p. StandsForSound domains m p) c.requires stands in
    is_opaque (type_of domains m c.args.field) (sym c.in-None.is ∙ c.scalar_size.ensures domains m s.stands)
