-- The types and the messages of a specification that was elaborated.
use Rattle.std.proofs.Common.{◌≡◌, List, [], ◌∷◌, None, Some, map, refl, sym, ap, subst, ◌∙◌}
use Rattle.std.specs.Prelude.{slice_get}
use Rattle.std.specs.List.{AllByRecursion}
use Rattle.rx_types.specs.Domain.{Domain, domain_of, boolean}
use Rattle.rx_graph.specs.declared.spec.Scalar as code
use Rattle.rx_graph.specs.declared.spec.Spec.{Spec}
use Rattle.rx_graph.specs.declared.message.Message.{Message}
use Rattle.rx_graph.specs.Graph.{Graph, graph_of, spec_of, named_domain_of, domains_of}
use Rattle.rx_spec.specs.Laws.{domains_in}

same_in : (xs : List code.Scalar) → map (λ x. x.domain) (map named_domain_of xs) ≡ map (λ x. domain_of x.kind) xs
same_in [] = refl
same_in (x ∷ xs) = ap (λ l. domain_of x.kind ∷ l) (same_in xs)

-- the types of a specification, of its code and of its meaning
pub domains_same : (s : Spec) → domains_in (spec_of s) ≡ domains_of s
domains_same s = same_in s.scalars.items

-- the first type is that one
pub first_same : (ds : List Domain) → slice_get ds 0 ≡ Some boolean → (d : Domain) → slice_get ds 0 ≡ Some d → d ≡ boolean
first_same ds first d is = (let same : Some d ≡ Some boolean = sym is ∙ first in cc)

-- what all messages have, the first one has
pub first_has : (P : Graph → Type 0) (ms : List Message) (m : Message) → Some m ≡ slice_get ms 0 → AllByRecursion P (map graph_of ms) → P (graph_of m)
first_has P [] m is all = absurd (let no : Some m ≡ None = is in cc)
first_has P (x ∷ ms) m is all = (let first : Some x ≡ Some m = sym is in let same : x ≡ m = cc in subst (λ y. P (graph_of y)) same all.0)
