-- The path limit, as the code asks for it.
--   domains_same                  the scalar types of the code are those that are known
--   limit_keeps, limit_passes     what is answered where the message keeps the limit, and where it passes it
use Rattle.std.proofs.Common.{◌≡◌, ◌∙◌, ap, sym, refl, Bool, true, false, List, [], ◌∷◌, map, Some, Ok, Err}
use Rattle.std.specs.Prelude.{slice_get, if◌then◌else◌}
use Rattle.std.proofs.lemmas.Option.{same_Some}
use Rattle.rx_syntax.specs.declared.tree.Named.{Named}
use Rattle.rx_types.specs.Domain.{Domain, domain_of, boolean}
use Rattle.rx_graph.specs.declared.spec.Scalar as code
use Rattle.rx_graph.specs.Graph.{Graph, domains_in, named_domain_of}
use Rattle.rx_forms.specs.PathLimit.{keeps_limit}
use Rattle.rx_judge.specs.Meaning.{Meaning, refused_at}
use Rattle.rx_syntax.specs.declared.rule.Refusal.{Refusal}
use Rattle.rx_syntax.specs.declared.rule.Rule.TheVariants as rule
use Rattle.rx_elab.specs.Types as known
use Rattle.rx_elab.specs.Types.{types_of}
use Rattle.rx_elab.specs.declared.types.Types.{Types}
use Rattle.rx_spec.specs.Limit.{domains_known, HasBoolean, within_limit}

named : (xs : List code.Scalar) → domains_in xs ≡ map (λ x. x.domain) (map named_domain_of xs)
named [] = refl
named (x ∷ xs) = ap (λ (ds : List Domain). domain_of x.kind ∷ ds) (named xs)

pub domains_same : (t : Types) (xs : List code.Scalar) → xs ≡ t.scalars.items → domains_in xs ≡ domains_known (types_of t)
domains_same t xs e = ap (λ (ys : List code.Scalar). domains_in ys) e ∙ named t.scalars.items

pub boolean_first : (t : Types) (xs : List code.Scalar) (d : Domain) → xs ≡ t.scalars.items → HasBoolean (types_of t) → slice_get (domains_in xs) 0 ≡ Some d → d ≡ boolean
boolean_first t xs d e b h = same_Some d boolean (sym h ∙ ap (λ (ds : List Domain). slice_get ds 0) (domains_same t xs e) ∙ b)

-- ---- the limit, where it is known whether the message keeps it

abbrev ended : Named → Graph → Bool → Meaning Graph
ended name g b = if b then Ok g else refused_at rule.GraphLimit name

pub limit_keeps : (t : known.Types) (name : Named) (g : Graph) (kept : Bool) → kept ≡ keeps_limit (domains_known t) g → kept ≡ true → within_limit t name g ≡ Ok g
unfolding within_limit
limit_keeps t name g kept h k = ap (ended name g) (sym h ∙ k)

pub limit_passes : (t : known.Types) (name : Named) (g : Graph) (kept : Bool) (r : Refusal) → kept ≡ keeps_limit (domains_known t) g → kept ≡ false → r ≡ record { rule = rule.GraphLimit; place = name.place; word = Some name.word } → within_limit t name g ≡ Err r
unfolding within_limit
limit_passes t name g kept r h k e = ap (ended name g) (sym h ∙ k) ∙ ap (λ (x : Refusal). Err x) (sym e)
