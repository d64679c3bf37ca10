-- The links of a null message: one, from the start to null.
use Rattle.std.proofs.Common.{◌≡◌, ◌∙◌, ap, sym, refl, subst, ℕ, zero, suc, ◌≤◌, List, [], ◌∷◌, length, Some, None, Ok, arith}
use Rattle.std.specs.Prelude.{slice_get, true, false}
use Rattle.std.proofs.lemmas.Option.{none-some, same_Some}
use Rattle.rx_syntax.specs.declared.token.Place.{Place}
use Rattle.rx_syntax.specs.declared.tree.Named.{Named}
use Rattle.rx_syntax.specs.declared.tree.HeaderTree.{HeaderTree}
use Rattle.rx_types.specs.Domain.{Domain}
use Rattle.rx_types.specs.Tree.{Truth}
use Rattle.rx_graph.specs.declared.message.Node.{Node}
use Rattle.rx_graph.specs.declared.message.Node.TheVariants.{Start, At, Null}
use Rattle.rx_graph.specs.Cycles.{IsPath, HasNoCycle, HasPathsUpTo}
use Rattle.rx_graph.specs.Elaborated.{IsElaboratedLink}
use Rattle.rx_graph.specs.Graph.{Arrow, Graph}
use Rattle.rx_graph.specs.Onward.{onward}
use Rattle.rx_graph.proofs.Listed.{listed}
use Rattle.rx_judge.specs.Meaning.{◌>>=◌}
use Rattle.rx_judge.specs.Scalar.{spelled}
use Rattle.rx_judge.proofs.Meanings.{bind_ok, ok_same}
use Rattle.rx_spec.specs.Messages.{graph_named, null_body}
use Rattle.rx_spec.proofs.Expressions.{true_good}
use Rattle.rx_spec.proofs.Standing.{LinksStand}

abbrev only_link : Place → Arrow
only_link p = record { source = Start; target = Null; condition = Truth true; first = None; size = None; place = p }

abbrev nothing : List ℕ → List ℕ → Place → Graph
nothing p w place = record { «package» = p; name = w; fields = []; links = only_link place ∷ []; low_order = false }

is_only : (l : Arrow) (i : ℕ) (link : Arrow) → slice_get (l ∷ []) i ≡ Some link → l ≡ link
is_only l zero link h = same_Some l link h
is_only l (suc i) link h = absurd (none-some link h)

start_null : Start ≡ Null → ⊥
start_null h = cc

null_at : (f : ℕ) → Null ≡ At f → ⊥
null_at f h = cc

module _ (p w : List ℕ) (place : Place) where
  abbrev graph : Graph
  graph = nothing p w place

  leads_on : (at : Node) (path : List ℕ) → Start ≡ at → IsPath graph Null path at → ⊥
  leads_on at [] e h = start_null (e ∙ sym h)
  leads_on at (i ∷ path) e h =
      start_null (ap (λ (l : Arrow). l.source) (is_only (only_link place) i h.0 h.1) ∙ h.2)

  none : HasNoCycle graph
  none at i path h =
      let same = is_only (only_link place) i h.0 h.1 in
      leads_on at path (ap (λ (l : Arrow). l.source) same ∙ h.2) (subst (λ (l : Arrow). IsPath graph l.target path at) (sym same) h.3)

  few_of : length (onward graph.links (length graph.links) Null Start) ≤ 4096
  unfolding onward
  few_of = omega arith

  few_paths : HasPathsUpTo graph Null 4096
  few_paths = (onward graph.links (length graph.links) Null Start, listed graph Null none, few_of)

  link_stands : (domains : List Domain) → IsElaboratedLink domains graph (only_link place)
  link_stands domains =
      record {
        source = tt;
        target = tt;
        condition = true_good domains graph;
        few = omega arith;
        first = tt;
        form = tt;
        size = tt;
        placing = λ f h. absurd (null_at f h);
      }

  stands : (domains : List Domain) → LinksStand domains graph
  stands domains =
      record {
        few_fields = omega arith;
        few_links = omega arith;
        few_paths = few_paths;
        links = λ i link is. subst (λ (l : Arrow). IsElaboratedLink domains graph l) (is_only (only_link place) i link is) (link_stands domains);
        begins = (0, only_link place, refl, refl);
        goes_on = λ f h. absurd (omega (arith, h));
        acyclic = none;
      }

-- so the links of every null message stand
pub null_links : (domains : List Domain) (h : HeaderTree) (name : Named) (g : Graph) → graph_named h name (null_body name) false ≡ Ok g → LinksStand domains g
null_links domains h name g e =
    let b = null_body name in
    let c = bind_ok (spelled h.name) (λ (p : List ℕ). spelled name >>= (λ w. Ok (record { «package» = p; name = w; fields = b.fields; links = b.links; low_order = false }))) g e in
    let d = bind_ok (spelled name) (λ (w : List ℕ). Ok (record { «package» = c.0; name = w; fields = b.fields; links = b.links; low_order = false })) g c.2 in
    subst (λ (x : Graph). LinksStand domains x) (ok_same (nothing c.0 d.0 name.place) g d.2) (stands c.0 d.0 name.place domains)
