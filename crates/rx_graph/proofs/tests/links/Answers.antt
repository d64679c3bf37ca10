use Rattle.std.proofs.Common.{◌≡◌, ℕ, ◌<◌, sym, ap, subst, ◌∙◌, [], ◌∷◌, ◌++◌, List, lit<, arith}
use Rattle.std.specs.List.{AllByRecursion}
use Rattle.rx_graph.specs.declared.message.Node.{Node}
use Rattle.rx_graph.specs.declared.message.Node.TheVariants.{Start, At, Null}
use Rattle.rx_graph.specs.declared.message.Link.{Link}
use Rattle.rx_graph.specs.Graph.{Arrow, arrow_of, arrows}
use Rattle.rx_graph.proofs.Ranks.{Rises, no_cycle}
use Rattle.rx_graph.proofs.tests.links.Goals as goal

abbrev rank : Node → ℕ
rank Start = 0
rank (At f) = 1
rank Null = 2

risen : (l : Link) (a b : Node) → l.source ≡ a → l.target ≡ b → rank a < rank b → Rises rank (arrow_of l)
risen l a b e f h = omega (arith, ap rank e, ap rank f, h)

three : (xs ys zs ws : List Link) (a b c : Link) → xs ≡ [] → ys ≡ xs ++ a ∷ [] → zs ≡ ys ++ b ∷ [] → ws ≡ zs ++ c ∷ [] → a ∷ b ∷ c ∷ [] ≡ ws
three xs ys zs ws a b c e f g h = sym (h ∙ ap (λ (l : List Link). l ++ c ∷ []) (g ∙ ap (λ (l : List Link). l ++ b ∷ []) (f ∙ ap (λ (l : List Link). l ++ a ∷ []) e)))

pub returns-clause-acyclic : goal.returns-clause-acyclic
returns-clause-acyclic c =
    λ m e. let a = c.link.result in
    let b = c.link-2.result in
    let d = c.link-3.result in
    let items = three c.new-all.result.items c.push.new.self.items c.push-2.new.self.items c.push-3.new.self.items a b d c.new-all.ensures.items c.in_ok-push.ensures.items c.in_ok-push-2.ensures.items c.in_ok-push-3.ensures.items in
    let up : AllByRecursion (Rises rank) (arrows (a ∷ b ∷ d ∷ [])) = (risen a Start (At 0) c.link.ensures.source c.link.ensures.target (lit< tt), (risen b Start Null c.link-2.ensures.source c.link-2.ensures.target (lit< tt), (risen d (At 0) Null c.link-3.ensures.source c.link-3.ensures.target (lit< tt), tt))) in
    no_cycle m rank (subst (λ (ls : List Arrow). AllByRecursion (Rises rank) ls) (ap arrows items ∙ sym e) up)
