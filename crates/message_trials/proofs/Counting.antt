-- The links of a node, counted.
use Rattle.std.proofs.Common.{◌≡◌, ℕ, zero, suc, ◌+◌, ◌<◌, Bool, true, false, List, [], ◌∷◌, length, take, get_or, sym, ap, ◌∙◌, subst, arith}
use Rattle.std.specs.Prelude.{slice_get, Option, Some, None, IfSome, count_by}
use Rattle.std.proofs.lemmas.List.Sums.{count_by_more_yes, count_by_more_no}
use Rattle.std.proofs.Math.Dec.{ltb}
use Rattle.std.proofs.lemmas.Bool.Decides.{Decides-ltb}
use Rattle.std.proofs.lemmas.Option.{get_or_from_slice_get}
use Rattle.rx_graph.specs.declared.message.Node.{Node}
use Rattle.rx_graph.specs.declared.message.Link.{Link}
use Rattle.rx_types.specs.Environment.{Environment}
use Rattle.rx_graph.specs.Graph.{Arrow, Graph, arrow_of, arrows}
use Rattle.rx_graph.specs.Checks.{is_node, IsNumbered}
use Rattle.rx_graph.specs.Paths.{IsTrue}
use Rattle.rx_graph.proofs.Ways.{length-arrows}

-- the links of the node before a place
abbrev pub count_before : List Link → Node → ℕ → ℕ
count_before links node i = count_by (λ (l : Arrow). is_node node l.source) (take i (arrows links))

pub arrow_at : (links : List Link) (i : ℕ) (link : Link) → i < length links → link ≡ get_or links i link → slice_get (arrows links) i ≡ Some (arrow_of link)
arrow_at [] i link h is = absurd (omega (arith, h))
arrow_at (l ∷ links) zero link h is = ap (λ x. Some (arrow_of x)) (sym is)
arrow_at (l ∷ links) (suc i) link h is = arrow_at links i link (omega (arith, h)) is

module _ (links : List Link) (node : Node) (i : ℕ) (link : Link) (within : i < length links) (is : link ≡ get_or links i link) where
  here : is_node node (get_or (arrows links) i (arrow_of link)).source ≡ is_node node link.source
  here = ap (λ (l : Arrow). is_node node l.source) (get_or_from_slice_get (arrows links) i (arrow_of link) (arrow_of link) (arrow_at links i link within is))

  inside : i < length (arrows links)
  inside = omega (arith, length-arrows links, within)

  pub one_more : (b : Bool) → b ≡ is_node node link.source → b ≡ true → (count : ℕ) → count ≡ count_before links node i → count + 1 ≡ count_before links node (i + 1)
  one_more b same t count counted =
      ap (λ n. n + 1) counted ∙ sym (count_by_more_yes (λ (l : Arrow). is_node node l.source) (arrows links) i (arrow_of link) inside (here ∙ sym same ∙ t))

  pub no_more : (b : Bool) → b ≡ is_node node link.source → b ≡ false → (count : ℕ) → count ≡ count_before links node i → count ≡ count_before links node (i + 1)
  no_more b same t count counted =
      counted ∙ sym (count_by_more_no (λ (l : Arrow). is_node node l.source) (arrows links) i (arrow_of link) inside (here ∙ sym same ∙ t))

pub arrow_of_items : (links items : List Link) (i : ℕ) (link : Link) → items ≡ links → true ≡ ltb i (length items) → link ≡ get_or items i link → slice_get (arrows links) i ≡ Some (arrow_of link)
arrow_of_items links items i link same within is = ap (λ ls. slice_get (arrows ls) i) (sym same) ∙ arrow_at items i link ((Decides-ltb i (length items)).0 (sym within)) is

-- the link that is counted last has its count as its number
pub numbered : (m : Graph) (links items : List Link) (node : Node) (number i count : ℕ) (link : Link) → m.links ≡ arrows links → links ≡ items → i < length items → link ≡ get_or items i link → node ≡ link.source → count ≡ count_before links node i → count + 1 ≡ number → IsNumbered m node number i (arrow_of link)
numbered m links items node number i count link of same within is source counted told =
    record {
      is = ap (λ ls. slice_get ls i) (of ∙ ap arrows same) ∙ arrow_at items i link within is;
      source = sym source;
      number = sym told ∙ ap (λ n. n + 1) (counted ∙ ap (λ ls. count_by (λ (l : Arrow). is_node node l.source) (take i ls)) (sym of));
    }

pub if_numbered : (m : Graph) (node : Node) (number i : ℕ) (link : Link) (e : Environment) → IsNumbered m node number i (arrow_of link) → {A : Type 0} (now : A → Link) (o : Option A) → IfSome o (λ l. (now l ≡ link) × IsTrue (arrow_of link) e) → IfSome o (λ l. (i : ℕ) × IsNumbered m node number i (arrow_of (now l)) × IsTrue (arrow_of (now l)) e)
if_numbered m node number i link e is now None h = tt
if_numbered m node number i link e is now (Some l) h =
    (i, subst (λ x. IsNumbered m node number i (arrow_of x)) (sym h.0) is, subst (λ x. IsTrue (arrow_of x) e) (sym h.0) h.1)
