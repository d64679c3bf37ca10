-- Without a cycle the fields of a path are distinct, so there are at most as many as the message has.
use Rattle.std.proofs.Common.{◌≡◌, ℕ, ◌<◌, ◌≤◌, Bool, true, false, List, [], ◌∷◌, ◌++◌, length, refl, sym, ap, ◌∙◌, subst, arith}
use Rattle.std.specs.Prelude.{◌==◌, ◌||◌, eqb}
use Rattle.std.specs.List.{AllByRecursion, IsDistinct, list_any}
use Rattle.std.proofs.lemmas.Bool.Decides.{Decides-eqb}
use Rattle.std.proofs.lemmas.Map.Keys.{IsDistinct-cons}
use Rattle.std.proofs.lemmas.Map.Steps.{length-le_from_distinct_below}
use Rattle.rx_types.specs.Domain.{Domain}
use Rattle.rx_types.specs.Environment.{Placed, fields_of}
use Rattle.rx_graph.specs.declared.message.Node.{Node}
use Rattle.rx_graph.specs.declared.message.Node.TheVariants.{Start, At}
use Rattle.rx_graph.specs.Graph.{Arrow, Graph}
use Rattle.rx_graph.specs.Paths.{Leads}
use Rattle.rx_graph.specs.Cycles.{IsPath, HasNoCycle, TargetsAreFields, IsLink}

length_fields : (ps : List Placed) → length (fields_of ps) ≡ length ps
length_fields [] = refl
length_fields (p ∷ ps) = omega (arith, length_fields ps)

clash : false ≡ true → ⊥
clash h = cc

pub not_true : (b : Bool) → (b ≡ true → ⊥) → b ≡ false
not_true true h = absurd (h refl)
not_true false h = refl

below_if : (b : Bool) (q g n : ℕ) (xs : List ℕ) → (b ≡ true → q ≡ g) → g < n → (list_any (eqb q) xs ≡ true → q < n) → (b || list_any (eqb q) xs) ≡ true → q < n
below_if true q g n xs same lt rest t = let e = same refl in omega (arith, lt)
below_if false q g n xs same lt rest t = rest t

pub members_below : (n : ℕ) (xs : List ℕ) → AllByRecursion (λ g. g < n) xs → (q : ℕ) → list_any (eqb q) xs ≡ true → q < n
members_below n [] h q t = absurd (clash t)
members_below n (g ∷ xs) h q t = below_if (eqb q g) q g n xs (Decides-eqb q g).0 h.0 (members_below n xs h.1 q) t

pub nothing : IsDistinct eqb []
unfolding IsDistinct
nothing = tt

module _ (domains : List Domain) (m : Graph) (total : ℕ) where
  step : (i : ℕ) (link : Arrow) (f : ℕ) (path : List ℕ) (end : Node) → IsPath m (At f) path end → link.target ≡ At f → IsPath m link.target path end
  step i link f path end h e = subst (λ n. IsPath m n path end) (sym e) h

  -- no field of a path that goes on from field f is f
  apart : HasNoCycle m → (f : ℕ) (before : List Placed) (at : Node) (path : List ℕ) (fields : List Placed) (end : Node) → ((j : ℕ) (link : Arrow) → IsLink m j link → link.source ≡ at → (rest : List ℕ) → IsPath m link.target rest (At f) → ⊥) → Leads domains m total before at path fields end → AllByRecursion (λ g. f == g ≡ false) (fields_of fields)
  apart none f before at [] [] end back h = tt
  apart none f before at [] (p ∷ fields) end back h = absurd h
  apart none f before at (k ∷ path) [] end back h = absurd h
  apart none f before at (k ∷ path) (p ∷ fields) end back h =
      (not_true (f == p.field) (λ t. back k h.0 h.1 h.2 [] (h.3.target ∙ ap At (sym ((Decides-eqb f p.field).0 t)))), apart none f (before ++ p ∷ []) (At p.field) path fields end (λ j link is source rest back'. back k h.0 h.1 h.2 (j ∷ rest) (subst (λ n. IsPath m n (j ∷ rest) (At f)) (sym h.3.target) (link, is, source, back'))) h.4)

  pub distinct : HasNoCycle m → (before : List Placed) (at : Node) (path : List ℕ) (fields : List Placed) (end : Node) → Leads domains m total before at path fields end → IsDistinct eqb (fields_of fields)
  distinct none before at [] [] end h = nothing
  distinct none before at [] (p ∷ fields) end h = absurd h
  distinct none before at (k ∷ path) [] end h = absurd h
  distinct none before at (k ∷ path) (p ∷ fields) end h =
      IsDistinct-cons eqb p.field (fields_of fields) (apart none p.field (before ++ p ∷ []) (At p.field) path fields end (λ j link is source rest back. none (At p.field) j rest (link, is, source, back)) h.4) (distinct none (before ++ p ∷ []) (At p.field) path fields end h.4)

  in_range : TargetsAreFields m → (before : List Placed) (at : Node) (path : List ℕ) (fields : List Placed) (end : Node) → Leads domains m total before at path fields end → AllByRecursion (λ g. g < length m.fields) (fields_of fields)
  in_range targets before at [] [] end h = tt
  in_range targets before at [] (p ∷ fields) end h = absurd h
  in_range targets before at (k ∷ path) [] end h = absurd h
  in_range targets before at (k ∷ path) (p ∷ fields) end h = (targets k h.0 p.field h.1 h.3.target, in_range targets (before ++ p ∷ []) (At p.field) path fields end h.4)

  -- a path has at most as many fields as the message
  pub at_most : HasNoCycle m → TargetsAreFields m → (path : List ℕ) (fields : List Placed) (end : Node) → Leads domains m total [] Start path fields end → length fields ≤ length m.fields
  at_most none targets path fields end h =
      omega (arith, length_fields fields, length-le_from_distinct_below (fields_of fields) (length m.fields) (distinct none [] Start path fields end h) (members_below (length m.fields) (fields_of fields) (in_range targets [] Start path fields end h)))
