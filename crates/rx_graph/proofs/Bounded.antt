-- The fields of a partial path stay within the bounds by which expressions are narrow, and there are at most 128 of them.
use Rattle.std.proofs.Common.{◌≡◌, ℕ, ◌<◌, ◌≤◌, ◌^◌, Bool, true, false, List, [], ◌∷◌, ◌++◌, length, refl, subst, arith}
use Rattle.std.specs.Prelude.{if◌then◌else◌, ◌==◌}
use Rattle.std.specs.List.{AllByRecursion}
use Rattle.std.proofs.lemmas.Int.{ints}
use Rattle.std.proofs.lemmas.Bool.Decides.{Decides-eqb}
use Rattle.rx_types.specs.Domain.{Domain}
use Rattle.rx_types.specs.Environment.{Placed, place_of, in_message}
use Rattle.rx_types.specs.Narrow.{IsBounded, StaysWithin}
use Rattle.rx_graph.specs.declared.message.Node.{Node}
use Rattle.rx_graph.specs.declared.message.Node.TheVariants.{Start, At}
use Rattle.rx_graph.specs.Graph.{Graph, limit_of, type_of}
use Rattle.rx_graph.specs.Paths.{LiesWithin, Leads, IsPartial}
use Rattle.rx_graph.proofs.Distinct.{at_most}
use Rattle.rx_graph.specs.Elaborated.{IsElaborated}
use Rattle.rx_graph.proofs.Facts.{number-le_limit, targets_are_fields}

abbrev Bounds : (ℕ → ℕ) → List Placed → Type 0
Bounds limit fields = AllByRecursion (λ p. IsBounded (limit p.field) p) fields

bounded_within : (total : ℕ) (before : List Placed) (p : Placed) (n : ℕ) → total < 2 ^ 24 → LiesWithin (in_message total before) p.first p.size → p.number ≤ n → IsBounded n p
bounded_within total before p n short w number =
    record {
      first_above = w.begins;
      first_below = omega (arith, ints, w.begins, w.long, w.ends);
      size_above = w.long;
      size_below = omega (arith, ints, w.begins, w.long, w.ends);
      last_below = omega (arith, ints, w.begins, w.long, w.ends);
      number = number;
    }

bounded_if : (limit : ℕ → ℕ) (b : Bool) (p q : Placed) (f : ℕ) → (b ≡ true → p.field ≡ f) → IsBounded (limit p.field) p → IsBounded (limit f) q → IsBounded (limit f) (if b then p else q)
bounded_if limit true p q f same h k = subst (λ x. IsBounded (limit x) p) (same refl) h
bounded_if limit false p q f same h k = k

place_bounded : (limit : ℕ → ℕ) (fields : List Placed) → Bounds limit fields → (f : ℕ) → IsBounded (limit f) (place_of f fields)
place_bounded limit [] h f = record { first_above = omega (arith, ints); first_below = omega (arith, ints); size_above = omega (arith, ints); size_below = omega (arith, ints); last_below = omega (arith, ints); number = omega arith }
place_bounded limit (p ∷ ps) h f = bounded_if limit (p.field == f) p (place_of f ps) f (Decides-eqb p.field f).0 h.0 (place_bounded limit ps h.1 f)

module _ (domains : List Domain) (m : Graph) (e : IsElaborated domains m) (total : ℕ) where
  leads_bounded : total < 2 ^ 24 → (before : List Placed) (at : Node) (path : List ℕ) (fields : List Placed) (end : Node) → Leads domains m total before at path fields end → Bounds (limit_of domains m) fields
  leads_bounded short before at [] [] end h = tt
  leads_bounded short before at [] (p ∷ fields) end h = absurd h
  leads_bounded short before at (i ∷ path) [] end h = absurd h
  leads_bounded short before at (i ∷ path) (p ∷ fields) end h =
      (bounded_within total before p (limit_of domains m p.field) short h.3.within (number-le_limit (type_of domains m p.field) p.number h.3.number), leads_bounded short (before ++ p ∷ []) (At p.field) path fields end h.4)

  -- so expressions can be evaluated there
  pub stays_within : (path : List ℕ) (fields : List Placed) (end : Node) → IsPartial domains m total path fields end → StaysWithin (limit_of domains m) (in_message total fields)
  stays_within path fields end h =
      record { total = h.short; fields = place_bounded (limit_of domains m) fields (leads_bounded h.short [] Start path fields end h.leads) }

  -- a path has at most 128 fields
  pub few_fields : (path : List ℕ) (fields : List Placed) (end : Node) → Leads domains m total [] Start path fields end → length fields ≤ 128
  few_fields path fields end h = omega (arith, e.few_fields, at_most domains m total e.acyclic (targets_are_fields domains m e) path fields end h)
