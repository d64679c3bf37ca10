-- The valuation of the fields with ids below n, where n is one more.
use Rattle.std.proofs.Common.{◌≡◌, ◌≢◌, ◌∙◌, ℕ, ◌+◌, ◌<◌, Bool, true, false, List, [], Option, Some, None, refl, sym, ap, subst, arith}
use Rattle.std.specs.Prelude.{◌==◌}
use Rattle.std.proofs.lemmas.Bool.Decides.{Decides-eqb}
use Rattle.rx_types.specs.Domain.{Domain}
use Rattle.rx_types.specs.Environment.{Placed, IsAmong}
use Rattle.rx_graph.specs.Graph.{Graph}
use Rattle.rx_graph.specs.Fits.{Content, Assigned, content_of}
use Rattle.rx_values.specs.Valuation.{inserted}
use Rattle.rx_values.proofs.Ascending.{ascending_inserted}
use Rattle.rx_decode.specs.Gathered.{there_at, IsGathered}
use Rattle.rx_decode.proofs.Contents.{clash, none_some, put_here, put_past}

module _ (domains : List Domain) (m : Graph) (bytes : List ℕ) (fields : List Placed) where
  abbrev Is : ℕ → List Assigned → Type 0
  Is n values = IsGathered domains m bytes fields n values

  pub nothing : Is 0 []
  nothing = record { ascending = tt; there = λ f h among. absurd (omega (arith, h)); only = λ f c e. absurd (none_some c e) }

  module _ (n : ℕ) (values : List Assigned) (g : Is n values) where
    none_if : (o : Option Content) → content_of n values ≡ o → content_of n values ≡ None
    none_if None e = e
    none_if (Some c) e = absurd (let k = g.only n c e in let lt : n < n = k.0 in omega (arith, lt))

    pub fresh : content_of n values ≡ None
    fresh = none_if (content_of n values) refl

    module _ (c : Content) (among : IsAmong n fields) (is : c ≡ there_at domains m bytes fields n) where
      there_if : (f : ℕ) → f < n + 1 → IsAmong f fields → (b : Bool) → (n == f) ≡ b → content_of f (inserted n c values) ≡ Some (there_at domains m bytes fields f)
      there_if f lt h true t =
          let e : n ≡ f = (Decides-eqb n f).0 t in
          ap (λ k. content_of k (inserted n c values)) (sym e) ∙ put_here values n c fresh ∙ ap (λ x. Some x) is ∙ ap (λ k. Some (there_at domains m bytes fields k)) e
      there_if f lt h false t =
          let apart : n ≢ f = λ e. clash (sym ((Decides-eqb n f).1 e) ∙ t) in
          let below : f < n = grind (arith, lt, apart) in
          put_past values n c f apart ∙ g.there f below h

      only_if : (f : ℕ) (d : Content) → content_of f (inserted n c values) ≡ Some d → (b : Bool) → (n == f) ≡ b → (f < n + 1) × IsAmong f fields
      only_if f d h true t =
          let e : n ≡ f = (Decides-eqb n f).0 t in
          (omega (arith, e), subst (λ k. IsAmong k fields) e among)
      only_if f d h false t =
          let apart : n ≢ f = λ e. clash (sym ((Decides-eqb n f).1 e) ∙ t) in
          let k = g.only f d (sym (put_past values n c f apart) ∙ h) in
          let lt : f < n = k.0 in
          (omega (arith, lt), k.1)

      -- the field of id n is present
      pub more : Is (n + 1) (inserted n c values)
      more =
          record {
            ascending = ascending_inserted values n c g.ascending fresh;
            there = λ f lt h. there_if f lt h (n == f) refl;
            only = λ f d h. only_if f d h (n == f) refl;
          }

    -- it is absent
    pub skipped : (IsAmong n fields → ⊥) → Is (n + 1) values
    skipped absent =
        record {
          ascending = g.ascending;
          there = λ f lt h. (let apart : n ≢ f = λ e. absent (subst (λ k. IsAmong k fields) (sym e) h) in
              let below : f < n = grind (arith, lt, apart) in
              g.there f below h);
          only = λ f c e. (let k = g.only f c e in let lt : f < n = k.0 in (omega (arith, lt), k.1));
        }
