-- A buffer is one thing at the most.
use Rattle.std.proofs.Common.{◌≡◌, ℕ, List, [], ◌∷◌, length, Option, Some, None, IsSome, refl, sym, ap, ◌∙◌, subst, inl, inr}
use Rattle.std.specs.List.{AllByRecursion}
use Rattle.rx_types.specs.declared.stuck.Stuck.{Stuck}
use Rattle.rx_types.specs.Domain.{Domain}
use Rattle.rx_types.specs.Environment.{Placed, IsAmong}
use Rattle.rx_graph.specs.Graph.{Graph, type_of}
use Rattle.rx_graph.specs.Paths.{Exclusive, IsReadBy}
use Rattle.rx_graph.specs.Fits.{Content, Number, Assigned, IsAscending, content_of, content_at, by_buffer, number_or_zero, IsContent, ReadsAs, Reads}
use Rattle.rx_graph.proofs.OneReason.{one_reason}
use Rattle.rx_graph.proofs.Unique.{one_path}
use Rattle.rx_values.specs.Printing.{json_text}
use Rattle.rx_decode.specs.declared.decoding.Decoded.{Decoded}
use Rattle.rx_decode.specs.declared.decoding.Decoded.TheVariants.{Json, Refused}
use Rattle.rx_decode.specs.Decoded.{IsJson, IsDecoded, IsSame, HasOneAnswer}
use Rattle.rx_decode.proofs.Contents.{none_some, same_values}

module _ (domains : List Domain) (m : Graph) (bytes : List ℕ) where
  abbrev HaveContents : List Assigned → List Placed → Type 0
  HaveContents values fields = AllByRecursion (λ p. content_of p.field values ≡ Some (content_at m.low_order (type_of domains m p.field) bytes p)) fields

  number_of : (o : Option Domain) (t : Domain) (p : Placed) (given : Option Content) → o ≡ Some t → IsContent o p given → given ≡ Some (content_at m.low_order o bytes p) → p.number ≡ by_buffer m.low_order bytes p.field p.first p.size
  number_of o t p given e h k =
      let number : given ≡ Some (Number p.number) = let q : IsContent (Some t) p given = subst (λ x. IsContent x p given) e h in q in
      let there : given ≡ Some (content_at m.low_order (Some t) bytes p) = k ∙ ap (λ x. Some (content_at m.low_order x bytes p)) e in
      ap number_or_zero (sym number ∙ there)

  are_read : (values : List Assigned) (fields : List Placed) → AllByRecursion (λ p. IsContent (type_of domains m p.field) p (content_of p.field values)) fields → HaveContents values fields → AllByRecursion (IsReadBy domains m (by_buffer m.low_order bytes)) fields
  are_read values [] h k = tt
  are_read values (p ∷ fields) h k = (λ t e. number_of (type_of domains m p.field) t p (content_of p.field values) e h.0 k.0, are_read values fields h.1 k.1)

  -- a buffer that reads as a valuation has a path
  pub reads_path : (values : List Assigned) → (r : ReadsAs domains m bytes values) → Reads domains m bytes r.fields
  reads_path values r = (r.path, r.fits.whole, are_read values r.fields r.fits.contents r.contents)

  same_contents : (one other : List Assigned) (fields : List Placed) → HaveContents one fields → HaveContents other fields → (f : ℕ) → IsAmong f fields → content_of f one ≡ content_of f other
  same_contents one other [] h k f among = absurd among
  same_contents one other (p ∷ fields) h k f (inl e) = ap (λ g. content_of g one) (sym e) ∙ h.0 ∙ sym k.0 ∙ ap (λ g. content_of g other) e
  same_contents one other (p ∷ fields) h k f (inr among) = same_contents one other fields h.1 k.1 f among

  is_some : (o : Option Content) (c : Content) → o ≡ Some c → IsSome o
  is_some None c e = absurd (none_some c e)
  is_some (Some x) c e = refl

  say_same : (one other : List Assigned) (fields : List Placed) → ((f : ℕ) → IsSome (content_of f one) → IsAmong f fields) → ((f : ℕ) → IsSome (content_of f other) → IsAmong f fields) → HaveContents one fields → HaveContents other fields → (f : ℕ) (a b : Option Content) → content_of f one ≡ a → content_of f other ≡ b → content_of f one ≡ content_of f other
  say_same one other fields n k h l f None None a b = a ∙ sym b
  say_same one other fields n k h l f (Some x) b e g = same_contents one other fields h l f (n f (is_some (content_of f one) x e))
  say_same one other fields n k h l f None (Some y) e g = same_contents one other fields h l f (k f (is_some (content_of f other) y g))

  -- a buffer reads as one valuation
  pub one_valuation : Exclusive domains m → (one other : List Assigned) → IsAscending one → IsAscending other → ReadsAs domains m bytes one → ReadsAs domains m bytes other → one ≡ other
  one_valuation exclusive one other h k r s =
      let read = are_read one r.fields r.fits.contents r.contents in
      let also = are_read other s.fields s.fits.contents s.contents in
      let fields : r.fields ≡ s.fields = (one_path domains m exclusive (by_buffer m.low_order bytes) (length bytes) r.path s.path r.fields s.fields r.fits.whole s.fits.whole read also).1 in
      let named : (f : ℕ) → IsSome (content_of f other) → IsAmong f r.fields = λ f e. subst (λ l. IsAmong f l) (sym fields) ((s.fits.named f).0 e) in
      let there = subst (λ l. HaveContents other l) (sym fields) s.contents in
      same_values one other h k (λ f. say_same one other r.fields (λ g. (r.fits.named g).0) named r.contents there f (content_of f one) (content_of f other) refl refl)

  one_text : Exclusive domains m → (one other : List ℕ) → IsJson domains m bytes one → IsJson domains m bytes other → one ≡ other
  one_text exclusive one other j k = j.text ∙ ap (json_text domains m) (one_valuation exclusive j.values k.values j.ascending k.ascending j.reads k.reads) ∙ sym k.text

  same_answer : Exclusive domains m → (one other : Decoded) → IsDecoded domains m bytes one → IsDecoded domains m bytes other → IsSame one other
  same_answer exclusive (Json one) (Json other) j k = one_text exclusive one.items other.items j k
  same_answer exclusive (Json one) (Refused other) j k = k.0 j.reads.fields (reads_path j.values j.reads)
  same_answer exclusive (Refused one) (Json other) j k = j.0 k.reads.fields (reads_path k.values k.reads)
  same_answer exclusive (Refused one) (Refused other) j k =
      let same = one_reason domains m (by_buffer m.low_order bytes) exclusive (length bytes) one.reason other.reason one.field other.field j.1 k.1 in
      ap (λ r. let x : Stuck = record { reason = r; field = one.field } in x) same.0 ∙ ap (λ f. let x : Stuck = record { reason = other.reason; field = f } in x) same.1

pub one_answer : (domains : List Domain) (m : Graph) → Exclusive domains m → HasOneAnswer domains m
one_answer domains m exclusive bytes one other j k = same_answer domains m bytes exclusive one other j k
