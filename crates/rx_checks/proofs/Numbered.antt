-- The numbers of the scalars of a path: how many they are, how small, and that they are those of evidence.
use Rattle.std.proofs.Common.{◌≡◌, refl, sym, ap, subst, ◌∙◌, ℕ, zero, suc, ◌+◌, ◌<◌, ◌≤◌, ◌^◌, arith, List, [], ◌∷◌, ◌++◌, length, take, drop, get_or, ℤ, pos, Option, Some, None}
use Rattle.std.specs.Prelude.{slice_get, slice_index_or, true, false}
use Rattle.std.proofs.Math.Pow.{pow_mono}
use Rattle.std.specs.List.{AllByRecursion}
use Rattle.std.proofs.lemmas.List.{length-take}
use Rattle.rx_types.specs.declared.scalar.FieldType.{FieldType}
use Rattle.rx_types.specs.declared.scalar.FieldType.TheVariants.{Scalar, Opaque, Sequence}
use Rattle.rx_types.specs.declared.scalar.Literal.{Literal}
use Rattle.rx_types.specs.Domain.{Domain, Integer, Enumeration, IsProper, IsNumberOf}
use Rattle.rx_types.specs.Environment.{Placed}
use Rattle.rx_graph.specs.declared.message.Field as field
use Rattle.rx_graph.specs.declared.message.Node.{Node}
use Rattle.rx_graph.specs.declared.message.Node.TheVariants.{Start, At}
use Rattle.rx_graph.specs.Graph.{Arrow, Graph, type_of, scalar_of}
use Rattle.rx_graph.specs.Elaborated.{IsElaborated, IsFieldType}
use Rattle.rx_graph.specs.Paths.{Leads, HasNumber}
use Rattle.rx_forms.specs.Points
use Rattle.rx_forms.specs.Points.{number_if}
use Rattle.rx_forms.specs.Steps
use Rattle.rx_forms.specs.Steps.{link_then, target_field, scalars_in}
use Rattle.rx_forms.proofs.Carrying.{numbers_length}
use Rattle.rx_forms.proofs.Looping.{next_link, scalars_append, found_link, lost_link}
use Rattle.rx_layout.specs.declared.goal.Goal.{Goal}
use Rattle.rx_layout.specs.Goals.{source, MetBy}
use Rattle.rx_layout.specs.Laws
use Rattle.rx_checks.specs.declared.verdict.Evidence.{Evidence}
use Rattle.rx_checks.specs.declared.verdict.Evidence.TheVariants.{Proofs, Found}
use Rattle.rx_checks.specs.Told.{IsEvidence, IsNatural, TellsNumbers}
use Rattle.rx_checks.proofs.Judged.{all_append}

-- ---- how small the numbers are

same_some : {X : Type 0} (a b : X) → Some a ≡ Some b → a ≡ b
same_some a b h = cc

below_64 : (n size : ℕ) → n < 2 ^ size → size < 64 → n < 2 ^ 64
below_64 n size lt few = let most : 2 ^ size ≤ 2 ^ 64 = pow_mono {i = size} {j = 64} (omega arith) in omega arith

literal_below : (literals : List Literal) (size k : ℕ) (d : Literal) → k < length literals → slice_index_or literals k d ≡ d → AllByRecursion (λ l. l.number < 2 ^ size) literals → d.number < 2 ^ size
literal_below [] size k d l e all = absurd (omega arith)
literal_below (x ∷ xs) size zero d l e all = subst (λ (y : Literal). y.number < 2 ^ size) e all.0
literal_below (x ∷ xs) size (suc k) d l e all = literal_below xs size k d (omega arith) e all.1

number_small : (t : Domain) (n : ℕ) → IsProper t → IsNumberOf t n → n < 2 ^ 64
number_small (Integer first last size) n p h = below_64 n size (omega (arith, h.1, p.3)) p.1
number_small (Enumeration literals size true) n p h = below_64 n size h p.1
number_small (Enumeration literals size false) n p h = below_64 n size (subst (λ k. k < 2 ^ size) h.2 (literal_below literals size h.1.0 h.0 h.1.1 h.1.2 p.2.below)) p.1

module _ (domains : List Domain) (m : Graph) where
  typed_proper : (k : FieldType) (t : Domain) → IsFieldType domains m k → (elim k [ Scalar i ↦ slice_get domains i | Opaque ↦ None | Sequence i ↦ None ]) ≡ Some t → IsProper t
  typed_proper (Scalar i) t h e = subst IsProper (same_some h.0 t (sym h.1 ∙ e)) h.2
  typed_proper Opaque t h e = absurd (cc)
  typed_proper (Sequence i) t h e = absurd (cc)

  field_proper : IsElaborated domains m → (f : ℕ) (o : Option field.Field) (t : Domain) → slice_get m.fields f ≡ o → scalar_of domains o ≡ Some t → IsProper t
  field_proper el f None t is e = absurd (cc)
  field_proper el f (Some x) t is e = typed_proper x.kind t (el.fields f x is).kind e

  number_natural : (o : Option Domain) (n : ℕ) → ((t : Domain) → o ≡ Some t → IsProper t) → HasNumber o n → AllByRecursion (IsNatural (2 ^ 64)) (number_if o n)
  number_natural None n p h = tt
  number_natural (Some t) n p h = ((n, refl, number_small t n (p t refl) h), tt)

  pub numbers_natural : IsElaborated domains m → (total : ℕ) (before : List Placed) (at : Node) (path : List ℕ) (fields : List Placed) (end : Node) → Leads domains m total before at path fields end → AllByRecursion (IsNatural (2 ^ 64)) (Points.numbers_of domains m fields)
  numbers_natural el total before at [] [] end h = tt
  numbers_natural el total before at [] (p ∷ fields) end h = absurd h
  numbers_natural el total before at (i ∷ path) [] end h = absurd h
  numbers_natural el total before at (i ∷ path) (p ∷ fields) end h =
      all_append (IsNatural (2 ^ 64)) (number_if (type_of domains m p.field) p.number) (Points.numbers_of domains m fields)
      (number_natural (type_of domains m p.field) p.number (λ t e. field_proper el p.field (slice_get m.fields p.field) t refl e) h.3.number)
      (numbers_natural el total (before ++ p ∷ []) (At p.field) path fields end h.4)

  -- what is left of a path behind an index
  pub scalars_next : (path : List ℕ) (k : ℕ) → k < length path → Steps.scalars_on domains m (Steps.links_on domains m (drop k path)) ≡ Steps.scalars_on domains m (Steps.links_on domains m (get_or path k 0 ∷ [])) + Steps.scalars_on domains m (Steps.links_on domains m (drop (k + 1) path))
  scalars_next path k h =
      ap (λ (ls : List Arrow). Steps.scalars_on domains m ls) (next_link domains m path k h)
      ∙ scalars_append domains m (Steps.links_on domains m (get_or path k 0 ∷ [])) (Steps.links_on domains m (drop (k + 1) path))

  pub one_scalar : (i : ℕ) (l : Arrow) (f n : ℕ) → slice_get m.links i ≡ Some l → f ≡ target_field l.target → n ≡ scalars_in (type_of domains m f) → n ≡ Steps.scalars_on domains m (Steps.links_on domains m (i ∷ []))
  one_scalar i l f n e g h =
      let a = ap (λ (ls : List Arrow). Steps.scalars_on domains m ls) (found_link domains m i l e) in
      let b = ap (λ (x : ℕ). scalars_in (type_of domains m x)) g in
      omega (arith, h, a, b)

  pub no_scalar : (i : ℕ) → slice_get m.links i ≡ None → 0 ≡ Steps.scalars_on domains m (Steps.links_on domains m (i ∷ []))
  no_scalar i e = sym (ap (λ (ls : List Arrow). Steps.scalars_on domains m ls) (lost_link domains m i e))

  -- ---- the front of a point

  -- the first number of a point is a length, and so many behind it are the numbers of the scalars
  pub record IsFront (goal : Goal) (path : List ℕ) (point : List ℤ) (count : ℕ) : Type 0 where
    pub total : ℕ
    pub fields : List Placed
    pub met : MetBy domains m goal total path fields
    pub long : count < length point
    pub first : get_or point 0 (pos 0) ≡ pos total
    pub numbers : take count (drop 1 point) ≡ Points.numbers_of domains m fields

  heads : (a b : ℤ) (xs ys : List ℤ) → a ∷ xs ≡ b ∷ ys → a ≡ b
  heads a b xs ys e = cc

  tails : (a b : ℤ) (xs ys : List ℤ) → a ∷ xs ≡ b ∷ ys → xs ≡ ys
  tails a b xs ys e = cc

  one_more : (z : ℤ) (zs : List ℤ) → length (z ∷ zs) ≡ suc (length zs)
  one_more z zs = omega arith

  cut_parts : (total count : ℕ) (ns point : List ℤ) → count ≡ length ns → take (length (pos total ∷ ns)) point ≡ pos total ∷ ns → (count < length point) × (get_or point 0 (pos 0) ≡ pos total) × (take count (drop 1 point) ≡ ns)
  cut_parts total count ns [] e t =
      let a = ap (λ (zs : List ℤ). length zs) t in
      let nothing : List ℤ = [] in
      absurd (omega (arith, a, length-take (length (pos total ∷ ns)) nothing))
  cut_parts total count ns (z ∷ xs) e t =
      let u : z ∷ take (length ns) xs ≡ pos total ∷ ns = sym (ap (λ (k : ℕ). take k (z ∷ xs)) (one_more (pos total) ns)) ∙ t in
      let v = tails z (pos total) (take (length ns) xs) ns u in
      let l = ap (λ (zs : List ℤ). length zs) v in (
        omega (arith, l, length-take (length ns) xs, e),
        heads z (pos total) (take (length ns) xs) ns u,
        ap (λ (k : ℕ). take k xs) e ∙ v,
      )

  pub front_of : (goal : Goal) (path : List ℕ) (point : List ℤ) (count : ℕ) → Laws.Meets domains m goal path point → count ≡ Steps.scalars_on domains m (Steps.links_on domains m path) → IsFront goal path point count
  front_of goal path point count h c =
      let numbers = Points.numbers_of domains m h.1 in
      let l = numbers_length domains m h.0 [] Start path h.1 (source goal) h.2.partial.leads in
      let parts = cut_parts h.0 count numbers point (c ∙ sym l) h.3 in
      record { total = h.0; fields = h.1; met = h.2; long = parts.0; first = parts.1; numbers = parts.2 }

  pub front_total : (goal : Goal) (path : List ℕ) (point : List ℤ) (count : ℕ) → IsFront goal path point count → IsNatural (2 ^ 24) (get_or point 0 (pos 0))
  front_total goal path point count f = (f.total, f.first, f.met.partial.short)

  pub front_numbers : IsElaborated domains m → (goal : Goal) (path : List ℕ) (point : List ℤ) (count : ℕ) → IsFront goal path point count → AllByRecursion (IsNatural (2 ^ 64)) (take count (drop 1 point))
  front_numbers el goal path point count f =
      subst (λ (zs : List ℤ). AllByRecursion (IsNatural (2 ^ 64)) zs) (sym f.numbers) (numbers_natural el f.total [] Start path f.fields (source goal) f.met.partial.leads)

  same_pos : (a b : ℕ) → pos a ≡ pos b → a ≡ b
  same_pos a b e = cc

  pub front_evidence : (goal : Goal) (path : List ℕ) (point : List ℤ) (count : ℕ) (e : Evidence) → IsFront goal path point count → TellsNumbers path (get_or point 0 (pos 0)) (take count (drop 1 point)) e → IsEvidence domains m goal path e
  front_evidence goal path point count (Proofs proofs) f h = h
  front_evidence goal path point count (Found p n ns) f h = (
    h.0,
    record { fields = f.fields; met = subst (λ (k : ℕ). MetBy domains m goal k path f.fields) (same_pos f.total n (sym (h.1 ∙ f.first))) f.met; numbers_are = sym (h.2 ∙ f.numbers) },
  )
