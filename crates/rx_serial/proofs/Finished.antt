-- A draft whose path ends, and which has all of its valuation, is done.
use Rattle.std.proofs.Common.{◌≡◌, ◌↔◌, ℕ, ◌+◌, ◌*◌, ◌%◌, ◌≤◌, List, [], ◌∷◌, length, take, Some, IsSome, refl, sym, ap, ◌∙◌, subst, inl, inr, arith}
use Rattle.std.specs.Prelude.{pos, nat_abs}
use Rattle.std.specs.List.{AllByRecursion}
use Rattle.std.proofs.lemmas.Int.{ints}
use Rattle.rx_model.specs.Bits.{bit_at}
use Rattle.rx_types.specs.Domain.{Domain}
use Rattle.rx_types.specs.Environment.{Placed, IsAmong, end_of}
use Rattle.rx_graph.specs.declared.message.Node.TheVariants.{Start}
use Rattle.rx_graph.specs.Checks.{IsMultipleOf8, IsNumbered, number_of, covered}
use Rattle.rx_graph.specs.Fits.{Assigned, content_of, IsAscending, own_bits, length_of, ReadsAs}
use Rattle.rx_graph.specs.Graph.{Graph}
use Rattle.rx_graph.specs.Laws.{own_sizes}
use Rattle.rx_graph.proofs.Covered.{own_covered}
use Rattle.rx_graph.proofs.Distinct.{distinct}
use Rattle.rx_graph.proofs.Lengths.{once, differ, sums, sizes}
use Rattle.rx_draft.specs.Drafts.{Drafted, StandsForSound, IsOnPath, IsDraft, environment_of, end_node}
use Rattle.rx_draft.specs.Puts.{IsAtNull, IsDone, values_of}
use Rattle.rx_draft.specs.Seals.{IsOutside, KeepsRest}
use Rattle.rx_draft.proofs.Adding.{LiesBefore, lie}
use Rattle.rx_draft.proofs.Settled.{whole}
use Rattle.rx_draft.proofs.Whole.{Holds, contents_held, holds_at, reads_as}
use Rattle.rx_serial.specs.declared.fault.WriteFault.TheVariants.{Unused}
use Rattle.rx_serial.specs.Rooms.{KeepsBehind}
use Rattle.rx_serial.specs.Unfit.{IsUnused, IsUnfit}
use Rattle.rx_serial.proofs.Walking.{holds_all, is_given, unfit}

aligned : (n : ℕ) → IsMultipleOf8 (pos n) → n % 8 ≡ 0
aligned n h = let k = h.0 in let e = h.1 in omega (arith, ints)

module _ (domains : List Domain) (m : Graph) (d : Drafted) (s : StandsForSound domains m d.plan) (h : IsDraft d) (values : List Assigned) (gives : AllByRecursion (λ a. content_of a.field values ≡ Some a.content) (values_of domains m d)) (total : d.total ≡ length_of domains m values) (null : IsAtNull domains m (environment_of d)) where
  on : IsOnPath domains m (environment_of d)
  on = h.underway.on domains m s

  held : AllByRecursion (Holds domains m d.bytes d.total h.room values) d.fields
  held = holds_all domains m d.bytes d.total h.room values d.fields gives

  numbered : IsNumbered m (end_node d.fields) (number_of m.links (end_node d.fields) null.0) null.0 null.1.link
  numbered = record { is = null.1.is; source = null.1.source; number = refl }

  -- the valuation names fields that were put, and no others
  module _ (ascending : IsAscending values) (named : (f : ℕ) → IsSome (content_of f values) → IsAmong f d.fields) where
    -- the sizes of the valuation's fields add up to where the last one ends
    own_end : pos (own_bits domains m values) ≡ end_of d.fields
    own_end =
        let apart = differ domains m d.fields (distinct domains m d.total s.stands.elaborated.acyclic [] Start on.0 d.fields (end_node d.fields) on.1.leads) in
        let all : pos (own_bits domains m values) ≡ own_sizes m d.fields = sums domains m d.fields values (once values ascending) apart (λ g c e. named g (is_given (content_of g values) c e)) (contents_held d h domains m s values held) (sizes domains m d.total [] Start on.0 d.fields (end_node d.fields) on.1.leads) in
        let own : own_sizes m d.fields ≡ covered d.fields = own_covered domains m s.stands.elaborated s.holds d.total on.1.short [] [] Start refl refl on.0 d.fields (end_node d.fields) on.1.leads in
        let end : end_of d.fields ≡ covered d.fields = (s.holds.cover (end_node d.fields) (number_of m.links (end_node d.fields) null.0) d.total on.0 d.fields null.0 null.1.link on.1 numbered null.1.taken).1 null.1.target in
        all ∙ own ∙ sym end

    whole_bytes : own_bits domains m values % 8 ≡ 0
    whole_bytes =
        let eight = s.holds.whole (end_node d.fields) (number_of m.links (end_node d.fields) null.0) d.total on.0 d.fields null.0 null.1.link on.1 numbered null.1.taken null.1.target in
        aligned (own_bits domains m values) (subst IsMultipleOf8 (sym own_end) eight)

    pub is_done : IsDone domains m (environment_of d)
    is_done =
        let fits = whole_bytes in
        let bits : own_bits domains m values ≡ d.total * 8 = omega (arith, fits, total) in
        (null, sym own_end ∙ ap pos bits)

    is_named : (f : ℕ) → IsSome (content_of f values) ↔ IsAmong f d.fields
    is_named f = (named f, λ among. is_given (content_of f values) _ (holds_at domains m d.bytes d.total h.room values f d.fields held among))

    -- so it reads as the valuation
    pub reads_written : ReadsAs domains m (take d.total d.bytes) values
    reads_written = reads_as d h domains m s is_done values held is_named

  -- and where it has not all of its valuation, a field of it is unused
  pub unused : (f : ℕ) → IsUnused values d.fields f → ((g : ℕ) → IsUnused values d.fields g → f ≤ g) → IsUnfit domains m values (Unused f)
  unused f one least = unfit domains m values d h s gives total (Unused f) (null, one, least)

-- ---- what stays of the buffer

outside : (n i : ℕ) (p : Placed) → LiesBefore (pos (n * 8)) p → 8 * n ≤ i → IsOutside i p
outside n i p b behind =
    let f = whole p.first b.begins in
    let z = whole p.size b.long in
    let e : nat_abs p.first + nat_abs p.size ≤ n * 8 = let ends = b.ends in omega (arith, ints) in
    inr (omega (arith, e, behind))

all_outside : (n i : ℕ) (ps : List Placed) → AllByRecursion (LiesBefore (pos (n * 8))) ps → 8 * n ≤ i → AllByRecursion (IsOutside i) ps
all_outside n i [] h behind = tt
all_outside n i (p ∷ ps) h behind = (outside n i p h.0 behind, all_outside n i ps h.1 behind)

pub keeps_behind : (start : List ℕ) (d : Drafted) → IsDraft d → KeepsRest start d → KeepsBehind d.total start d.bytes
keeps_behind start d h k =
    let q = h.underway.plan in
    let o = h.underway.on q.0 q.1 q.2 in
    record {
      long = k.long;
      bits = λ i out. k.bits i (elim out [
        | inl before ↦ absurd (omega (arith, before))
        | inr behind ↦ all_outside d.total i d.fields (lie q.0 q.1 d.total [] Start o.0 d.fields (end_node d.fields) o.1.leads) (omega (arith, behind))
      ]);
    }

pub all_kept : (n : ℕ) (start bytes : List ℕ) → bytes ≡ start → KeepsBehind n start bytes
all_kept n start bytes same = record { long = ap length same; bits = λ i out. ap (λ b. bit_at b i) same }

pub begins : (start : List ℕ) (d : Drafted) → d.bytes ≡ start → KeepsRest start d
begins start d same = record { long = ap length same; bits = λ i out. ap (λ b. bit_at b i) same }
