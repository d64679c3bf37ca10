-- What is known at each turn of the walk.
use Rattle.std.proofs.Common.{◌≡◌, ℕ, ◌*◌, ◌<◌, ◌≤◌, ◌^◌, List, [], ◌∷◌, ◌++◌, length, refl, sym, ap, ◌∙◌, subst}
use Rattle.std.specs.Prelude.{pos}
use Rattle.std.specs.List.{AllByRecursion}
use Rattle.rx_types.specs.declared.stuck.Stuck.{Stuck}
use Rattle.rx_types.specs.Domain.{Domain}
use Rattle.rx_types.specs.Environment.{Placed, in_message, end_of, bits_of, AreDistinct}
use Rattle.rx_types.specs.Narrow.{StaysWithin}
use Rattle.rx_graph.specs.declared.message.Node.{Node}
use Rattle.rx_graph.specs.declared.message.Node.TheVariants.{Start, At}
use Rattle.rx_graph.specs.Graph.{Arrow, Graph, limit_of}
use Rattle.rx_graph.specs.Cycles.{IsLink}
use Rattle.rx_graph.specs.Paths.{Places, Leads, IsPartial, Ends, IsReadBy}
use Rattle.rx_graph.specs.Stuck.{IsReason}
use Rattle.rx_graph.specs.Fits.{by_buffer}
use Rattle.rx_graph.proofs.Unique.{leads_on, one_path}
use Rattle.rx_graph.proofs.Distinct.{distinct}
use Rattle.rx_graph.proofs.Bounded.{stays_within, few_fields}
use Rattle.rx_graph.proofs.Stops.{stuck, none_fits}
use Rattle.rx_context.specs.Plan.{Planned, StandsFor, IsPlan, IsKnown}
use Rattle.rx_context.specs.Reading.{AreReadBy}
use Rattle.rx_context.specs.Contexts.{ReadsBy, ReadsNothingBy, StopsBy, IsOnlyReading}

all_append : (P : Placed → Type 0) (xs : List Placed) (y : Placed) → AllByRecursion P xs → P y → AllByRecursion P (xs ++ y ∷ [])
all_append P [] y h k = (k, tt)
all_append P (x ∷ xs) y h k = (h.0, all_append P xs y h.1 k)

-- the fields are those of a path to this node that the buffer has
pub record IsOnPath (domains : List Domain) (m : Graph) (bytes : List ℕ) (fields : List Placed) (at : Node) : Type 0 where
  pub path : List ℕ
  pub partial : IsPartial domains m (length bytes) path fields at
  pub reads : AllByRecursion (IsReadBy domains m (by_buffer m.low_order bytes)) fields

abbrev pub AreOnPath : Planned → List ℕ → List Placed → Node → Type 0
AreOnPath p bytes fields at = (domains : List Domain) (m : Graph) → StandsFor domains m p → IsOnPath domains m bytes fields at

pub begins : (p : Planned) (bytes : List ℕ) → length bytes < 2 ^ 24 → AreOnPath p bytes [] Start
begins p bytes short domains m s = record { path = []; partial = record { short = short; leads = refl }; reads = tt }

module _ (p : Planned) (bytes : List ℕ) (fields : List Placed) (at : Node) (on : AreOnPath p bytes fields at) where
  pub are_read : AreReadBy p bytes fields
  are_read domains m s = (on domains m s).reads

  pub known : (total : ℕ) → total ≡ length bytes → IsPlan p → IsKnown p (in_message total fields)
  known total same h =
      let o = on h.0 h.1 h.2 in
      (h.0, h.1, h.2, subst (λ n. StaysWithin (limit_of h.0 h.1) (in_message n fields)) (sym same) (stays_within h.0 h.1 h.2.elaborated (length bytes) o.path fields at o.partial))

  pub few : IsPlan p → length fields ≤ 128
  few h =
      let o = on h.0 h.1 h.2 in
      few_fields h.0 h.1 h.2.elaborated (length bytes) o.path fields at o.partial.leads

  pub distinct_fields : IsPlan p → AreDistinct fields
  distinct_fields h =
      let o = on h.0 h.1 h.2 in
      distinct h.0 h.1 (length bytes) h.2.elaborated.acyclic [] Start o.path fields at o.partial.leads

  -- one field more
  pub goes_on : (total : ℕ) → total ≡ length bytes → (f : Placed) → ((domains : List Domain) (m : Graph) → StandsFor domains m p → (i : ℕ) × (link : Arrow) × IsLink m i link × (link.source ≡ at) × Places domains m link (in_message total fields) f × IsReadBy domains m (by_buffer m.low_order bytes) f) → AreOnPath p bytes (fields ++ f ∷ []) (At f.field)
  goes_on total same f steps domains m s =
      let o = on domains m s in
      let t = steps domains m s in
      let place = subst (λ n. Places domains m t.1 (in_message n fields) f) same t.4 in
      let one_link : Leads domains m (length bytes) fields at (t.0 ∷ []) (f ∷ []) (At f.field) = (t.1, t.2, t.3, place, refl) in
      record {
        path = o.path ++ t.0 ∷ [];
        partial = record { short = o.partial.short; leads = leads_on domains m (length bytes) [] Start o.path fields at (t.0 ∷ []) (f ∷ []) (At f.field) o.partial.leads one_link };
        reads = all_append (IsReadBy domains m (by_buffer m.low_order bytes)) fields f o.reads t.5;
      }

  -- the message ends here
  pub reads_by : (total : ℕ) → total ≡ length bytes → ((domains : List Domain) (m : Graph) → StandsFor domains m p → ((i : ℕ) × Ends domains m total fields at i) × (end_of fields ≡ bits_of (in_message total fields))) → ReadsBy p bytes fields
  reads_by total same ends domains m s =
      let o = on domains m s in
      let e = ends domains m s in
      (o.path ++ e.0.0 ∷ [], record { front = o.path; last = e.0.0; node = at; is = refl; partial = o.partial; ends = subst (λ n. Ends domains m n fields at e.0.0) same e.0.1; exact = e.1 ∙ ap (λ n. pos (n * 8)) same }, o.reads)

  -- there is a reason to go no further
  pub stops_by : (total : ℕ) → total ≡ length bytes → (why : Stuck) → ((domains : List Domain) (m : Graph) → StandsFor domains m p → IsReason domains m (by_buffer m.low_order bytes) (in_message total fields) at why.reason why.field) → StopsBy p bytes why
  stops_by total same why reasons domains m s =
      let o = on domains m s in
      stuck domains m (by_buffer m.low_order bytes) s.exclusive (length bytes) o.path fields at o.partial o.reads why.reason why.field (subst (λ n. IsReason domains m (by_buffer m.low_order bytes) (in_message n fields) at why.reason why.field) same (reasons domains m s))

-- where the reading stops, no path fits
pub reads_nothing : (p : Planned) (bytes : List ℕ) (why : Stuck) → StopsBy p bytes why → ReadsNothingBy p bytes
reads_nothing p bytes why stops domains m s fields h =
    none_fits domains m (by_buffer m.low_order bytes) s.exclusive (length bytes) why.reason why.field (stops domains m s) h.0 fields h.1 h.2

-- and at most one path fits
pub only_reading : (p : Planned) (bytes : List ℕ) (fields : List Placed) → ReadsBy p bytes fields → IsOnlyReading p bytes fields
only_reading p bytes fields reads domains m other s h =
    let r = reads domains m s in
    (one_path domains m s.exclusive (by_buffer m.low_order bytes) (length bytes) h.0 r.0 other fields h.1 r.1 h.2 r.2).1
