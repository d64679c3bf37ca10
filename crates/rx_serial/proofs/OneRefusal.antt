-- A valuation that is unfit fits no path, and is unfit for one reason.
use Rattle.std.proofs.Common.{◌≡◌, ℕ, List, [], ◌∷◌, ◌++◌, inl, inr, refl, sym, ap, ◌∙◌, subst, append_assoc, append-nil}
use Rattle.std.specs.List.{AllByRecursion}
use Rattle.rx_types.specs.Domain.{Domain}
use Rattle.rx_types.specs.Environment.{Placed, in_message, IsAmong}
use Rattle.rx_graph.specs.declared.message.Node.{Node}
use Rattle.rx_graph.specs.declared.message.Node.TheVariants.{Start}
use Rattle.rx_graph.specs.Fits.{Assigned, by_valuation, Agrees, AllAgree, length_of, Fits, FitsSome}
use Rattle.rx_graph.specs.Graph.{Graph}
use Rattle.rx_graph.specs.Paths.{Leads, IsPartial, Ends, Exclusive}
use Rattle.rx_graph.proofs.OneFit.{read}
use Rattle.rx_graph.proofs.Unique.{comparable, ends_here}
use Rattle.rx_serial.specs.declared.fault.WriteFault.{WriteFault}
use Rattle.rx_serial.specs.Laws.{NoneFits, HasOneRefusal}
use Rattle.rx_serial.specs.Unfit.{IsUnfit}
use Rattle.rx_serial.proofs.Refusing.{IsTold, Given, all_at, told, goes_on, ends, one_told}

module _ (domains : List Domain) (m : Graph) (exclusive : Exclusive domains m) (values : List Assigned) where
  agree_at : (before xs : List Placed) (p : Placed) (more : List Placed) → AllAgree domains m values before (xs ++ p ∷ more) → Agrees domains m values (before ++ xs) p
  agree_at before [] p more h = subst (λ l. Agrees domains m values l p) (sym (append-nil before)) h.0
  agree_at before (x ∷ xs) p more h = subst (λ l. Agrees domains m values l p) (append_assoc before (x ∷ []) xs) (agree_at (before ++ x ∷ []) xs p more h.1)

  -- no path goes on where the walk is refused
  no_more :
      (total : ℕ) (path : List ℕ) (fields : List Placed) (at : Node) → IsPartial domains m total path fields at → (why : WriteFault) → IsTold domains m values (in_message total fields) at why → (rest : List ℕ) (more : List Placed) (end : Node) → Leads domains m total fields at rest more end
      → AllByRecursion (Given domains m values) (fields ++ more) → AllAgree domains m values [] (fields ++ more) → (more ≡ []) × (at ≡ end)
  no_more total path fields at part why t [] [] end h all agree = (refl, h)
  no_more total path fields at part why t [] (p ∷ more) end h all agree = absurd h
  no_more total path fields at part why t (i ∷ rest) [] end h all agree = absurd h
  no_more total path fields at part why t (i ∷ rest) (p ∷ more) end h all agree =
      absurd (goes_on domains m values exclusive total path fields at part i h.0 p h.1 h.2 h.3 (all_at (Given domains m values) fields p more all) (agree_at [] fields p more agree) why t)

  refused_end : (why : WriteFault) (u : IsUnfit domains m values why) (whole : List ℕ) (all : List Placed) (f : Fits domains m values (length_of domains m values) whole all) → u.fields ≡ all → u.at ≡ f.whole.node → ⊥
  refused_end why u whole all f fields at =
      let total = length_of domains m values in
      let end = subst (λ n. Ends domains m total u.fields n f.whole.last) (sym at) (subst (λ l. Ends domains m total l f.whole.node f.whole.last) (sym fields) f.whole.ends) in
      ends domains m values exclusive total u.path u.fields u.at u.walked.partial f.whole.last end (λ g s. subst (λ l. IsAmong g l) (sym fields) ((f.named g).0 s)) why (told domains m values (in_message total u.fields) u.at why u.refuses)

  fits_none : (why : WriteFault) → IsUnfit domains m values why → FitsSome domains m values (length_of domains m values) → ⊥
  fits_none why u fit =
      let total = length_of domains m values in
      let f = fit.2 in
      let short = u.walked.partial.short in
      elim (comparable domains m (by_valuation values) exclusive total short [] [] Start refl u.path u.fields u.at u.walked.partial.leads f.whole.front fit.1 f.whole.node f.whole.partial.leads (read domains m values u.fields u.walked.contents) (read domains m values fit.1 f.contents)) [
        | inl x ↦ (let none = no_more total u.path u.fields u.at u.walked.partial why (told domains m values (in_message total u.fields) u.at why u.refuses) x.rest x.more f.whole.node x.leads (subst (AllByRecursion (Given domains m values)) x.fields_are f.contents) (subst (λ l. AllAgree domains m values [] l) x.fields_are f.agree) in
            refused_end why u fit.0 fit.1 f (sym (x.fields_are ∙ ap (λ l. u.fields ++ l) none.0 ∙ append-nil u.fields)) none.1)
        | inr x ↦ (let done = ends_here domains m exclusive total short f.whole.front fit.1 f.whole.node f.whole.partial.leads f.whole.last f.whole.ends x.rest x.more u.at x.leads in
            refused_end why u fit.0 fit.1 f (x.fields_are ∙ ap (λ l. fit.1 ++ l) done.1 ∙ append-nil fit.1) (sym done.2))
      ]

  same_told : (why other : WriteFault) (u : IsUnfit domains m values why) (v : IsUnfit domains m values other) → u.fields ≡ v.fields → u.at ≡ v.at → why ≡ other
  same_told why other u v fields at =
      let total = length_of domains m values in
      let there = subst (λ l. IsTold domains m values (in_message total l) u.at other) (sym fields) (subst (λ n. IsTold domains m values (in_message total v.fields) n other) (sym at) (told domains m values (in_message total v.fields) v.at other v.refuses)) in
      one_told domains m values exclusive total u.path u.fields u.at u.walked.partial why other (told domains m values (in_message total u.fields) u.at why u.refuses) there

  one_reason : (why other : WriteFault) → IsUnfit domains m values why → IsUnfit domains m values other → why ≡ other
  one_reason why other u v =
      let total = length_of domains m values in
      elim (comparable domains m (by_valuation values) exclusive total u.walked.partial.short [] [] Start refl u.path u.fields u.at u.walked.partial.leads v.path v.fields v.at v.walked.partial.leads (read domains m values u.fields u.walked.contents) (read domains m values v.fields v.walked.contents)) [
        | inl x ↦ (let none = no_more total u.path u.fields u.at u.walked.partial why (told domains m values (in_message total u.fields) u.at why u.refuses) x.rest x.more v.at x.leads (subst (AllByRecursion (Given domains m values)) x.fields_are v.walked.contents) (subst (λ l. AllAgree domains m values [] l) x.fields_are v.walked.agree) in
            same_told why other u v (sym (x.fields_are ∙ ap (λ l. u.fields ++ l) none.0 ∙ append-nil u.fields)) none.1)
        | inr x ↦ (let none = no_more total v.path v.fields v.at v.walked.partial other (told domains m values (in_message total v.fields) v.at other v.refuses) x.rest x.more u.at x.leads (subst (AllByRecursion (Given domains m values)) x.fields_are u.walked.contents) (subst (λ l. AllAgree domains m values [] l) x.fields_are u.walked.agree) in
            same_told why other u v (x.fields_are ∙ ap (λ l. v.fields ++ l) none.0 ∙ append-nil v.fields) (sym none.1))
      ]

-- where no two links of a node are taken together
pub none_fits : (domains : List Domain) (m : Graph) → Exclusive domains m → NoneFits domains m
none_fits domains m exclusive values why u fit = fits_none domains m exclusive values why u fit

pub one_refusal : (domains : List Domain) (m : Graph) → Exclusive domains m → HasOneRefusal domains m
one_refusal domains m exclusive values why other u v = one_reason domains m exclusive values why other u v
