-- The first item of a list that has some, item by item.
use Rattle.std.proofs.Common.{◌≡◌, ℕ, ◌+◌, ◌<◌, ◌≤◌, List, [], ◌∷◌, length, drop, get_or, refl, sym, ap, ◌∙◌, Option, None, Some, arith}
use Rattle.std.specs.Option.{option_or}
use Rattle.std.proofs.lemmas.List.{at_drop_more, at_drop_all}
use Rattle.rx_syntax.specs.declared.tree.PackageTree.{PackageTree}
use Rattle.rx_spec.specs.declared.fault.ElabFault.{ElabFault}
use Rattle.rx_spec.specs.declared.fault.ElabFault.TheVariants.{Refused, NoMemory}
use Rattle.rx_program.specs.Stage.{first_some, of_declarations, found_in, of_packages, IsUnserved, IsWithin}
use Rattle.rx_syntax.specs.declared.rule.Refusal.{Refusal}
use Rattle.rx_spec.specs.Elaboration.{Told}

-- the first i items have none
pub record NoneSofar {A B : Type 0} (f : A → Option B) (xs : List A) (i : ℕ) : Type 0 where
  pub rest : first_some f xs ≡ first_some f (drop i xs)

pub none_more : {A B : Type 0} {f : A → Option B} {xs : List A} {i : ℕ} (x : A) → NoneSofar f xs i → i < length xs → x ≡ get_or xs i x → f x ≡ None → NoneSofar f xs (i + 1)
none_more {f = f} {xs = xs} {i = i} x s within is empty =
    let p = at_drop_more (first_some f) xs i x within in
    record { rest = s.rest ∙ p ∙ rw (← is, empty) refl }

pub some_first : {A B : Type 0} {f : A → Option B} {xs : List A} {i : ℕ} (x : A) (y : B) → NoneSofar f xs i → i < length xs → x ≡ get_or xs i x → f x ≡ Some y → Some y ≡ first_some f xs
some_first {f = f} {xs = xs} {i = i} x y s within is has =
    let p = at_drop_more (first_some f) xs i x within in
    sym (s.rest ∙ p ∙ rw (← is, has) refl)

pub none_all : {A B : Type 0} {f : A → Option B} {xs : List A} {i : ℕ} → NoneSofar f xs i → length xs ≤ i → None ≡ first_some f xs
none_all {f = f} {xs = xs} {i = i} s past = sym (s.rest ∙ at_drop_all (first_some f) xs i past)

-- ---- packages, which are numbered

pub record NoForms (ps : List PackageTree) (i : ℕ) : Type 0 where
  pub rest : of_packages 0 ps ≡ of_packages i (drop i ps)

pub no_forms_more : {ps : List PackageTree} {i : ℕ} (p : PackageTree) → NoForms ps i → i < length ps → p ≡ get_or ps i p → of_declarations p.decls.items ≡ None → NoForms ps (i + 1)
no_forms_more {ps = ps} {i = i} p s within is empty =
    let on = at_drop_more (of_packages i) ps i p within in
    record { rest = s.rest ∙ on ∙ rw (← is, empty) refl }

pub form_first : {ps : List PackageTree} {i : ℕ} (p : PackageTree) (u : Refusal) → NoForms ps i → i < length ps → p ≡ get_or ps i p → of_declarations p.decls.items ≡ Some u
    → Some (record { «package» = i; refusal = u }) ≡ of_packages 0 ps
form_first {ps = ps} {i = i} p u s within is has =
    let on = at_drop_more (of_packages i) ps i p within in
    sym (s.rest ∙ on ∙ rw (← is, has) refl)

pub no_forms_all : {ps : List PackageTree} {i : ℕ} → NoForms ps i → length ps ≤ i → None ≡ of_packages 0 ps
no_forms_all {ps = ps} {i = i} s past = sym (s.rest ∙ at_drop_all (of_packages i) ps i past)

-- the package that is told is one of these
pub found_within : (i : ℕ) (ps : List PackageTree) (found : Told) → of_packages i ps ≡ Some found → found.«package» < i + length ps
found_within i [] found is = absurd (let no : None ≡ Some found = is in cc)
found_within i (p ∷ ps) found is = by_first (of_declarations p.decls.items) (λ rest. found_within (i + 1) ps found rest) is
  where
    by_first : (o : Option Refusal) → (of_packages (i + 1) ps ≡ Some found → found.«package» < i + 1 + length ps) → option_or (found_in i o) (of_packages (i + 1) ps) ≡ Some found → found.«package» < i + length (p ∷ ps)
    by_first None rest is = (let below = rest is in omega arith)
    by_first (Some u) rest is =
        let same : found ≡ record { «package» = i; refusal = u } = cc in
        let here : found.«package» ≡ i = ap (λ (f : Told). f.«package») same in
        omega arith

pub unserved_within : (ps : List PackageTree) (e : ElabFault) → IsUnserved ps e → IsWithin (length ps) e
unserved_within ps (Refused i r) is = (let within = found_within 0 ps (record { «package» = i; refusal = r }) is in omega arith)
unserved_within ps NoMemory is = tt
